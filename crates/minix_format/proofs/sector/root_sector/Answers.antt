use Rattle.std.proofs.Common.{◌∙◌}
use Rattle.minix_layout.specs.View.{kind_view}
use Rattle.minix_format.proofs.SectorLemmas.{entries_put}
use Rattle.minix_format.proofs.sector.root_sector.Goals as goal

pub returns : goal.returns
returns c =
    entries_put (kind_view c.args.kind) c.from-size.result _ _ _ _ (c.from-size.ensures ∙ c.entry_size.ensures)
    c.put_u16.ensures c.put_name.ensures c.put_u16-2.ensures c.put_name-2.ensures
