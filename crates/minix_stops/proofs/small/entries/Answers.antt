use Rattle.std.proofs.Common.{rules}
use Rattle.minix_layout.specs.View.{kind_view}
use Rattle.minix_stops.proofs.SmallLemmas.{entries_made}
use Rattle.minix_stops.proofs.small.entries.Goals as goal

pub returns : goal.returns
returns c =
    entries_made (kind_view c.args.kind) c.from-size.result _ _ _ _ (search rules)
    c.put_u16.ensures c.put_name.ensures c.put_u16-2.ensures c.put_name-2.ensures
