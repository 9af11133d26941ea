-- The entries are few.
use Rattle.std.proofs.Common.{map, ap, ◌∙◌}
use Rattle.std.specs.Prelude.{slice_index_or}
use Rattle.lilo_model.specs.Plan.{sectors_of_table}
use Rattle.slot_lists.specs.Made.{place_view}
use Rattle.map_sectors.proofs.TableLemmas.{few-entries}
use Rattle.map_sectors.proofs.map.MapPlan.write_table.Goals as goal

pub returns : goal.returns
returns c machine fits on =
    let entries = c.table.ensures.entries machine fits on in
    c.write_sector.ensures (few-entries machine c.args.self.now (map place_view c.args.places.now) c.table.result.entries.items fits entries)
    ∙ ap (λ entries. slice_index_or (sectors_of_table entries) c.args.index c.args.into.now) entries
