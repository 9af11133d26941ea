use Rattle.std.proofs.Common.{◌≡◌, ◌≤◌, ◌*◌, ◌++◌, length, drop}
use Rattle.std.specs.Prelude.{map}
use Rattle.lilo_model.specs.Verdict.{lines_from}
use Rattle.boot_map.specs.View.{descriptor_view}
use Rattle.lilo_run.proofs.query.listing.Given as goal

-- the lines so far and those of the entries that are left are all of them
abbrev pub invariant-loop-place : goal.invariant-loop-place
invariant-loop-place l = record {
  lines : l.text.items ++ lines_from l.default_entry l.place (map descriptor_view (drop l.place l.table.entries.items)) ≡ lines_from l.default_entry 0 (map descriptor_view l.table.entries.items);
  short : length l.text.items ≤ 18 * l.place;
}
