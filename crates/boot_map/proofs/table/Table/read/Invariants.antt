use Rattle.std.proofs.Common.{◌≡◌, length, map}
use Rattle.std.specs.Prelude.{All, None}
use Rattle.lilo_model.specs.Table.{first_below, breaks, descriptors_of}
use Rattle.boot_map.specs.View.{descriptor_view}
use Rattle.boot_map.specs.Ranges.{IsNamed, HasSectors, FitsFlags}
use Rattle.boot_map.proofs.table.Table.read.Given as goal

-- no entry so far breaks the format, and these are their descriptors
abbrev pub invariant-loop-entry : goal.invariant-loop-entry
invariant-loop-entry l = record {
  none : first_below (breaks l.sectors) l.entry ≡ None;
  descriptors : map descriptor_view l.entries.items ≡ descriptors_of l.sectors l.entry;
  count : length l.entries.items ≡ l.entry;
  names : All IsNamed l.entries.items;
  sectors : All HasSectors l.entries.items;
  flags : All FitsFlags l.entries.items;
}
