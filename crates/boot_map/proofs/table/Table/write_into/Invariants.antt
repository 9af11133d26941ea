use Rattle.std.proofs.Common.{◌≡◌, ◌*◌, ℕ, List, length, map, take}
use Rattle.std.specs.Prelude.{flat_map}
use Rattle.lilo_model.specs.Table.{descriptor_bytes}
use Rattle.boot_map.specs.View.{descriptor_view}
use Rattle.boot_map.proofs.TableWritten.{ThreeSectors}
use Rattle.boot_map.proofs.table.Table.write_into.Given as goal

-- the entries so far are written, and zeros after them
abbrev pub invariant-loop-index : goal.invariant-loop-index
invariant-loop-index l = record {
  sectors : ThreeSectors l.sectors (flat_map descriptor_bytes (map descriptor_view (take l.index l.self.entries.items)));
  long : length (flat_map descriptor_bytes (map descriptor_view (take l.index l.self.entries.items))) ≡ 64 * l.index;
}
