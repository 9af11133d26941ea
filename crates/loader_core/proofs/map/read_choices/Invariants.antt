-- The sectors so far were read, and the list stands for their entries.
use Rattle.std.proofs.Common.{◌≤◌, length, drop, map}
use Rattle.disk_trait.specs.Past.{Told, SameDisks}
use Rattle.lilo_model.specs.Checks.{each}
use Rattle.sector_address.specs.Machine.{machine_of}
use Rattle.boot_map.specs.View.{descriptor_view}
use Rattle.loader_core.specs.Map.{password_sector}
use Rattle.loader_core.proofs.MapLemmas.{IsSoFar}
use Rattle.loader_core.proofs.map.read_choices.Given as goal

abbrev pub invariant-loop-entry : goal.invariant-loop-entry
invariant-loop-entry g l =
    let disks = g.D.Disks in
    let machine = machine_of disks l.fn.disks in
    record {
      choices : Told (disks.past l.fn.disks) (λ now. IsSoFar l.choices.are_good l.choices.list.items
          (map descriptor_view l.entries) (map descriptor_view (drop l.entry-index l.entries))
          (each (map (password_sector now machine) (map descriptor_view l.entries))) (each (map (password_sector now machine) (map descriptor_view (drop l.entry-index l.entries)))));
      few : length l.choices.list.items ≤ l.entry-index;
      same : SameDisks disks.past disks.size_of disks.count_of disks.geometry_of l.fn.disks l.disks;
      later : disks.faults l.fn.disks ≤ disks.faults l.disks;
    }
