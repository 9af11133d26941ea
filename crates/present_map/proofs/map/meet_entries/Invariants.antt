-- Once the sectors of the entries from here on are met, those of all are.
use Rattle.std.proofs.Common.{◌≤◌, map, drop}
use Rattle.std.specs.Prelude.{flat_map}
use Rattle.disk_trait.specs.Past.{Told, SameDisks}
use Rattle.lilo_model.specs.Mapped.{entry_places}
use Rattle.sector_address.specs.Machine.{machine_of}
use Rattle.boot_map.specs.View.{descriptor_view}
use Rattle.present_map.specs.Zones.{Met, Meets}
use Rattle.present_map.proofs.map.meet_entries.Given as goal

abbrev pub invariant-loop-entry : goal.invariant-loop-entry
invariant-loop-entry g l =
    let disks = g.D.Disks in
    let machine = machine_of disks l.fn.disks in
    record {
      met : Told (disks.past l.fn.disks) (λ now. (end : Met)
          → Meets l.met end (flat_map (entry_places now machine) (map descriptor_view (drop l.entry-index l.entries)))
          → Meets l.fn.met end (flat_map (entry_places now machine) (map descriptor_view l.entries)));
      same : SameDisks disks.past disks.size_of disks.count_of disks.geometry_of l.fn.disks l.disks;
      later : disks.faults l.fn.disks ≤ disks.faults l.disks;
    }
