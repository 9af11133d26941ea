use Rattle.std.proofs.Common.{◌≡◌, ◌≤◌, take, drop}
use Rattle.std.specs.Prelude.{map, IsOk, IsErr}
use Rattle.disk_trait.specs.Past.{Told, SameDisks}
use Rattle.sector_address.specs.View.{slot_view}
use Rattle.sector_address.specs.Machine.{machine_of}
use Rattle.bios_model.specs.Machine.{slots_bytes_at, first_places}
use Rattle.bios_model.proofs.Reading.{behind}
use Rattle.bios_model.proofs.bios.read_slots.Given as goal

-- what the slots name is what is read so far, and what the slots that are left name
abbrev pub invariant-loop-place : goal.invariant-loop-place
invariant-loop-place g l =
    let disks = g.D.Disks in
    let machine = machine_of disks l.fn.disks in
    record {
      sectors : Told (disks.past l.fn.disks) (λ now. slots_bytes_at now machine (map slot_view l.slots) ≡ behind (take l.place l.into) (slots_bytes_at now machine (map slot_view (drop l.place l.slots))));
      found : IsOk (first_places machine (drop l.place l.slots)) → IsOk (first_places machine l.slots);
      lost : IsErr (first_places machine (drop l.place l.slots)) → IsErr (first_places machine l.slots);
      same : SameDisks disks.past disks.size_of disks.count_of disks.geometry_of l.fn.disks l.disks;
      later : disks.faults l.fn.disks ≤ disks.faults l.disks;
    }
