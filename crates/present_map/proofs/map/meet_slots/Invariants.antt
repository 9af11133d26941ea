-- Once the sectors of the slots from here on are met, those of all are; and all are there where these are.
use Rattle.std.proofs.Common.{List, map, drop, Result}
use Rattle.std.specs.Prelude.{IsOk, IsErr}
use Rattle.lilo_model.specs.Checks.{each}
use Rattle.lilo_model.specs.Disks.{DiskSector}
use Rattle.lilo_model.specs.Slots as slots
use Rattle.lilo_model.specs.Slots.{place_at}
use Rattle.lilo_model.specs.Mapped.{found_places}
use Rattle.sector_address.specs.Machine.{machine_of}
use Rattle.sector_address.specs.View.{slot_view}
use Rattle.present_map.specs.Zones.{Met, Meets}
use Rattle.present_map.proofs.map.meet_slots.Given as goal

abbrev pub invariant-loop-slot : goal.invariant-loop-slot
invariant-loop-slot g l =
    let machine = machine_of g.D.Disks l.disks in
    let all : List (Result DiskSector slots.AddressFault) = map (λ slot. place_at machine slot 0) (map slot_view l.slots) in
    let rest : List (Result DiskSector slots.AddressFault) = map (λ slot. place_at machine slot 0) (map slot_view (drop l.slot-index l.slots)) in
    record {
      met : (end : Met) → Meets l.met end (found_places rest) → Meets l.fn.met end (found_places all);
      there : IsOk (each rest) → IsOk (each all);
      lost : IsErr (each rest) → IsErr (each all);
    }
