-- What was read of the present map.
use Rattle.std.proofs.Common.{◌≡◌, Bool, []}
use Rattle.lilo_model.specs.Disks.{Image, Machine, Span}
use Rattle.lilo_model.specs.Mapped.{mapped_sectors}
use Rattle.lilo_model.specs.MinixParts.{Volume}
use Rattle.lilo_model.specs.Settled.{is_foreign}
use Rattle.minix_steps.specs.Numbers.{has_number}
use Rattle.present_map.specs.Zones.{Met, Meets}
use Rattle.present_map.specs.Old.{IsOldMap}

-- all sectors that a boot may look at were met, and none before
pub is_old_map :
    (volume : Volume) (image : Image) (machine : Machine) (span : Span) (start new : Met) (foreign : Bool)
    → start ≡ record { volume = volume; zones = [] } → Meets start new (mapped_sectors image machine span)
    → foreign ≡ is_foreign (image span.disk span.start)
    → IsOldMap volume image machine span (record { foreign = foreign; met = new })
unfolding has_number
is_old_map volume image machine span start new foreign begun meets is =
    let none = rw begun at meets in
    record { foreign = is; same_volume = none.volume; zones = none.zones }
