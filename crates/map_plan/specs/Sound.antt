-- Facts on what the disks of a volume hold, where they report their past.
use Rattle.disk_trait.specs.declared.disks.Disks.{Ghosts}
use Rattle.disk_trait.specs.Past.{Told}
use Rattle.sector_address.specs.Machine.{machine_with}
use Rattle.lilo_model.specs.Disks.{Image, Machine}
use Rattle.lilo_model.specs.MinixNames.{IsSound}
use Rattle.minix_zones.specs.declared.volume.Volume.{Volume}
use Rattle.minix_zones.specs.Volume.{volume_view, past_of, sizes_of, geometries_of}

-- the machine of the disks that a volume holds
abbrev pub machine_for : {D : Type 0} {disks : Ghosts D} → Volume D disks → Machine
machine_for volume = machine_with (sizes_of volume) (geometries_of volume)

-- a fact on what they hold and on their machine
abbrev pub OnVolume : {D : Type 0} {disks : Ghosts D} → Volume D disks → (Image → Machine → Type 0) → Type 0
OnVolume volume P = Told (past_of volume) (λ now. P now (machine_for volume))

-- the same, where the volume is sound
abbrev pub OnSound : {D : Type 0} {disks : Ghosts D} → Volume D disks → (Image → Machine → Type 0) → Type 0
OnSound volume P = Told (past_of volume) (λ now. IsSound (volume_view volume) now → P now (machine_for volume))
