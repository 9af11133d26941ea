-- What a turn of a part of a zone leaves.
use Rattle.std.specs.Prelude.{◌≡◌, ◌⊎◌, ◌+◌, ◌*◌, ◌/◌, ◌%◌, ℕ, List, ◌++◌, Result}
use Rattle.disk_trait.specs.declared.disks.Disks.{Ghosts}
use Rattle.disk_trait.specs.Past.{Image}
use Rattle.disk_trait.specs.Moments.{now}
use Rattle.lilo_model.specs.Bytes.{part_of, with_part, bytes16, filled_bytes}
use Rattle.lilo_model.specs.MinixLayout.{entry_size, zone_sector}
use Rattle.lilo_model.specs.MinixParts.{sector_of}
use Rattle.minix_change_laws.specs.Written.{entry_bytes}
use Rattle.minix_layout.specs.View.{kind_view}
use Rattle.minix_zones.specs.Volume.{volume_view, past_of}
use Rattle.minix_zones.specs.declared.volume.Volume.{Volume}
use Rattle.minix_turns.specs.Turns.{Turns}
use Rattle.minix_change_laws.specs.Part.{HasZonePart, number_bytes, offset_of_number, free_bytes}

-- the bytes of the sector with a part of a zone now, with others in place of that part
abbrev pub part_rewritten : {D : Type 0} {disks : Ghosts D} → Volume D disks → ℕ → ℕ → List ℕ → List ℕ
part_rewritten volume zone offset bytes =
    with_part (sector_of (volume_view volume) (now (past_of volume)) (zone_sector zone + offset / 512)) (offset % 512) bytes

-- a call wrote these bytes into a part of a zone, and flushed
abbrev pub TurnsPart : {D E : Type 0} {disks : Ghosts D} → Volume D disks → Volume D disks → ℕ → ℕ → List ℕ → E → Result (Unit {0}) E → Type 0
TurnsPart old new zone offset bytes error result =
    Turns old new (zone_sector zone + offset / 512) (part_rewritten old zone offset bytes) error result

-- the same of a number in an indirect zone
abbrev pub TurnsNumber : {D E : Type 0} {disks : Ghosts D} → Volume D disks → Volume D disks → ℕ → ℕ → ℕ → E → Result (Unit {0}) E → Type 0
TurnsNumber old new zone index number error result =
    TurnsPart old new zone (offset_of_number (kind_view old.layout.kind) index) (number_bytes (kind_view old.layout.kind) number) error result

-- and of an entry of a block
abbrev pub TurnsEntry : {D E : Type 0} {disks : Ghosts D} → Volume D disks → Volume D disks → ℕ → ℕ → List ℕ → E → Result (Unit {0}) E → Type 0
TurnsEntry old new zone index bytes error result =
    TurnsPart old new zone (entry_size (kind_view old.layout.kind) * index) bytes error result

-- one with an inode and a name, or a free one
abbrev pub TurnsNamedEntry : {D E : Type 0} {disks : Ghosts D} → Volume D disks → Volume D disks → ℕ → ℕ → ℕ → List ℕ → E → Result (Unit {0}) E → Type 0
TurnsNamedEntry old new zone index number name error result =
    TurnsEntry old new zone index (entry_bytes (kind_view old.layout.kind) number name) error result

abbrev pub TurnsFreeEntry : {D E : Type 0} {disks : Ghosts D} → Volume D disks → Volume D disks → ℕ → ℕ → E → Result (Unit {0}) E → Type 0
TurnsFreeEntry old new zone index error result = TurnsEntry old new zone index (free_bytes (kind_view old.layout.kind)) error result

-- an image has other bytes in a part of a zone, and all others of the volume as it is now
abbrev pub HasPart : {D : Type 0} {disks : Ghosts D} → Volume D disks → Image → ℕ → ℕ → List ℕ → Type 0
HasPart volume image zone offset bytes = HasZonePart (volume_view volume) (now (past_of volume)) image zone offset bytes

-- it is as it is now, or has them
abbrev pub WithOrWithoutPart : {D : Type 0} {disks : Ghosts D} → Volume D disks → ℕ → ℕ → List ℕ → Image → Type 0
WithOrWithoutPart volume zone offset bytes c = (c ≡ now (past_of volume)) ⊎ HasPart volume c zone offset bytes

-- an image has a number in an indirect zone, and all other bytes of the volume as it is now
abbrev pub HasNumberPart : {D : Type 0} {disks : Ghosts D} → Volume D disks → Image → ℕ → ℕ → ℕ → Type 0
HasNumberPart volume image zone index number =
    HasPart volume image zone (offset_of_number (kind_view volume.layout.kind) index) (number_bytes (kind_view volume.layout.kind) number)

-- it is as it is now, or has it
abbrev pub WithOrWithoutNumber : {D : Type 0} {disks : Ghosts D} → Volume D disks → ℕ → ℕ → ℕ → Image → Type 0
WithOrWithoutNumber volume zone index number c = (c ≡ now (past_of volume)) ⊎ HasNumberPart volume c zone index number

-- an image has other bytes of an entry of a block, and all others of the volume as it is now
abbrev pub HasEntryPart : {D : Type 0} {disks : Ghosts D} → Volume D disks → Image → ℕ → ℕ → List ℕ → Type 0
HasEntryPart volume image zone index bytes = HasPart volume image zone (entry_size (kind_view volume.layout.kind) * index) bytes

-- it is as it is now, or has them
abbrev pub WithOrWithoutEntry : {D : Type 0} {disks : Ghosts D} → Volume D disks → ℕ → ℕ → List ℕ → Image → Type 0
WithOrWithoutEntry volume zone index bytes c = (c ≡ now (past_of volume)) ⊎ HasEntryPart volume c zone index bytes

-- a sector begins with an entry whose name has so many bytes at most
abbrev pub IsEntry : List ℕ → ℕ → ℕ → List ℕ → Type 0
IsEntry sector number len name = part_of sector 0 (len + 2) ≡ bytes16 number ++ filled_bytes len name
