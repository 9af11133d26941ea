-- What a walk over an inode's zones meets, for the file that holds a map.
use Rattle.std.specs.Prelude.{◌≡◌, ℕ, ◌==◌, ◌||◌, ◌-◌, ◌/◌, Bool, false, List, Option, None, Some, Result, Ok, Err, if◌then◌else◌}
use Rattle.std.specs.List.{list_any}
use Rattle.lilo_model.specs.Disks.{DiskSector}
use Rattle.lilo_model.specs.MinixParts as parts
use Rattle.lilo_model.specs.MinixWalk as walks
use Rattle.lilo_model.specs.Slots.{AddressFault}
use Rattle.minix_zones.specs.declared.visit.Visit.{Visit}
use Rattle.install_laws.specs.InstallVerdict.{is_of_volume, is_visited}

-- a zone is met
abbrev pub meets_zone : ℕ → List (Result walks.Visit parts.ZoneFault) → Bool
meets_zone zone walked = list_any (is_visited zone) walked

-- the next zone that is met, or none is any more
abbrev pub Seeks : Option Visit → List (Result walks.Visit parts.ZoneFault) → List (Result walks.Visit parts.ZoneFault) → Type 0
Seeks None before after = (zone : ℕ) → meets_zone zone before ≡ false
Seeks (Some visit) before after = (zone : ℕ) → meets_zone zone before ≡ ((visit.zone == zone) || meets_zone zone after)

-- the zone of a volume in which a place lies
abbrev pub zone_of_place : parts.Volume → Result DiskSector AddressFault → Option ℕ
zone_of_place volume (Ok place) = if is_of_volume volume place then Some ((place.sector - volume.span.start) / 2) else None
zone_of_place volume (Err fault) = None
