-- Which plain value of the model each value of this crate stands for, and when an answer is the model's.
use Rattle.std.specs.Prelude.{◌≡◌, ◌⊎◌, ◌≤◌, ◌<◌, ℕ, Result, Ok, Err}
use Rattle.lilo_model.specs.Faults.{Rose}
use Rattle.disk_trait.specs.declared.disks.Span.{Span}
use Rattle.minix_layout.specs.declared.superblock.Super.{Super}
use Rattle.minix_layout.specs.View.{layout_fault_view}
use Rattle.lilo_model.specs.Disks as disks
use Rattle.lilo_model.specs.MinixParts as model
use Rattle.minix_zones.specs.declared.zone.ZoneAt.{ZoneAt}
use Rattle.minix_zones.specs.declared.zone.ZoneAt.TheVariants.{Hole, Zone}
use Rattle.minix_zones.specs.declared.zone_fault.ZoneFault.{ZoneFault}
use Rattle.minix_zones.specs.declared.zone_fault.ZoneFault.TheVariants as faults

-- the sectors of a disk or of a partition
abbrev pub span_view : Span → disks.Span
span_view span = record { disk = span.disk; start = span.start; count = span.count }

-- The cause of a refusal that isn't a superblock's: where the disk failed, the count of faults rose.
abbrev pub HasZoneCause : ℕ → ℕ → ZoneFault → Type 0
HasZoneCause before now (faults.Layout fault) = ⊥
HasZoneCause before now (faults.ZoneOutside zone) = Unit {0}
HasZoneCause before now faults.Device = Rose before now

-- a reader was refused as the model refuses, or the disk failed
abbrev pub Refuses : {B : Type 0} → ZoneFault → Result B model.ZoneFault → Type 0
Refuses (faults.Layout fault) found = found ≡ Err (model.Layout (layout_fault_view fault))
Refuses (faults.ZoneOutside zone) found = found ≡ Err (model.ZoneOutside zone)
Refuses faults.Device found = Unit {0}

-- What a reader answered, seen by view, is what the model gives, unless the disk failed.
abbrev pub Gives : {A B : Type 0} → (A → B) → Result A ZoneFault → Result B model.ZoneFault → Type 0
Gives view (Ok value) found = found ≡ Ok (view value)
Gives view (Err fault) found = Refuses fault found

-- what is at an index as the number of a zone, 0 for a hole
abbrev pub zone_number : ZoneAt → ℕ
zone_number Hole = 0
zone_number (Zone zone) = zone

-- the number of a data zone
pub record IsDataZone (layout : Super) (zone : ℕ) : Type 0 where
  pub some : 0 < zone
  pub from : layout.first ≤ zone
  pub below : zone < layout.zones

-- a number that may be followed: 0, or that of a data zone
abbrev pub IsInside : Super → ℕ → Type 0
IsInside layout zone = (zone ≡ 0) ⊎ IsDataZone layout zone

-- what is at an index is a hole or a data zone
abbrev pub IsZoneAt : Super → ZoneAt → Type 0
IsZoneAt layout Hole = Unit {0}
IsZoneAt layout (Zone zone) = IsDataZone layout zone
