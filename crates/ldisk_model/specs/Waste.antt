-- Waste: what is marked on a Minix volume without a use, as a stopped command leaves it, and what freeing it leaves (the
-- bitmaps: Minix file system; what counts as waste is this project's own). Reserved bits and those past the last zone or
-- inode are no waste.
use Rattle.std.specs.Prelude.{◌≡◌, ◌<◌, ◌≤◌, ◌⊎◌, ◌↔◌, ℕ, ◌-◌, ◌*◌, ◌==◌, nat_le, nat_lt, Bool, true, false, not, ◌&&◌, ◌||◌}
use Rattle.std.specs.Prelude.{List, length, filter, is_none}
use Rattle.std.specs.List.{range_with_len}
use Rattle.lilo_model.specs.Disks.{Image}
use Rattle.lilo_model.specs.MinixLayout.{Super}
use Rattle.lilo_model.specs.MinixNames.{Named, Refers, names_in, IsSound}
use Rattle.lilo_model.specs.MinixParts.{Parts, Pointer, Volume, parts_of, zone_bit}
use Rattle.lilo_model.specs.MinixSurvey.{Met, owner, names_of}

-- ---- by what has a name

-- a data zone is marked, and no named inode refers to it
pub record IsWasteZone (super : Super) (parts : Parts) (zone : ℕ) : Type 0 where
  pub from : super.first ≤ zone
  pub below : zone < super.zones
  pub marked : parts.has_zone zone ≡ true
  pub unused : (number : ℕ) (at : Pointer) → Refers super parts number at zone → ⊥

-- an inode is marked, and is neither the root nor has a name
pub record IsWasteInode (super : Super) (parts : Parts) (number : ℕ) : Type 0 where
  pub some : 1 ≤ number
  pub there : number ≤ super.inodes
  pub marked : parts.has_inode number ≡ true
  pub unnamed : Named super parts number → ⊥

-- ---- by what a survey met

-- an inode is the root, or has a name; no entry needs to lead to the root
abbrev pub is_met : List Met → ℕ → Bool
is_met met number = (number == 1) || not (names_of met number == 0)

abbrev pub is_waste_zone : Super → Parts → List Met → ℕ → Bool
is_waste_zone super parts met zone = nat_le super.first zone && nat_lt zone super.zones && parts.has_zone zone && is_none (owner met zone)

abbrev pub is_waste_inode : Super → Parts → List Met → ℕ → Bool
is_waste_inode super parts met number = nat_le 1 number && nat_le number super.inodes && parts.has_inode number && not (is_met met number)

-- the zones that are waste, in rising order
unfoldable pub waste_zones : Super → Parts → List Met → List ℕ
waste_zones super parts met = filter (is_waste_zone super parts met) (range_with_len super.first (super.zones - super.first))

-- the inodes that are
unfoldable pub waste_inodes : Super → Parts → List Met → List ℕ
waste_inodes super parts met = filter (is_waste_inode super parts met) (range_with_len 1 super.inodes)

-- both say the same
pub record AreWaste (super : Super) (parts : Parts) (met : List Met) : Type 0 where
  pub zones : (zone : ℕ) → (is_waste_zone super parts met zone ≡ true) ↔ IsWasteZone super parts zone
  pub inodes : (number : ℕ) → (is_waste_inode super parts met number ≡ true) ↔ IsWasteInode super parts number

-- ---- an image in which it is freed

-- the zone bitmap has a bit for a number, be it of a data zone, of none below them or of none past them
abbrev pub HasZoneBit : Super → ℕ → Type 0
HasZoneBit super zone = zone_bit super zone < 8192 * super.zmap

-- so has the inode bitmap
abbrev pub HasInodeBit : Super → ℕ → Type 0
HasInodeBit super number = number < 8192 * super.imap

-- a bit is as it was, or is clear now and was that of waste
abbrev pub IsKeptOrFreed : Bool → Bool → Type 0 → Type 0
IsKeptOrFreed old new Waste = (new ≡ old) ⊎ ((new ≡ false) × Waste)

-- a volume is sound in an image, with the Names that it has in another, and there each bit is as here, or clear where it
-- is that of waste
pub record IsReclaiming (volume : Volume) (old image : Image) : Type 0 where
  pub sound : IsSound volume image
  pub same : (path : List (List ℕ)) → names_in volume image path ≡ names_in volume old path
  pub zones : (zone : ℕ) → HasZoneBit volume.layout zone
      → IsKeptOrFreed ((parts_of volume old).has_zone zone) ((parts_of volume image).has_zone zone)
      (IsWasteZone volume.layout (parts_of volume old) zone)
  pub inodes : (number : ℕ) → HasInodeBit volume.layout number
      → IsKeptOrFreed ((parts_of volume old).has_inode number) ((parts_of volume image).has_inode number)
      (IsWasteInode volume.layout (parts_of volume old) number)

-- so it is, and all waste is freed
pub record IsReclaimed (volume : Volume) (old image : Image) : Type 0 where
  pub is : IsReclaiming volume old image
  pub no_zone : (zone : ℕ) → IsWasteZone volume.layout (parts_of volume old) zone → (parts_of volume image).has_zone zone ≡ false
  pub no_inode : (number : ℕ) → IsWasteInode volume.layout (parts_of volume old) number → (parts_of volume image).has_inode number ≡ false

-- ---- how much is freed

-- how many zones and inodes are freed
pub record Freed : Type 0 where
  pub zones : ℕ
  pub inodes : ℕ

abbrev pub freed_by : Super → Parts → List Met → Freed
freed_by super parts met = record { zones = length (waste_zones super parts met); inodes = length (waste_inodes super parts met) }
