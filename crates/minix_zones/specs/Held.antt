-- The zones that are held on the way to a block, and what they stand for.
use Rattle.std.specs.Prelude.{◌≡◌, ◌⊎◌, ◌≤◌, ◌<◌, ◌+◌, ℕ, true, All, List, Result, Ok, Err}
use Rattle.disk_trait.specs.Past.{Told}
use Rattle.disk_trait.specs.declared.disks.Disks.{Ghosts}
use Rattle.lilo_model.specs.MinixLayout.{Kind, Super, Inode, numbers_in_zone}
use Rattle.lilo_model.specs.MinixParts.{Parts, parts_of, number_below}
use Rattle.lilo_model.specs.MinixWalk.{begins, stop_number}
use Rattle.minix_zones.specs.View.{Refuses}
use Rattle.minix_zones.specs.Volume.{volume_view, past_of}
use Rattle.minix_zones.specs.declared.volume.Volume.{Volume}
use Rattle.minix_zones.specs.declared.held.HeldZone.{HeldZone}
use Rattle.minix_zones.specs.declared.held.HeldZones.{HeldZones}
use Rattle.minix_zones.specs.declared.zone_fault.ZoneFault.{ZoneFault}

-- the bytes of a zone are held, or none is
abbrev pub HoldsZone : Parts → HeldZone → Type 0
HoldsZone parts held = (held.zone ≡ 0) ⊎ (held.bytes ≡ parts.zone held.zone)

-- so it is at each level
abbrev pub Holds : Parts → HeldZones → Type 0
Holds parts held = All (HoldsZone parts) held.levels

-- a zone that is held has its bytes on a volume still, where its disks report their past
abbrev pub IsHeld : {D : Type 0} {disks : Ghosts D} → Volume D disks → HeldZone → Type 0
IsHeld volume held = Told (past_of volume) (λ now. HoldsZone (parts_of (volume_view volume) now) held)

-- so it is with each that is held
abbrev pub AreHeld : {D : Type 0} {disks : Ghosts D} → Volume D disks → HeldZones → Type 0
AreHeld volume held = Told (past_of volume) (λ now. Holds (parts_of (volume_view volume) now) held)

-- ---- zeros

-- numbers of an indirect zone are 0, so many from an index on
abbrev pub AreZeros : Kind → (ℕ → List ℕ) → ℕ → ℕ → ℕ → Type 0
AreZeros kind bytes_of zone index count = (k : ℕ) → k < count → number_below kind bytes_of zone (index + k) ≡ 0

-- so many blocks from one on are holes, and no other stops than these come between them
pub record AreHoles (super : Super) (parts : Parts) (inode : Inode) (index count : ℕ) : Type 0 where
  pub hole :
      (next : ℕ) → index ≤ next → next < index + count
      → stop_number super parts inode (record { index = next; level = 0 }) ≡ Ok 0
  pub alone :
      (next level : ℕ) → index < next → next < index + count → begins (numbers_in_zone super.kind) next level ≡ true
      → level ≡ 0

-- holes in a row were found from a block on, or its own number is refused
abbrev pub FindsHoles : Result ℕ ZoneFault → Super → Parts → Inode → ℕ → Type 0
FindsHoles (Ok count) super parts inode index = AreHoles super parts inode index count
FindsHoles (Err fault) super parts inode index =
    Refuses fault (stop_number super parts inode (record { index = index; level = 0 }))
