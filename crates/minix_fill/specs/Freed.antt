-- What of a volume is freed with an inode, and what stays.
use Rattle.std.specs.Prelude.{◌≡◌, ◌≢◌, ◌≤◌, ℕ, ◌+◌, ◌&&◌, not, true, false, List, [], ◌∷◌, Contains, Result, Ok, Err}
use Rattle.disk_trait.specs.declared.disks.Disks.{Ghosts}
use Rattle.disk_trait.specs.NotWritten.{IsOther}
use Rattle.lilo_model.specs.MinixLayout.{Inode, inode_bytes, inode_place}
use Rattle.lilo_model.specs.MinixNames.{PointsTo}
use Rattle.lilo_model.specs.MinixParts as model
use Rattle.lilo_model.specs.MinixParts.{Parts, Pointer, has_zones}
use Rattle.lilo_model.specs.MinixWalk.{Visit, visits}
use Rattle.minix_change_laws.specs.Beside.{IsDataZone}
use Rattle.minix_steps.specs.BitLaws.{OneZoneMark}
use Rattle.minix_steps.specs.Numbers.{has_number}
use Rattle.minix_layout.specs.View.{super_view}
use Rattle.minix_steps.specs.StepLaws.{OneInode}
use Rattle.minix_steps.specs.Steps.{IsUnusedZone}
use Rattle.minix_steps.specs.Written.{parts_now}
use Rattle.minix_zones.specs.declared.volume.Volume.{Volume}
use Rattle.minix_fill.specs.Changes.{IsOffMaps}

-- the inode of which each byte is 0
abbrev pub no_inode : Inode
no_inode = record {
  mode = 0;
  links = 0;
  uid = 0;
  gid = 0;
  size = 0;
  times = 0 ∷ (0 ∷ (0 ∷ []));
  zones = 0 ∷ (0 ∷ (0 ∷ (0 ∷ (0 ∷ (0 ∷ (0 ∷ (0 ∷ (0 ∷ (0 ∷ [])))))))));
}

-- ---- bits

-- the zones that a walk met
abbrev pub zones_met : List (Result Visit model.ZoneFault) → List ℕ
zones_met [] = []
zones_met (Ok visit ∷ rest) = visit.zone ∷ zones_met rest
zones_met (Err fault ∷ rest) = zones_met rest

-- of the parts of a volume the bits of some zones are cleared, and all else is as before
pub record ZonesCleared (volume : model.Volume) (old new : Parts) (zones : List ℕ) : Type 0 where
  pub zone_marks : (zone : ℕ) → IsDataZone volume.layout zone → new.has_zone zone ≡ (old.has_zone zone && not (has_number zones zone))
  pub marks : (number : ℕ) → number ≤ volume.layout.inodes → new.has_inode number ≡ old.has_inode number
  pub nodes : (number : ℕ) → new.node number ≡ old.node number
  pub bytes : (zone : ℕ) → volume.layout.first ≤ zone → new.zone zone ≡ old.zone zone

-- the bit of a zone is
abbrev pub ClearsZone : ℕ → model.Volume → Parts → Parts → Type 0
ClearsZone zone volume old new = OneZoneMark volume old new zone false

-- those of the zones are that a walk over an inode meets
abbrev pub ClearsMet : Inode → model.Volume → Parts → Parts → Type 0
ClearsMet inode volume old new = ZonesCleared volume old new (zones_met (visits volume.layout old inode))

-- so is that of an inode itself
pub record ClearsFile (number : ℕ) (inode : Inode) (volume : model.Volume) (old new : Parts) : Type 0 where
  pub zone_marks : (zone : ℕ) → IsDataZone volume.layout zone
      → new.has_zone zone ≡ (old.has_zone zone && not (has_number (zones_met (visits volume.layout old inode)) zone))
  pub mark : new.has_inode number ≡ false
  pub other_marks : (other : ℕ) → other ≤ volume.layout.inodes → other ≢ number → new.has_inode other ≡ old.has_inode other
  pub nodes : (other : ℕ) → new.node other ≡ old.node other
  pub bytes : (zone : ℕ) → volume.layout.first ≤ zone → new.zone zone ≡ old.zone zone

-- an inode's bytes are zeros, and all else is as before
abbrev pub ZeroesInode : ℕ → model.Volume → Parts → Parts → Type 0
ZeroesInode number volume old new = OneInode volume old new number (inode_bytes volume.layout.kind no_inode)

-- ---- a file

-- An inode's bytes are zeros, its bit and those of the zones to which it had pointers are cleared, and no others; all else
-- is as before.
pub record FreesFile (number : ℕ) (volume : model.Volume) (old new : Parts) : Type 0 where
  pub node : new.node number ≡ no_inode
  pub mark : new.has_inode number ≡ false
  pub zone_marks : (at : Pointer) (zone : ℕ) → PointsTo volume.layout old number at zone → new.has_zone zone ≡ false
  pub other_nodes : (other : ℕ) → 1 ≤ other → other ≤ volume.layout.inodes → other ≢ number → new.node other ≡ old.node other
  pub other_marks : (other : ℕ) → other ≤ volume.layout.inodes → other ≢ number → new.has_inode other ≡ old.has_inode other
  pub other_zone_marks : (zone : ℕ) → IsDataZone volume.layout zone
      → ((at : Pointer) → PointsTo volume.layout old number at zone → ⊥) → new.has_zone zone ≡ old.has_zone zone
  pub bytes : (zone : ℕ) → volume.layout.first ≤ zone → new.zone zone ≡ old.zone zone

-- a sector is none of the bitmaps, nor the one with an inode
pub record IsOffFile {D : Type 0} {disks : Ghosts D} (volume : Volume D disks) (number d s : ℕ) : Type 0 where
  pub maps : IsOffMaps volume d s
  pub inode : IsOther volume.span.disk (volume.span.start + (inode_place (super_view volume.layout) number).sector) d s

-- ---- when it may be

-- no named inode referred at the last flush to a zone that a walk over an inode meets, and none is refused there
pub record MayClear {D : Type 0} {disks : Ghosts D} (volume : Volume D disks) (inode : Inode) : Type 0 where
  pub good : (fault : model.ZoneFault) → Contains (visits (super_view volume.layout) (parts_now volume) inode) (Err fault) → ⊥
  pub unused : (visit : Visit) → Contains (visits (super_view volume.layout) (parts_now volume) inode) (Ok visit) → IsUnusedZone volume visit.zone

-- an inode is what is said, and may have zones; these are data zones to which no named inode referred at the last flush
pub record MayFree {D : Type 0} {disks : Ghosts D} (volume : Volume D disks) (number : ℕ) (inode : Inode) : Type 0 where
  pub is : (parts_now volume).node number ≡ inode
  pub kind : has_zones inode ≡ true
  pub range : (at : Pointer) (zone : ℕ) → PointsTo (super_view volume.layout) (parts_now volume) number at zone → IsDataZone (super_view volume.layout) zone
  pub unused : (at : Pointer) (zone : ℕ) → PointsTo (super_view volume.layout) (parts_now volume) number at zone → IsUnusedZone volume zone
