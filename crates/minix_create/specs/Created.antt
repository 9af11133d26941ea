-- What the calls leave of which a creation is made: the bits of what was chosen, its inode and its zones.
use Rattle.std.specs.Prelude.{◌≡◌, ◌≢◌, ◌≤◌, ◌<◌, ◌+◌, ◌*◌, ◌==◌, ◌||◌, ℕ, true, List, slice_index, Result, OnOk}
use Rattle.disk_trait.specs.declared.disks.Disks.{Ghosts}
use Rattle.disk_trait.specs.Moments.{IsTold, begun, IsQuiet}
use Rattle.disk_trait.specs.NotWritten.{IsOther, NotWritten}
use Rattle.disk_trait.specs.Range.{IsOutside}
use Rattle.lilo_model.specs.MinixLayout.{inode_place, reach, zone_sector}
use Rattle.lilo_model.specs.MinixNames.{zone_number, thing, PointsTo}
use Rattle.lilo_model.specs.MinixParts.{Parts, Pointer}
use Rattle.minix_change_laws.specs.Beside.{IsInode, IsDataZone}
use Rattle.minix_steps.specs.Numbers.{has_number}
use Rattle.minix_choice_laws.specs.Choice.{file_of}
use Rattle.minix_fill.specs.Fill.{MayHoldFile, AreMarked}
use Rattle.minix_choice_laws.specs.FillLaws.{MayBeFile}
use Rattle.minix_choice_laws.specs.Sources.{Source, zone_from}
use Rattle.minix_grow.specs.Others.{IsClearOf}
use Rattle.minix_layout.specs.View.{kind_view, super_view}
use Rattle.minix_steps.specs.Steps.{IsReady, IsUnnamedInode, Steps}
use Rattle.minix_steps.specs.Written.{parts_now}
use Rattle.minix_zones.specs.Volume.{volume_view, past_of, HasDeviceCause}
use Rattle.minix_zones.specs.declared.volume.Volume.{Volume}
use Rattle.minix_zones.specs.declared.zone_fault.ZoneFault.{ZoneFault}
use Rattle.minix_zones.specs.declared.zone_fault.ZoneFault.TheVariants.{Device}
use Rattle.minix_create.specs.Chosen.{Suits, IsClearGrowth, IsFreeNow, IsNewInode, MayNest, thing_with}
use Rattle.minix_create.specs.Entered.{MayBeNamed}
use Rattle.minix_create.specs.Grown.{MayGrowIn}
use Rattle.minix_create.specs.declared.chosen.Chosen.{Chosen}

-- ---- sectors that aren't written

-- a sector of a disk is none of a volume's bitmaps
abbrev pub IsOffBitmaps : {D : Type 0} {disks : Ghosts D} → Volume D disks → ℕ → ℕ → Type 0
IsOffBitmaps volume d s = IsOutside volume.span.disk (volume.span.start + 4) (2 * (volume.layout.imap + volume.layout.zmap)) d s

-- nor is it of a zone that was chosen, nor the one with the inode
pub record IsOffFile {D : Type 0} {disks : Ghosts D} (volume : Volume D disks) (chosen : Chosen) (d s : ℕ) : Type 0 where
  pub bitmaps : IsOffBitmaps volume d s
  pub zones : (zone : ℕ) → has_number chosen.choice.zones zone ≡ true → IsOutside volume.span.disk (volume.span.start + zone_sector zone) 2 d s
  pub inode : IsOther volume.span.disk (volume.span.start + (inode_place (super_view volume.layout) chosen.choice.inode).sector) d s

-- ---- bits

-- the bits of what was chosen are set, no other bit changed, and each inode but the file's is as it was
pub record MarksOnly {D : Type 0} {disks : Ghosts D} (volume : Volume D disks) (old new : Parts) (chosen : Chosen) : Type 0 where
  pub inodes : (number : ℕ) → number ≤ volume.layout.inodes → new.has_inode number ≡ (old.has_inode number || (number == chosen.choice.inode))
  pub zones : (zone : ℕ) → IsDataZone (super_view volume.layout) zone → new.has_zone zone ≡ (old.has_zone zone || has_number chosen.choice.zones zone)
  pub nodes : (number : ℕ) → IsInode (super_view volume.layout) number → number ≢ chosen.choice.inode → new.node number ≡ old.node number

-- a call set them, wrote no sector but those of the bitmaps, and flushed
pub record MarksChosen {D : Type 0} {disks : Ghosts D} (old new : Volume D disks) (chosen : Chosen) (result : Result (Unit {0}) ZoneFault) : Type 0 where
  pub steps : Steps old new
  pub marks : IsTold (past_of old) → OnOk result (MarksOnly old (parts_now old) (parts_now new) chosen)
  pub quiet : OnOk result (IsQuiet (past_of new))
  pub others : (d s : ℕ) → IsOffBitmaps old d s → NotWritten (past_of old) (past_of new) d s
  pub device : HasDeviceCause old new Device result

-- ---- blocks

-- a file may be written on a volume: no name needs its zones and its inode, and their bits are set
pub record IsOpen {D : Type 0} {disks : Ghosts D} (volume : Volume D disks) (chosen : Chosen) : Type 0 where
  pub suits : Suits volume.layout volume.span chosen
  pub ready : IsReady volume
  pub free : MayHoldFile volume (file_of chosen.choice)
  pub unnamed : IsUnnamedInode volume chosen.choice.inode
  pub file : IsTold (past_of volume) → MayBeFile (kind_view volume.layout.kind) (file_of chosen.choice)
  pub marked : IsTold (past_of volume) → AreMarked (parts_now volume) chosen.choice.inode (file_of chosen.choice)
  -- at the last flush its directory might grow by what was chosen
  pub grows : IsTold (past_of volume) → MayGrowIn (volume_view volume) (begun (past_of volume)) chosen.directory chosen.choice.place chosen.choice.growth
  pub clear : IsTold (past_of volume) → IsClearGrowth chosen.choice

-- the first blocks that are no holes are those given
abbrev pub HasBlocks : Parts → Chosen → (ℕ → List ℕ) → ℕ → Type 0
HasBlocks parts chosen given next =
    (index : ℕ) → index < next → slice_index chosen.choice.blocks index ≢ 0 → parts.zone (slice_index chosen.choice.blocks index) ≡ given index

-- since a volume was as it is here, what was chosen was reserved, and the first of its blocks were written
pub record IsReserved {D : Type 0} {disks : Ghosts D} (start volume : Volume D disks) (chosen : Chosen) (given : ℕ → List ℕ) (next : ℕ) : Type 0 where
  pub quiet : IsQuiet (past_of start)
  pub free : IsTold (past_of start) → IsFreeNow start chosen
  pub steps : Steps start volume
  pub marks : IsTold (past_of start) → MarksOnly start (parts_now start) (parts_now volume) chosen
  pub blocks : IsTold (past_of start) → HasBlocks (parts_now volume) chosen given next
  pub others : (d s : ℕ) → IsOffFile start chosen d s → NotWritten (past_of start) (past_of volume) d s

-- ---- the whole file

-- it was filled too: its inode is the new one, may get a name, points to zones of the file alone and to none of growth, is what was given, and
-- each block lies whole in the zone that was chosen
pub record IsFilledWith {D : Type 0} {disks : Ghosts D} (volume : Volume D disks) (chosen : Chosen) (given : ℕ → List ℕ) : Type 0 where
  pub node : IsNewInode chosen ((parts_now volume).node chosen.choice.inode)
  pub named : (outer : List (List ℕ)) → MayNest outer chosen → MayBeNamed (super_view volume.layout)
      (parts_now volume) outer chosen.directory chosen.choice.inode
  pub own : (at : Pointer) (zone : ℕ) → PointsTo (super_view volume.layout) (parts_now volume) chosen.choice.inode at zone
      → (source : Source) × (zone_from (file_of chosen.choice) source ≡ zone)
  pub clear : IsClearOf (super_view volume.layout) (parts_now volume) chosen.choice.inode chosen.choice.growth
  pub is : thing (super_view volume.layout) (parts_now volume) chosen.choice.inode ≡ thing_with chosen given
  pub lies : (index : ℕ) → index < reach (kind_view volume.layout.kind)
      → zone_number (super_view volume.layout) (parts_now volume) chosen.choice.inode index ≡ slice_index chosen.choice.blocks index
  pub blocks : (index : ℕ) → slice_index chosen.choice.blocks index ≢ 0 → (parts_now volume).zone (slice_index chosen.choice.blocks index) ≡ given index

pub record IsFilled {D : Type 0} {disks : Ghosts D} (start volume : Volume D disks) (chosen : Chosen) (given : ℕ → List ℕ) : Type 0 where
  pub quiet : IsQuiet (past_of start)
  pub free : IsTold (past_of start) → IsFreeNow start chosen
  pub steps : Steps start volume
  pub marks : IsTold (past_of start) → MarksOnly start (parts_now start) (parts_now volume) chosen
  pub filled : IsTold (past_of start) → IsFilledWith volume chosen given
  pub others : (d s : ℕ) → IsOffFile start chosen d s → NotWritten (past_of start) (past_of volume) d s
