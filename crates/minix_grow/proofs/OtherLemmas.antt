-- What a directory's growth writes, and what it doesn't.
use Rattle.std.proofs.Common.{◌≡◌, ◌+◌, ◌-◌, ◌/◌, ℕ, List, Result, sym, subst}
use Rattle.std.specs.Prelude.{slice_index}
use Rattle.disk_trait.specs.declared.disks.Disks.{Ghosts}
use Rattle.disk_trait.specs.declared.disks.Span.{Span}
use Rattle.disk_trait.specs.NotWritten.{IsOther}
use Rattle.disk_trait.specs.Range.{IsOutside}
use Rattle.lilo_model.specs.MinixLayout.{Inode, inode_place, numbers_in_zone, zone_sector}
use Rattle.lilo_model.specs.MinixParts.{zone_mark_sector}
use Rattle.lilo_model.specs.MinixWalk.{Branch, branch_of}
use Rattle.minix_change_laws.specs.Changes.{with_top}
use Rattle.minix_layout.specs.View.{kind_view, super_view}
use Rattle.minix_layout.specs.declared.superblock.Super.{Super}
use Rattle.minix_turns.specs.Inode.{TurnsInode}
use Rattle.minix_zones.specs.Volume.{KeepsVolume}
use Rattle.minix_zones.specs.declared.volume.Volume.{Volume}
use Rattle.minix_zones.specs.declared.zone_fault.ZoneFault.{ZoneFault}
use Rattle.minix_zones.specs.declared.zone_fault.ZoneFault.TheVariants.{Device}
use Rattle.minix_change_laws.specs.Part.{offset_of_number}
use Rattle.minix_grow.specs.Below.{IsOffNumber}
use Rattle.minix_grow.specs.Hook.{IsOffInode, hooked}
use Rattle.minix_grow.specs.Way.{index_above}
use Rattle.minix_grow.specs.Zones.{IsOffZone, IsOffZones}

module _ {D : Type 0} {disks : Ghosts D} (old mid : Volume D disks) (kept : KeepsVolume old mid) where
  -- a sector that is off a zone is so of the same volume later
  pub off_stays : (zone d s : ℕ) → IsOffZone old zone d s → IsOffZone mid zone d s
  off_stays zone d s off =
      let B : Super → Type 0 = λ l. IsOther mid.span.disk (mid.span.start + zone_mark_sector (super_view l) zone) d s in
      let P : Span → Type 0 = λ p. IsOther p.disk (p.start + zone_mark_sector (super_view old.layout) zone) d s in
      let Z : Span → Type 0 = λ p. IsOutside p.disk (p.start + zone_sector zone) 2 d s in
      record {
        bit = subst B (sym kept.same_layout) (subst P (sym kept.same_span) off.bit);
        bytes = subst Z (sym kept.same_span) off.bytes;
      }

  pub all_off_stay : (zones : List ℕ) (d s : ℕ) → IsOffZones old zones d s → IsOffZones mid zones d s
  all_off_stay zones d s off level low = off_stays _ d s (off level low)

  -- and one that isn't an inode's
  pub other_stays : (number d s : ℕ) → IsOffInode old number d s → IsOffInode mid number d s
  other_stays number d s other =
      let B : Super → Type 0 = λ l. IsOther mid.span.disk (mid.span.start + (inode_place (super_view l) number).sector) d s in
      let P : Span → Type 0 = λ p. IsOther p.disk (p.start + (inode_place (super_view old.layout) number).sector) d s in
      subst B (sym kept.same_layout) (subst P (sym kept.same_span) other)

  -- and one that isn't that of a number in an indirect zone
  pub off_number_stays : (place-block count zone d s : ℕ) → IsOffNumber old place-block count zone d s → IsOffNumber mid place-block count zone d s
  off_number_stays place-block count zone d s off =
      let B : Super → Type 0 = λ l.
      IsOther mid.span.disk (mid.span.start + (zone_sector zone + offset_of_number (kind_view l.kind) (index_above (kind_view l.kind) place-block (count - 1)) / 512)) d s in
      let P : Span → Type 0 = λ p.
      IsOther p.disk (p.start + (zone_sector zone + offset_of_number (kind_view old.layout.kind) (index_above (kind_view old.layout.kind) place-block (count - 1)) / 512)) d s in
      subst B (sym kept.same_layout) (subst P (sym kept.same_span) off)

-- a turn of the number where a block's branch begins is that of the highest zone on the way to it
pub turns_hooked : {D : Type 0} {disks : Ghosts D} (old new : Volume D disks) (directory place-block size top first depth : ℕ) (node : Inode) (growth : List ℕ)
    → branch_of (numbers_in_zone (kind_view old.layout.kind)) place-block ≡ record { top = top; first = first; depth = depth }
    → (result : Result (Unit {0}) ZoneFault) → TurnsInode old new directory (with_top node top (slice_index growth depth) size) Device result
    → TurnsInode old new directory (hooked (kind_view old.layout.kind) node place-block growth size) Device result
turns_hooked old new directory place-block size top first depth node growth branch result turns =
    let P : Branch → Type 0 = λ b. TurnsInode old new directory (with_top node b.top (slice_index growth b.depth) size) Device result in
    subst P (sym branch) turns
