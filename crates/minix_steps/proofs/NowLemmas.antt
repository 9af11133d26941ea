-- What steps change of the parts of a volume.
use Rattle.std.proofs.Common.{◌≡◌, ◌≤◌, ◌<◌, ℕ, Bool, List, length, sym, subst}
use Rattle.disk_trait.specs.declared.disks.Disks.{Ghosts}
use Rattle.disk_trait.specs.Moments.{IsTold, now}
use Rattle.lilo_model.specs.Disks.{Image}
use Rattle.lilo_model.specs.MinixLayout.{inode_size, inode_place}
use Rattle.lilo_model.specs.MinixParts as model
use Rattle.lilo_model.specs.MinixParts.{inode_mark_sector, zone_mark_sector}
use Rattle.minix_steps.specs.BitLaws.{OneZoneMark, OneInodeMark}
use Rattle.minix_steps.specs.Mark.{zone_remarked, inode_remarked}
use Rattle.minix_steps.proofs.MarkLaws.{one_zone_mark, one_inode_mark}
use Rattle.minix_layout.specs.View.{super_view}
use Rattle.minix_zones.specs.Volume.{volume_view, past_of}
use Rattle.minix_zones.specs.declared.volume.Volume.{Volume}
use Rattle.minix_steps.specs.StepLaws.{OneZone, OneInode}
use Rattle.minix_steps.specs.Steps.{IsReady, Steps}
use Rattle.minix_steps.specs.Written.{with_sector_of, with_zone, with_inode, parts_now}
use Rattle.minix_steps.proofs.HarmlessLemmas.{held, zone_mark_inside, inode_mark_inside, place_inside}
use Rattle.minix_steps.proofs.PartLemmas.{zone_bytes_law, inode_bytes_law}
use Rattle.minix_steps.proofs.StepLemmas.{same_view}

module _ {D : Type 0} {disks : Ghosts D} (old new : Volume D disks) (steps : Steps old new) where
  -- what is said of an image is said of what the disks hold now
  now_parts : (P : model.Parts → Type 0) (image : Image) → now (past_of new) ≡ image → P (model.parts_of (volume_view old) image) → P (parts_now new)
  now_parts P image is holds =
      let I : Image → Type 0 = λ i. P (model.parts_of (volume_view old) i) in
      let V : model.Volume → Type 0 = λ view. P (model.parts_of view (now (past_of new))) in
      subst V (sym (same_view old new steps.kept)) (subst I (sym is) holds)

  pub zone_now : (zone : ℕ) (bytes : List ℕ) → old.layout.first ≤ zone → length bytes ≡ 1024
      → now (past_of new) ≡ with_zone (volume_view old) (now (past_of old)) zone bytes
      → OneZone (volume_view old) (parts_now old) (parts_now new) zone bytes
  zone_now zone bytes from long is =
      now_parts (λ parts. OneZone (volume_view old) (parts_now old) parts zone bytes) (with_zone (volume_view old) (now (past_of old)) zone bytes) is
      (zone_bytes_law (volume_view old) (now (past_of old)) zone bytes old.whole from long)

  module _ (ready : IsReady old) (told : IsTold (past_of old)) where
    pub inode_now : (number : ℕ) (part : List ℕ) → 1 ≤ number → number ≤ old.layout.inodes → length part ≡ inode_size (super_view old.layout).kind
        → now (past_of new) ≡ with_sector_of (volume_view old) (now (past_of old)) (inode_place (super_view old.layout) number).sector (with_inode (volume_view old) (now (past_of old)) number part)
        → OneInode (volume_view old) (parts_now old) (parts_now new) number part
    inode_now number part some there size is =
        let sector : ℕ = (inode_place (super_view old.layout) number).sector in
        now_parts (λ parts. OneInode (volume_view old) (parts_now old) parts number part)
        (with_sector_of (volume_view old) (now (past_of old)) sector (with_inode (volume_view old) (now (past_of old)) number part)) is
        (inode_bytes_law (volume_view old) (now (past_of old)) number part old.whole some there size
        (held old ready sector (place_inside old ready number some there) told).long)

    pub zone_mark_now : (zone : ℕ) (value : Bool) → old.layout.first ≤ zone → zone < old.layout.zones
        → now (past_of new) ≡ with_sector_of (volume_view old) (now (past_of old)) (zone_mark_sector (super_view old.layout) zone) (zone_remarked old zone value)
        → OneZoneMark (volume_view old) (parts_now old) (parts_now new) zone value
    zone_mark_now zone value from below is =
        let sector : ℕ = zone_mark_sector (super_view old.layout) zone in
        now_parts (λ parts. OneZoneMark (volume_view old) (parts_now old) parts zone value)
        (with_sector_of (volume_view old) (now (past_of old)) sector (zone_remarked old zone value)) is
        (one_zone_mark (volume_view old) (now (past_of old)) zone value old.whole from below
        (held old ready sector (zone_mark_inside old ready zone from below) told).long)

    pub inode_mark_now : (number : ℕ) (value : Bool) → 1 ≤ number → number ≤ old.layout.inodes
        → now (past_of new) ≡ with_sector_of (volume_view old) (now (past_of old)) (inode_mark_sector number) (inode_remarked old number value)
        → OneInodeMark (volume_view old) (parts_now old) (parts_now new) number value
    inode_mark_now number value some there is =
        let sector : ℕ = inode_mark_sector number in
        now_parts (λ parts. OneInodeMark (volume_view old) (parts_now old) parts number value)
        (with_sector_of (volume_view old) (now (past_of old)) sector (inode_remarked old number value)) is
        (one_inode_mark (volume_view old) (now (past_of old)) number value old.whole there
        (held old ready sector (inode_mark_inside old ready number some there) told).long)
