-- A turn of an inode that no name sees.
use Rattle.std.proofs.Common.{◌≤◌, ◌<◌, ◌^◌, ℕ, List, Result, sym, subst}
use Rattle.disk_trait.specs.declared.disks.Disks.{Ghosts}
use Rattle.disk_trait.specs.Past.{Image}
use Rattle.disk_trait.specs.Moments.{IsTold, now}
use Rattle.lilo_model.specs.MinixLayout.{Inode, FitsInode, most_links, inode_place}
use Rattle.minix_change_laws.specs.Changes.{with_size, with_top}
use Rattle.minix_change_laws.specs.Grows.{Deeper}
use Rattle.minix_layout.specs.View.{super_view}
use Rattle.minix_change_laws.specs.Sees.{with_links, SeenAsIn}
use Rattle.minix_steps.specs.Written.{with_sector_of, inode_rewritten, parts_now}
use Rattle.minix_turns.specs.Inode.{TurnsInode, FitsTop, IsNamedNow, MayHaveLinks, MayHaveSize, MayHaveTop}
use Rattle.minix_turns.specs.Joined.{Unseen}
use Rattle.minix_turns.proofs.JoinedLemmas.{turn_unseen}
use Rattle.minix_turns.proofs.SeenLemmas.{seen_links, seen_size, seen_top}
use Rattle.minix_zones.specs.Volume.{volume_view, past_of}
use Rattle.minix_zones.specs.declared.volume.Volume.{Volume}

module _ {D E : Type 0} {disks : Ghosts D} (old new : Volume D disks) (number : ℕ) (inode : Inode) (error : E) (result : Result (Unit {0}) E) (fits : FitsInode (super_view old.layout).kind inode) where
  -- the image with an inode made of the one that was there
  abbrev With : Inode → Image
  With changed = with_sector_of (volume_view old) (now (past_of old)) (inode_place (super_view old.layout) number).sector (inode_rewritten old number changed)

  unseen_by : (change : Inode → Inode) → TurnsInode old new number (change inode) error result → (IsTold (past_of old) → IsNamedNow old number inode)
      → (IsTold (past_of old) → FitsInode (super_view old.layout).kind ((parts_now old).node number) → SeenAsIn (volume_view old) (now (past_of old)) (With (change ((parts_now old).node number))))
      → Unseen old new
  unseen_by change turns lies seen =
      turn_unseen old new (inode_place (super_view old.layout) number).sector (inode_rewritten old number (change inode)) error result turns
      (λ told. (lies told).sound)
      (λ told.
      let P : Inode → Type 0 = λ i. SeenAsIn (volume_view old) (now (past_of old)) (With (change i)) in
      subst P (lies told).is (seen told (subst (FitsInode (super_view old.layout).kind) (sym (lies told).is) fits)))

  pub links_unseen : (links : ℕ) → links ≤ most_links (super_view old.layout).kind → TurnsInode old new number (with_links inode links) error result
      → (IsTold (past_of old) → MayHaveLinks old number inode links) → Unseen old new
  links_unseen links few turns may =
      unseen_by (λ i. with_links i links) turns (λ told. (may told).lies)
      (λ told fit. seen_links (volume_view old) (now (past_of old)) old.whole (may told).lies.sound number (may told).lies.named fit links few (may told).enough)

  pub size_unseen : (size : ℕ) → size < 2 ^ 32 → TurnsInode old new number (with_size inode size) error result
      → (IsTold (past_of old) → MayHaveSize old number inode size) → Unseen old new
  size_unseen size small turns may =
      unseen_by (λ i. with_size i size) turns (λ told. (may told).lies)
      (λ told fit. seen_size (volume_view old) (now (past_of old)) old.whole (may told).lies.sound number (may told).lies.named fit size small (may told).sized)

  pub top_unseen : (top zone size : ℕ) (more : List Deeper) → FitsTop (super_view old.layout).kind top zone → size < 2 ^ 32
      → TurnsInode old new number (with_top inode top zone size) error result
      → (IsTold (past_of old) → MayHaveTop old number inode top zone size more) → Unseen old new
  top_unseen top zone size more low small turns may =
      unseen_by (λ i. with_top i top zone size) turns (λ told. (may told).lies)
      (λ told fit. seen_top (volume_view old) (now (past_of old)) old.whole (may told).lies.sound number (may told).lies.named fit top zone size more low small (may told).hooks (may told).sized)
