-- A directory that gets the next place, in a zone that it has.
use Rattle.std.proofs.Common.{◌≡◌, ◌≤◌, ◌<◌, ◌*◌, ◌%◌, ◌^◌, ℕ, true, [], Result, Ok, OnOk, sym, ◌∙◌, ap, subst}
use Rattle.disk_trait.specs.declared.disks.Disks.{Ghosts}
use Rattle.disk_trait.specs.Past.{Image}
use Rattle.disk_trait.specs.Moments.{IsTold, now}
use Rattle.disk_trait.proofs.MomentLemmas.{on_ok}
use Rattle.lilo_model.specs.MinixEntries.{entries_per_block}
use Rattle.lilo_model.specs.MinixLayout.{Inode, FitsInode, entry_size, is_size, inode_place}
use Rattle.lilo_model.specs.MinixNames.{Named, IsSound}
use Rattle.lilo_model.specs.MinixParts as model
use Rattle.minix_change_laws.specs.Changes.{ChangesZone, ChangesNode, with_size, MaySize}
use Rattle.minix_layout.specs.View.{kind_view, super_view}
use Rattle.minix_change_laws.proofs.Seen.{opened}
use Rattle.minix_steps.proofs.StepLemmas.{same_view}
use Rattle.minix_steps.specs.Written.{with_sector_of, inode_rewritten, parts_now}
use Rattle.minix_turns.specs.Inode.{TurnsInode, MayHaveSize}
use Rattle.minix_turns.specs.Joined.{Unseen}
use Rattle.minix_turns.specs.Names.{IsPastAt, PastUnseen, PastFree}
use Rattle.minix_turns.specs.Part.{HasEntryPart}
use Rattle.minix_turns.proofs.SeenLemmas.{node_size}
use Rattle.minix_turns.proofs.JoinedLemmas.{unseen_join}
use Rattle.minix_change_laws.specs.Part.{with_zone_part, free_bytes}
use Rattle.minix_change_laws.proofs.Part.{part_law}
use Rattle.minix_zones.specs.Volume.{volume_view, past_of}
use Rattle.minix_zones.specs.declared.volume.Volume.{Volume}
use Rattle.minix_zones.specs.declared.zone_fault.ZoneFault.{ZoneFault}
use Rattle.minix_zones.specs.declared.zone_fault.ZoneFault.TheVariants.{Device}
use Rattle.minix_grow.specs.Others.{KeepsOthers, KeepsOthersNow}
use Rattle.minix_grow.specs.Places.{size_to, IsFreePlace, IsNextPlaceNow, IsFreePlaceNow}
use Rattle.minix_grow.proofs.KeepLemmas.{keeps_join, keeps_size, keeps_bytes}
use Rattle.minix_grow.proofs.PlaceLemmas.{past_is_free, node_stays, named_stays, next_may_size}

-- what is said of a volume that was kept, and of what it was
pub view_after : {D : Type 0} {disks : Ghosts D} (old new : Volume D disks) (P : model.Volume → Type 0) → Unseen old new → P (volume_view old) → P (volume_view new)
view_after old new P unseen = subst P (sym (same_view old new unseen.kept))

pub view_was : {D : Type 0} {disks : Ghosts D} (old new : Volume D disks) (P : model.Volume → Type 0) → Unseen old new → P (volume_view new) → P (volume_view old)
view_was old new P unseen = subst P (same_view old new unseen.kept)

-- an inode that was written with another size has it
module _ {D E : Type 0} {disks : Ghosts D} (old new : Volume D disks) (directory : ℕ) (node : Inode) (error : E) (fits : FitsInode (super_view old.layout).kind node) (size : ℕ) (small : size < 2 ^ 32) where
  abbrev SizeIs : Image → Type 0
  SizeIs image = ((model.parts_of (volume_view old) image).node directory).size ≡ size

  abbrev SizeChanges : Image → Inode → Type 0
  SizeChanges image inode = ChangesNode (super_view old.layout) (parts_now old) (model.parts_of (volume_view old) image) directory (with_size inode size)

  abbrev Resized : Inode → Image
  Resized inode = with_sector_of (volume_view old) (now (past_of old)) (inode_place (super_view old.layout) directory).sector (inode_rewritten old directory (with_size inode size))

  resized : MayHaveSize old directory node size → SizeChanges (Resized node) ((parts_now old).node directory)
  resized may =
      let fit : FitsInode (super_view old.layout).kind ((parts_now old).node directory) = subst (FitsInode (super_view old.layout).kind) (sym may.lies.is) fits in
      let P : Inode → Type 0 = λ i. SizeChanges (Resized i) ((parts_now old).node directory) in
      subst P may.lies.is (node_size (volume_view old) (now (past_of old)) old.whole may.lies.sound directory may.lies.named fit size small may.sized.sized)

  pub size_changes : (result : Result (Unit {0}) E) → TurnsInode old new directory (with_size node size) error result → IsTold (past_of old) → MayHaveSize old directory node size
      → OnOk result (SizeChanges (now (past_of new)) ((parts_now old).node directory))
  size_changes result turns told may = on_ok result _ _ (turns.written told) (λ is. let P : Image → Type 0 = λ image. SizeChanges image ((parts_now old).node directory) in subst P (sym is) (resized may))

  pub size_is : (result : Result (Unit {0}) E) → TurnsInode old new directory (with_size node size) error result → IsTold (past_of old) → MayHaveSize old directory node size
      → OnOk result (SizeIs (now (past_of new)))
  size_is result turns told may = on_ok result _ _ (size_changes result turns told may) (λ change. let S : Inode → ℕ = λ i. i.size in ap S change.here)

  -- and each other inode stays
  pub size_keeps : (result : Result (Unit {0}) E) → TurnsInode old new directory (with_size node size) error result → IsTold (past_of old) → MayHaveSize old directory node size
      → OnOk result (KeepsOthersNow old new directory [])
  size_keeps result turns told may =
      on_ok result _ _ (size_changes result turns told may)
      (λ change. keeps_size (super_view old.layout) (parts_now old) (model.parts_of (volume_view old) (now (past_of new))) directory size [] (opened (volume_view old) (now (past_of old)) may.lies.sound).parts may.lies.named change)

-- the two turns by which the next place gets below the size
module _ {D : Type 0} {disks : Ghosts D} (old mid : Volume D disks) (directory place zone index size : ℕ) (node : Inode) (from : old.layout.first ≤ zone) (below : zone < old.layout.zones)
    (fits : FitsInode (kind_view old.layout.kind) node) (next : IsTold (past_of old) → IsNextPlaceNow old directory node place zone)
    (slot : index ≡ place % entries_per_block (kind_view old.layout.kind)) where
  pub past_at : IsTold (past_of old) → IsPastAt old directory place zone index
  past_at told = record {
    at = record { sound = (next told).sound; lies = (next told).lies; slot = sym slot };
    past = (next told).past;
  }

  module _ (is : size ≡ size_to (kind_view old.layout.kind) place) (sized : is_size (kind_view old.layout.kind) (size_to (kind_view old.layout.kind) place) ≡ true) (small : size_to (kind_view old.layout.kind) place < 2 ^ 32)
      (unseen : PastUnseen old mid zone index) (free : PastFree {E = ZoneFault} old mid zone index (Ok tt))
      (part : IsTold (past_of old) → HasEntryPart old (now (past_of mid)) zone index (free_bytes (kind_view old.layout.kind))) where
    pub first : Unseen old mid
    first = unseen directory place past_at

    abbrev MaySizeIn : ℕ → model.Volume → Type 0
    MaySizeIn bytes view =
        IsSound view (now (past_of mid)) × ((model.parts_of view (now (past_of mid))).node directory ≡ node) × Named view.layout (model.parts_of view (now (past_of mid))) directory
        × MaySize view.layout (model.parts_of view (now (past_of mid))) directory bytes

    may-in : IsTold (past_of old) → MaySizeIn (size_to (kind_view old.layout.kind) place) (volume_view old)
    may-in told =
        let seen = first.held told in
        let stays = free directory place past_at told in (
          seen.sound,
          node_stays (volume_view old) (now (past_of old)) (now (past_of mid)) directory place zone index node _ (next told) (from, below) sized small seen (part told) stays,
          named_stays (volume_view old) (now (past_of old)) (now (past_of mid)) directory place zone index node _ (next told) (from, below) sized small seen (part told) stays,
          next_may_size (volume_view old) (now (past_of old)) (now (past_of mid)) directory place zone index node _ (next told) (from, below) sized small seen (part told) stays,
        )

    pub may_have_size : IsTold (past_of mid) → MayHaveSize mid directory node size
    may_have_size told =
        let P : ℕ → Type 0 = λ s. MaySizeIn s (volume_view old) in
        let may = view_after old mid (MaySizeIn size) first (subst P (sym is) (may-in (first.goes_on.told_before told))) in
        record { lies = record { sound = may.0; is = may.1; named = may.2 }; sized = may.3 }

    pub next_is_free : (new : Volume D disks) (result : Result (Unit {0}) ZoneFault) → Unseen mid new → TurnsInode mid new directory (with_size node size) Device result → size < 2 ^ 32
        → IsTold (past_of old) → OnOk result (IsFreePlaceNow new directory place)
    next_is_free new result second turns low told =
        let told' = first.goes_on.told told in
        let both : Unseen old new = unseen_join old mid new first second in
        let K : model.Volume → Type 0 = λ view. FitsInode view.layout.kind node in
        let S : model.Volume → Type 0 = λ view. ((model.parts_of view (now (past_of new))).node directory).size ≡ size in
        let F : model.Volume → Type 0 = λ view. IsFreePlace view (now (past_of new)) directory place in
        on_ok result _ _ (size_is mid new directory node Device (view_after old mid K first fits) size low result turns told' (may_have_size told'))
        (λ bytes. view_after old new F both (past_is_free (volume_view old) (now (past_of old)) (now (past_of new)) directory place (next told).past (both.held told) (view_was old mid S first bytes ∙ is)))

    -- the place is filled, and each other inode stays
    filled-keeps : IsTold (past_of old) → KeepsOthersNow old mid directory []
    filled-keeps told =
        let at = next told in
        let C : ℕ → Type 0 = λ z. ChangesZone (super_view old.layout) (parts_now old) (model.parts_of (volume_view old) (now (past_of mid))) z (with_zone_part (parts_now old) zone (entry_size (kind_view old.layout.kind) * index) (free_bytes (kind_view old.layout.kind))) in
        let change = (part_law (volume_view old) (now (past_of old)) (now (past_of mid)) zone (entry_size (kind_view old.layout.kind) * index) (free_bytes (kind_view old.layout.kind)) at.sound (from, below) (part told)).change in
        keeps_bytes (super_view old.layout) (parts_now old) (model.parts_of (volume_view old) (now (past_of mid))) directory place (with_zone_part (parts_now old) zone (entry_size (kind_view old.layout.kind) * index) (free_bytes (kind_view old.layout.kind))) []
        (opened (volume_view old) (now (past_of old)) at.sound).parts at.past.named at.past.is at.past.some (subst C (sym at.lies) change)

    pub next_keeps : (new : Volume D disks) (result : Result (Unit {0}) ZoneFault) → TurnsInode mid new directory (with_size node size) Device result → size < 2 ^ 32
        → IsTold (past_of old) → OnOk result (KeepsOthersNow old new directory [])
    next_keeps new result turns low told =
        let told' = first.goes_on.told told in
        let K : model.Volume → Type 0 = λ view. FitsInode view.layout.kind node in
        let P : model.Volume → Type 0 = λ view. KeepsOthers view.layout (model.parts_of view (now (past_of mid))) (model.parts_of view (now (past_of new))) directory [] in
        on_ok result _ _ (size_keeps mid new directory node Device (view_after old mid K first fits) size low result turns told' (may_have_size told'))
        (λ keeps. keeps_join (super_view old.layout) (parts_now old) (model.parts_of (volume_view old) (now (past_of mid))) (model.parts_of (volume_view old) (now (past_of new))) directory [] (first.held told).sees (filled-keeps told) (view_was old mid P first keeps))
