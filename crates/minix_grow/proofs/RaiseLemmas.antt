-- A place of a block with free entries, once it lies below the size.
use Rattle.std.proofs.Common.{◌≡◌, ◌≢◌, ◌≤◌, ◌<◌, ◌/◌, ◌^◌, ℕ, true, [], Result, OnOk, refl, sym, ◌∙◌, ap, subst, arith}
use Rattle.disk_trait.specs.declared.disks.Disks.{Ghosts}
use Rattle.disk_trait.specs.Past.{Image}
use Rattle.disk_trait.specs.Moments.{IsTold, now, IsQuiet}
use Rattle.disk_trait.proofs.MomentLemmas.{on_ok}
use Rattle.lilo_model.specs.MinixEntries.{entries_per_block, places}
use Rattle.lilo_model.specs.MinixLayout.{Kind, V1Short, V1Long, V2Short, V2Long, Inode, FitsInode, is_size, reach}
use Rattle.lilo_model.specs.MinixNames.{zone_number, entry, IsSound}
use Rattle.lilo_model.specs.MinixParts as model
use Rattle.lilo_model.specs.MinixParts.{Parts, parts_of}
use Rattle.minix_change_laws.specs.Only.{zone_of_entry}
use Rattle.minix_change_laws.proofs.Blocks.{block-below}
use Rattle.minix_change_laws.specs.Changes.{with_size, MaySize}
use Rattle.minix_layout.specs.View.{kind_view, super_view}
use Rattle.minix_change_laws.proofs.Seen.{opened}
use Rattle.minix_steps.proofs.ReadyLemmas.{quiet_ready}
use Rattle.minix_tree.proofs.StatLemmas.{blocks_reached}
use Rattle.minix_turns.specs.Inode.{TurnsInode, MayHaveSize}
use Rattle.minix_turns.specs.Joined.{Unseen}
use Rattle.minix_turns.proofs.JoinedLemmas.{steps_unseen}
use Rattle.minix_change_laws.specs.Part.{IsPast}
use Rattle.minix_zones.specs.Volume.{volume_view, past_of}
use Rattle.minix_zones.specs.declared.volume.Volume.{Volume}
use Rattle.minix_zones.specs.declared.zone_fault.ZoneFault.{ZoneFault}
use Rattle.minix_zones.specs.declared.zone_fault.ZoneFault.TheVariants.{Device}
use Rattle.minix_grow.specs.Below.{HasFreeBlock, HasFreeBlockNow}
use Rattle.minix_grow.specs.Others.{KeepsOthersNow}
use Rattle.minix_grow.specs.Places.{size_to, IsFreePlace, IsFreePlaceNow}
use Rattle.minix_grow.proofs.ExtendLemmas.{view_after, size_is, size_keeps}
use Rattle.minix_grow.proofs.PlaceLemmas.{places_to, past_is_free}
use Rattle.minix_grow.proofs.ZoneLemmas.{no_steps}

-- a place lies below a size or past it
pub place_below : (kind : Kind) (place size : ℕ) → size_to kind place ≤ size → place < places kind size
place_below V1Short place size low = omega (arith, low)
place_below V1Long place size low = omega (arith, low)
place_below V2Short place size low = omega (arith, low)
place_below V2Long place size low = omega (arith, low)

pub place_past : (kind : Kind) (place size : ℕ) → size < size_to kind place → places kind size ≤ place
place_past V1Short place size low = omega (arith, low)
place_past V1Long place size low = omega (arith, low)
place_past V2Short place size low = omega (arith, low)
place_past V2Long place size low = omega (arith, low)

-- no call is unseen
pub same_unseen : {D : Type 0} {disks : Ghosts D} (volume : Volume D disks) → IsQuiet (past_of volume) → (IsTold (past_of volume) → IsSound (volume_view volume) (now (past_of volume))) → Unseen volume volume
same_unseen volume quiet sound = steps_unseen volume volume quiet sound (no_steps volume (quiet_ready volume quiet sound))

module _ (view : model.Volume) (image : Image) (directory place-block place : ℕ) (node : Inode) (block : HasFreeBlock view image directory node place-block) (here : place / entries_per_block view.layout.kind ≡ place-block)
    (fits : FitsInode view.layout.kind node) where
  abbrev Is : Parts
  Is = parts_of view image

  there : zone_of_entry view.layout Is directory place ≢ 0
  there none = block.some (ap (zone_number view.layout Is directory) (sym here) ∙ none)

  size-same : (Is.node directory).size ≡ node.size
  size-same = ap (λ (i : Inode). i.size) block.node_is

  reached-same : model.blocks_for (Is.node directory).size ≤ reach view.layout.kind
  reached-same =
      let sized : is_size view.layout.kind node.size ≡ true = subst (λ s. is_size view.layout.kind s ≡ true) size-same ((opened view image block.sound).parts.size directory block.named) in
      rw size-same (blocks_reached view.layout.kind node.size fits.size_fits sized)

  pub below_is_free : place < places view.layout.kind node.size → IsFreePlace view image directory place
  below_is_free low = record {
    placed = record { named = block.named; is = block.is; reached = reached-same; below = rw size-same low; some = there };
    free = block.free place here;
  }

  module _ (past : places view.layout.kind node.size ≤ place) (sized : is_size view.layout.kind (size_to view.layout.kind place) ≡ true) (small : size_to view.layout.kind place < 2 ^ 32) where
    near : place / entries_per_block view.layout.kind < reach view.layout.kind
    near =
        let few = blocks_reached view.layout.kind (size_to view.layout.kind place) small sized in
        let to = places_to view.layout.kind place in
        let low = block-below view.layout.kind (size_to view.layout.kind place) place (omega (arith, to)) in
        omega (arith, few, low)

    pub is_past : IsPast view.layout Is directory place
    is_past = record { named = block.named; is = block.is; past = rw size-same past; some = there; reached = reached-same; near = near }

    pub may_size_to : place ≤ places view.layout.kind node.size → MaySize view.layout Is directory (size_to view.layout.kind place)
    may_size_to next = record {
      named = block.named;
      is = block.is;
      sized = sized;
      room = rw size-same (let e = places_to view.layout.kind place in omega (arith, e, past, next));
      reaches = λ low. blocks_reached view.layout.kind (size_to view.layout.kind place) small sized;
      free = λ other from below.
          let from' : places view.layout.kind node.size ≤ other = subst (λ s. places view.layout.kind s ≤ other) size-same from in
          let e = places_to view.layout.kind place in
          let same : other ≡ place = omega (arith, e, from', below, next, past) in
          ap (λ p. (entry view.layout Is directory p).inode) same ∙ block.free place here;
    }

-- ---- on a volume

module _ {D : Type 0} {disks : Ghosts D} (old : Volume D disks) (directory place : ℕ) (node : Inode) (fits : FitsInode (kind_view old.layout.kind) node)
    (block : IsTold (past_of old) → HasFreeBlockNow old directory node (place / entries_per_block (kind_view old.layout.kind))) where
  pub free_below : size_to (kind_view old.layout.kind) place ≤ node.size → IsTold (past_of old) → IsFreePlaceNow old directory place
  free_below low told = below_is_free (volume_view old) (now (past_of old)) directory _ place node (block told) refl fits (place_below (kind_view old.layout.kind) place node.size low)

  module _ (sized : is_size (kind_view old.layout.kind) (size_to (kind_view old.layout.kind) place) ≡ true) (small : size_to (kind_view old.layout.kind) place < 2 ^ 32) (past : node.size < size_to (kind_view old.layout.kind) place)
      (next : place ≤ places (kind_view old.layout.kind) node.size) (size : ℕ) (is : size ≡ size_to (kind_view old.layout.kind) place) where
    pub may_raise : IsTold (past_of old) → MayHaveSize old directory node size
    may_raise told =
        let b = block told in
        let P : ℕ → Type 0 = λ s. MaySize (super_view old.layout) (parts_of (volume_view old) (now (past_of old))) directory s in
        record {
          lies = record { sound = b.sound; is = b.node_is; named = b.named };
          sized = subst P (sym is) (may_size_to (volume_view old) (now (past_of old)) directory _ place node b refl fits (place_past (kind_view old.layout.kind) place node.size past) sized small next);
        }

    pub raised_is_free : (new : Volume D disks) (result : Result (Unit {0}) ZoneFault) → Unseen old new → TurnsInode old new directory (with_size node size) Device result → IsTold (past_of old)
        → OnOk result (IsFreePlaceNow new directory place)
    raised_is_free new result unseen turns told =
        let b = block told in
        let S : model.Volume → Type 0 = λ view. ((parts_of view (now (past_of new))).node directory).size ≡ size in
        let F : model.Volume → Type 0 = λ view. IsFreePlace view (now (past_of new)) directory place in
        on_ok result _ _ (size_is old new directory node Device fits size (omega (arith, is, small)) result turns told (may_raise told))
        (λ bytes. view_after old new F unseen (past_is_free (volume_view old) (now (past_of old)) (now (past_of new)) directory place
        (is_past (volume_view old) (now (past_of old)) directory _ place node b refl fits (place_past (kind_view old.layout.kind) place node.size past) sized small)
        (unseen.held told) (bytes ∙ is)))

    pub raised_keeps : (new : Volume D disks) (result : Result (Unit {0}) ZoneFault) → TurnsInode old new directory (with_size node size) Device result → IsTold (past_of old)
        → OnOk result (KeepsOthersNow old new directory [])
    raised_keeps new result turns told = size_keeps old new directory node Device fits size (omega (arith, is, small)) result turns told (may_raise told)
