-- No name sees that a directory gets one zone full of zeros.
use Rattle.std.proofs.Common.{◌≡◌, ◌≢◌, ℕ, suc, ◌-◌, ◌/◌, ◌%◌, ◌<◌, ◌≤◌, ◌==◌, ◌⊎◌, Bool, true, false, List, [], ◌∷◌, length, replicate, bytes_eq, refl, sym, ◌∙◌, ap, subst, arith, eq-eqb, inl, inr, ⊎_elim}
use Rattle.std.specs.Prelude.{slice_index}
use Rattle.std.proofs.lemmas.Bool.{eqb-true}
use Rattle.std.proofs.lemmas.Slice.Eq.{bytes_eq-Decides}
use Rattle.lilo_model.specs.MinixLayout.{Super, Inode, reach, is_size}
use Rattle.lilo_model.specs.MinixParts.{Parts, Pointer, IsPointer, is_directory, has_zones, number_in, number_below, follow, block_pointer, zone_bytes, blocks_for}
use Rattle.lilo_model.specs.MinixEntries.{Entry, entry_in, entries_per_block, places}
use Rattle.lilo_model.specs.MinixNames.{pointer, zone_number, block, entry, Named, PointsTo, Refers, Sound}
use Rattle.minix_laws.proofs.Pointers.{pointer_law}
use Rattle.minix_change_laws.specs.Sees.{IsFresh, Sees}
use Rattle.minix_change_laws.proofs.Inode.{directory-zones, shorter}
use Rattle.minix_change_laws.proofs.Kept.{same-is-but-links}
use Rattle.minix_change_laws.specs.Grows.{pointer_at, below, Hooks}
use Rattle.minix_change_laws.proofs.Zeros.{number-zeros}
use Rattle.minix_change_laws.proofs.Extends.{is-own, of-node, OthersStay, file-other, points-was, points-is, entry-other, links-stay, room-other, size-other, reaches-other, free-other}

-- ---- pointers are the same or not

either-by : (q at : Pointer) (top trail : Bool) → (q.top == at.top) ≡ top → bytes_eq q.trail at.trail ≡ trail → (q ≡ at) ⊎ (q ≢ at)
either-by q at true true top trail =
    let one : q.top ≡ at.top = eqb-true q.top at.top top in
    let two : q.trail ≡ at.trail = (bytes_eq-Decides q.trail at.trail).0 trail in
    inl (ap (λ t. pointer_at t q.trail) one ∙ ap (pointer_at at.top) two)
either-by q at false trail top is = inr (λ e. let t = eq-eqb q.top at.top (ap (λ (p : Pointer). p.top) e) in cc)
either-by q at true false top is = inr (λ e. let t = (bytes_eq-Decides q.trail at.trail).1 (ap (λ (p : Pointer). p.trail) e) in cc)

pub either : (q at : Pointer) → (q ≡ at) ⊎ (q ≢ at)
either q at = either-by q at _ _ refl refl

-- what is in a zone isn't where its number lies
pub not-itself : (top index : ℕ) (before : List ℕ) (at : Pointer) → at.trail ≡ (index ∷ before) → pointer_at top before ≢ at
not-itself top index before at trail same =
    let one : length before ≡ length at.trail = ap (λ (p : Pointer). length p.trail) same in
    let two : length at.trail ≡ suc (length before) = ap length trail in
    absurd (omega (arith, one, two))

module _ (super : Super) (old new : Parts) (directory : ℕ) (at : Pointer) (zone : ℕ) (sound : Sound super old) (place : IsPointer super.kind at) (hooks : Hooks super old new directory at zone) (zeros : new.zone zone ≡ replicate 1024 0) where
  zones-old : has_zones (old.node directory) ≡ true
  zones-old = directory-zones old directory hooks.is

  some-by : (y index : ℕ) → y ≢ 0 → (hole : Bool) → (y == 0) ≡ hole → number_below super.kind new.zone y index ≡ number_in super.kind (new.zone y) index
  some-by y index some true hole = absurd (some (eqb-true y 0 hole))
  some-by y index some false hole = rw hole refl

  -- below the zone, which is full of zeros, is no number
  pub below-zone : (index : ℕ) → number_below super.kind new.zone zone index ≡ 0
  below-zone index =
      some-by zone index hooks.some _ refl ∙ (ap (λ bytes. number_in super.kind bytes index) zeros ∙ number-zeros super.kind index)

  -- ---- each other pointer of the directory is as it was

  below-by : (top index : ℕ) (before : List ℕ) → IsPointer super.kind (pointer_at top (index ∷ before)) → pointer_at top (index ∷ before) ≢ at
      → (y : ℕ) → follow super.kind old.zone (slice_index (old.node directory).zones top) before ≡ y → (hole : Bool) → (y == 0) ≡ hole → number_below super.kind new.zone y index ≡ number_below super.kind old.zone y index
  below-by top index before is apart y to true hole = rw hole refl
  below-by top index before is apart y to false hole =
      let some : y ≢ 0 = λ e. let t = eq-eqb y 0 e in cc in
      rw hole (hooks.numbers (pointer_at top before) y index (record { kind = zones-old; place = shorter super top index before is; is = to; some = some }) is apart)

  -- where the trail ends at the pointer
  at-zone : (trail : List ℕ) → at.trail ≡ trail → follow super.kind new.zone (slice_index (new.node directory).zones at.top) trail ≡ zone → (top : ℕ) (before : List ℕ) → pointer_at top before ≡ at
      → follow super.kind new.zone (slice_index (new.node directory).zones top) before ≡ zone
  at-zone trail same here top before is =
      let one : top ≡ at.top = ap (λ (p : Pointer). p.top) is in
      let two : before ≡ trail = ap (λ (p : Pointer). p.trail) is ∙ same in
      ap (λ t. follow super.kind new.zone (slice_index (new.node directory).zones t) before) one
      ∙ (ap (follow super.kind new.zone (slice_index (new.node directory).zones at.top)) two ∙ here)

  at-hole : (top : ℕ) (before : List ℕ) → pointer_at top before ≡ at → follow super.kind old.zone (slice_index (old.node directory).zones top) before ≡ 0
  at-hole top before is = ap (pointer super old directory) is ∙ hooks.hole

  mutual-follow : (top : ℕ) (trail : List ℕ) → IsPointer super.kind (pointer_at top trail)
      → ((pointer_at top trail ≢ at) → follow super.kind new.zone (slice_index (new.node directory).zones top) trail ≡ follow super.kind old.zone (slice_index (old.node directory).zones top) trail)
      × ((pointer_at top trail ≡ at) → follow super.kind new.zone (slice_index (new.node directory).zones top) trail ≡ zone)
  unfolding follow
  mutual-follow top [] is = (λ apart. hooks.tops top apart, λ same. ap (λ t. slice_index (new.node directory).zones t) (ap (λ (p : Pointer). p.top) same) ∙ hooks.top (sym (ap (λ (p : Pointer). p.trail) same)))
  mutual-follow top (index ∷ before) is =
      let outer = shorter super top index before is in
      let earlier = mutual-follow top before outer in (
        λ apart. ⊎_elim
            (λ same. ap (λ y. number_below super.kind new.zone y index) (earlier.1 same) ∙ (below-zone index ∙ sym (ap (λ y. number_below super.kind old.zone y index) (at-hole top before same))))
            (λ away. ap (λ y. number_below super.kind new.zone y index) (earlier.0 away) ∙ below-by top index before is apart (follow super.kind old.zone (slice_index (old.node directory).zones top) before) refl _ refl)
            (either (pointer_at top before) at),
        λ same.
            let trail : at.trail ≡ (index ∷ before) = sym (ap (λ (p : Pointer). p.trail) same) in
            let high : at.top ≡ top = sym (ap (λ (p : Pointer). p.top) same) in
            let was : pointer super old directory (pointer_at at.top before) ≢ 0 = hooks.outer index before trail in
            let was' : follow super.kind old.zone (slice_index (old.node directory).zones top) before ≢ 0 = subst (λ t. follow super.kind old.zone (slice_index (old.node directory).zones t) before ≢ 0) high was in
            let number' : number_in super.kind (new.zone (follow super.kind old.zone (slice_index (old.node directory).zones top) before)) index ≡ zone =
            subst (λ t. number_in super.kind (new.zone (follow super.kind old.zone (slice_index (old.node directory).zones t) before)) index ≡ zone) high (hooks.number index before trail) in
            ap (λ y. number_below super.kind new.zone y index) (earlier.0 (not-itself top index before at trail))
            ∙ (some-by (follow super.kind old.zone (slice_index (old.node directory).zones top) before) index was' _ refl ∙ number'),
      )

  pub other-pointer : (q : Pointer) → IsPointer super.kind q → q ≢ at → pointer super new directory q ≡ pointer super old directory q
  other-pointer q is apart = (mutual-follow q.top q.trail is).0 apart

  pub here-pointer : pointer super new directory at ≡ zone
  here-pointer = (mutual-follow at.top at.trail place).1 refl

  -- ---- its blocks are as they were

  kept-by : (index y : ℕ) → zone_number super old directory index ≡ y → (hole : Bool) → (y == 0) ≡ hole → zone_bytes new y ≡ zone_bytes old y
  unfolding zone_number
  kept-by index y to true hole = rw hole refl
  kept-by index y to false hole =
      let some : y ≢ 0 = λ e. let t = eq-eqb y 0 e in cc in
      let refers : Refers super old directory (block_pointer super.kind index) y = record { named = hooks.named; to = record { kind = zones-old; place = (pointer_law super.kind).is index; is = to; some = some } } in
      rw hole (hooks.zones directory (block_pointer super.kind index) y refers (λ here deeper. too-long deeper.0 deeper.1))
    where
      too-long : (deeper : ℕ) → at ≡ below (block_pointer super.kind index) deeper → ⊥
      too-long deeper same =
          let whole : length (block_pointer super.kind index).trail ≡ (block_pointer super.kind index).top - 6 = (pointer_law super.kind).whole index in
          let long : length at.trail ≡ length (deeper ∷ (block_pointer super.kind index).trail) = ap (λ (p : Pointer). length p.trail) same in
          let high : at.top ≡ (block_pointer super.kind index).top = ap (λ (p : Pointer). p.top) same in
          let deep : length at.trail ≤ at.top - 6 = place.deep in
          omega (arith, whole, long, high, deep)

  block-by : (index : ℕ) → (block_pointer super.kind index ≡ at) ⊎ (block_pointer super.kind index ≢ at) → zone_bytes new (zone_number super new directory index) ≡ zone_bytes old (zone_number super old directory index)
  unfolding zone_number
  block-by index (inl same) =
      let was : zone_number super old directory index ≡ 0 = ap (pointer super old directory) same ∙ hooks.hole in
      let is : zone_number super new directory index ≡ zone = ap (pointer super new directory) same ∙ here-pointer in
      ap (zone_bytes new) is ∙ (filled _ refl ∙ sym (ap (zone_bytes old) was))
    where
      filled : (hole : Bool) → (zone == 0) ≡ hole → zone_bytes new zone ≡ zone_bytes old 0
      filled true hole = absurd (hooks.some (eqb-true zone 0 hole))
      filled false hole = rw hole zeros
  block-by index (inr apart) =
      ap (zone_bytes new) (other-pointer (block_pointer super.kind index) ((pointer_law super.kind).is index) apart)
      ∙ kept-by index (zone_number super old directory index) refl _ refl

  block-same : (index : ℕ) → block super new directory index ≡ block super old directory index
  unfolding block
  block-same index = block-by index (either (block_pointer super.kind index) at)

  own-entry : (place : ℕ) → entry super new directory place ≡ entry super old directory place
  unfolding entry
  own-entry place = ap (λ bytes. entry_in super.kind bytes (place % entries_per_block super.kind)) (block-same (place / entries_per_block super.kind))

  -- ---- pointers

  stay : OthersStay super old new directory
  stay = record {
    is = hooks.is;
    nodes = hooks.nodes;
    zones = λ number named other there y to. hooks.zones number there y (record { named = named; to = to }) (λ here deeper. other here);
  }

  own-zones : has_zones (new.node directory) ≡ true
  own-zones = let is : is_directory (new.node directory) ≡ true = rw hooks.mode hooks.is in directory-zones new directory is

  own-was : (there : Pointer) (y : ℕ) → there ≢ at → PointsTo super new directory there y → PointsTo super old directory there y
  own-was there y apart to = record { kind = zones-old; place = to.place; is = sym (other-pointer there to.place apart) ∙ to.is; some = to.some }

  own-is : (there : Pointer) (y : ℕ) → PointsTo super old directory there y → PointsTo super new directory there y
  own-is there y to =
      let apart : there ≢ at = λ same. to.some (sym to.is ∙ (ap (pointer super old directory) same ∙ hooks.hole)) in
      record { kind = own-zones; place = to.place; is = other-pointer there to.place apart ∙ to.is; some = to.some }

  -- who points to what was unused is the directory, there, to the zone
  pub record IsHook (number : ℕ) (there : Pointer) (y : ℕ) : Type 0 where
    pub own : number ≡ directory
    pub here : there ≡ at
    pub is : y ≡ zone

  pub points-by : (number : ℕ) (there : Pointer) (y : ℕ) → Named super old number → PointsTo super new number there y → PointsTo super old number there y ⊎ IsHook number there y
  points-by number there y named to = by_own (is-own directory number)
    where
      by_there : number ≡ directory → PointsTo super new directory there y → (there ≡ at) ⊎ (there ≢ at) → PointsTo super old number there y ⊎ IsHook number there y
      by_there same own (inl is) = inr (record { own = same; here = is; is = sym own.is ∙ (ap (pointer super new directory) is ∙ here-pointer) })
      by_there same own (inr apart) = inl (subst (λ n. PointsTo super old n there y) (sym same) (own-was there y apart own))

      by_own : (number ≡ directory) ⊎ (number ≢ directory) → PointsTo super old number there y ⊎ IsHook number there y
      by_own (inl same) = by_there same (subst (λ n. PointsTo super new n there y) same to) (either there at)
      by_own (inr other) = inl (points-was super old new directory sound stay number named other there y to)

  fresh-hook : (number : ℕ) (there : Pointer) (y : ℕ) → Named super old number → PointsTo super new number there y → IsFresh super old new y → IsHook number there y
  fresh-hook number there y named to fresh = ⊎_elim (λ was. absurd (fresh.unused number there (record { named = named; to = was }))) (λ hook. hook) (points-by number there y named to)

  pub hooked : Sees super old new
  hooked = record {
    modes = λ number named. of-node directory (λ n. (new.node n).mode ≡ (old.node n).mode) number hooks.mode (λ other. ap (λ (i : Inode). i.mode) (hooks.nodes number named other));
    sizes = λ number named. of-node directory (λ n. is_size super.kind (new.node n).size ≡ true) number hooks.sized (λ other. size-other super old new directory sound stay number named other);
    marks = λ number named. hooks.marks number named ∙ sound.marked number named;
    links = links-stay super old new directory sound stay hooks.links;
    files = λ number named file. same-is-but-links (old.node number) (new.node number) (hooks.nodes number named (file-other super old new directory sound stay number file));
    bytes = λ number there y refers file. stay.zones number refers.named (file-other super old new directory sound stay number file) there y refers.to;
    room = λ number named is. of-node directory (λ n. places super.kind (old.node n).size ≤ places super.kind (new.node n).size) number hooks.room (λ other. room-other super old new directory sound stay number named other);
    reaches = λ number named is. of-node directory (λ n. blocks_for (old.node n).size ≤ reach super.kind → blocks_for (new.node n).size ≤ reach super.kind) number hooks.reaches (λ other. reaches-other super old new directory sound stay number named other);
    entries = λ number place' named is below'. of-node directory (λ n. entry super new n place' ≡ entry super old n place') number (own-entry place') (λ other. entry-other super old new directory sound stay number place' named is other);
    free = λ number place' named is. of-node directory (λ n. places super.kind (old.node n).size ≤ place' → place' < places super.kind (new.node n).size → (entry super new n place').inode ≡ 0) number
        (λ from below'. ap (λ (e : Entry). e.inode) (own-entry place') ∙ hooks.free place' from below')
        (λ other from below'. absurd (free-other super old new directory sound stay number place' named other from below'));
    stays = λ number there y refers is. of-node directory (λ n. PointsTo super old n there y → PointsTo super new n there y) number (own-is there y) (λ other. points-is super old new directory sound stay number refers.named other there y) refers.to;
    refers = λ number there y named is to. ⊎_elim (λ was. inl was) (λ (hook : IsHook number there y). inr (subst (IsFresh super old new) (sym hook.is) hooks.fresh)) (points-by number there y named to);
    once = λ number other there there' y named named' one two fresh.
        let a = fresh-hook number there y named one fresh in
        let b = fresh-hook other there' y named' two fresh in
        (a.own ∙ sym b.own, a.here ∙ sym b.here);
    zone_marks = λ number there y refers. hooks.zone_marks number there y refers ∙ sound.zone_marked number there y refers;
  }
