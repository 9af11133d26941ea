-- What is marked over changes in a row.
use Rattle.std.proofs.Common.{◌≡◌, ◌≤◌, ◌||◌, ℕ, Bool, true, false, refl, sym, ◌∙◌, ap, subst, arith}
use Rattle.std.proofs.lemmas.Bool.{false_from_ne_true, or_left}
use Rattle.lilo_model.specs.MinixLayout.{Super, Inode}
use Rattle.lilo_model.specs.MinixNames.{PointsTo}
use Rattle.lilo_model.specs.MinixParts.{Parts, Pointer, is_directory}
use Rattle.minix_change_laws.specs.Beside.{IsInode, IsDataZone}
use Rattle.minix_change_laws.specs.Sees.{SameButLinks}
use Rattle.minix_change_laws.proofs.Joins.{links-join}
use Rattle.install_stage_laws.specs.Marked.{IsFreed, IsOwnedAs, KeepsMarked, KeepsMarkedBut}

-- nothing changes
pub marked_none : (super : Super) (parts : Parts) → KeepsMarked super parts parts
marked_none super parts = record {
  marks = λ number is set. set;
  zone_marks = λ zone is set. set;
  nodes = λ number is set. refl;
  links = λ number is set. omega arith;
}

pub marked_join : (super : Super) (old mid new : Parts) → KeepsMarked super old mid → KeepsMarked super mid new → KeepsMarked super old new
marked_join super old mid new first next = record {
  marks = λ number is set. first.marks number is (next.marks number is set);
  zone_marks = λ zone is set. first.zone_marks zone is (next.zone_marks zone is set);
  nodes = λ number is set.
      links-join (old.node number) (mid.node number) (new.node number) (first.nodes number is (next.marks number is set)) (next.nodes number is set);
  links = λ number is set. let once = first.links number is (next.marks number is set) in let again = next.links number is set in omega (arith, once, again);
}

pub same_links : (old new : Inode) → new ≡ old → new.links ≤ old.links
same_links old new same = let e = ap (λ (i : Inode). i.links) same in omega (arith, e)

-- ---- owners

pub owned_links : (old new : Inode) → SameButLinks old new → IsOwnedAs old new
owned_links old new same = record {
  mode = ap (λ (i : Inode). i.mode) same;
  user = ap (λ (i : Inode). i.uid) same;
  group = ap (λ (i : Inode). i.gid) same;
  times = ap (λ (i : Inode). i.times) same;
}

owned-join : (old mid new : Inode) → IsOwnedAs old mid → IsOwnedAs mid new → IsOwnedAs old new
owned-join old mid new first next = record {
  mode = next.mode ∙ first.mode;
  user = next.user ∙ first.user;
  group = next.group ∙ first.group;
  times = next.times ∙ first.times;
}

plain-still : (old new : Inode) → IsOwnedAs old new → is_directory old ≡ false → is_directory new ≡ false
plain-still old new owned plain = rw owned.mode plain

-- ---- but for what was made

-- no bit is both
pub clash : {A : Type 0} → false ≡ true → A
clash both = absurd (let h : ⊥ = cc in h)

or-then : (old mid made : Bool) → (mid ≡ true → (old || made) ≡ true) → (mid || made) ≡ true → (old || made) ≡ true
or-then true mid made first set = refl
or-then false true made first set = first refl
or-then false false made first set = set

-- what is set and wasn't made was set
pub set_before : (old made : Bool) → made ≡ false → (old || made) ≡ true → old ≡ true
set_before true made none set = refl
set_before false made none set = clash (sym none ∙ set)

pub or_more : (old made more : Bool) → (made ≡ true → more ≡ true) → (old || made) ≡ true → (old || more) ≡ true
or_more true made more wider set = refl
or_more false made more wider set = wider set

not-wider : (made more : Bool) → (made ≡ true → more ≡ true) → more ≡ false → made ≡ false
not-wider true more wider none = clash (sym none ∙ wider refl)
not-wider false more wider none = refl

module _ (super : Super) (made zones : ℕ → Bool) where
  -- where nothing was made
  pub but_none : (old new : Parts) → KeepsMarked super old new → KeepsMarkedBut super made zones old new
  but_none old new keeps = record {
    marks = λ number is set. or_left (old.has_inode number) (made number) (keeps.marks number is set);
    zone_marks = λ zone is set. or_left (old.has_zone zone) (zones zone) (keeps.zone_marks zone is set);
    owners = λ number is set none. owned_links (old.node number) (new.node number) (keeps.nodes number is set);
    files = λ number is set none plain. (keeps.nodes number is set, keeps.links number is set);
  }

  module _ (old mid new : Parts) (first : KeepsMarkedBut super made zones old mid) (next : KeepsMarkedBut super made zones mid new) where
    pub but_join : KeepsMarkedBut super made zones old new
    but_join = record {
      marks = λ number is set. or-then (old.has_inode number) (mid.has_inode number) (made number) (first.marks number is) (next.marks number is set);
      zone_marks = λ zone is set. or-then (old.has_zone zone) (mid.has_zone zone) (zones zone) (first.zone_marks zone is) (next.zone_marks zone is set);
      owners = λ number is set none.
          let before = set_before (mid.has_inode number) (made number) none (next.marks number is set) in
          owned-join (old.node number) (mid.node number) (new.node number) (first.owners number is before none) (next.owners number is set none);
      files = λ number is set none plain.
          let before = set_before (mid.has_inode number) (made number) none (next.marks number is set) in
          let one = first.files number is before none plain in
          let two = next.files number is set none (plain-still (old.node number) (mid.node number) (first.owners number is before none) plain) in
          (links-join (old.node number) (mid.node number) (new.node number) one.0 two.0, let once = one.1 in let again = two.1 in omega (arith, once, again));
    }

-- more may be made
pub but_more : (super : Super) (made zones more wide : ℕ → Bool) (old new : Parts) → ((number : ℕ) → made number ≡ true → more number ≡ true)
    → ((zone : ℕ) → zones zone ≡ true → wide zone ≡ true) → KeepsMarkedBut super made zones old new → KeepsMarkedBut super more wide old new
but_more super made zones more wide old new inodes them keeps = record {
  marks = λ number is set. or_more (old.has_inode number) (made number) (more number) (inodes number) (keeps.marks number is set);
  zone_marks = λ zone is set. or_more (old.has_zone zone) (zones zone) (wide zone) (them zone) (keeps.zone_marks zone is set);
  owners = λ number is set none. keeps.owners number is set (not-wider (made number) (more number) (inodes number) none);
  files = λ number is set none plain. keeps.files number is set (not-wider (made number) (more number) (inodes number) none) plain;
}

-- ---- what was freed

-- is free still, where it isn't made again
pub freed_still : (super : Super) (made zones : ℕ → Bool) (old mid new : Parts) (number : ℕ) → IsInode super number → made number ≡ false
    → ((at : Pointer) (zone : ℕ) → PointsTo super old number at zone → IsDataZone super zone × (zones zone ≡ false))
    → IsFreed super old number mid → KeepsMarkedBut super made zones mid new → IsFreed super old number new
freed_still super made zones old mid new number is none them freed keeps = record {
  mark = false_from_ne_true (new.has_inode number) (λ set. clash (sym freed.mark ∙ set_before (mid.has_inode number) (made number) none (keeps.marks number is set)));
  zone_marks = λ at zone to. false_from_ne_true (new.has_zone zone) (λ set.
      let its = them at zone to in
      clash (sym (freed.zone_marks at zone to) ∙ set_before (mid.has_zone zone) (zones zone) its.1 (keeps.zone_marks zone its.0 set)));
}
