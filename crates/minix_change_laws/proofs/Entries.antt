-- What a change of one entry does to what a directory finds.
use Rattle.std.proofs.Common.{◌≡◌, ◌≢◌, ℕ, zero, suc, ◌<◌, ◌==◌, ◌⊎◌, Bool, true, false, List, Option, Some, None, refl, sym, ◌∙◌, ap, subst, arith, eq-eqb, inl, inr}
use Rattle.std.specs.Option.{option_or}
use Rattle.std.proofs.lemmas.Bool.{eqb-true}
use Rattle.lilo_model.specs.MinixLayout.{Super}
use Rattle.lilo_model.specs.MinixParts.{Parts}
use Rattle.lilo_model.specs.MinixEntries.{Entry, entry_with, named_inode, places, is_dots}
use Rattle.lilo_model.specs.MinixNames.{entry, first_named, lookup, Sound}
use Rattle.minix_change_laws.specs.Change.{ChangesEntry, FindsBy}
use Rattle.minix_change_laws.specs.BesideLaws.{EntryLaw}
use Rattle.minix_laws.proofs.FirstNamed.{named_inode-some}

-- ---- the first entry of a name

or-none : (one : Option ℕ) → option_or one None ≡ one
or-none None = refl
or-none (Some inode) = refl

both-none : (one other : Option ℕ) → option_or one other ≡ None → (one ≡ None) × (other ≡ None)
both-none None other none = (refl, none)
both-none (Some inode) other none = cc

first-same : (at there : ℕ → Entry) (name : List ℕ) (count : ℕ) → ((place : ℕ) → place < count → named_inode name (at place) ≡ named_inode name (there place)) → first_named at name count ≡ first_named there name count
unfolding first_named
first-same at there name zero same = refl
first-same at there name (suc count) same =
    rw (first-same at there name count (λ place below. same place (omega (arith, below))), same count (omega arith)) refl

absent-by : (at : ℕ → Entry) (name : List ℕ) (count place : ℕ) → place < suc count → named_inode name (at count) ≡ None → (place < count → named_inode name (at place) ≡ None)
    → (last : Bool) → (place == count) ≡ last → named_inode name (at place) ≡ None
absent-by at name count place below none before true is = ap (λ n. named_inode name (at n)) (eqb-true place count is) ∙ none
absent-by at name count place below none before false is =
    let apart : place ≢ count = λ e. let t = eq-eqb place count e in cc in
    before (omega (arith, below, apart))

first-absent : (at : ℕ → Entry) (name : List ℕ) (count : ℕ) → first_named at name count ≡ None → (place : ℕ) → place < count → named_inode name (at place) ≡ None
unfolding first_named
first-absent at name zero none place below = absurd (omega (arith, below))
first-absent at name (suc count) none place below =
    let parts = both-none (first_named at name count) (named_inode name (at count)) none in
    absent-by at name count place below parts.1 (first-absent at name count parts.0 place) _ refl

pub first-none : (at : ℕ → Entry) (name : List ℕ) (count : ℕ) → ((place : ℕ) → place < count → named_inode name (at place) ≡ None) → first_named at name count ≡ None
unfolding first_named
first-none at name zero none = refl
first-none at name (suc count) none = rw (first-none at name count (λ place below. none place (omega (arith, below))), none count (omega arith)) refl

only-by : (at : ℕ → Entry) (name : List ℕ) (count place : ℕ) → place < suc count → ((other : ℕ) → other < suc count → other ≢ place → named_inode name (at other) ≡ None)
    → (place < count → first_named at name count ≡ named_inode name (at place)) → (last : Bool) → (place == count) ≡ last
    → option_or (first_named at name count) (named_inode name (at count)) ≡ named_inode name (at place)
only-by at name count place below none before true is =
    let here : place ≡ count = eqb-true place count is in
    let no : first_named at name count ≡ None = first-none at name count (λ other low. none other (omega (arith, low)) (λ e. absurd (omega (arith, e, here, low)))) in
    rw no (ap (λ n. named_inode name (at n)) (sym here))
only-by at name count place below none before false is =
    let apart : count ≢ place = λ e. let t = eq-eqb place count (sym e) in cc in
    rw (before (omega (arith, below, apart)), none count (omega arith) apart) (or-none (named_inode name (at place)))

first-only : (at : ℕ → Entry) (name : List ℕ) (count place : ℕ) → place < count → ((other : ℕ) → other < count → other ≢ place → named_inode name (at other) ≡ None) → first_named at name count ≡ named_inode name (at place)
unfolding first_named
first-only at name zero place below none = absurd (omega (arith, below))
first-only at name (suc count) place below none =
    only-by at name count place below none (λ low. first-only at name count place low (λ other low'. none other (omega (arith, low')))) _ refl

-- ---- a directory

module _ (super : Super) (old new : Parts) (directory place : ℕ) (sound : Sound super old) (change : ChangesEntry super old new directory place) where
  abbrev Count : ℕ
  Count = places super.kind (old.node directory).size

  -- where a name is looked up
  look : (parts : Parts) → parts.node directory ≡ old.node directory → (name : List ℕ) → is_dots name ≡ false → lookup super parts name directory ≡ first_named (entry super parts directory) name Count
  unfolding lookup
  look parts node name is = rw (node, change.is, is) refl

  kept-by : (name : List ℕ) → named_inode name (entry super new directory place) ≡ named_inode name (entry super old directory place) → (other : ℕ) → other < Count → (here : Bool) → (other == place) ≡ here
      → named_inode name (entry super new directory other) ≡ named_inode name (entry super old directory other)
  kept-by name same other below true here =
      let P : ℕ → Type 0 = λ n. named_inode name (entry super new directory n) ≡ named_inode name (entry super old directory n) in
      subst P (sym (eqb-true other place here)) same
  kept-by name same other below false here = ap (named_inode name) (change.others other below (λ e. let t = eq-eqb other place e in cc))

  kept-dots : (name : List ℕ) → (dots : Bool) → is_dots name ≡ dots → named_inode name (entry super new directory place) ≡ named_inode name (entry super old directory place) → lookup super new name directory ≡ lookup super old name directory
  unfolding lookup
  kept-dots name true is same = rw (change.node, change.is, is) refl
  kept-dots name false is same =
      look new change.node name is
      ∙ first-same (entry super new directory) (entry super old directory) name Count (λ other below. kept-by name same other below _ refl)
      ∙ sym (look old refl name is)

  -- no other entry had the name
  others-none : (name : List ℕ) → is_dots name ≡ false → (lookup super old name directory ≡ None) ⊎ (named_inode name (entry super old directory place) ≢ None)
      → (other : ℕ) → other < Count → other ≢ place → (found : Option ℕ) → named_inode name (entry super old directory other) ≡ found → named_inode name (entry super old directory other) ≡ None
  others-none name is had other below apart None finds = finds
  others-none name is (inl absent) other below apart (Some inode) finds = first-absent (entry super old directory) name Count (sym (look old refl name is) ∙ absent) other below
  others-none name is (inr had) other below apart (Some inode) finds = by_place _ refl
    where
      one : (inode ≢ 0) × (entry super old directory other ≡ entry_with inode name)
      one = named_inode-some name (entry super old directory other) inode finds

      by_place : (here : Option ℕ) → named_inode name (entry super old directory place) ≡ here → named_inode name (entry super old directory other) ≡ None
      by_place None none = absurd (had none)
      by_place (Some first) some =
          let two = named_inode-some name (entry super old directory place) first some in
          let same : other ≡ place = sound.no_twice directory other place inode first name change.named change.is one.0 two.0 (record { below = below; is = one.1 }) (record { below = change.below; is = two.1 }) in
          absurd (apart same)

  finds-by : FindsBy super old new directory place
  finds-by = record {
    kept = λ name. kept-dots name _ refl;
    changed = λ name is had.
        look new change.node name is
        ∙ first-only (entry super new directory) name Count place change.below (λ other below apart.
        ap (named_inode name) (change.others other below apart) ∙ others-none name is had other below apart _ refl);
  }

pub entry_law : EntryLaw
entry_law super old new directory place sound change = finds-by super old new directory place sound change
