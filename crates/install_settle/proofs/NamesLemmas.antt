-- Names without one, or with another, and what is at a name.
use Rattle.std.proofs.Common.{◌≡◌, ◌≢◌, ℕ, Bool, true, false, if◌then◌else◌, List, Option, None, refl, sym, ◌∙◌, ap, subst}
use Rattle.lilo_model.specs.Disks.{Image}
use Rattle.lilo_model.specs.MinixFindNames.{Names}
use Rattle.lilo_model.specs.MinixNames.{Thing, names_in}
use Rattle.lilo_model.specs.MinixParts.{Volume}
use Rattle.lilo_model.specs.NamePlaces.{same_path, with_name, without_name}
use Rattle.minix_names.proofs.PathLemmas.{path-same, same-is}
use Rattle.minix_change_laws.specs.Tree.{HasNamesWith, HasNamesMoved}

-- a path that isn't the same as another is another
pub apart-of : (path name : List (List ℕ)) → same_path path name ≡ false → name ≢ path
apart-of path name is same =
    let here : same_path path path ≡ true = path-same path in
    let other : same_path path path ≡ false = subst (λ (n : List (List ℕ)). same_path path n ≡ false) same is in
    cc

-- Names without one that isn't there
pub absent-same : (path name : List (List ℕ)) (names : Names) → names path ≡ None → without_name path names name ≡ names name
absent-same path name names none = by (same_path path name) refl
  where
    by : (test : Bool) → same_path path name ≡ test → (if test then None else names name) ≡ names name
    by true is = sym (ap names (sym (same-is path name is)) ∙ none)
    by false is = refl

-- the same Names with another
pub with-as : (path name : List (List ℕ)) (what : Option Thing) (one other : Names) → ((n : List (List ℕ)) → one n ≡ other n) → with_name path what one name ≡ with_name path what other name
with-as path name what one other same = by (same_path path name)
  where
    by : (test : Bool) → (if test then what else one name) ≡ (if test then what else other name)
    by true = refl
    by false = same name

module _ (volume : Volume) (old c : Image) where
  abbrev Old : Names
  Old = names_in volume old

  pub names-with : (path : List (List ℕ)) (what : Option Thing) → HasNamesWith volume old c path what → (name : List (List ℕ)) → names_in volume c name ≡ with_name path what Old name
  names-with path what has name = by (same_path path name) refl
    where
      by : (test : Bool) → same_path path name ≡ test → names_in volume c name ≡ (if test then what else Old name)
      by true is = ap (names_in volume c) (sym (same-is path name is)) ∙ has.here
      by false is = has.others name (apart-of path name is)

  pub names-moved : (former path : List (List ℕ)) → HasNamesMoved volume old c former path → (name : List (List ℕ)) → names_in volume c name ≡ without_name former (with_name path (Old former) Old) name
  names-moved former path has name = by (same_path former name) (same_path path name) refl refl
    where
      by : (gone here : Bool) → same_path former name ≡ gone → same_path path name ≡ here → names_in volume c name ≡ (if gone then None else (if here then Old former else Old name))
      by true here is at = ap (names_in volume c) (sym (same-is former name is)) ∙ has.gone
      by false true is at = ap (names_in volume c) (sym (same-is path name at)) ∙ has.here
      by false false is at = has.others name (apart-of former name is) (apart-of path name at)
