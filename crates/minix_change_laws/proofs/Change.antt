-- What a change in one directory does to paths.
use Rattle.std.proofs.Common.{◌≡◌, ◌≢◌, ℕ, ◌⊎◌, Bool, true, false, List, [], ◌∷◌, length, bytes_eq, Option, Some, None, refl, sym, ◌∙◌, ap, subst, arith, inl, inr}
use Rattle.std.proofs.lemmas.Slice.Eq.{bytes_eq-Decides}
use Rattle.lilo_model.specs.MinixLayout.{Super}
use Rattle.lilo_model.specs.MinixParts.{Parts}
use Rattle.lilo_model.specs.MinixNames.{lookup, then_lookup, reached, Sound}
use Rattle.minix_change_laws.specs.Change.{FindsLeaf, ChangesIn, PathsFrom}
use Rattle.minix_change_laws.specs.BesideLaws.{ChangeLaw}

-- ---- names and paths are the same or not

name-cases : (one other : List ℕ) → (one ≡ other) ⊎ (one ≢ other)
name-cases one other = by_test _ refl
  where
    by_test : (same : Bool) → bytes_eq one other ≡ same → (one ≡ other) ⊎ (one ≢ other)
    by_test true is = inl ((bytes_eq-Decides one other).0 is)
    by_test false is = inr (λ e. let t = (bytes_eq-Decides one other).1 e in cc)

pub path-cases : (one other : List (List ℕ)) → (one ≡ other) ⊎ (one ≢ other)
path-cases [] [] = inl refl
path-cases [] (name ∷ path) = inr (λ e. cc)
path-cases (name ∷ path) [] = inr (λ e. cc)
path-cases (name ∷ path) (other ∷ there) = both (name-cases name other) (path-cases path there)
  where
    both : (name ≡ other) ⊎ (name ≢ other) → (path ≡ there) ⊎ (path ≢ there) → (name ∷ path ≡ other ∷ there) ⊎ (name ∷ path ≢ other ∷ there)
    both (inl same) (inl same') = inl cc
    both (inl same) (inr apart) = inr (λ e. apart cc)
    both (inr apart) rest = inr (λ e. apart cc)

module _ (super : Super) (old new : Parts) (outer : List (List ℕ)) (directory : ℕ) (sound : Sound super old) (change : ChangesIn super old new outer directory) where
  -- a name of what a path leads to that isn't the directory's
  step : (last : List ℕ) (path : List (List ℕ)) → path ≢ outer → (found : Option ℕ) → reached super old path ≡ found
      → then_lookup super new last found ≡ then_lookup super old last found
  step last path apart None leads = refl
  step last path apart (Some number) leads =
      let other : number ≢ directory = λ same. apart (sound.one_name directory path outer change.is (leads ∙ ap Some same) change.leads) in
      change.elsewhere number last (record { path = path; leads = leads }) other

  -- nothing is found below
  below : (parts : Parts) (name last : List ℕ) → FindsLeaf super parts directory name → (found : Option ℕ) → lookup super parts name directory ≡ found → then_lookup super parts last found ≡ None
  below parts name last leaf None is = refl
  below parts name last leaf (Some number) is = leaf number is last

  too-long : (name : List ℕ) (path : List (List ℕ)) → path ≢ name ∷ path
  too-long name path e = let n : length path ≡ length (name ∷ path) = ap length e in absurd (omega (arith, n))

  -- the directory itself has no path of one of its names
  outer-apart : (name : List ℕ) → outer ≢ name ∷ outer
  outer-apart name = too-long name outer

  -- ---- the directory's names, where its own path leads to it as before

  module _ (same : reached super new outer ≡ reached super old outer) where
    now-name : (name : List ℕ) → reached super new (name ∷ outer) ≡ lookup super new name directory
    unfolding reached
    now-name name = ap (then_lookup super new name) (same ∙ change.leads)

    was-name : (name : List ℕ) → reached super old (name ∷ outer) ≡ lookup super old name directory
    unfolding reached
    was-name name = ap (then_lookup super old name) change.leads

    under-by : (last name : List ℕ) → (lookup super new name directory ≡ lookup super old name directory) ⊎ (FindsLeaf super old directory name × FindsLeaf super new directory name)
        → reached super new (last ∷ (name ∷ outer)) ≡ reached super old (last ∷ (name ∷ outer))
    unfolding reached
    under-by last name (inl kept) =
        ap (then_lookup super new last) (now-name name ∙ (kept ∙ sym (was-name name)))
        ∙ step last (name ∷ outer) (λ e. outer-apart name (sym e)) (reached super old (name ∷ outer)) refl
    under-by last name (inr (leaf, leaf')) =
        ap (then_lookup super new last) (now-name name) ∙ below new name last leaf' _ refl
        ∙ sym (ap (then_lookup super old last) (was-name name) ∙ below old name last leaf _ refl)

    under-name : (last name : List ℕ) → reached super new (last ∷ (name ∷ outer)) ≡ reached super old (last ∷ (name ∷ outer))
    under-name last name = under-by last name (change.here name)

  -- ---- all paths, by the number of components

  abbrev IsSame : List (List ℕ) → Type 0
  IsSame path = ((name : List ℕ) → path ≢ name ∷ outer) → reached super new path ≡ reached super old path

  -- the path above one
  abbrev AboveSame : List (List ℕ) → Type 0
  AboveSame [] = Unit {0}
  AboveSame (last ∷ path) = IsSame path

  longer : (last : List ℕ) (path : List (List ℕ)) → path ≢ outer → reached super new path ≡ reached super old path → reached super new (last ∷ path) ≡ reached super old (last ∷ path)
  unfolding reached
  longer last path apart same = ap (then_lookup super new last) same ∙ step last path apart (reached super old path) refl

  one-more : (last : List ℕ) (path : List (List ℕ)) → path ≢ outer → IsSame path → AboveSame path → reached super new (last ∷ path) ≡ reached super old (last ∷ path)
  one-more last [] apart same above = longer last [] apart (same (λ name e. cc))
  one-more last (name ∷ path) apart same above = by_cases (path-cases path outer)
    where
      by_cases : (path ≡ outer) ⊎ (path ≢ outer) → reached super new (last ∷ (name ∷ path)) ≡ reached super old (last ∷ (name ∷ path))
      by_cases (inr other) = longer last (name ∷ path) apart (same (λ name' e. other cc))
      by_cases (inl is) =
          let P : List (List ℕ) → Type 0 = IsSame in
          let Q : List (List ℕ) → Type 0 = λ p. reached super new (last ∷ (name ∷ p)) ≡ reached super old (last ∷ (name ∷ p)) in
          subst Q (sym is) (under-name (subst P is above outer-apart) last name)

  both-same : (path : List (List ℕ)) → IsSame path × AboveSame path
  unfolding reached
  both-same [] = (λ apart. refl, tt)
  both-same (last ∷ path) =
      let rest = both-same path in
      (λ apart. one-more last path (λ e. apart last (ap (λ p. last ∷ p) e)) rest.0 rest.1, rest.0)

  paths-from : PathsFrom super old new outer directory
  paths-from = record {
    here = now-name ((both-same outer).0 outer-apart);
    elsewhere = λ path. (both-same path).0;
  }

pub change_law : ChangeLaw
change_law super old new outer directory sound change = paths-from super old new outer directory sound change
