-- What was seen by an entry has a name.
use Rattle.std.proofs.Common.{◌≡◌, ℕ, zero, suc, ◌==◌, Bool, true, false, List, [], ◌∷◌, Some, refl, sym, ◌∙◌, ap, subst, arith, eq-eqb}
use Rattle.std.proofs.lemmas.Bool.{eqb-true}
use Rattle.lilo_model.specs.MinixLayout.{Super}
use Rattle.lilo_model.specs.MinixParts.{Parts, is_directory}
use Rattle.lilo_model.specs.MinixNames.{entry, then_lookup, reached, Named}
use Rattle.minix_survey_laws.specs.Survey.{IsTaken, NamesAt, Surveyed, AreFound}
use Rattle.minix_survey_laws.specs.Laws.{SeenLaw}
use Rattle.minix_survey_laws.proofs.Found.{names-found}
use Rattle.minix_survey_laws.proofs.Paths.{root-leads}

-- a path with one component more
pub names-lead : (super : Super) (parts : Parts) (seen : ℕ → Bool) (path : List (List ℕ)) (directory place inode : ℕ) → reached super parts path ≡ Some directory → NamesAt super parts seen directory place inode
    → ((other : ℕ) → IsTaken super parts directory other → (entry super parts directory other).name ≡ (entry super parts directory place).name → other ≡ place)
    → reached super parts ((entry super parts directory place).name ∷ path) ≡ Some inode
unfolding reached
names-lead super parts seen path directory place inode leads names once =
    ap (then_lookup super parts (entry super parts directory place).name) leads ∙ names-found super parts seen directory place inode names once

module _ (super : Super) (parts : Parts) (seen : ℕ → Bool) (level : ℕ → ℕ) (done : Surveyed super parts seen level) (found : AreFound super parts seen) where
  root-named : Named super parts 1
  root-named = record { path = []; leads = root-leads super parts }

  inner-named : (directory place inode : ℕ) → Named super parts directory → NamesAt super parts seen directory place inode → Named super parts inode
  inner-named directory place inode named names = record {
    path = (entry super parts directory place).name ∷ named.path;
    leads = names-lead super parts seen named.path directory place inode named.leads names
        (λ other taken same. done.facts.no_twice directory other place names.from taken names.by.taken same);
  }

  -- an inode, where each directory of a lower level has a name
  named-by : (number : ℕ) → seen number ≡ true
      → ((directory place : ℕ) → NamesAt super parts seen directory place number → Named super parts directory)
      → (root : Bool) → (number == 1) ≡ root → Named super parts number
  named-by number was before true root = subst (Named super parts) (sym (eqb-true number 1 root)) root-named
  named-by number was before false root =
      let by = found number was (λ e. let t = eq-eqb number 1 e in cc) in
      inner-named by.0 by.1 number (before by.0 by.1 by.2) by.2

  -- directories, by their level
  directory-named : (deep number : ℕ) → level number ≡ deep → seen number ≡ true → is_directory (parts.node number) ≡ true → Named super parts number
  directory-named zero number at was is =
      named-by number was
      (λ directory place names. let next = done.facts.next_level directory place number (record { was = was; is = is }) names in absurd (omega (arith, at, next)))
      _ refl
  directory-named (suc deep) number at was is =
      named-by number was
      (λ directory place names.
      let next = done.facts.next_level directory place number (record { was = was; is = is }) names in
      directory-named deep directory (omega (arith, at, next)) names.from.was names.from.is)
      _ refl

  pub seen-named : (number : ℕ) → seen number ≡ true → Named super parts number
  seen-named number was =
      named-by number was (λ directory place names. directory-named (level directory) directory refl names.from.was names.from.is) _ refl

pub seen_law : SeenLaw
seen_law super parts seen level number done found was = seen-named super parts seen level done found number was
