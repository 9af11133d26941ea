-- Where a directory finds a name, there is an entry of it.
use Rattle.std.proofs.Common.{◌≡◌, ◌≢◌, ℕ, zero, suc, ◌<◌, ◌==◌, ◌&&◌, Bool, true, false, not, if◌then◌else◌, List, bytes_eq, Option, Some, None, refl, sym, ◌∙◌, ap, arith, eq-eqb}
use Rattle.std.specs.Option.{option_or}
use Rattle.std.proofs.lemmas.Bool.{eqb-true, ne_eqb}
use Rattle.std.proofs.lemmas.Slice.Eq.{bytes_eq-Decides}
use Rattle.lilo_model.specs.MinixLayout.{Super}
use Rattle.lilo_model.specs.MinixParts.{Parts, is_directory}
use Rattle.lilo_model.specs.MinixEntries.{Entry, entry_with, named_inode, places, is_dots}
use Rattle.lilo_model.specs.MinixNames.{entry, first_named, lookup}
use Rattle.minix_survey_laws.specs.Survey.{IsTaken, NamesAt}
use Rattle.minix_laws.proofs.FirstNamed.{named_inode-some}

-- ---- the first entry of a name

-- an entry of a name is below a number
pub record StandsBelow (at : ℕ → Entry) (name : List ℕ) (count inode : ℕ) : Type 0 where
  pub place : ℕ
  pub below : place < count
  pub some : inode ≢ 0
  pub is : at place ≡ entry_with inode name

pub first_named-some : (at : ℕ → Entry) (name : List ℕ) (count inode : ℕ) → first_named at name count ≡ Some inode → StandsBelow at name count inode
unfolding first_named
first_named-some at name zero inode found = cc
first_named-some at name (suc count) inode found = by_case (λ before. first_named-some at name count inode before) (first_named at name count) refl found
  where
    by_case : (first_named at name count ≡ Some inode → StandsBelow at name count inode) → (before : Option ℕ) → first_named at name count ≡ before
        → option_or before (named_inode name (at count)) ≡ Some inode → StandsBelow at name (suc count) inode
    by_case below (Some first) is given =
        let rest : StandsBelow at name count inode = below (is ∙ given) in
        let low : rest.place < count = rest.below in
        record { place = rest.place; below = omega (arith, low); some = rest.some; is = rest.is }
    by_case below None is given =
        let last = named_inode-some name (at count) inode given in
        record { place = count; below = omega arith; some = last.0; is = last.1 }

-- no entry has the name
named_inode-by : (name : List ℕ) (what : Entry) (is_free same : Bool) → (what.inode == 0) ≡ is_free → bytes_eq what.name name ≡ same
    → (what.inode ≢ 0 → what.name ≡ name → ⊥) → named_inode name what ≡ None
named_inode-by name what true same is_free is_same other = rw is_free refl
named_inode-by name what false false is_free is_same other = rw (is_free, is_same) refl
named_inode-by name what false true is_free is_same other =
    absurd (other (λ e. let t = eq-eqb what.inode 0 e in cc) ((bytes_eq-Decides what.name name).0 is_same))

first_named-none : (at : ℕ → Entry) (name : List ℕ) (count : ℕ) → ((place : ℕ) → place < count → (at place).inode ≢ 0 → (at place).name ≡ name → ⊥) → first_named at name count ≡ None
unfolding first_named
first_named-none at name zero none = refl
first_named-none at name (suc count) none =
    let before : first_named at name count ≡ None = first_named-none at name count (λ place below. none place (omega (arith, below))) in
    let last : named_inode name (at count) ≡ None = named_inode-by name (at count) _ _ refl refl (none count (omega arith)) in
    rw (before, last) refl

-- one entry has it
named_inode-same : (name : List ℕ) (what : Entry) → what.inode ≢ 0 → what.name ≡ name → named_inode name what ≡ Some what.inode
named_inode-same name what some is =
    let same : bytes_eq what.name name ≡ true = (bytes_eq-Decides what.name name).1 is in
    rw (ne_eqb what.inode 0 some, same) refl

once-by : (at : ℕ → Entry) (name : List ℕ) (count place : ℕ) → place < suc count → (at place).inode ≢ 0 → (at place).name ≡ name
    → ((other : ℕ) → other < suc count → (at other).inode ≢ 0 → (at other).name ≡ name → other ≡ place)
    → (place < count → first_named at name count ≡ Some (at place).inode)
    → (last : Bool) → (place == count) ≡ last → option_or (first_named at name count) (named_inode name (at count)) ≡ Some (at place).inode
once-by at name count place below some is once before true last =
    let here : place ≡ count = eqb-true place count last in
    let none : first_named at name count ≡ None = first_named-none at name count (λ p low some' is'. let e : p ≡ place = once p (omega (arith, low)) some' is' in absurd (omega (arith, e, here, low))) in
    let found : named_inode name (at place) ≡ Some (at place).inode = named_inode-same name (at place) some is in
    rw none (ap (λ k. named_inode name (at k)) (sym here) ∙ found)
once-by at name count place below some is once before false last =
    let other : place ≢ count = λ e. let t = eq-eqb place count e in cc in
    rw (before (omega (arith, below, other))) refl

pub first_named-once : (at : ℕ → Entry) (name : List ℕ) (count place : ℕ) → place < count → (at place).inode ≢ 0 → (at place).name ≡ name
    → ((other : ℕ) → other < count → (at other).inode ≢ 0 → (at other).name ≡ name → other ≡ place)
    → first_named at name count ≡ Some (at place).inode
unfolding first_named
first_named-once at name zero place below some is once = absurd (omega (arith, below))
first_named-once at name (suc count) place below some is once =
    once-by at name count place below some is once
    (λ low. first_named-once at name count place low some is (λ other low'. once other (omega (arith, low'))))
    _ refl

-- ---- a directory

-- a directory has an entry by a name that is neither `.` nor `..`
pub record Finds (super : Super) (parts : Parts) (name : List ℕ) (directory inode : ℕ) : Type 0 where
  pub is_directory : is_directory (parts.node directory) ≡ true
  pub plain : is_dots name ≡ false
  pub stands : StandsBelow (entry super parts directory) name (places super.kind (parts.node directory).size) inode

pub lookup-finds : (super : Super) (parts : Parts) (name : List ℕ) (directory inode : ℕ) → lookup super parts name directory ≡ Some inode → Finds super parts name directory inode
unfolding lookup
lookup-finds super parts name directory inode given = by_test _ _ refl refl given
  where
    by_test : (is dots : Bool) → is_directory (parts.node directory) ≡ is → is_dots name ≡ dots
        → (if is && not dots then first_named (entry super parts directory) name (places super.kind (parts.node directory).size) else None) ≡ Some inode
        → Finds super parts name directory inode
    by_test true false is dots found = record {
      is_directory = is;
      plain = dots;
      stands = first_named-some (entry super parts directory) name (places super.kind (parts.node directory).size) inode found;
    }
    by_test true true is dots found = cc
    by_test false dots is is_dots found = cc

-- an entry whose name appears once is found
pub names-found : (super : Super) (parts : Parts) (seen : ℕ → Bool) (directory place inode : ℕ) → NamesAt super parts seen directory place inode
    → ((other : ℕ) → IsTaken super parts directory other → (entry super parts directory other).name ≡ (entry super parts directory place).name → other ≡ place)
    → lookup super parts (entry super parts directory place).name directory ≡ Some inode
unfolding lookup
names-found super parts seen directory place inode names once =
    let found : first_named (entry super parts directory) (entry super parts directory place).name (places super.kind (parts.node directory).size) ≡ Some (entry super parts directory place).inode =
    first_named-once (entry super parts directory) (entry super parts directory place).name (places super.kind (parts.node directory).size) place names.by.taken.below names.by.taken.some refl
    (λ other below some same. once other (record { below = below; some = some }) same) in
    rw (names.from.is, names.by.plain) (found ∙ ap Some names.by.is)
