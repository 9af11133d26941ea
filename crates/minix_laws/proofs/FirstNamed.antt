-- The first entry of a name, where the name appears once.
use Rattle.std.proofs.Common.{◌≡◌, ◌≢◌, ℕ, zero, suc, ◌<◌, ◌==◌, ◌&&◌, Bool, true, false, not, if◌then◌else◌, List, Some, None, bytes_eq, refl, sym, ◌∙◌, ap, arith}
use Rattle.std.specs.Option.{option_or}
use Rattle.std.proofs.lemmas.Bool.{eqb-true, eq-eqb, ne_eqb}
use Rattle.std.proofs.lemmas.Slice.Eq.{bytes_eq-Decides}
use Rattle.lilo_model.specs.MinixEntries.{Entry, entry_with, named_inode}
use Rattle.lilo_model.specs.MinixNames.{first_named}

-- an entry of a name
some-by : (name : List ℕ) (what : Entry) (inode : ℕ) (is_free same : Bool) → (what.inode == 0) ≡ is_free → bytes_eq what.name name ≡ same
    → (if not is_free && same then Some what.inode else None) ≡ Some inode → (inode ≢ 0) × (what ≡ entry_with inode name)
some-by name what inode true same free is given = cc
some-by name what inode false false free is given = cc
some-by name what inode false true free is given =
    let one : what.inode ≡ inode = cc in
    let named : what.name ≡ name = (bytes_eq-Decides what.name name).0 is in
    ((λ e. let t = eq-eqb what.inode 0 (one ∙ e) in cc), ap (λ n. entry_with n what.name) one ∙ ap (entry_with inode) named)

pub named_inode-some : (name : List ℕ) (what : Entry) (inode : ℕ) → named_inode name what ≡ Some inode → (inode ≢ 0) × (what ≡ entry_with inode name)
named_inode-some name what inode given = some-by name what inode _ _ refl refl given

-- an entry of another name
named_inode-by : (name : List ℕ) (what : Entry) (is_free same : Bool) → (what.inode == 0) ≡ is_free → bytes_eq what.name name ≡ same
    → ((inode : ℕ) → inode ≢ 0 → what ≡ entry_with inode name → ⊥) → named_inode name what ≡ None
named_inode-by name what true same is_free is_same other = rw is_free refl
named_inode-by name what false false is_free is_same other = rw (is_free, is_same) refl
named_inode-by name what false true is_free is_same other =
    let some : what.inode ≢ 0 = λ e. let t = ne_free e in cc in
    let named : what.name ≡ name = (bytes_eq-Decides what.name name).0 is_same in
    absurd (other what.inode some (ap (λ n. entry_with what.inode n) named))
  where
    ne_free : what.inode ≡ 0 → (what.inode == 0) ≡ true
    ne_free e = rw e refl

named_inode-other : (name : List ℕ) (what : Entry) → ((inode : ℕ) → inode ≢ 0 → what ≡ entry_with inode name → ⊥) → named_inode name what ≡ None
named_inode-other name what other = named_inode-by name what _ _ refl refl other

named_inode-same : (name : List ℕ) (what : Entry) (inode : ℕ) → inode ≢ 0 → what ≡ entry_with inode name → named_inode name what ≡ Some inode
named_inode-same name what inode some is =
    let same : bytes_eq name name ≡ true = (bytes_eq-Decides name name).1 refl in
    rw is (rw (ne_eqb inode 0 some, same) refl)

-- no entry has the name
pub first_named-none : (at : ℕ → Entry) (name : List ℕ) (count : ℕ)
    → ((place inode : ℕ) → place < count → inode ≢ 0 → at place ≡ entry_with inode name → ⊥)
    → first_named at name count ≡ None
unfolding first_named
first_named-none at name zero none = refl
first_named-none at name (suc place) none =
    let before : first_named at name place ≡ None = first_named-none at name place (λ p inode below. none p inode (omega (arith, below))) in
    let last : named_inode name (at place) ≡ None = named_inode-other name (at place) (λ inode. none place inode (omega arith)) in
    rw (before, last) refl

once-by : (at : ℕ → Entry) (name : List ℕ) (count place inode : ℕ) → place < suc count → inode ≢ 0 → at place ≡ entry_with inode name
    → ((other inode' : ℕ) → other < suc count → inode' ≢ 0 → at other ≡ entry_with inode' name → other ≡ place)
    → (place < count → first_named at name count ≡ Some inode)
    → (last : Bool) → (place == count) ≡ last → option_or (first_named at name count) (named_inode name (at count)) ≡ Some inode
once-by at name count place inode below some is once before true last =
    let here : place ≡ count = eqb-true place count last in
    let none : first_named at name count ≡ None = first_named-none at name count (λ p n low some_n is_n. let e : p ≡ place = once p n (omega (arith, low)) some_n is_n in absurd (omega (arith, e, here, low))) in
    let found : named_inode name (at count) ≡ Some inode = named_inode-same name (at count) inode some (ap at (sym here) ∙ is) in
    rw (none, found) refl
once-by at name count place inode below some is once before false last =
    let other : place ≢ count = λ e. let t = eq-eqb place count e in cc in
    rw (before (omega (arith, below, other))) refl

-- one entry has it
pub first_named-once : (at : ℕ → Entry) (name : List ℕ) (count place inode : ℕ) → place < count → inode ≢ 0 → at place ≡ entry_with inode name
    → ((other inode' : ℕ) → other < count → inode' ≢ 0 → at other ≡ entry_with inode' name → other ≡ place)
    → first_named at name count ≡ Some inode
unfolding first_named
first_named-once at name zero place inode below some is once = absurd (omega (arith, below))
first_named-once at name (suc count) place inode below some is once =
    once-by at name count place inode below some is once
    (λ low. first_named-once at name count place inode low some is (λ p n low_p. once p n (omega (arith, low_p))))
    _ refl
