-- Paths without one of them.
use Rattle.std.proofs.Common.{◌≡◌, ◌≢◌, ℕ, suc, ◌≤◌, ◌⊎◌, List, [], ◌∷◌, length, Some, refl, sym, ◌∙◌, ap, subst, arith, inl, inr}
use Rattle.lilo_model.specs.MinixLayout.{Super}
use Rattle.lilo_model.specs.MinixParts.{Parts}
use Rattle.lilo_model.specs.MinixNames.{reached, AllLead, IsNew, AreDistinct}
use Rattle.minix_change_laws.proofs.Change.{path-cases}

abbrev Path : Type 0
Path = List (List ℕ)

unless_same : (one path : Path) → (path ≡ one) ⊎ (path ≢ one) → List Path → List Path
unless_same one path (inl same) rest = rest
unless_same one path (inr apart) rest = path ∷ rest

-- some paths without one
pub without : Path → List Path → List Path
without one [] = []
without one (path ∷ paths) = unless_same one path (path-cases path one) (without one paths)

new-by : (one path other : Path) (same : (path ≡ one) ⊎ (path ≢ one)) (rest : List Path) → other ≢ path → IsNew other rest → IsNew other (unless_same one path same rest)
unfolding unless_same
new-by one path other (inl same) rest apart new = new
new-by one path other (inr here) rest apart new = (apart, new)

-- what isn't among them isn't among the others
pub new-without : (one other : Path) (paths : List Path) → IsNew other paths → IsNew other (without one paths)
unfolding without
new-without one other [] new = tt
new-without one other (path ∷ paths) new = new-by one path other (path-cases path one) (without one paths) new.0 (new-without one other paths new.1)

distinct-by : (one path : Path) (same : (path ≡ one) ⊎ (path ≢ one)) (rest : List Path) → IsNew path rest → AreDistinct rest → AreDistinct (unless_same one path same rest)
unfolding unless_same
distinct-by one path (inl same) rest new distinct = distinct
distinct-by one path (inr apart) rest new distinct = (new, distinct)

-- they are distinct
pub distinct-without : (one : Path) (paths : List Path) → AreDistinct paths → AreDistinct (without one paths)
unfolding without
distinct-without one [] distinct = tt
distinct-without one (path ∷ paths) distinct = distinct-by one path (path-cases path one) (without one paths) (new-without one path paths distinct.0) (distinct-without one paths distinct.1)

absent-by : (one path : Path) (same : (path ≡ one) ⊎ (path ≢ one)) (rest : List Path) → IsNew one rest → IsNew one (unless_same one path same rest)
unfolding unless_same
absent-by one path (inl same) rest new = new
absent-by one path (inr apart) rest new = ((λ e. apart (sym e)), new)

-- the one isn't among them
pub absent-without : (one : Path) (paths : List Path) → IsNew one (without one paths)
unfolding without
absent-without one [] = tt
absent-without one (path ∷ paths) = absent-by one path (path-cases path one) (without one paths) (absent-without one paths)

whole-by : (one path : Path) (same : (path ≡ one) ⊎ (path ≢ one)) (rest : List Path) → one ≢ path → length (unless_same one path same rest) ≡ suc (length rest)
unfolding unless_same
whole-by one path (inl same) rest apart = absurd (apart (sym same))
whole-by one path (inr here) rest apart = refl

whole-without : (one : Path) (paths : List Path) → IsNew one paths → length (without one paths) ≡ length paths
unfolding without
whole-without one [] new = refl
whole-without one (path ∷ paths) new = whole-by one path (path-cases path one) (without one paths) new.0 ∙ ap suc (whole-without one paths new.1)

length-by : (one path : Path) (same : (path ≡ one) ⊎ (path ≢ one)) (paths : List Path) → IsNew path paths → length paths ≤ suc (length (without one paths)) → length (path ∷ paths) ≤ suc (length (unless_same one path same (without one paths)))
unfolding unless_same
length-by one path (inl same) paths new rest =
    let P : Path → Type 0 = λ p. IsNew p paths in
    let whole : length (without one paths) ≡ length paths = whole-without one paths (subst P same new) in
    omega (arith, whole)
length-by one path (inr apart) paths new rest = omega (arith, rest)

-- at most one is missing
pub length-without : (one : Path) (paths : List Path) → AreDistinct paths → length paths ≤ suc (length (without one paths))
unfolding without
length-without one [] distinct = omega arith
length-without one (path ∷ paths) distinct = length-by one path (path-cases path one) paths distinct.0 (length-without one paths distinct.1)

lead-by : (super : Super) (parts : Parts) (number : ℕ) (one path : Path) (same : (path ≡ one) ⊎ (path ≢ one)) (rest : List Path)
    → (path ≢ one → reached super parts path ≡ Some number) → AllLead super parts number rest → AllLead super parts number (unless_same one path same rest)
unfolding unless_same
lead-by super parts number one path (inl same) rest leads lead = lead
lead-by super parts number one path (inr apart) rest leads lead = (leads apart, lead)

-- they lead where paths but that one led
pub lead-without : (super : Super) (old new : Parts) (number : ℕ) (one : Path) (paths : List Path)
    → ((path : Path) → path ≢ one → reached super new path ≡ Some number → reached super old path ≡ Some number)
    → AllLead super new number paths → AllLead super old number (without one paths)
unfolding without
lead-without super old new number one [] leads lead = tt
lead-without super old new number one (path ∷ paths) leads lead =
    lead-by super old number one path (path-cases path one) (without one paths) (λ apart. leads path apart lead.0) (lead-without super old new number one paths leads lead.1)

-- a path that leads elsewhere isn't among those that lead to an inode
pub lead-new : (super : Super) (parts : Parts) (number : ℕ) (one : Path) (paths : List Path) → reached super parts one ≢ Some number → AllLead super parts number paths → IsNew one paths
lead-new super parts number one [] elsewhere lead = tt
lead-new super parts number one (path ∷ paths) elsewhere lead = ((λ same. elsewhere (ap (reached super parts) same ∙ lead.0)), lead-new super parts number one paths elsewhere lead.1)
