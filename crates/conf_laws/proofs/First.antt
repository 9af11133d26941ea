-- The first of what fails: an answer that is the first of facts at places, of items in turn, and of stages.
use Rattle.std.proofs.Common.{◌≡◌, ℕ, zero, suc, ◌<◌, ◌≤◌, Bool, true, false, List, [], ◌∷◌, ◌++◌, length, Some, None, Option, inl, inr, refl, sym, ◌∙◌, subst, arith}
use Rattle.std.specs.Prelude.{◌⊎◌}
use Rattle.std.proofs.lemmas.Bool.{cases_lt}
use Rattle.lilo_model.specs.ConfRefusal.{ConfRefusal}
use Rattle.conf_laws.specs.Order.{ItemFails, Place, place, IsBefore}

-- ---- the first of what fails

-- the answer is the first of what fails, or nothing does
abbrev pub Answers : {P R : Type 0} → (P → P → Type 0) → (P → R → Type 0) → Option R → Type 0
Answers Lt F None = (at : _) (r : _) → F at r → ⊥
Answers Lt F (Some r) = (at : _) × F at r × ((before : _) (other : _) → Lt before at → F before other → ⊥)

-- the first of two answers
abbrev pub first_or : {R : Type 0} → Option R → Option R → Option R
first_or None later = later
first_or (Some r) later = Some r

pub answers-same : {P R : Type 0} (Lt : P → P → Type 0) (F G : P → R → Type 0) (o : Option R)
    → ((at : P) (r : R) → F at r → G at r) → ((at : P) (r : R) → G at r → F at r) → Answers Lt F o → Answers Lt G o
answers-same Lt F G None to from none = λ at r fails. none at r (from at r fails)
answers-same Lt F G (Some r) to from (at, fails, first) =
    (at, to at r fails, λ before other less f. first before other less (from before other f))

pub answers-join : {P R : Type 0} (Lt : P → P → Type 0) (F G : P → R → Type 0) (o p : Option R)
    → ((a b : P) (r s : R) → F a r → G b s → Lt b a → ⊥)
    → Answers Lt F o → Answers Lt G p → Answers Lt (λ at r. F at r ⊎ G at r) (first_or o p)
answers-join Lt F G None None apart none none' = λ at r fails. elim fails [ inl f ↦ none at r f | inr g ↦ none' at r g ]
answers-join Lt F G None (Some r) apart none (at, fails, first) =
    (at, inr fails, λ before other less f. elim f [ inl f ↦ none before other f | inr g ↦ first before other less g ])
answers-join Lt F G (Some r) p apart (at, fails, first) second =
    (at, inl fails, λ before other less f. elim f [ inl f ↦ first before other less f | inr g ↦ apart at before r other fails g less ])

-- a test by itself
abbrev pub only : {R : Type 0} → Bool → R → Option R
only true r = Some r
only false r = None

pub answers-test : {R : Type 0} (b : Bool) (n : ℕ) (r : R) → Answers ◌<◌ (λ t s. (b ≡ true) × (t ≡ n) × (r ≡ s)) (only b r)
answers-test true n r = (n, (refl, refl, refl), λ before other less f. omega (arith, less, f.1))
answers-test false n r = λ t s f. absurd (let e = f.0 in cc)

-- ---- items in turn

abbrev pub Item : Type 0
Item = ℕ × ℕ

abbrev pub IsItemBefore : Item → Item → Type 0
IsItemBefore a b = (a.0 < b.0) ⊎ ((a.0 ≡ b.0) × (a.1 < b.1))

-- the answer on the first item that has one
abbrev pub first_in : {S X R : Type 0} → (S → X → Option R) → (S → X → S) → S → List X → Option R
first_in one next s [] = None
first_in one next s (x ∷ xs) = first_or (one s x) (first_in one next (next s x) xs)

pub answers-items : {S X R : Type 0} (F : S → X → ℕ → R → Type 0) (one : S → X → Option R) (next : S → X → S)
    → ((s : S) (x : X) → Answers ◌<◌ (F s x) (one s x))
    → (xs : List X) (s : S) → Answers IsItemBefore (λ at r. ItemFails F next s xs at.0 at.1 r) (first_in one next s xs)
answers-items F one next each [] s = λ at r fails. fails
answers-items F one next each (x ∷ xs) s = by (one s x) (each s x) (first_in one next (next s x) xs) (answers-items F one next each xs (next s x))
  where
    later : (o : Option _) → Answers ◌<◌ (F s x) None → Answers IsItemBefore (λ at r. ItemFails F next (next s x) xs at.0 at.1 r) o
        → Answers IsItemBefore (λ at r. ItemFails F next s (x ∷ xs) at.0 at.1 r) o
    later None none rest = λ at r. nothing at.0 at.1 r
      where
        nothing : (item test : ℕ) (r : _) → ItemFails F next s (x ∷ xs) item test r → ⊥
        nothing zero test r fails = none test r fails
        nothing (suc item) test r fails = rest (item, test) r fails
    later (Some r) none ((item, test), fails, first) = ((suc item, test), fails, λ before other. earlier before.0 before.1 other)
      where
        earlier : (i t : ℕ) (other : _) → IsItemBefore (i, t) (suc item, test) → ItemFails F next s (x ∷ xs) i t other → ⊥
        earlier zero t other less f = none t other f
        earlier (suc i) t other (inl less) f = first (i, t) other (inl (omega (arith, less))) f
        earlier (suc i) t other (inr less) f = first (i, t) other (inr (omega (arith, less.0), less.1)) f

    by : (o : Option _) → Answers ◌<◌ (F s x) o → (p : Option _) → Answers IsItemBefore (λ at r. ItemFails F next (next s x) xs at.0 at.1 r) p
        → Answers IsItemBefore (λ at r. ItemFails F next s (x ∷ xs) at.0 at.1 r) (first_or o p)
    by None none p rest = later p none rest
    by (Some r) (test, fails, first) p rest = ((zero, test), fails, λ before other. earlier before.0 before.1 other)
      where
        earlier : (i t : ℕ) (other : _) → IsItemBefore (i, t) (zero, test) → ItemFails F next s (x ∷ xs) i t other → ⊥
        earlier i t other (inl less) f = absurd (omega (arith, less))
        earlier zero t other (inr less) f = first t other less.1 f
        earlier (suc i) t other (inr less) f = absurd (omega (arith, less.0))

-- items of a stage
pub answers-stage : {R : Type 0} (k : ℕ) (G : ℕ → ℕ → R → Type 0) (o : Option R)
    → Answers IsItemBefore (λ at r. G at.0 at.1 r) o → Answers IsBefore (λ at r. (at.stage ≡ k) × G at.item at.test r) o
answers-stage k G None none = λ at r fails. none (at.item, at.test) r fails.1
answers-stage k G (Some r) ((item, test), fails, first) =
    (place k item test, (refl, fails), λ before other less f. first (before.item, before.test) other (of before less f.0) f.1)
  where
    of : (before : Place) → IsBefore before (place k item test) → before.stage ≡ k → IsItemBefore (before.item, before.test) (item, test)
    of before (inl less) same = absurd (omega (arith, less, same))
    of before (inr less) same = less.1

-- ---- a place's refusal is one

abbrev pub IsOne : {P R : Type 0} → (P → R → Type 0) → Type 0
IsOne F = (at : _) (r s : _) → F at r → F at s → r ≡ s

pub one-item : {S X R : Type 0} (F : S → X → ℕ → R → Type 0) (next : S → X → S) → ((s : S) (x : X) → IsOne (F s x))
    → (xs : List X) (s : S) (item test : ℕ) (r r' : R) → ItemFails F next s xs item test r → ItemFails F next s xs item test r' → r ≡ r'
one-item F next each [] s item test r r' f g = absurd f
one-item F next each (x ∷ xs) s zero test r r' f g = each s x test r r' f g
one-item F next each (x ∷ xs) s (suc item) test r r' f g = one-item F next each xs (next s x) item test r r' f g

pub within-items : {S X R : Type 0} (F : S → X → ℕ → R → Type 0) (next : S → X → S) (xs : List X) (s : S) (item test : ℕ) (r : R)
    → ItemFails F next s xs item test r → item < length xs
within-items F next [] s item test r f = absurd f
within-items F next (x ∷ xs) s zero test r f = omega arith
within-items F next (x ∷ xs) s (suc item) test r f = let e = within-items F next xs (next s x) item test r f in omega (arith, e)

-- ---- stages in turn

pub record Decides (F : Place → ConfRefusal → Type 0) (o : Option ConfRefusal) : Type 0 where
  pub answers : Answers IsBefore F o
  pub one : IsOne F

pub before-apart : (a b : Place) → IsBefore a b → IsBefore b a → ⊥
before-apart a b (inl less) (inl more) = omega (arith, less, more)
before-apart a b (inl less) (inr more) = omega (arith, less, more.0)
before-apart a b (inr less) (inl more) = omega (arith, less.0, more)
before-apart a b (inr (same, inl less)) (inr (same', inl more)) = omega (arith, less, more)
before-apart a b (inr (same, inl less)) (inr (same', inr more)) = omega (arith, less, more.0)
before-apart a b (inr (same, inr less)) (inr (same', inl more)) = omega (arith, less.0, more)
before-apart a b (inr (same, inr less)) (inr (same', inr more)) = omega (arith, less.1, more.1)

pub decides-join : (F G : Place → ConfRefusal → Type 0) (o p : Option ConfRefusal) → ((a b : Place) (r s : ConfRefusal) → F a r → G b s → IsBefore a b)
    → Decides F o → Decides G p → Decides (λ at r. F at r ⊎ G at r) (first_or o p)
decides-join F G o p before d e = record {
  answers = answers-join IsBefore F G o p (λ a b r s f g less. before-apart a b (before a b r s f g) less) d.answers e.answers;
  one = one;
}
  where
    one : (at : Place) (r s : ConfRefusal) → F at r ⊎ G at r → F at s ⊎ G at s → r ≡ s
    one at r s (inl f) (inl g) = d.one at r s f g
    one at r s (inr f) (inr g) = e.one at r s f g
    one at r s (inl f) (inr g) = let b = before at at r s f g in absurd (before-apart at at b b)
    one at r s (inr f) (inl g) = let b = before at at s r g f in absurd (before-apart at at b b)

pub decides-stage : {S X : Type 0} (k : ℕ) (F : S → X → ℕ → ConfRefusal → Type 0) (next : S → X → S) (xs : List X) (s : S) (o : Option ConfRefusal)
    → ((s : S) (x : X) → IsOne (F s x)) → Answers IsItemBefore (λ at r. ItemFails F next s xs at.0 at.1 r) o
    → Decides (λ at r. (at.stage ≡ k) × ItemFails F next s xs at.item at.test r) o
decides-stage k F next xs s o each answers = record {
  answers = answers-stage k (λ item test r. ItemFails F next s xs item test r) o answers;
  one = λ at r r' f g. one-item F next each xs s at.item at.test r r' f.1 g.1;
}

-- what is decided only where there is no refusal yet
abbrev pub unless : {R : Type 0} → Option R → Option R → Option R
unless None o = o
unless (Some r) o = None

pub decides-unless : (c : Option ConfRefusal) (F : Place → ConfRefusal → Type 0) (o : Option ConfRefusal) → Decides F o → Decides (λ at r. (c ≡ None) × F at r) (unless c o)
decides-unless None F o d = record {
  answers = answers-same IsBefore F (λ at r. (None ≡ None) × F at r) o (λ at r f. (refl, f)) (λ at r f. f.1) d.answers;
  one = λ at r s f g. d.one at r s f.1 g.1;
}
decides-unless (Some c) F o d = record { answers = λ at r f. absurd (let e = f.0 in cc); one = λ at r s f g. d.one at r s f.1 g.1 }

-- items before others
pub items-before : {S X R : Type 0} (F : S → X → ℕ → R → Type 0) (next : S → X → S) (xs ys : List X) (s : S) (item test : ℕ) (r : R)
    → ItemFails F next s xs item test r → ItemFails F next s (xs ++ ys) item test r
items-before F next [] ys s item test r f = absurd f
items-before F next (x ∷ xs) ys s zero test r f = f
items-before F next (x ∷ xs) ys s (suc item) test r f = items-before F next xs ys (next s x) item test r f

-- one test of a stage
pub decides-one : (b : Bool) (p : Place) (r : ConfRefusal) → Decides (λ at s. (b ≡ true) × (at ≡ p) × (r ≡ s)) (only b r)
decides-one true p r = record {
  answers = (p, (refl, refl, refl), λ before other less f. let e = subst (λ q. IsBefore q p) f.1 less in before-apart p p e e);
  one = λ at s s' f g. sym f.2 ∙ g.2;
}
decides-one false p r = record { answers = λ at s f. absurd (let e = f.0 in cc); one = λ at s s' f g. sym f.2 ∙ g.2 }

-- one of two places is before the other, or they are one
pub three-ways : (a b : Place) → IsBefore a b ⊎ (IsBefore b a ⊎ (a ≡ b))
three-ways a b = first (cases_lt a.stage b.stage) (cases_lt b.stage a.stage)
  where
    same-place : (s s' i i' t t' : ℕ) → s ≡ s' → i ≡ i' → t ≡ t' → place s i t ≡ place s' i' t'
    same-place s s' i i' t t' e f g = cc

    third : a.stage ≡ b.stage → a.item ≡ b.item → (a.test < b.test) ⊎ (b.test ≤ a.test) → (b.test < a.test) ⊎ (a.test ≤ b.test) → IsBefore a b ⊎ (IsBefore b a ⊎ (a ≡ b))
    third e f (inl less) other = inl (inr (e, inr (f, less)))
    third e f (inr most) (inl less) = inr (inl (inr (sym e, inr (sym f, less))))
    third e f (inr most) (inr least) = inr (inr (same-place a.stage b.stage a.item b.item a.test b.test e f (omega (arith, most, least))))

    second : a.stage ≡ b.stage → (a.item < b.item) ⊎ (b.item ≤ a.item) → (b.item < a.item) ⊎ (a.item ≤ b.item) → IsBefore a b ⊎ (IsBefore b a ⊎ (a ≡ b))
    second e (inl less) other = inl (inr (e, inl less))
    second e (inr most) (inl less) = inr (inl (inr (sym e, inl less)))
    second e (inr most) (inr least) = third e (omega (arith, most, least)) (cases_lt a.test b.test) (cases_lt b.test a.test)

    first : (a.stage < b.stage) ⊎ (b.stage ≤ a.stage) → (b.stage < a.stage) ⊎ (a.stage ≤ b.stage) → IsBefore a b ⊎ (IsBefore b a ⊎ (a ≡ b))
    first (inl less) other = inl (inl less)
    first (inr most) (inl less) = inr (inl (inl less))
    first (inr most) (inr least) = second (omega (arith, most, least)) (cases_lt a.item b.item) (cases_lt b.item a.item)
