-- Members of lists, and what a list that grew still has.
use Rattle.std.proofs.Common.{◌≡◌, ◌⊎◌, ◌||◌, ◌++◌, Bool, true, false, List, [], ◌∷◌, refl, sym, subst, inl, inr}
use Rattle.std.specs.List.{list_any}

abbrev pub In : {X : Type 0} → X → List X → Type 0
In x [] = ⊥
In x (y ∷ ys) = (y ≡ x) ⊎ In x ys

or-right : (a b : Bool) → b ≡ true → (a || b) ≡ true
or-right true b is = refl
or-right false b is = is

pub any-in : {X : Type 0} (p : X → Bool) (xs : List X) (x : X) → In x xs → p x ≡ true → list_any p xs ≡ true
any-in p [] x has is = absurd has
any-in p (y ∷ ys) x (inl same) is = let here : p y ≡ true = cc in rw here refl
any-in p (y ∷ ys) x (inr has) is = or-right (p y) (list_any p ys) (any-in p ys x has is)

-- a member that passes a test
pub record Passes {X : Type 0} (p : X → Bool) (xs : List X) : Type 0 where
  pub item : X
  pub has : In item xs
  pub is : p item ≡ true

some-by : {X : Type 0} (p : X → Bool) (y : X) (ys : List X) → (list_any p ys ≡ true → Passes p ys) → (here : Bool) → p y ≡ here
    → (here || list_any p ys) ≡ true → Passes p (y ∷ ys)
some-by p y ys later true here is = record { item = y; has = inl refl; is = here }
some-by p y ys later false here is = let rest = later is in record { item = rest.item; has = inr rest.has; is = rest.is }

pub any-some : {X : Type 0} (p : X → Bool) (xs : List X) → list_any p xs ≡ true → Passes p xs
any-some p [] is = cc
any-some p (y ∷ ys) is = some-by p y ys (any-some p ys) (p y) refl is

pub in-left : {X : Type 0} (xs ys : List X) (x : X) → In x xs → In x (xs ++ ys)
in-left [] ys x has = absurd has
in-left (y ∷ xs) ys x (inl same) = inl same
in-left (y ∷ xs) ys x (inr has) = inr (in-left xs ys x has)

pub in-right : {X : Type 0} (xs ys : List X) (x : X) → In x ys → In x (xs ++ ys)
in-right [] ys x has = has
in-right (y ∷ xs) ys x has = inr (in-right xs ys x has)

-- ---- a list that grew at its head

abbrev pub Extends : {X : Type 0} → List X → List X → Type 0
Extends [] old = [] ≡ old
Extends (x ∷ xs) old = ((x ∷ xs) ≡ old) ⊎ Extends xs old

pub ext-same : {X : Type 0} (xs : List X) → Extends xs xs
ext-same [] = refl
ext-same (x ∷ xs) = inl refl

pub ext-trans : {X : Type 0} (xs mid old : List X) → Extends xs mid → Extends mid old → Extends xs old
ext-trans [] mid old one two = subst (λ l. Extends l old) (sym one) two
ext-trans (x ∷ xs) mid old (inl one) two = subst (λ l. Extends l old) (sym one) two
ext-trans (x ∷ xs) mid old (inr one) two = inr (ext-trans xs mid old one two)

pub ext-in : {X : Type 0} (xs old : List X) → Extends xs old → (x : X) → In x old → In x xs
ext-in [] old grew x has = subst (λ l. In x l) (sym grew) has
ext-in (y ∷ ys) old (inl grew) x has = subst (λ l. In x l) (sym grew) has
ext-in (y ∷ ys) old (inr grew) x has = inr (ext-in ys old grew x has)

-- a member of a list that isn't its head
pub not-head : {X : Type 0} (y : X) (ys : List X) (x : X) → (y ≡ x → ⊥) → In x (y ∷ ys) → In x ys
not-head y ys x other (inl same) = absurd (other same)
not-head y ys x other (inr has) = has
