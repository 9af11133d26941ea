-- The first component of a text.
use Rattle.std.proofs.Common.{◌≡◌, ℕ, ◌<◌, suc, List, [], ◌∷◌, Bool, true, false, ◌==◌, take, drop, refl, sym, ◌∙◌, ap, arith}
use Rattle.lilo_model.specs.MinixFind.{Component, components, begins_with_name, with_byte, one_byte}
use Rattle.minix_tree.specs.Component.{slashes, name_length}

-- a slash at the start is skipped
components-slash : (byte : ℕ) (text : List ℕ) → (byte == 47) ≡ true → components (byte ∷ text) ≡ components text
unfolding components
components-slash byte text is = rw is refl

slashes-slash : (byte : ℕ) (text : List ℕ) → (byte == 47) ≡ true → slashes (byte ∷ text) ≡ suc (slashes text)
slashes-slash byte text is = rw is (omega arith)

slashes-other : (byte : ℕ) (text : List ℕ) → (byte == 47) ≡ false → slashes (byte ∷ text) ≡ 0
slashes-other byte text is = rw is refl

name_length-slash : (byte : ℕ) (text : List ℕ) → (byte == 47) ≡ true → name_length (byte ∷ text) ≡ 0
name_length-slash byte text is = rw is refl

name_length-other : (byte : ℕ) (text : List ℕ) → (byte == 47) ≡ false → name_length (byte ∷ text) ≡ suc (name_length text)
name_length-other byte text is = rw is (omega arith)

-- so are all of them
skipped_by : (test : Bool) (byte : ℕ) (text : List ℕ) → (byte == 47) ≡ test
    → components text ≡ components (drop (slashes text) text)
    → components (byte ∷ text) ≡ components (drop (slashes (byte ∷ text)) (byte ∷ text))
skipped_by true byte text is rest = rw (slashes-slash byte text is, components-slash byte text is) rest
skipped_by false byte text is rest = rw (slashes-other byte text is) refl

pub skipped : (text : List ℕ) → components text ≡ components (drop (slashes text) text)
skipped [] = refl
skipped (byte ∷ text) = skipped_by (byte == 47) byte text refl (skipped text)

-- after them there is a name, or nothing
none_by : (test : Bool) (byte : ℕ) (text : List ℕ) → (byte == 47) ≡ test
    → (name_length (drop (slashes text) text) ≡ 0 → drop (slashes text) text ≡ [])
    → name_length (drop (slashes (byte ∷ text)) (byte ∷ text)) ≡ 0
    → drop (slashes (byte ∷ text)) (byte ∷ text) ≡ []
none_by true byte text is rest none = rw (slashes-slash byte text is) (rest (rw (slashes-slash byte text is) at none))
none_by false byte text is rest none =
    let same : name_length (byte ∷ text) ≡ 0 = rw (slashes-other byte text is) at none in
    absurd (omega (arith, same, name_length-other byte text is))

nothing_left : (text : List ℕ) → name_length (drop (slashes text) text) ≡ 0 → drop (slashes text) text ≡ []
nothing_left [] none = refl
nothing_left (byte ∷ text) none = none_by (byte == 47) byte text refl (nothing_left text) none

components-nil : components [] ≡ []
unfolding components
components-nil = refl

pub first_none : (text behind : List ℕ) → behind ≡ drop (slashes text) text → name_length behind ≡ 0 → components text ≡ []
first_none text behind is none =
    let same : name_length (drop (slashes text) text) ≡ 0 = rw is at none in
    skipped text ∙ ap components (nothing_left text same) ∙ components-nil

-- a name at the start, and what comes after it
abbrev component_with : List ℕ → List ℕ → Component
component_with name rest = record { name = name; rest = rest }

abbrev first_of : ℕ → List ℕ → List Component
first_of count text = component_with (take count text) (drop count text) ∷ components (drop count text)

components-last : (byte : ℕ) (text : List ℕ) → (byte == 47) ≡ false → begins_with_name text ≡ false
    → components (byte ∷ text) ≡ one_byte byte text ∷ components text
unfolding components
components-last byte text is end = rw (is, end) refl

components-more : (byte : ℕ) (text : List ℕ) → (byte == 47) ≡ false → begins_with_name text ≡ true
    → components (byte ∷ text) ≡ with_byte byte (components text)
unfolding components
components-more byte text is more = rw (is, more) refl

-- the byte after the first one is a slash, or belongs to the name
name_by : (test : Bool) (byte next : ℕ) (text : List ℕ) → (byte == 47) ≡ false → (next == 47) ≡ test
    → (0 < name_length (next ∷ text) → components (next ∷ text) ≡ first_of (name_length (next ∷ text)) (next ∷ text))
    → components (byte ∷ (next ∷ text)) ≡ first_of (suc (name_length (next ∷ text))) (byte ∷ (next ∷ text))
name_by true byte next text is ends rest =
    let end : begins_with_name (next ∷ text) ≡ false = rw ends refl in
    rw (name_length-slash next text ends) (components-last byte (next ∷ text) is end)
name_by false byte next text is ends rest =
    let more : begins_with_name (next ∷ text) ≡ true = rw ends refl in
    let some : 0 < name_length (next ∷ text) = omega (arith, name_length-other next text ends) in
    components-more byte (next ∷ text) is more ∙ ap (with_byte byte) (rest some)

named_by : (test : Bool) (byte : ℕ) (text : List ℕ) → (byte == 47) ≡ test
    → (0 < name_length text → components text ≡ first_of (name_length text) text)
    → 0 < name_length (byte ∷ text) → components (byte ∷ text) ≡ first_of (name_length (byte ∷ text)) (byte ∷ text)
named_by true byte text is rest some = absurd (omega (arith, name_length-slash byte text is))
named_by false byte [] is rest some = rw (name_length-other byte [] is) (components-last byte [] is refl)
named_by false byte (next ∷ text) is rest some =
    rw (name_length-other byte (next ∷ text) is) (name_by (next == 47) byte next text is refl rest)

named : (text : List ℕ) → 0 < name_length text → components text ≡ first_of (name_length text) text
named [] some = absurd (omega arith)
named (byte ∷ text) some = named_by (byte == 47) byte text refl (named text) some

pub first_some : (text behind name rest : List ℕ) → behind ≡ drop (slashes text) text
    → name ≡ take (name_length behind) behind → rest ≡ drop (name_length behind) behind → 0 < name_length behind
    → components text ≡ component_with name rest ∷ components rest
first_some text behind name rest is front back some =
    skipped text ∙ ap components (sym is) ∙ named behind some ∙ rw (front, back) refl
