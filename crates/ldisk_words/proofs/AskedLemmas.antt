-- What arguments ask for, by their number.
use Rattle.std.proofs.Common.{◌≡◌, ◌≢◌, ℕ, ◌≤◌, ◌<◌, true, false, List, [], ◌∷◌, length, drop, refl, arith}
use Rattle.std.specs.Prelude.{None, Some, nat_le, slice_get, bytes_eq, codes}
use Rattle.std.specs.Option.{option_and_then}
use Rattle.std.proofs.lemmas.Bool.{le-leb, lt-leb}
use Rattle.std.proofs.lemmas.Option.{same_Some}
use Rattle.lilo_model.specs.Devices.{device_at}
use Rattle.ldisk_model.specs.Arguments.{asked_of, decimal_at, parts_at, new_with, make_at, device_command, on_path_at, pair_command, command_at, asked_at}

-- ---- the whole

pub asked_few : (words : List (List ℕ)) → length words < 2 → asked_at words ≡ None
unfolding asked_at
asked_few [] few = refl
asked_few (word ∷ []) few = refl
asked_few (word ∷ (image ∷ words)) few = absurd (omega (arith, few))

pub asked_new_image : (words : List (List ℕ)) (word image : List ℕ) → slice_get words 0 ≡ Some word → slice_get words 1 ≡ Some image
    → bytes_eq word (codes "make") ≡ true → asked_at words ≡ make_at image (drop 2 words)
unfolding asked_at
asked_new_image [] word image one two is = absurd cc
asked_new_image (w ∷ []) word image one two is = absurd cc
asked_new_image (w ∷ (i ∷ words)) word image one two is =
    let a : w ≡ word = same_Some w word one in
    let b : i ≡ image = same_Some i image two in
    rw (a, b, is) refl

pub asked_command : (words : List (List ℕ)) (word image : List ℕ) → slice_get words 0 ≡ Some word → slice_get words 1 ≡ Some image
    → bytes_eq word (codes "make") ≡ false
    → asked_at words ≡ option_and_then (λ command. Some (asked_of image command)) (command_at word (drop 2 words))
unfolding asked_at
asked_command [] word image one two is = absurd cc
asked_command (w ∷ []) word image one two is = absurd cc
asked_command (w ∷ (i ∷ words)) word image one two is =
    let a : w ≡ word = same_Some w word one in
    let b : i ≡ image = same_Some i image two in
    rw (a, b, is) refl

-- ---- a new image

pub make_few : (image : List ℕ) (words : List (List ℕ)) → 2 ≤ length words → length words < 3 → make_at image (drop 2 words) ≡ None
unfolding make_at
make_few image [] some few = absurd (omega (arith, some))
make_few image (a ∷ []) some few = absurd (omega (arith, some))
make_few image (a ∷ (b ∷ [])) some few = refl
make_few image (a ∷ (b ∷ (c ∷ words))) some few = absurd (omega (arith, few))

pub make_many : (image : List ℕ) (words : List (List ℕ)) → 7 < length words → make_at image (drop 2 words) ≡ None
unfolding make_at
make_many image [] many = absurd (omega (arith, many))
make_many image (a ∷ []) many = absurd (omega (arith, many))
make_many image (a ∷ (b ∷ [])) many = absurd (omega (arith, many))
make_many image (a ∷ (b ∷ (c ∷ words))) many =
    let e : nat_le (length words) 4 ≡ false = lt-leb (length words) 4 (omega (arith, many)) in
    rw e refl

pub make_all : (image : List ℕ) (words : List (List ℕ)) (digits : List ℕ) → 3 ≤ length words → length words ≤ 7 → slice_get words 2 ≡ Some digits
    → make_at image (drop 2 words) ≡ new_with image (decimal_at 1 4294967295 digits) (parts_at (drop 3 words))
unfolding make_at
make_all image [] digits three seven is = absurd (omega (arith, three))
make_all image (a ∷ []) digits three seven is = absurd (omega (arith, three))
make_all image (a ∷ (b ∷ [])) digits three seven is = absurd (omega (arith, three))
make_all image (a ∷ (b ∷ (c ∷ words))) digits three seven is =
    let e : nat_le (length words) 4 ≡ true = le-leb (length words) 4 (omega (arith, seven)) in
    let d : c ≡ digits = same_Some c digits is in
    rw (e, d) refl

-- ---- another command

pub command_three : (word : List ℕ) (words : List (List ℕ)) (name : List ℕ) → length words ≡ 3 → slice_get words 2 ≡ Some name
    → command_at word (drop 2 words) ≡ option_and_then (λ device. device_command word device) (device_at name)
unfolding command_at
command_three word [] name three one = absurd (omega (arith, three))
command_three word (a ∷ []) name three one = absurd (omega (arith, three))
command_three word (a ∷ (b ∷ [])) name three one = absurd (omega (arith, three))
command_three word (a ∷ (b ∷ (c ∷ []))) name three one =
    let x : c ≡ name = same_Some c name one in
    rw x refl
command_three word (a ∷ (b ∷ (c ∷ (d ∷ words)))) name three one = absurd (omega (arith, three))

pub command_four : (word : List ℕ) (words : List (List ℕ)) (name path : List ℕ) → length words ≡ 4 → slice_get words 2 ≡ Some name → slice_get words 3 ≡ Some path
    → command_at word (drop 2 words) ≡ option_and_then (λ device. on_path_at word device path) (device_at name)
unfolding command_at
command_four word [] name path four one two = absurd (omega (arith, four))
command_four word (a ∷ []) name path four one two = absurd (omega (arith, four))
command_four word (a ∷ (b ∷ [])) name path four one two = absurd (omega (arith, four))
command_four word (a ∷ (b ∷ (c ∷ []))) name path four one two = absurd (omega (arith, four))
command_four word (a ∷ (b ∷ (c ∷ (d ∷ [])))) name path four one two =
    let x : c ≡ name = same_Some c name one in
    let y : d ≡ path = same_Some d path two in
    rw (x, y) refl
command_four word (a ∷ (b ∷ (c ∷ (d ∷ (e ∷ words))))) name path four one two = absurd (omega (arith, four))

pub command_five : (word : List ℕ) (words : List (List ℕ)) (name first second : List ℕ) → length words ≡ 5
    → slice_get words 2 ≡ Some name → slice_get words 3 ≡ Some first → slice_get words 4 ≡ Some second
    → command_at word (drop 2 words) ≡ option_and_then (λ device. pair_command word device first second) (device_at name)
unfolding command_at
command_five word [] name first second five one two three = absurd (omega (arith, five))
command_five word (a ∷ []) name first second five one two three = absurd (omega (arith, five))
command_five word (a ∷ (b ∷ [])) name first second five one two three = absurd (omega (arith, five))
command_five word (a ∷ (b ∷ (c ∷ []))) name first second five one two three = absurd (omega (arith, five))
command_five word (a ∷ (b ∷ (c ∷ (d ∷ [])))) name first second five one two three = absurd (omega (arith, five))
command_five word (a ∷ (b ∷ (c ∷ (d ∷ (e ∷ []))))) name first second five one two three =
    let x : c ≡ name = same_Some c name one in
    let y : d ≡ first = same_Some d first two in
    let z : e ≡ second = same_Some e second three in
    rw (x, y, z) refl
command_five word (a ∷ (b ∷ (c ∷ (d ∷ (e ∷ (f ∷ words)))))) name first second five one two three = absurd (omega (arith, five))

pub command_other : (word : List ℕ) (words : List (List ℕ)) → 2 ≤ length words → length words ≢ 3 → length words ≢ 4 → length words ≢ 5 → command_at word (drop 2 words) ≡ None
unfolding command_at
command_other word [] some three four five = absurd (omega (arith, some))
command_other word (a ∷ []) some three four five = absurd (omega (arith, some))
command_other word (a ∷ (b ∷ [])) some three four five = refl
command_other word (a ∷ (b ∷ (c ∷ []))) some three four five = absurd (three refl)
command_other word (a ∷ (b ∷ (c ∷ (d ∷ [])))) some three four five = absurd (four refl)
command_other word (a ∷ (b ∷ (c ∷ (d ∷ (e ∷ []))))) some three four five = absurd (five refl)
command_other word (a ∷ (b ∷ (c ∷ (d ∷ (e ∷ (f ∷ words)))))) some three four five = refl
