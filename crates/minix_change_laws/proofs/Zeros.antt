-- Bytes that are all 0: numbers and entries in them.
use Rattle.std.proofs.Common.{◌≡◌, ℕ, zero, suc, ◌*◌, Bool, true, false, List, [], ◌∷◌, take, drop, replicate, refl, ap}
use Rattle.std.specs.Prelude.{slice_index}
use Rattle.std.specs.Int.{byte_worth, sum_through}
use Rattle.lilo_model.specs.Bytes.{part_of, number16, number32}
use Rattle.lilo_model.specs.MinixLayout.{Kind, entry_size, is_v1}
use Rattle.lilo_model.specs.MinixParts.{number_in}
use Rattle.lilo_model.specs.MinixEntries.{entry_of, entry_in}

abbrev pub AreZeros : List ℕ → Type 0
AreZeros bytes = (index : ℕ) → slice_index bytes index ≡ 0

pub zeros-replicate : (count : ℕ) → AreZeros (replicate count 0)
zeros-replicate zero index = refl
zeros-replicate (suc count) zero = refl
zeros-replicate (suc count) (suc index) = zeros-replicate count index

zeros-take : (count : ℕ) (bytes : List ℕ) → AreZeros bytes → AreZeros (take count bytes)
zeros-take zero bytes zeros index = refl
zeros-take (suc count) [] zeros index = refl
zeros-take (suc count) (byte ∷ bytes) zeros zero = zeros zero
zeros-take (suc count) (byte ∷ bytes) zeros (suc index) = zeros-take count bytes (λ i. zeros (suc i)) index

zeros-drop : (count : ℕ) (bytes : List ℕ) → AreZeros bytes → AreZeros (drop count bytes)
zeros-drop zero bytes zeros index = zeros index
zeros-drop (suc count) [] zeros index = refl
zeros-drop (suc count) (byte ∷ bytes) zeros index = zeros-drop count bytes (λ i. zeros (suc i)) index

zeros-part : (bytes : List ℕ) (at len : ℕ) → AreZeros bytes → AreZeros (part_of bytes at len)
zeros-part bytes at len zeros = zeros-take len (drop at bytes) (zeros-drop at bytes zeros)

number16-zeros : (bytes : List ℕ) (at : ℕ) → AreZeros bytes → number16 bytes at ≡ 0
unfolding number16
number16-zeros bytes at zeros =
    let none : (slice_index (part_of bytes at 2)) ≡ (λ index. 0) = λ i index. zeros-part bytes at 2 zeros index i in
    let F : (ℕ → ℕ) → ℕ = λ f. sum_through (λ index. byte_worth index (f index)) 1 in
    ap F none

number32-zeros : (bytes : List ℕ) (at : ℕ) → AreZeros bytes → number32 bytes at ≡ 0
unfolding number32
number32-zeros bytes at zeros =
    let none : (slice_index (part_of bytes at 4)) ≡ (λ index. 0) = λ i index. zeros-part bytes at 4 zeros index i in
    let F : (ℕ → ℕ) → ℕ = λ f. sum_through (λ index. byte_worth index (f index)) 3 in
    ap F none

number-by : (kind : Kind) (bytes : List ℕ) (index : ℕ) → AreZeros bytes → (first : Bool) → is_v1 kind ≡ first → number_in kind bytes index ≡ 0
unfolding number_in
number-by kind bytes index zeros true is = rw is (number16-zeros bytes (2 * index) zeros)
number-by kind bytes index zeros false is = rw is (number32-zeros bytes (4 * index) zeros)

-- a number in an indirect zone full of zeros
pub number-zeros : (kind : Kind) (index : ℕ) → number_in kind (replicate 1024 0) index ≡ 0
number-zeros kind index = number-by kind (replicate 1024 0) index (zeros-replicate 1024) _ refl

-- an entry in a block full of zeros
pub entry-zeros : (kind : Kind) (index : ℕ) → (entry_in kind (replicate 1024 0) index).inode ≡ 0
unfolding entry_of
entry-zeros kind index =
    number16-zeros (part_of (replicate 1024 0) (entry_size kind * index) (entry_size kind)) 0
    (zeros-part (replicate 1024 0) (entry_size kind * index) (entry_size kind) (zeros-replicate 1024))
