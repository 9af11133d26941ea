-- Some sectors filled one after another.
use Rattle.std.proofs.Common.{◌≡◌, inl, inr, ⊎_elim, ℕ, zero, suc, ◌+◌, ◌<◌, ◌≤◌, List, [], ◌∷◌, ◌++◌, length, take, slice_index, slice_index_or, refl, sym, ◌∙◌, ap, subst, arith, Ok, IsErrOf}
use Rattle.std.proofs.lemmas.Bool.{cases_lt}
use Rattle.std.proofs.Math.Seq.{take-suc}
use Rattle.disk_trait.specs.declared.disks.DiskFault.{DiskFault}
use Rattle.disk_trait.specs.Past.{Image, with_sector}
use Rattle.disk_trait.specs.NotWritten.{IsOther}
use Rattle.disk_example.specs.Example.{filled, IsNoneOf}

filled_then : (disk : ℕ) (xs ys bytes : List ℕ) (image : Image) → filled disk (xs ++ ys) bytes image ≡ filled disk ys bytes (filled disk xs bytes image)
filled_then disk [] ys bytes image = refl
filled_then disk (x ∷ xs) ys bytes image = filled_then disk xs ys bytes (with_sector image disk x bytes)

-- with one more of them
pub filled_next : (disk : ℕ) (places : List ℕ) (i : ℕ) (bytes : List ℕ) (old mid new : Image) (d : ℕ) → i < length places
    → mid ≡ filled disk (take i places) bytes old → new ≡ with_sector mid disk (slice_index_or places i d) bytes → new ≡ filled disk (take (i + 1) places) bytes old
filled_next disk places i bytes old mid new d inside so_far next =
    let one : i + 1 ≡ suc i = omega arith in
    let more : take (i + 1) places ≡ take i places ++ slice_index_or places i d ∷ [] = ap (λ (n : ℕ). take n places) one ∙ take-suc places i d inside in
    next ∙ ap (λ (image : Image). with_sector image disk (slice_index_or places i d) bytes) so_far
    ∙ sym (ap (λ (done : List ℕ). filled disk done bytes old) more ∙ filled_then disk (take i places) (slice_index_or places i d ∷ []) bytes old)

default_free : (xs : List ℕ) (k a b : ℕ) → k < length xs → slice_index_or xs k a ≡ slice_index_or xs k b
default_free [] k a b inside = absurd (omega (arith, inside))
default_free (x ∷ xs) zero a b inside = refl
default_free (x ∷ xs) (suc k) a b inside = default_free xs k a b (omega (arith, inside))

-- a sector that is none of them is another than each
pub none_is_other : (disk : ℕ) (places : List ℕ) (i x d s : ℕ) → i < length places → IsNoneOf disk places d s → IsOther disk (slice_index_or places i x) d s
none_is_other disk places i x d s inside (inl other) = inl other
none_is_other disk places i x d s inside (inr none) = inr (λ same. none (i, inside, default_free places i s x inside ∙ sym same))

-- one more of them is there
pub in_range_next : (places : List ℕ) (i size found : ℕ) → found ≡ size → ((k : ℕ) → k < i → slice_index places k < size) → (found ≤ slice_index places i → ⊥)
    → (k : ℕ) → k < i + 1 → slice_index places k < size
in_range_next places i size found same so_far there k inside = ⊎_elim (so_far k) (λ last. last_one (omega (arith, last, inside))) (cases_lt k i)
  where
    last_one : k ≡ i → slice_index places k < size
    last_one is = subst (λ (n : ℕ). slice_index places n < size) (sym is)
        (⊎_elim (λ lt. lt) (λ past. absurd (there (omega (arith, same, past)))) (cases_lt (slice_index places i) size))

-- what was made isn't refused
pub no_error : (done : Unit {0}) (error : DiskFault) → IsErrOf (Ok done) error → ⊥
no_error done error is = cc
