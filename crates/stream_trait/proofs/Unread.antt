-- What is left of a reader, whose first bytes are in a buffer.
use Rattle.std.proofs.Common.{◌≡◌, ℕ, ◌+◌, ◌-◌, ◌≤◌, List, [], ◌++◌, length, take, drop, Option, None, Some, sym, ap, ◌∙◌, arith, append_assoc, length-drop, slice_range}
use Rattle.std.proofs.lemmas.List.{drop-drop, drop_at, length-take-le}
use Rattle.std.proofs.Math.Seq.{take-add}
use Rattle.std.specs.Io.KnownBytes.{Consumes, Keeps, prepend_known}
use Rattle.stream_trait.specs.declared.source.Taken.TheVariants.{Got}
use Rattle.stream_trait.specs.StdSource.{GivesManyKnown}

-- a read put the next bytes into a buffer that had none left
pub Keeps-read : (a b : Option (List ℕ)) (old new : List ℕ) (at filled count : ℕ) → at ≡ filled → Consumes a b (take count new)
    → Keeps (prepend_known (slice_range old at filled) a) (prepend_known (slice_range new 0 count) b)
Keeps-read None b old new at filled count none p = tt
Keeps-read (Some x) None old new at filled count none p = absurd p
Keeps-read (Some x) (Some y) old new at filled count none p =
    let nothing : count - 0 ≡ count = omega arith in
    let spent : take (filled - at) (drop at old) ≡ [] = ap (λ n. take n (drop at old)) {y = 0} (omega arith) in
    ap (λ n. take n new ++ y) nothing ∙ sym p ∙ ap (λ l. l ++ x) (sym spent)

-- the first bytes of a range, and the rest of the range
slice_range-split : (xs : List ℕ) (from count to : ℕ) → from + count ≤ to
    → take (to - from) (drop from xs) ≡ take count (drop from xs) ++ take (to - (from + count)) (drop (from + count) xs)
slice_range-split xs from count to within =
    let parts : to - from ≡ count + (to - (from + count)) = omega (arith, within) in
    ap (λ n. take n (drop from xs)) parts ∙ take-add count (to - (from + count)) (drop from xs)
    ∙ ap (λ l. take count (drop from xs) ++ take (to - (from + count)) l) (drop-drop count from xs)

split_of : (x front rest into : List ℕ) (count : ℕ) → x ≡ front ++ rest → take count into ≡ front → length front ≡ count
    → (x ≡ take count into ++ drop count x) × (Some rest ≡ Some (drop count x))
split_of x front rest into count e given long =
    let dropped : drop count x ≡ rest = ap (drop count) e ∙ drop_at front rest count long in
    (e ∙ ap (λ l. front ++ l) (sym dropped) ∙ ap (λ l. l ++ drop count x) (sym given), ap (λ l. Some l) (sym dropped))

-- the first bytes of the buffer are the first bytes that are left
pub GivesManyKnown-from_buffer : (a b : Option (List ℕ)) (buffer into : List ℕ) (at filled count : ℕ) → at + count ≤ filled → filled ≤ length buffer
    → Keeps a (prepend_known (slice_range buffer at filled) b) → take count into ≡ take count (drop at buffer)
    → GivesManyKnown a (Got count) into (prepend_known (slice_range buffer (at + count) filled) b)
GivesManyKnown-from_buffer None b buffer into at filled count within inside p given = tt
GivesManyKnown-from_buffer (Some x) None buffer into at filled count within inside p given = absurd p
GivesManyKnown-from_buffer (Some x) (Some y) buffer into at filled count within inside p given =
    let front = take count (drop at buffer) in
    let rest = slice_range buffer (at + count) filled in
    let left = length-drop at buffer in
    let long : length front ≡ count = length-take-le count (drop at buffer) (omega (arith, within, inside, left)) in
    let whole = sym p ∙ ap (λ l. l ++ y) (slice_range-split buffer at count filled within) ∙ append_assoc front rest y in
    split_of x front (rest ++ y) into count whole given long
