-- Bytes written one after the other are written as one.
use Rattle.std.proofs.Common.{◌≡◌, ℕ, ◌+◌, ◌*◌, ◌<◌, ◌≤◌, List, [], ◌∷◌, ◌++◌, length, take, drop, get_or, map, refl, sym, ◌∙◌, ap, subst, arith, append_assoc, append-nil, add-one, length-append, length-drop}
use Rattle.std.proofs.Math.Seq.{drop-append-add, take-append_seam, drop-append_seam, take-suc, drop-length}
use Rattle.std.proofs.lemmas.List.{length-take-le, take-append-drop, map-append}
use Rattle.std.proofs.lemmas.List.Folds.{concat-append}
use Rattle.std.specs.List.{concat}
use Rattle.lilo_model.specs.Bytes.{with_part, bytes16, bytes32}
use Rattle.lilo_model.specs.MinixLayout.{bytes16_of, bytes32_of}

-- what comes after two parts
drop-twice : (m n : ℕ) (r : List ℕ) → m ≤ length r → drop n (drop m r) ≡ drop (m + n) r
drop-twice m n r fits =
    let P : List ℕ → Type 0 = λ s. drop (length (take m r) + n) s ≡ drop n (drop m r) in
    let Q : ℕ → Type 0 = λ k. drop (k + n) r ≡ drop n (drop m r) in
    sym (subst Q (length-take-le m r fits) (subst P (take-append-drop m r) (drop-append-add (take m r) (drop m r) n)))

-- bytes written after some that were written
pub with_part-joined :
    (b : List ℕ) (at : ℕ) (x y : List ℕ) (next : ℕ) → next ≡ at + length x → next + length y ≤ length b
    → with_part (with_part b at x) next y ≡ with_part b at (x ++ y)
with_part-joined b at x y next is fits =
    let before : at ≤ length b = omega (arith, is, fits) in
    let long : length (take at b) ≡ at = length-take-le at b before in
    let behind : length x ≤ length (drop at b) = rw (length-drop at b) (omega (arith, is, fits)) in
    let both : length (take at b ++ x) ≡ next = length-append (take at b) x ∙ omega (arith, is, long) in
    let joined : with_part b at x ≡ (take at b ++ x) ++ drop (length x) (drop at b) = sym (append_assoc (take at b) x (drop (length x) (drop at b))) in
    let P : ℕ → Type 0 = λ n. take n ((take at b ++ x) ++ drop (length x) (drop at b)) ≡ take at b ++ x in
    let Q : ℕ → Type 0 = λ n. drop n ((take at b ++ x) ++ drop (length x) (drop at b)) ≡ drop (length x) (drop at b) in
    let start = ap (take next) joined ∙ subst P both (take-append_seam (take at b ++ x) (drop (length x) (drop at b))) in
    let rest = ap (drop next) joined ∙ subst Q both (drop-append_seam (take at b ++ x) (drop (length x) (drop at b))) in
    let last : drop (length y) (drop (length x) (drop at b)) ≡ drop (length (x ++ y)) (drop at b) = drop-twice (length x) (length y) (drop at b) behind ∙ ap (λ n. drop n (drop at b)) (sym (length-append x y)) in
    rw (start, rest, last) (simp append_assoc)

-- one more number of two bytes
pub bytes16_of-more :
    (numbers : List ℕ) (number : ℕ) → bytes16_of (numbers ++ (number ∷ [])) ≡ bytes16_of numbers ++ bytes16 number
bytes16_of-more numbers number =
    ap concat (map-append bytes16 numbers (number ∷ [])) ∙ concat-append (map bytes16 numbers) (bytes16 number ∷ [])

-- and of four
pub bytes32_of-more :
    (numbers : List ℕ) (number : ℕ) → bytes32_of (numbers ++ (number ∷ [])) ≡ bytes32_of numbers ++ bytes32 number
bytes32_of-more numbers number =
    ap concat (map-append bytes32 numbers (number ∷ [])) ∙ concat-append (map bytes32 numbers) (bytes32 number ∷ [])

pub length-bytes16_of : (numbers : List ℕ) → length (bytes16_of numbers) ≡ 2 * length numbers
length-bytes16_of [] = refl
length-bytes16_of (number ∷ numbers) = let h = length-bytes16_of numbers in omega (arith, h)

pub length-bytes32_of : (numbers : List ℕ) → length (bytes32_of numbers) ≡ 4 * length numbers
length-bytes32_of [] = refl
length-bytes32_of (number ∷ numbers) = let h = length-bytes32_of numbers in omega (arith, h)

-- one more number of two bytes written after some
pub put16-more :
    (b now : List ℕ) (at : ℕ) (numbers : List ℕ) (index : ℕ) → index < length numbers → at + 2 * length numbers ≤ length b
    → now ≡ with_part b at (bytes16_of (take index numbers))
    → with_part now (at + 2 * index) (bytes16 (get_or numbers index 0)) ≡ with_part b at (bytes16_of (take (index + 1) numbers))
put16-more b now at numbers index below fits is =
    let count : length (take index numbers) ≡ index = length-take-le index numbers (omega (arith, below)) in
    let long : at + 2 * index ≡ at + length (bytes16_of (take index numbers)) = omega (arith, length-bytes16_of (take index numbers), count) in
    let more : take (index + 1) numbers ≡ take index numbers ++ (get_or numbers index 0 ∷ []) = ap (λ n. take n numbers) (add-one index) ∙ take-suc numbers index 0 below in
    ap (λ bytes. with_part bytes (at + 2 * index) (bytes16 (get_or numbers index 0))) is
    ∙ with_part-joined b at (bytes16_of (take index numbers)) (bytes16 (get_or numbers index 0)) (at + 2 * index) long (omega (arith, below, fits))
    ∙ ap (with_part b at) (sym (bytes16_of-more (take index numbers) (get_or numbers index 0)) ∙ ap bytes16_of (sym more))

-- and of four
pub put32-more :
    (b now : List ℕ) (at : ℕ) (numbers : List ℕ) (index : ℕ) → index < length numbers → at + 4 * length numbers ≤ length b
    → now ≡ with_part b at (bytes32_of (take index numbers))
    → with_part now (at + 4 * index) (bytes32 (get_or numbers index 0)) ≡ with_part b at (bytes32_of (take (index + 1) numbers))
put32-more b now at numbers index below fits is =
    let count : length (take index numbers) ≡ index = length-take-le index numbers (omega (arith, below)) in
    let long : at + 4 * index ≡ at + length (bytes32_of (take index numbers)) = omega (arith, length-bytes32_of (take index numbers), count) in
    let more : take (index + 1) numbers ≡ take index numbers ++ (get_or numbers index 0 ∷ []) = ap (λ n. take n numbers) (add-one index) ∙ take-suc numbers index 0 below in
    ap (λ bytes. with_part bytes (at + 4 * index) (bytes32 (get_or numbers index 0))) is
    ∙ with_part-joined b at (bytes32_of (take index numbers)) (bytes32 (get_or numbers index 0)) (at + 4 * index) long (omega (arith, below, fits))
    ∙ ap (with_part b at) (sym (bytes32_of-more (take index numbers) (get_or numbers index 0)) ∙ ap bytes32_of (sym more))

-- one more part written after some
pub part-more :
    (b now after : List ℕ) (at : ℕ) (x y : List ℕ) (next : ℕ) → now ≡ with_part b at x → after ≡ with_part now next y
    → next ≡ at + length x → next + length y ≤ length b → after ≡ with_part b at (x ++ y)
part-more b now after at x y next now_is after_is next_is fits =
    after_is ∙ ap (λ bytes. with_part bytes next y) now_is ∙ with_part-joined b at x y next next_is fits

-- a part that is all
pub with_part-whole : (b x : List ℕ) → length x ≡ length b → with_part b 0 x ≡ x
with_part-whole b x long = ap (λ n. x ++ drop n b) long ∙ ap (λ rest. x ++ rest) (drop-length b) ∙ append-nil x

-- a write changes no length
pub length-put :
    (b now : List ℕ) (at : ℕ) (x : List ℕ) → now ≡ with_part b at x → at + length x ≤ length b → length now ≡ length b
length-put b now at x is fits =
    let before : at ≤ length b = omega (arith, fits) in
    let start = length-take-le at b before in
    ap length is ∙ simp (length-append, length-drop) (omega arith)
