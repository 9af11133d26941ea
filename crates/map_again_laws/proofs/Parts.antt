-- Parts of bytes that lie one after the other, read and written.
use Rattle.std.proofs.Common.{◌≡◌, ◌≤◌, ℕ, zero, suc, ◌+◌, ◌-◌, List, ◌++◌, length, take, drop, replicate, sym, ap, subst, ◌∙◌, arith, append_assoc, append-nil, length-append, length-drop}
use Rattle.std.proofs.Math.Seq.{take-append-add, drop-append-add, drop-append_seam, take-append_seam}
use Rattle.std.proofs.Math.ListN.{drop_of_length-le}
use Rattle.std.proofs.lemmas.List.{length-replicate, length-take-le, take-append-le, drop-append-le, drop-drop}
use Rattle.lilo_model.specs.Bytes.{part_of, with_part, filled_bytes}

-- a part that begins after some bytes
pub part-after : (first others : List ℕ) (at n len : ℕ) → at ≡ length first + n → part_of (first ++ others) at len ≡ part_of others n len
part-after first others at n len is = ap (λ m. part_of (first ++ others) m len) is ∙ ap (take len) (drop-append-add first others n)

-- the first bytes of some
pub part-prefix : (first others : List ℕ) (len : ℕ) → length first ≡ len → part_of (first ++ others) 0 len ≡ first
part-prefix first others len long = subst (λ n. take n (first ++ others) ≡ first) long (take-append_seam first others)

-- bytes between others
pub part-between : (first part others : List ℕ) (at len : ℕ) → length first ≡ at → length part ≡ len → part_of (first ++ (part ++ others)) at len ≡ part
part-between first part others at len long size = part-after first (part ++ others) at 0 len (sym long ∙ omega arith) ∙ part-prefix part others len size

-- bytes filled up to a length have it
pub length-filled : (len : ℕ) (bytes : List ℕ) → length bytes ≤ len → length (filled_bytes len bytes) ≡ len
length-filled len bytes short = length-append bytes (replicate (len - length bytes) 0) ∙ ap (λ n. length bytes + n) (length-replicate (len - length bytes) 0) ∙ omega (arith, short)

-- ---- parts that are written one after the other

-- a part that is written leaves the length
pub length-part : (bytes new : List ℕ) (at : ℕ) → at + length new ≤ length bytes → length (with_part bytes at new) ≡ length bytes
length-part bytes new at inside =
    let start = length-take-le at bytes (omega (arith, inside)) in
    simp (length-append, length-drop) (omega (arith, start, inside))

-- a part that is written after another is one part with it
pub part-next :
    (bytes first second : List ℕ) (at next : ℕ) → next ≡ at + length first → next + length second ≤ length bytes
    → with_part (with_part bytes at first) next second ≡ with_part bytes at (first ++ second)
part-next bytes first second at next is fits = subst Joined (sym size) core
  where
    head : List ℕ
    head = take at bytes ++ first

    rest : List ℕ
    rest = drop (length first) (drop at bytes)

    Joined : ℕ → Type 0
    Joined = λ n. with_part (with_part bytes at first) n second ≡ with_part bytes at (first ++ second)

    size : next ≡ length head
    size = is ∙ ap (λ n. n + length first) (sym (length-take-le at bytes (omega (arith, is, fits)))) ∙ sym (length-append (take at bytes) first)

    joined : with_part bytes at first ≡ head ++ rest
    joined = sym (append_assoc (take at bytes) first rest)

    core : Joined (length head)
    core =
        ap (λ all. with_part all (length head) second) joined
        ∙ ap (λ all. all ++ (second ++ drop (length second) (drop (length head) (head ++ rest)))) (take-append_seam head rest)
        ∙ ap (λ all. head ++ (second ++ drop (length second) all)) (drop-append_seam head rest)
        ∙ append_assoc (take at bytes) first (second ++ drop (length second) rest)
        ∙ ap (λ all. take at bytes ++ all) (sym (append_assoc first second (drop (length second) rest)))
        ∙ ap (λ all. take at bytes ++ ((first ++ second) ++ all)) (drop-drop (length second) (length first) (drop at bytes) ∙ ap (λ n. drop n (drop at bytes)) (sym (length-append first second)))

-- a part that is all is all
pub part-all : (bytes all : List ℕ) → length all ≡ length bytes → with_part bytes 0 all ≡ all
part-all bytes all long = ap (λ rest. all ++ rest) (drop_of_length-le bytes (omega (arith, long))) ∙ append-nil all

-- what is written so far from an offset of a sector on
pub record Written (bytes : List ℕ) (at count : ℕ) (all now : List ℕ) : Type 0 where
  pub is : now ≡ with_part bytes at all
  pub long : length all ≡ count
  pub size : length bytes ≡ 512

pub written-first : (bytes all now : List ℕ) (at count : ℕ) → length bytes ≡ 512 → now ≡ with_part bytes at all → length all ≡ count → Written bytes at count all now
written-first bytes all now at count size is long = record { is = is; long = long; size = size }

-- one part more
pub written-next :
    {bytes all now : List ℕ} {at count : ℕ} → Written bytes at count all now → (new after : List ℕ) (next more : ℕ)
    → after ≡ with_part now next new → length new ≡ more → next ≡ at + count → next + more ≤ 512
    → Written bytes at (count + more) (all ++ new) after
written-next {bytes} {all} {now} {at} {count} written new after next more is long place fits = record {
  is = is ∙ ap (λ now. with_part now next new) written.is ∙ part-next bytes all new at next (omega (arith, place, written.long)) (omega (arith, long, fits, written.size));
  long = length-append all new ∙ omega (arith, written.long, long);
  size = written.size;
}

-- where all of a sector is written, nothing else is left
pub written-whole : {bytes all now : List ℕ} → Written bytes 0 512 all now → now ≡ all
written-whole {bytes} {all} written = written.is ∙ part-all bytes all (written.long ∙ sym written.size)

-- bytes after others, filled up
pub filled-after : (len : ℕ) (first second : List ℕ) → filled_bytes len (first ++ second) ≡ first ++ filled_bytes (len - length first) second
filled-after len first second =
    let count : len - length (first ++ second) ≡ len - length first - length second = ap (λ n. len - n) (length-append first second) ∙ omega arith in
    append_assoc first second (replicate (len - length (first ++ second)) 0) ∙ ap (λ n. first ++ (second ++ replicate n 0)) count

-- bytes that are written after those with which others are filled up
pub filled-next :
    (len : ℕ) (bytes new : List ℕ) (at : ℕ) → length bytes ≡ at → at + length new ≤ len
    → with_part (filled_bytes len bytes) at new ≡ filled_bytes len (bytes ++ new)
filled-next len bytes new at long fits =
    ap (λ at. with_part (filled_bytes len bytes) at new) (sym long)
    ∙ ap (λ first. first ++ (new ++ drop (length new) (drop (length bytes) (filled_bytes len bytes)))) (take-append_seam bytes (replicate (len - length bytes) 0))
    ∙ ap (λ rest. bytes ++ (new ++ drop (length new) rest)) (drop-append_seam bytes (replicate (len - length bytes) 0))
    ∙ ap (λ rest. bytes ++ (new ++ rest)) (drop-zeros (length new) (len - length bytes))
    ∙ sym (append_assoc bytes new (replicate (len - length bytes - length new) 0))
    ∙ ap (λ n. (bytes ++ new) ++ replicate n 0) (omega arith ∙ ap (λ n. len - n) (sym (length-append bytes new)))
  where
    drop-zeros : (n count : ℕ) → drop n (replicate {A = ℕ} count 0) ≡ replicate (count - n) 0
    drop-zeros zero count = let all : count ≡ count - 0 = omega arith in ap (λ n. replicate {A = ℕ} n 0) all
    drop-zeros (suc n) zero = let none : 0 ≡ 0 - suc n = omega arith in ap (λ n. replicate {A = ℕ} n 0) none
    drop-zeros (suc n) (suc count) = let less : count - n ≡ suc count - suc n = omega arith in drop-zeros n count ∙ ap (λ n. replicate {A = ℕ} n 0) less

-- a part that is written within a middle one
pub part-in :
    (before middle after : List ℕ) (at place : ℕ) (new : List ℕ) → place ≡ length before + at → at + length new ≤ length middle
    → with_part (before ++ (middle ++ after)) place new ≡ before ++ (with_part middle at new ++ after)
part-in before middle after at place new is fits =
    let inside : at ≤ length middle = omega (arith, fits) in
    let rest : length new ≤ length (drop at middle) = rw (length-drop at middle) (omega (arith, fits)) in
    ap (λ place. with_part (before ++ (middle ++ after)) place new) is
    ∙ ap (λ first. first ++ (new ++ drop (length new) (drop (length before + at) (before ++ (middle ++ after))))) (take-append-add before (middle ++ after) at)
    ∙ ap (λ last. (before ++ take at (middle ++ after)) ++ (new ++ drop (length new) last)) (drop-append-add before (middle ++ after) at)
    ∙ ap (λ first. (before ++ first) ++ (new ++ drop (length new) (drop at (middle ++ after)))) (take-append-le at middle after inside)
    ∙ ap (λ last. (before ++ take at middle) ++ (new ++ drop (length new) last)) (drop-append-le at middle after inside)
    ∙ ap (λ last. (before ++ take at middle) ++ (new ++ last)) (drop-append-le (length new) (drop at middle) after rest)
    ∙ append_assoc before (take at middle) (new ++ (drop (length new) (drop at middle) ++ after))
    ∙ ap (λ last. before ++ (take at middle ++ last)) (sym (append_assoc new (drop (length new) (drop at middle)) after))
    ∙ ap (λ last. before ++ last) (sym (append_assoc (take at middle) (new ++ drop (length new) (drop at middle)) after))
