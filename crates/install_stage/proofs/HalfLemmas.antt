-- Two sectors that are put into a block.
use Rattle.std.proofs.Common.{◌≡◌, ℕ, List, [], ◌++◌, length, take, drop, sym, ◌∙◌, ap, arith, append-nil, length-append}
use Rattle.std.proofs.Math.Seq.{take-append_seam}
use Rattle.std.proofs.lemmas.List.{drop_all, length-drop}
use borrow.Rule.Slice.PartMut.{put_mid, post_of}

pub two_halves : (first second rest : List ℕ) → length first ≡ 512 → length rest ≡ 512 → put_mid 512 512 (first ++ rest) second ≡ first ++ second
two_halves first second rest long even =
    let all = length-append first rest in
    let left = length-drop 512 (first ++ rest) in
    let none : post_of 512 512 (first ++ rest) ≡ [] = drop_all 512 (drop 512 (first ++ rest)) (omega (arith, all, left, long, even)) in
    let here : take 512 (first ++ rest) ≡ first = ap (λ (n : ℕ). take n (first ++ rest)) (sym long) ∙ take-append_seam first rest in
    ap (λ (l : List ℕ). take 512 (first ++ rest) ++ (second ++ l)) none
    ∙ (ap (λ (l : List ℕ). l ++ (second ++ [])) here ∙ ap (λ (l : List ℕ). first ++ l) (append-nil second))
