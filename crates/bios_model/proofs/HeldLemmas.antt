-- Memory stays as it is where zeros are held that weren't, and bytes that are put into it go to those that are held.
use Rattle.std.proofs.Common.{◌≡◌, ℕ, ◌+◌, ◌-◌, ◌≤◌, inl, inr, List, ◌++◌, length, replicate, drop, sym, ap, ◌∙◌, arith}
use Rattle.std.proofs.Math.ListN.{drop_of_length-le}
use Rattle.std.proofs.lemmas.Bool.{cases_lt}
use Rattle.std.proofs.lemmas.Grind.{common_steps}
use Rattle.std.proofs.lemmas.List.{drop-append-le, take-append-le, drop-replicate, replicate-append-replicate, length-drop, length-take-le}
use Rattle.std.proofs.Math.Seq.{drop-append-add}
use Rattle.lilo_model.specs.Bytes.{with_part}
use Rattle.bios_model.specs.Held.{whole_memory}

pub filled_memory : (size end : ℕ) (held : List ℕ) → end ≤ size → length held ≤ size
    → whole_memory size (held ++ replicate (end - length held) 0) ≡ whole_memory size held
filled_memory size end held within fits = grind (arith, common_steps, replicate-append-replicate)

-- what lies past some bytes and the zeros after them
past_zeros : (n m : ℕ) (bytes : List ℕ) → drop n (bytes ++ replicate m 0) ≡ drop n bytes ++ replicate (m - (n - length bytes)) 0
past_zeros n m bytes =
    elim (cases_lt (length bytes) n) [
      | inl past ↦ ap (λ k. drop k (bytes ++ replicate m 0)) (omega (arith, past)) ∙ drop-append-add bytes (replicate m 0) (n - length bytes)
          ∙ drop-replicate (n - length bytes) m 0 ∙ ap (λ none. none ++ replicate (m - (n - length bytes)) 0) (sym (drop_of_length-le bytes (omega (arith, past))))
      | inr inside ↦ drop-append-le n bytes (replicate m 0) inside ∙ ap (λ k. drop n bytes ++ replicate k 0) (omega (arith, inside))
    ]

pub placed_memory : (size at : ℕ) (held new : List ℕ) → at ≤ length held → length held ≤ size → at + length new ≤ size
    → whole_memory size (with_part held at new) ≡ with_part (whole_memory size held) at new
placed_memory size at held new within fits room =
    let zeros = replicate (size - length held) 0 in
    let first = take-append-le at held zeros within in
    let rest = drop-append-le at held zeros within in
    let last = past_zeros (length new) (size - length held) (drop at held) in
    let long = length-drop at held in
    let longer = length-drop (length new) (drop at held) in
    let short = length-take-le at held within in
    rw (first, rest, last) grind (arith, common_steps, long, longer, short)

pub whole_memory-length : (size : ℕ) (held : List ℕ) → length held ≤ size → length (whole_memory size held) ≡ size
whole_memory-length size held fits = grind (arith, common_steps)

-- so where zeros are held first
pub held_and_placed : (size at : ℕ) (held filled put new : List ℕ) → length held ≤ size → at + length new ≤ size
    → filled ≡ held ++ replicate (at - length held) 0 → put ≡ with_part filled at new
    → whole_memory size put ≡ with_part (whole_memory size held) at new
held_and_placed size at held filled put new fits room fill place =
    let long : length filled ≡ length held + (at - length held) = grind (arith, common_steps, fill) in
    ap (whole_memory size) place ∙ placed_memory size at filled new (omega (arith, long)) (omega (arith, long, fits, room)) room
    ∙ ap (λ held. with_part (whole_memory size held) at new) fill
    ∙ ap (λ memory. with_part memory at new) (filled_memory size at held (omega (arith, room)) fits)
