-- Bytes of which a part is replaced.
use Rattle.std.proofs.Common.{◌≡◌, ℕ, ◌+◌, ◌-◌, ◌<◌, ◌≤◌, ◌⊎◌, List, ◌++◌, length, take, drop, get_or, refl, sym, ◌∙◌, arith, length-append, length-drop, inl, inr}
use Rattle.std.proofs.lemmas.List.{length-take-le, get_or_append_left, get_or-append_right, get_or-take, get_or-drop}
use Rattle.std.proofs.lemmas.Grind.{same_number_lists}
use Rattle.lilo_model.specs.Bytes.{part_of, with_part}

module _ (bytes : List ℕ) (at : ℕ) (new : List ℕ) (inside : at + length new ≤ length bytes) where
  pub length-with_part : length (with_part bytes at new) ≡ length bytes
  length-with_part =
      let start : length (take at bytes) ≡ at = length-take-le at bytes (omega (arith, inside)) in
      simp (length-append, length-drop) (omega (arith, inside, start))

  byte-other : (index : ℕ) → (index < at) ⊎ (at + length new ≤ index) → get_or (with_part bytes at new) index 0 ≡ get_or bytes index 0
  byte-other index (inl before) =
      let start : length (take at bytes) ≡ at = length-take-le at bytes (omega (arith, inside)) in
      get_or_append_left (take at bytes) (new ++ drop (length new) (drop at bytes)) 0 index (omega (arith, start, before))
      ∙ get_or-take at bytes index 0 before
  byte-other index (inr behind) =
      let start : length (take at bytes) ≡ at = length-take-le at bytes (omega (arith, inside)) in
      let place : at + (length new + (index - at - length new)) ≡ index = omega (arith, behind) in
      get_or-append_right (take at bytes) (new ++ drop (length new) (drop at bytes)) at index 0 start (omega (arith, behind))
      ∙ (get_or-append_right new (drop (length new) (drop at bytes)) (length new) (index - at) 0 refl (omega (arith, behind))
      ∙ (get_or-drop (length new) (drop at bytes) (index - at - length new) 0
      ∙ (get_or-drop at bytes (length new + (index - at - length new)) 0 ∙ rw place refl)))

  -- another part stays
  pub part-other : (there size : ℕ) → there + size ≤ length bytes → (there + size ≤ at) ⊎ (at + length new ≤ there) → part_of (with_part bytes at new) there size ≡ part_of bytes there size
  part-other there size fits apart =
      let one : length (part_of (with_part bytes at new) there size) ≡ size = length-take-le size (drop there (with_part bytes at new)) (omega (arith, fits, length-with_part, length-drop there (with_part bytes at new))) in
      let two : length (part_of bytes there size) ≡ size = length-take-le size (drop there bytes) (omega (arith, fits, length-drop there bytes)) in
      same_number_lists (part_of (with_part bytes at new) there size) (part_of bytes there size) (one ∙ sym two) (λ k below.
      let low : k < size = omega (arith, one, below) in
      get_or-take size (drop there (with_part bytes at new)) k 0 low
      ∙ (get_or-drop there (with_part bytes at new) k 0
      ∙ (byte-other (there + k) (where-is k low apart)
      ∙ sym (get_or-take size (drop there bytes) k 0 low ∙ get_or-drop there bytes k 0))))
    where
      where-is : (k : ℕ) → k < size → (there + size ≤ at) ⊎ (at + length new ≤ there) → (there + k < at) ⊎ (at + length new ≤ there + k)
      where-is k low (inl before) = inl (omega (arith, low, before))
      where-is k low (inr behind) = inr (omega (arith, behind))
