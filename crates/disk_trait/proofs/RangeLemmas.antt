-- One more sector of a range.
use Rattle.std.proofs.Common.{◌≡◌, ◌⊎◌, inl, inr, ⊎_elim, ℕ, ◌+◌, ◌<◌, ◌≤◌, true, false, List, [], length, slice_index_or, refl, sym, ◌∙◌, ap, subst, arith}
use Rattle.std.proofs.lemmas.Bool.{cases_lt, cond_both}
use Rattle.disk_trait.specs.Past.{Image, with_sector}
use Rattle.disk_trait.specs.NotWritten.{IsOther}
use Rattle.disk_trait.specs.Range.{IsOutside, IsWritten, IsPartWritten}
use Rattle.disk_trait.proofs.MomentLemmas.{here, here_true, here_is}

-- before the first
pub part_same : (disk start : ℕ) (sectors : List (List ℕ)) (image : Image) → IsPartWritten disk start sectors image image
part_same disk start sectors image = record { inside = λ i lt. inr refl; outside = λ d s out. refl }

pub written_none : (disk start : ℕ) (sectors : List (List ℕ)) (image : Image) → IsWritten disk start sectors 0 image image
written_none disk start sectors image = record { inside = λ i lt. absurd (omega arith); outside = λ d s out. refl }

-- a sector that isn't one of the range isn't the i-th of it
not_inside : (disk start count i d s : ℕ) → i < count → IsOutside disk start count d s → here disk (start + i) d s ≡ true → ⊥
not_inside disk start count i d s lt out is = ⊎_elim (λ other. other (sym place.0)) (λ before. before_or_after before place.1) out
  where
    place : (disk ≡ d) × ((start + i) ≡ s)
    place = here_true disk (start + i) d s is

    before_or_after : (s < start) ⊎ (start + count ≤ s) → start + i ≡ s → ⊥
    before_or_after (inl before) at = omega arith
    before_or_after (inr after) at = omega arith

-- a sector that is none of the range is another than its i-th
pub outside_is_other : (disk start count i d s : ℕ) → i < count → IsOutside disk start count d s → IsOther disk (start + i) d s
outside_is_other disk start count i d s lt (inl other) = inl other
outside_is_other disk start count i d s lt (inr (inl before)) = inr (λ same. absurd (omega (arith, before, same)))
outside_is_other disk start count i d s lt (inr (inr after)) = inr (λ same. absurd (omega (arith, after, lt, same)))

-- with the i-th sector of the range written
module _ (disk start : ℕ) (sectors : List (List ℕ)) (i : ℕ) (lt : i < length sectors) (bytes : List ℕ) (is : bytes ≡ slice_index_or sectors i []) where
  -- the i-th sector is where the k-th is only if they are one
  the_ith : (k : ℕ) → here disk (start + i) disk (start + k) ≡ true → bytes ≡ slice_index_or sectors k []
  the_ith k at = let place = here_true disk (start + i) disk (start + k) at in let same : i ≡ k = omega (arith, place.1) in is ∙ ap (λ (n : ℕ). slice_index_or sectors n []) same

  part_with : (old mid : Image) → IsPartWritten disk start sectors old mid → IsPartWritten disk start sectors old (with_sector mid disk (start + i) bytes)
  part_with old mid part = record {
    inside = λ k inside. cond_both (here disk (start + i) disk (start + k)) bytes (mid disk (start + k))
        (λ (held : List ℕ). (held ≡ slice_index_or sectors k []) ⊎ (held ≡ old disk (start + k)))
        (λ at. inl (the_ith k at))
        (λ not_at. part.inside k inside);
    outside = λ d s out. cond_both (here disk (start + i) d s) bytes (mid d s)
        (λ (held : List ℕ). held ≡ old d s)
        (λ at. absurd (not_inside disk start (length sectors) i d s lt out at))
        (λ not_at. part.outside d s out);
  }

  pub part_more : (old mid new : Image) → IsPartWritten disk start sectors old mid → (new ≡ mid) ⊎ (new ≡ with_sector mid disk (start + i) bytes) → IsPartWritten disk start sectors old new
  part_more old mid new part (inl same) = subst (IsPartWritten disk start sectors old) (sym same) part
  part_more old mid new part (inr with) = subst (IsPartWritten disk start sectors old) (sym with) (part_with old mid part)

  written_with : (old mid : Image) → IsWritten disk start sectors i old mid → IsWritten disk start sectors (i + 1) old (with_sector mid disk (start + i) bytes)
  written_with old mid written = record {
    inside = λ k inside. cond_both (here disk (start + i) disk (start + k)) bytes (mid disk (start + k))
        (λ (held : List ℕ). held ≡ slice_index_or sectors k [])
        (the_ith k)
        (λ not_at. written.inside k (below k inside not_at));
    outside = λ d s out. cond_both (here disk (start + i) d s) bytes (mid d s)
        (λ (held : List ℕ). held ≡ old d s)
        (λ at. absurd (not_inside disk start (i + 1) i d s (omega arith) out at))
        (λ not_at. written.outside d s (fewer d s out));
  }
    where
      below : (k : ℕ) → k < i + 1 → here disk (start + i) disk (start + k) ≡ false → k < i
      below k inside not_at = ⊎_elim (λ less. less) (λ ge. absurd (at_last k inside ge not_at)) (cases_lt k i)
        where
          at_last : (k : ℕ) → k < i + 1 → i ≤ k → here disk (start + i) disk (start + k) ≡ false → ⊥
          at_last k inside ge not_at = let at : here disk (start + i) disk (start + k) ≡ true = here_is disk (start + i) disk (start + k) refl (omega arith) in let no : true ≡ false = sym at ∙ not_at in cc

      fewer : (d s : ℕ) → IsOutside disk start (i + 1) d s → IsOutside disk start i d s
      fewer d s out = ⊎_elim (λ other. inl other) (λ side. ⊎_elim (λ before. inr (inl before)) (λ after. inr (inr (omega arith))) side) out

  pub written_more : (old mid new : Image) → IsWritten disk start sectors i old mid → new ≡ with_sector mid disk (start + i) bytes → IsWritten disk start sectors (i + 1) old new
  written_more old mid new written is_with = subst (IsWritten disk start sectors (i + 1) old) (sym is_with) (written_with old mid written)
