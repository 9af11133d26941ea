-- The sectors of an empty volume, written one after the other.
use Rattle.std.proofs.Common.{◌≡◌, ◌⊎◌, ⊎_elim, inl, inr, ◌<◌, ◌≤◌, ℕ, ◌+◌, ◌-◌, ◌^◌, ◌==◌, nat_le, nat_lt, Bool, true, false, ◌&&◌, if◌then◌else◌, [], length, slice_index_or, None, Some, refl, sym, ◌∙◌, ap, subst, arith}
use Rattle.std.proofs.lemmas.Bool.{eq-eqb, eqb-true, leb-true, ltb-true, leb-false, ltb-false}
use Rattle.std.proofs.lemmas.List.FromFn.{get_or-map-range_with_len, length-map-range_with_len}
use Rattle.disk_trait.specs.Range.{IsOutside, IsWritten, IsPartWritten}
use Rattle.lilo_model.specs.Disks.{Image, Span}
use Rattle.lilo_model.specs.MinixLayout.{Kind, Super}
use Rattle.lilo_model.specs.MinixParts.{volume_with}
use Rattle.ldisk_model.specs.MinixFormat.{format_layout, formatted_sector, formatted_count, formatted_sectors, formatted, format_at}
use Rattle.minix_format.specs.Laws.{HasRootAlone, HasWholeSpan, IsEmptyVolume}
use Rattle.minix_format.specs.Left.{IsPartlyMade}
use Rattle.minix_format.proofs.LayoutLemmas.{layout-laid, layout-within}
use Rattle.minix_format.proofs.FormatLemmas.{format_law}

pub sectors-count : (layout : Super) (time : ℕ) → length (formatted_sectors layout time) ≡ formatted_count layout
sectors-count layout time = length-map-range_with_len (formatted_sector layout time) 2 (formatted_count layout)

pub sectors-at : (layout : Super) (time i : ℕ) → i < formatted_count layout → formatted_sector layout time (2 + i) ≡ slice_index_or (formatted_sectors layout time) i []
sectors-at layout time i below = sym (get_or-map-range_with_len (formatted_sector layout time) 2 (formatted_count layout) i (2 + i) [] below (omega arith))

-- what holds once so many are written holds once all are
pub all_written : (disk start : ℕ) (layout : Super) (time count : ℕ) (old new : Image) → count ≡ formatted_count layout
    → IsWritten disk start (formatted_sectors layout time) count old new → IsWritten disk start (formatted_sectors layout time) (length (formatted_sectors layout time)) old new
all_written disk start layout time count old new is written =
    subst (λ n. IsWritten disk start (formatted_sectors layout time) n old new) (is ∙ sym (sectors-count layout time)) written

-- they lie in the volume's sectors
pub count-within : (kind : Kind) (sectors inodes : ℕ) (layout : Super) → Some layout ≡ format_layout kind sectors inodes → 2 + formatted_count layout ≤ sectors
count-within kind sectors inodes layout chosen =
    let laid = layout-laid kind sectors inodes layout (sym chosen) in
    omega (arith, laid.below, layout-within kind sectors inodes layout (sym chosen))

-- so what lies outside the volume lies outside them
pub outside-span : (disk start count : ℕ) (layout : Super) (time d s : ℕ) → 2 + formatted_count layout ≤ count → IsOutside disk start count d s
    → IsOutside disk (start + 2) (length (formatted_sectors layout time)) d s
outside-span disk start count layout time d s within (inl other) = inl other
outside-span disk start count layout time d s within (inr (inl before)) = inr (inl (omega (arith, before)))
outside-span disk start count layout time d s within (inr (inr after)) = inr (inr (omega (arith, within, after, sectors-count layout time)))

-- ---- the image

module _ (span : Span) (layout : Super) (time : ℕ) (old new : Image) (written : IsWritten span.disk (span.start + 2) (formatted_sectors layout time) (length (formatted_sectors layout time)) old new) where
  inside : (d s : ℕ) → span.disk ≡ d → span.start + 2 ≤ s → s < span.start + 2 + formatted_count layout → new d s ≡ formatted_sector layout time (s - span.start)
  inside d s same from below =
      let k : s - (span.start + 2) < formatted_count layout = omega (arith, from, below) in
      let at : span.start + 2 + (s - (span.start + 2)) ≡ s = omega (arith, from) in
      let number : 2 + (s - (span.start + 2)) ≡ s - span.start = omega (arith, from) in
      let here : new span.disk (span.start + 2 + (s - (span.start + 2))) ≡ formatted_sector layout time (2 + (s - (span.start + 2))) =
      written.inside (s - (span.start + 2)) (omega (arith, k, sectors-count layout time)) ∙ sym (sectors-at layout time (s - (span.start + 2)) k) in
      sym (ap (λ n. new n s) same) ∙ sym (ap (new span.disk) at) ∙ here ∙ ap (formatted_sector layout time) number

  outside : (d s : ℕ) → IsOutside span.disk (span.start + 2) (formatted_count layout) d s → new d s ≡ old d s
  outside d s out = written.outside d s (subst (λ n. IsOutside span.disk (span.start + 2) n d s) (sym (sectors-count layout time)) out)

  new-at : (d s : ℕ) (one two three : Bool) → (span.disk == d) ≡ one → nat_le (span.start + 2) s ≡ two → nat_lt s (span.start + 2 + formatted_count layout) ≡ three
      → new d s ≡ (if one && two && three then formatted_sector layout time (s - span.start) else old d s)
  new-at d s true true true a b c = inside d s (eqb-true span.disk d a) (leb-true (span.start + 2) s b) (ltb-true s (span.start + 2 + formatted_count layout) c)
  new-at d s false two three a b c = outside d s (inl (λ same. let t = eq-eqb span.disk d (sym same) in cc))
  new-at d s true false three a b c = outside d s (inr (inl (leb-false (span.start + 2) s b)))
  new-at d s true true false a b c = outside d s (inr (inr (ltb-false s (span.start + 2 + formatted_count layout) c)))

  made-is : new ≡ formatted span layout time old
  unfolding formatted
  made-is = λ i d s. new-at d s (span.disk == d) (nat_le (span.start + 2) s) (nat_lt s (span.start + 2 + formatted_count layout)) refl refl refl i

  module _ (kind : Kind) (inodes : ℕ) (chosen : Some layout ≡ format_layout kind span.count inodes) where
    pub made_at : format_at span kind inodes time old ≡ Some new
    unfolding format_at
    made_at = rw (← chosen) (ap (λ image. Some image) (sym made-is))

    pub made_empty : time < 2 ^ 32 → HasWholeSpan span old → IsEmptyVolume span kind inodes new
    made_empty fits whole = record {
      layout = layout;
      chosen = sym chosen;
      has = subst (HasRootAlone (volume_with span layout)) (sym made-is) (format_law span kind inodes time layout old fits (sym chosen) whole);
    }

-- ---- an image that is made in part

-- nothing where there is no room
pub not_made : (span : Span) (kind : Kind) (inodes time : ℕ) (image : Image) → format_layout kind span.count inodes ≡ None → IsPartlyMade (format_at span kind inodes time image) image image
unfolding format_at
not_made span kind inodes time image none = rw none refl

module _ (span : Span) (layout : Super) (time : ℕ) (old new : Image) (part : IsPartWritten span.disk (span.start + 2) (formatted_sectors layout time) old new) where
  part-inside : (d s : ℕ) → span.disk ≡ d → span.start + 2 ≤ s → s < span.start + 2 + formatted_count layout → (new d s ≡ old d s) ⊎ (new d s ≡ formatted_sector layout time (s - span.start))
  part-inside d s same from below =
      let k : s - (span.start + 2) < formatted_count layout = omega (arith, from, below) in
      let at : span.start + 2 + (s - (span.start + 2)) ≡ s = omega (arith, from) in
      let number : 2 + (s - (span.start + 2)) ≡ s - span.start = omega (arith, from) in
      let P : ℕ → ℕ → Type 0 = λ d s'. (new d s' ≡ old d s') ⊎ (new d s' ≡ formatted_sector layout time (s - span.start)) in
      subst (λ d. P d s) same
      (subst (P span.disk) at
      (⊎_elim
      (λ made. inr (made ∙ (sym (sectors-at layout time (s - (span.start + 2)) k) ∙ ap (formatted_sector layout time) number)))
      (λ was. inl was)
      (part.inside (s - (span.start + 2)) (omega (arith, k, sectors-count layout time)))))

  part-outside : (d s : ℕ) → IsOutside span.disk (span.start + 2) (formatted_count layout) d s → new d s ≡ old d s
  part-outside d s out = part.outside d s (subst (λ n. IsOutside span.disk (span.start + 2) n d s) (sym (sectors-count layout time)) out)

  part-at : (d s : ℕ) (one two three : Bool) → (span.disk == d) ≡ one → nat_le (span.start + 2) s ≡ two → nat_lt s (span.start + 2 + formatted_count layout) ≡ three
      → (new d s ≡ old d s) ⊎ (new d s ≡ (if one && two && three then formatted_sector layout time (s - span.start) else old d s))
  part-at d s true true true a b c = part-inside d s (eqb-true span.disk d a) (leb-true (span.start + 2) s b) (ltb-true s (span.start + 2 + formatted_count layout) c)
  part-at d s false two three a b c = inl (part-outside d s (inl (λ same. let t = eq-eqb span.disk d (sym same) in cc)))
  part-at d s true false three a b c = inl (part-outside d s (inr (inl (leb-false (span.start + 2) s b))))
  part-at d s true true false a b c = inl (part-outside d s (inr (inr (ltb-false s (span.start + 2 + formatted_count layout) c))))

  partly-is : IsPartlyMade (Some (formatted span layout time old)) old new
  unfolding formatted
  partly-is d s = part-at d s (span.disk == d) (nat_le (span.start + 2) s) (nat_lt s (span.start + 2 + formatted_count layout)) refl refl refl

  pub partly_made : (kind : Kind) (inodes : ℕ) → Some layout ≡ format_layout kind span.count inodes → IsPartlyMade (format_at span kind inodes time old) old new
  unfolding format_at
  partly_made kind inodes chosen = rw (← chosen) partly-is
