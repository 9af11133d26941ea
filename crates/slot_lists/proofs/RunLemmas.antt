-- The sectors of runs from a place on.
use Rattle.std.proofs.Common.{◌≡◌, ◌≤◌, ◌<◌, ℕ, zero, suc, ◌+◌, ◌-◌, List, [], ◌∷◌, ◌++◌, length, drop, get_or, replicate, None, add-one, drop-cons, refl, sym, ap, ◌∙◌, arith}
use Rattle.std.proofs.lemmas.List.{map-append, drop_all, drop-drop}
use Rattle.std.proofs.Math.Seq.{drop-append-add, drop-nil}
use Rattle.lilo_model.specs.Disks.{DiskSector}
use Rattle.lilo_model.specs.Plan.{filled_places}
use Rattle.slot_lists.specs.declared.runs.Run.{Run}
use Rattle.slot_lists.specs.declared.runs.Run.TheVariants.{Stretch, Hole}
use Rattle.slot_lists.specs.Runs.{run_count, stretch_places, run_places, run_place, places_in}

module _ (zero_place : DiskSector) where
  -- the sectors of a stretch
  stretch-at :
      (disk start count offset : ℕ) (rest : List DiskSector) → offset < count
      → drop offset (filled_places zero_place (stretch_places disk start count) ++ rest)
      ≡ record { disk = disk; sector = start + offset } ∷ drop (suc offset) (filled_places zero_place (stretch_places disk start count) ++ rest)
  stretch-at disk start zero offset rest below = absurd (omega (arith, below))
  stretch-at disk start (suc count) zero rest below =
      ap (λ sector. record { disk = disk; sector = sector } ∷ (filled_places zero_place (stretch_places disk (start + 1) count) ++ rest)) same
    where
      same : start ≡ start + 0
      same = omega arith
  stretch-at disk start (suc count) (suc offset) rest below =
      stretch-at disk (start + 1) count offset rest (omega (arith, below))
      ∙ ap (λ sector. record { disk = disk; sector = sector } ∷ drop (suc offset) (filled_places zero_place (stretch_places disk (start + 1) count) ++ rest)) same
    where
      same : start + 1 + offset ≡ start + suc offset
      same = omega arith

  hole-at :
      (count offset : ℕ) (rest : List DiskSector) → offset < count
      → drop offset (filled_places zero_place (replicate count None) ++ rest)
      ≡ zero_place ∷ drop (suc offset) (filled_places zero_place (replicate count None) ++ rest)
  hole-at zero offset rest below = absurd (omega (arith, below))
  hole-at (suc count) zero rest below = refl
  hole-at (suc count) (suc offset) rest below = hole-at count offset rest (omega (arith, below))

  stretch-length : (disk start count : ℕ) → length (filled_places zero_place (stretch_places disk start count)) ≡ count
  stretch-length disk start zero = refl
  stretch-length disk start (suc count) = ap suc (stretch-length disk (start + 1) count)

  hole-length : (count : ℕ) → length (filled_places zero_place (replicate count None)) ≡ count
  hole-length zero = refl
  hole-length (suc count) = ap suc (hole-length count)

  -- the sector at an offset of a run, and those after it
  run-at :
      (run : Run) (offset : ℕ) (rest : List DiskSector) → offset < run_count run
      → drop offset (filled_places zero_place (run_places run) ++ rest)
      ≡ run_place zero_place run offset ∷ drop (suc offset) (filled_places zero_place (run_places run) ++ rest)
  run-at (Stretch disk start count) offset rest below = stretch-at disk start count offset rest below
  run-at (Hole count) offset rest below = hole-at count offset rest below

  run-length : (run : Run) → length (filled_places zero_place (run_places run)) ≡ run_count run
  run-length (Stretch disk start count) = stretch-length disk start count
  run-length (Hole count) = hole-length count

  -- the sectors of runs from an offset of one of them on
  abbrev pub left_from : List Run → ℕ → ℕ → List DiskSector
  left_from runs index offset = drop offset (filled_places zero_place (places_in (drop index runs)))

  module _ (runs : List Run) (index offset : ℕ) (other : Run) (within : index < length runs) where
    abbrev run : Run
    run = get_or runs index other

    abbrev behind : List DiskSector
    behind = filled_places zero_place (places_in (drop (suc index) runs))

    here : filled_places zero_place (places_in (drop index runs)) ≡ filled_places zero_place (run_places run) ++ behind
    here =
        ap (λ runs. filled_places zero_place (places_in runs)) (drop-cons runs index other within)
        ∙ map-append _ (run_places run) (places_in (drop (suc index) runs))

    -- the cursor is at a sector
    pub left-at : offset < run_count run → left_from runs index offset ≡ run_place zero_place run offset ∷ drop (suc offset) (filled_places zero_place (places_in (drop index runs)))
    left-at below =
        ap (drop offset) here ∙ run-at run offset behind below
        ∙ ap (λ places. run_place zero_place run offset ∷ drop (suc offset) places) (sym here)

    -- or past its run
    pub left-past : run_count run ≤ offset → left_from runs (index + 1) (offset - run_count run) ≡ left_from runs index offset
    left-past past =
        ap (λ index. left_from runs index (offset - run_count run)) (add-one index)
        ∙ sym (drop-append-add (filled_places zero_place (run_places run)) behind (offset - run_count run))
        ∙ ap (λ n. drop n (filled_places zero_place (run_places run) ++ behind)) whole
        ∙ ap (drop offset) (sym here)
      where
        whole : length (filled_places zero_place (run_places run)) + (offset - run_count run) ≡ offset
        whole = let long = run-length run in omega (arith, past, long)

  -- no sector is left past the last run
  pub left-none : (runs : List Run) (index offset : ℕ) → length runs ≤ index → left_from runs index offset ≡ []
  left-none runs index offset past =
      ap (λ runs. drop offset (filled_places zero_place (places_in runs))) (drop_all index runs past) ∙ drop-nil offset

  -- one sector less
  pub left-less : (runs : List Run) (index offset : ℕ) → left_from runs index (offset + 1) ≡ drop 1 (left_from runs index offset)
  left-less runs index offset = less offset (filled_places zero_place (places_in (drop index runs)))
    where
      less : (n : ℕ) (xs : List DiskSector) → drop (n + 1) xs ≡ drop 1 (drop n xs)
      less n xs = ap (λ n. drop n xs) (add-one n) ∙ by n xs
        where
          by : (n : ℕ) (xs : List DiskSector) → drop (suc n) xs ≡ drop 1 (drop n xs)
          by zero xs = refl
          by (suc n) [] = refl
          by (suc n) (x ∷ xs) = by n xs

  -- some sectors are passed in a run
  pub left-passed : (runs : List Run) (index offset n : ℕ) → left_from runs index (offset + n) ≡ drop n (left_from runs index offset)
  left-passed runs index offset n = sym (drop-drop n offset (filled_places zero_place (places_in (drop index runs))))

  -- or all that it has left, and more after it
  pub left-over : (runs : List Run) (index offset n rest size : ℕ) (other : Run) → index < length runs → size ≡ run_count (get_or runs index other)
      → offset < size → rest ≡ size - offset → rest ≤ n
      → drop (n - rest) (left_from runs (index + 1) 0) ≡ drop n (left_from runs index offset)
  left-over runs index offset n rest size other within is before gives enough =
      let all = filled_places zero_place (places_in (drop index runs)) in
      let none : 0 ≡ run_count (get_or runs index other) - run_count (get_or runs index other) = omega arith in
      let same : run_count (get_or runs index other) + (n - rest) ≡ offset + n = omega (arith, is, before, gives, enough) in
      ap (λ from. drop (n - rest) (left_from runs (index + 1) from)) none
      ∙ ap (drop (n - rest)) (left-past runs index (run_count (get_or runs index other)) other within (omega arith))
      ∙ drop-drop (n - rest) (run_count (get_or runs index other)) all
      ∙ ap (λ n. drop n all) same
      ∙ sym (drop-drop n offset all)

  -- nothing is left to be passed
  pub left-none-passed : (runs : List Run) (index offset n : ℕ) → length runs ≤ index → left_from runs index offset ≡ drop n (left_from runs index offset)
  left-none-passed runs index offset n past =
      left-none runs index offset past ∙ sym (drop-nil n) ∙ ap (drop n) (sym (left-none runs index offset past))
