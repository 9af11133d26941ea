-- The slots of a run are counted before those of what is left after it.
use Rattle.std.proofs.Common.{◌≡◌, ◌<◌, ℕ, zero, suc, ◌+◌, ◌-◌, Bool, List, [], ◌∷◌, ◌++◌, length, drop, get_or, replicate, Option, Some, None, Result, Ok, Err, add-one, drop-cons, length-append, refl, sym, ap, ◌∙◌, arith}
use Rattle.std.specs.Option.{option_map}
use Rattle.lilo_model.specs.Checks.{◌>>=◌}
use Rattle.lilo_model.specs.Disks.{DiskSector, Geometry}
use Rattle.lilo_model.specs.Slots.{Slot, Mode, AddressFault}
use Rattle.sector_address.specs.View.{mode_view, geometry_view, slot_view}
use Rattle.slot_lists.specs.declared.runs.Run.{Run}
use Rattle.slot_lists.specs.declared.runs.Run.TheVariants.{Stretch, Hole}
use Rattle.slot_lists.specs.Runs.{run_count, stretch_places, run_places, places_in}
use Rattle.run_sections.specs.declared.section.Naming.{Naming}
use Rattle.run_sections.specs.declared.count.Counted.{Counted}
use Rattle.run_sections.specs.Counted.{counted_after, count_left}

-- the next sector of a stretch, and those after it
pub stretch-next : (disk start count offset sector : ℕ) (rest : List (Option DiskSector)) → offset < count → sector ≡ start + offset
    → stretch_places disk (start + offset) (count - offset) ++ rest
    ≡ Some (record { disk = disk; sector = sector }) ∷ (stretch_places disk (start + (offset + 1)) (count - (offset + 1)) ++ rest)
stretch-next disk start count offset sector rest below is =
    let one : count - offset ≡ suc (count - (offset + 1)) = omega (arith, below) in
    let next : start + offset + 1 ≡ start + (offset + 1) = omega arith in
    ap (λ n. stretch_places disk (start + offset) n ++ rest) one
    ∙ ap (λ from. Some (record { disk = disk; sector = start + offset }) ∷ (stretch_places disk from (count - (offset + 1)) ++ rest)) next
    ∙ ap (λ sector. Some (record { disk = disk; sector = sector }) ∷ (stretch_places disk (start + (offset + 1)) (count - (offset + 1)) ++ rest)) (sym is)

-- sectors of a hole take one slot each
holes-counted : (mode : Mode) (geometry : Geometry) (compact : Bool) (held : Option Slot) (more : ℕ) (rest : List (Option DiskSector))
    → counted_after mode geometry compact held (replicate (suc more) None ++ rest)
    ≡ (counted_after mode geometry compact None rest >>= λ count. Ok (suc more + count))
holes-counted mode geometry compact held zero rest = by (counted_after mode geometry compact None rest)
  where
    by : (counted : Result ℕ AddressFault) → (counted >>= λ count. Ok (1 + count)) ≡ (counted >>= λ count. Ok (suc zero + count))
    by (Err fault) = refl
    by (Ok n) = let same : 1 + n ≡ suc zero + n = omega arith in ap Ok same
holes-counted mode geometry compact held (suc more) rest =
    ap (λ (counted : Result ℕ AddressFault). counted >>= λ count. Ok (1 + count)) (holes-counted mode geometry compact None more rest)
    ∙ by (counted_after mode geometry compact None rest)
  where
    by : (counted : Result ℕ AddressFault)
        → ((counted >>= λ count. Ok (suc more + count)) >>= λ count. Ok (1 + count)) ≡ (counted >>= λ count. Ok (suc (suc more) + count))
    by (Err fault) = refl
    by (Ok n) = let same : 1 + (suc more + n) ≡ suc (suc more) + n = omega arith in ap Ok same

pub holes-left : (naming : Naming) (counted now : Counted) (count : ℕ) (rest : List (Option DiskSector)) → 0 < count
    → now ≡ record { held = None; count = counted.count + count }
    → count_left naming counted (replicate count None ++ rest) ≡ count_left naming now rest
holes-left naming counted now zero rest some is = absurd (omega (arith, some))
holes-left naming counted now (suc more) rest some is =
    ap (λ (those : Result ℕ AddressFault). those >>= λ count. Ok (counted.count + count))
    (holes-counted (mode_view naming.mode) (geometry_view naming.geometry) naming.compact (option_map slot_view counted.held) more rest)
    ∙ by (counted_after (mode_view naming.mode) (geometry_view naming.geometry) naming.compact None rest)
    ∙ ap (λ now. count_left naming now rest) (sym is)
  where
    by : (those : Result ℕ AddressFault)
        → ((those >>= λ count. Ok (suc more + count)) >>= λ count. Ok (counted.count + count)) ≡ (those >>= λ count. Ok (counted.count + suc more + count))
    by (Err fault) = refl
    by (Ok n) = let same : counted.count + (suc more + n) ≡ counted.count + suc more + n = omega arith in ap Ok same

-- the sectors of the next run, and of those after it
pub runs-next : (runs : List Run) (index : ℕ) (other : Run) → index < length runs
    → places_in (drop index runs) ≡ run_places (get_or runs index other) ++ places_in (drop (index + 1) runs)
runs-next runs index other within =
    ap places_in (drop-cons runs index other within)
    ∙ ap (λ n. run_places (get_or runs index other) ++ places_in (drop n runs)) (sym (add-one index))

stretch-long : (disk start count : ℕ) → length (stretch_places disk start count) ≡ count
stretch-long disk start zero = refl
stretch-long disk start (suc count) = ap suc (stretch-long disk (start + 1) count)

hole-long : (count : ℕ) → length (replicate {A = Option DiskSector} count None) ≡ count
hole-long zero = refl
hole-long (suc count) = ap suc (hole-long count)

run-long : (run : Run) → length (run_places run) ≡ run_count run
run-long (Stretch disk start count) = stretch-long disk start count
run-long (Hole count) = hole-long count

pub runs-long : (runs : List Run) (index : ℕ) (other : Run) → index < length runs
    → length (places_in (drop index runs)) ≡ run_count (get_or runs index other) + length (places_in (drop (index + 1) runs))
runs-long runs index other within =
    ap length (runs-next runs index other within)
    ∙ length-append (run_places (get_or runs index other)) (places_in (drop (index + 1) runs))
    ∙ ap (λ n. n + length (places_in (drop (index + 1) runs))) (run-long (get_or runs index other))

pushed : (runs : List Run) (run : Run) → length (places_in (runs ++ run ∷ [])) ≡ length (places_in runs) + run_count run
pushed [] run =
    let whole : length (run_places run) + 0 ≡ 0 + run_count run = omega (arith, run-long run) in
    length-append (run_places run) [] ∙ whole
pushed (first ∷ runs) run =
    let more : length (run_places first) + (length (places_in runs) + run_count run) ≡ length (run_places first) + length (places_in runs) + run_count run = omega arith in
    length-append (run_places first) (places_in (runs ++ run ∷ []))
    ∙ ap (λ n. length (run_places first) + n) (pushed runs run)
    ∙ more
    ∙ ap (λ n. n + run_count run) (sym (length-append (run_places first) (places_in runs)))

-- how many sectors runs have with one more
pub pushed-long : (runs now : List Run) (run : Run) → now ≡ runs ++ run ∷ [] → length (places_in now) ≡ length (places_in runs) + run_count run
pushed-long runs now run is = ap (λ runs. length (places_in runs)) is ∙ pushed runs run
