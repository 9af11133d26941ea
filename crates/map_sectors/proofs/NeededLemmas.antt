-- How many runs are begun after a run.
use Rattle.std.proofs.Common.{◌≡◌, ◌≤◌, ◌<◌, ℕ, zero, suc, ◌+◌, ◌==◌, Bool, true, false, if◌then◌else◌, List, [], ◌++◌, length, replicate, Option, Some, None, drop, get_or, refl, sym, ap, ◌∙◌, arith, add-one, drop-cons, length-append}
use Rattle.std.proofs.lemmas.Bool.Decides.{nat_tests}
use Rattle.lilo_model.specs.Disks.{DiskSector}
use Rattle.slot_lists.specs.declared.runs.Run.{Run}
use Rattle.slot_lists.specs.declared.runs.Run.TheVariants.{Stretch, Hole}
use Rattle.slot_lists.specs.Runs.{run_count, run_places, stretch_places, places_in}
use Rattle.file_runs.specs.Needed.{adjoins, runs_after, runs_needed}
use Rattle.file_runs.proofs.NeededLemmas.{length-run}
use Rattle.map_sectors.specs.Runs.{run_start, run_end, needed_after, later_run}

same-is : (n : ℕ) → (n == n) ≡ true
same-is n = grind (arith, nat_tests)

abbrev at : ℕ → ℕ → Option DiskSector
at disk sector = Some (record { disk = disk; sector = sector })

none-more : (n : ℕ) → 0 + n ≡ n
none-more n = omega arith

after-stretch :
    (disk start count : ℕ) (rest : List (Option DiskSector))
    → runs_after (at disk start) (stretch_places disk (start + 1) count ++ rest) ≡ runs_after (at disk (start + count)) rest
after-stretch disk start zero rest = ap (λ n. runs_after (at disk n) rest) same
  where
    same : start ≡ start + 0
    same = omega arith
after-stretch disk start (suc count) rest =
    rw (same-is disk, same-is (start + 1))
    (none-more (runs_after (at disk (start + 1)) (stretch_places disk (start + 1 + 1) count ++ rest))
    ∙ after-stretch disk (start + 1) count rest ∙ ap (λ n. runs_after (at disk n) rest) same)
  where
    same : start + 1 + count ≡ start + suc count
    same = omega arith

after-hole : (count : ℕ) (rest : List (Option DiskSector)) → runs_after None (replicate count None ++ rest) ≡ runs_after None rest
after-hole zero rest = refl
after-hole (suc count) rest = none-more (runs_after None (replicate count None ++ rest)) ∙ after-hole count rest

-- a run that has sectors, after a sector
pub after-run : (place : Option DiskSector) (run : Run) (rest : List (Option DiskSector)) → 0 < run_count run
    → runs_after place (run_places run ++ rest) ≡ (if adjoins place (run_start run) then 0 else 1) + runs_after (run_end run) rest
after-run place (Stretch disk start zero) rest some = absurd (omega (arith, some))
after-run place (Stretch disk start (suc count)) rest some =
    ap (λ n. (if adjoins place (at disk start) then 0 else 1) + n) (after-stretch disk start count rest)
after-run place (Hole zero) rest some = absurd (omega (arith, some))
after-run place (Hole (suc count)) rest some =
    ap (λ n. (if adjoins place None then 0 else 1) + n) (after-hole count rest)

-- such a run, where none is before it
pub first-run : (run : Run) (rest : List (Option DiskSector)) → 0 < run_count run
    → runs_needed (run_places run ++ rest) ≡ 1 + runs_after (run_end run) rest
first-run (Stretch disk start zero) rest some = absurd (omega (arith, some))
first-run (Stretch disk start (suc count)) rest some = ap (λ n. 1 + n) (after-stretch disk start count rest)
first-run (Hole zero) rest some = absurd (omega (arith, some))
first-run (Hole (suc count)) rest some = ap (λ n. 1 + n) (after-hole count rest)

no-places : (run : Run) → run_count run ≡ 0 → run_places run ≡ []
no-places (Stretch disk start count) none = rw none refl
no-places (Hole count) none = rw none refl

-- what a run begins after another, by the tests
pub begun-none : (last run : Run) (rest : List (Option DiskSector)) → run_count run ≡ 0
    → needed_after last (run_places run ++ rest) ≡ 0 + needed_after (later_run last run) rest
begun-none last run rest none =
    rw (no-places run none) (sym (none-more (needed_after (later_run last run) rest) ∙ ap (λ test. needed_after (if test then last else run) rest) zeros))
  where
    zeros : (run_count run == 0) ≡ true
    zeros = grind (arith, nat_tests, none)

some-test : (run : Run) → 0 < run_count run → (run_count run == 0) ≡ false
some-test run some = grind (arith, nat_tests, some)

later-is : (last run : Run) (rest : List (Option DiskSector)) → 0 < run_count run → needed_after (later_run last run) rest ≡ runs_after (run_end run) rest
later-is last run rest some =
    ap (λ test. needed_after (if test then last else run) rest) (some-test run some)
    ∙ ap (λ test. if test then runs_needed rest else runs_after (run_end run) rest) (some-test run some)

pub begun-first : (last run : Run) (rest : List (Option DiskSector)) → 0 < run_count run → run_count last ≡ 0
    → needed_after last (run_places run ++ rest) ≡ 1 + needed_after (later_run last run) rest
begun-first last run rest some none =
    ap (λ test. if test then runs_needed (run_places run ++ rest) else runs_after (run_end last) (run_places run ++ rest)) zeros
    ∙ first-run run rest some
    ∙ ap (λ n. 1 + n) (sym (later-is last run rest some))
  where
    zeros : (run_count last == 0) ≡ true
    zeros = grind (arith, nat_tests, none)

pub begun-after : (last run : Run) (rest : List (Option DiskSector)) (test : Bool) (n : ℕ) → 0 < run_count run → 0 < run_count last
    → test ≡ adjoins (run_end last) (run_start run) → n ≡ (if test then 0 else 1)
    → needed_after last (run_places run ++ rest) ≡ n + needed_after (later_run last run) rest
begun-after last run rest test n some before is so =
    ap (λ test. if test then runs_needed (run_places run ++ rest) else runs_after (run_end last) (run_places run ++ rest)) (some-test last before)
    ∙ after-run (run_end last) run rest some
    ∙ ap (λ test. (if test then 0 else 1) + runs_after (run_end run) rest) (sym is)
    ∙ ap (λ n. n + runs_after (run_end run) rest) (sym so)
    ∙ ap (λ more. n + more) (sym (later-is last run rest some))

-- ---- the runs of a list

places-first : (runs : List Run) (index : ℕ) (other : Run) → index < length runs
    → places_in (drop index runs) ≡ run_places (get_or runs index other) ++ places_in (drop (index + 1) runs)
places-first runs index other below =
    ap places_in (drop-cons runs index other below)
    ∙ ap (λ n. run_places (get_or runs index other) ++ places_in (drop n runs)) (sym (add-one index))

-- a run more, that begins so many
pub one-more :
    (runs : List Run) (index needed begun : ℕ) (last next other : Run) → index < length runs
    → ((rest : List (Option DiskSector)) → needed_after last (run_places (get_or runs index other) ++ rest) ≡ begun + needed_after (later_run last (get_or runs index other)) rest)
    → next ≡ later_run last (get_or runs index other)
    → needed + needed_after last (places_in (drop index runs)) ≡ runs_needed (places_in runs)
    → needed + begun + needed_after next (places_in (drop (index + 1) runs)) ≡ runs_needed (places_in runs)
one-more runs index needed begun last next other below adds is so =
    let here = ap (needed_after last) (places-first runs index other below) ∙ adds (places_in (drop (index + 1) runs)) in
    let later = ap (λ next. needed_after next (places_in (drop (index + 1) runs))) is in
    omega (arith, here, later, so)

-- and of which no more are left
pub most-more :
    (runs : List Run) (index needed begun : ℕ) (other : Run) → index < length runs → begun ≤ run_count (get_or runs index other)
    → needed + length (places_in (drop index runs)) ≤ length (places_in runs)
    → needed + begun + length (places_in (drop (index + 1) runs)) ≤ length (places_in runs)
most-more runs index needed begun other below few most =
    let here = ap length (places-first runs index other below) ∙ length-append (run_places (get_or runs index other)) (places_in (drop (index + 1) runs)) in
    let long = length-run (get_or runs index other) in
    omega (arith, here, long, few, most)
