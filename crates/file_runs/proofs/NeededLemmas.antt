-- How many runs the sectors of runs take.
use Rattle.std.proofs.Common.{◌≡◌, ◌≤◌, ◌<◌, ℕ, zero, suc, ◌+◌, ◌==◌, Bool, true, false, ◌&&◌, if◌then◌else◌, List, [], ◌∷◌, ◌++◌, length, replicate, Option, Some, None, append_assoc, refl, sym, ap, subst, ◌∙◌, arith}
use Rattle.std.proofs.lemmas.Bool.Decides.{nat_tests}
use Rattle.std.proofs.lemmas.Bool.{eqb-true}
use Rattle.std.specs.Prelude.{All}
use Rattle.std.proofs.Math.Seq.{get_or-append_seam}
use Rattle.std.proofs.lemmas.List.{replicate-append-replicate, length-replicate, length-append, flat_map_more}
use Rattle.lilo_model.specs.Disks.{DiskSector}
use Rattle.slot_lists.specs.declared.runs.Run.{Run}
use Rattle.slot_lists.specs.declared.runs.Run.TheVariants.{Stretch, Hole}
use Rattle.slot_lists.specs.Runs.{run_count, run_places, stretch_places, places_in, IsRun}
use Rattle.file_runs.specs.Needed.{adjoins, runs_after, runs_needed, LeastLaw, joined_run, IsApart, AreJoined}

same-is : (n : ℕ) → (n == n) ≡ true
same-is n = grind (arith, nat_tests)

none-more : (n : ℕ) → 0 + n ≡ n
none-more n = omega arith

-- a sector of a disk
abbrev at : ℕ → ℕ → Option DiskSector
at disk sector = Some (record { disk = disk; sector = sector })

-- the sectors of a stretch adjoin each other
after-stretch :
    (disk start count : ℕ) (rest : List (Option DiskSector))
    → runs_after (at disk start) (stretch_places disk (start + 1) count ++ rest) ≡ runs_after (at disk (start + count)) rest
after-stretch disk start zero rest = ap (λ n. runs_after (at disk n) rest) same
  where
    same : start ≡ start + 0
    same = omega arith
after-stretch disk start (suc count) rest =
    rw (same-is disk, same-is (start + 1))
    (none-more (runs_after (at disk (start + 1)) (stretch_places disk (start + 1 + 1) count ++ rest))
    ∙ after-stretch disk (start + 1) count rest ∙ ap (λ n. runs_after (at disk n) rest) same)
  where
    same : start + 1 + count ≡ start + suc count
    same = omega arith

after-hole : (count : ℕ) (rest : List (Option DiskSector)) → runs_after None (replicate count None ++ rest) ≡ runs_after None rest
after-hole zero rest = refl
after-hole (suc count) rest = none-more (runs_after None (replicate count None ++ rest)) ∙ after-hole count rest

-- ---- at least

after-least : (place : Option DiskSector) (places : List (Option DiskSector)) → runs_after place places ≤ runs_needed places
after-least place [] = omega arith
after-least place (next ∷ others) = by (adjoins place next)
  where
    by : (test : Bool) → (if test then 0 else 1) + runs_after next others ≤ 1 + runs_after next others
    by true = omega arith
    by false = omega arith

one-more : (place : Option DiskSector) (places others : List (Option DiskSector)) (runs : ℕ)
    → runs_after place places ≤ runs_needed others → runs_needed others ≤ runs → 1 + runs_after place places ≤ suc runs
one-more place places others runs a b = omega (arith, a, b)

stretch-least : (disk start count : ℕ) (others : List (Option DiskSector)) (runs : ℕ) → runs_needed others ≤ runs
    → runs_needed (stretch_places disk start count ++ others) ≤ suc runs
stretch-least disk start zero others runs least = omega (arith, least)
stretch-least disk start (suc count) others runs least =
    let e = after-stretch disk start count others in
    let a = after-least (at disk (start + count)) others in
    omega (arith, e, a, least)

hole-least : (count : ℕ) (others : List (Option DiskSector)) (runs : ℕ) → runs_needed others ≤ runs
    → runs_needed (replicate count None ++ others) ≤ suc runs
hole-least zero others runs least = omega (arith, least)
hole-least (suc count) others runs least =
    let e = after-hole count others in
    let a = after-least None others in
    omega (arith, e, a, least)

pub least_law : LeastLaw
least_law [] = omega arith
least_law (Stretch disk start count ∷ runs) = stretch-least disk start count (places_in runs) (length runs) (least_law runs)
least_law (Hole count ∷ runs) = hole-least count (places_in runs) (length runs) (least_law runs)

-- ---- exactly, where they are joined

-- the last sector of a run of so many after its first
abbrev last-of : Run → Option DiskSector
last-of (Stretch disk start count) = at disk (start + count)
last-of (Hole count) = None

-- a run of one sector more
abbrev longer : Run → Run
longer (Stretch disk start count) = Stretch disk start (count + 1)
longer (Hole count) = Hole (count + 1)

stretch-apart : (disk start count other from : ℕ) (more : ℕ) → joined_run (Stretch disk start (count + 1)) (Stretch other from more) ≡ None
    → adjoins (at disk (start + count)) (at other from) ≡ false
stretch-apart disk start count other from more apart =
    ap (λ n. (disk == other) && (n == from)) same ∙ by ((disk == other) && (start + (count + 1) == from)) apart
  where
    same : start + count + 1 ≡ start + (count + 1)
    same = omega arith

    by : (test : Bool) → (if test then Some (Stretch disk start (count + 1 + more)) else None) ≡ None → test ≡ false
    by true is = cc
    by false is = refl

-- what begins after the last sector of a run that ends there
fresh : (run : Run) (runs : List Run) → IsApart (longer run) runs → AreJoined runs → runs_after (last-of run) (places_in runs) ≡ runs_needed (places_in runs)
fresh run [] apart joined = refl
fresh (Stretch disk start count) (Stretch other from zero ∷ runs) apart joined = absurd (omega (arith, joined.0))
fresh (Stretch disk start count) (Stretch other from (suc more) ∷ runs) apart joined =
    let e = stretch-apart disk start count other from (suc more) apart in
    rw e refl
fresh (Stretch disk start count) (Hole zero ∷ runs) apart joined = absurd (omega (arith, joined.0))
fresh (Stretch disk start count) (Hole (suc more) ∷ runs) apart joined = refl
fresh (Hole count) (Stretch other from zero ∷ runs) apart joined = absurd (omega (arith, joined.0))
fresh (Hole count) (Stretch other from (suc more) ∷ runs) apart joined = refl
fresh (Hole count) (Hole more ∷ runs) apart joined = cc

pub joined-needed : (runs : List Run) → AreJoined runs → length runs ≡ runs_needed (places_in runs)
joined-needed [] joined = refl
joined-needed (Stretch disk start zero ∷ runs) joined = absurd (omega (arith, joined.0))
joined-needed (Stretch disk start (suc count) ∷ runs) joined =
    let e = after-stretch disk start count (places_in runs) in
    let same : suc count ≡ count + 1 = omega arith in
    let f = fresh (Stretch disk start count) runs (subst (λ n. IsApart (Stretch disk start n) runs) same joined.1) joined.2 in
    let l = joined-needed runs joined.2 in
    omega (arith, e, f, l)
joined-needed (Hole zero ∷ runs) joined = absurd (omega (arith, joined.0))
joined-needed (Hole (suc count) ∷ runs) joined =
    let e = after-hole count (places_in runs) in
    let same : suc count ≡ count + 1 = omega arith in
    let f = fresh (Hole count) runs (subst (λ n. IsApart (Hole n) runs) same joined.1) joined.2 in
    let l = joined-needed runs joined.2 in
    omega (arith, e, f, l)

-- ---- one run more

stretch-more : (disk start count more : ℕ) → stretch_places disk start (count + more) ≡ stretch_places disk start count ++ stretch_places disk (start + count) more
stretch-more disk start zero more = ap (λ n. stretch_places disk start n) none ∙ ap (λ n. stretch_places disk n more) same
  where
    none : 0 + more ≡ more
    none = omega arith

    same : start ≡ start + 0
    same = omega arith
stretch-more disk start (suc count) more =
    ap (λ n. stretch_places disk start n) one
    ∙ ap (λ rest. at disk start ∷ rest) (stretch-more disk (start + 1) count more)
    ∙ ap (λ n. at disk start ∷ (stretch_places disk (start + 1) count ++ stretch_places disk n more)) same
  where
    one : suc count + more ≡ suc (count + more)
    one = omega arith

    same : start + 1 + count ≡ start + suc count
    same = omega arith

both : (a b : Bool) → (a && b) ≡ true → (a ≡ true) × (b ≡ true)
both true true is = (refl, refl)
both true false is = cc
both false b is = cc

-- what the run of two is
record WholeOf (run next whole : Run) : Type 0 where
  places : run_places whole ≡ run_places run ++ run_places next
  count : run_count whole ≡ run_count run + run_count next
  apart : (other : Run) → joined_run other run ≡ None → joined_run other whole ≡ None

-- the run of two has the sectors of both, and goes on from what the first did
whole-of : (run next whole : Run) → joined_run run next ≡ Some whole → WholeOf run next whole
whole-of (Stretch disk start count) (Stretch other from more) whole is =
    by ((disk == other) && (start + count == from)) refl is
  where
    apart-still : (before : Run) → joined_run before (Stretch disk start count) ≡ None → joined_run before (Stretch disk start (count + more)) ≡ None
    apart-still (Stretch first begin many) apart = one ((first == disk) && (begin + many == start)) apart
      where
        one : (test : Bool) → (if test then Some (Stretch first begin (many + count)) else None) ≡ None
            → (if test then Some (Stretch first begin (many + (count + more))) else None) ≡ None
        one true is = cc
        one false is = refl
    apart-still (Hole many) apart = refl

    by : (test : Bool) → ((disk == other) && (start + count == from)) ≡ test
        → (if test then Some (Stretch disk start (count + more)) else None) ≡ Some whole
        → WholeOf (Stretch disk start count) (Stretch other from more) whole
    by false test is = cc
    by true test is =
        let w : Stretch disk start (count + more) ≡ whole = cc in
        let tests = both (disk == other) (start + count == from) test in
        subst (WholeOf (Stretch disk start count) (Stretch other from more)) w (record {
          places =
              stretch-more disk start count more
              ∙ ap (λ n. stretch_places disk start count ++ stretch_places disk n more) (eqb-true (start + count) from tests.1)
              ∙ ap (λ d. stretch_places disk start count ++ stretch_places d from more) (eqb-true disk other tests.0);
          count = refl;
          apart = apart-still;
        })
whole-of (Stretch disk start count) (Hole more) whole is = cc
whole-of (Hole count) (Stretch other from more) whole is = cc
whole-of (Hole count) (Hole more) whole is =
    let w : Hole (count + more) ≡ whole = cc in
    subst (WholeOf (Hole count) (Hole more)) w (record {
      places = sym (replicate-append-replicate count more None);
      count = refl;
      apart = apart-still;
    })
  where
    apart-still : (before : Run) → joined_run before (Hole count) ≡ None → joined_run before (Hole (count + more)) ≡ None
    apart-still (Stretch first begin many) apart = refl
    apart-still (Hole many) apart = cc

-- the sectors of runs, and of one more
pub places-more : (runs : List Run) (run : Run) → places_in (runs ++ run ∷ []) ≡ places_in runs ++ run_places run
places-more runs run = sym (flat_map_more run_places [] runs run)

-- ---- runs that are joined, and one more

pub joined-one : (run : Run) → 0 < run_count run → AreJoined (run ∷ [])
joined-one run some = (some, tt, tt)

pub joined-apart : (runs : List Run) (last run : Run) → AreJoined (runs ++ last ∷ []) → joined_run last run ≡ None → 0 < run_count run
    → AreJoined ((runs ++ last ∷ []) ++ run ∷ [])
joined-apart [] last run joined apart some = (joined.0, apart, (some, tt, tt))
joined-apart (first ∷ []) last run joined apart some = (joined.0, joined.1, joined-apart [] last run joined.2 apart some)
joined-apart (first ∷ second ∷ runs) last run joined apart some =
    (joined.0, joined.1, joined-apart (second ∷ runs) last run joined.2 apart some)

pub joined-whole : (runs : List Run) (last run whole : Run) → AreJoined (runs ++ last ∷ []) → joined_run last run ≡ Some whole
    → AreJoined (runs ++ whole ∷ [])
joined-whole [] last run whole joined is =
    let w = whole-of last run whole is in
    (let c = w.count in let some = joined.0 in omega (arith, c, some), tt, tt)
joined-whole (first ∷ []) last run whole joined is =
    (joined.0, (whole-of last run whole is).apart first joined.1, joined-whole [] last run whole joined.2 is)
joined-whole (first ∷ second ∷ runs) last run whole joined is =
    (joined.0, joined.1, joined-whole (second ∷ runs) last run whole joined.2 is)

-- the sectors of a run that is joined to the last one
pub places-whole : (runs : List Run) (last run whole : Run) → joined_run last run ≡ Some whole
    → places_in (runs ++ whole ∷ []) ≡ places_in (runs ++ last ∷ []) ++ run_places run
places-whole runs last run whole is =
    places-more runs whole
    ∙ ap (λ here. places_in runs ++ here) (whole-of last run whole is).places
    ∙ sym (append_assoc (places_in runs) (run_places last) (run_places run))
    ∙ ap (λ before. before ++ run_places run) (sym (places-more runs last))

pub run-whole : (last run whole : Run) → joined_run last run ≡ Some whole → IsRun last → IsRun run → IsRun whole
run-whole (Stretch disk start count) (Stretch other from more) whole is one two = by ((disk == other) && (start + count == from)) refl is
  where
    by : (test : Bool) → ((disk == other) && (start + count == from)) ≡ test
        → (if test then Some (Stretch disk start (count + more)) else None) ≡ Some whole → IsRun whole
    by false test is = cc
    by true test is =
        let w : Stretch disk start (count + more) ≡ whole = cc in
        let same = eqb-true (start + count) from (both (disk == other) (start + count == from) test).1 in
        let end = two.1 in
        subst IsRun w (one.0, omega (arith, same, end))
run-whole (Stretch disk start count) (Hole more) whole is one two = cc
run-whole (Hole count) (Stretch other from more) whole is one two = cc
run-whole (Hole count) (Hole more) whole is one two =
    let w : Hole (count + more) ≡ whole = cc in
    subst IsRun w tt

pub length-run : (run : Run) → length (run_places run) ≡ run_count run
length-run (Stretch disk start count) = by start count
  where
    by : (start count : ℕ) → length (stretch_places disk start count) ≡ count
    by start zero = refl
    by start (suc count) = ap suc (by (start + 1) count)
length-run (Hole count) = length-replicate count None

pub length-after : (after before : List (Option DiskSector)) (run : Run) → after ≡ before ++ run_places run → length after ≡ length before + run_count run
length-after after before run is = ap length is ∙ length-append before (run_places run) ∙ ap (λ n. length before + n) (length-run run)

-- the last run of some has no more sectors than all
pub last-count : (runs : List Run) (last : Run) (whole : List Run) → whole ≡ runs ++ last ∷ [] → run_count last ≤ length (places_in whole)
last-count runs last whole is =
    let long = length-after (places_in whole) (places_in runs) last (ap places_in is ∙ places-more runs last) in
    omega (arith, long)

-- the last of some runs is one of them
pub last-is : (runs : List Run) (last : Run) → All IsRun (runs ++ last ∷ []) → IsRun last
last-is runs last all =
    let long = length-append runs (last ∷ []) in
    subst IsRun (get_or-append_seam runs last [] last) (all (length runs) last (omega (arith, long)))
