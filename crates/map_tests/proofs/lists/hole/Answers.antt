-- A hole lies on no disk, and has so many sectors.
use Rattle.std.proofs.Common.{length, sym, ap, subst, arith}
use Rattle.std.specs.Prelude.{All}
use Rattle.std.proofs.lemmas.List.Elements.{All-nil, All-push}
use Rattle.slot_lists.specs.Runs.{IsRun, places_in}
use Rattle.run_sections.proofs.PassLemmas.{pushed-long}
use Rattle.map_tests.proofs.lists.hole.Goals as goal

pub returns-clause-runs : goal.returns-clause-runs
returns-clause-runs c =
    let none = subst (All IsRun) (sym c.new-runs.ensures.items) (All-nil IsRun) in
    let one = subst (All IsRun) (sym c.in_ok-push.ensures.items) (All-push IsRun _ _ none tt) in
    subst (All IsRun) (sym c.new.ensures) one

pub returns-clause-few : goal.returns-clause-few
returns-clause-few c =
    let none = ap (λ runs. length (places_in runs)) c.new-runs.ensures.items in
    let one = pushed-long _ _ _ c.in_ok-push.ensures.items in
    let all = ap (λ runs. length (places_in runs)) c.new.ensures in
    omega (arith, none, one, all, c.ranges.count.fits)
