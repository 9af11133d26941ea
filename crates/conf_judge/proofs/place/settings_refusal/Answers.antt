use Rattle.std.proofs.Common.{◌≡◌, ◌∙◌, refl, arith, drop, []}
use Rattle.std.specs.Prelude.{if◌then◌else◌}
use Rattle.std.proofs.lemmas.List.{drop_all}
use Rattle.lilo_model.specs.ConfJudge.{settings_refusal}
use Rattle.lilo_model.specs.ConfOptions.{opens}
use Rattle.conf_settings.specs.View.{opt_view}
use Rattle.conf_judge.proofs.PlaceLemmas.{settings_refusal-here, settings_refusal-rest, settings_at}
use Rattle.conf_judge.proofs.place.settings_refusal.Goals as goal
use Rattle.conf_judge.proofs.place.settings_refusal.Goals.{then-opens, else-opens}

pub returns-in-Some : goal.returns-in-Some
returns-in-Some c =
    let here = settings_at c.args.settings.now c.loop-index.index c.index-settings-index.result c.loop-index-test.true c.index-settings-index.is in
    rw (← c.loop-index.invariant.rest, here) (settings_refusal-here _ _ c.index-settings-index.result c.in-Some.reason c.in-Some.ensures)

pub loop-index-preserved : goal.loop-index-preserved
loop-index-preserved c =
    let next : c.if-opens.start ≡ (if opens (opt_view c.index-settings-index.result.option) then c.loop-index.index else c.loop-index.start) =
    elim c.if-opens.branch [ then-opens w ↦ rw (← c.opens.ensures, w.if-opens.true) w.start-is | else-opens w ↦ rw (← c.opens.ensures, w.if-opens.false) w.start-is ] in
    record {
      start = elim c.if-opens.branch [ then-opens w ↦ omega arith | else-opens w ↦ omega arith ];
      rest =
          settings_refusal-rest c.args.settings.now c.loop-index.start c.loop-index.index c.if-opens.start c.index-settings-index.result
          c.loop-index.invariant.start c.loop-index-test.true c.index-settings-index.is c.in_default.ensures next
          ∙ c.loop-index.invariant.rest;
    }

pub returns : goal.returns
unfolding settings_refusal
returns c =
    let none : drop c.loop-index.index c.args.settings.now ≡ [] = drop_all c.loop-index.index c.args.settings.now (omega arith) in
    rw (← c.loop-index.invariant.rest, none) refl
