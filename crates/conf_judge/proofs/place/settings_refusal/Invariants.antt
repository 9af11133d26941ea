use Rattle.std.proofs.Common.{◌≡◌, ◌≤◌, ◌-◌, [], take, drop}
use Rattle.lilo_model.specs.ConfJudge.{settings_refusal}
use Rattle.conf_settings.specs.View.{settings_view}
use Rattle.conf_judge.proofs.place.settings_refusal.Given as goal

-- what is left, after those of its part, is refused as the whole is
abbrev pub invariant-loop-index : goal.invariant-loop-index
invariant-loop-index l = record {
  start : l.start ≤ l.index;
  rest : settings_refusal (settings_view (take (l.index - l.start) (drop l.start l.settings))) (settings_view (drop l.index l.settings))
      ≡ settings_refusal [] (settings_view l.settings);
}
