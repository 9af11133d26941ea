use Rattle.std.proofs.Common.{◌≡◌, drop}
use Rattle.lilo_model.specs.Conf.{sections_refusal}
use Rattle.conf_settings.specs.View.{settings_view}
use Rattle.conf_judge.specs.View.{lists_view}
use Rattle.conf_judge.proofs.section.sections_refusal.Given as goal

-- what is left is refused as the whole is
abbrev pub invariant-loop-section : goal.invariant-loop-section
invariant-loop-section l =
    sections_refusal (settings_view l.front) (lists_view (drop l.section-index l.sections)) ≡ sections_refusal (settings_view l.front) (lists_view l.sections)
