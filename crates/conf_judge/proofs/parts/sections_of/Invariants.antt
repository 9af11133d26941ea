use Rattle.std.proofs.Common.{◌≡◌, ◌≤◌, ◌-◌, ◌++◌, [], length, drop}
use Rattle.lilo_model.specs.Conf.{parts_of}
use Rattle.conf_settings.specs.View.{settings_view}
use Rattle.conf_judge.specs.View.{lists_view}
use Rattle.conf_judge.proofs.parts.sections_of.Given as goal

-- what is left begins with a section, and the sections so far come before its
abbrev pub invariant-loop-at : goal.invariant-loop-at
invariant-loop-at l = record {
  within : l.at ≤ length l.settings;
  front : (parts_of (settings_view (drop l.at l.settings))).front ≡ [];
  sections : lists_view l.sections.items ++ (parts_of (settings_view (drop l.at l.settings))).sections ≡ (parts_of (settings_view l.settings)).sections;
}

abbrev pub decreases-loop-at : goal.decreases-loop-at
decreases-loop-at l = length l.settings - l.at
