use Rattle.std.proofs.Common.{◌≡◌, map, take}
use Rattle.lilo_model.specs.Conf.{section_of}
use Rattle.conf_settings.specs.View.{settings_view}
use Rattle.conf_judge.specs.View.{lists_view}
use Rattle.lilo_conf.specs.View.{sections_view}
use Rattle.lilo_conf.proofs.tell_section.sections_of.Given as goal

-- what the sections so far say
abbrev pub invariant-loop-section : goal.invariant-loop-section
invariant-loop-section l = sections_view l.told.items ≡ map (section_of (settings_view l.front)) (lists_view (take l.section-index l.sections))
