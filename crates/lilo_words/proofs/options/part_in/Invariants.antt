use Rattle.std.proofs.Common.{◌-◌}
use Rattle.lilo_words.specs.View.{bare_view}
use Rattle.lilo_words.proofs.PartReads.{OptionsRead}
use Rattle.lilo_words.proofs.options.part_in.Given as goal

-- the options so far are read
abbrev pub invariant-loop-at : goal.invariant-loop-at
invariant-loop-at l = OptionsRead l.words l.from l.at l.end (bare_view l.part)

abbrev pub decreases-loop-at : goal.decreases-loop-at
decreases-loop-at l = l.end - l.at
