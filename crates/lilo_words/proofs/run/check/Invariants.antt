use Rattle.std.proofs.Common.{◌-◌, length}
use Rattle.lilo_words.proofs.RunReads.{IsRest}
use Rattle.lilo_words.proofs.run.check.Given as goal

abbrev pub invariant-loop-read : goal.invariant-loop-read
invariant-loop-read l = IsRest l.words l.from

abbrev pub decreases-loop-read : goal.decreases-loop-read
decreases-loop-read l = length l.words - l.from
