use Rattle.std.proofs.Common.{◌≡◌}
use Rattle.lilo_words.proofs.RunReads.{then_from}
use Rattle.lilo_words.proofs.run.part_end.Given as goal

-- no argument so far is `--then`
abbrev pub invariant-loop-place : goal.invariant-loop-place
invariant-loop-place l = then_from l.words l.from ≡ then_from l.words l.place
