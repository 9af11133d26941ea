-- No part before the next one boots.
use Rattle.std.proofs.Common.{◌≡◌, ◌≤◌, length, IfSome, IsOk}
use Rattle.lilo_words.specs.Run.{run_behind, parts_behind, parts_of_next}
use Rattle.lilo_run.specs.Verdict.{has_boot}
use Rattle.lilo_run.proofs.RunLemmas.{turns_left}
use Rattle.lilo_run.proofs.memory.has_boot.Given as goal

abbrev pub invariant-loop-next : goal.invariant-loop-next
invariant-loop-next l = record {
  place : IfSome l.next (λ from. from ≤ length l.words);
  run : IfSome l.next (λ from. IsOk (run_behind l.words from));
  boots : has_boot (parts_behind l.words 0) ≡ has_boot (parts_of_next l.words l.next);
}

abbrev pub decreases-loop-next : goal.decreases-loop-next
decreases-loop-next l = turns_left l.next (length l.words)
