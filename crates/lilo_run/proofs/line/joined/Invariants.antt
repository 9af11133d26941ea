-- The words so far, with a space between each two.
use Rattle.std.proofs.Common.{◌≡◌, ◌≤◌, ◌⊎◌, slice_range}
use Rattle.lilo_model.specs.LineWords.{joined_words}
use Rattle.lilo_run.proofs.line.joined.Given as goal

abbrev pub invariant-loop-at : goal.invariant-loop-at
invariant-loop-at l = record {
  start : l.from ≤ l.at;
  within : (l.at ≤ l.to) ⊎ (l.at ≡ l.from);
  text : l.text.items ≡ joined_words (slice_range l.words l.from l.at);
}
