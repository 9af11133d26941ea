use Rattle.std.proofs.Common.{◌≡◌, ◌≤◌, ◌+◌, length}
use Rattle.lilo_model.specs.LineWords.{words_of}
use Rattle.prompt_core.specs.Reader.{BeginsSpaced, gather_all, named}
use Rattle.prompt_core.specs.GatheredView.{gathered_view}
use Rattle.prompt_core.proofs.word.gather_words.Given as goal

-- what was gathered with what is left comes to what all comes to, and there is room for what is left
abbrev pub invariant-loop-next : goal.invariant-loop-next
invariant-loop-next l = record {
  same : gather_all (gathered_view l.gathered) (words_of l.rest) ≡ gather_all (named l.name) (words_of l.text);
  words : length l.gathered.words.items + length l.rest ≤ 470;
  lock_line : length l.gathered.lock_line.items + length l.rest ≤ 470;
  spaced : BeginsSpaced l.rest;
}

abbrev pub decreases-loop-next : goal.decreases-loop-next
decreases-loop-next l = length l.rest
