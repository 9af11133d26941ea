use Rattle.std.proofs.Common.{◌≡◌, slice_range}
use Rattle.lilo_words.proofs.CommandReads.{bad_from}
use Rattle.lilo_words.proofs.command.line_in.Given as goal

-- the arguments so far may be there
abbrev pub invariant-loop-place : goal.invariant-loop-place
invariant-loop-place l = bad_from l.at (slice_range l.words l.at l.end) ≡ bad_from l.place (slice_range l.words l.place l.end)
