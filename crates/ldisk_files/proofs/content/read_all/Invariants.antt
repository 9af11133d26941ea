use Rattle.std.proofs.Common.{◌+◌, ◌-◌, ◌≤◌, length}
use Rattle.ldisk_model.specs.FileVerdict.{most_stored}
use Rattle.ldisk_files.proofs.ContentLemmas.{HasTaken}
use Rattle.ldisk_files.proofs.content.read_all.Given as goal

-- the bytes so far, of which there is one too many at most
abbrev pub invariant-loop-buffer : goal.invariant-loop-buffer
invariant-loop-buffer g l = record {
  taken : HasTaken (g.I.Source.left l.fn.source) l.bytes.items (g.I.Source.left l.source);
  few : length l.bytes.items ≤ most_stored + 1;
  later : g.I.Source.faults l.fn.source ≤ g.I.Source.faults l.source;
}

abbrev pub decreases-loop-buffer : goal.decreases-loop-buffer
decreases-loop-buffer g l = most_stored + 1 - length l.bytes.items
