use Rattle.std.proofs.Common.{◌≡◌, ◌-◌, ◌≤◌, length, take}
use Rattle.std.specs.Io.KnownBytes.{Consumes}
use Rattle.file_disks.proofs.ahead.read_whole.Given as goal

abbrev pub invariant-loop-at : goal.invariant-loop-at
invariant-loop-at g l = record {
  whole : length l.into ≡ length l.initial.into;
  within : l.at ≤ length l.into;
  filled : Consumes (g.F.Read.remaining l.initial.file) (g.F.Read.remaining l.file) (take l.at l.into);
}

abbrev pub decreases-loop-at : goal.decreases-loop-at
decreases-loop-at g l = length l.into - l.at
