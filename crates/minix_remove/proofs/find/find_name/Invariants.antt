use Rattle.std.proofs.Common.{◌≤◌}
use Rattle.minix_layout.specs.View.{inode_view}
use Rattle.minix_zones.specs.Volume.{volume_view, past_of, faults_of, SameVolume}
use Rattle.minix_remove.proofs.FindLemmas.{NoneBefore}
use Rattle.minix_remove.proofs.find.find_name.Given as goal

-- no block so far has the name
abbrev pub invariant-loop-index : goal.invariant-loop-index
invariant-loop-index g l = record {
  none : NoneBefore (past_of l.fn.volume) (volume_view l.fn.volume) (inode_view l.directory) l.name l.index;
  later : faults_of l.fn.volume ≤ faults_of l.volume;
  same : SameVolume l.fn.volume l.volume;
}
