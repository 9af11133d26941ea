use Rattle.std.proofs.Common.{◌≤◌}
use Rattle.minix_layout.specs.View.{inode_view}
use Rattle.minix_zones.specs.Volume.{volume_view, past_of, faults_of, SameVolume}
use Rattle.minix_choice.proofs.DirectoryLemmas.{SeesNow}
use Rattle.minix_choice.proofs.directory.look.Given as goal

-- the blocks so far
abbrev pub invariant-loop-index : goal.invariant-loop-index
invariant-loop-index g l = record {
  sees : SeesNow (past_of l.fn.volume) (volume_view l.fn.volume) (inode_view l.node) l.wish.directory l.wish.name.now l.taken.promises l.index l.seen;
  later : faults_of l.fn.volume ≤ faults_of l.volume;
  same : SameVolume l.fn.volume l.volume;
}
