use Rattle.std.proofs.Common.{◌≡◌, ◌≤◌, ◌+◌, length}
use Rattle.disk_trait.specs.Past.{Told}
use Rattle.minix_zones.specs.Volume.{volume_view, past_of, faults_of, SameVolume}
use Rattle.minix_tree.specs.View.{IsStat, IsNode}
use Rattle.minix_names.proofs.EndLemmas.{walked_from}
use Rattle.minix_names.proofs.walk.walk_text.Given as goal

-- the walk goes on from the directory that was reached
abbrev pub invariant-loop-component : goal.invariant-loop-component
invariant-loop-component g l = record {
  so : Told (past_of l.fn.volume) (λ now. walked_from (volume_view l.fn.volume) l.fn.directory.inode 0 l.fn.text now
      ≡ walked_from (volume_view l.fn.volume) l.directory.inode l.position l.text now);
  fits : IsStat l.fn.volume.layout l.directory;
  node : IsNode l.fn.volume l.directory;
  few : l.position + length l.text ≤ 1024;
  later : faults_of l.fn.volume ≤ faults_of l.volume;
  same : SameVolume l.fn.volume l.volume;
}

abbrev pub decreases-loop-component : goal.decreases-loop-component
decreases-loop-component g l = length l.text
