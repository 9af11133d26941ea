use Rattle.std.proofs.Common.{◌≡◌, ◌≤◌, Ok}
use Rattle.disk_trait.specs.Past.{Told}
use Rattle.lilo_model.specs.MinixParts.{parts_of, block_at, blocks_at}
use Rattle.minix_layout.specs.View.{super_view, inode_view}
use Rattle.minix_zones.specs.Held.{AreHeld}
use Rattle.minix_zones.specs.Volume.{volume_view, past_of, faults_of, SameVolume}
use Rattle.minix_tree.proofs.file.whole_blocks.Given as goal

-- the bytes so far are those of the blocks so far
abbrev pub invariant-loop-index : goal.invariant-loop-index
invariant-loop-index g l = record {
  so : Told (past_of l.fn.volume) (λ now. blocks_at (block_at (super_view l.fn.volume.layout) (parts_of (volume_view l.fn.volume) now) (inode_view l.inode)) l.index ≡ Ok l.bytes.items);
  later : faults_of l.fn.volume ≤ faults_of l.volume;
  same : SameVolume l.fn.volume l.volume;
  held : AreHeld l.volume l.held;
}
