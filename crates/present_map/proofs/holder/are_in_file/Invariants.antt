-- All lie there exactly where those from here on do.
use Rattle.std.proofs.Common.{◌≡◌, ◌≤◌, map, drop}
use Rattle.std.specs.List.{list_all}
use Rattle.minix_layout.specs.View.{inode_view}
use Rattle.minix_zones.specs.Volume.{volume_view, faults_of, SameVolume}
use Rattle.sector_address.specs.Machine.{OnDisks}
use Rattle.sector_address.specs.View.{slot_view}
use Rattle.present_map.proofs.HolderLemmas.{is_within}
use Rattle.present_map.proofs.holder.are_in_file.Given as goal

abbrev pub invariant-loop-slot : goal.invariant-loop-slot
invariant-loop-slot g l = record {
  all : OnDisks g.D.Disks l.fn.volume.disks.now (λ now machine.
      list_all (is_within (volume_view l.fn.volume) now machine (inode_view l.node)) (map slot_view l.slots)
      ≡ list_all (is_within (volume_view l.fn.volume) now machine (inode_view l.node)) (map slot_view (drop l.slot-index l.slots)));
  later : faults_of l.fn.volume ≤ faults_of l.volume;
  same : SameVolume l.fn.volume l.volume;
}
