use Rattle.std.proofs.Common.{◌≡◌, ◌≤◌, ◌*◌, Ok, length}
use Rattle.std.specs.Prelude.{All, min}
use Rattle.disk_trait.specs.Past.{Told}
use Rattle.lilo_model.specs.Section.{sectors_for}
use Rattle.lilo_model.specs.MinixParts.{parts_of}
use Rattle.minix_layout.specs.View.{inode_view}
use Rattle.minix_zones.specs.Held.{AreHeld}
use Rattle.minix_zones.specs.Volume.{volume_view, past_of, faults_of, SameVolume}
use Rattle.slot_lists.specs.Runs.{IsRun, places_in}
use Rattle.file_runs.specs.Needed.{AreJoined}
use Rattle.file_runs.specs.Places.{first_places}
use Rattle.file_runs.proofs.file.runs_of.Given as goal

-- the runs so far have the sectors of the blocks so far
abbrev pub invariant-loop-index : goal.invariant-loop-index
invariant-loop-index g l = record {
  so : Told (past_of l.fn.volume) (λ now. first_places (volume_view l.fn.volume) (parts_of (volume_view l.fn.volume) now) (inode_view l.inode)
      (min (2 * l.index) (sectors_for l.inode.size)) ≡ Ok (places_in l.runs.items));
  long : length (places_in l.runs.items) ≤ 2 * l.index;
  joined : AreJoined l.runs.items;
  are : l.fn.volume.span.disk ≤ 3 → All IsRun l.runs.items;
  later : faults_of l.fn.volume ≤ faults_of l.volume;
  same : SameVolume l.fn.volume l.volume;
  held : AreHeld l.volume l.held;
}
