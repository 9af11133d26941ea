-- The blocks so far were added.
use Rattle.std.proofs.Common.{◌≡◌, ◌≤◌}
use Rattle.disk_trait.specs.Past.{Told}
use Rattle.stream_trait.specs.Shows.{HasFailed}
use Rattle.lilo_model.specs.MinixParts.{parts_of}
use Rattle.lilo_model.specs.MinixFind.{file_block}
use Rattle.lilo_model.specs.LdiskVerdict.{printed}
use Rattle.minix_layout.specs.View.{super_view, inode_view}
use Rattle.minix_zones.specs.Held.{AreHeld}
use Rattle.minix_zones.specs.Volume.{volume_view, past_of, faults_of, SameVolume}
use Rattle.ldisk_run.specs.Pieces.{sink_of, held_by, Adds}
use Rattle.ldisk_run.proofs.get.put_file.Given as goal

abbrev pub invariant-loop-index : goal.invariant-loop-index
invariant-loop-index g l =
    let held = held_by g.O.Sink in
    let sink = sink_of g.O.Sink in
    record {
      told : Told (past_of l.fn.volume) (λ now. let so_far = printed (file_block (super_view l.fn.volume.layout) (parts_of (volume_view l.fn.volume) now) (inode_view l.stat.node)) l.index in (so_far.status ≡ 0) × Adds (held l.fn.out) so_far.text (held l.out));
      same : SameVolume l.fn.volume l.volume;
      held : AreHeld l.volume l.held;
      later : faults_of l.fn.volume ≤ faults_of l.volume;
      failed : HasFailed (sink l.fn.out) (sink l.out);
      same_reference : l.out.out.out.ghost_name ≡ l.fn.out.out.out.ghost_name;
    }
