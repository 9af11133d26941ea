-- The entries so far were added, and with those that are left they are all.
use Rattle.std.proofs.Common.{◌≡◌, ◌≤◌}
use Rattle.disk_trait.specs.Past.{Told}
use Rattle.stream_trait.specs.Shows.{HasFailed}
use Rattle.lilo_model.specs.MinixParts.{parts_of}
use Rattle.minix_layout.specs.View.{super_view}
use Rattle.minix_zones.specs.Volume.{volume_view, past_of, faults_of, SameVolume}
use Rattle.ldisk_run.specs.Pieces.{sink_of, held_by}
use Rattle.ldisk_run.proofs.EntryLemmas.{Listed}
use Rattle.ldisk_run.proofs.ls.put_each.Given as goal

abbrev pub invariant-loop-entry : goal.invariant-loop-entry
invariant-loop-entry g l =
    let held = held_by g.O.Sink in
    let sink = sink_of g.O.Sink in
    record {
      can_next : (goal.iterator-loop-entry g).can_next l.entry-iterator;
      is_finite : (goal.iterator-loop-entry g).is_finite l.entry-iterator;
      told : Told (past_of l.fn.volume) (λ now. Listed (super_view l.fn.volume.layout) (parts_of (volume_view l.fn.volume) now) (held l.fn.out) (held l.out) l.entry-iterator l.fn.entries);
      same : SameVolume l.fn.volume l.volume;
      later : faults_of l.fn.volume ≤ faults_of l.volume;
      failed : HasFailed (sink l.fn.out) (sink l.out);
      same_reference : l.out.out.out.ghost_name ≡ l.fn.out.out.out.ghost_name;
    }
