-- The volume is as it was found; what is answered there is what the model answers.
use Rattle.std.proofs.Common.{refl}
use Rattle.disk_trait.proofs.ToldLemmas.{told_map, told_both}
use Rattle.minix_zones.specs.Volume.{volume_view}
use Rattle.mbr_table.specs.View.{span_view}
use Rattle.sector_address.specs.Machine.{machine_of}
use Rattle.stream_trait.specs.Shows.{sink_of}
use Rattle.install_begin.specs.View.{begun_view}
use Rattle.install_run.proofs.TrialLemmas.{laid_told, no_volume, of_some, on_volume}
use Rattle.install_run.proofs.trial.preview_begun.Goals as goal

pub preview-requires-clause-laid : goal.preview-requires-clause-laid
preview-requires-clause-laid g c =
    laid_told g.D.Disks c.args.disks.now c.in-Ok.volume.disks.now (span_view c.args.begun.volume) (volume_view c.in-Ok.volume) c.in-Ok.ensures.same c.in-Ok.ensures.volume
    c.requires.whole c.requires.room.ends c.in-Ok.volume.whole

pub preview-requires-clause-on_disk : goal.preview-requires-clause-on_disk
preview-requires-clause-on_disk g c = rw c.in-Ok.ensures.same.same_size c.requires.boot

pub preview-requires-clause-device : goal.preview-requires-clause-device
preview-requires-clause-device g c = rw c.requires.device refl

pub returns-in-Ok-clause-answers : goal.returns-in-Ok-clause-answers
returns-in-Ok-clause-answers g c =
    let same = c.in-Ok.ensures.same in
    let machine = machine_of g.D.Disks c.args.disks.now in
    told_both (g.D.Disks.past c.args.disks.now) _ _ _
    (λ now is answers. on_volume now machine c.args.time (begun_view c.args.begun) (volume_view c.in-Ok.volume) c.preview.result.0 (sink_of g.O.Sink c.args.out.now) (sink_of g.O.Sink c.preview.new.out) is answers)
    c.in-Ok.ensures.volume (rw (same.same_past, same.same_size, same.same_geometry) at (of_some c.args.begun.config.boot c.args.begun.device _ c.requires.device c.preview.ensures.answers))

pub returns-in-Err-clause-answers : goal.returns-in-Err-clause-answers
returns-in-Err-clause-answers g c =
    let machine = machine_of g.D.Disks c.args.disks.now in
    told_map (g.D.Disks.past c.args.disks.now) _ _
    (λ now refuses. no_volume now machine c.args.time (begun_view c.args.begun) c.in-Err.fault c.say_zone.result (sink_of g.O.Sink c.args.out.now) (sink_of g.O.Sink c.say_zone.new.out) refuses c.say_zone.ensures.answers)
    c.in-Err.ensures.volume
