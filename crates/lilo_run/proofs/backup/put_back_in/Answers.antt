-- The write was made, or not.
use Rattle.std.proofs.Common.{refl}
use Rattle.stream_trait.specs.Shows.{sink_of}
use Rattle.stream_trait.proofs.ShowsLemmas.{shows_nothing}
use Rattle.disk_trait.proofs.ToldLemmas.{told_map}
use Rattle.mbr_table.specs.View.{span_view}
use Rattle.boot_backup.specs.Restore.{boot_place}
use Rattle.lilo_run.proofs.BackupLemmas.{back_done, back_failed}
use Rattle.lilo_run.proofs.backup.put_back_in.Goals as goal

pub returns-in-Ok-clause-does : goal.returns-in-Ok-clause-does
returns-in-Ok-clause-does g c =
    λ memory. told_map (g.D.Disks.past c.args.disks.now) _ _
    (λ now puts keys key_faults. back_done g.D.Disks 0 keys _ _ (boot_place (span_view c.args.span)) _ puts refl refl (shows_nothing (sink_of g.O.Sink c.args.out.now)))
    c.in-Ok.ensures.sector

pub returns-in-Err-clause-does : goal.returns-in-Err-clause-does
returns-in-Err-clause-does g c =
    λ memory. told_map (g.D.Disks.past c.args.disks.now) _ _
    (λ now puts keys key_faults. back_failed g.D.Disks c.say_restore.result keys _ _ c.in-Err.fault (boot_place (span_view c.args.span)) _ puts c.in-Err.ensures.before c.in-Err.ensures.failed
    c.say_restore.ensures.status c.say_restore.ensures.some c.say_restore.ensures.shown)
    c.in-Err.ensures.sector
