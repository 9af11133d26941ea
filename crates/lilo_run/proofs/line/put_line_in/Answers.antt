-- The write was made, or not.
use Rattle.std.proofs.Common.{refl}
use Rattle.stream_trait.specs.Shows.{sink_of}
use Rattle.stream_trait.proofs.ShowsLemmas.{shows_nothing}
use Rattle.disk_trait.proofs.ToldLemmas.{told_map}
use Rattle.lilo_run.proofs.ShotLemmas.{shot_done, shot_failed}
use Rattle.lilo_run.proofs.line.put_line_in.Goals as goal

pub returns-in-Ok-clause-does : goal.returns-in-Ok-clause-does
returns-in-Ok-clause-does g c =
    λ memory. told_map (g.D.Disks.past c.args.disks.now) _ _
    (λ now puts keys key_faults. shot_done g.D.Disks c.args.text.now 0 keys _ _ _ puts refl refl (shows_nothing (sink_of g.O.Sink c.args.out.now)))
    c.in-Ok.ensures.line

pub returns-in-Err-clause-does : goal.returns-in-Err-clause-does
returns-in-Err-clause-does g c =
    λ memory. told_map (g.D.Disks.past c.args.disks.now) _ _
    (λ now puts keys key_faults. shot_failed g.D.Disks c.args.text.now c.say_shot.result keys _ _ c.in-Err.fault _ puts c.in-Err.ensures.before c.in-Err.ensures.failed
    c.say_shot.ensures.status c.say_shot.ensures.some c.say_shot.ensures.shown)
    c.in-Err.ensures.line
