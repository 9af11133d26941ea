use Rattle.std.proofs.Common.{sym, ◌∙◌}
use Rattle.minix_zones.specs.Volume.{faults_of}
use Rattle.install_run.proofs.RefusedLemmas.{answers_refusal, lost_rose, status_known}
use Rattle.install_run.proofs.preview_answer.refuse.Goals as goal

pub returns-clause-refused : goal.returns-clause-refused
returns-clause-refused g c before cause =
    answers_refusal c.args.halt.fault before (faults_of c.args.halt.volume) cause c.say_halt.result.0 _ _
    (rw c.requires.before at c.say_halt.ensures.status) (rw c.requires.before at c.say_halt.ensures.shown)

pub returns-clause-cause : goal.returns-clause-cause
returns-clause-cause g c before cause is =
    lost_rose c.args.halt.fault before (faults_of c.args.halt.volume) cause (sym (rw c.requires.before at c.say_halt.ensures.status) ∙ is)

pub returns-clause-known : goal.returns-clause-known
returns-clause-known g c = status_known c.args.halt.fault c.say_halt.result.0 (rw c.requires.before at c.say_halt.ensures.status)
