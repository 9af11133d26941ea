-- It is carried out, or ended as a disk failed.
use Rattle.std.proofs.Common.{refl, sym}
use Rattle.minix_zones.specs.Volume.{faults_of}
use Rattle.stream_trait.proofs.ShowsLemmas.{shows_nothing}
use Rattle.install_run.specs.Steps.{FinishedEarly, FinishedWhole}
use Rattle.install_run.proofs.CarriedLemmas.{rose_in, status_in}
use Rattle.install_run.proofs.install.finish.Goals as goal

pub returns-in-Ok-clause-finishes : goal.returns-in-Ok-clause-finishes
returns-in-Ok-clause-finishes g c = FinishedWhole c.in-Ok.tidied c.in-Ok.ensures.carries (sym c.leave.ensures.same) refl (shows_nothing _)

pub returns-in-Ok-clause-goes_on : goal.returns-in-Ok-clause-goes_on
returns-in-Ok-clause-goes_on g c = rw c.leave.ensures.same c.in-Ok.ensures.goes_on

pub returns-in-Err-clause-finishes : goal.returns-in-Err-clause-finishes
returns-in-Err-clause-finishes g c =
    FinishedEarly c.in-Err.halt c.in-Err.ensures.carries (sym c.say_halt.ensures.disks) c.in-Err.ensures.device c.say_halt.ensures.status c.say_halt.ensures.shown

pub returns-in-Err-clause-cause : goal.returns-in-Err-clause-cause
returns-in-Err-clause-cause g c lost =
    rw c.say_halt.ensures.disks
    (rose_in c.in-Err.halt.fault c.in-Err.halt.phase (faults_of c.args.planned.volume) (faults_of c.in-Err.halt.volume) c.in-Err.ensures.cause (rw c.say_halt.ensures.status at lost))

pub returns-in-Err-clause-statuses : goal.returns-in-Err-clause-statuses
returns-in-Err-clause-statuses g c = status_in c.in-Err.halt.fault c.in-Err.halt.phase c.say_halt.result.0 c.say_halt.ensures.status

pub returns-in-Err-clause-goes_on : goal.returns-in-Err-clause-goes_on
returns-in-Err-clause-goes_on g c = rw c.say_halt.ensures.disks c.in-Err.ensures.goes_on
