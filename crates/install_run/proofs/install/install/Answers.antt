-- It answers by what is planned, and leaves by how far it came.
use Rattle.std.proofs.Common.{arith}
use Rattle.disk_trait.proofs.CallLemmas.{goes_on_join}
use Rattle.minix_zones.specs.Volume.{faults_of}
use Rattle.install_run.proofs.CarriedLemmas.{rose_in, status_in}
use Rattle.install_run.proofs.InstalledLemmas.{planned_installs, refused_installs}
use Rattle.install_run.proofs.PhaseLemmas.{planned_fails, refused_fails}
use Rattle.install_run.proofs.install.install.Goals as goal

-- ---- it is planned

pub returns-in-Ok-clause-installs : goal.returns-in-Ok-clause-installs
returns-in-Ok-clause-installs g c =
    planned_installs c.args.volume c.args.config c.args.boot c.args.now c.requires.device c.finish.result.0 c.finish.result.1.now _ _ c.in-Ok.planned c.in-Ok.clear
    c.in-Ok.ensures.prepared c.requires.whole c.in-Ok.ensures.gives c.in-Ok.ensures.nothing c.in-Ok.ensures.stays c.in-Ok.ensures.ready c.in-Ok.ensures.goes_on _
    (rw (c.skipped.ensures, c.names.ensures, c.default_entry.ensures) at c.show.ensures.shown) c.finish.ensures.finishes

pub returns-in-Ok-clause-cause : goal.returns-in-Ok-clause-cause
returns-in-Ok-clause-cause g c lost full =
    let later = c.in-Ok.ensures.goes_on.later in let risen = c.finish.ensures.cause lost full in omega (arith, later, risen)

pub returns-in-Ok-clause-goes_on : goal.returns-in-Ok-clause-goes_on
returns-in-Ok-clause-goes_on g c = goes_on_join g.D.Disks _ _ _ c.in-Ok.ensures.goes_on c.finish.ensures.goes_on

pub returns-in-Ok-clause-phase : goal.returns-in-Ok-clause-phase
returns-in-Ok-clause-phase g c =
    planned_fails c.args.volume c.args.config c.args.boot c.requires.device c.finish.result.0 c.finish.result.1.now c.args.now c.in-Ok.planned c.in-Ok.clear
    c.in-Ok.ensures.prepared c.in-Ok.ensures.ready c.requires.whole c.requires.there c.in-Ok.ensures.gives _ _ c.finish.ensures.finishes c.in-Ok.ensures.goes_on c.finish.ensures.cause

-- ---- it was refused

pub returns-in-Err-clause-installs : goal.returns-in-Err-clause-installs
returns-in-Err-clause-installs g c =
    refused_installs c.args.volume c.args.config c.args.boot c.args.now c.requires.device c.say_halt.result.0 c.say_halt.result.1.now _ _ c.in-Err.halt
    c.say_halt.ensures.disks c.in-Err.ensures.cause c.in-Err.ensures.gives c.in-Err.ensures.unbegun c.in-Err.ensures.nothing c.in-Err.ensures.stays c.in-Err.ensures.quiet c.in-Err.ensures.gains
    (rw c.in-Err.ensures.phase at c.say_halt.ensures.status) (rw c.in-Err.ensures.phase at c.say_halt.ensures.shown)

pub returns-in-Err-clause-phase : goal.returns-in-Err-clause-phase
returns-in-Err-clause-phase g c =
    refused_fails c.args.volume c.args.config c.args.boot c.requires.device c.say_halt.result.0 c.say_halt.result.1.now c.requires.there c.in-Err.halt c.say_halt.ensures.disks
    c.in-Err.ensures.stays (rw c.in-Err.ensures.phase at c.say_halt.ensures.status) c.in-Err.ensures.cause

pub returns-in-Err-clause-cause : goal.returns-in-Err-clause-cause
returns-in-Err-clause-cause g c lost =
    rw c.say_halt.ensures.disks
    (rose_in c.in-Err.halt.fault c.in-Err.halt.phase (faults_of c.args.volume) (faults_of c.in-Err.halt.volume) c.in-Err.ensures.cause (rw c.say_halt.ensures.status at lost))

pub returns-in-Err-clause-statuses : goal.returns-in-Err-clause-statuses
returns-in-Err-clause-statuses g c = status_in c.in-Err.halt.fault c.in-Err.halt.phase c.say_halt.result.0 c.say_halt.ensures.status

pub returns-in-Err-clause-goes_on : goal.returns-in-Err-clause-goes_on
returns-in-Err-clause-goes_on g c = rw c.say_halt.ensures.disks c.in-Err.ensures.goes_on
