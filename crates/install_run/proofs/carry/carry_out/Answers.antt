-- Each way out says how far it came.
use Rattle.std.proofs.Common.{◌≡◌, ◌∙◌, Err, rules}
use Rattle.disk_trait.proofs.CallLemmas.{goes_on_join}
use Rattle.minix_zones.specs.Volume.{faults_of}
use Rattle.install_run.specs.Steps.{HaltedStaging, HaltedCommit}
use Rattle.install_run.proofs.CarriedLemmas.{causes_from, commit_cause, staging_lost, stopped_goes_on, stopped_reference, tidied_carries, tidied_goes_on, tidied_lost, tidied_reference}
use Rattle.install_run.proofs.PreparedLemmas.{cause_from}
use Rattle.install_run.proofs.carry.carry_out.Goals as goal

-- Each way out by `?` answers what the call refused.
is-staged : (g : Rattle.install_run.proofs.carry.carry_out.Given.Over) (c : goal.After-from_residual g) → c.from_residual.result ≡ Err c.in_err-staged.field-0.0
is-staged g c = search rules

is-committed : (g : Rattle.install_run.proofs.carry.carry_out.Given.Over) (c : goal.After-from_residual-in_err-committed g) → c.from_residual-in_err-committed.result ≡ Err c.in_err-committed.field-0.0
is-committed g c = search rules

-- ---- a disk failed as the files were staged

pub returns-in_err-staged-clause-carries : goal.returns-in_err-staged-clause-carries
returns-in_err-staged-clause-carries g c =
    let halt = c.in_err-staged.field-0.0 in
    let is : c.from_residual.result ≡ Err halt = is-staged g c in
    rw is (HaltedStaging c.in_err-staged.ensures.phase c.in_err-staged.ensures.halted)

pub returns-in_err-staged-clause-device : goal.returns-in_err-staged-clause-device
returns-in_err-staged-clause-device g c told =
    let halt = c.in_err-staged.field-0.0 in
    let is : c.from_residual.result ≡ Err halt = is-staged g c in
    rw is (staging_lost c.args.planned c.requires halt c.in_err-staged.ensures.halted told)

pub returns-in_err-staged-clause-goes_on : goal.returns-in_err-staged-clause-goes_on
returns-in_err-staged-clause-goes_on g c =
    let halt = c.in_err-staged.field-0.0 in
    let is : c.from_residual.result ≡ Err halt = is-staged g c in
    rw is (stopped_goes_on c.args.planned halt c.in_err-staged.ensures.halted)

pub returns-in_err-staged-clause-same_reference : goal.returns-in_err-staged-clause-same_reference
returns-in_err-staged-clause-same_reference g c =
    let halt = c.in_err-staged.field-0.0 in
    let is : c.from_residual.result ≡ Err halt = is-staged g c in
    rw is (stopped_reference c.args.planned halt c.in_err-staged.ensures.halted)

-- ---- one failed in the commit

pub returns-in_err-committed-clause-carries : goal.returns-in_err-committed-clause-carries
returns-in_err-committed-clause-carries g c =
    let halt = c.in_err-committed.field-0.0 in
    let is : c.from_residual-in_err-committed.result ≡ Err halt = is-committed g c in
    let halts = c.in_err-committed.ensures.halted in
    rw is (HaltedCommit halts.phase_is c.in_ok-staged.staged (record { stages = c.in_ok-staged.ensures.staged; quiet = c.in_ok-staged.ensures.quiet }) halts)

pub returns-in_err-committed-clause-device : goal.returns-in_err-committed-clause-device
returns-in_err-committed-clause-device g c told =
    let halt = c.in_err-committed.field-0.0 in
    let is : c.from_residual-in_err-committed.result ≡ Err halt = is-committed g c in
    rw is c.in_err-committed.ensures.halted.fault_is

pub returns-in_err-committed-clause-cause : goal.returns-in_err-committed-clause-cause
returns-in_err-committed-clause-cause g c =
    let halt = c.in_err-committed.field-0.0 in
    let is : c.from_residual-in_err-committed.result ≡ Err halt = is-committed g c in
    let staged = c.in_ok-staged.staged in
    rw is
    (cause_from halt.fault (faults_of c.args.planned.volume) (faults_of staged.volume) (faults_of halt.volume) c.in_ok-staged.ensures.staged.stages.goes_on.later
    (commit_cause staged halt c.in_err-committed.ensures.halted))

pub returns-in_err-committed-clause-goes_on : goal.returns-in_err-committed-clause-goes_on
returns-in_err-committed-clause-goes_on g c =
    let halt = c.in_err-committed.field-0.0 in
    let is : c.from_residual-in_err-committed.result ≡ Err halt = is-committed g c in
    let staged = c.in_ok-staged.staged in
    rw is
    (goes_on_join g.D.Disks c.args.planned.volume.disks.now staged.volume.disks.now halt.volume.disks.now c.in_ok-staged.ensures.staged.stages.goes_on
    c.in_err-committed.ensures.halted.commits.goes_on)

pub returns-in_err-committed-clause-same_reference : goal.returns-in_err-committed-clause-same_reference
returns-in_err-committed-clause-same_reference g c =
    let halt = c.in_err-committed.field-0.0 in
    let is : c.from_residual-in_err-committed.result ≡ Err halt = is-committed g c in
    rw is (c.in_err-committed.ensures.halted.commits.kept.same_reference ∙ c.in_ok-staged.ensures.staged.stages.kept.same_reference)

-- ---- it is committed

pub tidy-requires : goal.tidy-requires
tidy-requires g c = record { may = c.in_ok-committed.ensures.ready (c.in_ok-staged.ensures.ready c.requires.apart) }

pub returns-clause-carries : goal.returns-clause-carries
returns-clause-carries g c =
    tidied_carries c.in_ok-committed.committed (c.in_ok-committed.ensures.ready (c.in_ok-staged.ensures.ready c.requires.apart)) c.tidy.result c.tidy.ensures.tidied c.tidy.ensures.halted
    c.args.planned c.in_ok-staged.staged (record { stages = c.in_ok-staged.ensures.staged; quiet = c.in_ok-staged.ensures.quiet }) c.in_ok-committed.ensures.committed
    c.tidy.ensures.quiet c.tidy.ensures.phase

pub returns-clause-device : goal.returns-clause-device
returns-clause-device g c told =
    tidied_lost c.in_ok-committed.committed (c.in_ok-committed.ensures.ready (c.in_ok-staged.ensures.ready c.requires.apart)) c.tidy.result c.tidy.ensures.tidied c.tidy.ensures.halted
    (c.in_ok-committed.ensures.committed.commits.goes_on.told (c.in_ok-staged.ensures.staged.stages.goes_on.told told))

pub returns-clause-cause : goal.returns-clause-cause
returns-clause-cause g c =
    let committed = c.in_ok-committed.committed in
    let joined = goes_on_join g.D.Disks c.args.planned.volume.disks.now c.in_ok-staged.staged.volume.disks.now committed.volume.disks.now c.in_ok-staged.ensures.staged.stages.goes_on
    c.in_ok-committed.ensures.committed.commits.goes_on in
    causes_from c.tidy.result (faults_of c.args.planned.volume) (faults_of committed.volume) joined.later c.tidy.ensures.cause

pub returns-clause-goes_on : goal.returns-clause-goes_on
returns-clause-goes_on g c =
    let committed = c.in_ok-committed.committed in
    let joined = goes_on_join g.D.Disks c.args.planned.volume.disks.now c.in_ok-staged.staged.volume.disks.now committed.volume.disks.now c.in_ok-staged.ensures.staged.stages.goes_on
    c.in_ok-committed.ensures.committed.commits.goes_on in
    goes_on_join g.D.Disks c.args.planned.volume.disks.now committed.volume.disks.now _ joined
    (tidied_goes_on committed (c.in_ok-committed.ensures.ready (c.in_ok-staged.ensures.ready c.requires.apart)) c.tidy.result c.tidy.ensures.tidied c.tidy.ensures.halted)

pub returns-clause-same_reference : goal.returns-clause-same_reference
returns-clause-same_reference g c =
    tidied_reference c.in_ok-committed.committed (c.in_ok-committed.ensures.ready (c.in_ok-staged.ensures.ready c.requires.apart)) c.tidy.result c.tidy.ensures.tidied c.tidy.ensures.halted
    ∙ (c.in_ok-committed.ensures.committed.commits.kept.same_reference ∙ c.in_ok-staged.ensures.staged.stages.kept.same_reference)
