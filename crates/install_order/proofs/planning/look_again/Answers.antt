-- The boot sector, once directories were read.
use Rattle.std.proofs.Common.{◌≡◌}
use Rattle.std.proofs.lemmas.Result.{IfOk-weaker}
use Rattle.disk_trait.specs.Past.{Image}
use Rattle.lilo_model.specs.MinixParts as volumes
use Rattle.minix_zones.specs.Volume.{faults_of}
use Rattle.minix_zones.proofs.SameLemmas.{told_back}
use Rattle.install_order.specs.Stageable.{LieWhereSound}
use Rattle.install_order.proofs.PlanLemmas.{cause_later}
use Rattle.install_order.proofs.WishedLemmas.{lie_stays, on_ok_all}
use Rattle.install_order.proofs.planning.look_again.Goals as goal

pub returns-clause-present : goal.returns-clause-present
returns-clause-present g c =
    let v = c.args.volume.now in
    IfOk-weaker c.read_present.result _ _
    (λ present is. let P : volumes.Volume → Image → Type 0 = λ view image. present ≡ image c.args.boot.disk c.args.boot.start in told_back v c.look_at_names.new.volume P c.look_at_names.ensures.same is)
    c.read_present.ensures.present

pub returns-clause-lie : goal.returns-clause-lie
returns-clause-lie g c =
    on_ok_all c.read_present.result (LieWhereSound c.read_present.new.volume c.args.own.now)
    (lie_stays c.look_at_names.new.volume c.read_present.new.volume c.read_present.ensures.same c.args.own.now c.in_ok-look_at_names.ensures.lie)

pub returns-clause-cause : goal.returns-clause-cause
returns-clause-cause g c =
    cause_later c.read_present.result (faults_of c.args.volume.now) (faults_of c.look_at_names.new.volume) (faults_of c.read_present.new.volume)
    c.look_at_names.ensures.later c.read_present.ensures.cause
