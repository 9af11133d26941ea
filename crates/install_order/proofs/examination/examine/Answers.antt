-- What is found in three calls, or the first refusal.
use Rattle.std.proofs.Common.{◌≡◌, List, Ok, Err, sym, rules}
use Rattle.lilo_model.specs.Disks.{Image, Machine}
use Rattle.lilo_model.specs.MinixNames.{IsSound}
use Rattle.lilo_model.specs.MinixParts as volumes
use Rattle.lilo_model.specs.MinixParts.{parts_of}
use Rattle.lilo_model.specs.MinixSurvey.{Met}
use Rattle.lilo_model.specs.Settled as model
use Rattle.lilo_conf.specs.View.{config_view}
use Rattle.mbr_table.specs.View.{device_view}
use Rattle.minix_zones.specs.View.{span_view}
use Rattle.minix_zones.specs.Volume.{volume_view, past_of}
use Rattle.sector_address.specs.Machine.{machine_of}
use Rattle.install_settle.specs.Found.{AreFound}
use Rattle.install_settle.proofs.FoundLemmas.{on_disks_back}
use Rattle.present_map.specs.Clear.{IsFound}
use Rattle.present_map.specs.Old.{IsOldMap}
use Rattle.install_order.specs.Checks.{GivesPresent, GivesRest}
use Rattle.install_order.proofs.ExamineLemmas.{refused_first, refused_second, both_found, all_told}
use Rattle.install_order.proofs.examination.examine.Goals as goal

pub returns-in_err-findings-clause-found : goal.returns-in_err-findings-clause-found
returns-in_err-findings-clause-found g c =
    let given : c.from_residual.result ≡ Err (c.in_err-findings.field-0.0) = search rules in
    rw given
    (refused_first (past_of c.args.volume.now) (machine_of g.D.Disks c.args.volume.now.disks.now) (volume_view c.args.volume.now) (config_view c.args.config.now) (device_view c.args.device) (span_view c.args.boot)
    (c.in_err-findings.field-0.0) c.in_err-findings.ensures.found)

pub returns-in_err-present-clause-found : goal.returns-in_err-present-clause-found
returns-in_err-present-clause-found g c =
    let given : c.from_residual-in_err-present.result ≡ Err (c.in_err-present.field-0.0) = search rules in
    rw given
    (refused_second (past_of c.args.volume.now) (machine_of g.D.Disks c.args.volume.now.disks.now) (volume_view c.args.volume.now) (config_view c.args.config.now) (device_view c.args.device) (span_view c.args.boot)
    c.in_ok-findings.findings (c.in_err-present.field-0.0) c.in_ok-findings.ensures.found
    (on_disks_back c.args.volume.now c.find_apart.new.volume
    (λ (volume : volumes.Volume) (machine : Machine) (image : Image). IsSound volume image
    → GivesPresent image machine volume (config_view c.args.config.now) (device_view c.args.device) (span_view c.args.boot) (Err (c.in_err-present.field-0.0)))
    c.in_ok-findings.ensures.same c.in_err-present.ensures.found))

pub returns-clause-found : goal.returns-clause-found
returns-clause-found g c =
    let v0 = c.args.volume.now in
    let v1 = c.find_apart.new.volume in
    let v2 = c.find_present.new.volume in
    let past = past_of v0 in
    let machine = machine_of g.D.Disks v0.disks.now in
    let view = volume_view v0 in
    let config = config_view c.args.config.now in
    let device = device_view c.args.device in
    let span = span_view c.args.boot in
    let found = c.in_ok-findings.findings in
    let present = c.in_ok-present.present in
    let forced = c.is_some.result in
    let asked = sym c.is_some.ensures in
    let told = on_disks_back v0 v1
    (λ (volume : volumes.Volume) (machine : Machine) (image : Image). IsSound volume image → GivesPresent image machine volume config device span (Ok present))
    c.in_ok-findings.ensures.same c.in_ok-present.ensures.found in
    let rest = on_disks_back v0 v1
    (λ (volume : volumes.Volume) (machine : Machine) (image : Image). (names : model.OwnNames) (met : List Met) → IsSound volume image
    → AreFound volume.layout (parts_of volume image) names present.own → IsOldMap volume image machine span present.old → IsFound volume image found met
    → GivesRest image machine volume span names met forced c.find_rest.result)
    c.in_ok-findings.ensures.same
    (on_disks_back v1 v2
    (λ (volume : volumes.Volume) (machine : Machine) (image : Image). (names : model.OwnNames) (met : List Met) → IsSound volume image
    → AreFound volume.layout (parts_of volume image) names present.own → IsOldMap volume image machine span present.old → IsFound volume image found met
    → GivesRest image machine volume span names met forced c.find_rest.result)
    c.in_ok-present.ensures.same c.find_rest.ensures.found) in
    all_told past machine view config device span found present forced asked c.find_rest.result c.find_rest.ensures.kept
    (both_found past machine view config device span found present forced asked c.in_ok-findings.ensures.found told) rest
