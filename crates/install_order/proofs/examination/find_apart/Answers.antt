-- The survey, then what is apart.
use Rattle.std.proofs.Common.{Ok, Err}
use Rattle.lilo_model.specs.Apart.{apart_checks}
use Rattle.lilo_model.specs.Disks.{Image, Machine}
use Rattle.lilo_model.specs.MinixNames.{IsSound}
use Rattle.lilo_model.specs.MinixParts as volumes
use Rattle.lilo_conf.specs.View.{config_view}
use Rattle.mbr_table.specs.View.{device_view}
use Rattle.minix_zones.specs.Volume.{volume_view, past_of}
use Rattle.sector_address.specs.Machine.{machine_of}
use Rattle.install_apart.specs.Apart.{GivesApart}
use Rattle.install_settle.proofs.FoundLemmas.{on_disks_back}
use Rattle.install_order.proofs.ExamineLemmas.{surveyed, not_apart, is_apart}
use Rattle.install_order.proofs.examination.find_apart.Goals as goal

pub returns-in-Ok-check_apart-clause-found : goal.returns-in-Ok-check_apart-clause-found
returns-in-Ok-check_apart-clause-found g c =
    let past = past_of c.args.volume.now in
    let machine = machine_of g.D.Disks c.args.volume.now.disks.now in
    let view = volume_view c.args.volume.now in
    let config = config_view c.args.config.now in
    let device = device_view c.args.device in
    is_apart past machine view config device c.in-Ok.findings
    (surveyed past machine view config device c.in-Ok.findings c.requires.laid c.in-Ok.ensures.sound c.in-Ok.ensures.found)
    (on_disks_back c.args.volume.now c.survey.new.volume
    (λ (volume : volumes.Volume) (machine : Machine) (image : Image). IsSound volume image → GivesApart (Ok tt) (apart_checks image machine volume config device))
    c.in-Ok.ensures.same c.in-Ok-check_apart.ensures.apart)

pub returns-in-Err-check_apart-clause-found : goal.returns-in-Err-check_apart-clause-found
returns-in-Err-check_apart-clause-found g c =
    let past = past_of c.args.volume.now in
    let machine = machine_of g.D.Disks c.args.volume.now.disks.now in
    let view = volume_view c.args.volume.now in
    let config = config_view c.args.config.now in
    let device = device_view c.args.device in
    rw c.apart_refusal.ensures.is
    (not_apart past machine view config device c.in-Ok.findings c.in-Err-check_apart.fault
    (surveyed past machine view config device c.in-Ok.findings c.requires.laid c.in-Ok.ensures.sound c.in-Ok.ensures.found)
    (on_disks_back c.args.volume.now c.survey.new.volume
    (λ (volume : volumes.Volume) (machine : Machine) (image : Image). IsSound volume image → GivesApart (Err c.in-Err-check_apart.fault) (apart_checks image machine volume config device))
    c.in-Ok.ensures.same c.in-Err-check_apart.ensures.apart))
