-- Devices, the backup's names, then files.
use Rattle.std.proofs.Common.{◌≡◌, Err, rules}
use Rattle.lilo_model.specs.Apart.{names_pair}
use Rattle.lilo_model.specs.MinixNames.{names_in, IsSound}
use Rattle.lilo_model.specs.MinixParts.{parts_of}
use Rattle.lilo_model.specs.NamePlaces.{backup_path}
use Rattle.lilo_conf.specs.View.{config_view}
use Rattle.mbr_table.specs.View.{device_view}
use Rattle.minix_zones.specs.Volume.{volume_view, past_of, SameVolume}
use Rattle.minix_zones.proofs.SameLemmas.{told_back}
use Rattle.install_apart.specs.Apart.{GivesApart, machine_by}
use Rattle.install_apart.specs.Guarded.{AreBoth, file_checks}
use Rattle.install_apart.proofs.ApartLemmas.{guarded_back, apart-first, apart-second, apart-last}
use Rattle.install_apart.proofs.apart.check_apart.Goals as goal

pub returns-in_err-check_devices-clause-apart : goal.returns-in_err-check_devices-clause-apart
returns-in_err-check_devices-clause-apart g c =
    let given : c.from_residual.result ≡ Err (c.in_err-check_devices.field-0.0) = search rules in
    rw given
    (apart-first (machine_by c.args.volume.now) (volume_view c.args.volume.now) (config_view c.args.config.now) (device_view c.args.boot)
    (past_of c.args.volume.now) (c.in_err-check_devices.field-0.0) c.in_err-check_devices.ensures.apart)

pub returns-in_err-judged-clause-apart : goal.returns-in_err-judged-clause-apart
returns-in_err-judged-clause-apart g c =
    let given : c.from_residual-in_err-judged.result ≡ Err (c.in_err-judged.field-0.0) = search rules in
    let both = told_back c.args.volume.now c.check_devices.new.volume
    (λ volume now. IsSound volume now → AreBoth volume.layout (parts_of volume now) (names_pair (names_in volume now) (config_view c.args.config.now).map)
    (names_pair (names_in volume now) (backup_path (config_view c.args.config.now) (device_view c.args.boot))) c.in_ok-both.both)
    c.in_ok-check_devices.ensures.same c.in_ok-both.ensures.both in
    rw given
    (apart-second (machine_by c.args.volume.now) (volume_view c.args.volume.now) (config_view c.args.config.now) (device_view c.args.boot)
    (past_of c.args.volume.now) c.in_ok-both.both c.are_apart_found.result c.backup_option.result (c.in_err-judged.field-0.0)
    c.in_ok-check_devices.ensures.apart both c.are_apart_found.ensures c.backup_option.ensures c.in_err-judged.ensures)

pub returns-clause-apart : goal.returns-clause-apart
returns-clause-apart g c =
    let same : SameVolume c.args.volume.now c.find_both.new.volume = search rules in
    let both = told_back c.args.volume.now c.check_devices.new.volume
    (λ volume now. IsSound volume now → AreBoth volume.layout (parts_of volume now) (names_pair (names_in volume now) (config_view c.args.config.now).map)
    (names_pair (names_in volume now) (backup_path (config_view c.args.config.now) (device_view c.args.boot))) c.in_ok-both.both)
    c.in_ok-check_devices.ensures.same c.in_ok-both.ensures.both in
    let files = guarded_back c.args.volume.now c.find_both.new.volume c.guarded_of-guarded.result
    (λ now volume names. GivesApart c.check_files.result (file_checks now volume names (config_view c.args.config.now)))
    same c.check_files.ensures.apart in
    apart-last (machine_by c.args.volume.now) (volume_view c.args.volume.now) (config_view c.args.config.now) (device_view c.args.boot)
    (past_of c.args.volume.now) c.in_ok-both.both c.are_apart_found.result c.backup_option.result c.is_some.result c.guarded_of-guarded.result c.check_files.result
    c.in_ok-check_devices.ensures.apart both c.are_apart_found.ensures c.backup_option.ensures c.in_ok-judged.ensures c.is_some.ensures c.guarded_of-guarded.ensures files
