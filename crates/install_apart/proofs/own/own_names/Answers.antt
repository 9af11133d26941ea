-- The map's names, then the backup's.
use Rattle.std.proofs.Common.{◌≡◌, Err, rules}
use Rattle.lilo_model.specs.MinixNames.{names_in, IsSound}
use Rattle.lilo_model.specs.MinixParts.{parts_of}
use Rattle.lilo_model.specs.Settled.{backup_name}
use Rattle.lilo_conf.specs.View.{config_view}
use Rattle.mbr_table.specs.View.{device_view}
use Rattle.minix_zones.specs.Volume.{volume_view, past_of}
use Rattle.minix_zones.proofs.SameLemmas.{told_back}
use Rattle.install_apart.specs.Faults.{RefusesNames}
use Rattle.install_apart.specs.Own.{GivesBackupAt}
use Rattle.install_apart.proofs.OwnLemmas.{told-own, told-no-map, told-second}
use Rattle.install_apart.proofs.own.own_names.Goals as goal

pub returns-in_err-map-clause-names : goal.returns-in_err-map-clause-names
returns-in_err-map-clause-names g c =
    let given : c.from_residual.result ≡ Err (c.in_err-map.field-0.0) = search rules in
    rw given
    (told-no-map (past_of c.args.volume.now) (volume_view c.args.volume.now) (config_view c.args.config.now) (device_view c.args.boot) c.args.foreign c.bytes.result.now (c.in_err-map.field-0.0)
    c.bytes.ensures c.in_err-map.ensures.pair)

pub returns-in_err-backup-clause-names : goal.returns-in_err-backup-clause-names
returns-in_err-backup-clause-names g c =
    let given : c.from_residual-in_err-backup.result ≡ Err (c.in_err-backup.field-0.0) = search rules in
    let refused = told_back c.args.volume.now c.named_pair.new.volume
    (λ volume now. IsSound volume now → RefusesNames (c.in_err-backup.field-0.0) (backup_name (names_in volume now) (config_view c.args.config.now) (device_view c.args.boot) c.args.foreign))
    c.in_ok-map.ensures.same c.in_err-backup.ensures.backup in
    rw given
    (told-second (past_of c.args.volume.now) (volume_view c.args.volume.now) (config_view c.args.config.now) (device_view c.args.boot) c.args.foreign c.bytes.result.now c.in_ok-map.map (c.in_err-backup.field-0.0)
    c.bytes.ensures c.in_ok-map.ensures.pair refused)

pub returns-clause-names : goal.returns-clause-names
returns-clause-names g c =
    let backup = told_back c.args.volume.now c.named_pair.new.volume
    (λ volume now. IsSound volume now → GivesBackupAt volume.layout (parts_of volume now) (backup_name (names_in volume now) (config_view c.args.config.now) (device_view c.args.boot) c.args.foreign) c.in_ok-backup.backup)
    c.in_ok-map.ensures.same c.in_ok-backup.ensures.backup in
    told-own (past_of c.args.volume.now) (volume_view c.args.volume.now) (config_view c.args.config.now) (device_view c.args.boot) c.args.foreign c.bytes.result.now c.in_ok-map.map c.in_ok-backup.backup
    c.bytes.ensures c.in_ok-map.ensures.pair backup
