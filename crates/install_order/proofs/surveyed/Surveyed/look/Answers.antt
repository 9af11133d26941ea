-- What is looked at.
use Rattle.std.specs.Prelude.{is_some}
use Rattle.lilo_conf.specs.View.{config_view}
use Rattle.install_order.proofs.SurveyedLemmas.{map_called, backup_path_called, forced_path_called, fits_forth, looked_at, says_clear, some_by}
use Rattle.install_order.proofs.surveyed.Surveyed.look.Goals as goal

pub returns-in-Ok-clause-known : goal.returns-in-Ok-clause-known
returns-in-Ok-clause-known g c =
    let e = c.in-Ok.ensures in
    record {
      lawful = c.requires.lawful;
      device = c.boot_device-device.ensures;
      fits = fits_forth c.args.volume c.examine.new.volume e.same (is_some c.args.config.force_backup) c.in-Ok.found
          (record {
            inside = e.inside;
            twins = e.twins;
            called = e.called (map_called (config_view c.args.config) c.requires.lawful);
            backup_called = e.backup_called (backup_path_called (config_view c.args.config) c.requires.lawful) (forced_path_called (config_view c.args.config) c.requires.lawful);
            files = e.files;
            left = e.left;
            copy = e.copy;
            copies = e.copies;
          });
      known = looked_at c.args.volume c.examine.new.volume e.same c.args.config c.boot_device-device.result c.args.boot c.in-Ok.found e.found;
    }

pub returns-in-Ok-clause-clear : goal.returns-in-Ok-clause-clear
returns-in-Ok-clause-clear g c =
    some_by c.args.config.boot c.boot_device-device.result c.boot_device-device.ensures _
    (says_clear c.args.volume c.args.config c.boot_device-device.result c.args.boot c.in-Ok.found c.in-Ok.ensures.found)
