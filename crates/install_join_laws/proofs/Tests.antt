-- Apart, test by test.
use Rattle.std.proofs.Common.{◌≡◌, ℕ, Bool, true, false, List, Result, Ok, refl}
use Rattle.std.specs.Prelude.{option_to_list}
use Rattle.std.specs.List.{list_all}
use Rattle.lilo_model.specs.Apart.{Apart, is_apart_device, other_devices, table_devices, has_apart_backup, has_apart_files, kernel_paths, initrd_paths, apart_checks}
use Rattle.lilo_model.specs.Checks.{◌>>=◌, require}
use Rattle.lilo_model.specs.Conf.{Config}
use Rattle.lilo_model.specs.ConfOptions as options
use Rattle.lilo_model.specs.Devices.{Device}
use Rattle.lilo_model.specs.Disks.{Image, Machine}
use Rattle.lilo_model.specs.MinixNames.{names_in}
use Rattle.lilo_model.specs.MinixParts.{Volume}
use Rattle.lilo_model.specs.NamePlaces.{backup_option}
use Rattle.map_laws.proofs.Accepted.{not-ok, required}

-- each test of what is apart passes
pub record PassesTests (image : Image) (machine : Machine) (volume : Volume) (config : Config) (device : Device) : Type 0 where
  pub boots : is_apart_device image machine volume device ≡ true
  pub others : list_all (is_apart_device image machine volume) (other_devices config) ≡ true
  pub tables : list_all (is_apart_device image machine volume) (table_devices config) ≡ true
  pub backup : has_apart_backup (names_in volume image) config device ≡ true
  pub install : has_apart_files image volume config (option_to_list config.install) ≡ true
  pub message : has_apart_files image volume config (option_to_list config.message) ≡ true
  pub kernels : has_apart_files image volume config (kernel_paths config) ≡ true
  pub initrds : has_apart_files image volume config (initrd_paths config) ≡ true

pub next-passes : {F : Type 0} → (test : Bool) (fault : F) (next : Result (Unit {0}) F) → (require test fault >>= λ a. next) ≡ Ok tt → (test ≡ true) × (next ≡ Ok tt)
next-passes true fault next is = (refl, is)
next-passes false fault next is = absurd (not-ok fault tt is)

module _ (image : Image) (machine : Machine) (volume : Volume) (config : Config) (device : Device) where
  abbrev Check : Type 0
  Check = Result (Unit {0}) options.Opt

  abbrev files : List (List ℕ) → options.Opt → Check
  files texts opt = require (has_apart_files image volume config texts) opt

  abbrev from-kernels : Check
  from-kernels = files (kernel_paths config) options.Image >>= λ g. files (initrd_paths config) options.Initrd

  abbrev from-message : Check
  from-message = files (option_to_list config.message) options.Message >>= λ f. from-kernels

  abbrev from-install : Check
  from-install = files (option_to_list config.install) options.Install >>= λ e. from-message

  abbrev from-backup : Check
  from-backup = require (has_apart_backup (names_in volume image) config device) (backup_option config) >>= λ d. from-install

  abbrev from-tables : Check
  from-tables = require (list_all (is_apart_device image machine volume) (table_devices config)) options.Table >>= λ c. from-backup

  abbrev from-others : Check
  from-others = require (list_all (is_apart_device image machine volume) (other_devices config)) options.OtherDevice >>= λ b. from-tables

  pub tests-pass : Apart image machine volume config device → PassesTests image machine volume config device
  unfolding apart_checks
  tests-pass apart =
      let a = next-passes (is_apart_device image machine volume device) options.Boot from-others apart in
      let b = next-passes (list_all (is_apart_device image machine volume) (other_devices config)) options.OtherDevice from-tables a.1 in
      let c = next-passes (list_all (is_apart_device image machine volume) (table_devices config)) options.Table from-backup b.1 in
      let d = next-passes (has_apart_backup (names_in volume image) config device) (backup_option config) from-install c.1 in
      let e = next-passes (has_apart_files image volume config (option_to_list config.install)) options.Install from-message d.1 in
      let f = next-passes (has_apart_files image volume config (option_to_list config.message)) options.Message from-kernels e.1 in
      let g = next-passes (has_apart_files image volume config (kernel_paths config)) options.Image (files (initrd_paths config) options.Initrd) f.1 in
      record {
        boots = a.0;
        others = b.0;
        tables = c.0;
        backup = d.0;
        install = e.0;
        message = f.0;
        kernels = g.0;
        initrds = required (has_apart_files image volume config (initrd_paths config)) options.Initrd g.1;
      }

  -- then it is apart
  pub passed-apart : PassesTests image machine volume config device → Apart image machine volume config device
  unfolding apart_checks
  passed-apart tests = rw (tests.boots, tests.others, tests.tables, tests.backup, tests.install, tests.message, tests.kernels, tests.initrds) refl
