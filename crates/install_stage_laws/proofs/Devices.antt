-- The devices of a configuration, where they are apart.
use Rattle.std.proofs.Common.{◌≡◌, ◌≤◌, ◌+◌, ◌*◌, ◌==◌, ◌||◌, inl, inr, ℕ, Bool, true, false, not, nat_le, nat_lt, List, [], ◌∷◌, Option, None, Some, Result, Ok, refl, sym, ◌∙◌, arith}
use Rattle.std.specs.Prelude.{IfSome, flat_map, option_to_list}
use Rattle.std.specs.List.{AllByRecursion, list_all}
use Rattle.std.proofs.lemmas.Bool.{and_parts}
use Rattle.std.proofs.lemmas.Bool.Decides.{nat_tests}
use Rattle.std.proofs.lemmas.List.Folds.{list_all-append}
use Rattle.lilo_model.specs.Apart.{Apart, is_apart_span, is_apart_device, has_apart_backup, has_apart_files, other_devices, table_devices, kernel_paths, initrd_paths, apart_checks}
use Rattle.lilo_model.specs.Checks.{◌>>=◌, require}
use Rattle.lilo_model.specs.Conf.{Config, ConfSection}
use Rattle.lilo_model.specs.ConfOptions as options
use Rattle.lilo_model.specs.Devices.{Device}
use Rattle.lilo_model.specs.Disks.{Image, Machine, Span}
use Rattle.lilo_model.specs.MinixNames.{names_in, IsSound}
use Rattle.lilo_model.specs.MinixParts.{Volume}
use Rattle.lilo_model.specs.NamePlaces.{backup_option}
use Rattle.map_laws.proofs.Accepted.{both-pass, required}
use Rattle.minix_zones.proofs.ZoneLemmas.{zones_fit}
use Rattle.install_laws.specs.Writes.{IsApartSector}
use Rattle.install_stage_laws.proofs.Apart.{sound-passes}
use Rattle.install_stage_laws.specs.Devices.{AreDevicesApart, ApartDevicesLaw}

-- ---- the checks of devices

module _ (image : Image) (machine : Machine) (volume : Volume) (config : Config) (device : Device) (apart : Apart image machine volume config device) where
  abbrev files : List (List ℕ) → options.Opt → Result (Unit {0}) options.Opt
  files texts opt = require (has_apart_files image volume config texts) opt

  abbrev from-backup : Result (Unit {0}) options.Opt
  from-backup =
      require (has_apart_backup (names_in volume image) config device) (backup_option config) >>= λ d.
      files (option_to_list config.install) options.Install >>= λ e.
      files (option_to_list config.message) options.Message >>= λ f.
      files (kernel_paths config) options.Image >>= λ g. files (initrd_paths config) options.Initrd

  abbrev from-tables : Result (Unit {0}) options.Opt
  from-tables = require (list_all (is_apart_device image machine volume) (table_devices config)) options.Table >>= λ c. from-backup

  abbrev from-others : Result (Unit {0}) options.Opt
  from-others = require (list_all (is_apart_device image machine volume) (other_devices config)) options.OtherDevice >>= λ b. from-tables

  past-boot : (a : Unit {0}) × (require (is_apart_device image machine volume device) options.Boot ≡ Ok a) × (from-others ≡ Ok tt)
  unfolding apart_checks
  past-boot = both-pass (require (is_apart_device image machine volume device) options.Boot) (λ a. from-others) tt apart

  past-others : (b : Unit {0}) × (require (list_all (is_apart_device image machine volume) (other_devices config)) options.OtherDevice ≡ Ok b) × (from-tables ≡ Ok tt)
  past-others = both-pass (require (list_all (is_apart_device image machine volume) (other_devices config)) options.OtherDevice) (λ b. from-tables) tt past-boot.2

  pub devices-apart : AreDevicesApart image machine volume config device
  devices-apart =
      let both = both-pass (require (list_all (is_apart_device image machine volume) (table_devices config)) options.Table) (λ c. from-backup) tt past-others.2 in
      record {
        boots = required (is_apart_device image machine volume device) options.Boot past-boot.1;
        others = required (list_all (is_apart_device image machine volume) (other_devices config)) options.OtherDevice past-others.1;
        tables = required (list_all (is_apart_device image machine volume) (table_devices config)) options.Table both.1;
      }

pub apart_devices_law : ApartDevicesLaw
apart_devices_law image machine volume config device apart = devices-apart image machine volume config device apart

-- ---- one by one

module _ (image : Image) (machine : Machine) (volume : Volume) (config : Config) (device : Device) (apart : AreDevicesApart image machine volume config device) where
  -- each device of some list is apart
  each-apart : (pick : ConfSection → Option Device) (sections : List ConfSection) → list_all (is_apart_device image machine volume) (flat_map (λ section. option_to_list (pick section)) sections) ≡ true
      → AllByRecursion (λ section. IfSome (pick section) (λ one. is_apart_device image machine volume one ≡ true)) sections
  each-apart pick [] all = tt
  each-apart pick (section ∷ sections) all =
      let rest = flat_map (λ section. option_to_list (pick section)) sections in
      let both = and_parts (list_all (is_apart_device image machine volume) (option_to_list (pick section))) (list_all (is_apart_device image machine volume) rest)
      (sym (list_all-append (is_apart_device image machine volume) (option_to_list (pick section)) rest) ∙ all) in
      (by (pick section) both.0, each-apart pick sections both.1)
    where
      by : (one : Option Device) → list_all (is_apart_device image machine volume) (option_to_list one) ≡ true → IfSome one (λ one. is_apart_device image machine volume one ≡ true)
      by None is = tt
      by (Some one) is = (and_parts (is_apart_device image machine volume one) true is).0

  pub others-apart : AllByRecursion (λ section. IfSome section.other (λ one. is_apart_device image machine volume one ≡ true)) config.sections
  others-apart = each-apart (λ section. section.other) config.sections apart.others

  pub tables-apart : AllByRecursion (λ section. IfSome section.table (λ one. is_apart_device image machine volume one ≡ true)) config.sections
  tables-apart = each-apart (λ section. section.table) config.sections apart.tables

-- ---- where they lie

span-apart : (volume : Volume) (span : Span) → 2 * volume.layout.zones ≤ volume.span.count → is_apart_span volume span ≡ true → IsApartSector volume span.disk span.start
span-apart volume span fits is = by (span.disk == volume.span.disk) refl (nat_lt span.start (volume.span.start + 2)) refl (nat_le (volume.span.start + volume.span.count) span.start) refl is
  where
    by : (disk : Bool) → (span.disk == volume.span.disk) ≡ disk → (before : Bool) → nat_lt span.start (volume.span.start + 2) ≡ before
        → (after : Bool) → nat_le (volume.span.start + volume.span.count) span.start ≡ after → (not disk || before || after) ≡ true → IsApartSector volume span.disk span.start
    by false disk before one after two is = inl (λ same. grind (arith, nat_tests, disk, same))
    by true disk true one after two is = inr (inl (grind (arith, nat_tests, one)))
    by true disk false one true two is = let from : volume.span.start + volume.span.count ≤ span.start = grind (arith, nat_tests, two) in inr (inr (omega (arith, from, fits)))
    by true disk false one false two is = cc

-- the first sector of a device that is apart isn't one of the volume's past its block 0
pub device-apart : (volume : Volume) (image : Image) → IsSound volume image → (found : Span) → is_apart_span volume found ≡ true → IsApartSector volume found.disk found.start
device-apart volume image sound found is = span-apart volume found (zones_fit volume.layout volume.span.count (sound-passes volume image sound)) is
