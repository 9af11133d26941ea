-- A configuration that was apart is apart still once settling is done.
use Rattle.std.proofs.Common.{◌≡◌, ℕ, Bool, true, inl, inr, List, [], ◌∷◌, ◌++◌, is_some, Option, Some, None, Result, Ok, Err, refl, sym, ◌∙◌, ap, subst}
use Rattle.std.specs.Prelude.{◌⊎◌, IfSome, flat_map, option_to_list}
use Rattle.std.specs.List.{AllByRecursion, list_all}
use Rattle.std.proofs.lemmas.Bool.{and_parts}
use Rattle.std.proofs.lemmas.List.Folds.{list_all-append}
use Rattle.lilo_model.specs.Apart.{is_apart_place, is_apart_device, is_apart_path, other_devices, table_devices, names_pair, guarded_names, has_apart_backup, has_apart_files, kernel_paths, initrd_paths}
use Rattle.lilo_model.specs.Checks.{◌>>=◌, require}
use Rattle.lilo_model.specs.Conf.{Config}
use Rattle.lilo_model.specs.ConfOptions as options
use Rattle.lilo_model.specs.Devices.{Device}
use Rattle.lilo_model.specs.Disks.{Image, Machine}
use Rattle.lilo_model.specs.MinixFind.{TreeFault}
use Rattle.lilo_model.specs.MinixFindNames.{Names}
use Rattle.lilo_model.specs.MinixNames.{names_in, IsSound}
use Rattle.lilo_model.specs.MinixParts.{Volume}
use Rattle.lilo_model.specs.NamePlaces.{name_path, with_tilde, backup_path}
use Rattle.lilo_model.specs.Settled.{OwnNames, own_names}
use Rattle.map_laws.proofs.Accepted.{not-ok, required}
use Rattle.install_apart.specs.Apart.{device_checks}
use Rattle.install_settle.specs.Settles.{stale_of, IsBeside}
use Rattle.install_stage_laws.specs.Devices.{AreDevicesApart}
use Rattle.install_join_laws.specs.ApartLaws.{LiesAsIn, HasSettled, KeptDevicesLaw, SettledApartLaw}
use Rattle.install_join_laws.proofs.Walks.{AreAlike, alike-back, name-too}
use Rattle.install_join_laws.proofs.Paths.{AreOwnFiles, alike, map-apart, tilde-apart, stale-apart, beside-apart}
use Rattle.install_join_laws.proofs.Names.{pair-of}
use Rattle.install_join_laws.proofs.Tests.{PassesTests, next-passes, tests-pass, passed-apart}
use Rattle.install_join_laws.proofs.Entry.{IsApartFromAll, files, if-some, map-pair, stale-is, plain-beside, tilde-beside, tilde-own, there-beside, forced-two, apart-from-all}

-- ---- devices

module _ (old c : Image) (machine : Machine) (volume : Volume) where
  device-too : (device : Device) → LiesAsIn old c machine device → is_apart_device old machine volume device ≡ true → is_apart_device c machine volume device ≡ true
  device-too device lies is = ap (is_apart_place volume) lies ∙ is

  devices-too : (devices : List Device) → AllByRecursion (LiesAsIn old c machine) devices → list_all (is_apart_device old machine volume) devices ≡ true
      → list_all (is_apart_device c machine volume) devices ≡ true
  devices-too [] lie is = refl
  devices-too (device ∷ devices) lie is =
      let both = and_parts (is_apart_device old machine volume device) (list_all (is_apart_device old machine volume) devices) is in
      rw (device-too device lie.0 both.0, devices-too devices lie.1 both.1) refl

pub kept_devices_law : KeptDevicesLaw
unfolding device_checks
kept_devices_law old c machine volume config device keeps apart =
    let tests = tests-pass old machine volume config device apart in
    rw (
      device-too old c machine volume device keeps.boots tests.boots,
      devices-too old c machine volume (other_devices config) keeps.others tests.others,
      devices-too old c machine volume (table_devices config) keeps.tables tests.tables,
    ) refl

devices-pass : (image : Image) (machine : Machine) (volume : Volume) (config : Config) (device : Device) → device_checks image machine volume config device ≡ Ok tt
    → AreDevicesApart image machine volume config device
unfolding device_checks
devices-pass image machine volume config device is =
    let tables = require (list_all (is_apart_device image machine volume) (table_devices config)) options.Table in
    let others = require (list_all (is_apart_device image machine volume) (other_devices config)) options.OtherDevice >>= λ b. tables in
    let a = next-passes (is_apart_device image machine volume device) options.Boot others is in
    let b = next-passes (list_all (is_apart_device image machine volume) (other_devices config)) options.OtherDevice tables a.1 in
    record { boots = a.0; others = b.0; tables = required (list_all (is_apart_device image machine volume) (table_devices config)) options.Table b.1 }

-- ---- the whole

module _ (old c : Image) (machine : Machine) (volume : Volume) (config : Config) (device : Device) (foreign finishes : Bool) (names : OwnNames) (before : IsSound volume old)
    (own : own_names (names_in volume old) config device foreign ≡ Ok names) (is : HasSettled volume old c names (is_some config.force_backup) finishes)
    (tests : PassesTests old machine volume config device) where
  abbrev Old : Names
  Old = names_in volume old

  abbrev New : Names
  New = names_in volume c

  abbrev Forced : Bool
  Forced = is_some config.force_backup

  abbrev Stale : Option (List (List ℕ))
  Stale = stale_of Forced names

  the-files : AreOwnFiles Old names Forced
  the-files = files old volume config device foreign names own

  the-same : AreAlike Old New
  the-same = alike volume old c names Forced finishes before is the-files

  -- pairs of names are where they were
  pair-same : (text : List ℕ) → names_pair New text ≡ names_pair Old text
  pair-same text = by (name_path Old text) (name_path New text) refl refl
    where
      by : (was now : Result (List (List ℕ)) TreeFault) → name_path Old text ≡ was → name_path New text ≡ now → names_pair New text ≡ names_pair Old text
      by (Ok path) now one two = pair-of New text (Ok path) (name-too Old New the-same text path one) ∙ sym (pair-of Old text (Ok path) one)
      by (Err fault) (Ok path) one two = absurd (not-ok fault path (sym one ∙ name-too New Old (alike-back Old New the-same) text path two))
      by (Err fault) (Err other) one two = pair-of New text (Err other) two ∙ sym (pair-of Old text (Err fault) one)

  abbrev Forced-pairs : Names → List (List (List ℕ))
  Forced-pairs at = flat_map (names_pair at) (option_to_list config.force_backup)

  forced-same : Forced-pairs New ≡ Forced-pairs Old
  forced-same = by config.force_backup
    where
      by : (forced : Option (List ℕ)) → flat_map (names_pair New) (option_to_list forced) ≡ flat_map (names_pair Old) (option_to_list forced)
      by None = refl
      by (Some text) = ap (λ (pair : List (List (List ℕ))). pair ++ []) (pair-same text)

  guarded-same : guarded_names New config ≡ guarded_names Old config
  guarded-same = ap (λ (pair : List (List (List ℕ))). pair ++ Forced-pairs New) (pair-same config.map) ∙ ap (λ (pairs : List (List (List ℕ))). names_pair Old config.map ++ pairs) forced-same

  -- a path that leads to none of them leads to none still
  module _ (text : List ℕ) (apart : IsApartFromAll old volume config device foreign names own text) where
    abbrev Was : List (List ℕ) → Bool
    Was name = is_apart_path old volume text name

    abbrev Now : List (List ℕ) → Bool
    Now name = is_apart_path c volume text name

    stale-apart-was : IfSome Stale (λ backup. Was (with_tilde backup) ≡ true)
    stale-apart-was =
        if-some (λ backup. (Was backup ≡ true) × (Was (with_tilde backup) ≡ true)) (λ backup. Was (with_tilde backup) ≡ true) (λ backup both. both.1) Stale apart.backup

    copy-too : (forced : List ℕ) → config.force_backup ≡ Some forced → (path : List (List ℕ)) → name_path Old forced ≡ Ok path → Was (with_tilde path) ≡ true → (Stale ≡ None) ⊎ (Stale ≡ Some path)
        → Now (with_tilde path) ≡ true
    copy-too forced same path at was (inl none) =
        let beside = tilde-beside old volume config device foreign names own tests.backup forced same path at none in
        let own-path = tilde-own old volume config device foreign names own tests.backup forced same path at in
        beside-apart volume old c names Forced finishes before is the-files text apart.map apart.tilde stale-apart-was (with_tilde path) beside
        (subst (IsBeside names Forced) (sym own-path) beside) was
    copy-too forced same path at was (inr some) = stale-apart volume old c names Forced finishes before is the-files text apart.map apart.tilde stale-apart-was path some was

    forced-too : (forced : Option (List ℕ)) → config.force_backup ≡ forced → list_all Was (flat_map (names_pair Old) (option_to_list forced)) ≡ true → list_all Now (flat_map (names_pair Old) (option_to_list forced)) ≡ true
    forced-too None same all = refl
    forced-too (Some forced) same all = by (name_path Old forced) refl
      where
        by : (place : Result (List (List ℕ)) TreeFault) → name_path Old forced ≡ place → list_all Now (names_pair Old forced ++ []) ≡ true
        by (Err fault) at = rw (pair-of Old forced (Err fault) at) refl
        by (Ok path) at =
            let was = forced-two old volume config device foreign names own text forced path at all in
            let here = plain-beside old volume config device foreign names own tests.backup forced same path at in
            let there = there-beside old volume config device foreign names own tests.backup forced same path at in
            let plain = beside-apart volume old c names Forced finishes before is the-files text apart.map apart.tilde stale-apart-was path here there was.0 in
            let copy = copy-too forced same path at was.1 (stale-is old volume config device foreign names own tests.backup forced same path at) in
            rw (pair-of Old forced (Ok path) at, plain, copy) refl

    map-too : list_all Now (names_pair Old config.map) ≡ true
    map-too =
        rw (
          map-pair old volume config device foreign names own,
          map-apart volume old c names Forced finishes before is the-files text apart.map apart.tilde stale-apart-was,
          tilde-apart volume old c names Forced finishes before is the-files text apart.map apart.tilde stale-apart-was,
        ) refl

    path-stays : list_all Now (guarded_names New config) ≡ true
    path-stays =
        subst (λ (guarded : List (List (List ℕ))). list_all Now guarded ≡ true) (sym guarded-same)
        (list_all-append Now (names_pair Old config.map) (Forced-pairs Old) ∙ rw (map-too, forced-too config.force_backup refl apart.forced) refl)

  files-too : (texts : List (List ℕ)) → has_apart_files old volume config texts ≡ true → has_apart_files c volume config texts ≡ true
  files-too [] all = refl
  files-too (text ∷ texts) all =
      let both = and_parts (list_all (is_apart_path old volume text) (guarded_names Old config)) (has_apart_files old volume config texts) all in
      rw (path-stays text (apart-from-all old volume config device foreign names own text both.0), files-too texts both.1) refl

  backup-too : has_apart_backup New config device ≡ true
  backup-too = rw (pair-same config.map, pair-same (backup_path config device)) tests.backup

  tests-too : AreDevicesApart c machine volume config device → PassesTests c machine volume config device
  tests-too devices = record {
    boots = devices.boots;
    others = devices.others;
    tables = devices.tables;
    backup = backup-too;
    install = files-too (option_to_list config.install) tests.install;
    message = files-too (option_to_list config.message) tests.message;
    kernels = files-too (kernel_paths config) tests.kernels;
    initrds = files-too (initrd_paths config) tests.initrds;
  }

pub settled_apart_law : SettledApartLaw
settled_apart_law old c machine volume config device foreign finishes names before own is devices apart =
    passed-apart c machine volume config device
    (tests-too old c machine volume config device foreign finishes names before own is (tests-pass old machine volume config device apart)
    (devices-pass c machine volume config device devices))
