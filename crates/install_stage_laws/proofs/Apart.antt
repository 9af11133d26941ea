-- What is apart where a configuration is.
use Rattle.std.proofs.Common.{◌≡◌, ◌≢◌, ◌≤◌, ◌+◌, ◌*◌, ◌==◌, ◌||◌, ◌&&◌, if◌then◌else◌, inl, inr, ℕ, Bool, true, false, not, nat_le, nat_lt, List, [], ◌∷◌, Option, None, Some, Result, Ok, refl, sym, ap, subst, ◌∙◌, arith}
use Rattle.std.specs.Prelude.{IfSome, is_some}
use Rattle.std.specs.List.{list_any, list_all}
use Rattle.std.proofs.lemmas.Bool.Decides.{nat_tests}
use Rattle.lilo_model.specs.Apart.{Apart, is_apart_span, is_apart_place, is_apart_device, names_pair, name_pair, are_apart_paths, has_apart_backup, has_apart_files, other_devices, table_devices, kernel_paths, initrd_paths, apart_checks}
use Rattle.lilo_model.specs.Checks.{◌>>=◌, require, with_fault}
use Rattle.lilo_model.specs.Conf.{Config}
use Rattle.lilo_model.specs.ConfOptions as options
use Rattle.lilo_model.specs.Devices.{Device}
use Rattle.lilo_model.specs.Disks.{Image, Machine, Span}
use Rattle.lilo_model.specs.MinixFindNames.{Names}
use Rattle.lilo_model.specs.Bytes.{number16}
use Rattle.lilo_model.specs.MinixLayout.{Kind, Super, ZoneSize, kind_of, super_of, super_checks, super_in, super_at, super_sector}
use Rattle.lilo_model.specs.MinixNames.{names_in, IsSound}
use Rattle.lilo_model.specs.MinixParts.{Volume, sector_of}
use Rattle.lilo_model.specs.NamePlaces.{name_path, with_tilde, plain_path, same_path, backup_path, backup_option}
use Rattle.lilo_model.specs.Partitions.{TableFault}
use Rattle.lilo_model.specs.Settled.{OwnNames, refused_path, file_or_nothing, replaceable_name, backup_name, own_names}
use Rattle.map_laws.proofs.Accepted.{both-pass, required, told-ok}
use Rattle.minix_names.proofs.PathLemmas.{path-same}
use Rattle.minix_change_laws.proofs.Seen.{opened}
use Rattle.minix_zones.proofs.ZoneLemmas.{zones_fit}
use Rattle.install_laws.specs.Writes.{IsApartSector}
use Rattle.install_stage_laws.specs.BeginLaws.{ApartBackupLaw, ApartBootLaw, IsNoneOfMap}

-- ---- the checks that pass

module _ (image : Image) (machine : Machine) (volume : Volume) (config : Config) (device : Device) (apart : Apart image machine volume config device) where
  abbrev files : List (List ℕ) → options.Opt → Result (Unit {0}) options.Opt
  files texts opt = require (has_apart_files image volume config texts) opt

  abbrev from-files : Result (Unit {0}) options.Opt
  from-files =
      files (Rattle.std.specs.Prelude.option_to_list config.install) options.Install >>= λ e.
      files (Rattle.std.specs.Prelude.option_to_list config.message) options.Message >>= λ f.
      files (kernel_paths config) options.Image >>= λ g. files (initrd_paths config) options.Initrd

  abbrev from-backup : Result (Unit {0}) options.Opt
  from-backup = require (has_apart_backup (names_in volume image) config device) (backup_option config) >>= λ d. from-files

  abbrev from-tables : Result (Unit {0}) options.Opt
  from-tables = require (list_all (is_apart_device image machine volume) (table_devices config)) options.Table >>= λ c. from-backup

  abbrev from-others : Result (Unit {0}) options.Opt
  from-others = require (list_all (is_apart_device image machine volume) (other_devices config)) options.OtherDevice >>= λ b. from-tables

  first : (a : Unit {0}) × (require (is_apart_device image machine volume device) options.Boot ≡ Ok a) × (from-others ≡ Ok tt)
  unfolding apart_checks
  first = both-pass (require (is_apart_device image machine volume device) options.Boot) (λ a. from-others) tt apart

  pub boot-apart : is_apart_device image machine volume device ≡ true
  boot-apart = required (is_apart_device image machine volume device) options.Boot first.1

  pub backup-apart : has_apart_backup (names_in volume image) config device ≡ true
  backup-apart =
      let two = both-pass (require (list_all (is_apart_device image machine volume) (other_devices config)) options.OtherDevice) (λ b. from-tables) tt first.2 in
      let three = both-pass (require (list_all (is_apart_device image machine volume) (table_devices config)) options.Table) (λ c. from-backup) tt two.2 in
      let four = both-pass (require (has_apart_backup (names_in volume image) config device) (backup_option config)) (λ d. from-files) tt three.2 in
      required (has_apart_backup (names_in volume image) config device) (backup_option config) four.1

-- ---- the names that are replaced

abbrev said : {A F : Type 0} → A → Result A F
said value = Ok value

value-is : {A F : Type 0} → (found value : A) → said {A = A} {F = F} found ≡ said value → found ≡ value
value-is found value is = cc

-- one that may be is where its path ends
replaced : (names : Names) (both : Bool) (text : List ℕ) (path : List (List ℕ)) → replaceable_name names both text ≡ Ok path → name_path names text ≡ Ok path
unfolding replaceable_name
replaced names both text path is =
    let one = both-pass (name_path names text) (λ path. file_or_nothing (names (plain_path path)) >>= λ a. (if both then file_or_nothing (names (plain_path (with_tilde path))) else Ok tt) >>= λ b. Ok path) path is in
    let two = both-pass (file_or_nothing (names (plain_path one.0))) (λ a. (if both then file_or_nothing (names (plain_path (with_tilde one.0))) else Ok tt) >>= λ b. Ok one.0) path one.2 in
    let three = both-pass (if both then file_or_nothing (names (plain_path (with_tilde one.0))) else Ok tt) (λ b. Ok one.0) path two.2 in
    one.1 ∙ three.2

-- the names of paths that end somewhere, of which none is another
module _ (names : Names) (config : Config) (device : Device) (apart : has_apart_backup names config device ≡ true) where
  pair-is : (text : List ℕ) (path : List (List ℕ)) → name_path names text ≡ Ok path → names_pair names text ≡ path ∷ (with_tilde path ∷ [])
  unfolding names_pair
  pair-is text path is = ap name_pair is

  four-apart : (a b c d : Bool) → (not (a || (b || false)) && (not (c || (d || false)) && true)) ≡ true → ((a ≡ false) × (b ≡ false)) × ((c ≡ false) × (d ≡ false))
  four-apart a b c d is = by a b c d is
    where
      by : (a b c d : Bool) → (not (a || (b || false)) && (not (c || (d || false)) && true)) ≡ true → ((a ≡ false) × (b ≡ false)) × ((c ≡ false) × (d ≡ false))
      by false false false false is = ((refl, refl), (refl, refl))
      by false false false true is = cc
      by false false true d is = cc
      by false true c d is = cc
      by true b c d is = cc

  differs : (path other : List (List ℕ)) → same_path path other ≡ false → other ≢ path
  differs path other is same =
      let here : same_path path path ≡ true = path-same path in
      let not-here : same_path path path ≡ false = subst (λ (p : List (List ℕ)). same_path path p ≡ false) same is in
      cc

  abbrev AreNone : List (List ℕ) → List (List ℕ) → Type 0
  AreNone map backup = IsNoneOfMap map backup × IsNoneOfMap map (with_tilde backup)

  apart-paths : (map backup : List (List ℕ)) → name_path names config.map ≡ Ok map → name_path names (backup_path config device) ≡ Ok backup → AreNone map backup
  apart-paths map backup one other =
      let all : are_apart_paths (map ∷ (with_tilde map ∷ [])) (backup ∷ (with_tilde backup ∷ [])) ≡ true =
      ap (λ paths. are_apart_paths paths (backup ∷ (with_tilde backup ∷ []))) (sym (pair-is config.map map one)) ∙ (ap (are_apart_paths (names_pair names config.map)) (sym (pair-is (backup_path config device) backup other)) ∙ apart) in
      let four = four-apart (same_path map backup) (same_path map (with_tilde backup)) (same_path (with_tilde map) backup) (same_path (with_tilde map) (with_tilde backup)) all in (
        (differs (with_tilde map) backup four.1.0, differs map backup four.0.0),
        (differs (with_tilde map) (with_tilde backup) four.1.1, differs map (with_tilde backup) four.0.1),
      )

  abbrev ApartFrom : List (List ℕ) → Option (List (List ℕ)) → Type 0
  ApartFrom map backup = IfSome backup (AreNone map)

  backup-by : (map : List (List ℕ)) → name_path names config.map ≡ Ok map → (foreign : Bool) (backup : Option (List (List ℕ)))
      → backup_name names config device foreign ≡ Ok backup → ApartFrom map backup
  backup-by map one false backup is = subst (ApartFrom map) (value-is None backup is) tt
  backup-by map one true backup is =
      let found = both-pass (with_fault (refused_path (backup_path config device)) (replaceable_name names (is_some config.force_backup) (backup_path config device))) (λ path. Ok (Some path)) backup is in
      let named = told-ok (refused_path (backup_path config device)) (replaceable_name names (is_some config.force_backup) (backup_path config device)) found.0 found.1 in
      subst (ApartFrom map) (value-is (Some found.0) backup found.2)
      (apart-paths map found.0 one (replaced names (is_some config.force_backup) (backup_path config device) found.0 named))

  pub names-apart : (foreign : Bool) (own : OwnNames) → own_names names config device foreign ≡ Ok own → ApartFrom own.map own.backup
  unfolding own_names
  names-apart foreign own is =
      let one = both-pass (with_fault (refused_path config.map) (replaceable_name names true config.map)) (λ map. backup_name names config device foreign >>= λ backup. Ok (record { map = map; backup = backup })) own is in
      let two = both-pass (backup_name names config device foreign) (λ backup. Ok (record { map = one.0; backup = backup })) own one.2 in
      let named = told-ok (refused_path config.map) (replaceable_name names true config.map) one.0 one.1 in
      let all = value-is (record { map = one.0; backup = two.0 }) own two.2 in
      subst (λ (own : OwnNames). ApartFrom own.map own.backup) all (backup-by one.0 (replaced names true config.map one.0 named) foreign two.0 two.1)

pub apart_backup_law : ApartBackupLaw
apart_backup_law image machine volume config device foreign names apart is =
    names-apart (names_in volume image) config device (backup-apart image machine volume config device apart) foreign names is

-- ---- the boot sector

apart-by : (volume : Volume) (span : Span) → 2 * volume.layout.zones ≤ volume.span.count → is_apart_span volume span ≡ true → IsApartSector volume span.disk span.start
apart-by volume span fits is = by (span.disk == volume.span.disk) refl (nat_lt span.start (volume.span.start + 2)) refl (nat_le (volume.span.start + volume.span.count) span.start) refl is
  where
    by : (disk : Bool) → (span.disk == volume.span.disk) ≡ disk → (before : Bool) → nat_lt span.start (volume.span.start + 2) ≡ before
        → (after : Bool) → nat_le (volume.span.start + volume.span.count) span.start ≡ after → (not disk || before || after) ≡ true → IsApartSector volume span.disk span.start
    by false disk before one after two is = inl (λ same. grind (arith, nat_tests, disk, same))
    by true disk true one after two is = inr (inl (grind (arith, nat_tests, one)))
    by true disk false one true two is = let from : volume.span.start + volume.span.count ≤ span.start = grind (arith, nat_tests, two) in inr (inr (omega (arith, from, fits)))
    by true disk false one false two is = cc

-- the checks of a superblock that was read pass
passes-by : (kind : Option Kind) (bytes : List ℕ) (sectors : ℕ) (super : Super) → super_in kind bytes sectors ≡ Ok super → super_checks super sectors ≡ Ok tt
unfolding super_in
passes-by None bytes sectors super is = cc
passes-by (Some kind) bytes sectors super is =
    let one = both-pass (require (number16 bytes 10 == 0) ZoneSize) (λ a. super_checks (super_of kind bytes) sectors >>= λ b. Ok (super_of kind bytes)) super is in
    let two = both-pass (super_checks (super_of kind bytes) sectors) (λ b. Ok (super_of kind bytes)) super one.2 in
    subst (λ (super : Super). super_checks super sectors ≡ Ok tt) (value-is (super_of kind bytes) super two.2) two.1

pub sound-passes : (volume : Volume) (image : Image) → IsSound volume image → super_checks volume.layout volume.span.count ≡ Ok tt
unfolding super_at
sound-passes volume image sound =
    let bytes = sector_of volume image super_sector in
    passes-by (kind_of (number16 bytes 16)) bytes volume.span.count volume.layout (opened volume image sound).super

pub apart_boot_law : ApartBootLaw
apart_boot_law image machine volume config device span sound apart is =
    apart-by volume span (zones_fit volume.layout volume.span.count (sound-passes volume image sound))
    (subst (λ (found : Result Span TableFault). is_apart_place volume found ≡ true) is (boot-apart image machine volume config device apart))
