-- What a configuration that was apart plans is what it planned, once settling is done.
use Rattle.std.proofs.Common.{◌≡◌, ℕ, Bool, true, List, [], ◌∷◌, ◌++◌, is_some, Option, Some, None, Result, Ok, subst}
use Rattle.std.specs.Prelude.{IfSome, flat_map, option_to_list}
use Rattle.std.specs.List.{AllByRecursion, list_all}
use Rattle.std.proofs.lemmas.Bool.{and_parts}
use Rattle.lilo_model.specs.Apart.{is_apart_place, is_apart_device, is_apart_path, other_devices, guarded_names, has_apart_files, kernel_path, kernel_paths, initrd_paths}
use Rattle.lilo_model.specs.Conf.{Config, ConfSection}
use Rattle.lilo_model.specs.Devices.{Device}
use Rattle.lilo_model.specs.Disks.{Image, Machine, Span}
use Rattle.lilo_model.specs.MinixNames.{names_in, IsSound}
use Rattle.lilo_model.specs.MinixParts.{Volume}
use Rattle.lilo_model.specs.NamePlaces.{with_tilde}
use Rattle.lilo_model.specs.Partitions.{TableFault}
use Rattle.lilo_model.specs.PlanRefusal.{plan_at}
use Rattle.lilo_model.specs.Settled.{OwnNames, own_names}
use Rattle.install_laws.specs.Writes.{IsApartSector}
use Rattle.install_settle.specs.Settles.{stale_of}
use Rattle.install_stage_laws.proofs.Devices.{device-apart}
use Rattle.install_join_laws.specs.ApartLaws.{LiesAsIn, KeepsDevices}
use Rattle.install_join_laws.specs.Plans.{MapsAsIn, StaysSettled, FailsAsIn, FailAsIn, settled_names, SettledPlanLaw}
use Rattle.install_join_laws.proofs.AsPlanned.{BeginsAs, KernelAs, SectionAs, all-map, plan-as}
use Rattle.install_join_laws.proofs.AsRead.{ReadsAs, reads-as}
use Rattle.install_join_laws.proofs.Entry.{files, if-some, apart-from-all}
use Rattle.install_join_laws.proofs.Led.{named, led-same}
use Rattle.install_join_laws.proofs.Tests.{PassesTests, tests-pass}

-- ---- lists of the sections' parts

if-first : {A : Type 0} (P : A → Type 0) (first : Option A) (rest : List A) → AllByRecursion P (option_to_list first ++ rest) → IfSome first P × AllByRecursion P rest
if-first P None rest all = (tt, all)
if-first P (Some one) rest all = all

module _ (volume : Volume) (old c : Image) (machine : Machine) where
  kernel-first : (section : ConfSection) (other : Option Device) (rest : List (List ℕ)) → AllByRecursion (ReadsAs volume old c) (kernel_path section other ++ rest)
      → KernelAs volume old c machine section.path other × AllByRecursion (ReadsAs volume old c) rest
  kernel-first section None rest all = all
  kernel-first section (Some device) rest all = (tt, all)

  abbrev StartsAs : Device → Type 0
  StartsAs device = LiesAsIn old c machine device × BeginsAs volume old c machine device

  all-sections : (sections : List ConfSection)
      → AllByRecursion (ReadsAs volume old c) (flat_map (λ section. kernel_path section section.other) sections)
      → AllByRecursion (ReadsAs volume old c) (flat_map (λ section. option_to_list section.initrd) sections)
      → AllByRecursion StartsAs (flat_map (λ section. option_to_list section.other) sections)
      → AllByRecursion (LiesAsIn old c machine) (flat_map (λ section. option_to_list section.table) sections)
      → AllByRecursion (SectionAs volume old c machine) sections
  all-sections [] kernels initrds others tables = tt
  all-sections (section ∷ sections) kernels initrds others tables =
      let kernel = kernel-first section section.other (flat_map (λ section. kernel_path section section.other) sections) kernels in
      let initrd = if-first (ReadsAs volume old c) section.initrd (flat_map (λ section. option_to_list section.initrd) sections) initrds in
      let other = if-first StartsAs section.other (flat_map (λ section. option_to_list section.other) sections) others in
      let table = if-first (LiesAsIn old c machine) section.table (flat_map (λ section. option_to_list section.table) sections) tables in
      (record { kernel = kernel.0; initrd = initrd.0; other = other.0; table = table.0 }, all-sections sections kernel.1 initrd.1 other.1 table.1)

  -- ---- devices

  module _ (before : IsSound volume old) (outside : (d s : ℕ) → IsApartSector volume d s → c d s ≡ old d s) where
    begins-as : (device : Device) → is_apart_device old machine volume device ≡ true → BeginsAs volume old c machine device
    begins-as device apart span is =
        outside span.disk span.start (device-apart volume old before span (subst (λ (found : Result Span TableFault). is_apart_place volume found ≡ true) is apart))

    all-start : (devices : List Device) → list_all (is_apart_device old machine volume) devices ≡ true → AllByRecursion (LiesAsIn old c machine) devices → AllByRecursion StartsAs devices
    all-start [] apart lie = tt
    all-start (device ∷ devices) apart lie =
        let both = and_parts (is_apart_device old machine volume device) (list_all (is_apart_device old machine volume) devices) apart in
        ((lie.0, begins-as device both.0), all-start devices both.1 lie.1)

-- ---- the whole

module _ (old c : Image) (machine : Machine) (volume : Volume) (config : Config) (device : Device) (foreign finishes : Bool) (names : OwnNames) (before : IsSound volume old)
    (own : own_names (names_in volume old) config device foreign ≡ Ok names) (stays : StaysSettled volume old c names (is_some config.force_backup) finishes)
    (tests : PassesTests old machine volume config device) where
  abbrev Forced : Bool
  Forced = is_some config.force_backup

  abbrev Fails : List ℕ → Type 0
  Fails = FailsAsIn (names_in volume old) (settled_names volume old config names finishes)

  read : (text : List ℕ) → list_all (is_apart_path old volume text) (guarded_names (names_in volume old) config) ≡ true → Fails text → ReadsAs volume old c text
  read text all fails =
      let apart = apart-from-all old volume config device foreign names own text all in
      let own-files = files old volume config device foreign names own in
      let copy =
      if-some (λ backup. (is_apart_path old volume text backup ≡ true) × (is_apart_path old volume text (with_tilde backup) ≡ true)) (λ backup. is_apart_path old volume text (with_tilde backup) ≡ true)
      (λ backup both. both.1) (stale_of Forced names) apart.backup in
      let same = led-same volume old c names Forced finishes before stays.settled own-files text apart.map apart.tilde copy fails in
      reads-as volume old c stays.keeps stays.gains before stays.settled.sound text same
      (named volume old c names Forced finishes before stays.settled own-files text apart.map apart.tilde copy)

  all-read : (texts : List (List ℕ)) → has_apart_files old volume config texts ≡ true → AllByRecursion Fails texts → AllByRecursion (ReadsAs volume old c) texts
  all-read [] apart fails = tt
  all-read (text ∷ texts) apart fails =
      let both = and_parts (list_all (is_apart_path old volume text) (guarded_names (names_in volume old) config)) (has_apart_files old volume config texts) apart in
      (read text both.0 fails.0, all-read texts both.1 fails.1)

  if-read : (path : Option (List ℕ)) → has_apart_files old volume config (option_to_list path) ≡ true → AllByRecursion Fails (option_to_list path) → IfSome path (ReadsAs volume old c)
  if-read None apart fails = tt
  if-read (Some text) apart fails = (all-read (text ∷ []) apart fails).0

  module _ (keeps : KeepsDevices old c machine config device) (fails : FailAsIn (names_in volume old) (settled_names volume old config names finishes) config) where
    the-sections : AllByRecursion (SectionAs volume old c machine) config.sections
    the-sections =
        all-sections volume old c machine config.sections (all-read (kernel_paths config) tests.kernels fails.kernels) (all-read (initrd_paths config) tests.initrds fails.initrds)
        (all-start volume old c machine before stays.outside (other_devices config) tests.others keeps.others) keeps.tables

    whole : (span : Span) (time : ℕ) → (plan_at c machine volume span config time ≡ plan_at old machine volume span config time) × AllByRecursion (MapsAsIn old c machine volume) config.sections
    whole span time = (
      plan-as volume old c machine config (if-read config.install tests.install fails.install) (if-read config.message tests.message fails.message) the-sections time span,
      all-map volume old c machine config.sections the-sections,
    )

pub settled_plan_law : SettledPlanLaw
settled_plan_law old c machine volume config device span foreign finishes names time before own stays keeps apart fails =
    whole old c machine volume config device foreign finishes names before own stays (tests-pass old machine volume config device apart) keeps fails span time
