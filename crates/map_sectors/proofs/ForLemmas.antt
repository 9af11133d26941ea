-- What the checks of a plan leave of it.
use Rattle.std.proofs.Common.{◌≡◌, ◌≤◌, ℕ, true, if◌then◌else◌, List, [], ◌∷◌, length, Option, None, Some, Result, Ok, Err, refl, sym, ap, subst, ◌∙◌, arith}
use Rattle.std.specs.Prelude.{All, IfSome, IsSome, is_some, nat_le, unwrap_or}
use Rattle.std.specs.Option.{option_map}
use Rattle.std.specs.List.{AllByRecursion}
use Rattle.std.proofs.lemmas.List.Elements.{recursion_from_All}
use Rattle.std.proofs.lemmas.Bool.Decides.{nat_tests}
use Rattle.lilo_model.specs.Checks.{◌>>=◌}
use Rattle.lilo_model.specs.Disks.{Image, Machine, Span}
use Rattle.lilo_model.specs.Devices as devices
use Rattle.lilo_model.specs.Conf.{Config, ConfSection}
use Rattle.lilo_model.specs.ConfLawful.{IsLawful, names_of_section}
use Rattle.lilo_model.specs.ConfOptions as options
use Rattle.lilo_model.specs.MinixParts.{Volume}
use Rattle.lilo_model.specs.MinixNames.{names_in, IsSound}
use Rattle.lilo_model.specs.Meant.{file_of, filled_file, middle_text}
use Rattle.lilo_model.specs.Place.{command_line, kernel_fit}
use Rattle.lilo_model.specs.Plan.{MappedFile, MappedSection, Plan, kept_middle, plan_names}
use Rattle.lilo_model.specs.Planned.{planned}
use Rattle.lilo_model.specs.PlanRefusal as plans
use Rattle.lilo_model.specs.PlanRefusal.{each_passes, if_there, name_check, message_limit, message_check, disk_check, mapped_check, held_checks, system_check, kernel_check, mapped_file_check, system_places_check, main_address_check, mapped_address_check, address_checks, file_checks, plan_at}
use Rattle.mbr_table.specs.View.{device_view}
use Rattle.lilo_conf.specs.declared.section.Section.{Section}
use Rattle.lilo_conf.specs.View.{config_view, section_view}
use Rattle.file_runs.specs.declared.mapped.FileRuns.{FileRuns}
use Rattle.file_runs.specs.Mapped.{file_view}
use Rattle.map_laws.proofs.Accepted.{both-pass, required, told-ok, all-pass}
use Rattle.map_laws.proofs.AcceptedKernels.{kernel-accepted}
use Rattle.map_laws.proofs.Lawful.{few-names}
use Rattle.map_plan.specs.declared.section.PlannedSection.{PlannedSection}
use Rattle.map_plan.specs.declared.section.SectionFiles.{SectionFiles}
use Rattle.map_plan.specs.declared.section.SectionFiles.TheVariants.{Kernel, System}
use Rattle.map_plan.specs.Named.{LiesOnDisk, LiesOnDiskBy, SectionLiesOnDisk}
use Rattle.map_plan.specs.Sections.{FitsKind, FitsSection, main_view, initrd_view, planned_view, planned_views}
use Rattle.map_plan.specs.Whole.{files_planned}
use Rattle.map_plan.proofs.PlanLemmas.{message-on, all-on}
use Rattle.map_plan.proofs.WholeLemmas.{plan_law}
use Rattle.map_sectors.specs.declared.map.MapPlan.{MapPlan}
use Rattle.map_sectors.specs.Accepted.{IsNamed, AreNamed, IsAccepted, IsFor}
use Rattle.map_sectors.specs.Map.{plan_view, HasGeometries}

abbrev plan-or : Plan → Result Plan plans.PlanFault → Plan
plan-or other (Ok plan) = plan
plan-or other (Err fault) = other

some-other : (other : Option devices.Device) (text : List ℕ) → is_some other ≡ true → length (if is_some other then [] else text) ≤ 255
some-other None text is = absurd (grind arith)
some-other (Some device) text is = omega arith

some-view : (section : Section) → IsSome section.other → is_some (section_view section).other ≡ true
some-view section some = by section.other some
  where
    by : (other : Option _) → IsSome other → is_some (option_map device_view other) ≡ true
    by None is = cc
    by (Some device) is = refl

module _ (now : Image) (machine : Machine) (volume : Volume) (boot : Span) (sizes : ℕ → ℕ) (plan : MapPlan) (sound : IsSound volume now)
    (lawful : IsLawful (config_view plan.config)) (has : HasGeometries machine plan.geometries) (disk : plan.disk ≡ volume.span.disk)
    (fits : All (FitsSection sizes) plan.files.sections.items)
    (is : plan_at now machine volume boot (config_view plan.config) plan.time ≡ Ok (plan_view plan)) where
  abbrev config : Config
  config = config_view plan.config

  record Stages : Type 0 where
    files : files_planned now machine volume config plan.time ≡ Ok (plan_view plan)
    held : held_checks now machine volume boot (plan_view plan) ≡ Ok tt
    address : address_checks machine (plan_view plan) ≡ Ok tt

  stages : Stages
  stages =
      let files = both-pass (files_planned now machine volume config plan.time) (λ p. held_checks now machine volume boot p >>= λ a. address_checks machine p >>= λ b. Ok p) (plan_view plan) (sym (plan_law now machine volume boot config plan.time sound) ∙ is) in
      let held = both-pass (held_checks now machine volume boot files.0) (λ a. address_checks machine files.0 >>= λ b. Ok files.0) (plan_view plan) files.2 in
      let address = both-pass (address_checks machine files.0) (λ b. Ok files.0) (plan_view plan) held.2 in
      let same : files.0 ≡ plan_view plan = ap (plan-or files.0) address.2 in
      record {
        files = files.1 ∙ ap Ok same;
        held = subst (λ p. held_checks now machine volume boot p ≡ Ok tt) same held.1;
        address = subst (λ p. address_checks machine p ≡ Ok tt) same address.1;
      }

  named-by : (option : options.Opt) (file : Option MappedFile) → IfSome file (LiesOnDisk volume.span.disk) → if_there (mapped_file_check config machine option) file ≡ Ok tt → IfSome file (IsNamed machine plan)
  named-by option None lies check = tt
  named-by option (Some file) lies check = record { lies = subst (λ disk. LiesOnDisk disk file) (sym disk) lies; option = option; check = check }

  record Parts : Type 0 where
    message : IfSome (option_map file_view plan.files.message) (IsNamed machine plan)
    short : if_there message_check (option_map file_view plan.files.message) ≡ Ok tt
    held : AllByRecursion (λ mapped. mapped_check now volume boot mapped ≡ Ok tt) (planned_views plan.files.sections.items)
    address : AllByRecursion (λ mapped. mapped_address_check config machine mapped ≡ Ok tt) (planned_views plan.files.sections.items)

  parts : Parts
  unfolding held_checks address_checks
  parts =
      let message = option_map file_view plan.files.message in
      let sections = planned_views plan.files.sections.items in
      let disks = both-pass (each_passes (disk_check machine) config.disks) (λ a. if_there message_check message >>= λ b. each_passes (mapped_check now volume boot) sections) tt stages.held in
      let short = both-pass (if_there message_check message) (λ b. each_passes (mapped_check now volume boot) sections) tt disks.2 in
      let sent = both-pass (if_there (mapped_file_check config machine options.Message) message) (λ a. each_passes (mapped_address_check config machine) sections) tt stages.address in
      record {
        message = named-by options.Message message (message-on machine volume boot config plan.time now (plan_view plan) stages.files) sent.1;
        short = short.1;
        held = all-pass (mapped_check now volume boot) sections short.2;
        address = all-pass (mapped_address_check config machine) sections sent.2;
      }

  short-by : (file : Option FileRuns) → if_there message_check (option_map file_view file) ≡ Ok tt → IfSome file (λ file. file.size ≤ 65535)
  short-by None check = tt
  short-by (Some file) check =
      let test = required (nat_le file.size message_limit) (plans.MessageTooLong file.size) check in
      grind (arith, nat_tests, test)

  middle-short : (section : ConfSection) → kernel_check (names_in volume now) section ≡ Ok tt → length (middle_text section) ≤ 255
  unfolding names_of_section
  middle-short section check =
      let names = names_in volume now in
      let kernel = unwrap_or (file_of names section.path) [] in
      let initrd = filled_file names section.initrd in
      let each = all-pass (name_check section kernel initrd) (names_of_section section) check in
      (kernel-accepted kernel initrd section.label (middle_text section) (told-ok (plans.Header section.path) (kernel_fit kernel initrd (command_line true section.label (middle_text section) [])) tt each.0)).1

  one : (section : Section) (files : SectionFiles) → FitsKind sizes section files
      → mapped_address_check config machine (record { section = section_view section; main = main_view files; initrd = initrd_view files }) ≡ Ok tt
      → mapped_check now volume boot (record { section = section_view section; main = main_view files; initrd = initrd_view files }) ≡ Ok tt
      → SectionLiesOnDisk volume.span.disk (record { section = section_view section; main = main_view files; initrd = initrd_view files })
      → AreNamed machine plan files × (length (kept_middle (section_view section)) ≤ 255)
  one section (System sectors) kind address held lies = (tt, some-other (section_view section).other (middle_text (section_view section)) (some-view section kind.0))
  one section (Kernel files) kind address held lies =
      let main = file_view files.main in
      let initrd = option_map file_view files.initrd in
      let conf = section_view section in
      let mapped : MappedSection = record { section = conf; main = main; initrd = initrd } in
      let none : conf.other ≡ None = ap (option_map device_view) kind.0 in
      let both = both-pass (main_address_check config machine mapped) (λ a. if_there (mapped_file_check config machine options.Initrd) initrd) tt address in
      let check : mapped_file_check config machine options.Image main ≡ Ok tt = subst (λ other. (if is_some other then system_places_check config machine main.places else mapped_file_check config machine options.Image main) ≡ Ok tt) none both.1 in
      let on : LiesOnDiskBy volume.span.disk mapped None = subst (LiesOnDiskBy volume.span.disk mapped) none lies in
      let held : kernel_check (names_in volume now) conf ≡ Ok tt = subst (λ other. (if is_some other then system_check now boot conf.path main.places else kernel_check (names_in volume now) conf) ≡ Ok tt) none held in (
        (
          record { lies = subst (λ disk. LiesOnDisk disk main) (sym disk) on.0; option = options.Image; check = check },
          named-by options.Initrd initrd on.1 both.2,
        ),
        subst (λ other. length (if is_some other then [] else middle_text conf) ≤ 255) (sym none) (middle-short conf held),
      )

  all-accepted : (items : List PlannedSection) → AllByRecursion (λ mapped. mapped_address_check config machine mapped ≡ Ok tt) (planned_views items)
      → AllByRecursion (λ mapped. mapped_check now volume boot mapped ≡ Ok tt) (planned_views items)
      → AllByRecursion (λ planned. SectionLiesOnDisk volume.span.disk (planned_view planned)) items → AllByRecursion (FitsSection sizes) items
      → AllByRecursion (IsAccepted machine plan) items
  all-accepted [] address held lies fits = tt
  all-accepted (planned ∷ items) address held lies fits =
      let found = one planned.section planned.files fits.0.kind address.0 held.0 lies.0 in (
        record {
          files = found.0;
          middle = fits.0.middle;
          lawful = fits.0.lawful;
          short = subst (λ (text : List ℕ). length text ≤ 255) (sym fits.0.middle) found.1;
        },
        all-accepted items address.1 held.1 lies.1 fits.1,
      )

  same-plan : planned now machine volume config plan.time ≡ plan_view plan
  unfolding plan_at
  same-plan =
      let the_plan = planned now machine volume config plan.time in
      let files = both-pass (file_checks now machine volume the_plan) (λ a. held_checks now machine volume boot the_plan >>= λ b. address_checks machine the_plan >>= λ c. Ok the_plan) (plan_view plan) is in
      let held = both-pass (held_checks now machine volume boot the_plan) (λ b. address_checks machine the_plan >>= λ c. Ok the_plan) (plan_view plan) files.2 in
      let address = both-pass (address_checks machine the_plan) (λ c. Ok the_plan) (plan_view plan) held.2 in
      ap (plan-or the_plan) address.2

  few : length plan.files.names ≤ 19
  unfolding plan_names
  few =
      subst (λ (names : List (List ℕ)). length names ≤ 19) (sym plan.named)
      (subst (λ p. length (plan_names p) ≤ 19) same-plan (few-names now machine volume config plan.time lawful))

  pub is-for : IsFor machine plan
  is-for = record {
    geometries = has;
    message = parts.message;
    message_short = short-by plan.files.message parts.short;
    sections = all-accepted plan.files.sections.items parts.address parts.held
        (recursion_from_All _ plan.files.sections.items (all-on machine volume boot config plan.time now (plan_view plan) plan.files.sections.items stages.files refl))
        (recursion_from_All _ plan.files.sections.items fits);
    names = few;
  }
