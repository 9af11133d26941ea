-- What is planned of files and devices that are read as they were is what was planned, or it is refused as it was.
use Rattle.std.proofs.Common.{◌≡◌, ℕ, ◌==◌, ◌&&◌, Bool, true, false, not, if◌then◌else◌, List, [], ◌∷◌, ◌++◌, Option, Some, None, Result, Ok, Err, option_map, is_some, refl, sym, ◌∙◌, ap}
use Rattle.std.specs.Prelude.{IfSome, flat_map, unwrap_or}
use Rattle.std.specs.List.{AllByRecursion}
use Rattle.std.specs.Result.{result_ok}
use Rattle.lilo_model.specs.BootSector.{is_bootable}
use Rattle.lilo_model.specs.Checks.{◌>>=◌, require, with_fault}
use Rattle.lilo_model.specs.Conf.{Config, ConfSection}
use Rattle.lilo_model.specs.ConfLawful.{names_of_section}
use Rattle.lilo_model.specs.Devices.{Device}
use Rattle.lilo_model.specs.Disks.{Image, Machine, Span, DiskSector}
use Rattle.lilo_model.specs.Meant.{file_of, filled_file}
use Rattle.lilo_model.specs.MinixNames.{names_in}
use Rattle.lilo_model.specs.MinixParts.{Parts, Volume, parts_of}
use Rattle.lilo_model.specs.Partitions.{TableFault, span_of}
use Rattle.lilo_model.specs.Plan.{MappedFile, MappedSection, Plan}
use Rattle.lilo_model.specs.Planned.{first_sector, mapped_inode, file_inode, optional_file, system_places, system_size, kernel_section, mapped_by, mapped_section, planned}
use Rattle.lilo_model.specs.PlanRefusal.{PlanFault, Table, OtherIsBoot, NoSignature, each_passes, if_there, file_check, device_check, kernel_then, section_check, file_checks, disk_check, message_check, system_check, name_check, kernel_check, mapped_check, held_checks, address_checks, plan_at}
use Rattle.install_join_laws.specs.ApartLaws.{LiesAsIn}
use Rattle.install_join_laws.specs.Plans.{MapsAsIn}
use Rattle.install_join_laws.proofs.AsRead.{ReadsAs, mapped-as, optional-as, code-as, if-check-as, filled-as}

-- checks that say the same of each value do so of all
each-as : {A F : Type 0} → (one other : A → Result (Unit {0}) F) (values : List A) → AllByRecursion (λ value. one value ≡ other value) values → each_passes one values ≡ each_passes other values
each-as one other [] same = refl
each-as one other (value ∷ values) same = ap (λ check. check >>= λ a. each_passes one values) same.0 ∙ ap (λ rest. other value >>= λ a. rest) (each-as one other values same.1)

module _ (volume : Volume) (old c : Image) (machine : Machine) where
  abbrev Was : Parts
  Was = parts_of volume old

  abbrev Now : Parts
  Now = parts_of volume c

  -- a device has the first sector that it had
  abbrev pub BeginsAs : Device → Type 0
  BeginsAs device = (span : Span) → span_of old machine device ≡ Ok span → c span.disk span.start ≡ old span.disk span.start

  -- a kernel's path is read as it was
  abbrev pub KernelAs : List ℕ → Option Device → Type 0
  KernelAs path None = ReadsAs volume old c path
  KernelAs path (Some device) = Unit {0}

  -- so are the files and devices of a section
  pub record SectionAs (section : ConfSection) : Type 0 where
    pub kernel : KernelAs section.path section.other
    pub initrd : IfSome section.initrd (ReadsAs volume old c)
    pub other : IfSome section.other (λ device. LiesAsIn old c machine device × BeginsAs device)
    pub table : IfSome section.table (LiesAsIn old c machine)

  -- ---- devices

  device-as : (device : Device) → LiesAsIn old c machine device → device_check c machine device ≡ device_check old machine device
  device-as device lies = ap (λ span. with_fault Table span >>= λ found. Ok tt) lies

  table-as : (table : Option Device) → IfSome table (LiesAsIn old c machine) → if_there (device_check c machine) table ≡ if_there (device_check old machine) table
  table-as None lies = refl
  table-as (Some device) lies = device-as device lies

  first-as : (device : Device) → LiesAsIn old c machine device → first_sector c machine device ≡ first_sector old machine device
  first-as device lies = ap (λ span. option_map (λ (found : Span). record { disk = found.disk; sector = found.start }) (result_ok span)) lies

  places-as : (device : Device) (table : Option Device) → LiesAsIn old c machine device → IfSome table (LiesAsIn old c machine) → system_places c machine device table ≡ system_places old machine device table
  places-as device None lies none = ap (λ first. first ∷ []) (first-as device lies)
  places-as device (Some table) lies also = ap (λ first. first ∷ (first_sector c machine table ∷ [])) (first-as device lies) ∙ ap (λ second. first_sector old machine device ∷ (second ∷ [])) (first-as table also)

  -- the first sector of another system
  system-by : (boot : Span) (path : List ℕ) (device : Device) (found : Result Span TableFault) → span_of old machine device ≡ found → BeginsAs device → (rest : List (Option DiskSector))
      → system_check c boot path (option_map (λ (span : Span). record { disk = span.disk; sector = span.start }) (result_ok found) ∷ rest)
      ≡ system_check old boot path (option_map (λ (span : Span). record { disk = span.disk; sector = span.start }) (result_ok found) ∷ rest)
  system-by boot path device (Err fault) is begins rest = refl
  system-by boot path device (Ok span) is begins rest =
      ap (λ bytes. require (not ((span.disk == boot.disk) && (span.start == boot.start))) (OtherIsBoot path) >>= λ a. require (is_bootable bytes) (NoSignature path)) (begins span is)

  system-as : (boot : Span) (path : List ℕ) (device : Device) (table : Option Device) → BeginsAs device
      → system_check c boot path (system_places old machine device table) ≡ system_check old boot path (system_places old machine device table)
  system-as boot path device None begins = system-by boot path device (span_of old machine device) refl begins []
  system-as boot path device (Some table) begins = system-by boot path device (span_of old machine device) refl begins (first_sector old machine table ∷ [])

  -- ---- a section

  section-by : (section : ConfSection) (other : Option Device) → KernelAs section.path other → IfSome section.initrd (ReadsAs volume old c)
      → IfSome other (λ device. LiesAsIn old c machine device × BeginsAs device) → IfSome section.table (LiesAsIn old c machine)
      → section_check c machine volume section other ≡ section_check old machine volume section other
  section-by section None kernel initrd none table =
      ap (λ check. kernel_then section.optional check (if_there (file_check volume Now) section.initrd)) kernel.check
      ∙ ap (kernel_then section.optional (file_check volume Was section.path)) (if-check-as volume old c section.initrd initrd)
  section-by section (Some device) none initrd other table =
      ap (λ check. check >>= λ a. if_there (device_check c machine) section.table) (device-as device other.0)
      ∙ ap (λ check. device_check old machine device >>= λ a. check) (table-as section.table table)

  section-as : (section : ConfSection) → SectionAs section → section_check c machine volume section section.other ≡ section_check old machine volume section section.other
  section-as section reads = section-by section section.other reads.kernel reads.initrd reads.other reads.table

  -- what a kernel's section maps, by what its files are
  kernel-of : ConfSection → Option MappedFile → Option MappedFile → List MappedSection
  kernel-of section None initrd = []
  kernel-of section (Some main) initrd = record { section = section; main = main; initrd = initrd } ∷ []

  kernel-is : (parts : Parts) (section : ConfSection) (found : Option ℕ) → kernel_section volume parts section found ≡ kernel-of section (option_map (mapped_inode volume parts) found) (optional_file volume parts section.initrd)
  unfolding kernel-of
  kernel-is parts section None = refl
  kernel-is parts section (Some number) = refl

  maps-by : (section : ConfSection) (other : Option Device) → KernelAs section.path other → IfSome section.initrd (ReadsAs volume old c)
      → IfSome other (λ device. LiesAsIn old c machine device × BeginsAs device) → IfSome section.table (LiesAsIn old c machine)
      → mapped_by c machine volume section other ≡ mapped_by old machine volume section other
  maps-by section None kernel initrd none table =
      kernel-is Now section (file_inode volume Now section.path)
      ∙ (ap (λ main. kernel-of section main (optional_file volume Now section.initrd)) (mapped-as volume old c section.path kernel)
      ∙ (ap (kernel-of section (option_map (mapped_inode volume Was) (file_inode volume Was section.path))) (optional-as volume old c section.initrd initrd)
      ∙ sym (kernel-is Was section (file_inode volume Was section.path))))
  maps-by section (Some device) none initrd other table =
      ap (λ places. record { section = section; main = record { size = system_size section.table; places = places }; initrd = None } ∷ []) (places-as device section.table other.0 table)

  pub maps-as : (section : ConfSection) → SectionAs section → MapsAsIn old c machine volume section
  unfolding mapped_section
  maps-as section reads = maps-by section section.other reads.kernel reads.initrd reads.other reads.table

  -- what it holds
  kernel-as : (section : ConfSection) → ReadsAs volume old c section.path → IfSome section.initrd (ReadsAs volume old c) → kernel_check (names_in volume c) section ≡ kernel_check (names_in volume old) section
  kernel-as section kernel initrd =
      ap (λ file. each_passes (name_check section (unwrap_or file []) (filled_file (names_in volume c) section.initrd)) (names_of_section section)) kernel.file
      ∙ ap (λ file. each_passes (name_check section (unwrap_or (file_of (names_in volume old) section.path) []) file) (names_of_section section)) (filled-as volume old c section.initrd initrd)

  module _ (boot : Span) where
    abbrev HoldsAs : MappedSection → Type 0
    HoldsAs mapped = mapped_check c volume boot mapped ≡ mapped_check old volume boot mapped

    then-as : (test : Bool) (one other one' other' : Result (Unit {0}) PlanFault) → test ≡ true → one ≡ other → (if test then one else one') ≡ (if test then other else other')
    then-as true one other one' other' is same = same
    then-as false one other one' other' is same = cc

    else-as : (test : Bool) (one other one' other' : Result (Unit {0}) PlanFault) → test ≡ false → one' ≡ other' → (if test then one else one') ≡ (if test then other else other')
    else-as true one other one' other' is same = cc
    else-as false one other one' other' is same = same

    holds-by : (section : ConfSection) (other : Option Device) → section.other ≡ other → KernelAs section.path other → IfSome section.initrd (ReadsAs volume old c)
        → IfSome other (λ device. LiesAsIn old c machine device × BeginsAs device) → (others : List MappedSection) → AllByRecursion HoldsAs others
        → AllByRecursion HoldsAs (mapped_by old machine volume section other ++ others)
    holds-by section None is kernel initrd none others all = by (file_inode volume Was section.path)
      where
        by : (found : Option ℕ) → AllByRecursion HoldsAs (kernel_section volume Was section found ++ others)
        by None = all
        by (Some number) = (else-as (is_some section.other) _ _ _ _ (ap is_some is) (kernel-as section kernel initrd), all)
    holds-by section (Some device) is none initrd other others all = (then-as (is_some section.other) _ _ _ _ (ap is_some is) (system-as boot section.path device section.table other.1), all)

    holds-as : (section : ConfSection) → SectionAs section → (others : List MappedSection) → AllByRecursion HoldsAs others → AllByRecursion HoldsAs (mapped_section old machine volume section ++ others)
    unfolding mapped_section
    holds-as section reads others all = holds-by section section.other refl reads.kernel reads.initrd reads.other others all

    all-hold : (sections : List ConfSection) → AllByRecursion SectionAs sections → AllByRecursion HoldsAs (flat_map (mapped_section old machine volume) sections)
    all-hold [] all = tt
    all-hold (section ∷ sections) all = holds-as section all.0 (flat_map (mapped_section old machine volume) sections) (all-hold sections all.1)

  -- ---- the whole

  pub all-map : (sections : List ConfSection) → AllByRecursion SectionAs sections → AllByRecursion (MapsAsIn old c machine volume) sections
  all-map [] all = tt
  all-map (section ∷ sections) all = (maps-as section all.0, all-map sections all.1)

  sections-as : (sections : List ConfSection) → AllByRecursion (MapsAsIn old c machine volume) sections → flat_map (mapped_section c machine volume) sections ≡ flat_map (mapped_section old machine volume) sections
  sections-as [] all = refl
  sections-as (section ∷ sections) all = ap (λ mapped. mapped ++ flat_map (mapped_section c machine volume) sections) all.0 ∙ ap (λ rest. mapped_section old machine volume section ++ rest) (sections-as sections all.1)

  all-check : (sections : List ConfSection) → AllByRecursion SectionAs sections
      → AllByRecursion (λ section. section_check c machine volume section section.other ≡ section_check old machine volume section section.other) sections
  all-check [] all = tt
  all-check (section ∷ sections) all = (section-as section all.0, all-check sections all.1)

  module _ (config : Config) (install : IfSome config.install (ReadsAs volume old c)) (message : IfSome config.message (ReadsAs volume old c)) (sections : AllByRecursion SectionAs config.sections) (time : ℕ) where
    planned-as : planned c machine volume config time ≡ planned old machine volume config time
    unfolding planned
    planned-as =
        rw (code-as volume old c config.install install, optional-as volume old c config.message message, sections-as config.sections (all-map config.sections sections)) refl

    abbrev Plan-was : Plan
    Plan-was = planned old machine volume config time

    files-as : file_checks c machine volume Plan-was ≡ file_checks old machine volume Plan-was
    unfolding file_checks planned
    files-as =
        rw (
          if-check-as volume old c config.install install,
          if-check-as volume old c config.message message,
          each-as (λ (section : ConfSection). section_check c machine volume section section.other) (λ (section : ConfSection). section_check old machine volume section section.other) config.sections (all-check config.sections sections),
        ) refl

    held-as : (boot : Span) → held_checks c machine volume boot Plan-was ≡ held_checks old machine volume boot Plan-was
    unfolding held_checks planned
    held-as boot =
        ap (λ last. each_passes (disk_check machine) config.disks >>= λ a. if_there message_check (optional_file volume Was config.message) >>= λ b. last)
        (each-as (mapped_check c volume boot) (mapped_check old volume boot) (flat_map (mapped_section old machine volume) config.sections) (all-hold boot config.sections sections))

    pub plan-as : (boot : Span) → plan_at c machine volume boot config time ≡ plan_at old machine volume boot config time
    unfolding plan_at
    plan-as boot =
        ap (λ plan. file_checks c machine volume plan >>= λ a. held_checks c machine volume boot plan >>= λ b. address_checks machine plan >>= λ d. Ok plan) planned-as
        ∙ (ap (λ check. check >>= λ a. held_checks c machine volume boot Plan-was >>= λ b. address_checks machine Plan-was >>= λ d. Ok Plan-was) files-as
        ∙ ap (λ check. file_checks old machine volume Plan-was >>= λ a. check >>= λ b. address_checks machine Plan-was >>= λ d. Ok Plan-was) (held-as boot))
