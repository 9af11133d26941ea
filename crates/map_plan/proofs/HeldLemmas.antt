-- What is held of sections, by their kinds.
use Rattle.std.proofs.Common.{◌≡◌, ◌<◌, ◌≤◌, ℕ, ◌^◌, ◌==◌, Bool, true, false, List, [], ◌∷◌, ◌+◌, length, take, Option, Some, None, Result, Ok, Err, refl, sym, ap, subst, ◌∙◌, arith, rules}
use Rattle.std.specs.Prelude.{IsSome, is_some, not, ◌&&◌, All, slice_index_or}
use Rattle.std.specs.Option.{option_map}
use Rattle.disk_trait.specs.Past.{Past, Told, now_of}
use Rattle.disk_trait.specs.Cause.{HasCause}
use Rattle.disk_trait.specs.declared.disks.DiskFault as disks
use Rattle.disk_trait.specs.declared.disks.DiskFault.TheVariants as disk_faults
use Rattle.lilo_model.specs.Faults.{Rose}
use Rattle.lilo_model.specs.BootSector.{is_bootable}
use Rattle.lilo_model.specs.Checks.{◌>>=◌, require, with_fault}
use Rattle.lilo_model.specs.Disks.{Image, Machine, Span, DiskSector, bytes_at}
use Rattle.file_runs.specs.declared.mapped.FileRuns.{FileRuns}
use Rattle.file_runs.specs.Mapped.{file_view}
use Rattle.lilo_model.specs.Conf.{ConfSection}
use Rattle.lilo_model.specs.ConfLawful.{IsOfKind, names_of_section}
use Rattle.lilo_model.specs.Header.{SetupFault}
use Rattle.lilo_model.specs.Meant.{middle_text}
use Rattle.lilo_model.specs.MinixParts.{Volume, parts_of}
use Rattle.lilo_model.specs.MinixNames.{names_in, IsSound}
use Rattle.lilo_model.specs.Plan.{MappedFile, MappedSection}
use Rattle.lilo_model.specs.PlanRefusal as model
use Rattle.lilo_model.specs.PlanRefusal.{Header, each_passes, system_check, kernel_check, mapped_check}
use Rattle.lilo_conf.specs.View.{section_view}
use Rattle.map_plan.specs.declared.device.SystemSectors.{SystemSectors}
use Rattle.map_plan.specs.declared.fault.PlanFault.{PlanFault}
use Rattle.map_plan.specs.declared.file.KernelFiles.{KernelFiles}
use Rattle.map_plan.specs.declared.section.PlannedSection.{PlannedSection}
use Rattle.map_plan.specs.declared.section.SectionFiles.{SectionFiles}
use Rattle.map_plan.specs.declared.section.SectionFiles.TheVariants.{Kernel, System}
use Rattle.map_plan.specs.Devices.{places_with, sectors_view, IsThereIn}
use Rattle.map_plan.specs.Files.{kernel_planned, kernel_view}
use Rattle.map_plan.specs.Sections.{FitsKind, FitsSection, IsPlannedIn, planned_view, planned_views}
use Rattle.map_plan.specs.Starts.{FileStart, start_planned, names_fit}
use Rattle.map_plan.specs.View.{Refuses}
use Rattle.map_plan.proofs.KindLemmas.{section-kernel}
use Rattle.map_plan.proofs.MiddleLemmas.{middle-short}
use Rattle.map_plan.proofs.PassLemmas.{passes-next, passes-refused, passes-all, refuses-none}
use Rattle.map_plan.proofs.StartLemmas.{header_law, start-there}

-- ---- a kernel

module _ (volume : Volume) (section : ConfSection) (mapped : MappedSection) where
  abbrev pub IsKernel : Image → Type 0
  IsKernel now = kernel_planned volume (parts_of volume now) section ≡ Ok (mapped ∷ [])

  pub kernel-unread : (past : Option Past) (fault : PlanFault)
      → Told past (λ now. IsSound volume now → Refuses fault (start_planned volume (parts_of volume now) section.path))
      → Told past (λ now. IsSound volume now → IsKernel now → Refuses fault (kernel_check (names_in volume now) section))
  kernel-unread None fault refused = tt
  kernel-unread (Some past) fault refused = λ sound planned.
      let there = start-there volume (parts_of volume (now_of past)) section mapped planned in
      refuses-none fault (start_planned volume (parts_of volume (now_of past)) section.path) there.0 (kernel_check (names_in volume (now_of past)) section) (refused sound) there.1

  pub kernel-fits : (past : Option Past) (start : FileStart) (fit : Result (Unit {0}) SetupFault) (initrd : Option ℕ) (middle : List ℕ)
      → Told past (λ now. IsSound volume now → start_planned volume (parts_of volume now) section.path ≡ Ok start)
      → fit ≡ names_fit start initrd (length middle) (names_of_section section)
      → option_map (λ (file : MappedFile). file.size) mapped.initrd ≡ initrd → middle ≡ middle_text section
      → Told past (λ now. IsSound volume now → IsKernel now → kernel_check (names_in volume now) section ≡ with_fault (Header section.path) fit)
  kernel-fits None start fit initrd middle read is same text = tt
  kernel-fits (Some past) start fit initrd middle read is same text = λ sound planned.
      header_law volume (now_of past) section mapped start sound planned (read sound)
      ∙ ap (λ initrd. with_fault (Header section.path) (names_fit start initrd (length (middle_text section)) (names_of_section section))) same
      ∙ ap (λ middle. with_fault (Header section.path) (names_fit start initrd (length middle) (names_of_section section))) (sym text)
      ∙ ap (with_fault (Header section.path)) (sym is)

-- ---- a section by its kind

viewed-some : {A B : Type 0} (view : A → B) (found : Option A) → IsSome found → is_some (option_map view found) ≡ true
viewed-some view (Some value) some = refl
viewed-some view None some = search rules

module _ (sizes : ℕ → ℕ) (planned : PlannedSection) (fits : FitsSection sizes planned) where
  abbrev pub section : ConfSection
  section = section_view planned.section

  module _ (sectors : SystemSectors) (is : planned.files ≡ System sectors) where
    kind : FitsKind sizes planned.section (System sectors)
    kind = subst (FitsKind sizes planned.section) is fits.kind

    pub system-there : IsThereIn sizes sectors.first
    system-there = kind.2

    view-some : is_some (section_view planned.section).other ≡ true
    view-some = viewed-some _ planned.section.other kind.0

    pub system-mapped : (image : Image) (volume : Volume) (boot : Span)
        → mapped_check image volume boot (planned_view planned) ≡ system_check image boot planned.section.path (sectors_view sectors)
    system-mapped image volume boot = rw (view-some, is) refl

  module _ (files : KernelFiles) (is : planned.files ≡ Kernel files) where
    kind-of : FitsKind sizes planned.section (Kernel files)
    kind-of = subst (FitsKind sizes planned.section) is fits.kind

    pub other-none : section.other ≡ None
    other-none = rw kind-of.0 refl

    pub kernel-middle : planned.middle ≡ middle_text section
    kernel-middle = fits.middle ∙ (rw other-none refl)

    pub kernel-mapped : (image : Image) (volume : Volume) (boot : Span)
        → mapped_check image volume boot (planned_view planned) ≡ kernel_check (names_in volume image) section
    kernel-mapped image volume boot = rw other-none refl

    pub kernel-is : (image : Image) (machine : Machine) (volume : Volume) → IsPlannedIn image machine volume (planned_view planned)
        → kernel_planned volume (parts_of volume image) section ≡ Ok (kernel_view planned.section (Some files))
    kernel-is image machine volume given =
        sym (section-kernel image machine volume section other-none) ∙ given
        ∙ ap (λ (files : SectionFiles). Ok (planned_view (record planned { files = files }) ∷ [])) is

    -- the middle is short
    pub kernel-short : length planned.middle < 2 ^ 18
    kernel-short = subst (λ text. length text < 2 ^ 18) (sym kernel-middle) (middle-short section (subst (IsOfKind section) other-none fits.lawful.kind))

-- ---- another system

module _ (image : Image) (boot : Span) (path : List ℕ) (first : DiskSector) (table : Option DiskSector) where
  abbrev boots : Bool
  boots = (first.disk == boot.disk) && (first.sector == boot.start)

  system-by : system_check image boot path (places_with first table)
      ≡ (require (not boots) (model.OtherIsBoot path) >>= λ a. require (is_bootable (bytes_at image first)) (model.NoSignature path))
  system-by = by table
    where
      by : (table : Option DiskSector) → system_check image boot path (places_with first table)
          ≡ (require (not boots) (model.OtherIsBoot path) >>= λ a. require (is_bootable (bytes_at image first)) (model.NoSignature path))
      by None = refl
      by (Some table) = refl

  pub system-boot : boots ≡ true → system_check image boot path (places_with first table) ≡ Err (model.OtherIsBoot path)
  system-boot is = system-by ∙ (rw is refl)

  pub system-other : boots ≡ false → system_check image boot path (places_with first table)
      ≡ require (is_bootable (bytes_at image first)) (model.NoSignature path)
  system-other is = system-by ∙ (rw is refl)

-- a read inside a disk that was refused failed
pub read-failed : (size sector before now : ℕ) (fault : disks.DiskFault) → HasCause size sector before now (Err fault) → sector < size → Rose before now
read-failed size sector before now disk_faults.Failed cause there = cause.failed refl
read-failed size sector before now disk_faults.OutOfRange cause there = absurd (omega (arith, cause.out_of_range.0 refl, there))

-- ---- sizes

pub sizes-same : (initrd : Option FileRuns) → option_map (λ (file : MappedFile). file.size) (option_map file_view initrd) ≡ option_map (λ (file : FileRuns). file.size) initrd
sizes-same None = refl
sizes-same (Some file) = refl

-- ---- sections, one after the other

module _ (machine : Machine) (volume : Volume) (boot : Span) (sections : List PlannedSection) where
  abbrev pub ArePlanned : Image → Type 0
  ArePlanned now = All (λ planned. IsPlannedIn now machine volume (planned_view planned)) sections

  abbrev checked : Image → ℕ → Result (Unit {0}) model.PlanFault
  checked now count = each_passes (mapped_check now volume boot) (planned_views (take count sections))

  pub held-none : (past : Option Past) → Told past (λ now. IsSound volume now → ArePlanned now → each_passes (mapped_check now volume boot) [] ≡ Ok tt)
  held-none None = tt
  held-none (Some past) = λ sound planned. refl

  module _ (index : ℕ) (planned : PlannedSection) (below : index < length sections) (item : planned ≡ slice_index_or sections index planned) where
    pub held-more : (past : Option Past) → Told past (λ now. IsSound volume now → ArePlanned now → checked now index ≡ Ok tt)
        → Told past (λ now. IsSound volume now → IsPlannedIn now machine volume (planned_view planned) → mapped_check now volume boot (planned_view planned) ≡ Ok tt)
        → Told past (λ now. IsSound volume now → ArePlanned now → checked now (index + 1) ≡ Ok tt)
    held-more None so here = tt
    held-more (Some past) so here = λ sound all.
        passes-next (mapped_check (now_of past) volume boot) planned_view sections index planned below (so sound all)
        (ap (λ planned. mapped_check (now_of past) volume boot (planned_view planned)) (sym item)
        ∙ here sound (subst (λ planned. IsPlannedIn (now_of past) machine volume (planned_view planned)) (sym item) (all index planned below)))

    pub held-refused : (past : Option Past) (fault : PlanFault) → Told past (λ now. IsSound volume now → ArePlanned now → checked now index ≡ Ok tt)
        → Told past (λ now. IsSound volume now → IsPlannedIn now machine volume (planned_view planned) → Refuses fault (mapped_check now volume boot (planned_view planned)))
        → Told past (λ now. IsSound volume now → ArePlanned now → Refuses fault (each_passes (mapped_check now volume boot) (planned_views sections)))
    held-refused None fault so here = tt
    held-refused (Some past) fault so here = λ sound all.
        passes-refused (mapped_check (now_of past) volume boot) planned_view sections index planned fault below (so sound all)
        (subst (λ (planned : PlannedSection). Refuses fault (mapped_check (now_of past) volume boot (planned_view planned))) item
        (here sound (subst (λ planned. IsPlannedIn (now_of past) machine volume (planned_view planned)) (sym item) (all index planned below))))

  pub held-all : (index : ℕ) (past : Option Past) → length sections ≤ index → Told past (λ now. IsSound volume now → ArePlanned now → checked now index ≡ Ok tt)
      → Told past (λ now. IsSound volume now → ArePlanned now → each_passes (mapped_check now volume boot) (planned_views sections) ≡ Ok tt)
  held-all index None over so = tt
  held-all index (Some past) over so = λ sound all. passes-all (mapped_check (now_of past) volume boot) planned_view sections index over (so sound all)
