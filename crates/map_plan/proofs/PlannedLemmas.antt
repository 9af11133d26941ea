-- What is known of each section that was planned.
use Rattle.std.proofs.Common.{◌≡◌, ℕ, Bool, true, false, List, [], ◌∷◌, ◌++◌, map, Option, Some, None, Result, Ok, Err, if◌then◌else◌, refl, sym, ap, subst, ◌∙◌}
use Rattle.std.specs.Prelude.{All, IfSome, ◌==◌, ◌/◌, ◌%◌, ◌+◌, ◌*◌}
use Rattle.std.specs.List.{AllByRecursion}
use Rattle.std.specs.Option.{option_map}
use Rattle.std.specs.Result.{result_ok}
use Rattle.std.proofs.lemmas.List.{get_or-map, length-map}
use Rattle.std.proofs.lemmas.List.Elements.{All-nil, All-cons, All-append}
use Rattle.lilo_model.specs.Checks.{◌>>=◌}
use Rattle.lilo_model.specs.Disks.{Image, Machine, DiskSector}
use Rattle.lilo_model.specs.Devices.{Device}
use Rattle.lilo_model.specs.Conf.{Config, ConfSection}
use Rattle.lilo_model.specs.MinixParts.{Volume, Parts, parts_of}
use Rattle.lilo_model.specs.MinixNames.{zone_number}
use Rattle.lilo_model.specs.Plan.{MappedFile, MappedSection, Plan}
use Rattle.lilo_model.specs.Planned.{mapped_inode, inode_places, file_inode, some_file, sector_in_zone}
use Rattle.lilo_model.specs.PlanRefusal.{PlanFault, default_check, left_check}
use Rattle.map_plan.specs.Devices.{system_planned, system_section}
use Rattle.map_plan.specs.Files.{file_planned, optional_planned, kernel_by, kernel_planned}
use Rattle.map_plan.specs.Named.{LiesOnDisk, LiesOnDiskBy, SectionLiesOnDisk}
use Rattle.map_plan.specs.Sections.{planned_by, section_planned, sections_planned, IsPlannedIn}
use Rattle.map_plan.specs.Starts.{code_planned}
use Rattle.map_plan.specs.Whole.{files_planned}
use Rattle.map_plan.proofs.FileLemmas.{file_plan_law}
use Rattle.map_plan.proofs.KernelLemmas.{kernel-empty, kernel-none}

-- a fact on each value that stands for another
pub all_unmapped : {X Y : Type 0} (P : Y → Type 0) (view : X → Y) (xs : List X) → All P (map view xs) → All (λ x. P (view x)) xs
all_unmapped P view xs all k d below =
    subst P (get_or-map view xs k d (view d) below) (all k (view d) (rw length-map below))

-- ---- a section that is planned is planned as it is

module _ (image : Image) (machine : Machine) (volume : Volume) where
  abbrev Planned : MappedSection → Type 0
  Planned mapped = IsPlannedIn image machine volume mapped

  one : (section : ConfSection) (mapped : MappedSection) → mapped.section ≡ section → section_planned image machine volume section ≡ Ok (mapped ∷ [])
      → All Planned (mapped ∷ [])
  one section mapped same is =
      All-cons Planned mapped [] (ap (section_planned image machine volume) same ∙ is) (All-nil Planned)

  section-planned : (section : ConfSection) (found : List MappedSection) → section_planned image machine volume section ≡ Ok found → All Planned found
  unfolding section_planned kernel_planned
  section-planned section found is = by section.other refl
    where
      by-system : (device : Device) (places : Result (List (Option DiskSector)) PlanFault)
          → (places >>= λ places. Ok (system_section section places)) ≡ Ok found → All Planned found
      by-system device (Ok places) made =
          let all : system_section section places ≡ found = cc in
          subst (All Planned) all (one section _ refl (is ∙ ap Ok (sym all)))
      by-system device (Err fault) made = cc

      by-kernel : (optional : Bool) (main : Result MappedFile PlanFault) (initrd : Result (Option MappedFile) PlanFault)
          → kernel_by section optional main initrd ≡ Ok found → All Planned found
      by-kernel optional (Ok main) (Ok initrd) made =
          let all : record { section = section; main = main; initrd = initrd } ∷ [] ≡ found = cc in
          subst (All Planned) all (one section _ refl (is ∙ ap Ok (sym all)))
      by-kernel optional (Ok main) (Err fault) made = cc
      by-kernel optional (Err fault) initrd made = subst (All Planned) (kernel-empty section initrd optional fault found made) (All-nil Planned)

      by : (other : Option Device) → section.other ≡ other → All Planned found
      by (Some device) at =
          let here : planned_by image machine volume section (Some device) ≡ Ok found = ap (planned_by image machine volume section) (sym at) ∙ is in
          by-system device (system_planned image machine device section.table) here
      by None at =
          let here : planned_by image machine volume section None ≡ Ok found = ap (planned_by image machine volume section) (sym at) ∙ is in
          by-kernel section.optional (file_planned volume (parts_of volume image) section.path) (optional_planned volume (parts_of volume image) section.initrd) here

  pub sections-planned : (sections : List ConfSection) (found : List MappedSection) → sections_planned image machine volume sections ≡ Ok found → All Planned found
  sections-planned [] found is =
      let all : [] ≡ found = cc in
      subst (All Planned) all (All-nil Planned)
  sections-planned (section ∷ sections) found is =
      by (section_planned image machine volume section) (sections_planned image machine volume sections) refl refl is (λ others. sections-planned sections others)
    where
      by : (first others : Result (List MappedSection) PlanFault) → section_planned image machine volume section ≡ first → sections_planned image machine volume sections ≡ others
          → (first >>= λ here. others >>= λ others. Ok (here ++ others)) ≡ Ok found
          → ((others : List MappedSection) → sections_planned image machine volume sections ≡ Ok others → All Planned others) → All Planned found
      by (Ok here) (Ok others) at and made rest =
          let all : here ++ others ≡ found = cc in
          subst (All Planned) all (All-append Planned here others (section-planned section here at) (rest others and))
      by (Ok here) (Err fault) at and made rest = cc
      by (Err fault) others at and made rest = cc

-- ---- the sectors of files lie on the volume's disk

module _ (volume : Volume) (parts : Parts) where
  zone-on : (zone index : ℕ) → IfSome (sector_in_zone volume.span zone index) (λ place. place.disk ≡ volume.span.disk)
  zone-on zone index = by (zone == 0)
    where
      by : (hole : Bool) → IfSome {T = DiskSector} (if hole then None else Some (record { disk = volume.span.disk; sector = volume.span.start + (2 * zone + index % 2) })) (λ place. place.disk ≡ volume.span.disk)
      by true = tt
      by false = refl

  all-on : (number : ℕ) (indices : List ℕ)
      → AllByRecursion (λ place. IfSome place (λ place. place.disk ≡ volume.span.disk))
      (map (λ index. sector_in_zone volume.span (zone_number volume.layout parts number (index / 2)) index) indices)
  all-on number [] = tt
  all-on number (index ∷ indices) = (zone-on (zone_number volume.layout parts number (index / 2)) index, all-on number indices)

  inode-on : (number : ℕ) → LiesOnDisk volume.span.disk (mapped_inode volume parts number)
  unfolding mapped_inode inode_places
  inode-on number = all-on number _

  pub file-on : (path : List ℕ) (file : MappedFile) → file_planned volume parts path ≡ Ok file → LiesOnDisk volume.span.disk file
  file-on path file is =
      let plan = file_plan_law volume parts path in
      by (file_inode volume parts path) (ap result_ok (sym is) ∙ plan.mapped)
    where
      by : (inode : Option ℕ) → Some file ≡ option_map (mapped_inode volume parts) inode → LiesOnDisk volume.span.disk file
      by (Some number) same =
          let here : mapped_inode volume parts number ≡ file = cc in
          subst (LiesOnDisk volume.span.disk) here (inode-on number)
      by None same = cc

  pub optional-on : (path : Option (List ℕ)) (file : Option MappedFile) → optional_planned volume parts path ≡ Ok file → IfSome file (LiesOnDisk volume.span.disk)
  optional-on None file is = by file is
    where
      by : (file : Option MappedFile) → ◌≡◌ {A = Result (Option MappedFile) PlanFault} (Ok None) (Ok file) → IfSome file (LiesOnDisk volume.span.disk)
      by None is = tt
      by (Some file) is = cc
  optional-on (Some path) file is = by (file_planned volume parts path) refl is
    where
      some : (main : MappedFile) (empty : Bool) → file_planned volume parts path ≡ Ok main → (if empty then None else Some main) ≡ file
          → IfSome file (LiesOnDisk volume.span.disk)
      some main true at same = subst (λ file. IfSome file (LiesOnDisk volume.span.disk)) same tt
      some main false at same = subst (λ file. IfSome file (LiesOnDisk volume.span.disk)) same (file-on path main at)

      by : (main : Result MappedFile PlanFault) → file_planned volume parts path ≡ main → (main >>= λ file. Ok (some_file file)) ≡ Ok file
          → IfSome file (LiesOnDisk volume.span.disk)
      by (Ok main) at made =
          let same : some_file main ≡ file = cc in
          some main (main.size == 0) at same
      by (Err fault) at made = cc

module _ (image : Image) (machine : Machine) (volume : Volume) where
  pub section-on : (mapped : MappedSection) → IsPlannedIn image machine volume mapped → SectionLiesOnDisk volume.span.disk mapped
  unfolding section_planned kernel_planned
  section-on mapped is = by mapped.section.other is
    where
      kernel : (optional : Bool) (main : Result MappedFile PlanFault) (initrd : Result (Option MappedFile) PlanFault)
          → file_planned volume (parts_of volume image) mapped.section.path ≡ main
          → optional_planned volume (parts_of volume image) mapped.section.initrd ≡ initrd
          → kernel_by mapped.section optional main initrd ≡ Ok (mapped ∷ []) → LiesOnDiskBy volume.span.disk mapped None
      kernel optional (Ok main) (Ok initrd) at and made =
          let all : record { section = mapped.section; main = main; initrd = initrd } ≡ mapped = cc in (
            subst (LiesOnDisk volume.span.disk) (ap (λ (mapped : MappedSection). mapped.main) all) (file-on volume (parts_of volume image) mapped.section.path main at),
            subst (λ initrd. IfSome initrd (LiesOnDisk volume.span.disk)) (ap (λ (mapped : MappedSection). mapped.initrd) all)
                (optional-on volume (parts_of volume image) mapped.section.initrd initrd and),
          )
      kernel optional (Ok main) (Err fault) at and made = cc
      kernel optional (Err fault) initrd at and made = absurd (kernel-none mapped.section initrd optional fault mapped made)

      by : (other : Option Device) → planned_by image machine volume mapped.section other ≡ Ok (mapped ∷ []) → LiesOnDiskBy volume.span.disk mapped other
      by (Some device) is = tt
      by None is =
          kernel mapped.section.optional (file_planned volume (parts_of volume image) mapped.section.path)
          (optional_planned volume (parts_of volume image) mapped.section.initrd) refl refl is

-- ---- the parts of a plan's files

-- what each part of a plan is planned as
pub record ArePlanned (image : Image) (machine : Machine) (volume : Volume) (config : Config) (plan : Plan) : Type 0 where
  pub message : optional_planned volume (parts_of volume image) config.message ≡ Ok plan.message
  pub sections : sections_planned image machine volume config.sections ≡ Ok plan.sections

pub files-parts : (image : Image) (machine : Machine) (volume : Volume) (config : Config) (time : ℕ) (plan : Plan)
    → files_planned image machine volume config time ≡ Ok plan → ArePlanned image machine volume config plan
unfolding files_planned
files-parts image machine volume config time plan is =
    by (code_planned volume (parts_of volume image) config.install) (optional_planned volume (parts_of volume image) config.message)
    (sections_planned image machine volume config.sections) refl refl is
  where
    last : (message : Option MappedFile) (sections : List MappedSection) (made : Plan) (default left : Result (Unit {0}) PlanFault)
        → optional_planned volume (parts_of volume image) config.message ≡ Ok message → sections_planned image machine volume config.sections ≡ Ok sections
        → made.message ≡ message → made.sections ≡ sections
        → (default >>= λ a. left >>= λ b. Ok made) ≡ Ok plan → ArePlanned image machine volume config plan
    last message sections made (Ok a) (Ok b) at and one two is =
        let same : made ≡ plan = cc in
        record {
          message = at ∙ ap Ok (sym one ∙ ap (λ (plan : Plan). plan.message) same);
          sections = and ∙ ap Ok (sym two ∙ ap (λ (plan : Plan). plan.sections) same);
        }
    last message sections made (Ok a) (Err fault) at and one two is = cc
    last message sections made (Err fault) left at and one two is = cc

    by : (code : Result (List ℕ) PlanFault) (message : Result (Option MappedFile) PlanFault) (sections : Result (List MappedSection) PlanFault)
        → optional_planned volume (parts_of volume image) config.message ≡ message → sections_planned image machine volume config.sections ≡ sections
        → (code >>= λ code. message >>= λ message. sections >>= λ sections.
        default_check (record { config = config; time = time; code = code; message = message; sections = sections })
        >>= λ a. left_check sections
        >>= λ b. Ok (record { config = config; time = time; code = code; message = message; sections = sections })) ≡ Ok plan
        → ArePlanned image machine volume config plan
    by (Ok code) (Ok message) (Ok sections) at and is =
        last message sections (record { config = config; time = time; code = code; message = message; sections = sections })
        (default_check (record { config = config; time = time; code = code; message = message; sections = sections })) (left_check sections) at and refl refl is
    by (Ok code) (Ok message) (Err fault) at and is = cc
    by (Ok code) (Err fault) sections at and is = cc
    by (Err fault) message sections at and is = cc
