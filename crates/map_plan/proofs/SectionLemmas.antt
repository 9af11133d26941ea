-- What is planned of sections is what the model maps of them, and refuses.
use Rattle.std.proofs.Common.{◌≡◌, List, [], ◌∷◌, ◌++◌, Option, Some, None, Result, Ok, Err, refl, ap, ◌∙◌}
use Rattle.std.specs.Prelude.{flat_map}
use Rattle.lilo_model.specs.Checks.{◌>>=◌}
use Rattle.lilo_model.specs.Disks.{Image, Machine, DiskSector}
use Rattle.lilo_model.specs.Devices.{Device}
use Rattle.lilo_model.specs.Conf.{ConfSection}
use Rattle.lilo_model.specs.MinixParts.{Volume, parts_of}
use Rattle.lilo_model.specs.Plan.{MappedSection}
use Rattle.lilo_model.specs.Planned.{mapped_section, mapped_by}
use Rattle.lilo_model.specs.PlanRefusal.{PlanFault, section_check, each_passes}
use Rattle.map_plan.specs.Devices.{system_planned, system_section}
use Rattle.map_plan.specs.Files.{passed}
use Rattle.map_plan.specs.Sections.{planned_by, section_planned, sections_planned, IsSectionPlan, SectionPlanLaw, AreSectionPlans, SectionPlansLaw}
use Rattle.map_plan.proofs.DeviceLemmas.{system_plan_law}
use Rattle.map_plan.proofs.FileLemmas.{kernel_plan_law}

-- what is made of a value passes where the value does
passed-made : {A B : Type 0} (found : Result A PlanFault) (made : A → B) → passed found ≡ passed (found >>= λ value. Ok (made value))
passed-made (Ok value) made = refl
passed-made (Err fault) made = refl

module _ (image : Image) (machine : Machine) (volume : Volume) where
  section-plan : (section : ConfSection) → IsSectionPlan image machine volume section
  unfolding section_planned mapped_section
  section-plan section = record {
    check = check section.other;
    mapped = λ found is. mapped section.other found is;
  }
    where
      check : (other : Option Device) → section_check image machine volume section other ≡ passed (planned_by image machine volume section other)
      check (Some device) =
          let plan = system_plan_law image machine volume section device in
          plan.check ∙ passed-made (system_planned image machine device section.table) (system_section section)
      check None =
          let plan = kernel_plan_law volume (parts_of volume image) section in
          plan.check

      found-by : (device : Device) (places : Result (List (Option DiskSector)) PlanFault) (found : List MappedSection)
          → system_planned image machine device section.table ≡ places → (places >>= λ places. Ok (system_section section places)) ≡ Ok found
          → mapped_by image machine volume section (Some device) ≡ found
      found-by device (Ok places) found is made =
          let plan = system_plan_law image machine volume section device in
          let same : system_section section places ≡ found = cc in
          plan.mapped places is ∙ same
      found-by device (Err fault) found is made = cc

      mapped : (other : Option Device) (found : List MappedSection) → planned_by image machine volume section other ≡ Ok found
          → mapped_by image machine volume section other ≡ found
      mapped (Some device) found is = found-by device (system_planned image machine device section.table) found refl is
      mapped None found is =
          let plan = kernel_plan_law volume (parts_of volume image) section in
          plan.mapped found is

  both-check : (one rest : Result (Unit {0}) PlanFault) (first others : Result (List MappedSection) PlanFault) → one ≡ passed first → rest ≡ passed others
      → (one >>= λ a. rest) ≡ passed (first >>= λ here. others >>= λ others. Ok (here ++ others))
  both-check one rest (Ok here) (Ok others) is and = rw (is, and) refl
  both-check one rest (Ok here) (Err fault) is and = rw (is, and) refl
  both-check one rest (Err fault) others is and = rw is refl

  both-mapped : (first others : Result (List MappedSection) PlanFault) (one rest found : List MappedSection)
      → ((found : List MappedSection) → first ≡ Ok found → one ≡ found) → ((found : List MappedSection) → others ≡ Ok found → rest ≡ found)
      → (first >>= λ here. others >>= λ others. Ok (here ++ others)) ≡ Ok found → one ++ rest ≡ found
  both-mapped (Ok here) (Ok others) one rest found is and made =
      let all : here ++ others ≡ found = cc in
      ap (λ here. here ++ rest) (is here refl) ∙ ap (λ others. here ++ others) (and others refl) ∙ all
  both-mapped (Ok here) (Err fault) one rest found is and made = cc
  both-mapped (Err fault) others one rest found is and made = cc

  section-plans : (sections : List ConfSection) → AreSectionPlans image machine volume sections
  section-plans [] = record { check = refl; mapped = λ found is. cc }
  section-plans (section ∷ sections) =
      let here = section-plan section in
      let others = section-plans sections in
      record {
        check = both-check (section_check image machine volume section section.other) (each_passes (λ section. section_check image machine volume section section.other) sections)
            (section_planned image machine volume section) (sections_planned image machine volume sections) here.check others.check;
        mapped = λ found. both-mapped (section_planned image machine volume section) (sections_planned image machine volume sections)
            (mapped_section image machine volume section) (flat_map (mapped_section image machine volume) sections) found here.mapped others.mapped;
      }

pub section_plan_law : SectionPlanLaw
section_plan_law image machine volume section = section-plan image machine volume section

pub section_plans_law : SectionPlansLaw
section_plans_law image machine volume sections = section-plans image machine volume sections
