-- The addresses of a kernel's files.
use Rattle.std.proofs.Common.{◌≡◌, ℕ, List, [], ◌∷◌, Option, Some, None, refl, ap, subst, ◌∙◌}
use Rattle.std.specs.Prelude.{IfSome}
use Rattle.std.specs.Option.{option_map}
use Rattle.std.specs.List.{AllByRecursion}
use Rattle.lilo_model.specs.Checks.{◌>>=◌}
use Rattle.lilo_model.specs.Disks.{DiskSector, Geometry, Machine}
use Rattle.lilo_model.specs.Conf.{Config}
use Rattle.lilo_model.specs.ConfOptions as options
use Rattle.lilo_model.specs.PlanRefusal.{if_there, mapped_file_check, mapped_address_check}
use Rattle.file_runs.specs.Mapped.{file_view}
use Rattle.map_plan.specs.declared.file.KernelFiles.{KernelFiles}
use Rattle.map_plan.specs.declared.section.PlannedSection.{PlannedSection}
use Rattle.map_plan.specs.declared.section.SectionFiles.{SectionFiles}
use Rattle.map_plan.specs.declared.section.SectionFiles.TheVariants.{Kernel}
use Rattle.map_plan.specs.Named.{LiesOnDisk, LiesOnDiskBy, SectionLiesOnDisk}
use Rattle.map_plan.specs.Sections.{FitsSection, main_view, initrd_view, planned_view}
use Rattle.map_plan.proofs.HeldLemmas.{other-none}

-- sectors on a disk lie on disks of its geometry
pub lies-on : (machine : Machine) (disk : ℕ) (geometry : Geometry) (places : List (Option DiskSector)) → machine.geometry_of disk ≡ geometry
    → AllByRecursion (λ place. IfSome place (λ place. place.disk ≡ disk)) places
    → AllByRecursion (λ place. IfSome place (λ place. machine.geometry_of place.disk ≡ geometry)) places
lies-on machine disk geometry [] is on = tt
lies-on machine disk geometry (None ∷ places) is on = (tt, lies-on machine disk geometry places is on.1)
lies-on machine disk geometry (Some place ∷ places) is on = (ap machine.geometry_of on.0 ∙ is, lies-on machine disk geometry places is on.1)

module _ (sizes : ℕ → ℕ) (planned : PlannedSection) (fits : FitsSection sizes planned) (files : KernelFiles) (is : planned.files ≡ Kernel files) where
  pub kernel-addresses : (config : Config) (machine : Machine)
      → mapped_address_check config machine (planned_view planned)
      ≡ (mapped_file_check config machine options.Image (file_view files.main)
      >>= λ a. if_there (mapped_file_check config machine options.Initrd) (option_map file_view files.initrd))
  kernel-addresses config machine = rw (other-none sizes planned fits files is, is) refl

  pub kernel-on : (disk : ℕ) → SectionLiesOnDisk disk (planned_view planned)
      → LiesOnDisk disk (file_view files.main) × IfSome (option_map file_view files.initrd) (LiesOnDisk disk)
  kernel-on disk on =
      subst (λ (kept : SectionFiles). LiesOnDisk disk (main_view kept) × IfSome (initrd_view kept) (LiesOnDisk disk)) is
      (subst (LiesOnDiskBy disk (planned_view planned)) (other-none sizes planned fits files is) on)
