-- A section by its kind.
use Rattle.std.proofs.Common.{◌≡◌, List, ℕ, Ok, Some, sym, subst}
use Rattle.lilo_model.specs.MinixNames.{names_in, IsSound}
use Rattle.lilo_model.specs.MinixParts.{parts_of}
use Rattle.lilo_model.specs.PlanRefusal.{kernel_check, mapped_check, system_check}
use Rattle.lilo_conf.specs.View.{section_view}
use Rattle.mbr_table.specs.View.{span_view}
use Rattle.minix_zones.specs.Volume.{volume_view, past_of, sizes_of}
use Rattle.map_plan.specs.Devices.{sectors_view}
use Rattle.map_plan.specs.Files.{kernel_planned, kernel_view}
use Rattle.map_plan.specs.Sections.{IsPlannedIn, planned_view}
use Rattle.map_plan.specs.Sound.{machine_for, OnVolume}
use Rattle.map_plan.specs.View.{Gives}
use Rattle.map_plan.proofs.HeldLemmas.{system-there, system-mapped, kernel-middle, kernel-mapped, kernel-is, kernel-short}
use Rattle.map_plan.proofs.SoundLemmas.{told_map}
use Rattle.map_plan.proofs.held.check_section.Goals as goal

pub check_system-requires : goal.check_system-requires
check_system-requires g c = system-there (sizes_of c.args.volume.now) c.args.planned.now c.requires c.in-System.sectors c.in-System.is

pub check_kernel-requires-clause-middle : goal.check_kernel-requires-clause-middle
check_kernel-requires-clause-middle g c = kernel-middle (sizes_of c.args.volume.now) c.args.planned.now c.requires c.in-Kernel.files c.in-Kernel.is

pub check_kernel-requires-clause-short : goal.check_kernel-requires-clause-short
check_kernel-requires-clause-short g c = kernel-short (sizes_of c.args.volume.now) c.args.planned.now c.requires c.in-Kernel.files c.in-Kernel.is

pub returns-in-System-clause-section : goal.returns-in-System-clause-section
returns-in-System-clause-section g c =
    let volume = volume_view c.args.volume.now in
    let boot = span_view c.args.boot in
    let held = subst (λ (path : List ℕ). OnVolume c.args.volume.now (λ now machine. Gives (λ done. tt) c.check_system.result (system_check now boot path (sectors_view c.in-System.sectors))))
    c.bytes.ensures c.check_system.ensures.system in
    told_map (past_of c.args.volume.now)
    (λ now. Gives (λ done. tt) c.check_system.result (system_check now boot c.args.planned.now.section.path (sectors_view c.in-System.sectors)))
    (λ now. IsSound volume now → IsPlannedIn now (machine_for c.args.volume.now) volume (planned_view c.args.planned.now)
    → Gives (λ done. tt) c.check_system.result (mapped_check now volume boot (planned_view c.args.planned.now)))
    (λ now is sound planned. subst (Gives (λ done. tt) c.check_system.result)
    (sym (system-mapped (sizes_of c.args.volume.now) c.args.planned.now c.requires c.in-System.sectors c.in-System.is now volume boot)) is)
    held

pub returns-in-Kernel-clause-section : goal.returns-in-Kernel-clause-section
returns-in-Kernel-clause-section g c =
    let volume = volume_view c.args.volume.now in
    let boot = span_view c.args.boot in
    told_map (past_of c.args.volume.now)
    (λ now. IsSound volume now
    → kernel_planned volume (parts_of volume now) (section_view c.args.planned.now.section) ≡ Ok (kernel_view c.args.planned.now.section (Some c.in-Kernel.files))
    → Gives (λ done. tt) c.check_kernel.result (kernel_check (names_in volume now) (section_view c.args.planned.now.section)))
    (λ now. IsSound volume now → IsPlannedIn now (machine_for c.args.volume.now) volume (planned_view c.args.planned.now)
    → Gives (λ done. tt) c.check_kernel.result (mapped_check now volume boot (planned_view c.args.planned.now)))
    (λ now is sound planned. subst (Gives (λ done. tt) c.check_kernel.result)
    (sym (kernel-mapped (sizes_of c.args.volume.now) c.args.planned.now c.requires c.in-Kernel.files c.in-Kernel.is now volume boot))
    (is sound (kernel-is (sizes_of c.args.volume.now) c.args.planned.now c.requires c.in-Kernel.files c.in-Kernel.is now (machine_for c.args.volume.now) volume planned)))
    c.check_kernel.ensures.kernel
