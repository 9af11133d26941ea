-- A kernel is asked by its first bytes.
use Rattle.std.proofs.Common.{◌≡◌, ℕ, List, Ok, Err, sym, subst, rules}
use Rattle.std.specs.Option.{option_map}
use Rattle.disk_trait.specs.Past.{Told}
use Rattle.lilo_model.specs.MinixNames.{names_in, IsSound}
use Rattle.lilo_model.specs.MinixParts.{parts_of}
use Rattle.lilo_model.specs.Plan.{MappedSection}
use Rattle.lilo_model.specs.PlanRefusal.{Header, kernel_check}
use Rattle.lilo_conf.specs.View.{section_view}
use Rattle.minix_zones.specs.Volume.{volume_view, past_of, faults_of}
use Rattle.setup_header.specs.View.{setup_fault_view}
use Rattle.file_runs.specs.Mapped.{file_view}
use Rattle.map_plan.specs.Starts.{start_view, start_planned}
use Rattle.map_plan.specs.View.{Refuses}
use Rattle.map_plan.proofs.HeldLemmas.{IsKernel, kernel-unread, kernel-fits, sizes-same}
use Rattle.map_plan.proofs.SoundLemmas.{told_map}
use Rattle.map_plan.proofs.held.check_kernel.Goals as goal

pub returns-in_err-start-clause-kernel : goal.returns-in_err-start-clause-kernel
returns-in_err-start-clause-kernel g c =
    let given : c.from_residual.result ≡ Err (c.in_err-start.field-0.0) = search rules in
    let volume = volume_view c.args.volume.now in
    let mapped : MappedSection = record { section = section_view c.args.section.now; main = file_view c.args.files.now.main; initrd = option_map file_view c.args.files.now.initrd } in
    let refused = subst (λ (path : List ℕ). Told (past_of c.args.volume.now) (λ now. IsSound volume now → Refuses (c.in_err-start.field-0.0) (start_planned volume (parts_of volume now) path)))
    c.bytes-path.ensures c.in_err-start.ensures.start in
    rw given
    (kernel-unread volume (section_view c.args.section.now) mapped (past_of c.args.volume.now) (c.in_err-start.field-0.0) refused)

pub returns-in-Ok-clause-kernel : goal.returns-in-Ok-clause-kernel
returns-in-Ok-clause-kernel g c =
    let volume = volume_view c.args.volume.now in
    let mapped : MappedSection = record { section = section_view c.args.section.now; main = file_view c.args.files.now.main; initrd = option_map file_view c.args.files.now.initrd } in
    let read = subst (λ (path : List ℕ). Told (past_of c.args.volume.now) (λ now. IsSound volume now → start_planned volume (parts_of volume now) path ≡ Ok (start_view c.in_ok-start.start)))
    c.bytes-path.ensures c.in_ok-start.ensures.start in
    kernel-fits volume (section_view c.args.section.now) mapped (past_of c.args.volume.now) (start_view c.in_ok-start.start) (Ok tt) _ c.args.middle.now
    read c.in-Ok.ensures (sizes-same c.args.files.now.initrd) c.requires.middle

pub returns-in-Err-clause-kernel : goal.returns-in-Err-clause-kernel
returns-in-Err-clause-kernel g c =
    let volume = volume_view c.args.volume.now in
    let section = section_view c.args.section.now in
    let fault = setup_fault_view c.in-Err.fault in
    let mapped : MappedSection = record { section = section_view c.args.section.now; main = file_view c.args.files.now.main; initrd = option_map file_view c.args.files.now.initrd } in
    let read = subst (λ (path : List ℕ). Told (past_of c.args.volume.now) (λ now. IsSound volume now → start_planned volume (parts_of volume now) path ≡ Ok (start_view c.in_ok-start.start)))
    c.bytes-path.ensures c.in_ok-start.ensures.start in
    let refused = subst (λ (path : List ℕ). Refuses {B = Unit {0}} c.header_fault.result (Err (Header path fault))) c.bytes-path.ensures c.header_fault.ensures.refused in
    told_map (past_of c.args.volume.now)
    (λ now. IsSound volume now → IsKernel volume section mapped now → kernel_check (names_in volume now) section ≡ Err (Header section.path fault))
    (λ now. IsSound volume now → IsKernel volume section mapped now → Refuses c.header_fault.result (kernel_check (names_in volume now) section))
    (λ now is sound planned. subst (Refuses c.header_fault.result) (sym (is sound planned)) refused)
    (kernel-fits volume section mapped (past_of c.args.volume.now) (start_view c.in_ok-start.start) (Err fault) _ c.args.middle.now
    read c.in-Err.ensures (sizes-same c.args.files.now.initrd) c.requires.middle)

pub returns-in-Err-clause-cause : goal.returns-in-Err-clause-cause
returns-in-Err-clause-cause g c = c.header_fault.ensures.cause (faults_of c.args.volume.now) (faults_of c.read_start.new.volume)
