-- The kernel's file decides first, then the initial ramdisk's.
use Rattle.std.proofs.Common.{◌≡◌, Ok, Err, rules}
use Rattle.std.specs.Option.{option_map}
use Rattle.lilo_model.specs.MinixParts.{parts_of}
use Rattle.lilo_model.specs.MinixNames.{IsSound}
use Rattle.minix_zones.specs.Volume.{volume_view, past_of, faults_of}
use Rattle.minix_zones.proofs.SameLemmas.{told_back}
use Rattle.file_runs.specs.Mapped.{file_view}
use Rattle.map_plan.specs.Files.{optional_planned}
use Rattle.map_plan.specs.View.{Refuses}
use Rattle.map_plan.proofs.FileLemmas.{kernel-refused, initrd-refused, kernel-found}
use Rattle.map_plan.proofs.file.map_kernel.Goals as goal

pub returns-in-Err-clause-files : goal.returns-in-Err-clause-files
returns-in-Err-clause-files g c =
    kernel-refused (volume_view c.args.volume.now) c.args.section.now c.bytes.result.now c.bytes.ensures (past_of c.args.volume.now) c.in-Err.fault _
    c.in-Err.ensures.file c.without_kernel.ensures.files

pub returns-in-Err-clause-cause : goal.returns-in-Err-clause-cause
returns-in-Err-clause-cause g c =
    c.without_kernel.ensures.cause (faults_of c.args.volume.now) (faults_of c.map_path.new.volume) c.in-Err.ensures.cause

pub returns-in_err-initrd-clause-files : goal.returns-in_err-initrd-clause-files
returns-in_err-initrd-clause-files g c =
    let given : c.from_residual.result ≡ Err (c.in_err-initrd.field-0.0) = search rules in
    let refused = told_back c.args.volume.now c.map_path.new.volume
    (λ volume now. IsSound volume now → Refuses (c.in_err-initrd.field-0.0) (optional_planned volume (parts_of volume now) c.args.section.now.initrd))
    c.map_path.ensures.same c.in_err-initrd.ensures.file in
    rw given
    (initrd-refused (volume_view c.args.volume.now) c.args.section.now c.bytes.result.now c.bytes.ensures (past_of c.args.volume.now)
    (c.in_err-initrd.field-0.0) (file_view c.in-Ok.main) c.in-Ok.ensures.file refused)

pub returns-clause-files : goal.returns-clause-files
returns-clause-files g c =
    let found = told_back c.args.volume.now c.map_path.new.volume
    (λ volume now. IsSound volume now → optional_planned volume (parts_of volume now) c.args.section.now.initrd ≡ Ok (option_map file_view c.in_ok-initrd.initrd))
    c.map_path.ensures.same c.in_ok-initrd.ensures.file in
    kernel-found (volume_view c.args.volume.now) c.args.section.now c.bytes.result.now c.bytes.ensures (past_of c.args.volume.now)
    (file_view c.in-Ok.main) (option_map file_view c.in_ok-initrd.initrd) c.in-Ok.ensures.file found
