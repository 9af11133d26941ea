-- The main file of a kernel, then its initial ramdisk.
use Rattle.std.proofs.Common.{◌≡◌, Some, Result, Err, rules, sym, subst, ap, ◌∙◌}
use Rattle.std.specs.Option.{option_map}
use Rattle.lilo_model.specs.Checks.{◌>>=◌}
use Rattle.lilo_model.specs.ConfOptions as options
use Rattle.lilo_model.specs.PlanRefusal.{PlanFault, if_there, mapped_file_check}
use Rattle.file_runs.specs.Mapped.{file_view}
use Rattle.minix_zones.specs.Volume.{sizes_of}
use Rattle.map_plan.specs.Sound.{machine_for}
use Rattle.map_plan.specs.View.{Decides}
use Rattle.map_plan.proofs.AddressLemmas.{kernel-addresses, kernel-on}
use Rattle.map_plan.proofs.PassLemmas.{decides-first}
use Rattle.map_plan.proofs.address.check_section_addresses.Goals as goal

pub returns-in_err-check_file_addresses-in-Kernel-clause-decided : goal.returns-in_err-check_file_addresses-in-Kernel-clause-decided
returns-in_err-check_file_addresses-in-Kernel-clause-decided g c =
    let given : c.from_residual.result ≡ Err (c.in_err-check_file_addresses-in-Kernel.field-0.0) = search rules in
    let fault = c.in_err-check_file_addresses-in-Kernel.field-0.0 in
    let sizes = sizes_of c.args.volume.now in
    let machine = machine_for c.args.volume.now in
    rw given
    (λ config named on.
    ap Some (kernel-addresses sizes c.args.planned.now c.requires c.in-Kernel.files c.in-Kernel.is config machine)
    ∙ decides-first fault (mapped_file_check config machine options.Image (file_view c.in-Kernel.files.main))
    (if_there (mapped_file_check config machine options.Initrd) (option_map file_view c.in-Kernel.files.initrd))
    (c.in_err-check_file_addresses-in-Kernel.ensures.decided config named
    (kernel-on sizes c.args.planned.now c.requires c.in-Kernel.files c.in-Kernel.is c.args.volume.now.span.disk on).0))

pub returns-in_err-check_file_addresses-in-Kernel-clause-cause : goal.returns-in_err-check_file_addresses-in-Kernel-clause-cause
returns-in_err-check_file_addresses-in-Kernel-clause-cause g c =
    let given : c.from_residual.result ≡ Err (c.in_err-check_file_addresses-in-Kernel.field-0.0) = search rules in
    rw given c.in_err-check_file_addresses-in-Kernel.ensures.cause

pub returns-in_ok-check_file_addresses-in-Kernel-clause-decided : goal.returns-in_ok-check_file_addresses-in-Kernel-clause-decided
returns-in_ok-check_file_addresses-in-Kernel-clause-decided g c config named on =
    let sizes = sizes_of c.args.volume.now in
    let machine = machine_for c.args.volume.now in
    let both = kernel-on sizes c.args.planned.now c.requires c.in-Kernel.files c.in-Kernel.is c.args.volume.now.span.disk on in
    subst (Decides c.check_optional_addresses.result)
    (sym (kernel-addresses sizes c.args.planned.now c.requires c.in-Kernel.files c.in-Kernel.is config machine
    ∙ ap
    (λ (main : Result (Unit {0}) PlanFault). main >>= λ a. if_there (mapped_file_check config machine options.Initrd) (option_map file_view c.in-Kernel.files.initrd))
    (c.in_ok-check_file_addresses-in-Kernel.ensures.decided config named both.0)))
    (c.check_optional_addresses.ensures.decided config named both.1)
