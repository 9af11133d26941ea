-- The code, the message, the kernels and their ramdisks.
use Rattle.std.proofs.Common.{◌≡◌, Ok, Err, rules, refl, ap}
use Rattle.lilo_model.specs.ConfOptions as options
use Rattle.lilo_model.specs.PlanRefusal.{each_passes, if_there}
use Rattle.lilo_conf.specs.View.{config_view, sections_view}
use Rattle.minix_zones.specs.Volume.{volume_view, past_of, SameVolume}
use Rattle.install_apart.specs.Apart.{GivesApart}
use Rattle.install_apart.specs.Guarded.{path_check, part_check}
use Rattle.install_apart.specs.declared.apart_path.FilePart.TheVariants.{Kernel, Initrd}
use Rattle.install_apart.proofs.ApartLemmas.{guarded_back, files-first, files-second, files-third, files-last}
use Rattle.install_apart.proofs.apart_path.check_files.Goals as goal

pub returns-in_err-check_optional-clause-apart : goal.returns-in_err-check_optional-clause-apart
returns-in_err-check_optional-clause-apart g c =
    let given : c.from_residual.result ≡ Err (c.in_err-check_optional.field-0.0) = search rules in
    rw given
    (files-first (volume_view c.args.volume.now) c.args.guarded.now (config_view c.args.config.now) (sections_view c.args.config.now.sections) refl
    (past_of c.args.volume.now) (c.in_err-check_optional.field-0.0) c.in_err-check_optional.ensures.apart)

pub returns-in_err-check_optional-2-clause-apart : goal.returns-in_err-check_optional-2-clause-apart
returns-in_err-check_optional-2-clause-apart g c =
    let given : c.from_residual-in_err-check_optional-2.result ≡ Err (c.in_err-check_optional-2.field-0.0) = search rules in
    let here = guarded_back c.args.volume.now c.check_optional.new.volume c.args.guarded.now
    (λ now volume names. GivesApart (Err (c.in_err-check_optional-2.field-0.0)) (if_there (path_check now volume names options.Message) c.args.config.now.message))
    c.in_ok-check_optional.ensures.same c.in_err-check_optional-2.ensures.apart in
    rw given
    (files-second (volume_view c.args.volume.now) c.args.guarded.now (config_view c.args.config.now) (sections_view c.args.config.now.sections) refl
    (past_of c.args.volume.now) (c.in_err-check_optional-2.field-0.0) c.in_ok-check_optional.ensures.apart here)

pub returns-in_err-check_parts-clause-apart : goal.returns-in_err-check_parts-clause-apart
returns-in_err-check_parts-clause-apart g c =
    let given : c.from_residual-in_err-check_parts.result ≡ Err (c.in_err-check_parts.field-0.0) = search rules in
    let same : SameVolume c.args.volume.now c.check_optional-2.new.volume = search rules in
    let message = guarded_back c.args.volume.now c.check_optional.new.volume c.args.guarded.now
    (λ now volume names. if_there (path_check now volume names options.Message) c.args.config.now.message ≡ Ok tt)
    c.in_ok-check_optional.ensures.same c.in_ok-check_optional-2.ensures.apart in
    let here = guarded_back c.args.volume.now c.check_optional-2.new.volume c.args.guarded.now
    (λ now volume names. GivesApart (Err (c.in_err-check_parts.field-0.0)) (each_passes (part_check now volume names Kernel) (sections_view c.items.result.now)))
    same c.in_err-check_parts.ensures.apart in
    rw given
    (files-third (volume_view c.args.volume.now) c.args.guarded.now (config_view c.args.config.now) (sections_view c.items.result.now) (ap sections_view c.items.ensures)
    (past_of c.args.volume.now) (c.in_err-check_parts.field-0.0) c.in_ok-check_optional.ensures.apart message here)

pub returns-clause-apart : goal.returns-clause-apart
returns-clause-apart g c =
    let same : SameVolume c.args.volume.now c.check_optional-2.new.volume = search rules in
    let also : SameVolume c.args.volume.now c.check_parts.new.volume = search rules in
    let message = guarded_back c.args.volume.now c.check_optional.new.volume c.args.guarded.now
    (λ now volume names. if_there (path_check now volume names options.Message) c.args.config.now.message ≡ Ok tt)
    c.in_ok-check_optional.ensures.same c.in_ok-check_optional-2.ensures.apart in
    let kernels = guarded_back c.args.volume.now c.check_optional-2.new.volume c.args.guarded.now
    (λ now volume names. each_passes (part_check now volume names Kernel) (sections_view c.args.config.now.sections) ≡ Ok tt)
    same (rw c.items.ensures at c.in_ok-check_parts.ensures.apart) in
    let last = guarded_back c.args.volume.now c.check_parts.new.volume c.args.guarded.now
    (λ now volume names. GivesApart c.check_parts-2.result (each_passes (part_check now volume names Initrd) (sections_view c.args.config.now.sections)))
    also (rw c.items-2.ensures at c.check_parts-2.ensures.apart) in
    files-last (volume_view c.args.volume.now) c.args.guarded.now (config_view c.args.config.now) (sections_view c.args.config.now.sections) refl
    (past_of c.args.volume.now) c.check_parts-2.result c.in_ok-check_optional.ensures.apart message kernels last
