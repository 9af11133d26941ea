-- The boot sector is refused, or the line is written where it says.
use Rattle.std.proofs.Common.{◌≡◌, refl, ◌∙◌, ap, subst, arith, List, ℕ, Err}
use Rattle.std.proofs.lemmas.Result.{err_from_is_err_and}
use Rattle.lilo_model.specs.LineSector.{line_bytes}
use Rattle.lilo_model.specs.LineShots.{shot_line}
use Rattle.sector_address.specs.Machine.{machine_of}
use Rattle.boot_map.specs.View.{boot_view}
use Rattle.disk_trait.specs.declared.disks.Phase.TheVariants.{Commit}
use Rattle.bios_model.proofs.WriteLemmas.{goes_on_read}
use Rattle.one_shot.specs.Shot.{shot_by, Puts}
use Rattle.one_shot.proofs.ShotLemmas.{shot_at, fault_of, puts_none}
use Rattle.one_shot.proofs.shot.shoot_by.Goals as goal

pub returns-in_err-boot-clause-puts : goal.returns-in_err-boot-clause-puts
returns-in_err-boot-clause-puts g c =
    let machine = machine_of g.D.Disks c.args.disks.now in
    let fault = c.in_err-boot.field-0.0 in
    let p = err_from_is_err_and c.from_residual.result c.from_residual.ensures.1 in
    rw (p.1, p.2)
    (puts_none g.D.Disks c.args.disks.now c.args.disks.now
    (record { same_past = refl; same_size = refl; same_count = refl; same_geometry = refl })
    (omega arith) (line_bytes (shot_line c.args.text.now)) (shot_by machine c.args.sector.now c.args.text.now) fault
    (fault_of machine c.args.sector.now c.args.text.now fault c.in_err-boot.ensures.no_device c.in_err-boot.ensures.judged)
    (λ is. c.in_err-boot.ensures.no_device Commit (ap Err is)))

pub returns-in_err-boot-clause-goes_on : goal.returns-in_err-boot-clause-goes_on
returns-in_err-boot-clause-goes_on g c =
    goes_on_read g.D.Disks c.args.disks.now c.args.disks.now
    (record { same_past = refl; same_size = refl; same_count = refl; same_geometry = refl })
    (omega arith)

pub returns-clause-puts : goal.returns-clause-puts
returns-clause-puts g c =
    let machine = machine_of g.D.Disks c.args.disks.now in
    let text = c.args.text.now in
    let boot = boot_view c.in_ok-boot.boot in
    let line : c.write_into.new.sector ≡ line_bytes (shot_line text) = c.write_into.ensures.bytes ∙ ap line_bytes c.shot_line.ensures in
    let P : List ℕ → Type 0 = λ bytes. Puts g.D.Disks c.args.disks.now c.write_line.new.disks bytes (shot_by machine c.args.sector.now text) c.write_line.result in
    subst P line (rw (shot_at machine c.args.sector.now text boot c.in_ok-boot.ensures.judged) c.write_line.ensures.puts)
