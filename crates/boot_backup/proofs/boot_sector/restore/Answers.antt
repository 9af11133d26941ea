-- What is to be written was found and is written, or nothing is.
use Rattle.std.proofs.Common.{arith}
use Rattle.std.specs.Prelude.{option_map}
use Rattle.disk_trait.proofs.ToldLemmas.{told_map}
use Rattle.disk_trait.proofs.CallLemmas.{goes_on_join}
use Rattle.sector_address.specs.Machine.{machine_of}
use Rattle.mbr_table.specs.View.{device_view, span_view}
use Rattle.bios_model.proofs.WriteLemmas.{goes_on_read}
use Rattle.boot_backup.specs.Restore.{boot_place, restored_in}
use Rattle.boot_backup.proofs.RestoreLemmas.{restores_none, restores_after, rose_failed, not_before, not_placed}
use Rattle.boot_backup.proofs.boot_sector.restore.Goals as goal

pub returns-in-Ok-clause-sector : goal.returns-in-Ok-clause-sector
returns-in-Ok-clause-sector g c =
    let disks = g.D.Disks in
    told_map (disks.past c.args.disks.now) _ _
    (λ now found. restores_after disks c.args.disks.now c.restored.new.disks (boot_place (span_view c.args.boot)) c.restored.ensures.same c.restored.ensures.later
    c.write_boot_sector.new.disks _ c.in-Ok.sector c.write_boot_sector.result found c.write_boot_sector.ensures.writes c.write_boot_sector.ensures.failed)
    c.in-Ok.ensures.sector

pub returns-in-Err-clause-sector : goal.returns-in-Err-clause-sector
returns-in-Err-clause-sector g c =
    let disks = g.D.Disks in
    told_map (disks.past c.args.disks.now) _ _
    (λ now found. restores_none disks c.args.disks.now c.restored.new.disks (boot_place (span_view c.args.boot)) c.restored.ensures.same c.restored.ensures.later
    _ c.in-Err.fault found c.in-Err.ensures.cause)
    c.in-Err.ensures.sector

pub returns-in-Err-clause-goes_on : goal.returns-in-Err-clause-goes_on
returns-in-Err-clause-goes_on g c = goes_on_read g.D.Disks c.args.disks.now c.restored.new.disks c.restored.ensures.same c.restored.ensures.later

pub returns-in-Ok-clause-goes_on : goal.returns-in-Ok-clause-goes_on
returns-in-Ok-clause-goes_on g c =
    goes_on_join g.D.Disks c.args.disks.now c.restored.new.disks c.write_boot_sector.new.disks
    (goes_on_read g.D.Disks c.args.disks.now c.restored.new.disks c.restored.ensures.same c.restored.ensures.later)
    c.write_boot_sector.ensures.writes.writes.goes_on

pub returns-in-Ok-clause-failed : goal.returns-in-Ok-clause-failed
returns-in-Ok-clause-failed g c = λ phase is. rose_failed _ _ _ phase c.write_boot_sector.result c.restored.ensures.later is c.write_boot_sector.ensures.failed

pub returns-in-Ok-clause-before : goal.returns-in-Ok-clause-before
returns-in-Ok-clause-before g c = λ is. absurd (not_before _ _ c.write_boot_sector.result is c.write_boot_sector.ensures.failed)

pub returns-in-Ok-clause-place : goal.returns-in-Ok-clause-place
returns-in-Ok-clause-place g c = λ is. absurd (not_placed _ _ _ c.write_boot_sector.result is c.write_boot_sector.ensures.failed)
