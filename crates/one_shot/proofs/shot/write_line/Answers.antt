-- The sector is written, there is none, or the disk failed.
use Rattle.std.proofs.Common.{Ok, Err, refl, ap}
use Rattle.lilo_model.specs.Slots.{place_at}
use Rattle.sector_address.specs.Machine.{machine_of}
use Rattle.sector_address.specs.View.{slot_view}
use Rattle.bios_model.specs.declared.bios.BiosFault.TheVariants as bios
use Rattle.one_shot.proofs.ShotLemmas.{not_lost, puts_made, puts_lost, puts_failed, goes_on_found}
use Rattle.one_shot.proofs.shot.write_line.Goals as goal

pub returns-in-Ok-clause-puts : goal.returns-in-Ok-clause-puts
returns-in-Ok-clause-puts g c =
    puts_made g.D.Disks c.args.disks.now c.write_sector.new.disks c.args.from.now
    (place_at (machine_of g.D.Disks c.args.disks.now) (slot_view c.args.slot.now) 0)
    c.in-Ok.ensures.writes (λ lost. not_lost (Ok tt) refl (c.in-Ok.ensures.not_found.1 lost))

pub returns-in-Err-NotFound-clause-puts : goal.returns-in-Err-NotFound-clause-puts
returns-in-Err-NotFound-clause-puts g c =
    puts_lost g.D.Disks c.args.disks.now c.write_sector.new.disks c.args.from.now
    (place_at (machine_of g.D.Disks c.args.disks.now) (slot_view c.args.slot.now) 0) bios.NotFound
    (rw c.in-Err-NotFound.field-0-is at c.in-Err-NotFound.ensures.writes)
    (c.in-Err-NotFound.ensures.not_found.0 (ap Err c.in-Err-NotFound.field-0-is))

pub returns-in-Err-Timeout-clause-puts : goal.returns-in-Err-Timeout-clause-puts
returns-in-Err-Timeout-clause-puts g c =
    let there = rw c.in-Err-Timeout.field-0-is at c.in-Err-Timeout.ensures.not_found in
    puts_failed g.D.Disks c.args.disks.now c.write_sector.new.disks c.args.from.now
    (place_at (machine_of g.D.Disks c.args.disks.now) (slot_view c.args.slot.now) 0) bios.Timeout
    (rw c.in-Err-Timeout.field-0-is at c.in-Err-Timeout.ensures.writes)
    (λ lost. not_lost (Err bios.Timeout) refl (there.1 lost)) (c.in-Err-Timeout.ensures.timeout (ap Err c.in-Err-Timeout.field-0-is))

pub returns-in-Ok-clause-goes_on : goal.returns-in-Ok-clause-goes_on
returns-in-Ok-clause-goes_on g c =
    goes_on_found g.D.Disks c.args.disks.now c.write_sector.new.disks c.args.from.now
    (place_at (machine_of g.D.Disks c.args.disks.now) (slot_view c.args.slot.now) 0) c.write_sector.result c.write_sector.ensures.writes c.write_sector.ensures.later

pub returns-in-Err-NotFound-clause-goes_on : goal.returns-in-Err-NotFound-clause-goes_on
returns-in-Err-NotFound-clause-goes_on g c =
    goes_on_found g.D.Disks c.args.disks.now c.write_sector.new.disks c.args.from.now
    (place_at (machine_of g.D.Disks c.args.disks.now) (slot_view c.args.slot.now) 0) c.write_sector.result c.write_sector.ensures.writes c.write_sector.ensures.later

pub returns-in-Err-Timeout-clause-goes_on : goal.returns-in-Err-Timeout-clause-goes_on
returns-in-Err-Timeout-clause-goes_on g c =
    goes_on_found g.D.Disks c.args.disks.now c.write_sector.new.disks c.args.from.now
    (place_at (machine_of g.D.Disks c.args.disks.now) (slot_view c.args.slot.now) 0) c.write_sector.result c.write_sector.ensures.writes c.write_sector.ensures.later
