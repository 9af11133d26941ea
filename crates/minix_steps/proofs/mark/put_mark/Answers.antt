use Rattle.std.proofs.Common.{rules}
use Rattle.minix_steps.specs.Mark.{remarked}
use Rattle.minix_steps.specs.declared.bit_fault.BitFault.TheVariants.{Device}
use Rattle.minix_zones.specs.declared.zone_fault.ZoneFault.TheVariants as faults
use Rattle.minix_zones.proofs.WriteLemmas.{sector_after, sector_failed, sector_made, sector_refused}
use Rattle.minix_steps.proofs.MarkLemmas.{read_bytes}
use Rattle.minix_steps.proofs.mark.put_mark.Goals as goal

pub returns-in_err-read_with_bit : goal.returns-in_err-read_with_bit
returns-in_err-read_with_bit g c =
    let old = c.args.volume.now in
    record {
      writes = sector_refused old c.read_with_bit.new.volume c.args.sector (remarked old c.args.sector c.args.at c.args.value) Device _ (λ P. search rules)
          c.read_with_bit.ensures.same c.read_with_bit.ensures.later (search rules);
    }

pub returns-in-Ok : goal.returns-in-Ok
returns-in-Ok g c =
    let old = c.args.volume.now in
    let bytes = remarked old c.args.sector c.args.at c.args.value in
    let read = read_bytes old c.args.sector c.args.at c.args.value c.read_with_bit.new.into c.in_ok-read_with_bit.ensures.bytes in
    record {
      writes = sector_made old c.write_sector.new.self c.args.sector bytes faults.Device Device
          (sector_after old c.read_with_bit.new.volume c.write_sector.new.self c.args.sector c.read_with_bit.new.into bytes faults.Device _ c.read_with_bit.ensures.same c.read_with_bit.ensures.later read c.in-Ok.ensures.writes);
    }

pub returns-in-Err : goal.returns-in-Err
returns-in-Err g c =
    let old = c.args.volume.now in
    let bytes = remarked old c.args.sector c.args.at c.args.value in
    let read = read_bytes old c.args.sector c.args.at c.args.value c.read_with_bit.new.into c.in_ok-read_with_bit.ensures.bytes in
    record {
      writes = sector_failed old c.write_sector.new.self c.args.sector bytes faults.Device Device _
          (sector_after old c.read_with_bit.new.volume c.write_sector.new.self c.args.sector c.read_with_bit.new.into bytes faults.Device _ c.read_with_bit.ensures.same c.read_with_bit.ensures.later read c.in-Err.ensures.writes);
    }
