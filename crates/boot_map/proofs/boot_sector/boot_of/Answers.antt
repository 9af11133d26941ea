-- The ranges are those of the tests.
use Rattle.std.proofs.Common.{arith}
use Rattle.boot_map.proofs.BootLemmas.{whole_names, whole_slots, whole_line, whole_message}
use Rattle.boot_map.proofs.boot_sector.boot_of.Goals as goal

pub slot_of-requires-clause-one : goal.slot_of-requires-clause-one
slot_of-requires-clause-one c =
    let slots = whole_line c.args.sector.now (whole_slots c.args.sector.now c.requires) in
    rw c.part.ensures.bytes slots.0

pub slot_of-requires-2-clause-one : goal.slot_of-requires-2-clause-one
slot_of-requires-2-clause-one c =
    let slots = whole_line c.args.sector.now (whole_slots c.args.sector.now c.requires) in
    rw c.part-2.ensures.bytes slots.1

pub some_slot-requires-clause-one : goal.some_slot-requires-clause-one
some_slot-requires-clause-one c = rw c.part-3.ensures.bytes (whole_message c.args.sector.now c.requires)

pub table_slots-requires : goal.table_slots-requires
table_slots-requires c = whole_slots c.args.sector.now c.requires

pub returns-clause-names : goal.returns-clause-names
returns-clause-names c =
    let ranges = whole_names c.args.sector.now c.requires in (omega arith, omega arith)

pub returns-clause-default_entry : goal.returns-clause-default_entry
returns-clause-default_entry c = let ranges = whole_names c.args.sector.now c.requires in omega arith
