-- The sector is found or it isn't, and then it is written.
use Rattle.std.proofs.Common.{rules, ◌≡◌, Ok, Err, refl, arith}
use Rattle.lilo_model.specs.Slots.{place_at, NotFound}
use Rattle.sector_address.specs.View.{slot_view, address_fault_view}
use Rattle.sector_address.specs.Machine.{machine_of}
use Rattle.bios_model.specs.declared.bios.BiosFault.TheVariants.{Timeout}
use Rattle.bios_model.proofs.WriteLemmas.{named_place, no_place_past, no_place_named, writes_place, made_as, refused_as}
use Rattle.bios_model.proofs.bios.write_sector.Goals as goal

pub returns-in_default-clause-writes : goal.returns-in_default-clause-writes
returns-in_default-clause-writes g c =
    let machine = machine_of g.D.Disks c.args.disks.now in
    let slot = slot_view c.args.slot.now in
    let named = rw c.geometry.ensures at c.in_default.ensures in
    let is : place_at machine slot 0 ≡ Err (address_fault_view c.in_default.field-0) = no_place_named machine slot _ named in
    rw is (record { same_past = refl; same_size = refl; same_count = refl; same_geometry = refl })

pub returns-in_default-clause-not_found : goal.returns-in_default-clause-not_found
returns-in_default-clause-not_found g c =
    let machine = machine_of g.D.Disks c.args.disks.now in
    let slot = slot_view c.args.slot.now in
    let named = rw c.geometry.ensures at c.in_default.ensures in
    let is : place_at machine slot 0 ≡ Err (address_fault_view c.in_default.field-0) = no_place_named machine slot _ named in
    rw is (search rules)

pub returns-then-size-sector-clause-writes : goal.returns-then-size-sector-clause-writes
returns-then-size-sector-clause-writes g c =
    let machine = machine_of g.D.Disks c.args.disks.now in
    let slot = slot_view c.args.slot.now in
    let named = rw c.geometry.ensures at c.in-Ok.ensures in
    let is : place_at machine slot 0 ≡ Err NotFound = no_place_past machine slot c.in-Ok.sector named (omega (arith, c.size.ensures.size, c.if-size-sector.true)) in
    rw is (record { same_past = refl; same_size = refl; same_count = refl; same_geometry = refl })

pub returns-then-size-sector-clause-not_found : goal.returns-then-size-sector-clause-not_found
returns-then-size-sector-clause-not_found g c =
    let machine = machine_of g.D.Disks c.args.disks.now in
    let slot = slot_view c.args.slot.now in
    let named = rw c.geometry.ensures at c.in-Ok.ensures in
    let is : place_at machine slot 0 ≡ Err NotFound = no_place_past machine slot c.in-Ok.sector named (omega (arith, c.size.ensures.size, c.if-size-sector.true)) in
    rw is (search rules)

pub returns-in-Ok-write_and_flush-clause-writes : goal.returns-in-Ok-write_and_flush-clause-writes
returns-in-Ok-write_and_flush-clause-writes g c =
    let machine = machine_of g.D.Disks c.args.disks.now in
    let slot = slot_view c.args.slot.now in
    let named = rw c.geometry.ensures at c.in-Ok.ensures in
    let is : place_at machine slot 0 ≡ Ok (record { disk = slot.disk; sector = c.in-Ok.sector }) = named_place machine slot c.in-Ok.sector named (omega (arith, c.size.ensures.size, c.if-size-sector.false)) in
    rw is
    (made_as g.D.Disks _ _ _ _
    (writes_place g.D.Disks _ _ (record { disk = slot.disk; sector = c.in-Ok.sector }) c.args.from.now (Ok tt) c.in-Ok-write_and_flush.ensures.writes c.in-Ok-write_and_flush.ensures.flushed))

pub returns-in-Ok-write_and_flush-clause-not_found : goal.returns-in-Ok-write_and_flush-clause-not_found
returns-in-Ok-write_and_flush-clause-not_found g c =
    let machine = machine_of g.D.Disks c.args.disks.now in
    let slot = slot_view c.args.slot.now in
    let named = rw c.geometry.ensures at c.in-Ok.ensures in
    let is : place_at machine slot 0 ≡ Ok (record { disk = slot.disk; sector = c.in-Ok.sector }) = named_place machine slot c.in-Ok.sector named (omega (arith, c.size.ensures.size, c.if-size-sector.false)) in
    rw is (search rules)

pub returns-in-Err-clause-writes : goal.returns-in-Err-clause-writes
returns-in-Err-clause-writes g c =
    let machine = machine_of g.D.Disks c.args.disks.now in
    let slot = slot_view c.args.slot.now in
    let named = rw c.geometry.ensures at c.in-Ok.ensures in
    let is : place_at machine slot 0 ≡ Ok (record { disk = slot.disk; sector = c.in-Ok.sector }) = named_place machine slot c.in-Ok.sector named (omega (arith, c.size.ensures.size, c.if-size-sector.false)) in
    rw is
    (refused_as g.D.Disks _ _ _ _ c.in-Err.field-0 Timeout
    (writes_place g.D.Disks _ _ (record { disk = slot.disk; sector = c.in-Ok.sector }) c.args.from.now (Err c.in-Err.field-0) c.in-Err.ensures.writes c.in-Err.ensures.flushed))

pub returns-in-Err-clause-not_found : goal.returns-in-Err-clause-not_found
returns-in-Err-clause-not_found g c =
    let machine = machine_of g.D.Disks c.args.disks.now in
    let slot = slot_view c.args.slot.now in
    let named = rw c.geometry.ensures at c.in-Ok.ensures in
    let is : place_at machine slot 0 ≡ Ok (record { disk = slot.disk; sector = c.in-Ok.sector }) = named_place machine slot c.in-Ok.sector named (omega (arith, c.size.ensures.size, c.if-size-sector.false)) in
    rw is (search rules)
