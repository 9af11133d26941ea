-- The parts of the sector, one after the other.
use Rattle.std.proofs.Common.{◌≡◌, ◌++◌, length, map, replicate, refl, sym, ap, ◌∙◌, arith}
use Rattle.std.specs.Option.{option_map}
use Rattle.std.specs.List.{concat}
use Rattle.lilo_model.specs.Bytes.{with_part, part_of, bytes16, bytes32}
use Rattle.lilo_model.specs.Slots.{slot_bytes, optional_bytes}
use Rattle.lilo_model.specs.BootSector.{boot_at, first_bytes, last_bytes, flag_number, timeout_number, field_bytes, merged_sector}
use Rattle.sector_address.specs.View.{slot_view}
use Rattle.map_again_laws.proofs.Parts.{written-first, written-next, written-whole}
use Rattle.map_again_laws.proofs.SlotAgain.{length-slot, length-optional}
use Rattle.map_again_laws.proofs.BootAgain.{boot_again}
use Rattle.boot_map.specs.View.{boot_view}
use Rattle.boot_map.proofs.SlotLemmas.{length-three}
use Rattle.boot_map.proofs.boot_sector.BootSector.merge.Goals as goal

pub returns-clause-bytes : goal.returns-clause-bytes
unfolding merged_sector field_bytes
returns-clause-bytes c =
    let boot = boot_view c.args.self.now in
    let flag_is : c.put_u16-2.new.sector ≡ with_part c.put_u32.new.sector 0x0C (bytes16 (flag_number boot.prompt)) = c.put_u16-2.ensures ∙ ap (λ n. with_part c.put_u32.new.sector 0x0C (bytes16 n)) c.flag_number.ensures in
    let timeout_is : c.put_u16-4.new.sector ≡ with_part c.put_u16-3.new.sector 0x10 (bytes16 (timeout_number boot.timeout)) = c.put_u16-4.ensures ∙ ap (λ n. with_part c.put_u16-3.new.sector 0x10 (bytes16 n)) c.timeout_number.ensures in
    let table_is : c.put_table_slots.new.sector ≡ with_part c.put_some_slot.new.sector 0x30 (concat (map slot_bytes boot.table)) = c.put_table_slots.ensures ∙ ap (λ slots. with_part c.put_some_slot.new.sector 0x30 (concat (map slot_bytes (map slot_view slots)))) c.deref.ensures.0 in
    let code_is : c.put_part-4.new.sector ≡ with_part c.put_part-3.new.sector 128 (part_of c.args.code.now 128 312) = c.put_part-4.ensures ∙ ap (with_part c.put_part-3.new.sector 128) c.part.ensures.bytes in
    let present_is : c.put_part-5.new.sector ≡ with_part c.put_part-4.new.sector 440 (part_of c.args.present.now 440 70) = c.put_part-5.ensures ∙ ap (with_part c.put_part-4.new.sector 440) c.part-2.ensures.bytes in
    let code_long : length (part_of c.args.code.now 128 312) ≡ 312 = sym (ap length c.part.ensures.bytes) ∙ c.part.ensures.length in
    let present_long : length (part_of c.args.present.now 440 70) ≡ 70 = sym (ap length c.part-2.ensures.bytes) ∙ c.part-2.ensures.length in
    let w = written-first c.args.into.now first_bytes c.put_part.new.sector 0 6 c.told-into c.put_part.ensures refl in
    let w = written-next w (bytes16 boot.version) c.put_u16.new.sector 6 2 c.put_u16.ensures refl refl (omega arith) in
    let w = written-next w (bytes32 boot.time) c.put_u32.new.sector 8 4 c.put_u32.ensures refl refl (omega arith) in
    let w = written-next w (bytes16 (flag_number boot.prompt)) c.put_u16-2.new.sector 0x0C 2 flag_is refl refl (omega arith) in
    let w = written-next w (bytes16 boot.delay) c.put_u16-3.new.sector 0x0E 2 c.put_u16-3.ensures refl refl (omega arith) in
    let w = written-next w (bytes16 (timeout_number boot.timeout)) c.put_u16-4.new.sector 0x10 2 timeout_is refl refl (omega arith) in
    let w = written-next w (bytes16 boot.names) c.put_u16-5.new.sector 0x12 2 c.put_u16-5.ensures refl refl (omega arith) in
    let w = written-next w (bytes16 boot.message_length) c.put_u16-6.new.sector 0x14 2 c.put_u16-6.ensures refl refl (omega arith) in
    let w = written-next w (bytes16 boot.message_chain) c.put_u16-7.new.sector 0x16 2 c.put_u16-7.ensures refl refl (omega arith) in
    let w = written-next w (slot_bytes boot.line) c.put.new.sector 0x18 8 c.put.ensures (length-slot boot.line) refl (omega arith) in
    let w = written-next w (slot_bytes boot.zero_sector) c.put-2.new.sector 0x20 8 c.put-2.ensures (length-slot boot.zero_sector) refl (omega arith) in
    let w = written-next w (optional_bytes boot.message) c.put_some_slot.new.sector 0x28 8 c.put_some_slot.ensures (length-optional boot.message) refl (omega arith) in
    let w = written-next w (concat (map slot_bytes boot.table)) c.put_table_slots.new.sector 0x30 24 table_is (length-three c.args.self.now.table.items c.requires.slots.three) refl (omega arith) in
    let w = written-next w (replicate 24 0) c.put_part-2.new.sector 0x48 24 c.put_part-2.ensures refl refl (omega arith) in
    let w = written-next w (bytes16 boot.default_entry) c.put_u16-8.new.sector 0x60 2 c.put_u16-8.ensures refl refl (omega arith) in
    let w = written-next w (replicate 30 0) c.put_part-3.new.sector 0x62 30 c.put_part-3.ensures refl refl (omega arith) in
    let w = written-next w (part_of c.args.code.now 128 312) c.put_part-4.new.sector 128 312 code_is code_long refl (omega arith) in
    let w = written-next w (part_of c.args.present.now 440 70) c.put_part-5.new.sector 440 70 present_is present_long refl (omega arith) in
    let w = written-next w last_bytes c.put_part-6.new.sector 510 2 c.put_part-6.ensures refl refl (omega arith) in
    written-whole w

pub returns-clause-again : goal.returns-clause-again
returns-clause-again c =
    λ fits. ap boot_at (returns-clause-bytes c)
    ∙ boot_again (boot_view c.args.self.now) c.args.code.now c.args.present.now fits (sym (ap length c.part.ensures.bytes) ∙ c.part.ensures.length) (sym (ap length c.part-2.ensures.bytes) ∙ c.part-2.ensures.length)
