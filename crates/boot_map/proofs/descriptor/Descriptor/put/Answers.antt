-- The parts of the descriptor, one after the other.
use Rattle.std.proofs.Common.{◌≡◌, ◌≤◌, ◌+◌, ℕ, List, length, refl, ap, subst, ◌∙◌, arith}
use Rattle.lilo_model.specs.Bytes.{with_part, bytes16, bytes32, filled_bytes}
use Rattle.lilo_model.specs.Slots.{slot_bytes, optional_bytes}
use Rattle.lilo_model.specs.Table.{descriptor_bytes}
use Rattle.map_again_laws.proofs.Parts.{Written, written-first, written-next, length-filled}
use Rattle.map_again_laws.proofs.SlotAgain.{length-slot, length-optional}
use Rattle.map_again_laws.proofs.EntryAgain.{length-entry}
use Rattle.boot_map.specs.View.{descriptor_view}
use Rattle.boot_map.proofs.descriptor.Descriptor.put.Goals as goal

pub returns-clause-bytes : goal.returns-clause-bytes
unfolding descriptor_bytes
returns-clause-bytes c =
    let entry = descriptor_view c.args.self.now in
    let at = c.args.at in
    let inside : at + 64 ≤ 512 = c.requires.inside in
    let short : length entry.name ≤ 15 = subst (λ (text : List ℕ). length text ≤ 15) c.deref.ensures.0 c.deref.ensures.1 in
    let name_is : c.put_name.new.sector ≡ with_part c.args.sector.now at (filled_bytes 16 entry.name) = c.put_name.ensures ∙ ap (λ name. with_part c.args.sector.now at (filled_bytes 16 name)) c.deref.ensures.0 in
    let w = written-first c.args.sector.now (filled_bytes 16 entry.name) c.put_name.new.sector at 16 c.told-sector name_is (length-filled 16 entry.name (omega (arith, short))) in
    let w = written-next w (bytes16 entry.flags) c.put_u16.new.sector (at + 16) 2 c.put_u16.ensures refl refl (omega (arith, inside)) in
    let w = written-next w (bytes16 entry.vga) c.put_u16-2.new.sector (at + 18) 2 c.put_u16-2.ensures refl refl (omega (arith, inside)) in
    let w = written-next w (bytes32 entry.main_length) c.put_u32.new.sector (at + 20) 4 c.put_u32.ensures refl refl (omega (arith, inside)) in
    let w = written-next w (bytes32 entry.initrd_length) c.put_u32-2.new.sector (at + 24) 4 c.put_u32-2.ensures refl refl (omega (arith, inside)) in
    let w = written-next w (slot_bytes entry.options) c.put.new.sector (at + 28) 8 c.put.ensures (length-slot entry.options) refl (omega (arith, inside)) in
    let w = written-next w (slot_bytes entry.first) c.put-2.new.sector (at + 36) 8 c.put-2.ensures (length-slot entry.first) refl (omega (arith, inside)) in
    let w = written-next w (optional_bytes entry.initrd) c.put_some_slot.new.sector (at + 44) 8 c.put_some_slot.ensures (length-optional entry.initrd) refl (omega (arith, inside)) in
    let w = written-next w (bytes16 entry.chain) c.put_u16-3.new.sector (at + 52) 2 c.put_u16-3.ensures refl refl (omega (arith, inside)) in
    let w = written-next w (bytes16 entry.initrd_chain) c.put_u16-4.new.sector (at + 54) 2 c.put_u16-4.ensures refl refl (omega (arith, inside)) in
    let w = written-next w (optional_bytes entry.extra) c.put_some_slot-2.new.sector (at + 56) 8 c.put_some_slot-2.ensures (length-optional entry.extra) refl (omega (arith, inside)) in
    w.is

pub returns-clause-long : goal.returns-clause-long
returns-clause-long c = length-entry (descriptor_view c.args.self.now) (subst (λ (text : List ℕ). length text ≤ 16) c.deref.ensures.0 (omega (arith, c.deref.ensures.1)))
