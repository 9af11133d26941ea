-- A sector that was read comes before what is left.
use Rattle.std.proofs.Common.{◌≡◌, ◌<◌, ◌+◌, ◌-◌, ◌∙◌, refl, subst, Option, Ok, Err, arith}
use Rattle.disk_trait.specs.Past.{Past, Told}
use Rattle.std.proofs.lemmas.Result.{err_from_is_err_and}
use Rattle.sector_address.specs.Machine.{machine_of}
use Rattle.sector_address.specs.View.{slot_view}
use Rattle.section_loader.specs.Reading.{reading_ahead}
use Rattle.section_loader.specs.File.{KeepsRest, ReadsAt, Yields, held_in, rest_in}
use Rattle.section_loader.proofs.FileLemmas.{read_rest, lost_yields}
use Rattle.disk_trait.proofs.ToldLemmas.{told_both}
use Rattle.section_loader.proofs.file.FileReader.next.Goals as goal

pub returns-clause-bytes : goal.returns-clause-bytes
returns-clause-bytes g c =
    let same = c.in_ok-take_slot.ensures.reads.same in
    let read = rw (same.same_past, same.same_size, same.same_geometry) at c.in_ok-read_at.ensures.sector in
    let machine = machine_of g.D.Disks c.args.disks.now in
    let file = c.take_slot.new.self in
    let next = c.in_ok-take_slot.ensures.next in
    let fewer : file.slot.count - (file.index + 1) ≡ file.slot.count - file.index - 1 = omega arith in
    let more : 0 < file.slot.count - file.index = omega (arith, next.some) in
    let some : 0 < file.left = omega (arith, c.if-self-eq0.false, c.in_ok-take_slot.ensures.left) in
    rw fewer
    (told_both (g.D.Disks.past c.args.disks.now) _ _ _
    (λ now kept found.
    kept
    ∙ read_rest now machine (slot_view file.slot) file.index (held_in file) file.left c.min-size.result
    (λ wanted. reading_ahead now machine (slot_view file.first) wanted file.section) c.read_at.new.into
    more some found c.read_at.array_long (omega (arith, c.min-size.ensures)))
    c.in_ok-take_slot.ensures.rest read)

pub returns-in_err-read_at-clause-bytes : goal.returns-in_err-read_at-clause-bytes
returns-in_err-read_at-clause-bytes g c =
    let same = c.in_ok-take_slot.ensures.reads.same in
    let old = c.args.disks.now in
    let mid = c.take_slot.new.disks in
    let machine = machine_of g.D.Disks old in
    let machines : machine_of g.D.Disks mid ≡ machine = rw (same.same_size, same.same_geometry) refl in
    let file = c.take_slot.new.self in
    let slot = slot_view file.slot in
    let bytes = c.read_at.new.into in
    let halt = c.in_err-read_at.field-0.0 in
    let next = c.in_ok-take_slot.ensures.next in
    let more : 0 < file.slot.count - file.index = omega (arith, next.some) in
    let some : 0 < file.left = omega (arith, c.if-self-eq0.false, c.in_ok-take_slot.ensures.left) in
    let read : Told (g.D.Disks.past old) (λ now. ReadsAt now (machine_of g.D.Disks mid) slot file.index (Err halt) bytes) =
    subst (λ (p : Option Past). Told p (λ now. ReadsAt now (machine_of g.D.Disks mid) slot file.index (Err halt) bytes)) same.same_past c.in_err-read_at.ensures.sector in
    let p = err_from_is_err_and c.from_residual-in_err-read_at.result c.from_residual-in_err-read_at.ensures.1 in
    rw (p.1, p.2)
    (told_both (g.D.Disks.past old)
    (λ now. KeepsRest (Ok tt) (rest_in now machine c.args.self.now) (rest_in now machine file))
    (λ now. ReadsAt now (machine_of g.D.Disks mid) slot file.index (Err halt) bytes)
    (λ now. Yields (Err halt) (rest_in now machine c.args.self.now) bytes (rest_in now machine file))
    (λ now kept lost.
    lost_yields now machine slot file.index (held_in file) file.left
    (λ wanted. reading_ahead now machine (slot_view file.first) wanted file.section) (rest_in now machine c.args.self.now) (rest_in now machine file) bytes halt kept more some
    (subst (λ m. ReadsAt now m slot file.index (Err halt) bytes) machines lost))
    c.in_ok-take_slot.ensures.rest read)

pub overflow_add-self : goal.overflow_add-self
overflow_add-self g c =
    let next = c.in_ok-take_slot.ensures.next in
    grind (arith, next.some, next.few)
