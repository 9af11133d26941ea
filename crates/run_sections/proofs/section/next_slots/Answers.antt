-- One slot more is taken, until there are 63 or none is left.
use Rattle.std.proofs.Common.{◌≡◌, ◌≤◌, ◌∙◌, length, take, drop, sym, ap, subst, arith}
use Rattle.std.specs.Prelude.{All}
use Rattle.std.proofs.lemmas.List.Elements.{All-nil, All-push}
use Rattle.slot_lists.specs.Made.{IsWritable}
use Rattle.run_sections.proofs.LeftLemmas.{taken-none, taken-more, take-all}
use Rattle.run_sections.proofs.section.next_slots.Goals as goal

pub loop-zero-init : goal.loop-zero-init
loop-zero-init c = record {
  left = λ slots made. taken-none c.new-slots.result.items slots _ c.new-slots.ensures made;
  writable = subst (All IsWritable) (sym c.new-slots.ensures) (All-nil IsWritable);
}

pub loop-zero-preserved : goal.loop-zero-preserved
loop-zero-preserved c = record {
  left = λ slots made.
      let so = c.loop-zero.invariant.left slots made in
      taken-more c.loop-zero.slots.items c.push.new.self.items c.in-Some.slot slots _ _ so
      (c.in-Some.ensures.next (drop (length c.loop-zero.slots.items) slots) so.left) c.push.ensures.items;
  writable = subst (All IsWritable) (sym c.push.ensures.items)
      (All-push IsWritable c.loop-zero.slots.items c.in-Some.slot c.loop-zero.invariant.writable c.in-Some.ensures.writable);
}

pub returns-in-None-clause-slots : goal.returns-in-None-clause-slots
returns-in-None-clause-slots c slots made =
    let so = c.loop-zero.invariant.left slots made in
    let none = c.in-None.ensures.next (drop (length c.loop-zero.slots.items) slots) so.left in
    let few : length c.loop-zero.slots.items ≤ 63 = omega (arith, c.loop-zero-test.true, c.len.ensures.value) in
    so.first ∙ sym (take-all (length c.loop-zero.slots.items) 63 slots none.0 few)

pub returns-clause-slots : goal.returns-clause-slots
returns-clause-slots c slots made =
    let so = c.loop-zero.invariant.left slots made in
    let full : length c.loop-zero.slots.items ≡ 63 = omega (arith, c.loop-zero-test.false, c.len.ensures.value, c.len.ensures.fits) in
    so.first ∙ ap (λ n. take n slots) full
