-- Each slot is made in turn.
use Rattle.std.proofs.Common.{◌≡◌, Err, sym, rules}
use Rattle.std.proofs.lemmas.List.Elements.{All-same, All-push}
use Rattle.slot_lists.specs.declared.slots.CompactFault.TheVariants.{Address}
use Rattle.slot_lists.specs.Made.{IsWritable}
use Rattle.slot_lists.proofs.MadeLemmas.{made-more, made-stops}
use Rattle.slot_lists.proofs.slots.plain_slots.Goals as goal

pub returns-in_err-slot-clause-refused : goal.returns-in_err-slot-clause-refused
returns-in_err-slot-clause-refused c =
    let given : c.from_residual.result ≡ Err (Address (c.in_err-slot.field-0.0)) = search rules in
    rw given
    (made-stops _ _ c.args.places.now c.loop-place.place-index _ c.loop-place.slots.items c.loop-place-test.true c.loop-place.invariant.made _ (sym c.in_err-slot.ensures.made))

pub loop-place-preserved : goal.loop-place-preserved
loop-place-preserved c = record {
  made =
      made-more _ _ c.args.places.now c.loop-place.place-index _ c.loop-place.slots.items c.loop-place-test.true c.loop-place.invariant.made
      c.in_ok-slot.slot c.push.new.self.items (sym c.in_ok-slot.ensures.made) c.in_ok-push.ensures.items;
  writable =
      All-same IsWritable c.push.new.self.items _ c.in_ok-push.ensures.items
      (All-push IsWritable c.loop-place.slots.items c.in_ok-slot.slot c.loop-place.invariant.writable c.in_ok-slot.ensures.whole);
}
