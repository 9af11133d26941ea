-- The next slot is taken into the one that is held, or is held after it.
use Rattle.std.proofs.Common.{◌∙◌, ◌-◌, length, drop, refl, sym}
use Rattle.std.proofs.lemmas.List.Elements.{All-same, All-push, All-get_or, All-take, All-drop}
use Rattle.sector_address.specs.View.{geometry_view}
use Rattle.slot_lists.specs.Made.{one_geometry, IsWritable}
use Rattle.slot_lists.proofs.JoinLemmas.{rest-at, joined-takes, joined-pushes, longer-writable}
use Rattle.slot_lists.proofs.slots.joined.Goals as goal
use Rattle.slot_lists.proofs.slots.joined.Goals.{then-could_be_one, else-could_be_one+in_ok-push}

pub loop-next-preserved : goal.loop-next-preserved
loop-next-preserved c =
    let slots = c.args.slots.now in
    let at = rest-at slots _ c.loop-next.next-index _ refl c.loop-next-test.true in
    let machine = one_geometry (geometry_view c.args.geometry) in
    elim c.if-could_be_one.branch [
      | then-could_be_one w ↦
          let one = sym c.could_be_one.ensures ∙ w.if-could_be_one.true in
          record {
            joined = rw w.all-is (joined-takes machine c.loop-next.all.items slots c.loop-next.held _ c.loop-next.next-index _ at c.loop-next.invariant.joined c.if-could_be_one.held one w.held-is);
            writable = rw w.all-is c.loop-next.invariant.writable;
            held = longer-writable (geometry_view c.args.geometry) c.loop-next.held _ c.if-could_be_one.held one c.loop-next.invariant.held w.held-is;
          }
      | else-could_be_one+in_ok-push w ↦
          let one = sym c.could_be_one.ensures ∙ w.if-could_be_one.false in
          record {
            joined = rw (w.all-is, w.held-is) (joined-pushes machine c.loop-next.all.items slots c.loop-next.held _ c.loop-next.next-index _ at c.loop-next.invariant.joined _ one w.in_ok-push.ensures.items);
            writable = rw w.all-is (All-same IsWritable _ _ w.in_ok-push.ensures.items (All-push IsWritable c.loop-next.all.items c.loop-next.held c.loop-next.invariant.writable c.loop-next.invariant.held));
            held = rw w.held-is (All-get_or IsWritable _ c.loop-next.next-index _ c.loop-next-test.true (All-take IsWritable (length slots - 1) (drop 1 slots) (All-drop IsWritable 1 slots c.requires)));
          }
    ]
