-- Slot by slot.
use Rattle.std.proofs.Common.{◌≡◌, ◌≤◌, [], drop, length, rules}
use Rattle.std.proofs.Math.ListN.{drop_of_length-le}
use Rattle.sector_address.specs.Machine.{machine_of}
use Rattle.slot_lists.specs.Made.{place_view}
use Rattle.present_map.proofs.ZonesLemmas.{meets_none}
use Rattle.present_map.proofs.MapLemmas.{slot_next, slot_lost, slot_ok, slot_err}
use Rattle.present_map.proofs.map.meet_slots.Goals as goal

pub returns-in-None-clause-met : goal.returns-in-None-clause-met
returns-in-None-clause-met g c =
    c.loop-slot.invariant.met c.loop-slot.met
    (slot_lost (machine_of g.D.Disks c.args.disks.now) c.args.slots.now c.loop-slot.slot-index _ c.loop-slot.met c.loop-slot-test.true c.in-None.ensures.place)

pub loop-slot-preserved : goal.loop-slot-preserved
loop-slot-preserved g c =
    let machine = machine_of g.D.Disks c.args.disks.now in
    let slots = c.args.slots.now in
    let index = c.loop-slot.slot-index in
    let below = c.loop-slot-test.true in
    let place = place_view c.in-Some.place in
    let is = c.in-Some.ensures.place in
    record {
      met = λ end others. c.loop-slot.invariant.met end (slot_next machine slots index _ c.loop-slot.met c.meet.new.self end place below is c.meet.ensures others);
      there = λ others. c.loop-slot.invariant.there (slot_ok machine slots index _ place below is others);
      lost = λ others. c.loop-slot.invariant.lost (slot_err machine slots index _ place below is others);
    }

pub returns-clause-met : goal.returns-clause-met
returns-clause-met g c =
    let past : length c.args.slots.now ≤ c.loop-slot.slot-index = search rules in
    let none : drop c.loop-slot.slot-index c.args.slots.now ≡ [] = drop_of_length-le c.args.slots.now past in
    c.loop-slot.invariant.met c.loop-slot.met (rw none (meets_none c.loop-slot.met))
