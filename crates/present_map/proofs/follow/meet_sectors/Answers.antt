-- Sector by sector.
use Rattle.std.proofs.Common.{◌<◌, ◌≤◌, min, arith, rules}
use Rattle.sector_address.specs.Machine.{machine_of}
use Rattle.sector_address.specs.View.{slot_view}
use Rattle.slot_lists.specs.Made.{place_view}
use Rattle.present_map.proofs.FollowLemmas.{meets_next, meets_lost, meets_end}
use Rattle.present_map.proofs.follow.meet_sectors.Goals as goal

pub returns-in-None : goal.returns-in-None
returns-in-None g c = λ behind.
    let machine = machine_of g.D.Disks c.args.disks.now in
    let count = min c.args.slot.now.count c.args.wanted in
    let more : c.loop-index.index < count = search rules in
    c.loop-index.invariant.met behind c.loop-index.met
    (meets_lost c.loop-index.met machine (slot_view c.args.slot.now) c.loop-index.index count behind more c.in-None.ensures.place)

pub loop-index-preserved : goal.loop-index-preserved
loop-index-preserved g c =
    let machine = machine_of g.D.Disks c.args.disks.now in
    let count = min c.args.slot.now.count c.args.wanted in
    let more : c.loop-index.index < count = search rules in
    record {
      met = λ behind end rest.
          c.loop-index.invariant.met behind end
          (meets_next c.loop-index.met c.meet.new.self end machine (slot_view c.args.slot.now) c.loop-index.index count behind
          (place_view c.in-Some.place) more c.in-Some.ensures.place c.meet.ensures rest);
      within = omega arith;
    }

pub returns : goal.returns
returns g c = λ behind end rest.
    let machine = machine_of g.D.Disks c.args.disks.now in
    let count = min c.args.slot.now.count c.args.wanted in
    let past : count ≤ c.loop-index.index = search rules in
    c.loop-index.invariant.met behind end
    (meets_end c.loop-index.met end machine (slot_view c.args.slot.now) c.loop-index.index count behind past rest)
