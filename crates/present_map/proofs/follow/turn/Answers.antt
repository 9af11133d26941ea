-- What is met along a section is what its reader's answers say.
use Rattle.std.proofs.Common.{◌≡◌, ◌<◌, ◌-◌, ℕ, List, refl, rules}
use Rattle.sector_address.specs.Machine.{machine_of}
use Rattle.sector_address.specs.View.{slot_view}
use Rattle.map_section.specs.Reader.{Sector, First, fed, turns_left}
use Rattle.present_map.proofs.FollowLemmas.{turn_slot, turn_fed, turn_done, turn_refused}
use Rattle.disk_trait.proofs.ToldLemmas.{told_all}
use Rattle.present_map.proofs.follow.turn.Goals as goal

pub returns-in-Ok-Slot-clause-met : goal.returns-in-Ok-Slot-clause-met
returns-in-Ok-Slot-clause-met g c =
    let old = c.args.following.now in
    let fewer : turns_left c.next.new.self < turns_left old.reader = search rules in
    let needed : c.next.new.self.needed ≡ old.reader.needed - c.in-Ok-Slot.slot.count = search rules in
    told_all _ _ (λ now.
    turn_slot now (machine_of g.D.Disks c.args.disks.now) (slot_view old.first) old.reader c.next.new.self (slot_view c.in-Ok-Slot.slot) c.meet_sectors.result
    c.args.met.now c.meet_sectors.new.met (rw c.in-Ok-Slot.field-0-is at c.in-Ok-Slot.ensures.answer) c.in-Ok-Slot.ensures.state fewer needed
    (rw c.requires.wanted at c.meet_sectors.ensures))

pub returns-in-Ok-Sector-clause-met : goal.returns-in-Ok-Sector-clause-met
returns-in-Ok-Sector-clause-met g c =
    let old = c.args.following.now in
    let needed : c.next.new.self.needed ≡ old.reader.needed = search rules in
    let fewer : (bytes : List ℕ) → turns_left (fed c.next.new.self bytes) < turns_left old.reader = search rules in
    turn_fed _ (machine_of g.D.Disks c.args.disks.now) (slot_view old.first) old.reader c.next.new.self c.feed.new.reader _ (Sector (slot_view c.in-Ok-Sector.link))
    c.args.met.now c.feed.new.met c.feed.result (rw c.in-Ok-Sector.field-0-is at c.in-Ok-Sector.ensures.answer) c.in-Ok-Sector.ensures.state
    (λ now. refl) needed fewer c.feed.ensures.fed c.feed.ensures.met

pub returns-in-Ok-First-clause-met : goal.returns-in-Ok-First-clause-met
returns-in-Ok-First-clause-met g c =
    let old = c.args.following.now in
    let needed : c.next.new.self.needed ≡ old.reader.needed = search rules in
    let fewer : (bytes : List ℕ) → turns_left (fed c.next.new.self bytes) < turns_left old.reader = search rules in
    turn_fed _ (machine_of g.D.Disks c.args.disks.now) (slot_view old.first) old.reader c.next.new.self c.feed-in-Ok-First.new.reader _ First
    c.args.met.now c.feed-in-Ok-First.new.met c.feed-in-Ok-First.result (rw c.in-Ok-First.field-0-is at c.in-Ok-First.ensures.answer) c.in-Ok-First.ensures.state
    (λ now. refl) needed fewer c.feed-in-Ok-First.ensures.fed c.feed-in-Ok-First.ensures.met

pub returns-in-Ok-Done-clause-met : goal.returns-in-Ok-Done-clause-met
returns-in-Ok-Done-clause-met g c =
    told_all _ _ (λ now. turn_done now (machine_of g.D.Disks c.args.disks.now) (slot_view c.args.following.now.first) c.args.following.now.reader c.args.met.now
    (rw c.in-Ok-Done.field-0-is at c.in-Ok-Done.ensures.answer))

pub returns-in-Err-clause-met : goal.returns-in-Err-clause-met
returns-in-Err-clause-met g c =
    told_all _ _ (λ now. turn_refused now (machine_of g.D.Disks c.args.disks.now) (slot_view c.args.following.now.first) c.args.following.now.reader c.args.met.now
    _ c.in-Err.ensures.answer)
