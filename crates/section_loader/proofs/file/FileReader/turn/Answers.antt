-- What is read from a reader's place on is what its answer says.
use Rattle.std.proofs.Common.{◌∙◌, ap, sym, Some}
use Rattle.lilo_model.specs.Section.{sectors_for}
use Rattle.sector_address.specs.Machine.{machine_of}
use Rattle.sector_address.specs.View.{slot_view}
use Rattle.section_loader.specs.Reading.{ended_reading}
use Rattle.section_loader.proofs.ReadingLemmas.{ahead_by}
use Rattle.section_loader.proofs.FileLemmas.{fed_turn}
use Rattle.disk_trait.proofs.ToldLemmas.{told_all, told_map}
use Rattle.section_loader.proofs.file.FileReader.turn.Goals as goal

pub returns-in-Ok-Slot-clause-turn : goal.returns-in-Ok-Slot-clause-turn
returns-in-Ok-Slot-clause-turn g c = told_all _ _ (λ now.
    ahead_by now _ (slot_view c.args.self.now.first) (sectors_for c.args.self.now.left) c.args.self.now.section
    c.next.new.self _ (rw c.in-Ok-Slot.field-0-is at c.in-Ok-Slot.ensures.answer) c.in-Ok-Slot.ensures.state)

pub returns-in-Err-clause-turn : goal.returns-in-Err-clause-turn
returns-in-Err-clause-turn g c = told_all _ _ (λ now.
    ahead_by now _ (slot_view c.args.self.now.first) (sectors_for c.args.self.now.left) c.args.self.now.section
    c.next.new.self _ c.in-Err.ensures.answer c.in-Err.ensures.state
    ∙ ap (λ reason. ended_reading (Some reason)) (sym c.reason_of.ensures))

pub returns-in-Ok-Sector-clause-turn : goal.returns-in-Ok-Sector-clause-turn
returns-in-Ok-Sector-clause-turn g c = told_map _ _ _
    (λ now found. fed_turn now (machine_of g.D.Disks c.args.disks.now) (slot_view c.args.self.now.first) (sectors_for c.args.self.now.left) c.args.self.now.section c.next.new.self c.feed.new.self.section (slot_view c.in-Ok-Sector.link) c.feed.result
    (ahead_by now _ (slot_view c.args.self.now.first) (sectors_for c.args.self.now.left) c.args.self.now.section
    c.next.new.self _ (rw c.in-Ok-Sector.field-0-is at c.in-Ok-Sector.ensures.answer) c.in-Ok-Sector.ensures.state)
    (λ slot is. let fed = rw is at c.feed.ensures.fed in cc)
    found)
    c.feed.ensures.found

pub returns-in-Ok-First-clause-turn : goal.returns-in-Ok-First-clause-turn
returns-in-Ok-First-clause-turn g c = told_map _ _ _
    (λ now found. fed_turn now (machine_of g.D.Disks c.args.disks.now) (slot_view c.args.self.now.first) (sectors_for c.args.self.now.left) c.args.self.now.section c.next.new.self c.feed-in-Ok-First.new.self.section (slot_view c.args.self.now.first) c.feed-in-Ok-First.result
    (ahead_by now _ (slot_view c.args.self.now.first) (sectors_for c.args.self.now.left) c.args.self.now.section
    c.next.new.self _ (rw c.in-Ok-First.field-0-is at c.in-Ok-First.ensures.answer) c.in-Ok-First.ensures.state)
    (λ slot is. let fed = rw is at c.feed-in-Ok-First.ensures.fed in cc)
    found)
    c.feed-in-Ok-First.ensures.found
