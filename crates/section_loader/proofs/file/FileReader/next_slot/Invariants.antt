-- What is to be read is the same from turn to turn.
use Rattle.std.proofs.Common.{◌≡◌, ◌≤◌}
use Rattle.disk_trait.specs.Past.{Told, SameDisks}
use Rattle.lilo_model.specs.Section.{sectors_for}
use Rattle.sector_address.specs.Machine.{machine_of}
use Rattle.sector_address.specs.View.{slot_view}
use Rattle.map_section.specs.Reader.{turns_left}
use Rattle.section_loader.specs.Reading.{reading_ahead}
use Rattle.section_loader.specs.File.{IsCounted}
use Rattle.section_loader.proofs.file.FileReader.next_slot.Given as goal

abbrev pub invariant-loop-slot : goal.invariant-loop-slot
invariant-loop-slot g l =
    let disks = g.D.Disks in
    let machine = machine_of disks l.fn.disks in
    let first = slot_view l.fn.self.first in
    let wanted = sectors_for l.fn.self.left in
    record {
      ahead : Told (disks.past l.fn.disks) (λ now. reading_ahead now machine first wanted l.fn.self.section ≡ reading_ahead now machine first wanted l.self.section);
      counted : IsCounted l.self;
      needed : l.self.section.needed ≡ l.fn.self.section.needed;
      left : l.self.left ≡ l.fn.self.left;
      first : l.self.first ≡ l.fn.self.first;
      slot : l.self.slot ≡ l.fn.self.slot;
      index : l.self.index ≡ l.fn.self.index;
      same : SameDisks disks.past disks.size_of disks.count_of disks.geometry_of l.fn.disks l.disks;
      later : disks.faults l.fn.disks ≤ disks.faults l.disks;
    }

abbrev pub decreases-loop-slot : goal.decreases-loop-slot
decreases-loop-slot g l = turns_left l.self.section
