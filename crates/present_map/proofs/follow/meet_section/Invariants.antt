-- What was met so far, and what is ahead, are the whole section.
use Rattle.std.proofs.Common.{◌≡◌, ◌≤◌, suc, if◌then◌else◌}
use Rattle.disk_trait.specs.Past.{Told, SameDisks}
use Rattle.lilo_model.specs.Section.{section}
use Rattle.sector_address.specs.Machine.{machine_of}
use Rattle.sector_address.specs.View.{slot_view}
use Rattle.map_section.specs.Reader.{turns_left}
use Rattle.present_map.specs.Follow.{MeetsOn, ahead_of, IsCounted}
use Rattle.present_map.proofs.follow.meet_section.Given as goal

abbrev pub invariant-loop-goes_on : goal.invariant-loop-goes_on
invariant-loop-goes_on g l =
    let disks = g.D.Disks in
    let machine = machine_of disks l.fn.disks in
    record {
      met : Told (disks.past l.fn.disks) (λ now. MeetsOn l.goes_on l.fn.met l.met (ahead_of now machine l.following)
          (section now machine (slot_view l.fn.first) l.fn.sectors l.fn.chain));
      counted : IsCounted l.following;
      first : l.following.first ≡ l.fn.first;
      same : SameDisks disks.past disks.size_of disks.count_of disks.geometry_of l.fn.disks l.disks;
      later : disks.faults l.fn.disks ≤ disks.faults l.disks;
    }

abbrev pub decreases-loop-goes_on : goal.decreases-loop-goes_on
decreases-loop-goes_on g l = if l.goes_on then suc (turns_left l.following.reader) else 0
