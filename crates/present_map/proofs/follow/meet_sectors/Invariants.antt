-- Once what is listed from here on is met, all of it is.
use Rattle.std.proofs.Common.{◌≤◌, ◌-◌, min}
use Rattle.lilo_model.specs.Section.{Listing}
use Rattle.map_section.specs.Run.{listed_slot}
use Rattle.sector_address.specs.Machine.{machine_of}
use Rattle.sector_address.specs.View.{slot_view}
use Rattle.present_map.specs.Zones.{Met, MeetsListing}
use Rattle.present_map.proofs.follow.meet_sectors.Given as goal

abbrev pub invariant-loop-index : goal.invariant-loop-index
invariant-loop-index g l =
    let machine = machine_of g.D.Disks l.disks in
    let count = min l.slot.count l.wanted in
    record {
      met : (behind : Listing) (end : Met)
          → MeetsListing l.met end (listed_slot machine (slot_view l.slot) l.index (count - l.index) behind)
          → MeetsListing l.fn.met end (listed_slot machine (slot_view l.slot) 0 count behind);
      within : l.index ≤ count;
    }
