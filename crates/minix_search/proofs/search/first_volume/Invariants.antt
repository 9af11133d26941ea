-- Where the search of all disks ends is where that of those that are left does.
use Rattle.std.proofs.Common.{◌≡◌, ◌≤◌, drop, ◌∷◌, []}
use Rattle.std.specs.Prelude.{find}
use Rattle.disk_trait.specs.Past.{Told}
use Rattle.disk_trait.specs.Calls.{SameOf}
use Rattle.sector_address.specs.Machine.{machine_of}
use Rattle.lilo_model.specs.VolumeSearch.{searched, ends_search}
use Rattle.minix_search.proofs.search.first_volume.Given as goal

abbrev pub invariant-loop-disk : goal.invariant-loop-disk
invariant-loop-disk g l =
    let disks = g.D.Disks in
    let machine = machine_of disks l.fn.disks in
    record {
      left :
          Told (disks.past l.fn.disks) (λ now. find (ends_search now) (searched now machine (0 ∷ 1 ∷ 2 ∷ 3 ∷ []))
          ≡ find (ends_search now) (searched now machine (drop l.disk (0 ∷ 1 ∷ 2 ∷ 3 ∷ []))));
      same : SameOf disks l.fn.disks l.disks;
      later : disks.faults l.fn.disks ≤ disks.faults l.disks;
    }
