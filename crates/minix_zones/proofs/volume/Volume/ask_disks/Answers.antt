use Rattle.std.proofs.Common.{◌+◌, ◌≤◌, refl, subst, sym}
use Rattle.disk_trait.specs.Calls.{SameOf}
use Rattle.minix_zones.specs.Sectors.{AreNow}
use Rattle.minix_zones.proofs.volume.Volume.ask_disks.Goals as goal

-- the disks are as before
same : (g : _) (c : goal.After-work g) → SameOf g.D.Disks c.args.self.now.disks.now c.work.new.arg2
same g c = c.requires.reads _ _ _ (record { shown = _; shows = refl; left = _; met = c.work.ensures; leaves = refl })

-- what is held is still so
pub invariant_of-self : goal.invariant_of-self
invariant_of-self g c =
    let volume = c.args.self.now in
    let same = same g c in
    record {
      on_disk = subst (λ size. volume.span.start + volume.span.count ≤ size volume.span.disk) (sym same.same_size) volume.on_disk;
      numbered = volume.numbered;
      whole = volume.whole;
      are_held = λ holds. subst (λ past. AreNow past volume.span.disk volume.held) (sym same.same_past) (volume.are_held holds);
    }

pub returns-clause-same : goal.returns-clause-same
returns-clause-same g c =
    let same = c.requires.reads _ _ _ (record { shown = _; shows = refl; left = _; met = c.work.ensures; leaves = refl }) in
    record {
      same_disks = record { same_past = same.same_past; same_size = same.same_size; same_count = same.same_count; same_geometry = same.same_geometry };
      same_span = refl;
      same_layout = refl;
      same_reference = refl;
    }
