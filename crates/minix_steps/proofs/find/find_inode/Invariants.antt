use Rattle.std.proofs.Common.{◌≡◌, ◌≤◌, ◌<◌, ◌-◌, ℕ, false}
use Rattle.disk_trait.specs.Past.{Told}
use Rattle.minix_zones.specs.Volume.{volume_view, past_of, faults_of, SameVolume}
use Rattle.minix_steps.specs.Free.{is_free_on}
use Rattle.minix_steps.proofs.find.find_inode.Given as goal

-- no inode before is free
abbrev pub invariant-loop-at : goal.invariant-loop-at
invariant-loop-at g l = record {
  from : 1 ≤ l.at;
  order : l.at ≤ l.bitmap.end;
  none : Told (past_of l.fn.volume) (λ now. (m : ℕ) → 1 ≤ m → m < l.at
      → is_free_on (volume_view l.fn.volume) now l.bitmap l.avoid.numbers m ≡ false);
  later : faults_of l.fn.volume ≤ faults_of l.volume;
  same : SameVolume l.fn.volume l.volume;
}

abbrev pub decreases-loop-at : goal.decreases-loop-at
decreases-loop-at g l = l.bitmap.end - l.at
