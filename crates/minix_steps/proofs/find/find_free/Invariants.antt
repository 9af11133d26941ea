use Rattle.std.proofs.Common.{◌≡◌, ◌≤◌, ◌+◌, ◌-◌, length, take}
use Rattle.std.specs.Prelude.{All}
use Rattle.disk_trait.specs.Past.{Told}
use Rattle.minix_zones.specs.Volume.{volume_view, past_of, faults_of, SameVolume}
use Rattle.minix_steps.specs.Bitmap.{IsNumberOf}
use Rattle.minix_steps.specs.Free.{is_free_on, free_from}
use Rattle.minix_steps.proofs.find.find_free.Given as goal

-- the zones so far
abbrev pub invariant-loop-at : goal.invariant-loop-at
invariant-loop-at g l = record {
  from : l.bitmap.origin + 1 ≤ l.at;
  order : l.at ≤ l.bitmap.end;
  taken : Told (past_of l.fn.volume) (λ now. l.found.items
      ≡ take l.need (free_from (is_free_on (volume_view l.fn.volume) now l.bitmap l.avoid.numbers) (l.bitmap.origin + 1) (l.at - (l.bitmap.origin + 1))));
  few : length l.found.items ≤ l.need;
  inside : All (IsNumberOf l.bitmap) l.found.items;
  later : faults_of l.fn.volume ≤ faults_of l.volume;
  same : SameVolume l.fn.volume l.volume;
}

abbrev pub decreases-loop-at : goal.decreases-loop-at
decreases-loop-at g l = l.bitmap.end - l.at
