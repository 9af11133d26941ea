use Rattle.std.proofs.Common.{◌≡◌, ◌≤◌, ◌<◌, ℕ, take, slice_index}
use Rattle.disk_trait.specs.Past.{Image}
use Rattle.disk_trait.specs.NotWritten.{NotWritten}
use Rattle.disk_trait.specs.Moments.{IsTold, now, MayLeave, LeavesOnly}
use Rattle.disk_example.specs.Example.{filled, IsNoneOf}
use Rattle.disk_example.proofs.fill.Given as goal

abbrev pub invariant-loop-place : goal.invariant-loop-place
invariant-loop-place g l = record {
  later : g.D.Disks.faults l.fn.disks ≤ g.D.Disks.faults l.disks;
  size : g.D.Disks.size_of l.disks ≡ g.D.Disks.size_of l.fn.disks;
  told : IsTold (g.D.Disks.past l.fn.disks) → IsTold (g.D.Disks.past l.disks);
  in_range : (k : ℕ) → k < l.place-index → slice_index l.places k < g.D.Disks.size_of l.fn.disks l.disk;
  so_far : IsTold (g.D.Disks.past l.fn.disks) → now (g.D.Disks.past l.disks) ≡ filled l.disk (take l.place-index l.places) l.from (now (g.D.Disks.past l.fn.disks));
  others : (d s : ℕ) → IsNoneOf l.disk l.places d s → NotWritten (g.D.Disks.past l.fn.disks) (g.D.Disks.past l.disks) d s;
  left : (c : Image) → MayLeave (g.D.Disks.past l.disks) c → g.B.Boot.boots c ≡ g.B.Boot.boots (now (g.D.Disks.past l.fn.disks));
  any_moment : LeavesOnly (g.D.Disks.past l.fn.disks) (g.D.Disks.past l.disks) (λ c. g.B.Boot.boots c ≡ g.B.Boot.boots (now (g.D.Disks.past l.fn.disks)));
}
