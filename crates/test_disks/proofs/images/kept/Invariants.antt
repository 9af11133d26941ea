use Rattle.std.proofs.Common.{◌≡◌, map}
use Rattle.std.specs.List.{range_with_len}
use Rattle.test_disks.specs.Kept.{is_kept}
use Rattle.test_disks.proofs.images.kept.Given as goal

-- the writes so far
abbrev pub invariant-loop-at : goal.invariant-loop-at
invariant-loop-at l = l.keep.items ≡ map (is_kept l.choice l.count) (range_with_len 0 l.at)
