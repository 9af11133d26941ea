use Rattle.std.proofs.Common.{◌≡◌, length}
use Rattle.write_model.specs.Places.{is_promised, first_from}
use Rattle.minix_choice.proofs.taken.Taken.place_behind.Given as goal

-- each place so far was promised
abbrev pub invariant-loop-left : goal.invariant-loop-left
invariant-loop-left l =
    first_from (is_promised l.self.promises l.directory) l.place l.left
    ≡ first_from (is_promised l.self.promises l.directory) l.has (length l.self.promises)

abbrev pub decreases-loop-left : goal.decreases-loop-left
decreases-loop-left l = l.left
