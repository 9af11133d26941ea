-- A place that is too far.
use Rattle.std.proofs.Common.{arith}
use Rattle.write_model.specs.Places.{is_promised}
use Rattle.minix_choice.proofs.GrowthLemmas.{none_behind}
use Rattle.minix_choice.proofs.taken.Taken.place_behind.Goals as goal

pub returns-then-place-most : goal.returns-then-place-most
returns-then-place-most c =
    none_behind (is_promised c.args.self.now.promises c.args.directory) c.loop-left.place c.loop-left.left c.args.most _ (omega arith) c.loop-left.invariant
