-- One more entry.
use Rattle.std.proofs.Common.{arith}
use Rattle.minix_layout.specs.View.{kind_view}
use Rattle.minix_choice.proofs.DirectoryLemmas.{sees_one_more}
use Rattle.minix_choice.proofs.directory.look_in.Goals as goal

pub loop-at-preserved : goal.loop-at-preserved
loop-at-preserved c =
    sees_one_more (kind_view c.args.kind) c.args.block.now c.args.wish.now.directory c.args.wish.now.name.now c.args.taken.now.promises c.args.first c.loop-at.at c.args.seen.now c.loop-at.seen c.look_at.new.seen
    c.loop-at.invariant
    (λ entries many sees. c.look_at.ensures entries (omega (arith, many, c.from.ensures)) sees)
