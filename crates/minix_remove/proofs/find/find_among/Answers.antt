-- The first entry of the name.
use Rattle.std.proofs.Common.{sym, ap, ◌+◌, arith}
use Rattle.minix_layout.specs.View.{kind_view}
use Rattle.minix_tree.specs.Placed.{entry_view}
use Rattle.minix_tree.proofs.FindLemmas.{found_here}
use Rattle.minix_remove.proofs.FindLemmas.{among}
use Rattle.minix_remove.proofs.find.find_among.Goals as goal

pub returns-then-eq-clause-found : goal.returns-then-eq-clause-found
returns-then-eq-clause-found c =
    found_here (kind_view c.args.kind) c.args.block.now c.args.name.now c.loop-at.at c.args.count (entry_view c.entry_at-entry.result)
    c.loop-at-test.true c.loop-at.invariant c.entry_at-entry.ensures c.if-entry-ne0.true (sym c.if-eq.ensures)

pub returns-then-eq-clause-place : goal.returns-then-eq-clause-place
returns-then-eq-clause-place c =
    among (kind_view c.args.kind) c.args.block.now c.args.name.now c.args.first c.args.count c.loop-at.at (c.args.first + c.from.result) (entry_view c.entry_at-entry.result)
    c.loop-at-test.true (ap (λ n. c.args.first + n) c.from.ensures) c.entry_at-entry.ensures (let some = c.if-entry-ne0.true in omega (arith, some)) (sym c.if-eq.ensures)
