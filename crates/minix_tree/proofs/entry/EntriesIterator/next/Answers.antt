-- The next entry that isn't free.
use Rattle.std.proofs.Common.{sym, ◌∙◌, rules}
use Rattle.minix_layout.specs.View.{kind_view}
use Rattle.minix_tree.specs.Placed.{entry_view}
use Rattle.minix_tree.proofs.EntryLemmas.{passes_free, gives_used, none_left}
use Rattle.minix_tree.proofs.entry.EntriesIterator.next.Goals as goal

pub returns-then-entry-ne0-clause-steps : goal.returns-then-entry-ne0-clause-steps
returns-then-entry-ne0-clause-steps c =
    sym c.loop-self.invariant.passed
    ∙ gives_used (kind_view c.loop-self.self-inside.kind) c.loop-self.self-inside.block.now c.loop-self.self-inside.place c.loop-self.self-inside.end
    (entry_view c.entry_at-entry.result) c.loop-self-test.true c.entry_at-entry.ensures c.if-entry-ne0.true

pub returns-then-entry-ne0-clause-goes : goal.returns-then-entry-ne0-clause-goes
returns-then-entry-ne0-clause-goes c =
    rw (returns-then-entry-ne0-clause-steps c) (search rules)

pub loop-self-preserved : goal.loop-self-preserved
loop-self-preserved c = record {
  passed = sym (passes_free (kind_view c.loop-self.self-inside.kind) c.loop-self.self-inside.block.now c.loop-self.self-inside.place c.loop-self.self-inside.end
      (entry_view c.entry_at-entry.result) c.loop-self-test.true c.entry_at-entry.ensures c.if-entry-ne0.false) ∙ c.loop-self.invariant.passed;
  within = search rules;
  below = c.loop-self.invariant.below;
}

pub returns-clause-steps : goal.returns-clause-steps
returns-clause-steps c =
    let none = none_left (kind_view c.loop-self.self-inside.kind) c.loop-self.self-inside.block.now c.loop-self.self-inside.place c.loop-self.self-inside.end c.loop-self-test.false in
    (sym c.loop-self.invariant.passed ∙ none, none)
