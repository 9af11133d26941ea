use Rattle.std.proofs.Common.{◌≡◌, ◌≤◌, ◌-◌}
use Rattle.lilo_model.specs.MinixEntries.{entries_per_block}
use Rattle.minix_layout.specs.View.{kind_view}
use Rattle.minix_tree.specs.Placed.{placed_from}
use Rattle.minix_tree.proofs.entry.EntriesIterator.next.Given as goal

-- only free entries were passed
abbrev pub invariant-loop-self : goal.invariant-loop-self
invariant-loop-self l = record {
  passed : placed_from (kind_view l.self-inside.kind) l.self-inside.block.now l.self-inside.place (l.self-inside.end - l.self-inside.place) ≡ l.fn.self;
  within : l.self-inside.place ≤ l.self-inside.end;
  below : l.self-inside.end ≤ entries_per_block (kind_view l.self-inside.kind);
}

abbrev pub decreases-loop-self : goal.decreases-loop-self
decreases-loop-self l = l.self-inside.end - l.self-inside.place
