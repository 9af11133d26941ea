-- Names are slices of the block.
use Rattle.std.proofs.Common.{◌-◌, arith}
use Rattle.minix_layout.specs.View.{kind_view}
use Rattle.minix_tree.proofs.EntryLemmas.{slices, insides}
use Rattle.minix_tree.proofs.entry.entries_among.Goals as goal

pub returns-clause-slices : goal.returns-clause-slices
returns-clause-slices c = slices (kind_view c.args.kind) c.args.block.now 0 (c.args.count - 0)

pub returns-clause-inside : goal.returns-clause-inside
returns-clause-inside c = insides (kind_view c.args.kind) c.args.block.now 0 (c.args.count - 0) (omega (arith, c.requires))
