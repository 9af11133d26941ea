use Rattle.std.proofs.Common.{◌≡◌, None}
use Rattle.minix_layout.specs.View.{kind_view}
use Rattle.minix_tree.specs.Found.{found_among}
use Rattle.minix_remove.proofs.find.find_among.Given as goal

-- none so far has the name
abbrev pub invariant-loop-at : goal.invariant-loop-at
invariant-loop-at l = found_among (kind_view l.kind) l.block l.name l.at ≡ None
