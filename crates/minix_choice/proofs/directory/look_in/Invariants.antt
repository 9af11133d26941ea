use Rattle.std.proofs.Common.{◌≡◌, ◌++◌, List, length}
use Rattle.lilo_model.specs.MinixEntries.{Entry}
use Rattle.minix_layout.specs.View.{kind_view}
use Rattle.minix_choice.specs.Directory.{first_entries, Sees}
use Rattle.minix_choice.proofs.directory.look_in.Given as goal

-- the entries so far
abbrev pub invariant-loop-at : goal.invariant-loop-at
invariant-loop-at l = (entries : List Entry) → length entries ≡ l.first
    → Sees l.wish.directory l.wish.name.now l.taken.promises entries l.fn.seen
    → Sees l.wish.directory l.wish.name.now l.taken.promises (entries ++ first_entries (kind_view l.kind) l.block l.at) l.seen
