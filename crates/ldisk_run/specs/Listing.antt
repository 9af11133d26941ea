-- A directory's listing, block by block.
use Rattle.std.specs.Prelude.{ℕ, List, [], ◌∷◌}
use Rattle.lilo_model.specs.Verdict.{Verdict}
use Rattle.lilo_model.specs.MinixLayout.{Super, Inode}
use Rattle.lilo_model.specs.MinixParts.{Parts}
use Rattle.lilo_model.specs.MinixEntries.{Entry}
use Rattle.lilo_model.specs.LdiskVerdict.{silent, checked, then_piece, entry_text}
use Rattle.minix_tree.specs.Directory.{block_entries}

-- the texts of some entries after what was printed before them
unfoldable pub lines_behind : Super → Parts → Verdict → List Entry → Verdict
lines_behind super parts before [] = before
lines_behind super parts before (entry ∷ entries) =
    lines_behind super parts (then_piece before (entry_text super parts entry)) entries

-- the texts of the entries of a block
unfoldable pub block_verdict : Super → Parts → Inode → ℕ → Verdict
block_verdict super parts inode index =
    checked (block_entries super parts inode index) (lines_behind super parts (silent 0))
