-- What is found of a name in a block of a directory.
use Rattle.std.specs.Prelude.{ℕ, zero, suc, ◌*◌, min, List, Option, None, Some, Result, Ok}
use Rattle.lilo_model.specs.Checks.{◌>>=◌}
use Rattle.lilo_model.specs.MinixLayout.{Kind, Super, Inode}
use Rattle.lilo_model.specs.MinixParts.{Parts, ZoneFault, block_at}
use Rattle.lilo_model.specs.MinixEntries.{entry_in, named_inode, entries_per_block, places}
use Rattle.minix_tree.specs.Directory.{places_in}

-- what was found, or else the inode of a later entry
abbrev pub or_here : Kind → List ℕ → List ℕ → ℕ → Option ℕ → Option ℕ
or_here kind block name place (Some inode) = Some inode
or_here kind block name place None = named_inode name (entry_in kind block place)

-- the inode of the first entry of a name among the first places of a block
abbrev pub found_among : Kind → List ℕ → List ℕ → ℕ → Option ℕ
found_among kind block name zero = None
found_among kind block name (suc place) = or_here kind block name place (found_among kind block name place)

-- the same in a block of a directory, or the block's refusal
unfoldable pub found_in : Super → Parts → Inode → List ℕ → ℕ → Result (Option ℕ) ZoneFault
found_in super parts inode name index =
    block_at super parts inode index >>= λ block. Ok (found_among super.kind block name (places_in super.kind inode.size index))

-- how many places of a directory come before a block
abbrev pub places_before : Kind → ℕ → ℕ → ℕ
places_before kind size index = min (places kind size) (entries_per_block kind * index)
