-- A directory's entries are those of its blocks.
use Rattle.std.specs.Prelude.{◌≡◌}
use Rattle.lilo_model.specs.MinixLayout.{Super, Inode}
use Rattle.lilo_model.specs.MinixParts.{Parts}
use Rattle.lilo_model.specs.MinixEntries.{entries_at}
use Rattle.minix_tree.specs.Directory.{entries_before, directory_blocks}

-- the entries of all blocks, one after the other, are those of the directory
abbrev pub DirectoryLaw : Type 0
DirectoryLaw =
    (super : Super) (parts : Parts) (inode : Inode)
    → entries_at super parts inode ≡ entries_before super parts inode (directory_blocks super.kind inode.size)
