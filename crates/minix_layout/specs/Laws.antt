-- What was written is read again.
use Rattle.std.specs.Prelude.{◌≡◌, ℕ, true, List, length, Ok}
use Rattle.lilo_model.specs.MinixLayout.{Kind, Super, Inode, IsSuper, FitsInode, is_size, super_at, super_bytes, inode_at, inode_bytes, kept_inode}

-- a sector with the fields of a superblock has that superblock, whatever the sector had
abbrev pub SuperLaw : Type 0
SuperLaw =
    (super : Super) (sectors : ℕ) (bytes : List ℕ) → IsSuper super sectors → length bytes ≡ 512
    → super_at (super_bytes super bytes) sectors ≡ Ok super

-- the bytes of an inode have what is kept of it
abbrev pub InodeLaw : Type 0
InodeLaw =
    (kind : Kind) (inode : Inode) → FitsInode kind inode → is_size kind inode.size ≡ true
    → inode_at kind (inode_bytes kind inode) ≡ Ok (kept_inode kind inode)

-- an inode that was read is kept whole
abbrev pub KeptLaw : Type 0
KeptLaw =
    (kind : Kind) (bytes : List ℕ) (inode : Inode) → inode_at kind bytes ≡ Ok inode
    → kept_inode kind inode ≡ inode
