-- A choice that suits a wish, whatever the disks hold.
use Rattle.std.specs.Prelude.{◌≡◌, ◌≤◌, ℕ, Bool, List, length, All}
use Rattle.lilo_model.specs.MinixLayout.{Kind, name_size}
use Rattle.minix_layout.specs.View.{kind_view}
use Rattle.minix_layout.specs.declared.superblock.Super.{Super}
use Rattle.minix_zones.specs.View.{IsDataZone}
use Rattle.write_model.specs.Choice.{Choice, indirect_zones}
use Rattle.write_model.specs.FileZones.{data_blocks, given}
use Rattle.minix_choice.specs.declared.wish.Wish.{Wish}

-- its zones are given to a file's blocks and to its indirect zones
pub record IsFileOf (kind : Kind) (blocks : List Bool) (choice : Choice) : Type 0 where
  pub blocks_are : choice.blocks ≡ given blocks choice.zones
  pub indirect_are : choice.indirect ≡ indirect_zones kind blocks choice.zones

-- the name is short enough, the inode and the zones are some that the volume has
pub record SuitsWish (layout : Super) (wish : Wish) (choice : Choice) : Type 0 where
  pub short : length wish.name.now ≤ name_size (kind_view layout.kind)
  pub some : 1 ≤ choice.inode
  pub there : choice.inode ≤ layout.inodes
  pub are_data : All (IsDataZone layout) choice.zones
  pub file : IsFileOf (kind_view layout.kind) (data_blocks wish.length wish.holes.now) choice
