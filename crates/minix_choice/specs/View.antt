-- Which plain value of the model each value of this crate stands for, and when an answer is the model's.
use Rattle.std.specs.Prelude.{◌≡◌, ℕ, List, Result, Ok, Err}
use Rattle.lilo_model.specs.Faults.{Rose}
use Rattle.lilo_model.specs.MinixFind as finds
use Rattle.lilo_model.specs.MinixParts as parts
use Rattle.minix_layout.specs.View.{layout_fault_view}
use Rattle.minix_zones.specs.declared.zone_fault.ZoneFault.{ZoneFault}
use Rattle.minix_zones.specs.declared.zone_fault.ZoneFault.TheVariants as zones
use Rattle.minix_tree.specs.declared.tree_fault.TreeFault.{TreeFault}
use Rattle.minix_tree.specs.declared.tree_fault.TreeFault.TheVariants as trees
use Rattle.minix_steps.specs.Numbers.{Numbers, has_number}
use Rattle.minix_steps.specs.declared.bit_fault.BitFault.{BitFault}
use Rattle.minix_steps.specs.declared.bit_fault.BitFault.TheVariants as bits
use Rattle.write_model.specs.Wish as model
use Rattle.minix_choice.specs.declared.wish.Wish.{Wish}
use Rattle.minix_choice.specs.declared.write_fault.WriteFault.{WriteFault}
use Rattle.minix_choice.specs.declared.write_fault.WriteFault.TheVariants as faults

-- a wish
abbrev pub wish_view : Wish → model.Wish
wish_view wish = record {
  mode = wish.mode;
  length = wish.length;
  holes = wish.holes.now;
  time = wish.time;
  directory = wish.directory;
  name = wish.name.now;
}

-- what a Taken is to a contract
pub record Promised : Type 0 where
  pub zones : Numbers
  pub inodes : Numbers
  pub promises : List model.Promise
  pub overlooked : List model.Overlooked

-- what is taken
abbrev pub taken_view : Promised → model.Taken
taken_view taken = record {
  has_zone = has_number taken.zones.numbers;
  has_inode = has_number taken.inodes.numbers;
  promises = taken.promises;
  overlooked = taken.overlooked;
}

-- the refusal of a zone, as one of a file
abbrev pub zone_refusal : ZoneFault → WriteFault
zone_refusal (zones.Layout fault) = faults.Tree (trees.Zone (zones.Layout fault))
zone_refusal (zones.ZoneOutside zone) = faults.Tree (trees.Zone (zones.ZoneOutside zone))
zone_refusal zones.Device = faults.Device

-- that of an inode
abbrev pub tree_refusal : TreeFault → WriteFault
tree_refusal (trees.NotFound position) = faults.Tree (trees.NotFound position)
tree_refusal (trees.NotDirectory position) = faults.Tree (trees.NotDirectory position)
tree_refusal trees.NotFile = faults.Tree trees.NotFile
tree_refusal trees.TooManyLinks = faults.Tree trees.TooManyLinks
tree_refusal (trees.BadEntry directory) = faults.Tree (trees.BadEntry directory)
tree_refusal trees.PathTooLong = faults.Tree trees.PathTooLong
tree_refusal (trees.Zone fault) = zone_refusal fault
tree_refusal trees.Memory = faults.Memory

-- that of a bitmap
abbrev pub bit_refusal : BitFault → WriteFault
bit_refusal (bits.NoSpace need found) = faults.NoSpace need found
bit_refusal bits.Device = faults.Device
bit_refusal bits.Memory = faults.Memory

-- a zone or an inode was refused as the model refuses it
abbrev pub RefusesZone : {B : Type 0} → ZoneFault → Result B model.Refusal → Type 0
RefusesZone (zones.Layout fault) found = found ≡ Err (model.Tree (finds.Zone (parts.Layout (layout_fault_view fault))))
RefusesZone (zones.ZoneOutside zone) found = found ≡ Err (model.Tree (finds.Zone (parts.ZoneOutside zone)))
RefusesZone zones.Device found = ⊥

-- no other refusal comes of a directory whose inode is known
abbrev pub RefusesTree : {B : Type 0} → TreeFault → Result B model.Refusal → Type 0
RefusesTree (trees.NotFound position) found = ⊥
RefusesTree (trees.NotDirectory position) found = ⊥
RefusesTree trees.NotFile found = ⊥
RefusesTree trees.TooManyLinks found = ⊥
RefusesTree (trees.BadEntry directory) found = ⊥
RefusesTree trees.PathTooLong found = ⊥
RefusesTree (trees.Zone fault) found = RefusesZone fault found
RefusesTree trees.Memory found = ⊥

-- it was refused as the model refuses, or the disk failed, or there was no memory
abbrev pub Refuses : {B : Type 0} → WriteFault → Result B model.Refusal → Type 0
Refuses (faults.NoSpace need short) found = found ≡ Err (model.NoSpace need short)
Refuses faults.NoInode found = found ≡ Err model.NoInode
Refuses faults.NameTooLong found = found ≡ Err model.NameTooLong
Refuses faults.Exists found = found ≡ Err model.Exists
Refuses faults.Links found = ⊥
Refuses (faults.Tree fault) found = RefusesTree fault found
Refuses faults.Device found = Unit {0}
Refuses faults.Memory found = Unit {0}

-- What was answered, seen by view, is what the model gives, unless the disk failed or there was no memory.
abbrev pub Gives : {A B : Type 0} → (A → B) → Result A WriteFault → Result B model.Refusal → Type 0
Gives view (Ok value) found = found ≡ Ok (view value)
Gives view (Err fault) found = Refuses fault found

-- The cause of a refusal: where the disk failed, the count of faults rose.
abbrev pub HasWriteCause : ℕ → ℕ → WriteFault → Type 0
HasWriteCause before now (faults.NoSpace need found) = Unit {0}
HasWriteCause before now faults.NoInode = Unit {0}
HasWriteCause before now faults.NameTooLong = Unit {0}
HasWriteCause before now faults.Exists = Unit {0}
HasWriteCause before now faults.Links = Unit {0}
HasWriteCause before now (faults.Tree fault) = Unit {0}
HasWriteCause before now faults.Device = Rose before now
HasWriteCause before now faults.Memory = Unit {0}
