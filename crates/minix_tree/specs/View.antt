-- Which plain value of the model each value of this crate stands for, and when an answer is the model's.
use Rattle.std.specs.Prelude.{◌≡◌, ◌≤◌, ℕ, true, Result, Ok, Err}
use Rattle.lilo_model.specs.Faults.{Rose}
use Rattle.disk_trait.specs.Past.{Told}
use Rattle.disk_trait.specs.declared.disks.Disks.{Ghosts}
use Rattle.lilo_model.specs.MinixLayout.{FitsInode, is_size, reach}
use Rattle.lilo_model.specs.MinixParts as parts
use Rattle.lilo_model.specs.MinixFind as model
use Rattle.minix_layout.specs.declared.superblock.Super.{Super}
use Rattle.minix_layout.specs.View.{kind_view, inode_view, layout_fault_view}
use Rattle.minix_zones.specs.declared.volume.Volume.{Volume}
use Rattle.minix_zones.specs.declared.zone_fault.ZoneFault.{ZoneFault}
use Rattle.minix_zones.specs.declared.zone_fault.ZoneFault.TheVariants as zones
use Rattle.minix_zones.specs.Volume.{volume_view, past_of}
use Rattle.minix_tree.specs.declared.stat.Stat.{Stat}
use Rattle.minix_tree.specs.declared.tree_fault.TreeFault.{TreeFault}
use Rattle.minix_tree.specs.declared.tree_fault.TreeFault.TheVariants as faults

-- a zone or an inode was refused as the model refuses it, or the disk failed
abbrev pub RefusesZone : {B : Type 0} → ZoneFault → Result B model.TreeFault → Type 0
RefusesZone (zones.Layout fault) found = found ≡ Err (model.Zone (parts.Layout (layout_fault_view fault)))
RefusesZone (zones.ZoneOutside zone) found = found ≡ Err (model.Zone (parts.ZoneOutside zone))
RefusesZone zones.Device found = Unit {0}

-- a reader was refused as the model refuses, or the disk failed, or there was no memory
abbrev pub Refuses : {B : Type 0} → TreeFault → Result B model.TreeFault → Type 0
Refuses (faults.NotFound position) found = found ≡ Err (model.NotFound position)
Refuses (faults.NotDirectory position) found = found ≡ Err (model.NotDirectory position)
Refuses faults.NotFile found = found ≡ Err model.NotFile
Refuses faults.TooManyLinks found = found ≡ Err model.TooManyLinks
Refuses (faults.BadEntry directory) found = found ≡ Err (model.BadEntry directory)
Refuses faults.PathTooLong found = found ≡ Err model.PathTooLong
Refuses (faults.Zone fault) found = RefusesZone fault found
Refuses faults.Memory found = Unit {0}

-- What a reader answered, seen by view, is what the model gives, unless the disk failed or there was no memory.
abbrev pub Gives : {A B : Type 0} → (A → B) → Result A TreeFault → Result B model.TreeFault → Type 0
Gives view (Ok value) found = found ≡ Ok (view value)
Gives view (Err fault) found = Refuses fault found

-- The cause of a refusal: where the disk failed, the count of faults rose.
abbrev pub HasFileCause : ℕ → ℕ → TreeFault → Type 0
HasFileCause before now (faults.NotFound position) = Unit {0}
HasFileCause before now (faults.NotDirectory position) = Unit {0}
HasFileCause before now faults.NotFile = Unit {0}
HasFileCause before now faults.TooManyLinks = Unit {0}
HasFileCause before now (faults.BadEntry directory) = Unit {0}
HasFileCause before now faults.PathTooLong = Unit {0}
HasFileCause before now (faults.Zone (zones.Layout fault)) = Unit {0}
HasFileCause before now (faults.Zone (zones.ZoneOutside zone)) = Unit {0}
HasFileCause before now (faults.Zone zones.Device) = Rose before now
HasFileCause before now faults.Memory = Unit {0}

-- The same of a call that takes no memory.
abbrev pub HasTreeCause : ℕ → ℕ → TreeFault → Type 0
HasTreeCause before now (faults.NotFound position) = Unit {0}
HasTreeCause before now (faults.NotDirectory position) = Unit {0}
HasTreeCause before now faults.NotFile = Unit {0}
HasTreeCause before now faults.TooManyLinks = Unit {0}
HasTreeCause before now (faults.BadEntry directory) = Unit {0}
HasTreeCause before now faults.PathTooLong = Unit {0}
HasTreeCause before now (faults.Zone (zones.Layout fault)) = Unit {0}
HasTreeCause before now (faults.Zone (zones.ZoneOutside zone)) = Unit {0}
HasTreeCause before now (faults.Zone zones.Device) = Rose before now
HasTreeCause before now faults.Memory = ⊥

-- an inode that a volume with this superblock can have, by its number, its size and the fields of its kind
pub record IsStat (layout : Super) (stat : Stat) : Type 0 where
  pub some : 1 ≤ stat.inode
  pub there : stat.inode ≤ layout.inodes
  pub sized : is_size (kind_view layout.kind) stat.node.size ≡ true
  pub reached : parts.blocks_for stat.node.size ≤ reach (kind_view layout.kind)
  pub fields : FitsInode (kind_view layout.kind) (inode_view stat.node)

-- it is the inode at its number now
abbrev pub IsNode : {D : Type 0} {disks : Ghosts D} → Volume D disks → Stat → Type 0
IsNode volume stat = Told (past_of volume) (λ now. inode_view stat.node ≡ (parts.parts_of (volume_view volume) now).node stat.inode)
