-- Which plain value of the model each value of this crate stands for.
use Rattle.lilo_model.specs.MinixLayout as model
use Rattle.minix_layout.specs.declared.kind.FsKind.{FsKind}
use Rattle.minix_layout.specs.declared.kind.FsKind.TheVariants as kinds
use Rattle.minix_layout.specs.declared.layout_fault.SizeField.{SizeField}
use Rattle.minix_layout.specs.declared.layout_fault.SizeField.TheVariants as fields
use Rattle.minix_layout.specs.declared.layout_fault.LayoutFault.{LayoutFault}
use Rattle.minix_layout.specs.declared.layout_fault.LayoutFault.TheVariants as faults
use Rattle.minix_layout.specs.declared.superblock.Super.{Super}
use Rattle.minix_layout.specs.declared.inode.Inode.{Inode}
use Rattle.minix_layout.specs.declared.place.Place.{Place}

-- a kind
abbrev pub kind_view : FsKind → model.Kind
kind_view kinds.V1Short = model.V1Short
kind_view kinds.V1Long = model.V1Long
kind_view kinds.V2Short = model.V2Short
kind_view kinds.V2Long = model.V2Long

-- a field that is out of its range
abbrev pub field_view : SizeField → model.SizeField
field_view fields.Inodes = model.Inodes
field_view fields.Zones = model.Zones
field_view fields.InodeMap = model.InodeMap
field_view fields.ZoneMap = model.ZoneMap
field_view fields.FirstZone = model.FirstZone
field_view fields.FileSize = model.FileSize

-- a refusal
abbrev pub layout_fault_view : LayoutFault → model.LayoutFault
layout_fault_view faults.BadMagic = model.BadMagic
layout_fault_view (faults.BadSize field) = model.BadSize (field_view field)
layout_fault_view faults.ZoneSize = model.ZoneSize

-- a superblock
abbrev pub super_view : Super → model.Super
super_view super = record {
  kind = kind_view super.kind;
  inodes = super.inodes;
  zones = super.zones;
  imap = super.imap;
  zmap = super.zmap;
  first = super.first;
  max_size = super.max_size;
  state = super.state;
}

-- an inode
abbrev pub inode_view : Inode → model.Inode
inode_view inode = record {
  mode = inode.mode;
  links = inode.links;
  uid = inode.uid;
  gid = inode.gid;
  size = inode.size;
  times = inode.times;
  zones = inode.zones;
}

-- bytes of a volume
abbrev pub place_view : Place → model.Place
place_view place = record { sector = place.sector; at = place.at }
