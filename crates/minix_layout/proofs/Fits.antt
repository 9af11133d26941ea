-- Inodes that fit one kind of version 2 fit the other.
use Rattle.std.proofs.Common.{◌≡◌, false}
use Rattle.lilo_model.specs.MinixLayout.{Kind, V1Short, V1Long, V2Short, V2Long, Inode, is_v1, FitsInode}

pub fits-v2 : (kind : Kind) (inode : Inode) → is_v1 kind ≡ false → FitsInode V2Short inode → FitsInode kind inode
fits-v2 V1Short inode two h = cc
fits-v2 V1Long inode two h = cc
fits-v2 V2Short inode two h = h
fits-v2 V2Long inode two h = record {
  mode_fits = h.mode_fits;
  links_fit = h.links_fit;
  uid_fits = h.uid_fits;
  gid_fits = h.gid_fits;
  size_fits = h.size_fits;
  times_fit = h.times_fit;
  zones_fit = h.zones_fit;
  three = h.three;
  ten = h.ten;
}
