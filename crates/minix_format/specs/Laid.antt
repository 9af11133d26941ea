-- What is known of the superblock of an empty volume.
use Rattle.std.specs.Prelude.{◌≡◌, ◌≤◌, ◌<◌, ◌^◌, ◌+◌, ◌*◌}
use Rattle.lilo_model.specs.MinixLayout.{Super, number_size, table_start, table_blocks}

-- it has a root and a zone for it, bitmaps with a bit for each number, and each number fits its field
pub record IsLaid (layout : Super) : Type 0 where
  pub some_inode : 1 ≤ layout.inodes
  pub inodes_fit : layout.inodes < 2 ^ 16
  pub below : layout.first < layout.zones
  pub first_fits : layout.first < 2 ^ 16
  pub follows : layout.first ≡ table_start layout + table_blocks layout
  pub imap_fits : layout.imap < 2 ^ 16
  pub imap_holds : layout.inodes < 8192 * layout.imap
  pub zmap_fits : layout.zmap < 2 ^ 16
  pub zmap_holds : layout.zones ≤ 8192 * layout.zmap
  pub zones_fit : layout.zones < 256 ^ number_size layout.kind
  pub size_fits : layout.max_size < 2 ^ 32
  pub state_fits : layout.state < 2 ^ 16
