-- The inode that was read is the one at its number.
use Rattle.minix_layout.specs.View.{kind_view, super_view, inode_view, layout_fault_view}
use Rattle.minix_zones.specs.Volume.{volume_view, past_of}
use Rattle.minix_tree.proofs.StatLemmas.{inode_sector, stat_node, stat_found, stat_refused, sized, blocks_reached}
use Rattle.minix_tree.proofs.stat.stat_of.Goals as goal

pub read_sector-requires : goal.read_sector-requires
read_sector-requires g c =
    let place = rw c.layout.ensures.value at c.where_inode-place.ensures.place in
    let whole = rw c.layout.ensures.value at c.layout.ensures.whole in
    inode_sector (super_view c.args.volume.now.layout) c.args.volume.now.span.count c.args.inode _ _ whole place c.requires.some c.requires.there

pub returns-in-Ok-clause-node : goal.returns-in-Ok-clause-node
returns-in-Ok-clause-node g c =
    let place = rw c.layout.ensures.value at c.where_inode-place.ensures.place in
    let read = rw (c.part-bytes.ensures.bytes, c.from.ensures, c.from-2.ensures, c.inode_size.ensures, c.layout-2.ensures.value) at c.in-Ok.ensures.read in
    stat_node (past_of c.args.volume.now) (volume_view c.args.volume.now) c.args.inode _ _ c.read_sector.new.into (inode_view c.in-Ok.node) c.in_ok-read_sector.ensures.bytes place read

pub returns-in-Ok-clause-found : goal.returns-in-Ok-clause-found
returns-in-Ok-clause-found g c =
    let place = rw c.layout.ensures.value at c.where_inode-place.ensures.place in
    let read = rw (c.part-bytes.ensures.bytes, c.from.ensures, c.from-2.ensures, c.inode_size.ensures, c.layout-2.ensures.value) at c.in-Ok.ensures.read in
    stat_found (past_of c.args.volume.now) (volume_view c.args.volume.now) c.args.inode _ _ c.read_sector.new.into (inode_view c.in-Ok.node) c.in_ok-read_sector.ensures.bytes place read

pub returns-in-Ok-clause-fits : goal.returns-in-Ok-clause-fits
returns-in-Ok-clause-fits g c =
    let read = rw c.layout-2.ensures.value at c.in-Ok.ensures.read in
    let size = sized (kind_view c.args.volume.now.layout.kind) c.part-bytes.result.now (inode_view c.in-Ok.node) read in
    record {
      some = c.requires.some;
      there = c.requires.there;
      sized = size;
      reached = blocks_reached (kind_view c.args.volume.now.layout.kind) c.in-Ok.node.size c.in-Ok.ensures.fits.size_fits size;
      fields = rw c.layout-2.ensures.value at c.in-Ok.ensures.fits;
    }

pub returns-in-Err-clause-found : goal.returns-in-Err-clause-found
returns-in-Err-clause-found g c =
    let place = rw c.layout.ensures.value at c.where_inode-place.ensures.place in
    let read = rw (c.part-bytes.ensures.bytes, c.from.ensures, c.from-2.ensures, c.inode_size.ensures, c.layout-2.ensures.value) at c.in-Err.ensures.read in
    stat_refused (past_of c.args.volume.now) (volume_view c.args.volume.now) c.args.inode _ _ c.read_sector.new.into (layout_fault_view c.in-Err.fault) c.in_ok-read_sector.ensures.bytes place read
