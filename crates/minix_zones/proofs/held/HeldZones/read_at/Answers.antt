-- A hole's bytes are zeros.
use Rattle.minix_layout.specs.View.{inode_view}
use Rattle.minix_zones.specs.Volume.{volume_view, past_of}
use Rattle.minix_zones.proofs.ReadLemmas.{read_hole}
use Rattle.minix_zones.proofs.held.HeldZones.read_at.Goals as goal

pub returns-in-Hole-clause-bytes : goal.returns-in-Hole-clause-bytes
returns-in-Hole-clause-bytes g c =
    let hole = rw c.in-Hole.is at c.in_ok-zone_at.ensures.zone in
    read_hole (past_of c.args.volume.now) (volume_view c.args.volume.now) (inode_view c.args.inode.now) c.args.index c.put_hole.new.into c.put_hole.ensures hole
