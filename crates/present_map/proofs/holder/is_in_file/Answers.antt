-- The zone of the sector is met, or it isn't.
use Rattle.lilo_model.specs.MinixParts.{parts_of}
use Rattle.lilo_model.specs.MinixWalk.{visits}
use Rattle.lilo_model.specs.Slots.{place_at}
use Rattle.minix_layout.specs.View.{super_view, inode_view}
use Rattle.minix_zones.specs.Volume.{volume_view, past_of}
use Rattle.sector_address.specs.Machine.{machine_of}
use Rattle.sector_address.specs.View.{slot_view}
use Rattle.install_laws.specs.InstallVerdict.{is_in_walk}
use Rattle.disk_trait.proofs.ToldLemmas.{told_map}
use Rattle.present_map.specs.Holder.{meets_zone}
use Rattle.present_map.proofs.ClearLemmas.{if_ok-same}
use Rattle.present_map.proofs.HolderLemmas.{in-some}
use Rattle.present_map.proofs.holder.is_in_file.Goals as goal

pub returns-in-Some-clause-within : goal.returns-in-Some-clause-within
returns-in-Some-clause-within g c =
    let volume = volume_view c.args.volume.now in
    let found = place_at (machine_of g.D.Disks c.args.volume.now.disks.now) (slot_view c.args.slot.now) 0 in
    told_map (past_of c.args.volume.now) _ _
    (λ now has.
    if_ok-same c.has_zone.result
    (meets_zone c.in-Some.zone (visits (super_view c.args.volume.now.layout) (parts_of volume now) (inode_view c.args.node.now)))
    (is_in_walk volume (visits (super_view c.args.volume.now.layout) (parts_of volume now) (inode_view c.args.node.now)) found)
    (in-some volume (visits (super_view c.args.volume.now.layout) (parts_of volume now) (inode_view c.args.node.now)) found c.in-Some.zone c.in-Some.ensures)
    has)
    c.has_zone.ensures.has
