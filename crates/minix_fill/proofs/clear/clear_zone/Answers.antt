use Rattle.lilo_model.specs.MinixParts.{zone_mark_sector}
use Rattle.minix_layout.specs.View.{super_view}
use Rattle.minix_steps.proofs.RegionLemmas.{zone_mark_in}
use Rattle.minix_fill.specs.Changes.{IsOffMaps}
use Rattle.minix_fill.specs.Freed.{ClearsZone}
use Rattle.minix_fill.proofs.ChangeLemmas.{changes_sector, off_map}
use Rattle.minix_fill.proofs.clear.clear_zone.Goals as goal

pub returns : goal.returns
returns g c =
    let old = c.args.volume.now in
    changes_sector old c.free_zone.new.volume (IsOffMaps old) (ClearsZone c.args.zone) c.free_zone.result
    (zone_mark_sector (super_view old.layout) c.args.zone) _ c.free_zone.ensures.steps c.free_zone.ensures.writes c.free_zone.ensures.parts
    (off_map old (zone_mark_sector (super_view old.layout) c.args.zone) (zone_mark_in (super_view old.layout) old.span.count old.whole c.args.zone c.requires.below))
