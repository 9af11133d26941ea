-- What is at an index is a hole or a data zone.
use Rattle.minix_zones.proofs.held.HeldZones.zone_at.Goals as goal

pub returns-clause-data : goal.returns-clause-data
returns-clause-data g c = c.zone_or_hole.ensures.data c.args.volume.now.layout c.in_ok-zone.ensures.inside
