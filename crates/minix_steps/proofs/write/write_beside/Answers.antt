use Rattle.minix_layout.specs.View.{super_view}
use Rattle.minix_zones.specs.declared.zone_fault.ZoneFault.TheVariants.{Device}
use Rattle.minix_steps.proofs.RegionLemmas.{sector_there}
use Rattle.minix_steps.proofs.StepLemmas.{write_step}
use Rattle.minix_steps.proofs.write.write_beside.Goals as goal

pub write_sector-requires-clause-inside : goal.write_sector-requires-clause-inside
write_sector-requires-clause-inside g c =
    let volume = c.args.volume.now in
    sector_there (super_view volume.layout) volume.span.count volume.whole c.args.sector c.requires.inside

pub returns-clause-steps : goal.returns-clause-steps
returns-clause-steps g c =
    write_step c.args.volume.now c.write_sector.new.self c.args.sector c.args.from.now Device c.write_sector.result c.requires.ready c.requires.inside c.requires.harmless
    c.write_sector.ensures.writes
