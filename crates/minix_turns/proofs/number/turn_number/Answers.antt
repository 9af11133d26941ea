use Rattle.minix_zones.specs.declared.zone_fault.ZoneFault.TheVariants.{Device}
use Rattle.minix_turns.proofs.NameLemmas.{hooks_unseen}
use Rattle.minix_turns.proofs.PartLemmas.{number_moments, number_now}
use Rattle.minix_turns.proofs.number.turn_number.Goals as goal

pub returns-clause-any_moment : goal.returns-clause-any_moment
returns-clause-any_moment g c =
    number_moments c.args.volume.now c.write_number.new.volume c.args.zone c.args.index c.args.number Device c.write_number.result c.requires.below c.requires.there c.write_number.ensures

pub returns-clause-number : goal.returns-clause-number
returns-clause-number g c =
    number_now c.args.volume.now c.write_number.new.volume c.args.zone c.args.index c.args.number Device c.write_number.result c.requires.below c.requires.there c.write_number.ensures

pub returns-clause-unseen : goal.returns-clause-unseen
returns-clause-unseen g c =
    hooks_unseen c.args.volume.now c.write_number.new.volume c.args.zone c.args.index c.args.number Device c.write_number.result
    c.requires.from c.requires.below c.requires.there c.requires.fits c.write_number.ensures
