use Rattle.minix_layout.specs.View.{kind_view}
use Rattle.minix_change_laws.specs.Written.{entry_bytes}
use Rattle.minix_zones.specs.declared.zone_fault.ZoneFault.TheVariants.{Device}
use Rattle.minix_turns.proofs.EntryLemmas.{entry-long}
use Rattle.minix_turns.proofs.NameLemmas.{makes, makes_directory, redirects}
use Rattle.minix_turns.proofs.PartLemmas.{entry_moments, entry_now}
use Rattle.minix_turns.proofs.entry.turn_entry.Goals as goal

pub returns-clause-any_moment : goal.returns-clause-any_moment
returns-clause-any_moment g c =
    let kind = kind_view c.args.volume.now.layout.kind in
    entry_moments c.args.volume.now c.write_entry.new.volume c.args.zone c.args.index (entry_bytes kind c.args.number c.args.name.now) Device c.write_entry.result
    c.requires.below c.requires.there (entry-long kind c.args.number c.args.name.now c.requires.short) c.write_entry.ensures

pub returns-clause-entry : goal.returns-clause-entry
returns-clause-entry g c =
    let kind = kind_view c.args.volume.now.layout.kind in
    entry_now c.args.volume.now c.write_entry.new.volume c.args.zone c.args.index (entry_bytes kind c.args.number c.args.name.now) Device c.write_entry.result
    c.requires.below c.requires.there (entry-long kind c.args.number c.args.name.now c.requires.short) c.write_entry.ensures

pub returns-clause-makes : goal.returns-clause-makes
returns-clause-makes g c =
    makes c.args.volume.now c.write_entry.new.volume c.args.zone c.args.index c.args.number c.args.name.now Device c.write_entry.result
    c.requires.below c.requires.there c.ranges.number.fits c.requires.short c.write_entry.ensures

pub returns-clause-makes_directory : goal.returns-clause-makes_directory
returns-clause-makes_directory g c =
    makes_directory c.args.volume.now c.write_entry.new.volume c.args.zone c.args.index c.args.number c.args.name.now Device c.write_entry.result
    c.requires.below c.requires.there c.ranges.number.fits c.requires.short c.write_entry.ensures

pub returns-clause-redirects : goal.returns-clause-redirects
returns-clause-redirects g c =
    redirects c.args.volume.now c.write_entry.new.volume c.args.zone c.args.index c.args.number c.args.name.now Device c.write_entry.result
    c.requires.below c.requires.there c.ranges.number.fits c.requires.short c.write_entry.ensures
