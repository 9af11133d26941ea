use Rattle.minix_layout.specs.View.{kind_view}
use Rattle.minix_change_laws.specs.Part.{free_bytes}
use Rattle.minix_zones.specs.declared.zone_fault.ZoneFault.TheVariants.{Device}
use Rattle.minix_turns.proofs.EntryLemmas.{free-long, free-inode}
use Rattle.minix_turns.proofs.NameLemmas.{past_unseen, past_free, removes}
use Rattle.minix_turns.proofs.PartLemmas.{entry_moments, entry_now}
use Rattle.minix_turns.proofs.entry.turn_free.Goals as goal

pub returns-clause-any_moment : goal.returns-clause-any_moment
returns-clause-any_moment g c =
    let kind = kind_view c.args.volume.now.layout.kind in
    entry_moments c.args.volume.now c.write_free.new.volume c.args.zone c.args.index (free_bytes kind) Device c.write_free.result c.requires.below c.requires.there (free-long kind) c.write_free.ensures

pub returns-clause-entry : goal.returns-clause-entry
returns-clause-entry g c =
    let kind = kind_view c.args.volume.now.layout.kind in
    entry_now c.args.volume.now c.write_free.new.volume c.args.zone c.args.index (free_bytes kind) Device c.write_free.result c.requires.below c.requires.there (free-long kind) c.write_free.ensures

pub returns-clause-past : goal.returns-clause-past
returns-clause-past g c =
    let kind = kind_view c.args.volume.now.layout.kind in
    past_unseen c.args.volume.now c.write_free.new.volume c.args.zone c.args.index (free_bytes kind) Device c.write_free.result c.requires.below c.requires.there (free-long kind) c.write_free.ensures

pub returns-clause-removes : goal.returns-clause-removes
returns-clause-removes g c =
    let kind = kind_view c.args.volume.now.layout.kind in
    removes c.args.volume.now c.write_free.new.volume c.args.zone c.args.index (free_bytes kind) Device c.write_free.result c.requires.below c.requires.there (free-long kind) c.write_free.ensures (free-inode kind)

pub returns-clause-past_free : goal.returns-clause-past_free
returns-clause-past_free g c =
    let kind = kind_view c.args.volume.now.layout.kind in
    past_free c.args.volume.now c.write_free.new.volume c.args.zone c.args.index (free_bytes kind) Device c.write_free.result c.requires.below c.requires.there (free-long kind) c.write_free.ensures (free-inode kind)
