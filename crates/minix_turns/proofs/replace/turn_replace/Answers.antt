use Rattle.std.proofs.Common.{rules}
use Rattle.disk_trait.proofs.NotWrittenLemmas.{not_written_join}
use Rattle.minix_zones.specs.declared.zone_fault.ZoneFault.TheVariants.{Device}
use Rattle.minix_zones.specs.Volume.{past_of}
use Rattle.minix_turns.proofs.ReplaceLemmas.{replace_refused, replace_done, both_entries, off_entry_stays}
use Rattle.minix_turns.proofs.replace.turn_replace.Goals as goal

pub returns-in_err-turn_entry-clause-replaces : goal.returns-in_err-turn_entry-clause-replaces
returns-in_err-turn_entry-clause-replaces g c outer directory to_place from_place former gone may =
    replace_refused c.args.volume.now c.args.to c.args.from c.args.number c.args.name.now outer directory to_place from_place former gone may
    c.turn_entry.new.volume _ c.from_residual.result (λ P. search rules) c.turn_entry.ensures.redirects

pub returns-clause-replaces : goal.returns-clause-replaces
returns-clause-replaces g c outer directory to_place from_place former gone may =
    replace_done c.args.volume.now c.args.to c.args.from c.args.number c.args.name.now outer directory to_place from_place former gone may
    c.ranges.number.fits c.requires.from.there c.turn_entry.new.volume c.turn_free.new.volume c.in_ok-turn_entry.ensures.redirects c.in_ok-turn_entry.ensures.entry Device c.turn_free.result c.turn_free.ensures.turns

pub returns-clause-entries : goal.returns-clause-entries
returns-clause-entries g c told =
    let turns = c.in_ok-turn_entry.ensures.turns in
    both_entries c.args.volume.now c.turn_entry.new.volume c.turn_free.new.volume c.args.to c.args.from c.args.number c.args.name.now c.turn_free.result turns.kept
    (c.in_ok-turn_entry.ensures.entry told) (c.turn_free.ensures.entry (turns.goes_on.told told))

pub returns-in_err-turn_entry-clause-others : goal.returns-in_err-turn_entry-clause-others
returns-in_err-turn_entry-clause-others g c d s to from = c.turn_entry.ensures.turns.others d s to

pub returns-clause-others : goal.returns-clause-others
returns-clause-others g c d s to from =
    not_written_join (past_of c.args.volume.now) (past_of c.turn_entry.new.volume) (past_of c.turn_free.new.volume) d s
    (c.turn_entry.ensures.turns.others d s to)
    (c.turn_free.ensures.turns.others d s (off_entry_stays c.args.volume.now c.turn_entry.new.volume c.args.from d s c.turn_entry.ensures.turns.kept from))
