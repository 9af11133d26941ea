-- An entry that gets another name.
use Rattle.std.proofs.Common.{◌≡◌, ◌<◌, ◌%◌}
use Rattle.lilo_model.specs.MinixEntries.{entries_per_block}
use Rattle.minix_layout.specs.View.{kind_view}
use Rattle.minix_remove.proofs.RenamedLemmas.{carries_entry}
use Rattle.minix_remove.proofs.replace.rename_entry.Goals as goal

pub returns-clause-carries : goal.returns-clause-carries
returns-clause-carries g c directory from may =
    let index = c.place_of-place.result.index in
    let slot : index ≡ c.args.moved.now.place % entries_per_block (kind_view c.args.volume.now.layout.kind) = rw c.layout.ensures.value at c.place_of-place.ensures.slot in
    let low : index < entries_per_block (kind_view c.args.volume.now.layout.kind) = rw c.layout.ensures.value at c.place_of-place.ensures.low in
    let turns = rw (c.place_of-place.ensures.zone, c.number_of-number.ensures) at c.turn_entry.ensures.turns in
    let entry = rw (c.place_of-place.ensures.zone, c.number_of-number.ensures) at c.turn_entry.ensures.entry in
    carries_entry c.args.volume.now c.turn_entry.new.volume directory from c.args.to.now c.args.moved.now index c.requires.fits.from low slot c.requires.short may c.turn_entry.result turns entry
