use Rattle.std.proofs.Common.{◌≡◌, ◌%◌, Err, sym, subst, rules}
use Rattle.lilo_model.specs.MinixEntries.{entries_per_block}
use Rattle.minix_layout.specs.View.{kind_view}
use Rattle.minix_layout.specs.declared.superblock.Super.{Super}
use Rattle.minix_zones.specs.View.{IsDataZone}
use Rattle.minix_create.proofs.EnterLemmas.{directory_now, enters_not_ready, enters_done, enters_failed}
use Rattle.minix_create.proofs.OpenLemmas.{suits_kept}
use Rattle.minix_create.proofs.steps.enter_chosen.Goals as goal

pub returns-in_err-ready_links-clause-enters : goal.returns-in_err-ready_links-clause-enters
returns-in_err-ready_links-clause-enters g c outer may =
    let old = c.args.volume.now in
    let fault = c.in_err-ready_links.field-0.0 in
    let is : c.from_residual.result ≡ Err fault = search rules in
    rw is (enters_not_ready old outer c.args.chosen.now c.args.zone may c.ready_links.new.volume fault
    (c.in_err-ready_links.ensures.readies (directory_now old outer c.args.chosen.now c.args.zone may)))

pub returns-in-Ok-clause-enters : goal.returns-in-Ok-clause-enters
returns-in-Ok-clause-enters g c outer may =
    let old = c.args.volume.now in
    let mid = c.ready_links.new.volume in
    let ready = c.in_ok-ready_links.ensures.readies (directory_now old outer c.args.chosen.now c.args.zone may) in
    let suits = suits_kept old mid c.args.chosen.now c.ready_links.ensures.kept c.requires.suits in
    let D : Super → Type 0 = λ layout. IsDataZone layout c.args.zone in
    let lies = subst D (sym c.ready_links.ensures.kept.same_layout) c.requires.data in
    let slot : c.slot_of-index.result ≡ c.args.chosen.now.choice.place % entries_per_block (kind_view mid.layout.kind) = rw (c.layout.ensures.value, c.place.ensures) at c.slot_of-index.ensures.is in
    let any = rw (c.number_of-number.ensures, c.bytes.ensures) at c.turn_entry.ensures.any_moment in
    let turns = rw (c.number_of-number.ensures, c.bytes.ensures) at c.in-Ok.ensures.turns in
    let entry = rw (c.number_of-number.ensures, c.bytes.ensures) at c.in-Ok.ensures.entry in
    let makes = rw (c.number_of-number.ensures, c.bytes.ensures) at c.in-Ok.ensures.makes in
    let makes_directory = rw (c.number_of-number.ensures, c.bytes.ensures) at c.in-Ok.ensures.makes_directory in
    enters_done old outer c.args.chosen.now c.args.zone may mid ready suits lies.from lies.below c.slot_of-index.result slot c.turn_entry.new.volume any turns entry makes makes_directory

pub returns-in-Err-clause-enters : goal.returns-in-Err-clause-enters
returns-in-Err-clause-enters g c outer may =
    let old = c.args.volume.now in
    let mid = c.ready_links.new.volume in
    let ready = c.in_ok-ready_links.ensures.readies (directory_now old outer c.args.chosen.now c.args.zone may) in
    let suits = suits_kept old mid c.args.chosen.now c.ready_links.ensures.kept c.requires.suits in
    let D : Super → Type 0 = λ layout. IsDataZone layout c.args.zone in
    let lies = subst D (sym c.ready_links.ensures.kept.same_layout) c.requires.data in
    let slot : c.slot_of-index.result ≡ c.args.chosen.now.choice.place % entries_per_block (kind_view mid.layout.kind) = rw (c.layout.ensures.value, c.place.ensures) at c.slot_of-index.ensures.is in
    let any = rw (c.number_of-number.ensures, c.bytes.ensures) at c.turn_entry.ensures.any_moment in
    let turns = rw (c.number_of-number.ensures, c.bytes.ensures) at c.in-Err.ensures.turns in
    let makes = rw (c.number_of-number.ensures, c.bytes.ensures) at c.in-Err.ensures.makes in
    let makes_directory = rw (c.number_of-number.ensures, c.bytes.ensures) at c.in-Err.ensures.makes_directory in
    enters_failed old outer c.args.chosen.now c.args.zone may mid ready suits lies.from lies.below c.slot_of-index.result slot c.turn_entry.new.volume any c.in-Err.field-0 turns makes makes_directory
