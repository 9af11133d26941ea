-- A name that becomes that of another inode.
use Rattle.std.proofs.Common.{◌≡◌, ◌≤◌, ◌<◌, ◌+◌, ◌%◌, refl, Ok, Err, sym, subst, rules, arith}
use Rattle.lilo_model.specs.MinixEntries.{entries_per_block}
use Rattle.lilo_model.specs.MinixLayout.{FitsInode}
use Rattle.minix_layout.specs.View.{kind_view, inode_view}
use Rattle.minix_layout.specs.declared.superblock.Super.{Super}
use Rattle.minix_turns.proofs.FieldLemmas.{fits_links}
use Rattle.minix_remove.proofs.OverLemmas.{raised_of, link_left, may_raise, stays_over, refused1, refused2, refused3, may_lower, may_let_former, carries_over}
use Rattle.minix_remove.proofs.TakeLemmas.{cause_taken}
use Rattle.minix_remove.proofs.replace.replace_file.Goals as goal

pub returns-in_err-turn_links-clause-carries : goal.returns-in_err-turn_links-clause-carries
returns-in_err-turn_links-clause-carries g c directory from may =
    let fault = c.in_err-turn_links.field-0.0 in
    let is : c.from_residual.result ≡ Err fault = search rules in
    let seen1 = c.in_err-turn_links.ensures.unseen (may_raise c.args.volume.now c.args.to.now c.args.moved.now c.args.former.now c.requires.fits.from c.requires.fits.to c.requires.short c.requires.apart (link_left c.args.volume.now.layout c.args.moved.now c.args.former.now c.requires.fits c.requires.apart) c.requires.may) in
    rw is (refused1 c.args.volume.now directory from c.args.to.now c.args.moved.now c.args.former.now c.requires.fits.from c.requires.fits.to c.requires.short c.requires.apart (link_left c.args.volume.now.layout c.args.moved.now c.args.former.now c.requires.fits c.requires.apart) may c.turn_links.new.volume (Err fault) c.in_err-turn_links.ensures.turns seen1 fault refl)

pub returns-in_err-turn_replace-clause-carries : goal.returns-in_err-turn_replace-clause-carries
returns-in_err-turn_replace-clause-carries g c directory from may =
    let fault = c.in_err-turn_replace.field-0.0 in
    let is : c.from_residual-in_err-turn_replace.result ≡ Err fault = search rules in
    let turns1 = c.in_ok-turn_links.ensures.turns in
    let seen1 = c.in_ok-turn_links.ensures.unseen (may_raise c.args.volume.now c.args.to.now c.args.moved.now c.args.former.now c.requires.fits.from c.requires.fits.to c.requires.short c.requires.apart (link_left c.args.volume.now.layout c.args.moved.now c.args.former.now c.requires.fits c.requires.apart) c.requires.may) in
    let over = c.place_of-over.result in
    let place = c.place_of-place.result in
    let same = turns1.kept.same_layout in
    let over-slot : over.index ≡ c.args.former.now.place % entries_per_block (kind_view c.args.volume.now.layout.kind) = rw (c.layout.ensures.value, same) at c.place_of-over.ensures.slot in
    let over-low : over.index < entries_per_block (kind_view c.args.volume.now.layout.kind) = rw (c.layout.ensures.value, same) at c.place_of-over.ensures.low in
    let place-slot : place.index ≡ c.args.moved.now.place % entries_per_block (kind_view c.args.volume.now.layout.kind) = rw (c.layout-2.ensures.value, same) at c.place_of-place.ensures.slot in
    let place-low : place.index < entries_per_block (kind_view c.args.volume.now.layout.kind) = rw (c.layout-2.ensures.value, same) at c.place_of-place.ensures.low in
    let replaces = rw c.number_of-number.ensures at c.in_err-turn_replace.ensures.replaces in
    let writes = c.in_err-turn_replace.ensures.others in
    rw is (refused2 c.args.volume.now directory from c.args.to.now c.args.moved.now c.args.former.now c.requires.fits.from c.requires.fits.to c.requires.short c.requires.apart (link_left c.args.volume.now.layout c.args.moved.now c.args.former.now c.requires.fits c.requires.apart) may c.turn_links.new.volume turns1 seen1 over place c.place_of-over.ensures.zone over-slot over-low c.place_of-place.ensures.zone place-slot place-low c.turn_replace.new.volume (Err fault) replaces writes fault refl c.in_err-turn_replace.ensures.device)

pub release-requires-clause-there : goal.release-requires-clause-there
release-requires-clause-there g c =
    let turns1 = c.in_ok-turn_links.ensures.turns in
    let seen1 = c.in_ok-turn_links.ensures.unseen (may_raise c.args.volume.now c.args.to.now c.args.moved.now c.args.former.now c.requires.fits.from c.requires.fits.to c.requires.short c.requires.apart (link_left c.args.volume.now.layout c.args.moved.now c.args.former.now c.requires.fits c.requires.apart) c.requires.may) in
    let over = c.place_of-over.result in
    let place = c.place_of-place.result in
    let same = turns1.kept.same_layout in
    let over-slot : over.index ≡ c.args.former.now.place % entries_per_block (kind_view c.args.volume.now.layout.kind) = rw (c.layout.ensures.value, same) at c.place_of-over.ensures.slot in
    let over-low : over.index < entries_per_block (kind_view c.args.volume.now.layout.kind) = rw (c.layout.ensures.value, same) at c.place_of-over.ensures.low in
    let place-slot : place.index ≡ c.args.moved.now.place % entries_per_block (kind_view c.args.volume.now.layout.kind) = rw (c.layout-2.ensures.value, same) at c.place_of-place.ensures.slot in
    let place-low : place.index < entries_per_block (kind_view c.args.volume.now.layout.kind) = rw (c.layout-2.ensures.value, same) at c.place_of-place.ensures.low in
    let replaces = rw c.number_of-number.ensures at c.in_ok-turn_replace.ensures.replaces in
    let writes = c.in_ok-turn_replace.ensures.others in
    let entries = rw c.number_of-number.ensures at c.in_ok-turn_replace.ensures.entries in
    let stays = stays_over c.args.volume.now c.args.to.now c.args.moved.now c.args.former.now c.requires.fits.from c.requires.fits.to c.requires.short c.requires.apart (link_left c.args.volume.now.layout c.args.moved.now c.args.former.now c.requires.fits c.requires.apart) c.requires.may c.turn_links.new.volume turns1 seen1 over place c.place_of-over.ensures.zone over-slot over-low c.place_of-place.ensures.zone place-slot place-low c.turn_replace.new.volume (Ok tt) replaces writes in
    let L : Super → Type 0 = λ layout. c.args.moved.now.inode ≤ layout.inodes in
    subst L (sym stays.1.same_layout) c.requires.fits.from.there

pub release-requires-clause-fits : goal.release-requires-clause-fits
release-requires-clause-fits g c =
    let turns1 = c.in_ok-turn_links.ensures.turns in
    let seen1 = c.in_ok-turn_links.ensures.unseen (may_raise c.args.volume.now c.args.to.now c.args.moved.now c.args.former.now c.requires.fits.from c.requires.fits.to c.requires.short c.requires.apart (link_left c.args.volume.now.layout c.args.moved.now c.args.former.now c.requires.fits c.requires.apart) c.requires.may) in
    let over = c.place_of-over.result in
    let place = c.place_of-place.result in
    let same = turns1.kept.same_layout in
    let over-slot : over.index ≡ c.args.former.now.place % entries_per_block (kind_view c.args.volume.now.layout.kind) = rw (c.layout.ensures.value, same) at c.place_of-over.ensures.slot in
    let over-low : over.index < entries_per_block (kind_view c.args.volume.now.layout.kind) = rw (c.layout.ensures.value, same) at c.place_of-over.ensures.low in
    let place-slot : place.index ≡ c.args.moved.now.place % entries_per_block (kind_view c.args.volume.now.layout.kind) = rw (c.layout-2.ensures.value, same) at c.place_of-place.ensures.slot in
    let place-low : place.index < entries_per_block (kind_view c.args.volume.now.layout.kind) = rw (c.layout-2.ensures.value, same) at c.place_of-place.ensures.low in
    let replaces = rw c.number_of-number.ensures at c.in_ok-turn_replace.ensures.replaces in
    let writes = c.in_ok-turn_replace.ensures.others in
    let entries = rw c.number_of-number.ensures at c.in_ok-turn_replace.ensures.entries in
    let stays = stays_over c.args.volume.now c.args.to.now c.args.moved.now c.args.former.now c.requires.fits.from c.requires.fits.to c.requires.short c.requires.apart (link_left c.args.volume.now.layout c.args.moved.now c.args.former.now c.requires.fits c.requires.apart) c.requires.may c.turn_links.new.volume turns1 seen1 over place c.place_of-over.ensures.zone over-slot over-low c.place_of-place.ensures.zone place-slot place-low c.turn_replace.new.volume (Ok tt) replaces writes in
    let F : Super → Type 0 = λ layout. FitsInode (kind_view layout.kind) (raised_of c.args.moved.now) in
    let less = link_left c.args.volume.now.layout c.args.moved.now c.args.former.now c.requires.fits c.requires.apart in
    subst F (sym stays.1.same_layout)
    (fits_links (kind_view c.args.volume.now.layout.kind) (inode_view c.args.moved.now.node) (c.args.moved.now.node.links + 1) c.requires.fits.from.fits (omega (arith, less)))

pub release-requires-clause-may : goal.release-requires-clause-may
release-requires-clause-may g c told =
    let turns1 = c.in_ok-turn_links.ensures.turns in
    let seen1 = c.in_ok-turn_links.ensures.unseen (may_raise c.args.volume.now c.args.to.now c.args.moved.now c.args.former.now c.requires.fits.from c.requires.fits.to c.requires.short c.requires.apart (link_left c.args.volume.now.layout c.args.moved.now c.args.former.now c.requires.fits c.requires.apart) c.requires.may) in
    let over = c.place_of-over.result in
    let place = c.place_of-place.result in
    let same = turns1.kept.same_layout in
    let over-slot : over.index ≡ c.args.former.now.place % entries_per_block (kind_view c.args.volume.now.layout.kind) = rw (c.layout.ensures.value, same) at c.place_of-over.ensures.slot in
    let over-low : over.index < entries_per_block (kind_view c.args.volume.now.layout.kind) = rw (c.layout.ensures.value, same) at c.place_of-over.ensures.low in
    let place-slot : place.index ≡ c.args.moved.now.place % entries_per_block (kind_view c.args.volume.now.layout.kind) = rw (c.layout-2.ensures.value, same) at c.place_of-place.ensures.slot in
    let place-low : place.index < entries_per_block (kind_view c.args.volume.now.layout.kind) = rw (c.layout-2.ensures.value, same) at c.place_of-place.ensures.low in
    let replaces = rw c.number_of-number.ensures at c.in_ok-turn_replace.ensures.replaces in
    let writes = c.in_ok-turn_replace.ensures.others in
    let entries = rw c.number_of-number.ensures at c.in_ok-turn_replace.ensures.entries in
    let stays = stays_over c.args.volume.now c.args.to.now c.args.moved.now c.args.former.now c.requires.fits.from c.requires.fits.to c.requires.short c.requires.apart (link_left c.args.volume.now.layout c.args.moved.now c.args.former.now c.requires.fits c.requires.apart) c.requires.may c.turn_links.new.volume turns1 seen1 over place c.place_of-over.ensures.zone over-slot over-low c.place_of-place.ensures.zone place-slot place-low c.turn_replace.new.volume (Ok tt) replaces writes in
    let before = stays.0.told_before told in
    let some = c.requires.may before in
    may_lower c.args.volume.now some.directory some.from c.args.to.now c.args.moved.now c.args.former.now c.requires.fits.from c.requires.fits.to c.requires.short c.requires.apart (link_left c.args.volume.now.layout c.args.moved.now c.args.former.now c.requires.fits c.requires.apart) (λ told'. some.is) c.turn_links.new.volume turns1 seen1 over place c.place_of-over.ensures.zone over-slot over-low c.place_of-place.ensures.zone place-slot place-low c.turn_replace.new.volume replaces writes entries before

pub returns-in_err-release-clause-carries : goal.returns-in_err-release-clause-carries
returns-in_err-release-clause-carries g c directory from may =
    let fault = c.in_err-release.field-0.0 in
    let is : c.from_residual-in_err-release.result ≡ Err fault = search rules in
    let turns1 = c.in_ok-turn_links.ensures.turns in
    let seen1 = c.in_ok-turn_links.ensures.unseen (may_raise c.args.volume.now c.args.to.now c.args.moved.now c.args.former.now c.requires.fits.from c.requires.fits.to c.requires.short c.requires.apart (link_left c.args.volume.now.layout c.args.moved.now c.args.former.now c.requires.fits c.requires.apart) c.requires.may) in
    let over = c.place_of-over.result in
    let place = c.place_of-place.result in
    let same = turns1.kept.same_layout in
    let over-slot : over.index ≡ c.args.former.now.place % entries_per_block (kind_view c.args.volume.now.layout.kind) = rw (c.layout.ensures.value, same) at c.place_of-over.ensures.slot in
    let over-low : over.index < entries_per_block (kind_view c.args.volume.now.layout.kind) = rw (c.layout.ensures.value, same) at c.place_of-over.ensures.low in
    let place-slot : place.index ≡ c.args.moved.now.place % entries_per_block (kind_view c.args.volume.now.layout.kind) = rw (c.layout-2.ensures.value, same) at c.place_of-place.ensures.slot in
    let place-low : place.index < entries_per_block (kind_view c.args.volume.now.layout.kind) = rw (c.layout-2.ensures.value, same) at c.place_of-place.ensures.low in
    let replaces = rw c.number_of-number.ensures at c.in_ok-turn_replace.ensures.replaces in
    let writes = c.in_ok-turn_replace.ensures.others in
    let entries = rw c.number_of-number.ensures at c.in_ok-turn_replace.ensures.entries in
    rw is (refused3 c.args.volume.now directory from c.args.to.now c.args.moved.now c.args.former.now c.requires.fits.from c.requires.fits.to c.requires.short c.requires.apart (link_left c.args.volume.now.layout c.args.moved.now c.args.former.now c.requires.fits c.requires.apart) may c.turn_links.new.volume turns1 seen1 over place c.place_of-over.ensures.zone over-slot over-low c.place_of-place.ensures.zone place-slot place-low c.turn_replace.new.volume replaces writes entries c.release.new.volume (Err fault) c.in_err-release.ensures.releases fault refl)

pub returns-in_err-release-clause-cause : goal.returns-in_err-release-clause-cause
returns-in_err-release-clause-cause g c =
    let fault = c.in_err-release.field-0.0 in
    let is : c.from_residual-in_err-release.result ≡ Err fault = search rules in
    let turns1 = c.in_ok-turn_links.ensures.turns in
    let seen1 = c.in_ok-turn_links.ensures.unseen (may_raise c.args.volume.now c.args.to.now c.args.moved.now c.args.former.now c.requires.fits.from c.requires.fits.to c.requires.short c.requires.apart (link_left c.args.volume.now.layout c.args.moved.now c.args.former.now c.requires.fits c.requires.apart) c.requires.may) in
    let over = c.place_of-over.result in
    let place = c.place_of-place.result in
    let same = turns1.kept.same_layout in
    let over-slot : over.index ≡ c.args.former.now.place % entries_per_block (kind_view c.args.volume.now.layout.kind) = rw (c.layout.ensures.value, same) at c.place_of-over.ensures.slot in
    let over-low : over.index < entries_per_block (kind_view c.args.volume.now.layout.kind) = rw (c.layout.ensures.value, same) at c.place_of-over.ensures.low in
    let place-slot : place.index ≡ c.args.moved.now.place % entries_per_block (kind_view c.args.volume.now.layout.kind) = rw (c.layout-2.ensures.value, same) at c.place_of-place.ensures.slot in
    let place-low : place.index < entries_per_block (kind_view c.args.volume.now.layout.kind) = rw (c.layout-2.ensures.value, same) at c.place_of-place.ensures.low in
    let replaces = rw c.number_of-number.ensures at c.in_ok-turn_replace.ensures.replaces in
    let writes = c.in_ok-turn_replace.ensures.others in
    let entries = rw c.number_of-number.ensures at c.in_ok-turn_replace.ensures.entries in
    let stays = stays_over c.args.volume.now c.args.to.now c.args.moved.now c.args.former.now c.requires.fits.from c.requires.fits.to c.requires.short c.requires.apart (link_left c.args.volume.now.layout c.args.moved.now c.args.former.now c.requires.fits c.requires.apart) c.requires.may c.turn_links.new.volume turns1 seen1 over place c.place_of-over.ensures.zone over-slot over-low c.place_of-place.ensures.zone place-slot place-low c.turn_replace.new.volume (Ok tt) replaces writes in
    rw is (cause_taken c.args.volume.now c.turn_replace.new.volume c.release.new.volume (Err fault) stays.0.later c.in_err-release.ensures.releases.cause)

pub release-requires-2-clause-there : goal.release-requires-2-clause-there
release-requires-2-clause-there g c =
    let turns1 = c.in_ok-turn_links.ensures.turns in
    let seen1 = c.in_ok-turn_links.ensures.unseen (may_raise c.args.volume.now c.args.to.now c.args.moved.now c.args.former.now c.requires.fits.from c.requires.fits.to c.requires.short c.requires.apart (link_left c.args.volume.now.layout c.args.moved.now c.args.former.now c.requires.fits c.requires.apart) c.requires.may) in
    let over = c.place_of-over.result in
    let place = c.place_of-place.result in
    let same = turns1.kept.same_layout in
    let over-slot : over.index ≡ c.args.former.now.place % entries_per_block (kind_view c.args.volume.now.layout.kind) = rw (c.layout.ensures.value, same) at c.place_of-over.ensures.slot in
    let over-low : over.index < entries_per_block (kind_view c.args.volume.now.layout.kind) = rw (c.layout.ensures.value, same) at c.place_of-over.ensures.low in
    let place-slot : place.index ≡ c.args.moved.now.place % entries_per_block (kind_view c.args.volume.now.layout.kind) = rw (c.layout-2.ensures.value, same) at c.place_of-place.ensures.slot in
    let place-low : place.index < entries_per_block (kind_view c.args.volume.now.layout.kind) = rw (c.layout-2.ensures.value, same) at c.place_of-place.ensures.low in
    let replaces = rw c.number_of-number.ensures at c.in_ok-turn_replace.ensures.replaces in
    let writes = c.in_ok-turn_replace.ensures.others in
    let entries = rw c.number_of-number.ensures at c.in_ok-turn_replace.ensures.entries in
    let stays = stays_over c.args.volume.now c.args.to.now c.args.moved.now c.args.former.now c.requires.fits.from c.requires.fits.to c.requires.short c.requires.apart (link_left c.args.volume.now.layout c.args.moved.now c.args.former.now c.requires.fits c.requires.apart) c.requires.may c.turn_links.new.volume turns1 seen1 over place c.place_of-over.ensures.zone over-slot over-low c.place_of-place.ensures.zone place-slot place-low c.turn_replace.new.volume (Ok tt) replaces writes in
    let L : Super → Type 0 = λ layout. c.args.former.now.inode ≤ layout.inodes in
    subst L (sym c.in_ok-release.ensures.releases.unseen.kept.same_layout) (subst L (sym stays.1.same_layout) c.requires.fits.to.there)

pub release-requires-2-clause-fits : goal.release-requires-2-clause-fits
release-requires-2-clause-fits g c =
    let turns1 = c.in_ok-turn_links.ensures.turns in
    let seen1 = c.in_ok-turn_links.ensures.unseen (may_raise c.args.volume.now c.args.to.now c.args.moved.now c.args.former.now c.requires.fits.from c.requires.fits.to c.requires.short c.requires.apart (link_left c.args.volume.now.layout c.args.moved.now c.args.former.now c.requires.fits c.requires.apart) c.requires.may) in
    let over = c.place_of-over.result in
    let place = c.place_of-place.result in
    let same = turns1.kept.same_layout in
    let over-slot : over.index ≡ c.args.former.now.place % entries_per_block (kind_view c.args.volume.now.layout.kind) = rw (c.layout.ensures.value, same) at c.place_of-over.ensures.slot in
    let over-low : over.index < entries_per_block (kind_view c.args.volume.now.layout.kind) = rw (c.layout.ensures.value, same) at c.place_of-over.ensures.low in
    let place-slot : place.index ≡ c.args.moved.now.place % entries_per_block (kind_view c.args.volume.now.layout.kind) = rw (c.layout-2.ensures.value, same) at c.place_of-place.ensures.slot in
    let place-low : place.index < entries_per_block (kind_view c.args.volume.now.layout.kind) = rw (c.layout-2.ensures.value, same) at c.place_of-place.ensures.low in
    let replaces = rw c.number_of-number.ensures at c.in_ok-turn_replace.ensures.replaces in
    let writes = c.in_ok-turn_replace.ensures.others in
    let entries = rw c.number_of-number.ensures at c.in_ok-turn_replace.ensures.entries in
    let stays = stays_over c.args.volume.now c.args.to.now c.args.moved.now c.args.former.now c.requires.fits.from c.requires.fits.to c.requires.short c.requires.apart (link_left c.args.volume.now.layout c.args.moved.now c.args.former.now c.requires.fits c.requires.apart) c.requires.may c.turn_links.new.volume turns1 seen1 over place c.place_of-over.ensures.zone over-slot over-low c.place_of-place.ensures.zone place-slot place-low c.turn_replace.new.volume (Ok tt) replaces writes in
    let F : Super → Type 0 = λ layout. FitsInode (kind_view layout.kind) (inode_view c.args.former.now.node) in
    subst F (sym c.in_ok-release.ensures.releases.unseen.kept.same_layout) (subst F (sym stays.1.same_layout) c.requires.fits.to.fits)

pub release-requires-2-clause-may : goal.release-requires-2-clause-may
release-requires-2-clause-may g c told =
    let turns1 = c.in_ok-turn_links.ensures.turns in
    let seen1 = c.in_ok-turn_links.ensures.unseen (may_raise c.args.volume.now c.args.to.now c.args.moved.now c.args.former.now c.requires.fits.from c.requires.fits.to c.requires.short c.requires.apart (link_left c.args.volume.now.layout c.args.moved.now c.args.former.now c.requires.fits c.requires.apart) c.requires.may) in
    let over = c.place_of-over.result in
    let place = c.place_of-place.result in
    let same = turns1.kept.same_layout in
    let over-slot : over.index ≡ c.args.former.now.place % entries_per_block (kind_view c.args.volume.now.layout.kind) = rw (c.layout.ensures.value, same) at c.place_of-over.ensures.slot in
    let over-low : over.index < entries_per_block (kind_view c.args.volume.now.layout.kind) = rw (c.layout.ensures.value, same) at c.place_of-over.ensures.low in
    let place-slot : place.index ≡ c.args.moved.now.place % entries_per_block (kind_view c.args.volume.now.layout.kind) = rw (c.layout-2.ensures.value, same) at c.place_of-place.ensures.slot in
    let place-low : place.index < entries_per_block (kind_view c.args.volume.now.layout.kind) = rw (c.layout-2.ensures.value, same) at c.place_of-place.ensures.low in
    let replaces = rw c.number_of-number.ensures at c.in_ok-turn_replace.ensures.replaces in
    let writes = c.in_ok-turn_replace.ensures.others in
    let entries = rw c.number_of-number.ensures at c.in_ok-turn_replace.ensures.entries in
    let stays = stays_over c.args.volume.now c.args.to.now c.args.moved.now c.args.former.now c.requires.fits.from c.requires.fits.to c.requires.short c.requires.apart (link_left c.args.volume.now.layout c.args.moved.now c.args.former.now c.requires.fits c.requires.apart) c.requires.may c.turn_links.new.volume turns1 seen1 over place c.place_of-over.ensures.zone over-slot over-low c.place_of-place.ensures.zone place-slot place-low c.turn_replace.new.volume (Ok tt) replaces writes in
    let before = stays.0.told_before (c.in_ok-release.ensures.releases.unseen.goes_on.told_before told) in
    let some = c.requires.may before in
    may_let_former c.args.volume.now some.directory some.from c.args.to.now c.args.moved.now c.args.former.now c.requires.fits.from c.requires.fits.to c.requires.short c.requires.apart (link_left c.args.volume.now.layout c.args.moved.now c.args.former.now c.requires.fits c.requires.apart) (λ told'. some.is) c.turn_links.new.volume turns1 seen1 over place c.place_of-over.ensures.zone over-slot over-low c.place_of-place.ensures.zone place-slot place-low c.turn_replace.new.volume replaces writes entries c.release.new.volume c.in_ok-release.ensures.releases before

pub returns-clause-carries : goal.returns-clause-carries
returns-clause-carries g c directory from may =
    let turns1 = c.in_ok-turn_links.ensures.turns in
    let seen1 = c.in_ok-turn_links.ensures.unseen (may_raise c.args.volume.now c.args.to.now c.args.moved.now c.args.former.now c.requires.fits.from c.requires.fits.to c.requires.short c.requires.apart (link_left c.args.volume.now.layout c.args.moved.now c.args.former.now c.requires.fits c.requires.apart) c.requires.may) in
    let over = c.place_of-over.result in
    let place = c.place_of-place.result in
    let same = turns1.kept.same_layout in
    let over-slot : over.index ≡ c.args.former.now.place % entries_per_block (kind_view c.args.volume.now.layout.kind) = rw (c.layout.ensures.value, same) at c.place_of-over.ensures.slot in
    let over-low : over.index < entries_per_block (kind_view c.args.volume.now.layout.kind) = rw (c.layout.ensures.value, same) at c.place_of-over.ensures.low in
    let place-slot : place.index ≡ c.args.moved.now.place % entries_per_block (kind_view c.args.volume.now.layout.kind) = rw (c.layout-2.ensures.value, same) at c.place_of-place.ensures.slot in
    let place-low : place.index < entries_per_block (kind_view c.args.volume.now.layout.kind) = rw (c.layout-2.ensures.value, same) at c.place_of-place.ensures.low in
    let replaces = rw c.number_of-number.ensures at c.in_ok-turn_replace.ensures.replaces in
    let writes = c.in_ok-turn_replace.ensures.others in
    let entries = rw c.number_of-number.ensures at c.in_ok-turn_replace.ensures.entries in
    carries_over c.args.volume.now directory from c.args.to.now c.args.moved.now c.args.former.now c.requires.fits.from c.requires.fits.to c.requires.short c.requires.apart (link_left c.args.volume.now.layout c.args.moved.now c.args.former.now c.requires.fits c.requires.apart) may c.turn_links.new.volume turns1 seen1 over place c.place_of-over.ensures.zone over-slot over-low c.place_of-place.ensures.zone place-slot place-low c.turn_replace.new.volume replaces writes entries c.release.new.volume c.in_ok-release.ensures.releases
    c.release-2.new.volume c.release-2.result c.release-2.ensures.releases

pub returns-clause-cause : goal.returns-clause-cause
returns-clause-cause g c =
    let turns1 = c.in_ok-turn_links.ensures.turns in
    let seen1 = c.in_ok-turn_links.ensures.unseen (may_raise c.args.volume.now c.args.to.now c.args.moved.now c.args.former.now c.requires.fits.from c.requires.fits.to c.requires.short c.requires.apart (link_left c.args.volume.now.layout c.args.moved.now c.args.former.now c.requires.fits c.requires.apart) c.requires.may) in
    let over = c.place_of-over.result in
    let place = c.place_of-place.result in
    let same = turns1.kept.same_layout in
    let over-slot : over.index ≡ c.args.former.now.place % entries_per_block (kind_view c.args.volume.now.layout.kind) = rw (c.layout.ensures.value, same) at c.place_of-over.ensures.slot in
    let over-low : over.index < entries_per_block (kind_view c.args.volume.now.layout.kind) = rw (c.layout.ensures.value, same) at c.place_of-over.ensures.low in
    let place-slot : place.index ≡ c.args.moved.now.place % entries_per_block (kind_view c.args.volume.now.layout.kind) = rw (c.layout-2.ensures.value, same) at c.place_of-place.ensures.slot in
    let place-low : place.index < entries_per_block (kind_view c.args.volume.now.layout.kind) = rw (c.layout-2.ensures.value, same) at c.place_of-place.ensures.low in
    let replaces = rw c.number_of-number.ensures at c.in_ok-turn_replace.ensures.replaces in
    let writes = c.in_ok-turn_replace.ensures.others in
    let entries = rw c.number_of-number.ensures at c.in_ok-turn_replace.ensures.entries in
    let stays = stays_over c.args.volume.now c.args.to.now c.args.moved.now c.args.former.now c.requires.fits.from c.requires.fits.to c.requires.short c.requires.apart (link_left c.args.volume.now.layout c.args.moved.now c.args.former.now c.requires.fits c.requires.apart) c.requires.may c.turn_links.new.volume turns1 seen1 over place c.place_of-over.ensures.zone over-slot over-low c.place_of-place.ensures.zone place-slot place-low c.turn_replace.new.volume (Ok tt) replaces writes in
    cause_taken c.args.volume.now c.turn_replace.new.volume c.release-2.new.volume c.release-2.result stays.0.later
    (cause_taken c.turn_replace.new.volume c.release.new.volume c.release-2.new.volume c.release-2.result c.in_ok-release.ensures.releases.unseen.goes_on.later c.release-2.ensures.releases.cause)
