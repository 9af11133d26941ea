use Rattle.std.proofs.Common.{◌≡◌, ◌+◌, ◌≤◌, Ok, Err, rules, arith}
use Rattle.lilo_model.specs.MinixEntries.{places}
use Rattle.minix_layout.specs.View.{kind_view, inode_view}
use Rattle.minix_choice.specs.declared.write_fault.WriteFault.TheVariants.{Device}
use Rattle.minix_zones.specs.declared.zone_fault.ZoneFault.TheVariants as zones
use Rattle.minix_create.proofs.BroughtLemmas.{brings_done, brings_again, read_refused, read_below, next_at, read_then}
use Rattle.minix_create.proofs.brought.bring_next.Goals as goal

pub returns-in_err-at-clause-brings : goal.returns-in_err-at-clause-brings
returns-in_err-at-clause-brings g c may =
    let fault = c.in_err-at.field-0.0 in
    let given : c.from_residual.result ≡ Err fault = search rules in
    rw given (read_refused c.args.volume.now c.place_at.new.volume c.args.directory c.args.place c.requires.room c.requires.quiet c.place_at.ensures.same c.place_at.ensures.later may fault c.in_err-at.ensures.finds c.in_err-at.ensures.cause)

pub returns-then-place-places-clause-brings : goal.returns-then-place-places-clause-brings
returns-then-place-places-clause-brings g c may =
    let is : c.places.result ≡ places (kind_view c.args.volume.now.layout.kind) (inode_view c.in_ok-at.at.node).size = rw (c.layout.ensures.value, c.place_at.ensures.same.same_layout) at c.places.ensures.value in
    read_below c.args.volume.now c.place_at.new.volume c.args.directory c.args.place c.requires.room c.requires.quiet c.place_at.ensures.same c.place_at.ensures.later may c.in_ok-at.at c.in_ok-at.ensures.finds c.places.result is c.if-place-places.true

pub returns-in-Ok-clause-brings : goal.returns-in-Ok-clause-brings
returns-in-Ok-clause-brings g c may =
    let is : c.places.result ≡ places (kind_view c.args.volume.now.layout.kind) (inode_view c.in_ok-at.at.node).size = rw (c.layout.ensures.value, c.place_at.ensures.same.same_layout) at c.places.ensures.value in
    let past : c.places.result ≤ c.args.place = let f = c.if-place-places.false in omega (arith, f) in
    read_then c.args.volume.now c.place_at.new.volume c.args.directory c.args.place c.requires.room c.requires.quiet c.place_at.ensures.same c.place_at.ensures.later may c.in_ok-at.at c.in_ok-at.ensures.finds c.places.result is
    c.write_next.new.volume (Ok tt)
    (brings_done c.place_at.new.volume c.write_next.new.volume c.args.directory (c.args.place + 1) zones.Device Device
    (c.in-Ok.ensures.brings (next_at c.args.volume.now c.place_at.new.volume c.args.directory c.args.place c.requires.room c.requires.quiet c.place_at.ensures.same c.place_at.ensures.later may c.in_ok-at.at c.in_ok-at.ensures.finds c.places.result is past)))

pub returns-in-Err-clause-brings : goal.returns-in-Err-clause-brings
returns-in-Err-clause-brings g c may =
    let is : c.places.result ≡ places (kind_view c.args.volume.now.layout.kind) (inode_view c.in_ok-at.at.node).size = rw (c.layout.ensures.value, c.place_at.ensures.same.same_layout) at c.places.ensures.value in
    let past : c.places.result ≤ c.args.place = let f = c.if-place-places.false in omega (arith, f) in
    read_then c.args.volume.now c.place_at.new.volume c.args.directory c.args.place c.requires.room c.requires.quiet c.place_at.ensures.same c.place_at.ensures.later may c.in_ok-at.at c.in_ok-at.ensures.finds c.places.result is
    c.write_next.new.volume (Err Device)
    (brings_again c.place_at.new.volume c.write_next.new.volume c.args.directory (c.args.place + 1) zones.Device c.in-Err.field-0 Device
    (c.in-Err.ensures.brings (next_at c.args.volume.now c.place_at.new.volume c.args.directory c.args.place c.requires.room c.requires.quiet c.place_at.ensures.same c.place_at.ensures.later may c.in_ok-at.at c.in_ok-at.ensures.finds c.places.result is past)))
