use Rattle.std.proofs.Common.{◌≡◌, Err, true, rules}
use Rattle.minix_layout.specs.View.{inode_view}
use Rattle.minix_choice.specs.View.{zone_refusal}
use Rattle.minix_create.specs.Grown.{HasRoom}
use Rattle.minix_create.proofs.GrownLemmas.{last_may, last_unused, last_room, no_room, last_grown, last_failed}
use Rattle.minix_create.proofs.grown.grow_last.Goals as goal

pub returns-then-not-has_room-clause-grows : goal.returns-then-not-has_room-clause-grows
returns-then-not-has_room-clause-grows g c =
    let old = c.args.volume.now in
    no_room old c.args.chosen.now (inode_view c.args.node.now) c.requires.quiet c.requires.last _
    (λ told.
    let r = last_room old c.args.chosen.now (inode_view c.args.node.now) c.requires.quiet c.requires.last c.requires.fits c.requires.sized told in
    let has : HasRoom old.layout c.args.chosen.now c.args.node.now = record { low = r.0; next = r.1; data_is = r.2 } in
    let both = rw c.layout.ensures.value at c.has_room.ensures in
    let yes : c.has_room.result ≡ true = both.1 has in
    let no = c.if-not-has_room.true in
    cc)

pub grow_directory-requires-clause-unused : goal.grow_directory-requires-clause-unused
grow_directory-requires-clause-unused g c =
    rw (c.place.ensures, c.growth.ensures) (last_unused c.args.volume.now c.args.chosen.now (inode_view c.args.node.now) c.requires.quiet c.requires.last)

pub returns-clause-grows : goal.returns-clause-grows
returns-clause-grows g c =
    let old = c.args.volume.now in
    let grows = rw (c.place.ensures, c.growth.ensures) at c.in_ok-grow_directory.ensures.grows in
    last_grown old c.args.chosen.now (inode_view c.args.node.now) c.requires.quiet c.requires.last c.grow_directory.new.volume
    (grows (last_may old c.args.chosen.now (inode_view c.args.node.now) c.requires.quiet c.requires.last))

pub returns-in_err-grow_directory-clause-grows : goal.returns-in_err-grow_directory-clause-grows
returns-in_err-grow_directory-clause-grows g c =
    let old = c.args.volume.now in
    let fault = c.in_err-grow_directory.field-0.0 in
    let is : c.from_residual.result ≡ Err (zone_refusal fault) = search rules in
    let grows = rw (c.place.ensures, c.growth.ensures) at c.in_err-grow_directory.ensures.grows in
    rw is (last_failed old c.args.chosen.now (inode_view c.args.node.now) c.requires.quiet c.requires.last c.grow_directory.new.volume fault
    (grows (last_may old c.args.chosen.now (inode_view c.args.node.now) c.requires.quiet c.requires.last)))
