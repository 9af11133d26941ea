-- What is chosen for a wish.
use Rattle.std.proofs.Common.{◌≡◌, Ok, Err, rules}
use Rattle.lilo_model.specs.MinixParts.{parts_of}
use Rattle.minix_layout.specs.View.{inode_view}
use Rattle.minix_zones.specs.Volume.{volume_view, past_of}
use Rattle.minix_zones.proofs.SameLemmas.{told_back, told_forth}
use Rattle.minix_choice.specs.Chosen.{zones_for, zones_with}
use Rattle.minix_choice.specs.View.{taken_view, wish_view, Refuses}
use Rattle.minix_choice.proofs.PickLemmas.{no_spot, no_zones, picked}
use Rattle.minix_choice.proofs.pick.pick.Goals as goal

pub returns-in_err-spot-clause-choice : goal.returns-in_err-spot-clause-choice
returns-in_err-spot-clause-choice g c =
    let given : c.from_residual-in_err-spot.result ≡ Err (c.in_err-spot.field-0.0) = search rules in
    rw given
    (no_spot (past_of c.args.volume.now) (volume_view c.args.volume.now) (taken_view c.args.taken.now) (wish_view c.args.wish.now) c.in_err-spot.field-0.0 c.in_err-spot.ensures.spot)

pub zones_for-requires-clause-node : goal.zones_for-requires-clause-node
zones_for-requires-clause-node g c =
    told_forth c.args.volume.now c.spot_for.new.volume
    (λ volume now. inode_view c.in_ok-spot.spot.stat.node ≡ (parts_of volume now).node c.in_ok-spot.spot.stat.inode)
    c.spot_for.ensures.same c.in_ok-spot.ensures.node

pub returns-in_err-found-clause-choice : goal.returns-in_err-found-clause-choice
returns-in_err-found-clause-choice g c =
    let given : c.from_residual-in_err-found.result ≡ Err (c.in_err-found.field-0.0) = search rules in
    let short = told_back c.args.volume.now c.spot_for.new.volume
    (λ volume now. Refuses c.in_err-found.field-0.0 (zones_for volume.layout (parts_of volume now) (taken_view c.args.taken.now) c.args.wish.now.directory c.in_ok-file.file.need c.in_ok-spot.spot.place))
    c.spot_for.ensures.same (rw c.in_ok-spot.ensures.number at c.in_err-found.ensures.zones) in
    rw given
    (no_zones (past_of c.args.volume.now) (volume_view c.args.volume.now) (taken_view c.args.taken.now) (wish_view c.args.wish.now) c.in_ok-file.file.blocks.items c.in_ok-file.file.need c.in_ok-spot.spot.inode c.in_ok-spot.spot.place c.in_err-found.field-0.0
    c.in_ok-file.ensures.blocks (rw c.layout.ensures.value at c.in_ok-file.ensures.need) c.in_ok-spot.ensures.spot short)

pub returns-clause-choice : goal.returns-clause-choice
returns-clause-choice g c =
    let found = told_back c.args.volume.now c.spot_for.new.volume
    (λ volume now. zones_for volume.layout (parts_of volume now) (taken_view c.args.taken.now) c.args.wish.now.directory c.in_ok-file.file.need c.in_ok-spot.spot.place ≡ Ok (zones_with c.in_ok-found.found.promised.items c.in_ok-found.found.zones))
    c.spot_for.ensures.same (rw c.in_ok-spot.ensures.number at c.in_ok-found.ensures.zones) in
    picked (past_of c.args.volume.now) (volume_view c.args.volume.now) (taken_view c.args.taken.now) (wish_view c.args.wish.now) c.in_ok-file.file.blocks.items c.in_ok-file.file.need c.in_ok-spot.spot.inode c.in_ok-spot.spot.place c.in_ok-found.found.promised.items c.in_ok-found.found.zones c.in_ok-choice.choice
    c.in_ok-file.ensures.blocks (rw c.layout.ensures.value at c.in_ok-file.ensures.need) c.in_ok-spot.ensures.spot found (rw c.layout.ensures.value at c.in_ok-choice.ensures.choice)
