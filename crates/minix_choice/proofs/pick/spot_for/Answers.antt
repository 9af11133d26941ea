-- A free inode and a place.
use Rattle.std.proofs.Common.{◌≡◌, None, Some, Err, rules}
use Rattle.lilo_model.specs.MinixParts.{parts_of}
use Rattle.minix_layout.specs.View.{kind_view, inode_view}
use Rattle.minix_zones.specs.Volume.{volume_view, past_of}
use Rattle.minix_zones.proofs.SameLemmas.{told_back}
use Rattle.write_model.specs.Choice.{free_inode}
use Rattle.minix_choice.specs.View.{taken_view}
use Rattle.minix_choice.proofs.ChooseLemmas.{spot_refused, no_inode, place_is, no_place, spot_is}
use Rattle.minix_choice.proofs.pick.spot_for.Goals as goal

pub returns-in_err-found-clause-spot : goal.returns-in_err-found-clause-spot
returns-in_err-found-clause-spot g c =
    let given : c.from_residual.result ≡ Err (c.in_err-found.field-0.0) = search rules in
    rw given
    (spot_refused (past_of c.args.volume.now) (volume_view c.args.volume.now) (taken_view c.args.taken.now) c.args.wish.now.directory c.args.wish.now.name.now c.in_err-found.field-0.0 c.in_err-found.ensures.free)

pub returns-in_default-clause-spot : goal.returns-in_default-clause-spot
returns-in_default-clause-spot g c =
    let none = told_back c.args.volume.now c.free_for.new.volume
    (λ volume now. None ≡ free_inode volume.layout (parts_of volume now) (taken_view c.args.taken.now).has_inode)
    c.free_for.ensures.same (rw c.in_default.is at c.in_ok-inode.ensures.inode) in
    no_inode (past_of c.args.volume.now) (volume_view c.args.volume.now) (taken_view c.args.taken.now) c.args.wish.now.directory c.args.wish.now.name.now c.in_ok-found.found.free c.in_ok-found.ensures.free none

pub returns-in_default-place_or_behind-clause-spot : goal.returns-in_default-place_or_behind-clause-spot
returns-in_default-place_or_behind-clause-spot g c =
    let inode = told_back c.args.volume.now c.free_for.new.volume
    (λ volume now. Some c.in-Some.inode ≡ free_inode volume.layout (parts_of volume now) (taken_view c.args.taken.now).has_inode)
    c.free_for.ensures.same (rw c.in-Some.is at c.in_ok-inode.ensures.inode) in
    let has = rw (c.layout.ensures.value, c.free_inode.ensures.same.same_layout, c.free_for.ensures.same.same_layout) at c.places-has.ensures.value in
    let most = rw (c.layout.ensures.value, c.free_inode.ensures.same.same_layout, c.free_for.ensures.same.same_layout) at c.most_places.ensures in
    let place = place_is (kind_view c.args.volume.now.layout.kind) (taken_view c.args.taken.now) c.args.wish.now.directory c.in_ok-found.found.stat.node.size c.places-has.result c.most_places.result c.in_ok-found.found.free c.place_or_behind.result
    has most c.place_or_behind.ensures.none c.place_or_behind.ensures.some in
    no_place (past_of c.args.volume.now) (volume_view c.args.volume.now) (taken_view c.args.taken.now) c.args.wish.now.directory c.in-Some.inode c.args.wish.now.name.now c.in_ok-found.found.free (inode_view c.in_ok-found.found.stat.node)
    c.in_ok-found.ensures.free inode (rw c.in_ok-found.ensures.number at c.in_ok-found.ensures.node) (rw c.in_default-place_or_behind.is at place)

pub returns-clause-spot : goal.returns-clause-spot
returns-clause-spot g c =
    let inode = told_back c.args.volume.now c.free_for.new.volume
    (λ volume now. Some c.in-Some.inode ≡ free_inode volume.layout (parts_of volume now) (taken_view c.args.taken.now).has_inode)
    c.free_for.ensures.same (rw c.in-Some.is at c.in_ok-inode.ensures.inode) in
    let has = rw (c.layout.ensures.value, c.free_inode.ensures.same.same_layout, c.free_for.ensures.same.same_layout) at c.places-has.ensures.value in
    let most = rw (c.layout.ensures.value, c.free_inode.ensures.same.same_layout, c.free_for.ensures.same.same_layout) at c.most_places.ensures in
    let place = place_is (kind_view c.args.volume.now.layout.kind) (taken_view c.args.taken.now) c.args.wish.now.directory c.in_ok-found.found.stat.node.size c.places-has.result c.most_places.result c.in_ok-found.found.free c.place_or_behind.result
    has most c.place_or_behind.ensures.none c.place_or_behind.ensures.some in
    spot_is (past_of c.args.volume.now) (volume_view c.args.volume.now) (taken_view c.args.taken.now) c.args.wish.now.directory c.in-Some.inode c.in-Some-place_or_behind.place c.args.wish.now.name.now c.in_ok-found.found.free (inode_view c.in_ok-found.found.stat.node)
    c.in_ok-found.ensures.free inode (rw c.in_ok-found.ensures.number at c.in_ok-found.ensures.node) (rw c.in-Some-place_or_behind.is at place)
