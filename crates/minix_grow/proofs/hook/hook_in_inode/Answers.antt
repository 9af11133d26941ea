use Rattle.std.proofs.Common.{◌≡◌, ◌<◌}
use Rattle.lilo_model.specs.MinixLayout.{numbers_in_zone, reach}
use Rattle.lilo_model.specs.MinixWalk.{branch_of}
use Rattle.minix_layout.specs.View.{kind_view, inode_view}
use Rattle.minix_turns.specs.Inode.{tops}
use Rattle.minix_grow.proofs.HookLemmas.{may_have_top, places_are_free, hook_keeps, hook_has}
use Rattle.minix_grow.proofs.OtherLemmas.{turns_hooked}
use Rattle.minix_grow.proofs.hook.hook_in_inode.Goals as goal

pub returns-clause-unseen : goal.returns-clause-unseen
returns-clause-unseen g c may =
    let branch : branch_of (numbers_in_zone (kind_view c.args.volume.now.layout.kind)) c.args.block ≡ record { top = c.branch_of-branch.result.top; first = c.branch_of-branch.result.first; depth = c.branch_of-branch.result.depth } =
    rw c.layout.ensures.value at c.branch_of-branch.ensures.branch in
    c.turn_pointer.ensures.unseen _
    (may_have_top c.args.volume.now c.turn_pointer.new.volume c.args.directory c.args.block c.args.size c.branch_of-branch.result.top c.branch_of-branch.result.first c.branch_of-branch.result.depth (inode_view c.args.node.now) c.args.growth.now
    branch c.requires.all c.requires.data c.requires.grown may)

pub returns-clause-places : goal.returns-clause-places
returns-clause-places g c place may =
    let branch : branch_of (numbers_in_zone (kind_view c.args.volume.now.layout.kind)) c.args.block ≡ record { top = c.branch_of-branch.result.top; first = c.branch_of-branch.result.first; depth = c.branch_of-branch.result.depth } =
    rw c.layout.ensures.value at c.branch_of-branch.ensures.branch in
    let reached : c.args.block < reach (kind_view c.args.volume.now.layout.kind) → c.branch_of-branch.result.top < tops (kind_view c.args.volume.now.layout.kind) = rw c.layout.ensures.value at c.branch_of-branch.ensures.reached in
    places_are_free c.args.volume.now c.turn_pointer.new.volume c.args.directory c.args.block c.args.size c.branch_of-branch.result.top c.branch_of-branch.result.first c.branch_of-branch.result.depth (inode_view c.args.node.now) c.args.growth.now
    branch c.requires.all c.requires.data c.requires.grown may
    c.requires.fits c.branch_of-branch.ensures.ten (reached c.requires.near) c.ranges.size.fits c.requires.sized c.turn_pointer.result c.turn_pointer.ensures.turns
    (c.turn_pointer.ensures.unseen _
    (may_have_top c.args.volume.now c.turn_pointer.new.volume c.args.directory c.args.block c.args.size c.branch_of-branch.result.top c.branch_of-branch.result.first c.branch_of-branch.result.depth (inode_view c.args.node.now) c.args.growth.now
    branch c.requires.all c.requires.data c.requires.grown may)) place

pub returns-clause-turns : goal.returns-clause-turns
returns-clause-turns g c =
    let branch : branch_of (numbers_in_zone (kind_view c.args.volume.now.layout.kind)) c.args.block ≡ record { top = c.branch_of-branch.result.top; first = c.branch_of-branch.result.first; depth = c.branch_of-branch.result.depth } =
    rw c.layout.ensures.value at c.branch_of-branch.ensures.branch in
    turns_hooked c.args.volume.now c.turn_pointer.new.volume c.args.directory c.args.block c.args.size c.branch_of-branch.result.top c.branch_of-branch.result.first c.branch_of-branch.result.depth (inode_view c.args.node.now) c.args.growth.now
    branch c.turn_pointer.result c.turn_pointer.ensures.turns

pub returns-clause-keeps : goal.returns-clause-keeps
returns-clause-keeps g c may =
    let branch : branch_of (numbers_in_zone (kind_view c.args.volume.now.layout.kind)) c.args.block ≡ record { top = c.branch_of-branch.result.top; first = c.branch_of-branch.result.first; depth = c.branch_of-branch.result.depth } =
    rw c.layout.ensures.value at c.branch_of-branch.ensures.branch in
    let reached : c.args.block < reach (kind_view c.args.volume.now.layout.kind) → c.branch_of-branch.result.top < tops (kind_view c.args.volume.now.layout.kind) = rw c.layout.ensures.value at c.branch_of-branch.ensures.reached in
    hook_keeps c.args.volume.now c.turn_pointer.new.volume c.args.directory c.args.block c.args.size c.branch_of-branch.result.top c.branch_of-branch.result.first c.branch_of-branch.result.depth (inode_view c.args.node.now) c.args.growth.now
    branch c.requires.all c.requires.data c.requires.grown may
    c.requires.fits c.branch_of-branch.ensures.ten (reached c.requires.near) c.ranges.size.fits c.requires.sized c.turn_pointer.result c.turn_pointer.ensures.turns

pub returns-clause-has : goal.returns-clause-has
returns-clause-has g c may =
    let branch : branch_of (numbers_in_zone (kind_view c.args.volume.now.layout.kind)) c.args.block ≡ record { top = c.branch_of-branch.result.top; first = c.branch_of-branch.result.first; depth = c.branch_of-branch.result.depth } =
    rw c.layout.ensures.value at c.branch_of-branch.ensures.branch in
    let reached : c.args.block < reach (kind_view c.args.volume.now.layout.kind) → c.branch_of-branch.result.top < tops (kind_view c.args.volume.now.layout.kind) = rw c.layout.ensures.value at c.branch_of-branch.ensures.reached in
    hook_has c.args.volume.now c.turn_pointer.new.volume c.args.directory c.args.block c.args.size c.branch_of-branch.result.top c.branch_of-branch.result.first c.branch_of-branch.result.depth (inode_view c.args.node.now) c.args.growth.now
    branch c.requires.all c.requires.data c.requires.grown may
    c.requires.fits c.branch_of-branch.ensures.ten (reached c.requires.near) c.ranges.size.fits c.requires.sized c.turn_pointer.result c.turn_pointer.ensures.turns
    (c.turn_pointer.ensures.unseen _
    (may_have_top c.args.volume.now c.turn_pointer.new.volume c.args.directory c.args.block c.args.size c.branch_of-branch.result.top c.branch_of-branch.result.first c.branch_of-branch.result.depth (inode_view c.args.node.now) c.args.growth.now
    branch c.requires.all c.requires.data c.requires.grown may))
