use Rattle.std.proofs.Common.{◌≡◌, ◌≤◌, ◌<◌, ℕ, [], arith, subst}
use Rattle.disk_trait.proofs.NotWrittenLemmas.{not_written_none}
use Rattle.minix_layout.specs.View.{kind_view, inode_view}
use Rattle.minix_zones.specs.Volume.{past_of}
use Rattle.minix_grow.specs.Places.{size_to}
use Rattle.minix_grow.proofs.KeepsNowLemmas.{no_call_keeps}
use Rattle.minix_grow.proofs.RaiseLemmas.{same_unseen, free_below, may_raise, raised_is_free, raised_keeps}
use Rattle.minix_grow.proofs.below.raise_over.Goals as goal

pub returns-then-size-node-clause-unseen : goal.returns-then-size-node-clause-unseen
returns-then-size-node-clause-unseen g c block = same_unseen c.args.volume.now c.requires.quiet (λ told. (block told).sound)

pub returns-then-size-node-clause-others : goal.returns-then-size-node-clause-others
returns-then-size-node-clause-others g c d s off = not_written_none (past_of c.args.volume.now) d s

pub returns-then-size-node-clause-place : goal.returns-then-size-node-clause-place
returns-then-size-node-clause-place g c block =
    let size : c.size_to-size.result ≡ size_to (kind_view c.args.volume.now.layout.kind) c.args.place = rw c.layout.ensures.value at c.size_to-size.ensures in
    let low = c.if-size-node.true in
    let N : ℕ → Type 0 = λ s. s ≤ c.args.node.now.size in
    free_below c.args.volume.now c.args.directory c.args.place (inode_view c.args.node.now) c.requires.fits block (subst N size low)

pub returns-clause-unseen : goal.returns-clause-unseen
returns-clause-unseen g c block =
    let size : c.size_to-size.result ≡ size_to (kind_view c.args.volume.now.layout.kind) c.args.place = rw c.layout.ensures.value at c.size_to-size.ensures in
    let high = c.if-size-node.false in
    let past : c.args.node.now.size < size_to (kind_view c.args.volume.now.layout.kind) c.args.place = omega (arith, size, high) in
    c.turn_size.ensures.unseen
    (may_raise c.args.volume.now c.args.directory c.args.place (inode_view c.args.node.now) c.requires.fits block c.requires.sized c.requires.small past c.requires.next c.size_to-size.result size)

pub returns-clause-place : goal.returns-clause-place
returns-clause-place g c block =
    let size : c.size_to-size.result ≡ size_to (kind_view c.args.volume.now.layout.kind) c.args.place = rw c.layout.ensures.value at c.size_to-size.ensures in
    let high = c.if-size-node.false in
    let past : c.args.node.now.size < size_to (kind_view c.args.volume.now.layout.kind) c.args.place = omega (arith, size, high) in
    raised_is_free c.args.volume.now c.args.directory c.args.place (inode_view c.args.node.now) c.requires.fits block c.requires.sized c.requires.small past c.requires.next c.size_to-size.result size
    c.turn_size.new.volume c.turn_size.result
    (c.turn_size.ensures.unseen
    (may_raise c.args.volume.now c.args.directory c.args.place (inode_view c.args.node.now) c.requires.fits block c.requires.sized c.requires.small past c.requires.next c.size_to-size.result size))
    c.turn_size.ensures.turns

pub returns-then-size-node-clause-keeps : goal.returns-then-size-node-clause-keeps
returns-then-size-node-clause-keeps g c block told = no_call_keeps c.args.volume.now c.args.directory []

pub returns-clause-keeps : goal.returns-clause-keeps
returns-clause-keeps g c block =
    let size : c.size_to-size.result ≡ size_to (kind_view c.args.volume.now.layout.kind) c.args.place = rw c.layout.ensures.value at c.size_to-size.ensures in
    let high = c.if-size-node.false in
    let past : c.args.node.now.size < size_to (kind_view c.args.volume.now.layout.kind) c.args.place = omega (arith, size, high) in
    raised_keeps c.args.volume.now c.args.directory c.args.place (inode_view c.args.node.now) c.requires.fits block c.requires.sized c.requires.small past c.requires.next c.size_to-size.result size
    c.turn_size.new.volume c.turn_size.result c.turn_size.ensures.turns
