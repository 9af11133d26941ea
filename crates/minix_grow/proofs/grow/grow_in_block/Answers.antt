use Rattle.std.proofs.Common.{◌≡◌, ◌≤◌, ◌<◌, ℕ, [], arith, subst}
use Rattle.disk_trait.proofs.NotWrittenLemmas.{not_written_none}
use Rattle.minix_layout.specs.View.{kind_view}
use Rattle.minix_zones.specs.Volume.{past_of}
use Rattle.minix_grow.specs.Places.{size_to}
use Rattle.minix_grow.proofs.KeepsNowLemmas.{no_call_keeps}
use Rattle.minix_grow.proofs.RaiseLemmas.{same_unseen}
use Rattle.minix_grow.proofs.grow.grow_in_block.Goals as goal

pub returns-then-size-node-clause-unseen : goal.returns-then-size-node-clause-unseen
returns-then-size-node-clause-unseen g c may = same_unseen c.args.volume.now c.requires.quiet c.requires.sound

pub returns-then-size-node-clause-others : goal.returns-then-size-node-clause-others
returns-then-size-node-clause-others g c d s off other = not_written_none (past_of c.args.volume.now) d s

pub returns-then-size-node-clause-place : goal.returns-then-size-node-clause-place
returns-then-size-node-clause-place g c may told =
    let size : c.size_to-size.result ≡ size_to (kind_view c.args.volume.now.layout.kind) c.args.place = rw c.layout.ensures.value at c.size_to-size.ensures in
    let low = c.if-size-node.true in
    let N : ℕ → Type 0 = λ s. s ≤ c.args.node.now.size in
    (may told).free (subst N size low)

pub returns-clause-unseen : goal.returns-clause-unseen
returns-clause-unseen g c may =
    let size : c.size_to-size.result ≡ size_to (kind_view c.args.volume.now.layout.kind) c.args.place = rw c.layout.ensures.value at c.size_to-size.ensures in
    let high = c.if-size-node.false in
    let past : c.args.node.now.size < size_to (kind_view c.args.volume.now.layout.kind) c.args.place = omega (arith, size, high) in
    c.extend_in_zone.ensures.unseen (λ told. (may told).next past)

pub returns-clause-place : goal.returns-clause-place
returns-clause-place g c may told =
    let size : c.size_to-size.result ≡ size_to (kind_view c.args.volume.now.layout.kind) c.args.place = rw c.layout.ensures.value at c.size_to-size.ensures in
    let high = c.if-size-node.false in
    let past : c.args.node.now.size < size_to (kind_view c.args.volume.now.layout.kind) c.args.place = omega (arith, size, high) in
    c.extend_in_zone.ensures.place (λ told'. (may told').next past) told

pub returns-then-size-node-clause-keeps : goal.returns-then-size-node-clause-keeps
returns-then-size-node-clause-keeps g c may told = no_call_keeps c.args.volume.now c.args.directory []

pub returns-clause-keeps : goal.returns-clause-keeps
returns-clause-keeps g c may told =
    let size : c.size_to-size.result ≡ size_to (kind_view c.args.volume.now.layout.kind) c.args.place = rw c.layout.ensures.value at c.size_to-size.ensures in
    let high = c.if-size-node.false in
    let past : c.args.node.now.size < size_to (kind_view c.args.volume.now.layout.kind) c.args.place = omega (arith, size, high) in
    c.extend_in_zone.ensures.keeps (λ told'. (may told').next past) told
