use Rattle.std.proofs.Common.{◌≡◌, ◌/◌, ℕ, sym, subst, arith}
use Rattle.lilo_model.specs.MinixEntries.{entries_per_block}
use Rattle.minix_layout.specs.View.{kind_view, inode_view}
use Rattle.minix_grow.specs.Grow.{IsSizeOver}
use Rattle.minix_grow.specs.Hook.{MayHookTopNow}
use Rattle.minix_grow.proofs.GrowLemmas.{all_missing, over_below, some_there}
use Rattle.minix_grow.proofs.WayLemmas.{depth_few}
use Rattle.minix_grow.proofs.grow.grow_by.Goals as goal

pub grow_in_inode-requires-clause-few : goal.grow_in_inode-requires-clause-few
grow_in_inode-requires-clause-few g c =
    let kind = kind_view c.args.volume.now.layout.kind in
    let low = c.requires.lowest.low in
    let three = depth_few kind (c.args.place / entries_per_block kind) in
    omega (arith, low, three)

pub returns-then-zone-ne0-clause-unseen : goal.returns-then-zone-ne0-clause-unseen
returns-then-zone-ne0-clause-unseen g c may =
    c.grow_in_zone.ensures.unseen (λ told. (may told).in_zone (some_there c.args.volume.now.layout _ _ c.args.zone c.requires.lowest c.if-zone-ne0.true))

pub returns-then-zone-ne0-clause-place : goal.returns-then-zone-ne0-clause-place
returns-then-zone-ne0-clause-place g c may told =
    c.grow_in_zone.ensures.place (λ told'. (may told').in_zone (some_there c.args.volume.now.layout _ _ c.args.zone c.requires.lowest c.if-zone-ne0.true)) told

pub returns-clause-unseen : goal.returns-clause-unseen
returns-clause-unseen g c may =
    let old = c.args.volume.now in
    let kind = kind_view old.layout.kind in
    let none : c.args.zone ≡ 0 = let same = c.if-zone-ne0.false in omega (arith, same) in
    let block : c.block_of-block.result ≡ c.args.place / entries_per_block kind = rw c.layout.ensures.value at c.block_of-block.ensures in
    let over : IsSizeOver kind c.args.node.now.size c.args.place c.size_over-size.result = rw c.layout.ensures.value at c.size_over-size.ensures in
    let M : ℕ → Type 0 = λ b. MayHookTopNow old c.args.directory (inode_view c.args.node.now) b c.size_over-size.result in
    c.grow_in_inode.ensures.unseen (λ told. subst M (sym block) ((may told).in_inode (all_missing old.layout _ _ c.args.zone c.requires.lowest none) c.size_over-size.result over))

pub returns-clause-place : goal.returns-clause-place
returns-clause-place g c may told =
    let old = c.args.volume.now in
    let kind = kind_view old.layout.kind in
    let none : c.args.zone ≡ 0 = let same = c.if-zone-ne0.false in omega (arith, same) in
    let block : c.block_of-block.result ≡ c.args.place / entries_per_block kind = rw c.layout.ensures.value at c.block_of-block.ensures in
    let over : IsSizeOver kind c.args.node.now.size c.args.place c.size_over-size.result = rw c.layout.ensures.value at c.size_over-size.ensures in
    let M : ℕ → Type 0 = λ b. MayHookTopNow old c.args.directory (inode_view c.args.node.now) b c.size_over-size.result in
    c.grow_in_inode.ensures.places c.args.place
    (λ told'. subst M (sym block) ((may told').in_inode (all_missing old.layout _ _ c.args.zone c.requires.lowest none) c.size_over-size.result over)) told
    (sym block) (over_below kind c.args.node.now.size c.args.place c.size_over-size.result over)

pub returns-then-zone-ne0-clause-keeps : goal.returns-then-zone-ne0-clause-keeps
returns-then-zone-ne0-clause-keeps g c may told =
    c.grow_in_zone.ensures.keeps (λ told'. (may told').in_zone (some_there c.args.volume.now.layout _ _ c.args.zone c.requires.lowest c.if-zone-ne0.true)) told

pub returns-clause-keeps : goal.returns-clause-keeps
returns-clause-keeps g c may told =
    let old = c.args.volume.now in
    let kind = kind_view old.layout.kind in
    let none : c.args.zone ≡ 0 = let same = c.if-zone-ne0.false in omega (arith, same) in
    let block : c.block_of-block.result ≡ c.args.place / entries_per_block kind = rw c.layout.ensures.value at c.block_of-block.ensures in
    let over : IsSizeOver kind c.args.node.now.size c.args.place c.size_over-size.result = rw c.layout.ensures.value at c.size_over-size.ensures in
    let M : ℕ → Type 0 = λ b. MayHookTopNow old c.args.directory (inode_view c.args.node.now) b c.size_over-size.result in
    c.grow_in_inode.ensures.keeps
    (λ told'. subst M (sym block) ((may told').in_inode (all_missing old.layout _ _ c.args.zone c.requires.lowest none) c.size_over-size.result over)) told
