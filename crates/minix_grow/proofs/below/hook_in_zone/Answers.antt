use Rattle.std.proofs.Common.{◌≡◌, ◌≢◌, ◌-◌, ◌<◌, ℕ, suc, length, slice_index, OnOk, arith, subst}
use Rattle.disk_trait.specs.Moments.{IsTold, now}
use Rattle.lilo_model.specs.MinixLayout.{numbers_in_zone}
use Rattle.minix_layout.specs.View.{kind_view, super_view}
use Rattle.minix_steps.proofs.RegionLemmas.{zone_behind}
use Rattle.minix_turns.specs.Names.{HooksUnseen}
use Rattle.minix_turns.specs.Part.{HasNumberPart}
use Rattle.minix_zones.specs.Volume.{past_of}
use Rattle.minix_grow.specs.Way.{depth_of, index_above}
use Rattle.minix_grow.proofs.BelowLemmas.{hooks_below_unseen, hooks_free_block, hook_keeps_others, hook_has_each}
use Rattle.minix_grow.proofs.WayLemmas.{depth_few}
use Rattle.minix_grow.proofs.below.hook_in_zone.Goals as goal

pub overflow_cast-level : goal.overflow_cast-level
overflow_cast-level g c =
    let few = c.requires.few in
    let three = depth_few (kind_view c.args.volume.now.layout.kind) c.args.block in
    omega (arith, few, three)

pub index_above-index-requires : goal.index_above-index-requires
index_above-index-requires g c =
    let few = c.requires.few in
    let three = depth_few (kind_view c.args.volume.now.layout.kind) c.args.block in
    omega (arith, few, three)

pub returns-clause-unseen : goal.returns-clause-unseen
returns-clause-unseen g c =
    let old = c.args.volume.now in
    let new = c.turn_number.new.volume in
    let some = c.requires.some in
    let few = c.requires.few in
    let index : c.index_above-index.result ≡ index_above (kind_view old.layout.kind) c.args.block (length c.args.growth.now - 1) = rw c.layout.ensures.value at c.index_above-index.ensures.is in
    let last : length c.args.growth.now ≡ suc (length c.args.growth.now - 1) = omega (arith, some) in
    let deep : length c.args.growth.now - 1 < depth_of (kind_view old.layout.kind) c.args.block = omega (arith, some, few) in
    let U : ℕ → Type 0 = λ i. HooksUnseen old new c.args.zone i (slice_index c.args.growth.now (length c.args.growth.now - 1)) in
    hooks_below_unseen old new c.args.block c.args.zone (length c.args.growth.now - 1) c.args.growth.now last deep c.requires.data c.requires.grown (subst U index c.turn_number.ensures.unseen)

pub returns-clause-block : goal.returns-clause-block
returns-clause-block g c =
    let old = c.args.volume.now in
    let new = c.turn_number.new.volume in
    let some = c.requires.some in
    let few = c.requires.few in
    let from = c.requires.from in
    let index : c.index_above-index.result ≡ index_above (kind_view old.layout.kind) c.args.block (length c.args.growth.now - 1) = rw c.layout.ensures.value at c.index_above-index.ensures.is in
    let low : c.index_above-index.result < numbers_in_zone (kind_view old.layout.kind) = rw c.layout.ensures.value at c.index_above-index.ensures.low in
    let last : length c.args.growth.now ≡ suc (length c.args.growth.now - 1) = omega (arith, some) in
    let deep : length c.args.growth.now - 1 < depth_of (kind_view old.layout.kind) c.args.block = omega (arith, some, few) in
    let U : ℕ → Type 0 = λ i. HooksUnseen old new c.args.zone i (slice_index c.args.growth.now (length c.args.growth.now - 1)) in
    let N : ℕ → Type 0 = λ i. i < numbers_in_zone (kind_view old.layout.kind) in
    let H : ℕ → Type 0 = λ i. IsTold (past_of old) → OnOk c.turn_number.result (HasNumberPart old (now (past_of new)) c.args.zone i (slice_index c.args.growth.now (length c.args.growth.now - 1))) in
    let there : c.args.zone ≢ 0 = λ none. let behind = zone_behind (super_view old.layout) old.span.count old.whole in omega (arith, behind, from, none) in
    hooks_free_block old new c.args.block c.args.zone (length c.args.growth.now - 1) c.args.growth.now last deep c.requires.data c.requires.grown (subst N index low) there c.turn_number.result
    (subst U index c.turn_number.ensures.unseen) (subst H index c.turn_number.ensures.number)

pub returns-clause-keeps : goal.returns-clause-keeps
returns-clause-keeps g c =
    let old = c.args.volume.now in
    let new = c.turn_number.new.volume in
    let some = c.requires.some in
    let few = c.requires.few in
    let from = c.requires.from in
    let index : c.index_above-index.result ≡ index_above (kind_view old.layout.kind) c.args.block (length c.args.growth.now - 1) = rw c.layout.ensures.value at c.index_above-index.ensures.is in
    let low : c.index_above-index.result < numbers_in_zone (kind_view old.layout.kind) = rw c.layout.ensures.value at c.index_above-index.ensures.low in
    let last : length c.args.growth.now ≡ suc (length c.args.growth.now - 1) = omega (arith, some) in
    let deep : length c.args.growth.now - 1 < depth_of (kind_view old.layout.kind) c.args.block = omega (arith, some, few) in
    let U : ℕ → Type 0 = λ i. HooksUnseen old new c.args.zone i (slice_index c.args.growth.now (length c.args.growth.now - 1)) in
    let N : ℕ → Type 0 = λ i. i < numbers_in_zone (kind_view old.layout.kind) in
    let H : ℕ → Type 0 = λ i. IsTold (past_of old) → OnOk c.turn_number.result (HasNumberPart old (now (past_of new)) c.args.zone i (slice_index c.args.growth.now (length c.args.growth.now - 1))) in
    let there : c.args.zone ≢ 0 = λ none. let behind = zone_behind (super_view old.layout) old.span.count old.whole in omega (arith, behind, from, none) in
    hook_keeps_others old new c.args.block c.args.zone (length c.args.growth.now - 1) c.args.growth.now last deep c.requires.data c.requires.grown (subst N index low) there c.turn_number.result
    (subst U index c.turn_number.ensures.unseen) (subst H index c.turn_number.ensures.number)

pub returns-clause-has : goal.returns-clause-has
returns-clause-has g c =
    let old = c.args.volume.now in
    let new = c.turn_number.new.volume in
    let some = c.requires.some in
    let few = c.requires.few in
    let from = c.requires.from in
    let index : c.index_above-index.result ≡ index_above (kind_view old.layout.kind) c.args.block (length c.args.growth.now - 1) = rw c.layout.ensures.value at c.index_above-index.ensures.is in
    let low : c.index_above-index.result < numbers_in_zone (kind_view old.layout.kind) = rw c.layout.ensures.value at c.index_above-index.ensures.low in
    let last : length c.args.growth.now ≡ suc (length c.args.growth.now - 1) = omega (arith, some) in
    let deep : length c.args.growth.now - 1 < depth_of (kind_view old.layout.kind) c.args.block = omega (arith, some, few) in
    let U : ℕ → Type 0 = λ i. HooksUnseen old new c.args.zone i (slice_index c.args.growth.now (length c.args.growth.now - 1)) in
    let N : ℕ → Type 0 = λ i. i < numbers_in_zone (kind_view old.layout.kind) in
    let H : ℕ → Type 0 = λ i. IsTold (past_of old) → OnOk c.turn_number.result (HasNumberPart old (now (past_of new)) c.args.zone i (slice_index c.args.growth.now (length c.args.growth.now - 1))) in
    let there : c.args.zone ≢ 0 = λ none. let behind = zone_behind (super_view old.layout) old.span.count old.whole in omega (arith, behind, from, none) in
    hook_has_each old new c.args.block c.args.zone (length c.args.growth.now - 1) c.args.growth.now last deep c.requires.data c.requires.grown (subst N index low) there c.turn_number.result
    (subst U index c.turn_number.ensures.unseen) (subst H index c.turn_number.ensures.number)
