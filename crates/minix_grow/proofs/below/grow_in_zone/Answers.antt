use Rattle.std.proofs.Common.{◌≡◌, ◌≤◌, ◌/◌, ℕ, [], length, sym, ◌∙◌, subst, arith}
use Rattle.disk_trait.specs.Moments.{IsTold, now}
use Rattle.disk_trait.proofs.MomentLemmas.{on_ok}
use Rattle.disk_trait.proofs.NotWrittenLemmas.{not_written_join}
use Rattle.lilo_model.specs.MinixEntries.{entries_per_block}
use Rattle.lilo_model.specs.MinixParts.{parts_of}
use Rattle.minix_layout.specs.View.{kind_view, inode_view, super_view}
use Rattle.minix_layout.specs.declared.superblock.Super.{Super}
use Rattle.minix_steps.specs.Written.{parts_now}
use Rattle.minix_steps.proofs.ReadyLemmas.{quiet_ready}
use Rattle.minix_turns.proofs.JoinedLemmas.{steps_unseen, unseen_join}
use Rattle.minix_zones.specs.Volume.{volume_view, past_of}
use Rattle.minix_grow.specs.Below.{MayHookBelowNow, HasFreeBlock, IsOffNumber}
use Rattle.minix_grow.specs.Way.{depth_of}
use Rattle.minix_grow.proofs.AfterLemmas.{below_after}
use Rattle.minix_grow.proofs.KeepLemmas.{one_of_none, keeps_wider}
use Rattle.minix_grow.proofs.KeepsNowLemmas.{grown_keep, keeps_after}
use Rattle.minix_grow.proofs.OtherLemmas.{other_stays, off_number_stays}
use Rattle.minix_grow.proofs.WayLemmas.{depth_few}
use Rattle.minix_grow.proofs.below.grow_in_zone.Goals as goal

pub make_zones-requires-clause-few : goal.make_zones-requires-clause-few
make_zones-requires-clause-few g c =
    let kind = kind_view c.args.volume.now.layout.kind in
    let few = c.requires.few in
    let three = depth_few kind (c.args.place / entries_per_block kind) in
    omega (arith, few, three)

pub make_zones-requires-clause-ready : goal.make_zones-requires-clause-ready
make_zones-requires-clause-ready g c = quiet_ready c.args.volume.now c.requires.quiet c.requires.sound

pub returns-in_err-make_zones-clause-unseen : goal.returns-in_err-make_zones-clause-unseen
returns-in_err-make_zones-clause-unseen g c may =
    steps_unseen c.args.volume.now c.make_zones.new.volume c.requires.quiet c.requires.sound c.make_zones.ensures.steps

pub returns-in_err-hook_in_zone-clause-unseen : goal.returns-in_err-hook_in_zone-clause-unseen
returns-in_err-hook_in_zone-clause-unseen g c may =
    let old = c.args.volume.now in
    let mid = c.make_zones.new.volume in
    let node = inode_view c.args.node.now in
    let kind = kind_view old.layout.kind in
    let block : c.block_of-block.result ≡ c.args.place / entries_per_block kind = rw c.layout.ensures.value at c.block_of-block.ensures in
    let M : ℕ → Type 0 = λ b. IsTold (past_of old) → MayHookBelowNow old c.args.directory node b (length c.args.growth.now) c.args.zone in
    let F : ℕ → Type 0 = λ b. length c.args.growth.now ≤ depth_of kind b in
    unseen_join old mid c.hook_in_zone.new.volume
    (steps_unseen old mid c.requires.quiet c.requires.sound c.make_zones.ensures.steps)
    (c.hook_in_zone.ensures.unseen c.args.directory node
    (below_after old mid c.args.directory c.block_of-block.result (length c.args.growth.now) c.args.zone node (quiet_ready old c.requires.quiet c.requires.sound) c.requires.quiet c.make_zones.ensures.steps
    (subst F (sym block) c.requires.few) (subst M (sym block) may)))

pub returns-in_err-hook_in_zone-clause-others : goal.returns-in_err-hook_in_zone-clause-others
returns-in_err-hook_in_zone-clause-others g c d s off number other =
    let old = c.args.volume.now in
    let mid = c.make_zones.new.volume in
    let block : c.block_of-block.result ≡ c.args.place / entries_per_block (kind_view old.layout.kind) = rw c.layout.ensures.value at c.block_of-block.ensures in
    let N : ℕ → Type 0 = λ b. IsOffNumber mid b (length c.args.growth.now) c.args.zone d s in
    not_written_join (past_of old) (past_of mid) (past_of c.hook_in_zone.new.volume) d s
    (c.make_zones.ensures.others d s off)
    (c.hook_in_zone.ensures.turns.others d s (subst N (sym block) (off_number_stays old mid c.make_zones.ensures.steps.kept _ (length c.args.growth.now) c.args.zone d s number)))

pub returns-clause-unseen : goal.returns-clause-unseen
returns-clause-unseen g c may =
    let old = c.args.volume.now in
    let mid = c.make_zones.new.volume in
    let new = c.hook_in_zone.new.volume in
    let node = inode_view c.args.node.now in
    let kind = kind_view old.layout.kind in
    let block : c.block_of-block.result ≡ c.args.place / entries_per_block kind = rw c.layout.ensures.value at c.block_of-block.ensures in
    let M : ℕ → Type 0 = λ b. IsTold (past_of old) → MayHookBelowNow old c.args.directory node b (length c.args.growth.now) c.args.zone in
    let F : ℕ → Type 0 = λ b. length c.args.growth.now ≤ depth_of kind b in
    let B : Super → Type 0 = λ l. c.block_of-block.result ≡ c.args.place / entries_per_block (kind_view l.kind) in
    let layout = c.hook_in_zone.ensures.turns.kept.same_layout ∙ c.make_zones.ensures.steps.kept.same_layout in
    let H : ℕ → Type 0 = λ b. HasFreeBlock (volume_view new) (now (past_of new)) c.args.directory node b in
    let may_mid : IsTold (past_of mid) → MayHookBelowNow mid c.args.directory node c.block_of-block.result (length c.args.growth.now) c.args.zone =
    below_after old mid c.args.directory c.block_of-block.result (length c.args.growth.now) c.args.zone node (quiet_ready old c.requires.quiet c.requires.sound) c.requires.quiet c.make_zones.ensures.steps
    (subst F (sym block) c.requires.few) (subst M (sym block) may) in
    let there : IsTold (past_of new) → HasFreeBlock (volume_view new) (now (past_of new)) c.args.directory node (c.args.place / entries_per_block (kind_view new.layout.kind)) =
    λ told'. subst H (subst B (sym layout) block) (c.in_ok-hook_in_zone.ensures.block c.args.directory node may_mid (c.hook_in_zone.ensures.turns.goes_on.told_before told')) in
    unseen_join old new c.raise_over.new.volume
    (unseen_join old mid new
    (steps_unseen old mid c.requires.quiet c.requires.sound c.make_zones.ensures.steps)
    (c.hook_in_zone.ensures.unseen c.args.directory node may_mid))
    (c.raise_over.ensures.unseen there)

pub returns-clause-place : goal.returns-clause-place
returns-clause-place g c may told =
    let old = c.args.volume.now in
    let mid = c.make_zones.new.volume in
    let new = c.hook_in_zone.new.volume in
    let node = inode_view c.args.node.now in
    let kind = kind_view old.layout.kind in
    let block : c.block_of-block.result ≡ c.args.place / entries_per_block kind = rw c.layout.ensures.value at c.block_of-block.ensures in
    let M : ℕ → Type 0 = λ b. IsTold (past_of old) → MayHookBelowNow old c.args.directory node b (length c.args.growth.now) c.args.zone in
    let F : ℕ → Type 0 = λ b. length c.args.growth.now ≤ depth_of kind b in
    let B : Super → Type 0 = λ l. c.block_of-block.result ≡ c.args.place / entries_per_block (kind_view l.kind) in
    let layout = c.hook_in_zone.ensures.turns.kept.same_layout ∙ c.make_zones.ensures.steps.kept.same_layout in
    let H : ℕ → Type 0 = λ b. HasFreeBlock (volume_view new) (now (past_of new)) c.args.directory node b in
    let may_mid : IsTold (past_of mid) → MayHookBelowNow mid c.args.directory node c.block_of-block.result (length c.args.growth.now) c.args.zone =
    below_after old mid c.args.directory c.block_of-block.result (length c.args.growth.now) c.args.zone node (quiet_ready old c.requires.quiet c.requires.sound) c.requires.quiet c.make_zones.ensures.steps
    (subst F (sym block) c.requires.few) (subst M (sym block) may) in
    let there : IsTold (past_of new) → HasFreeBlock (volume_view new) (now (past_of new)) c.args.directory node (c.args.place / entries_per_block (kind_view new.layout.kind)) =
    λ told'. subst H (subst B (sym layout) block) (c.in_ok-hook_in_zone.ensures.block c.args.directory node may_mid (c.hook_in_zone.ensures.turns.goes_on.told_before told')) in
    c.raise_over.ensures.place there (c.hook_in_zone.ensures.turns.goes_on.told (c.make_zones.ensures.steps.goes_on.told told))

pub returns-clause-others : goal.returns-clause-others
returns-clause-others g c d s off number other =
    let old = c.args.volume.now in
    let mid = c.make_zones.new.volume in
    let block : c.block_of-block.result ≡ c.args.place / entries_per_block (kind_view old.layout.kind) = rw c.layout.ensures.value at c.block_of-block.ensures in
    let N : ℕ → Type 0 = λ b. IsOffNumber mid b (length c.args.growth.now) c.args.zone d s in
    not_written_join (past_of old) (past_of c.hook_in_zone.new.volume) (past_of c.raise_over.new.volume) d s
    (not_written_join (past_of old) (past_of mid) (past_of c.hook_in_zone.new.volume) d s
    (c.make_zones.ensures.others d s off)
    (c.hook_in_zone.ensures.turns.others d s (subst N (sym block) (off_number_stays old mid c.make_zones.ensures.steps.kept _ (length c.args.growth.now) c.args.zone d s number))))
    (c.raise_over.ensures.others d s
    (other_stays mid c.hook_in_zone.new.volume c.hook_in_zone.ensures.turns.kept c.args.directory d s (other_stays old mid c.make_zones.ensures.steps.kept c.args.directory d s other)))

pub returns-clause-keeps : goal.returns-clause-keeps
returns-clause-keeps g c may told =
    let old = c.args.volume.now in
    let mid = c.make_zones.new.volume in
    let new = c.hook_in_zone.new.volume in
    let last = c.raise_over.new.volume in
    let growth = c.args.growth.now in
    let node = inode_view c.args.node.now in
    let kind = kind_view old.layout.kind in
    let block : c.block_of-block.result ≡ c.args.place / entries_per_block kind = rw c.layout.ensures.value at c.block_of-block.ensures in
    let M : ℕ → Type 0 = λ b. IsTold (past_of old) → MayHookBelowNow old c.args.directory node b (length growth) c.args.zone in
    let F : ℕ → Type 0 = λ b. length growth ≤ depth_of kind b in
    let B : Super → Type 0 = λ l. c.block_of-block.result ≡ c.args.place / entries_per_block (kind_view l.kind) in
    let layout = c.hook_in_zone.ensures.turns.kept.same_layout ∙ c.make_zones.ensures.steps.kept.same_layout in
    let H : ℕ → Type 0 = λ b. HasFreeBlock (volume_view new) (now (past_of new)) c.args.directory node b in
    let may_mid : IsTold (past_of mid) → MayHookBelowNow mid c.args.directory node c.block_of-block.result (length growth) c.args.zone =
    below_after old mid c.args.directory c.block_of-block.result (length growth) c.args.zone node (quiet_ready old c.requires.quiet c.requires.sound) c.requires.quiet c.make_zones.ensures.steps
    (subst F (sym block) c.requires.few) (subst M (sym block) may) in
    let there : IsTold (past_of new) → HasFreeBlock (volume_view new) (now (past_of new)) c.args.directory node (c.args.place / entries_per_block (kind_view new.layout.kind)) =
    λ told'. subst H (subst B (sym layout) block) (c.in_ok-hook_in_zone.ensures.block c.args.directory node may_mid (c.hook_in_zone.ensures.turns.goes_on.told_before told')) in
    let told_mid = c.make_zones.ensures.steps.goes_on.told told in
    let told_new = c.hook_in_zone.ensures.turns.goes_on.told told_mid in
    let made = steps_unseen old mid c.requires.quiet c.requires.sound c.make_zones.ensures.steps in
    let hooked = unseen_join old mid new made (c.hook_in_zone.ensures.unseen c.args.directory node may_mid) in
    let second = grown_keep old mid new c.args.directory c.block_of-block.result growth c.requires.quiet told (c.requires.sound told) (may told).lies.named c.requires.unused made (c.in_ok-make_zones.ensures.only told)
    (c.in_ok-hook_in_zone.ensures.keeps c.args.directory node may_mid told_mid) (c.in_ok-hook_in_zone.ensures.has c.args.directory node may_mid told_mid) in
    on_ok c.raise_over.result _ _ (c.raise_over.ensures.keeps there told_new)
    (λ keeps. keeps_after old new last c.args.directory growth hooked told second
    (keeps_wider (super_view new.layout) (parts_now new) (parts_of (volume_view new) (now (past_of last))) c.args.directory [] growth (one_of_none growth) keeps))
