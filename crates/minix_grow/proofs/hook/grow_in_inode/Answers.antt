use Rattle.std.proofs.Common.{◌≡◌, ◌≤◌, ◌<◌, ◌+◌, ◌/◌, true, length, sym, subst}
use Rattle.disk_trait.proofs.NotWrittenLemmas.{not_written_join}
use Rattle.lilo_model.specs.MinixEntries.{entries_per_block, places}
use Rattle.lilo_model.specs.MinixLayout.{FitsInode, is_size, reach}
use Rattle.minix_layout.specs.View.{kind_view, inode_view}
use Rattle.minix_layout.specs.declared.superblock.Super.{Super}
use Rattle.minix_steps.proofs.ReadyLemmas.{quiet_ready}
use Rattle.minix_turns.proofs.JoinedLemmas.{steps_unseen, unseen_join}
use Rattle.minix_grow.specs.Way.{depth_of}
use Rattle.minix_grow.proofs.AfterLemmas.{hook_after}
use Rattle.minix_grow.proofs.KeepsNowLemmas.{on_both, grown_keep}
use Rattle.minix_grow.proofs.ZoneLemmas.{data_stay}
use Rattle.minix_grow.proofs.OtherLemmas.{other_stays}
use Rattle.minix_zones.specs.Volume.{past_of}
use Rattle.minix_grow.proofs.hook.grow_in_inode.Goals as goal

pub make_zones-requires-clause-ready : goal.make_zones-requires-clause-ready
make_zones-requires-clause-ready g c = quiet_ready c.args.volume.now c.requires.quiet c.requires.sound

pub returns-in_err-make_zones-clause-unseen : goal.returns-in_err-make_zones-clause-unseen
returns-in_err-make_zones-clause-unseen g c may =
    steps_unseen c.args.volume.now c.make_zones.new.volume c.requires.quiet c.requires.sound c.make_zones.ensures.steps

pub hook_in_inode-requires-clause-there : goal.hook_in_inode-requires-clause-there
hook_in_inode-requires-clause-there g c =
    let P : Super → Type 0 = λ l. c.args.directory ≤ l.inodes in
    subst P (sym c.make_zones.ensures.steps.kept.same_layout) c.requires.there

pub hook_in_inode-requires-clause-fits : goal.hook_in_inode-requires-clause-fits
hook_in_inode-requires-clause-fits g c =
    let P : Super → Type 0 = λ l. FitsInode (kind_view l.kind) (inode_view c.args.node.now) in
    subst P (sym c.make_zones.ensures.steps.kept.same_layout) c.requires.fits

pub hook_in_inode-requires-clause-near : goal.hook_in_inode-requires-clause-near
hook_in_inode-requires-clause-near g c =
    let P : Super → Type 0 = λ l. c.args.block < reach (kind_view l.kind) in
    subst P (sym c.make_zones.ensures.steps.kept.same_layout) c.requires.near

pub hook_in_inode-requires-clause-all : goal.hook_in_inode-requires-clause-all
hook_in_inode-requires-clause-all g c =
    let P : Super → Type 0 = λ l. length c.args.growth.now ≡ depth_of (kind_view l.kind) c.args.block + 1 in
    subst P (sym c.make_zones.ensures.steps.kept.same_layout) c.requires.all

pub hook_in_inode-requires-clause-data : goal.hook_in_inode-requires-clause-data
hook_in_inode-requires-clause-data g c = data_stay c.args.volume.now c.make_zones.new.volume c.args.growth.now c.make_zones.ensures.steps.kept c.requires.data

pub hook_in_inode-requires-clause-sized : goal.hook_in_inode-requires-clause-sized
hook_in_inode-requires-clause-sized g c =
    let P : Super → Type 0 = λ l. is_size (kind_view l.kind) c.args.size ≡ true in
    subst P (sym c.make_zones.ensures.steps.kept.same_layout) c.requires.sized

pub hook_in_inode-requires-clause-grown : goal.hook_in_inode-requires-clause-grown
hook_in_inode-requires-clause-grown g c = λ told. c.in_ok-make_zones.ensures.grown (c.make_zones.ensures.steps.goes_on.told_before told)

pub returns-clause-unseen : goal.returns-clause-unseen
returns-clause-unseen g c may =
    unseen_join c.args.volume.now c.make_zones.new.volume c.hook_in_inode.new.volume
    (steps_unseen c.args.volume.now c.make_zones.new.volume c.requires.quiet c.requires.sound c.make_zones.ensures.steps)
    (c.hook_in_inode.ensures.unseen
    (hook_after c.args.volume.now c.make_zones.new.volume c.args.directory c.args.block c.args.size (inode_view c.args.node.now)
    (quiet_ready c.args.volume.now c.requires.quiet c.requires.sound) c.requires.quiet c.make_zones.ensures.steps may))

pub returns-clause-places : goal.returns-clause-places
returns-clause-places g c place may told here below =
    let e = c.make_zones.ensures.steps.kept.same_layout in
    let H : Super → Type 0 = λ l. place / entries_per_block (kind_view l.kind) ≡ c.args.block in
    let B : Super → Type 0 = λ l. place < places (kind_view l.kind) c.args.size in
    c.hook_in_inode.ensures.places place
    (hook_after c.args.volume.now c.make_zones.new.volume c.args.directory c.args.block c.args.size (inode_view c.args.node.now)
    (quiet_ready c.args.volume.now c.requires.quiet c.requires.sound) c.requires.quiet c.make_zones.ensures.steps may)
    (c.make_zones.ensures.steps.goes_on.told told) (subst H (sym e) here) (subst B (sym e) below)

pub returns-in_err-make_zones-clause-others : goal.returns-in_err-make_zones-clause-others
returns-in_err-make_zones-clause-others g c d s off other = c.make_zones.ensures.others d s off

pub returns-clause-others : goal.returns-clause-others
returns-clause-others g c d s off other =
    not_written_join (past_of c.args.volume.now) (past_of c.make_zones.new.volume) (past_of c.hook_in_inode.new.volume) d s
    (c.make_zones.ensures.others d s off)
    (c.hook_in_inode.ensures.turns.others d s (other_stays c.args.volume.now c.make_zones.new.volume c.make_zones.ensures.steps.kept c.args.directory d s other))

pub returns-clause-keeps : goal.returns-clause-keeps
returns-clause-keeps g c may told =
    let old = c.args.volume.now in
    let mid = c.make_zones.new.volume in
    let growth = c.args.growth.now in
    let sound = c.requires.sound told in
    let may_mid = hook_after old mid c.args.directory c.args.block c.args.size (inode_view c.args.node.now) (quiet_ready old c.requires.quiet c.requires.sound) c.requires.quiet c.make_zones.ensures.steps may in
    let told_mid = c.make_zones.ensures.steps.goes_on.told told in
    on_both c.hook_in_inode.result _ _ _ (c.hook_in_inode.ensures.keeps may_mid told_mid) (c.hook_in_inode.ensures.has may_mid told_mid)
    (grown_keep old mid c.hook_in_inode.new.volume c.args.directory c.args.block growth c.requires.quiet told sound (may told).lies.named c.requires.unused
    (steps_unseen old mid c.requires.quiet c.requires.sound c.make_zones.ensures.steps) (c.in_ok-make_zones.ensures.only told))
