use Rattle.std.proofs.Common.{◌≡◌, ◌≤◌, ◌-◌, ◌/◌, ℕ, suc, [], length, sym, subst, arith}
use Rattle.std.proofs.lemmas.List.{length-take-le}
use Rattle.disk_trait.specs.Moments.{IsTold, now}
use Rattle.disk_trait.proofs.MomentLemmas.{on_ok}
use Rattle.disk_trait.proofs.NotWrittenLemmas.{not_written_none}
use Rattle.lilo_model.specs.MinixEntries.{entries_per_block}
use Rattle.lilo_model.specs.MinixParts.{parts_of}
use Rattle.minix_layout.specs.View.{kind_view, inode_view, super_view}
use Rattle.minix_steps.specs.Written.{parts_now}
use Rattle.minix_zones.specs.Volume.{volume_view, past_of}
use Rattle.minix_grow.specs.Grow.{MayGrowByNow, MayReachNow, ReachesDownNow}
use Rattle.minix_grow.specs.Way.{depth_of}
use Rattle.minix_grow.proofs.GrowLemmas.{is_free, is_next, are_enough, are_unused, may_grow_by, off_block, off_first, off_hook}
use Rattle.minix_grow.proofs.KeepLemmas.{one_of_none, one_of_first, keeps_wider}
use Rattle.minix_grow.proofs.RaiseLemmas.{same_unseen}
use Rattle.minix_grow.proofs.grow.grow_from.Goals as goal

pub returns-then-level-eq0-clause-grows : goal.returns-then-level-eq0-clause-grows
returns-then-level-eq0-clause-grows g c may =
    let old = c.args.volume.now in
    let kind = kind_view old.layout.kind in
    let none : c.args.lowest.level ≡ 0 = let same = c.if-level-eq0.true in omega (arith, same) in
    let W : ℕ → Type 0 = λ l. ReachesDownNow old (inode_view c.args.node.now) (c.args.place / entries_per_block kind) l c.args.lowest.zone in
    let there = c.requires.lowest.inside (omega (arith, none)) in
    let reach : IsTold (past_of old) → MayReachNow old c.args.directory (inode_view c.args.node.now) c.args.place c.args.lowest.zone = λ told. record {
      free = λ low. is_free old c.args.directory c.args.place (inode_view c.args.node.now) c.args.growth.now c.requires.fits c.requires.sized c.requires.small c.requires.next may told
          c.args.lowest.zone there (subst W none (c.requires.way told)) low;
      next = λ past. is_next old c.args.directory c.args.place (inode_view c.args.node.now) c.args.growth.now c.requires.fits c.requires.sized c.requires.small c.requires.next may told
          c.args.lowest.zone there (subst W none (c.requires.way told)) past;
    } in
    record {
      unseen = c.grow_in_block.ensures.unseen reach;
      free = c.grow_in_block.ensures.place reach;
      keeps = λ told. on_ok c.grow_in_block.result _ _ (c.grow_in_block.ensures.keeps reach told)
          (keeps_wider (super_view old.layout) (parts_now old) (parts_of (volume_view old) (now (past_of c.grow_in_block.new.volume))) c.args.directory [] c.args.growth.now (one_of_none c.args.growth.now));
      others = λ told d s off way other. c.grow_in_block.ensures.others d s
          (off_block old c.args.directory c.args.place (inode_view c.args.node.now) c.args.growth.now c.requires.fits c.requires.sized c.requires.small c.requires.next may told
          c.args.lowest.zone there (subst W none (c.requires.way told)) d s way)
          other;
      device = λ told. c.grow_in_block.ensures.device;
    }

pub returns-then-growth-level-clause-grows : goal.returns-then-growth-level-clause-grows
returns-then-growth-level-clause-grows g c may =
    let old = c.args.volume.now in
    let kind = kind_view old.layout.kind in
    let some = c.if-level-eq0.false in
    let few = c.if-growth-level.true in
    let low = c.requires.lowest.low in
    let one : c.args.lowest.level ≡ suc (c.args.lowest.level - 1) = omega (arith, some) in
    let deep : c.args.lowest.level - 1 ≤ depth_of kind (c.args.place / entries_per_block kind) = omega (arith, some, low) in
    let enough : IsTold (past_of old) → c.args.lowest.level ≤ length c.args.growth.now = λ told.
    are_enough old c.args.directory c.args.place (inode_view c.args.node.now) c.args.growth.now c.requires.fits c.requires.sized c.requires.small c.requires.next may told
    c.args.lowest.level c.args.lowest.zone (c.args.lowest.level - 1) one deep (c.requires.way told) in
    record {
      unseen = same_unseen old c.requires.quiet c.requires.sound;
      free = λ told. let e = enough told in absurd (omega (arith, e, few));
      keeps = λ told. let e = enough told in absurd (omega (arith, e, few));
      others = λ told d s off way other. not_written_none (past_of old) d s;
      device = λ told. let e = enough told in absurd (omega (arith, e, few));
    }

pub grow_by-requires-clause-unused : goal.grow_by-requires-clause-unused
grow_by-requires-clause-unused g c =
    let old = c.args.volume.now in
    let kind = kind_view old.layout.kind in
    let some = c.if-level-eq0.false in
    let few = c.if-growth-level.false in
    let low = c.requires.lowest.low in
    let one : c.args.lowest.level ≡ suc (c.args.lowest.level - 1) = omega (arith, some) in
    let deep : c.args.lowest.level - 1 ≤ depth_of kind (c.args.place / entries_per_block kind) = omega (arith, some, low) in
    let enough : c.args.lowest.level ≤ length c.args.growth.now = omega (arith, few) in
    are_unused old (inode_view c.args.node.now) (c.args.place / entries_per_block kind) c.args.growth.now
    c.args.lowest.level c.args.lowest.zone (c.args.lowest.level - 1) c.requires.unused one deep c.requires.way enough

pub returns-clause-grows : goal.returns-clause-grows
returns-clause-grows g c may =
    let old = c.args.volume.now in
    let kind = kind_view old.layout.kind in
    let some = c.if-level-eq0.false in
    let few = c.if-growth-level.false in
    let low = c.requires.lowest.low in
    let one : c.args.lowest.level ≡ suc (c.args.lowest.level - 1) = omega (arith, some) in
    let deep : c.args.lowest.level - 1 ≤ depth_of kind (c.args.place / entries_per_block kind) = omega (arith, some, low) in
    let enough : c.args.lowest.level ≤ length c.args.growth.now = omega (arith, few) in
    let G : ℕ → Type 0 = λ count. MayGrowByNow old c.args.directory (inode_view c.args.node.now) c.args.place count c.args.lowest.zone in
    let by = λ (told : IsTold (past_of old)). subst G (sym (length-take-le c.args.lowest.level c.args.growth.now enough))
    (may_grow_by old c.args.directory c.args.place (inode_view c.args.node.now) c.args.growth.now c.requires.fits c.requires.sized c.requires.small c.requires.next may told
    c.args.lowest.level c.args.lowest.zone (c.args.lowest.level - 1) one deep (c.requires.way told)) in
    record {
      unseen = c.grow_by.ensures.unseen by;
      free = c.grow_by.ensures.place by;
      keeps = λ told. on_ok c.grow_by.result _ _ (c.grow_by.ensures.keeps by told)
          (keeps_wider (super_view old.layout) (parts_now old) (parts_of (volume_view old) (now (past_of c.grow_by.new.volume))) c.args.directory _ c.args.growth.now
          (λ z. one_of_first c.args.growth.now c.args.lowest.level z enough));
      others = λ told d s off way other. c.grow_by.ensures.others d s
          (off_first old c.args.growth.now c.args.lowest.level enough d s off)
          (off_hook old c.args.directory c.args.place (inode_view c.args.node.now) c.args.growth.now c.requires.fits c.requires.sized c.requires.small c.requires.next may told
          c.args.lowest.level c.args.lowest.zone (c.args.lowest.level - 1) one deep (c.requires.way told) c.requires.lowest enough d s way)
          other;
      device = λ told. c.grow_by.ensures.device;
    }
