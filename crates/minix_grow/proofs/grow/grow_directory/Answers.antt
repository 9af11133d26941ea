use Rattle.std.proofs.Common.{rules, ◌≡◌, ◌/◌, ℕ, Err, Option, sym, subst}
use Rattle.disk_trait.specs.Moments.{IsTold}
use Rattle.disk_trait.specs.NotWritten.{NotWritten}
use Rattle.disk_trait.specs.Past.{Past}
use Rattle.disk_trait.proofs.MomentLemmas.{on_ok}
use Rattle.disk_trait.proofs.NotWrittenLemmas.{not_written_none}
use Rattle.lilo_model.specs.MinixEntries.{entries_per_block}
use Rattle.minix_layout.specs.View.{kind_view, inode_view}
use Rattle.minix_turns.proofs.JoinedLemmas.{unseen_join}
use Rattle.minix_zones.specs.View.{HasZoneCause}
use Rattle.minix_zones.specs.Volume.{past_of, faults_of}
use Rattle.minix_zones.proofs.WriteLemmas.{keeps_same}
use Rattle.minix_zones.specs.declared.zone_fault.ZoneFault.{ZoneFault}
use Rattle.minix_grow.specs.Grow.{IsRefusedOnWay, MayGrowNow, GrowsTo}
use Rattle.minix_grow.proofs.GrowLemmas.{refused_is_device, read_unseen, off_way_same, may_grow_same, sound_same, unused_same, told_mid, told_old, keeps_since, device_since}
use Rattle.minix_grow.proofs.OtherLemmas.{all_off_stay, other_stays}
use Rattle.minix_grow.proofs.grow.grow_directory.Goals as goal

pub returns-in_err-lowest-clause-grows : goal.returns-in_err-lowest-clause-grows
returns-in_err-lowest-clause-grows g c may =
    let old = c.args.volume.now in
    let new = c.lowest_on_way.new.volume in
    let fault = c.in_err-lowest.field-0.0 in
    let is : c.from_residual.result ≡ Err fault = search rules in
    let block : c.block_of-block.result ≡ c.args.place / entries_per_block (kind_view old.layout.kind) = rw c.layout.ensures.value at c.block_of-block.ensures in
    let R : ℕ → Type 0 = λ b. IsRefusedOnWay old (inode_view c.args.node.now) b fault in
    let P : Option Past → (ℕ → ℕ → Type 0) = λ past d s. NotWritten (past_of old) past d s in
    let C : ZoneFault → Type 0 = λ f. HasZoneCause (faults_of old) (faults_of new) f in
    rw is (record {
      unseen = read_unseen old new c.requires.quiet c.requires.sound c.lowest_on_way.ensures.same c.lowest_on_way.ensures.later;
      free = λ told. tt;
      keeps = λ told. tt;
      others = λ told d s off way other. subst (λ past. P past d s) (sym c.lowest_on_way.ensures.same.same_disks.same_past) (not_written_none (past_of old) d s);
      device = λ told.
          let refused : IsRefusedOnWay old (inode_view c.args.node.now) c.block_of-block.result fault = c.in_err-lowest.ensures.refused told in
          let device = refused_is_device old c.args.directory c.args.place (inode_view c.args.node.now) c.args.growth.now c.requires.fits c.requires.sized c.requires.small c.requires.next may
          fault told (subst R block refused) in
          (device, subst C device c.in_err-lowest.ensures.cause);
    })

pub grow_from-requires-clause-sound : goal.grow_from-requires-clause-sound
grow_from-requires-clause-sound g c = sound_same c.args.volume.now c.lowest_on_way.new.volume c.lowest_on_way.ensures.same c.requires.sound

pub grow_from-requires-clause-unused : goal.grow_from-requires-clause-unused
grow_from-requires-clause-unused g c =
    unused_same c.args.volume.now c.lowest_on_way.new.volume c.lowest_on_way.ensures.same c.requires.quiet c.requires.sound c.lowest_on_way.ensures.later
    (inode_view c.args.node.now) c.args.place c.args.growth.now c.requires.unused

pub returns-clause-grows : goal.returns-clause-grows
returns-clause-grows g c may =
    let old = c.args.volume.now in
    let mid = c.lowest_on_way.new.volume in
    let new = c.grow_from.new.volume in
    let same = c.lowest_on_way.ensures.same in
    let kept = keeps_same old mid same in
    let P : Option Past → (ℕ → ℕ → Type 0) = λ past d s. NotWritten past (past_of new) d s in
    let may_mid : IsTold (past_of mid) → MayGrowNow mid c.args.directory (inode_view c.args.node.now) c.args.place c.args.growth.now =
    λ told. may_grow_same old mid same c.args.directory c.args.place (inode_view c.args.node.now) c.args.growth.now (may (told_old old mid same told)) in
    let grows : GrowsTo mid new c.args.directory c.args.place c.args.growth.now c.grow_from.result = c.grow_from.ensures.grows may_mid in
    record {
      unseen = unseen_join old mid new (read_unseen old mid c.requires.quiet c.requires.sound same c.lowest_on_way.ensures.later) grows.unseen;
      free = λ told. grows.free (told_mid old mid same told);
      keeps = λ told. on_ok c.grow_from.result _ _ (grows.keeps (told_mid old mid same told)) (keeps_since old mid same new c.args.directory c.args.growth.now);
      others = λ told d s off way other. subst (λ past. P past d s) same.same_disks.same_past
          (grows.others (told_mid old mid same told) d s (all_off_stay old mid kept c.args.growth.now d s off) (off_way_same old mid same c.args.directory c.args.place d s way)
          (other_stays old mid kept c.args.directory d s other));
      device = λ told. device_since old mid same new c.lowest_on_way.ensures.later c.grow_from.result (grows.device (told_mid old mid same told));
    }
