use Rattle.std.proofs.Common.{length}
use Rattle.disk_trait.proofs.MomentLemmas.{on_ok}
use Rattle.disk_trait.proofs.NotWrittenLemmas.{not_written_join}
use Rattle.minix_layout.specs.View.{kind_view}
use Rattle.minix_steps.proofs.StepLemmas.{steps_join}
use Rattle.minix_grow.proofs.ZoneLemmas.{data_stay, unused_stay, marked_after, written_after, written_of, are_grown, changes_same, changes_after}
use Rattle.minix_grow.proofs.OtherLemmas.{all_off_stay}
use Rattle.minix_zones.specs.Volume.{past_of}
use Rattle.minix_grow.proofs.zones.make_zones.Goals as goal

pub returns-clause-grown : goal.returns-clause-grown
returns-clause-grown g c told =
    let old = c.args.volume.now in
    let one = c.mark_all.new.volume in
    let two = c.settle.new.volume in
    let three = c.write_all.new.volume in
    let four = c.settle-2.new.volume in
    let zones = c.args.growth.now in
    let to_two = steps_join old one two c.requires.ready c.mark_all.ensures.steps c.settle.ensures.steps in
    let to_three = steps_join old two three c.requires.ready to_two c.write_all.ensures.steps in
    let all = steps_join old three four c.requires.ready to_three c.settle-2.ensures.steps in
    let told_two = to_two.goes_on.told told in
    let last = steps_join two three four to_two.ready c.write_all.ensures.steps c.settle-2.ensures.steps in
    let kept = c.settle-2.ensures.syncs.kept in
    let same = c.settle-2.ensures.syncs.flushes.same_now in
    let marked_two = marked_after one two zones (length zones) c.settle.ensures.syncs.kept c.settle.ensures.syncs.flushes.same_now (c.in_ok-mark_all.ensures.marked told) in
    on_ok c.settle-2.result _ _ c.settle-2.ensures.begun
    (λ durable. are_grown four c.args.block zones (data_stay old four zones all.kept c.requires.data) (unused_stay old four zones all c.requires.unused) (all.goes_on.told told) durable
    (marked_after three four zones (length zones) kept same (c.in_ok-write_all.ensures.marked told_two marked_two))
    (written_of two four four c.args.block zones (length zones) last.kept
    (written_after three four zones (length zones) kept same (kind_view two.layout.kind) c.args.block (c.in_ok-write_all.ensures.written told_two))))

pub returns-in_err-settle-clause-others : goal.returns-in_err-settle-clause-others
returns-in_err-settle-clause-others g c d s off =
    not_written_join (past_of c.args.volume.now) (past_of c.mark_all.new.volume) (past_of c.settle.new.volume) d s
    (c.mark_all.ensures.others d s off) (c.settle.ensures.syncs.flushes.untouched d s)

pub returns-in_err-write_all-clause-others : goal.returns-in_err-write_all-clause-others
returns-in_err-write_all-clause-others g c d s off =
    let old = c.args.volume.now in
    let one = c.mark_all.new.volume in
    let two = c.settle.new.volume in
    let to_two = steps_join old one two c.requires.ready c.mark_all.ensures.steps c.settle.ensures.steps in
    not_written_join (past_of old) (past_of two) (past_of c.write_all.new.volume) d s
    (not_written_join (past_of old) (past_of one) (past_of two) d s (c.mark_all.ensures.others d s off) (c.settle.ensures.syncs.flushes.untouched d s))
    (c.write_all.ensures.others d s (all_off_stay old two to_two.kept c.args.growth.now d s off))

pub returns-clause-others : goal.returns-clause-others
returns-clause-others g c d s off =
    let old = c.args.volume.now in
    let one = c.mark_all.new.volume in
    let two = c.settle.new.volume in
    let three = c.write_all.new.volume in
    let to_two = steps_join old one two c.requires.ready c.mark_all.ensures.steps c.settle.ensures.steps in
    not_written_join (past_of old) (past_of three) (past_of c.settle-2.new.volume) d s
    (not_written_join (past_of old) (past_of two) (past_of three) d s
    (not_written_join (past_of old) (past_of one) (past_of two) d s (c.mark_all.ensures.others d s off) (c.settle.ensures.syncs.flushes.untouched d s))
    (c.write_all.ensures.others d s (all_off_stay old two to_two.kept c.args.growth.now d s off)))
    (c.settle-2.ensures.syncs.flushes.untouched d s)

pub returns-clause-only : goal.returns-clause-only
returns-clause-only g c told =
    let old = c.args.volume.now in
    let one = c.mark_all.new.volume in
    let two = c.settle.new.volume in
    let three = c.write_all.new.volume in
    let four = c.settle-2.new.volume in
    let zones = c.args.growth.now in
    let to_two = steps_join old one two c.requires.ready c.mark_all.ensures.steps c.settle.ensures.steps in
    let to_three = steps_join old two three c.requires.ready to_two c.write_all.ensures.steps in
    on_ok c.settle-2.result _ _ c.settle-2.ensures.begun
    (λ durable. changes_after old three four zones to_three.kept
    (changes_after old two three zones to_two.kept
    (changes_after old one two zones c.mark_all.ensures.steps.kept (c.in_ok-mark_all.ensures.only told) (changes_same one two zones c.settle.ensures.syncs.flushes.same_now))
    (c.in_ok-write_all.ensures.only (to_two.goes_on.told told)))
    (changes_same three four zones c.settle-2.ensures.syncs.flushes.same_now))
