use Rattle.std.proofs.Common.{refl, arith}
use Rattle.disk_trait.proofs.NotWrittenLemmas.{not_written_none, not_written_join}
use Rattle.minix_steps.proofs.StepLemmas.{steps_join}
use Rattle.minix_grow.proofs.ZoneLemmas.{no_steps, data_stay, marked_more, changes_same, changes_marked, changes_after}
use Rattle.minix_grow.proofs.OtherLemmas.{off_stays}
use Rattle.minix_zones.specs.Volume.{past_of}
use Rattle.minix_grow.proofs.zones.mark_all.Goals as goal

pub loop-zone-init : goal.loop-zone-init
loop-zone-init g c = record {
  steps = no_steps c.args.volume.now c.requires.ready;
  marked = λ told level low. absurd (omega (arith, low));
  only = λ told. changes_same c.args.volume.now c.args.volume.now c.args.zones.now refl;
  others = λ d s off. not_written_none (past_of c.args.volume.now) d s;
  later = omega arith;
}

pub returns-in_err-put_zone_mark-clause-steps : goal.returns-in_err-put_zone_mark-clause-steps
returns-in_err-put_zone_mark-clause-steps g c =
    steps_join c.args.volume.now c.loop-zone.volume c.put_zone_mark.new.volume c.requires.ready c.loop-zone.invariant.steps c.put_zone_mark.ensures.steps

pub returns-in_err-put_zone_mark-clause-others : goal.returns-in_err-put_zone_mark-clause-others
returns-in_err-put_zone_mark-clause-others g c d s off =
    not_written_join (past_of c.args.volume.now) (past_of c.loop-zone.volume) (past_of c.put_zone_mark.new.volume) d s (c.loop-zone.invariant.others d s off)
    (c.put_zone_mark.ensures.writes.writes.others d s (off_stays c.args.volume.now c.loop-zone.volume c.loop-zone.invariant.steps.kept _ d s (off c.loop-zone.zone-index c.loop-zone-test.true)).bit)

pub loop-zone-preserved : goal.loop-zone-preserved
loop-zone-preserved g c =
    let steps = steps_join c.args.volume.now c.loop-zone.volume c.put_zone_mark.new.volume c.requires.ready c.loop-zone.invariant.steps c.put_zone_mark.ensures.steps in
    record {
      steps = steps;
      marked = λ told.
          marked_more c.loop-zone.volume c.put_zone_mark.new.volume c.args.zones.now c.loop-zone.zone-index _ (data_stay c.args.volume.now c.loop-zone.volume c.args.zones.now c.loop-zone.invariant.steps.kept c.requires.data) refl c.loop-zone-test.true
          (c.in_ok-put_zone_mark.ensures.parts (c.loop-zone.invariant.steps.goes_on.told told)) (c.loop-zone.invariant.marked told);
      only = λ told.
          changes_after c.args.volume.now c.loop-zone.volume c.put_zone_mark.new.volume c.args.zones.now c.loop-zone.invariant.steps.kept (c.loop-zone.invariant.only told)
          (changes_marked c.loop-zone.volume c.put_zone_mark.new.volume c.args.zones.now _ c.put_zone_mark.ensures.steps.kept (record { at = c.loop-zone.zone-index; low = c.loop-zone-test.true; is = refl })
          (c.in_ok-put_zone_mark.ensures.parts (c.loop-zone.invariant.steps.goes_on.told told)));
      others = λ d s off.
          not_written_join (past_of c.args.volume.now) (past_of c.loop-zone.volume) (past_of c.put_zone_mark.new.volume) d s (c.loop-zone.invariant.others d s off)
          (c.put_zone_mark.ensures.writes.writes.others d s (off_stays c.args.volume.now c.loop-zone.volume c.loop-zone.invariant.steps.kept _ d s (off c.loop-zone.zone-index c.loop-zone-test.true)).bit);
      later = let a = c.loop-zone.invariant.later in let b = steps.goes_on.later in omega (arith, a, b);
    }
