use Rattle.std.proofs.Common.{◌≡◌, refl, arith}
use Rattle.minix_grow.specs.Way.{grown_bytes}
use Rattle.minix_layout.specs.View.{kind_view}
use Rattle.disk_trait.proofs.NotWrittenLemmas.{not_written_none, not_written_join}
use Rattle.minix_steps.proofs.StepLemmas.{steps_join}
use Rattle.minix_grow.proofs.ZoneLemmas.{no_steps, data_stay, written_more, marked_stay, changes_same, changes_written, changes_after}
use Rattle.minix_grow.proofs.OtherLemmas.{off_stays}
use Rattle.minix_zones.specs.Volume.{past_of}
use Rattle.minix_grow.proofs.zones.write_all.Goals as goal

pub loop-level-init : goal.loop-level-init
loop-level-init g c = record {
  steps = no_steps c.args.volume.now c.requires.ready;
  written = λ told level low. absurd (omega (arith, low));
  marked = λ told marked. marked;
  only = λ told. changes_same c.args.volume.now c.args.volume.now c.args.growth.now refl;
  others = λ d s off. not_written_none (past_of c.args.volume.now) d s;
  later = omega arith;
}

pub returns-in_err-write_zone-clause-steps : goal.returns-in_err-write_zone-clause-steps
returns-in_err-write_zone-clause-steps g c =
    steps_join c.args.volume.now c.loop-level.volume c.write_zone.new.volume c.requires.ready c.loop-level.invariant.steps c.write_zone.ensures.steps

pub returns-in_err-write_zone-clause-others : goal.returns-in_err-write_zone-clause-others
returns-in_err-write_zone-clause-others g c d s off =
    not_written_join (past_of c.args.volume.now) (past_of c.loop-level.volume) (past_of c.write_zone.new.volume) d s (c.loop-level.invariant.others d s off)
    (c.write_zone.ensures.others d s (off_stays c.args.volume.now c.loop-level.volume c.loop-level.invariant.steps.kept _ d s (off c.loop-level.level c.loop-level-test.true)).bytes)

pub loop-level-preserved : goal.loop-level-preserved
loop-level-preserved g c =
    let steps = steps_join c.args.volume.now c.loop-level.volume c.write_zone.new.volume c.requires.ready c.loop-level.invariant.steps c.write_zone.ensures.steps in
    let those = data_stay c.args.volume.now c.loop-level.volume c.args.growth.now c.loop-level.invariant.steps.kept c.requires.data in
    let bytes : c.grown_bytes-bytes.result ≡ grown_bytes (kind_view c.args.volume.now.layout.kind) c.args.block c.args.growth.now c.loop-level.level = rw c.layout.ensures.value at c.grown_bytes-bytes.ensures in
    record {
      steps = steps;
      written = λ told.
          written_more c.loop-level.volume c.write_zone.new.volume c.args.growth.now c.loop-level.level _ those refl c.loop-level-test.true _ (c.in_ok-write_zone.ensures.parts (c.loop-level.invariant.steps.goes_on.told told))
          (kind_view c.args.volume.now.layout.kind) c.args.block bytes (c.loop-level.invariant.written told);
      marked = λ told marked.
          marked_stay c.loop-level.volume c.write_zone.new.volume c.args.growth.now c.loop-level.level _ those refl c.loop-level-test.true _ (c.in_ok-write_zone.ensures.parts (c.loop-level.invariant.steps.goes_on.told told))
          _ (omega arith) (c.loop-level.invariant.marked told marked);
      only = λ told.
          changes_after c.args.volume.now c.loop-level.volume c.write_zone.new.volume c.args.growth.now c.loop-level.invariant.steps.kept (c.loop-level.invariant.only told)
          (changes_written c.loop-level.volume c.write_zone.new.volume c.args.growth.now _ _ c.write_zone.ensures.steps.kept (record { at = c.loop-level.level; low = c.loop-level-test.true; is = refl })
          (c.in_ok-write_zone.ensures.parts (c.loop-level.invariant.steps.goes_on.told told)));
      others = λ d s off.
          not_written_join (past_of c.args.volume.now) (past_of c.loop-level.volume) (past_of c.write_zone.new.volume) d s (c.loop-level.invariant.others d s off)
          (c.write_zone.ensures.others d s (off_stays c.args.volume.now c.loop-level.volume c.loop-level.invariant.steps.kept _ d s (off c.loop-level.level c.loop-level-test.true)).bytes);
      later = let a = c.loop-level.invariant.later in let b = c.write_zone.ensures.steps.goes_on.later in omega (arith, a, b);
    }
