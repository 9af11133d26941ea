use Rattle.std.proofs.Common.{rules, refl, ◌∙◌, ap, arith}
use Rattle.disk_trait.specs.Past.{Image}
use Rattle.disk_trait.proofs.MomentLemmas.{leaves_none}
use Rattle.disk_trait.proofs.NotWrittenLemmas.{not_written_none, not_written_join}
use Rattle.disk_example.proofs.FillLemmas.{filled_next, none_is_other, in_range_next, no_error}
use Rattle.disk_example.proofs.fill.Goals as goal

pub loop-place-init : goal.loop-place-init
loop-place-init g c = record {
  later = omega arith;
  size = refl;
  told = λ told. told;
  in_range = λ k none. absurd (omega (arith, none));
  so_far = λ told. refl;
  others = λ d s none. not_written_none _ d s;
  left = λ image left. ap (λ (i : Image). g.B.Boot.boots i) (c.requires.quiet image left);
  any_moment = leaves_none _ _ (λ image left. ap (λ (i : Image). g.B.Boot.boots i) (c.requires.quiet image left));
}

pub loop-place-preserved : goal.loop-place-preserved
loop-place-preserved g c =
    let i = c.loop-place.place-index in
    let inv = c.loop-place.invariant in
    let inside = c.loop-place-test.true in
    record {
      later = omega (arith, inv.later, c.write.ensures.cause.later);
      size = c.write.ensures.writes.goes_on.size ∙ inv.size;
      told = λ told. c.write.ensures.writes.goes_on.told (inv.told told);
      in_range = in_range_next c.args.places.now i _ _ (ap (λ size_of. size_of c.args.disk) inv.size) inv.in_range (λ past. no_error _ _ (c.in_ok-write.ensures.cause.out_of_range.1 past));
      so_far = λ told. filled_next c.args.disk c.args.places.now i c.args.from.now _ _ _ _ inside (inv.so_far told) (c.in_ok-write.ensures.writes.written (inv.told told));
      others = λ d s none. not_written_join _ _ _ d s (inv.others d s none) (c.write.ensures.writes.others d s (none_is_other c.args.disk c.args.places.now i _ d s inside none));
      left = search rules;
      any_moment = search rules;
    }

pub returns-in_err-write-clause-others : goal.returns-in_err-write-clause-others
returns-in_err-write-clause-others g c d s none =
    not_written_join _ _ _ d s (c.loop-place.invariant.others d s none)
    (c.write.ensures.writes.others d s (none_is_other c.args.disk c.args.places.now c.loop-place.place-index _ d s c.loop-place-test.true none))

pub returns-clause-others : goal.returns-clause-others
returns-clause-others g c d s none = not_written_join _ _ _ d s (c.loop-place.invariant.others d s none) (c.flush.ensures.flushes.untouched d s)
