use Rattle.std.proofs.Common.{◌≡◌, take, List, ℕ, Err, Ok, subst, rules, arith}
use Rattle.minix_fill.specs.Marks.{MarksZones}
use Rattle.minix_fill.proofs.MarkSteps.{marks_start, marks_join, marks_failed, rest_of, rest_length, take_further}
use Rattle.minix_fill.proofs.mark.mark_zones.Goals as goal

pub loop-at-init : goal.loop-at-init
loop-at-init g c = record { within = omega arith; marks = marks_start c.args.volume.now c.requires.ready }

pub returns-in_err-mark_together : goal.returns-in_err-mark_together
returns-in_err-mark_together g c =
    let fault = c.in_err-mark_together.field-0.0 in
    let given : c.from_residual.result ≡ Err fault = search rules in
    let some = take c.count_together-many.result (rest_of c.args.zones.now c.loop-at.at) in
    rw given (marks_failed c.args.volume.now c.mark_together.new.volume _ c.args.zones.now fault
    (marks_join c.args.volume.now c.loop-at.volume c.mark_together.new.volume (take c.loop-at.at c.args.zones.now) some (Err fault) c.requires.ready c.loop-at.invariant.marks c.in_err-mark_together.ensures))

pub loop-at-preserved : goal.loop-at-preserved
loop-at-preserved g c =
    let some = take c.count_together-many.result (rest_of c.args.zones.now c.loop-at.at) in
    let joined = marks_join c.args.volume.now c.loop-at.volume c.mark_together.new.volume (take c.loop-at.at c.args.zones.now) some (Ok tt) c.requires.ready c.loop-at.invariant.marks c.in_ok-mark_together.ensures in
    let P : List ℕ → Type 0 = λ zones. MarksZones c.args.volume.now c.mark_together.new.volume zones (Ok tt) in
    record {
      within = omega (arith, c.count_together-many.ensures.few, rest_length c.args.zones.now c.loop-at.at, c.loop-at-test.true);
      marks = subst P (take_further c.args.zones.now c.loop-at.at c.count_together-many.result c.loop-at.invariant.within) joined;
    }
