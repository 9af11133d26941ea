use Rattle.std.proofs.Common.{◌≡◌, ◌+◌, ◌≤◌, Ok, Err, rules, arith}
use Rattle.minix_layout.specs.View.{kind_view}
use Rattle.write_model.specs.Places.{most_places}
use Rattle.minix_choice.specs.declared.write_fault.WriteFault.TheVariants.{Device, NoSpace}
use Rattle.minix_zones.proofs.WriteLemmas.{keeps_join, keeps_same}
use Rattle.minix_create.proofs.BroughtLemmas.{brings_fewer, brings_failed, bring_none, bring_no_room, may_next, bring_on, same_self}
use Rattle.minix_create.proofs.brought.bring.Goals as goal

pub returns-then-place-have-clause-brings : goal.returns-then-place-have-clause-brings
returns-then-place-have-clause-brings g c may near =
    bring_none c.args.volume.now c.args.directory c.args.have c.requires.quiet may c.args.place (let t = c.if-place-have.true in omega (arith, t))

pub returns-then-place-most_places-clause-brings : goal.returns-then-place-most_places-clause-brings
returns-then-place-most_places-clause-brings g c may near =
    let most : c.most_places.result ≡ most_places (kind_view c.args.volume.now.layout.kind) = rw c.layout.ensures.value at c.most_places.ensures in
    let past : c.args.have ≤ c.args.place = let f = c.if-place-have.false in omega (arith, f) in
    bring_no_room c.args.volume.now c.args.directory c.args.have c.requires.quiet may c.args.place (NoSpace 1 0)
    (λ told. let n = near told past in let t = c.if-place-most_places.true in omega (arith, n, t, most))

pub loop-next-init : goal.loop-next-init
loop-next-init g c = record {
  brings = λ may. bring_none c.args.volume.now c.args.directory c.args.have c.requires.quiet may c.args.have (omega arith);
  quiet = c.requires.quiet;
  later = omega arith;
  kept = keeps_same c.args.volume.now c.args.volume.now (same_self c.args.volume.now);
  from = omega arith;
  to = let f = c.if-place-have.false in omega (arith, f);
}

pub returns-in_err-bring_next-clause-brings : goal.returns-in_err-bring_next-clause-brings
returns-in_err-bring_next-clause-brings g c may near =
    let fault = c.in_err-bring_next.field-0.0 in
    let given : c.from_residual.result ≡ Err fault = search rules in
    let first = c.loop-next.invariant.brings may in
    rw given (brings_failed c.args.volume.now c.bring_next.new.volume c.args.directory (c.loop-next.next + 1) c.args.place Device fault
    (bring_on c.args.volume.now c.args.directory c.args.have c.requires.quiet may c.loop-next.volume c.bring_next.new.volume c.loop-next.next (c.loop-next.next + 1) (Err fault) first
    (c.in_err-bring_next.ensures.brings (may_next c.args.volume.now c.args.directory c.args.have c.requires.quiet may c.loop-next.volume c.loop-next.next first))))

pub loop-next-preserved : goal.loop-next-preserved
loop-next-preserved g c = record {
  brings = λ may.
      let first = c.loop-next.invariant.brings may in
      bring_on c.args.volume.now c.args.directory c.args.have c.requires.quiet may c.loop-next.volume c.bring_next.new.volume c.loop-next.next (c.loop-next.next + 1) (Ok tt) first
      (c.in_ok-bring_next.ensures.brings (may_next c.args.volume.now c.args.directory c.args.have c.requires.quiet may c.loop-next.volume c.loop-next.next first));
  quiet = c.in_ok-bring_next.ensures.quiet;
  later = let was = c.loop-next.invariant.later in let then = c.bring_next.ensures.later in omega (arith, was, then);
  kept = keeps_join c.args.volume.now c.loop-next.volume c.bring_next.new.volume c.loop-next.invariant.kept c.bring_next.ensures.kept;
  from = let f = c.loop-next.invariant.from in omega (arith, f);
  to = let t = c.loop-next-test.true in omega (arith, t);
}

pub returns-clause-brings : goal.returns-clause-brings
returns-clause-brings g c may near =
    brings_fewer c.args.volume.now c.loop-next.volume c.args.directory c.loop-next.next c.args.place Device (Ok tt) (let f = c.loop-next-test.false in omega (arith, f)) (c.loop-next.invariant.brings may)
