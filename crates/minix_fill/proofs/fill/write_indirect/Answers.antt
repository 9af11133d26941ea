use Rattle.std.proofs.Common.{◌≡◌, ◌+◌, length, Err, Ok, rules, arith}
use Rattle.minix_fill.specs.Numbers.{zones_view}
use Rattle.minix_fill.proofs.FillSteps.{writes_start, writes_join, writes_failed}
use Rattle.minix_fill.proofs.fill.write_indirect.Goals as goal

pub loop-place-init : goal.loop-place-init
loop-place-init g c = writes_start c.args.volume.now (zones_view c.args.zones.now) c.requires.ready 0

pub returns-in_err-write_place : goal.returns-in_err-write_place
returns-in_err-write_place g c =
    let fault = c.in_err-write_place.field-0.0 in
    let given : c.from_residual.result ≡ Err fault = search rules in
    let old = c.args.volume.now in
    let zones = zones_view c.args.zones.now in
    let place = c.loop-place.place in
    rw given (writes_failed old zones c.write_place.new.volume 0 (place + 1) 0 (length c.args.zones.now.indirect.now) fault
    (writes_join old zones c.loop-place.volume c.write_place.new.volume 0 place (place + 1) (Err fault) c.requires.ready c.requires.may (omega arith) (omega arith) c.loop-place.invariant c.in_err-write_place.ensures))

pub loop-place-preserved : goal.loop-place-preserved
loop-place-preserved g c =
    let place = c.loop-place.place in
    writes_join c.args.volume.now (zones_view c.args.zones.now) c.loop-place.volume c.write_place.new.volume 0 place (place + 1) (Ok tt) c.requires.ready c.requires.may (omega arith) (omega arith)
    c.loop-place.invariant c.in_ok-write_place.ensures
