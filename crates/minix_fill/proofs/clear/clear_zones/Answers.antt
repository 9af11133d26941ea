use Rattle.std.proofs.Common.{◌≡◌, Ok, Err, sym, ap, rules}
use Rattle.minix_layout.specs.View.{kind_view, super_view, inode_view}
use Rattle.minix_steps.specs.Written.{parts_now}
use Rattle.minix_fill.proofs.LoopLemmas.{clears_init, next_ready, met_unused, clears_more, clears_stopped, clears_refused, clears_done}
use Rattle.minix_fill.proofs.clear.clear_zones.Goals as goal

pub loop-visit-init : goal.loop-visit-init
loop-visit-init g c =
    let old = c.args.volume.now in
    clears_init old (inode_view c.args.inode.now) c.requires.ready c.new-walk.result
    (c.new-walk.ensures (super_view old.layout) (parts_now old) (ap (λ l. kind_view l.kind) (sym c.layout.ensures.value)))

pub returns-in_err-visit : goal.returns-in_err-visit
returns-in_err-visit g c =
    let fault = c.in_err-visit.field-0.0 in
    let given : c.from_residual.result ≡ Err fault = search rules in
    rw given (clears_refused c.args.volume.now (inode_view c.args.inode.now) c.requires.ready c.loop-visit.volume c.loop-visit.walk c.loop-visit.invariant
    c.next.new.volume c.in_err-visit.ensures.later c.in_err-visit.ensures.same c.requires.may fault c.next.new.self c.in_err-visit.ensures.meets c.in_err-visit.ensures.cause)

pub clear_zone-requires-clause-ready : goal.clear_zone-requires-clause-ready
clear_zone-requires-clause-ready g c =
    next_ready c.args.volume.now (inode_view c.args.inode.now) c.requires.ready c.loop-visit.volume c.loop-visit.walk c.loop-visit.invariant
    c.next.new.volume c.in_ok-visit.ensures.later c.in_ok-visit.ensures.same

pub clear_zone-requires-clause-unused : goal.clear_zone-requires-clause-unused
clear_zone-requires-clause-unused g c =
    let met = rw c.in-Some.is at c.in_ok-visit.ensures.meets in
    met_unused c.args.volume.now (inode_view c.args.inode.now) c.requires.ready c.loop-visit.volume c.loop-visit.walk c.loop-visit.invariant
    c.next.new.volume c.in_ok-visit.ensures.later c.in_ok-visit.ensures.same c.requires.may c.in-Some.visit c.next.new.self met

pub loop-visit-smaller : goal.loop-visit-smaller
loop-visit-smaller g c = rw c.in-Some.is at c.in_ok-visit.ensures.fewer

pub loop-visit-preserved : goal.loop-visit-preserved
loop-visit-preserved g c =
    let met = rw c.in-Some.is at c.in_ok-visit.ensures.meets in
    clears_more c.args.volume.now (inode_view c.args.inode.now) c.requires.ready c.loop-visit.volume c.loop-visit.walk c.loop-visit.invariant
    c.next.new.volume c.in_ok-visit.ensures.later c.in_ok-visit.ensures.same c.requires.may c.in-Some.visit c.next.new.self met c.clear_zone.new.volume (Ok tt) c.in_ok-clear_zone.ensures

pub returns-in_err-clear_zone : goal.returns-in_err-clear_zone
returns-in_err-clear_zone g c =
    let fault = c.in_err-clear_zone.field-0.0 in
    let given : c.from_residual-in_err-clear_zone.result ≡ Err fault = search rules in
    let met = rw c.in-Some.is at c.in_ok-visit.ensures.meets in
    rw given (clears_stopped c.args.volume.now (inode_view c.args.inode.now) c.requires.ready c.loop-visit.volume c.loop-visit.walk c.loop-visit.invariant
    c.next.new.volume c.in_ok-visit.ensures.later c.in_ok-visit.ensures.same c.requires.may c.in-Some.visit c.next.new.self met c.clear_zone.new.volume fault c.in_err-clear_zone.ensures)

pub returns : goal.returns
returns g c =
    let none = rw c.in_default.is at c.in_ok-visit.ensures.meets in
    clears_done c.args.volume.now (inode_view c.args.inode.now) c.requires.ready c.loop-visit.volume c.loop-visit.walk c.loop-visit.invariant
    c.next.new.volume c.in_ok-visit.ensures.later c.in_ok-visit.ensures.same c.next.new.self none
