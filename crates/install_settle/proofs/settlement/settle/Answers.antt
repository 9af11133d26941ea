-- All that was written before is made durable, then it is settled.
use Rattle.std.proofs.Common.{◌≡◌, false, Ok, Err, sym, ◌∙◌}
use Rattle.minix_zones.specs.declared.zone_fault.ZoneFault.TheVariants as zones
use Rattle.install_settle.specs.Found.{is_anything}
use Rattle.install_settle.proofs.FlushLemmas.{may_forth, settles_nothing, settles_flushed, settles_unflushed}
use Rattle.install_settle.proofs.SettleLemmas.{if_ok_map, if_err_map}
use Rattle.install_settle.proofs.settlement.settle.Goals as goal

pub returns-then-not-is_anything-clause-settled : goal.returns-then-not-is_anything-clause-settled
returns-then-not-is_anything-clause-settled g c = λ names forced may.
    let none : is_anything c.args.settling ≡ false = sym c.is_anything.ensures ∙ c.if-not-is_anything.true in
    settles_nothing c.args.volume names forced c.args.settling c.args.own.now c.requires.files c.requires.left may none

pub returns-in-Ok-clause-settled : goal.returns-in-Ok-clause-settled
returns-in-Ok-clause-settled g c = if_ok_map c.settle_quiet.result _ _ (λ new settles names forced may.
    let syncs = c.sync.ensures.syncs in
    settles_flushed c.args.volume c.sync.new.self zones.Device c.sync.result syncs names forced c.args.settling c.args.own.now may c.in-Ok.is new (Ok tt)
    (settles names forced (λ told. may_forth c.args.volume c.sync.new.self syncs.kept syncs.flushes.same_now names forced c.args.own.now c.args.settling (may (syncs.flushes.goes_on.told_before told))))) c.settle_quiet.ensures.settled

pub returns-in-Ok-clause-halted : goal.returns-in-Ok-clause-halted
returns-in-Ok-clause-halted g c = if_err_map c.settle_quiet.result _ _ (λ halt settles names forced may.
    let syncs = c.sync.ensures.syncs in
    settles_flushed c.args.volume c.sync.new.self zones.Device c.sync.result syncs names forced c.args.settling c.args.own.now may c.in-Ok.is halt.volume (Err halt.fault)
    (settles names forced (λ told. may_forth c.args.volume c.sync.new.self syncs.kept syncs.flushes.same_now names forced c.args.own.now c.args.settling (may (syncs.flushes.goes_on.told_before told))))) c.settle_quiet.ensures.halted

pub returns-in-Err-clause-halted : goal.returns-in-Err-clause-halted
returns-in-Err-clause-halted g c = λ names forced may.
    settles_unflushed c.args.volume c.sync.new.self zones.Device c.sync.result c.sync.ensures.syncs names forced c.args.settling c.args.own.now may c.in-Err.field-0 c.in-Err.is
