-- The map's names, by what is done with them.
use Rattle.std.proofs.Common.{Ok, Err, sym, subst}
use Rattle.lilo_model.specs.NamePlaces.{with_tilde}
use Rattle.minix_layout.specs.View.{super_view}
use Rattle.minix_steps.specs.Written.{parts_now}
use Rattle.install_settle.specs.Steps.{DoesMap}
use Rattle.install_settle.specs.declared.settling.LeftMap.{LeftMap}
use Rattle.install_settle.proofs.LeadLemmas.{tilde-at}
use Rattle.install_settle.proofs.SettleLemmas.{if_ok_map, if_err_map, does_nothing, tilde_somewhere}
use Rattle.install_settle.proofs.settlement.settle_map.Goals as goal

pub remove_name-requires-clause-somewhere : goal.remove_name-requires-clause-somewhere
remove_name-requires-clause-somewhere g c = λ told. tilde_somewhere c.args.volume c.args.pair.now (c.requires.found told)

pub returns-in-Absent-clause-settled : goal.returns-in-Absent-clause-settled
returns-in-Absent-clause-settled g c = λ path names.
    subst (λ (left : LeftMap). DoesMap c.args.volume c.args.volume path left (Ok tt)) (sym c.in-Absent.is) (does_nothing c.args.volume path c.requires.quiet)

pub returns-in-Finish-clause-settled : goal.returns-in-Finish-clause-settled
returns-in-Finish-clause-settled g c = if_ok_map c.finish_rename.result _ _ (λ new does path names.
    subst (λ (left : LeftMap). DoesMap c.args.volume new path left (Ok tt)) (sym c.in-Finish.is) (does path names)) c.finish_rename.ensures.finished

pub returns-in-Finish-clause-halted : goal.returns-in-Finish-clause-halted
returns-in-Finish-clause-halted g c = if_err_map c.finish_rename.result _ _ (λ halt does path names.
    subst (λ (left : LeftMap). DoesMap c.args.volume halt.volume path left (Err halt.fault)) (sym c.in-Finish.is) (does path names)) c.finish_rename.ensures.halted

pub returns-in-Remove-clause-settled : goal.returns-in-Remove-clause-settled
returns-in-Remove-clause-settled g c = if_ok_map c.remove_name.result _ _ (λ new does path names.
    subst (λ (left : LeftMap). DoesMap c.args.volume new path left (Ok tt)) (sym c.in-Remove.is)
    (does (with_tilde path) (λ told. tilde-at (super_view c.args.volume.layout) (parts_now c.args.volume) path c.args.pair.now.tilde (names told).tilde))) c.remove_name.ensures.removed

pub returns-in-Remove-clause-halted : goal.returns-in-Remove-clause-halted
returns-in-Remove-clause-halted g c = if_err_map c.remove_name.result _ _ (λ halt does path names.
    subst (λ (left : LeftMap). DoesMap c.args.volume halt.volume path left (Err halt.fault)) (sym c.in-Remove.is)
    (does (with_tilde path) (λ told. tilde-at (super_view c.args.volume.layout) (parts_now c.args.volume) path c.args.pair.now.tilde (names told).tilde))) c.remove_name.ensures.halted
