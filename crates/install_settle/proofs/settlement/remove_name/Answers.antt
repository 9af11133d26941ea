-- A name that is removed, by its path.
use Rattle.std.proofs.Common.{ℕ, List, Ok, Err, subst}
use Rattle.minix_remove.specs.Removed.{Removes}
use Rattle.install_settle.proofs.SettleLemmas.{if_ok_map, if_err_map}
use Rattle.install_settle.proofs.StepLemmas.{does-remove}
use Rattle.install_settle.proofs.settlement.remove_name.Goals as goal

pub returns-clause-removed : goal.returns-clause-removed
returns-clause-removed g c = if_ok_map c.remove.result _ _ (λ new removes path at.
    does-remove c.args.volume new c.args.own.now (Ok tt) c.requires.some c.requires.file (λ told. (c.requires.somewhere told).sound)
    (subst (λ (name : List ℕ). Removes c.args.volume new c.args.own.now.directory name (Ok tt)) c.bytes.ensures removes) path at) c.remove.ensures.removed

pub returns-clause-halted : goal.returns-clause-halted
returns-clause-halted g c = if_err_map c.remove.result _ _ (λ halt removes path at.
    does-remove c.args.volume halt.volume c.args.own.now (Err halt.fault) c.requires.some c.requires.file (λ told. (c.requires.somewhere told).sound)
    (subst (λ (name : List ℕ). Removes c.args.volume halt.volume c.args.own.now.directory name (Err halt.fault)) c.bytes.ensures removes) path at) c.remove.ensures.halted
