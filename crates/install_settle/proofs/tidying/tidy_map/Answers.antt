-- The new map takes the place of the old one, by its path.
use Rattle.std.proofs.Common.{ℕ, List, Ok, Err, subst}
use Rattle.minix_remove.specs.Renamed.{Renames}
use Rattle.install_settle.proofs.SettleLemmas.{if_ok_map, if_err_map}
use Rattle.install_settle.proofs.TidyLemmas.{tidies}
use Rattle.install_settle.proofs.tidying.tidy_map.Goals as goal

pub returns-clause-tidied : goal.returns-clause-tidied
returns-clause-tidied g c = if_ok_map c.replace_name.result _ _ (λ new renames path may.
    let N : List ℕ → List ℕ → Type 0 = λ from to. Renames c.args.volume new c.args.pair.now.tilde.directory from to (Ok tt) in
    tidies c.args.volume new c.args.pair.now (Ok tt) c.requires.twins c.requires.quiet
    (subst (λ (from : List ℕ). N from c.args.pair.now.plain.name) c.bytes-from.ensures (subst (N c.bytes-from.result.now) c.bytes-to.ensures renames)) path may) c.replace_name.ensures.renamed

pub returns-clause-halted : goal.returns-clause-halted
returns-clause-halted g c = if_err_map c.replace_name.result _ _ (λ halt renames path may.
    let N : List ℕ → List ℕ → Type 0 = λ from to. Renames c.args.volume halt.volume c.args.pair.now.tilde.directory from to (Err halt.fault) in
    tidies c.args.volume halt.volume c.args.pair.now (Err halt.fault) c.requires.twins c.requires.quiet
    (subst (λ (from : List ℕ). N from c.args.pair.now.plain.name) c.bytes-from.ensures (subst (N c.bytes-from.result.now) c.bytes-to.ensures renames)) path may) c.replace_name.ensures.halted
