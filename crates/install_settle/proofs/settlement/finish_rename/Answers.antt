-- A rename that is finished, by its path.
use Rattle.std.proofs.Common.{ℕ, List, Ok, Err, subst}
use Rattle.std.proofs.lemmas.Bool.{and_parts}
use Rattle.minix_remove.specs.Renamed.{Renames}
use Rattle.install_apart.specs.Names.{is_replaceable}
use Rattle.install_settle.proofs.SettleLemmas.{if_ok_map, if_err_map}
use Rattle.install_settle.proofs.StepLemmas.{does-finish}
use Rattle.install_settle.proofs.settlement.finish_rename.Goals as goal

pub returns-clause-finished : goal.returns-clause-finished
returns-clause-finished g c = if_ok_map c.replace_name.result _ _ (λ new renames path names.
    let files = and_parts (is_replaceable c.args.pair.now.plain) (is_replaceable c.args.pair.now.tilde) c.requires.files in
    let N : List ℕ → List ℕ → Type 0 = λ from to. Renames c.args.volume new c.args.pair.now.tilde.directory from to (Ok tt) in
    does-finish c.args.volume new c.args.pair.now (Ok tt) c.requires.twins c.requires.some c.requires.link files.0 files.1 (λ told. (c.requires.found told).sound)
    (subst (λ (from : List ℕ). N from c.args.pair.now.plain.name) c.bytes-from.ensures (subst (N c.bytes-from.result.now) c.bytes.ensures renames)) path names) c.replace_name.ensures.renamed

pub returns-clause-halted : goal.returns-clause-halted
returns-clause-halted g c = if_err_map c.replace_name.result _ _ (λ halt renames path names.
    let files = and_parts (is_replaceable c.args.pair.now.plain) (is_replaceable c.args.pair.now.tilde) c.requires.files in
    let N : List ℕ → List ℕ → Type 0 = λ from to. Renames c.args.volume halt.volume c.args.pair.now.tilde.directory from to (Err halt.fault) in
    does-finish c.args.volume halt.volume c.args.pair.now (Err halt.fault) c.requires.twins c.requires.some c.requires.link files.0 files.1 (λ told. (c.requires.found told).sound)
    (subst (λ (from : List ℕ). N from c.args.pair.now.plain.name) c.bytes-from.ensures (subst (N c.bytes-from.result.now) c.bytes.ensures renames)) path names) c.replace_name.ensures.halted
