use Rattle.std.proofs.Common.{◌≡◌, Err, rules, sym, inl}
use Rattle.minix_tree.specs.declared.tree_fault.TreeFault.TheVariants.{BadEntry}
use Rattle.minix_remove.proofs.TargetLemmas.{not_read, too_high, is_file, is_none}
use Rattle.minix_remove.proofs.target.file_of.Goals as goal

pub returns-then-number-layout-clause-gives : goal.returns-then-number-layout-clause-gives
returns-then-number-layout-clause-gives g c = too_high c.args.volume.now c.args.number (rw c.layout.ensures.value at c.if-number-layout.true) (BadEntry c.args.directory)

pub returns-in_err-stat-clause-gives : goal.returns-in_err-stat-clause-gives
returns-in_err-stat-clause-gives g c told sound named =
    let fault = c.in_err-stat.field-0.0 in
    let given : c.from_residual.result ≡ Err fault = search rules in
    rw given (inl (not_read c.args.volume.now c.args.number _ _ fault told sound named c.in_err-stat.ensures.found c.in_err-stat.ensures.cause))

pub returns-then-is_removable-clause-gives : goal.returns-then-is_removable-clause-gives
returns-then-is_removable-clause-gives g c =
    is_file c.args.volume.now c.args.number c.in_ok-stat.stat.node (rw c.in_ok-stat.ensures.number at c.in_ok-stat.ensures.node) (sym c.if-is_removable.ensures)

pub returns-else-is_removable-clause-gives : goal.returns-else-is_removable-clause-gives
returns-else-is_removable-clause-gives g c =
    is_none c.args.volume.now c.args.number c.in_ok-stat.stat.node (rw c.in_ok-stat.ensures.number at c.in_ok-stat.ensures.node) (sym c.if-is_removable.ensures)
