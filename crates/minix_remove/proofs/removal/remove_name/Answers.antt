-- What the name leads to is taken away.
use Rattle.std.proofs.Common.{subst, sym}
use Rattle.std.proofs.lemmas.Result.{err_from_is_err_and}
use Rattle.minix_layout.specs.declared.superblock.Super.{Super}
use Rattle.minix_remove.specs.Target.{FitsTarget}
use Rattle.minix_remove.proofs.RemoveLemmas.{quiet_then, removes_refused, some_target, mid_target, removes_done, removes_failed}
use Rattle.minix_remove.proofs.removal.remove_name.Goals as goal

pub returns-in_err-target-clause-removes : goal.returns-in_err-target-clause-removes
returns-in_err-target-clause-removes g c =
    let p = err_from_is_err_and c.from_residual.result c.from_residual.ensures.1 in
    rw (p.1, p.2)
    (removes_refused c.args.volume.now c.find_target.new.volume c.args.directory c.args.name.now c.find_target.ensures.same c.find_target.ensures.later c.requires.quiet c.requires.may
    c.in_err-target.field-0.0 c.in_err-target.ensures.cause c.in_err-target.ensures.finds)

pub take_away-requires-clause-fits : goal.take_away-requires-clause-fits
take_away-requires-clause-fits g c =
    let F : Super → Type 0 = λ layout. FitsTarget layout c.in_ok-target.target in
    subst F (sym c.find_target.ensures.same.same_layout) c.in_ok-target.ensures.fits

pub take_away-requires-clause-quiet : goal.take_away-requires-clause-quiet
take_away-requires-clause-quiet g c =
    quiet_then c.args.volume.now c.find_target.new.volume c.args.directory c.args.name.now c.find_target.ensures.same c.find_target.ensures.later c.requires.quiet c.requires.may

pub take_away-requires-clause-may : goal.take_away-requires-clause-may
take_away-requires-clause-may g c told =
    some_target c.args.volume.now c.find_target.new.volume c.args.directory c.args.name.now c.find_target.ensures.same c.find_target.ensures.later c.requires.quiet c.requires.may
    c.in_ok-target.target c.in_ok-target.ensures.finds told

pub returns-in_err-take_away-clause-removes : goal.returns-in_err-take_away-clause-removes
returns-in_err-take_away-clause-removes g c =
    let old = c.args.volume.now in
    let mid = c.find_target.new.volume in
    let p = err_from_is_err_and c.from_residual-in_err-take_away.result c.from_residual-in_err-take_away.ensures.1 in
    let takes = c.in_err-take_away.ensures.takes c.args.directory c.args.name.now
    (mid_target old mid c.args.directory c.args.name.now c.find_target.ensures.same c.find_target.ensures.later c.requires.quiet c.requires.may c.in_ok-target.target c.in_ok-target.ensures.finds) in
    rw (p.1, p.2)
    (removes_failed old mid c.args.directory c.args.name.now c.find_target.ensures.same c.find_target.ensures.later c.requires.quiet c.requires.may
    c.in_ok-target.target c.in_ok-target.ensures.finds c.take_away.new.volume c.in_err-take_away.field-0.0 takes)

pub returns-clause-removes : goal.returns-clause-removes
returns-clause-removes g c =
    let old = c.args.volume.now in
    let mid = c.find_target.new.volume in
    let takes = c.in_ok-take_away.ensures.takes c.args.directory c.args.name.now
    (mid_target old mid c.args.directory c.args.name.now c.find_target.ensures.same c.find_target.ensures.later c.requires.quiet c.requires.may c.in_ok-target.target c.in_ok-target.ensures.finds) in
    removes_done old mid c.args.directory c.args.name.now c.find_target.ensures.same c.find_target.ensures.later c.requires.quiet c.requires.may
    c.in_ok-target.target c.in_ok-target.ensures.finds c.take_away.new.volume takes
