-- A name that takes the place of another.
use Rattle.std.proofs.Common.{◌≡◌, Err, rules}
use Rattle.std.proofs.lemmas.Result.{err_from_is_err_and}
use Rattle.minix_remove.proofs.RenameLemmas.{renames_refused, mid_renaming, renames_done, renames_failed}
use Rattle.minix_remove.proofs.rename.rename.Goals as goal

pub returns-in_err-renaming-clause-renames : goal.returns-in_err-renaming-clause-renames
returns-in_err-renaming-clause-renames g c =
    let fault = c.in_err-renaming.field-0.0 in
    let is : c.from_residual.result ≡ Err fault = search rules in
    rw is
    (renames_refused c.args.volume.now c.find_renaming.new.volume c.args.directory c.args.from.now c.args.to.now c.find_renaming.ensures.same c.find_renaming.ensures.later c.requires.quiet c.requires.may
    fault c.in_err-renaming.ensures.cause c.in_err-renaming.ensures.finds)

pub returns-in_err-carry_out-clause-renames : goal.returns-in_err-carry_out-clause-renames
returns-in_err-carry_out-clause-renames g c =
    let old = c.args.volume.now in
    let mid = c.find_renaming.new.volume in
    let p = err_from_is_err_and c.from_residual-in_err-carry_out.result c.from_residual-in_err-carry_out.ensures.1 in
    let carries = c.in_err-carry_out.ensures.carries c.args.directory c.args.from.now
    (mid_renaming old mid c.args.directory c.args.from.now c.args.to.now c.find_renaming.ensures.same c.find_renaming.ensures.later c.requires.quiet c.requires.may
    c.in_ok-renaming.renaming c.in_ok-renaming.ensures.finds c.requires.names c.in_ok-renaming.ensures.short c.requires.no_zero) in
    rw (p.1, p.2)
    (renames_failed old mid c.args.directory c.args.from.now c.args.to.now c.find_renaming.ensures.same c.find_renaming.ensures.later c.requires.quiet c.requires.may
    c.in_ok-renaming.renaming c.in_ok-renaming.ensures.finds c.requires.names c.in_ok-renaming.ensures.short c.requires.no_zero c.carry_out.new.volume c.in_err-carry_out.field-0.0 carries)

pub returns-clause-renames : goal.returns-clause-renames
returns-clause-renames g c =
    let old = c.args.volume.now in
    let mid = c.find_renaming.new.volume in
    let carries = c.in_ok-carry_out.ensures.carries c.args.directory c.args.from.now
    (mid_renaming old mid c.args.directory c.args.from.now c.args.to.now c.find_renaming.ensures.same c.find_renaming.ensures.later c.requires.quiet c.requires.may
    c.in_ok-renaming.renaming c.in_ok-renaming.ensures.finds c.requires.names c.in_ok-renaming.ensures.short c.requires.no_zero) in
    renames_done old mid c.args.directory c.args.from.now c.args.to.now c.find_renaming.ensures.same c.find_renaming.ensures.later c.requires.quiet c.requires.may
    c.in_ok-renaming.renaming c.in_ok-renaming.ensures.finds c.requires.names c.in_ok-renaming.ensures.short c.requires.no_zero c.carry_out.new.volume carries
