use Rattle.std.proofs.Common.{◌≡◌, Ok, Err, rules}
use Rattle.std.proofs.lemmas.Option.{IfSome_then}
use Rattle.disk_trait.proofs.MomentLemmas.{told_now}
use Rattle.disk_trait.proofs.ToldLemmas.{told_map}
use Rattle.minix_zones.specs.Volume.{past_of}
use Rattle.sector_address.specs.Machine.{machine_of}
use Rattle.install_order.specs.View.{begun_of}
use Rattle.install_run.proofs.PreviewLemmas.{look_refused}
use Rattle.install_run.proofs.PreviewStateLemmas.{are_surveyed, refused_here, passes_here, gives_back}
use Rattle.install_run.proofs.preview_answer.decide.Goals as goal

pub returns-in_err-surveyed-clause-gives : goal.returns-in_err-surveyed-clause-gives
returns-in_err-surveyed-clause-gives g c =
    let halt = c.in_err-surveyed.field-0.0 in
    let is : c.from_residual.result ≡ Err halt = search rules in
    rw is
    (IfSome_then c.args.config.boot c.in_err-surveyed.ensures.found
    (λ device found.
    told_map (past_of c.args.volume) _ _
    (λ now refused. look_refused now (machine_of g.D.Disks c.args.volume.disks.now) (begun_of c.args.volume c.args.config device c.args.boot) c.args.now halt.fault refused) found))

pub returns-in_err-planned-clause-gives : goal.returns-in_err-planned-clause-gives
returns-in_err-planned-clause-gives g c =
    let halt = c.in_err-planned.field-0.0 in
    let is : c.from_residual-in_err-planned.result ≡ Err halt = search rules in
    let s = c.in_ok-surveyed.surveyed in
    let looked = c.in_ok-surveyed.ensures in
    rw is
    (gives_back c.args.volume c.args.config c.args.boot c.args.now s looked.same looked.later looked.held (Err halt)
    (λ told.
    refused_here s looked.held.settled_is looked.known told halt.fault
    (told_now (past_of s.volume) _ c.in_err-planned.ensures.planned told _ _ (are_surveyed s looked.held.settled_is looked.known told))))

pub returns-clause-gives : goal.returns-clause-gives
returns-clause-gives g c =
    let s = c.in_ok-surveyed.surveyed in
    let looked = c.in_ok-surveyed.ensures in
    let planned = c.in_ok-planned.planned in
    let is = c.in_ok-planned.ensures in
    gives_back c.args.volume c.args.config c.args.boot c.args.now s looked.same looked.later looked.held (Ok (planned, c.clear-clear.result))
    (λ told.
    passes_here s looked.held.settled_is looked.known told planned c.clear-clear.result
    (told_now (past_of s.volume) _ is.planned told _ _ (are_surveyed s looked.held.settled_is looked.known told)) (told_now (past_of s.volume) _ is.found told) is.held c.clear-clear.ensures)
