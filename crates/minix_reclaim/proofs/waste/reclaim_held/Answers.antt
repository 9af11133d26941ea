use Rattle.std.proofs.Common.{Ok}
use Rattle.minix_survey.specs.Step.{Finds}
use Rattle.minix_reclaim.proofs.AfterLemmas.{of_after, reclaims_after, reclaims_refused}
use Rattle.minix_reclaim.proofs.ReclaimLemmas.{reclaims_found}
use Rattle.minix_reclaim.proofs.waste.reclaim_held.Goals as goal

pub returns-in-Ok : goal.returns-in-Ok
returns-in-Ok g c =
    let old = c.args.volume.now in
    let mid = c.survey.new.volume in
    reclaims_after old mid c.survey.ensures.same c.survey.ensures.later c.free_waste.new.volume c.free_waste.result
    (reclaims_found mid c.free_waste.new.volume c.in-Ok.found c.free_waste.result c.free_waste.ensures
    (of_after old mid c.survey.ensures.same c.survey.ensures.later (Finds (Ok c.in-Ok.found)) c.in-Ok.ensures.found))

pub returns-in-Err : goal.returns-in-Err
returns-in-Err g c =
    rw c.reclaim_fault.ensures (reclaims_refused c.args.volume.now c.survey.new.volume c.survey.ensures.same c.survey.ensures.later c.in-Err.fault c.in-Err.ensures.found c.in-Err.ensures.cause)
