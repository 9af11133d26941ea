-- What is found is what is planned, and a refusal is reported as the path's.
use Rattle.minix_zones.specs.Volume.{volume_view, past_of, faults_of}
use Rattle.map_plan.specs.Starts.{start_view}
use Rattle.map_plan.proofs.StartLemmas.{start-refused, start-found}
use Rattle.map_plan.proofs.start.read_start.Goals as goal

pub returns-in-Ok-clause-start : goal.returns-in-Ok-clause-start
returns-in-Ok-clause-start g c =
    start-found (volume_view c.args.volume.now) c.args.path.now (past_of c.args.volume.now) (start_view c.in-Ok.start) c.in-Ok.ensures.start

pub returns-in-Err-clause-start : goal.returns-in-Err-clause-start
returns-in-Err-clause-start g c =
    start-refused (volume_view c.args.volume.now) c.args.path.now (past_of c.args.volume.now) c.in-Err.fault c.path_fault.result
    c.in-Err.ensures.start c.path_fault.ensures.start

pub returns-in-Err-clause-cause : goal.returns-in-Err-clause-cause
returns-in-Err-clause-cause g c =
    c.path_fault.ensures.cause (faults_of c.args.volume.now) (faults_of c.start_at.new.volume) c.in-Err.ensures.cause
