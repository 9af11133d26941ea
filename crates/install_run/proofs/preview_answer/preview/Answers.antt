use Rattle.std.proofs.lemmas.Option.{IfSome_then}
use Rattle.disk_trait.proofs.ToldLemmas.{told_map}
use Rattle.minix_zones.specs.Volume.{past_of, faults_of}
use Rattle.install_run.proofs.preview_answer.preview.Goals as goal

pub returns-in-Err-clause-answers : goal.returns-in-Err-clause-answers
returns-in-Err-clause-answers g c =
    IfSome_then c.args.config.boot c.in-Err.ensures.gives
    (λ device gives. told_map (past_of c.args.volume) _ _ (λ now refuses. c.refuse.ensures.refused (faults_of c.args.volume) c.in-Err.ensures.cause _ refuses) gives)

pub returns-in-Err-clause-cause : goal.returns-in-Err-clause-cause
returns-in-Err-clause-cause g c is = rw c.refuse.ensures.disks (c.refuse.ensures.cause (faults_of c.args.volume) c.in-Err.ensures.cause is)
