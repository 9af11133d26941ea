-- A refusal has its path.
use Rattle.minix_zones.specs.Volume.{volume_view, past_of, faults_of}
use Rattle.install_apart.proofs.OwnLemmas.{told-named}
use Rattle.install_apart.proofs.own.named_pair.Goals as goal

pub returns-in-Err-clause-cause : goal.returns-in-Err-clause-cause
returns-in-Err-clause-cause g c =
    c.refused_path.ensures.cause (faults_of c.args.volume.now) (faults_of c.replaceable_pair.new.volume) c.in-Err.ensures.cause

pub returns-in-Err-clause-pair : goal.returns-in-Err-clause-pair
returns-in-Err-clause-pair g c =
    told-named (past_of c.args.volume.now) (volume_view c.args.volume.now) c.args.both c.args.path.now c.in-Err.fault c.refused_path.result
    (faults_of c.args.volume.now) (faults_of c.replaceable_pair.new.volume) c.refused_path.ensures.path
    (c.refused_path.ensures.cause (faults_of c.args.volume.now) (faults_of c.replaceable_pair.new.volume) c.in-Err.ensures.cause)
    c.in-Err.ensures.pair
