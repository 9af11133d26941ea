-- What was found of a path is what is planned of it, since the volume is sound.
use Rattle.minix_zones.specs.Volume.{volume_view, past_of, faults_of}
use Rattle.file_runs.specs.Mapped.{file_view}
use Rattle.map_plan.proofs.FileLemmas.{found-planned, refused-planned}
use Rattle.map_plan.proofs.file.map_path.Goals as goal

pub returns-in-Ok-clause-file : goal.returns-in-Ok-clause-file
returns-in-Ok-clause-file g c =
    found-planned (volume_view c.args.volume.now) c.args.path.now (past_of c.args.volume.now) (file_view c.in-Ok.file) c.in-Ok.ensures.file

pub returns-in-Err-clause-file : goal.returns-in-Err-clause-file
returns-in-Err-clause-file g c =
    refused-planned (volume_view c.args.volume.now) c.args.path.now (past_of c.args.volume.now) c.in-Err.fault c.path_fault.result
    c.in-Err.ensures.file c.path_fault.ensures.fault

pub returns-in-Err-clause-cause : goal.returns-in-Err-clause-cause
returns-in-Err-clause-cause g c =
    c.path_fault.ensures.cause (faults_of c.args.volume.now) (faults_of c.map_file.new.volume) c.in-Err.ensures.cause
