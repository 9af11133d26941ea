-- What a directory has under a name.
use Rattle.minix_zones.specs.Volume.{volume_view, past_of, faults_of}
use Rattle.minix_names.proofs.ThereLemmas.{told-there}
use Rattle.minix_names.proofs.entry.look_up.Goals as goal

pub returns-clause-there : goal.returns-clause-there
returns-clause-there g c =
    told-there (past_of c.args.volume.now) (volume_view c.args.volume.now) c.args.directory.now.inode c.args.name.now c.child_or_last.result
    (faults_of c.args.volume.now) (faults_of c.child_or_last.new.volume) c.child_or_last.ensures.found c.child_or_last.ensures.cause
