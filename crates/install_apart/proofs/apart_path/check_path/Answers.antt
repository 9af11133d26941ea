-- Where the walk of a path ends.
use Rattle.minix_names.specs.View.{end_view}
use Rattle.minix_zones.specs.Volume.{volume_view, past_of}
use Rattle.install_apart.proofs.ApartLemmas.{told-ended, told-unwalked}
use Rattle.install_apart.proofs.apart_path.check_path.Goals as goal

pub returns-in-Ok-clause-apart : goal.returns-in-Ok-clause-apart
returns-in-Ok-clause-apart g c =
    told-ended (volume_view c.args.volume.now) c.args.path.now c.args.guarded.now c.args.option (past_of c.args.volume.now)
    (end_view c.walk_end.new.missed c.in-Ok.end) c.ends_at_guarded.result c.judged.result c.in-Ok.ensures.end c.ends_at_guarded.ensures c.judged.ensures

pub returns-in-Err-clause-apart : goal.returns-in-Err-clause-apart
returns-in-Err-clause-apart g c =
    told-unwalked (volume_view c.args.volume.now) c.args.path.now c.args.guarded.now c.args.option (past_of c.args.volume.now)
    c.in-Err.fault c.unless_stopped.result c.in-Err.ensures.end c.unless_stopped.ensures
