-- The names at a path, none where its directory is refused.
use Rattle.std.proofs.Common.{Ok}
use Rattle.minix_zones.specs.Volume.{volume_view, past_of}
use Rattle.install_apart.proofs.ApartLemmas.{told-pair, told-unfound}
use Rattle.install_apart.proofs.apart_name.find_names.Goals as goal

pub returns-in-Ok-clause-found : goal.returns-in-Ok-clause-found
returns-in-Ok-clause-found g c =
    told-pair (volume_view c.args.volume.now) c.args.path.now (past_of c.args.volume.now) c.in-Ok.pair c.in-Ok.ensures.pair

pub returns-in-Ok-unless_stopped-clause-found : goal.returns-in-Ok-unless_stopped-clause-found
returns-in-Ok-unless_stopped-clause-found g c =
    told-unfound (volume_view c.args.volume.now) c.args.path.now (past_of c.args.volume.now) c.in-Err.fault (Ok tt) c.in-Ok-unless_stopped.ensures c.in-Err.ensures.pair
