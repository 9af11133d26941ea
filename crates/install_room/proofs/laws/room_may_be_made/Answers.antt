-- What is chosen may be made.
use Rattle.install_room.proofs.MakingLemmas.{may_make_room}
use Rattle.install_room.proofs.laws.room_may_be_made.Goals as goal

pub returns : goal.returns
returns g c = may_make_room c.args.volume.now c.args.room.now
