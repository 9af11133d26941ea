use Rattle.install_stage.proofs.RoomStagedLemmas.{room_staged_law}
use Rattle.install_stage.proofs.laws.room_is_staged.Goals as goal

pub returns : goal.returns
returns g c = room_staged_law c.args.start.now c.args.volume.now c.args.plan.now c.args.room.now
