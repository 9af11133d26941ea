use Rattle.minix_zones.specs.Volume.{volume_view, past_of}
use Rattle.minix_zones.proofs.TurnLemmas.{ended_rest}
use Rattle.minix_zones.proofs.walk.Walk.next_held.Goals as goal

pub returns-clause-meets : goal.returns-clause-meets
returns-clause-meets g c =
    ended_rest (past_of c.args.volume.now) (volume_view c.args.volume.now) c.args.self.now c.loop-self.self c.loop-self-test.false c.loop-self.invariant.passed
