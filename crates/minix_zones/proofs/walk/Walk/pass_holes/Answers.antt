-- Nothing is met at the stops that are passed.
use Rattle.std.proofs.Common.{◌≡◌, ◌+◌, refl, subst, arith}
use Rattle.minix_layout.specs.View.{kind_view}
use Rattle.minix_zones.specs.Volume.{volume_view, past_of}
use Rattle.minix_zones.specs.Walk.{HasCome}
use Rattle.minix_zones.proofs.TurnLemmas.{turn_hole, turn_holes, per_some, blocks_of, come_from}
use Rattle.minix_zones.proofs.walk.Walk.pass_holes.Goals as goal

pub returns-then-self-gt0-clause-passed : goal.returns-then-self-gt0-clause-passed
returns-then-self-gt0-clause-passed g c =
    let walk = c.args.self.now in
    let layout = c.args.volume.now.layout in
    let blocks = blocks_of _ layout walk.level c.blocks_under.result c.layout.ensures.value c.blocks_under.ensures.power in
    turn_hole (past_of c.args.volume.now) (volume_view c.args.volume.now) walk c.pass.new.self c.blocks_under.result 0 (per_some (kind_view layout.kind)) c.requires.more c.requires.begun blocks c.requires.hole refl
    (come_from walk _ _ _ _ refl refl c.pass.ensures)

pub returns-in-Ok-clause-passed : goal.returns-in-Ok-clause-passed
returns-in-Ok-clause-passed g c =
    let walk = c.args.self.now in
    let new = c.pass-in-Ok.new.self in
    let low : walk.level ≡ 0 = omega arith in
    let come = subst (λ n. HasCome walk new (walk.index + n) 3) c.max.ensures (come_from walk _ _ _ _ refl refl c.pass-in-Ok.ensures) in
    turn_holes (past_of c.args.volume.now) (volume_view c.args.volume.now) walk new c.in-Ok.holes c.requires.more low c.requires.hole c.in-Ok.ensures.holes come
