use Rattle.std.proofs.Common.{◌≡◌, length, rules, arith}
use Rattle.disk_trait.proofs.MomentLemmas.{on_ok}
use Rattle.lilo_model.specs.Bytes.{part_of}
use Rattle.minix_steps.proofs.NowLemmas.{zone_now}
use Rattle.minix_steps.proofs.StepLemmas.{steps_join}
use Rattle.minix_steps.proofs.ZoneLemmas.{part_long, not_super, front_harmless, back_harmless, front_part, back_part, front_others, both_others}
use Rattle.minix_steps.proofs.zone.write_zone.Goals as goal

pub write_beside-requires-clause-no_super : goal.write_beside-requires-clause-no_super
write_beside-requires-clause-no_super g c =
    rw c.where_zone-sector.ensures (not_super c.args.volume.now c.requires.ready c.args.zone c.requires.from c.requires.below c.requires.unused)

pub write_beside-requires-clause-harmless : goal.write_beside-requires-clause-harmless
write_beside-requires-clause-harmless g c =
    rw (c.where_zone-sector.ensures, c.half.ensures)
    (front_harmless c.args.volume.now c.requires.ready c.args.zone c.requires.from c.requires.below c.requires.unused
    (part_of c.args.bytes.now 0 512) (part_long c.args.bytes.now 0 (omega arith)))

pub write_beside-requires-2-clause-harmless : goal.write_beside-requires-2-clause-harmless
write_beside-requires-2-clause-harmless g c =
    rw (c.where_zone-sector.ensures, c.half-2.ensures)
    (back_harmless c.args.volume.now c.requires.ready c.args.zone c.requires.from c.requires.below c.requires.unused
    c.write_beside.new.volume c.write_beside.ensures.steps (part_of c.args.bytes.now 512 512) (part_long c.args.bytes.now 512 (omega arith)))

pub returns-clause-steps : goal.returns-clause-steps
returns-clause-steps g c =
    steps_join c.args.volume.now c.write_beside.new.volume c.write_beside-2.new.volume c.requires.ready c.write_beside.ensures.steps c.write_beside-2.ensures.steps

pub returns-clause-written : goal.returns-clause-written
returns-clause-written g c = search rules

pub returns-clause-parts : goal.returns-clause-parts
returns-clause-parts g c told =
    let old = c.args.volume.now in
    let new = c.write_beside-2.new.volume in
    let long : length c.args.bytes.now ≡ 1024 = omega arith in
    on_ok c.write_beside-2.result _ _ (returns-clause-written g c told)
    (zone_now old new (returns-clause-steps g c) c.args.zone c.args.bytes.now c.requires.from long)

pub returns-in_err-write_beside-clause-made : goal.returns-in_err-write_beside-clause-made
returns-in_err-write_beside-clause-made g c told =
    front_part c.args.volume.now c.write_beside.new.volume c.args.zone c.args.bytes.now c.where_zone-sector.result c.half.result c.write_beside.result
    c.where_zone-sector.ensures c.half.ensures c.write_beside.ensures.writes

pub returns-clause-made : goal.returns-clause-made
returns-clause-made g c told =
    let old = c.args.volume.now in
    let mid = c.write_beside.new.volume in
    let steps = c.write_beside.ensures.steps in
    let part = front_part old mid c.args.zone c.args.bytes.now c.where_zone-sector.result c.half.result c.write_beside.result
    c.where_zone-sector.ensures c.half.ensures c.write_beside.ensures.writes in
    back_part old mid c.write_beside-2.new.volume c.args.zone c.args.bytes.now c.where_zone-sector.result c.half-2.result c.write_beside-2.result
    c.where_zone-sector.ensures c.half-2.ensures steps.kept part c.write_beside-2.ensures.writes

pub returns-in_err-write_beside-clause-others : goal.returns-in_err-write_beside-clause-others
returns-in_err-write_beside-clause-others g c =
    front_others c.args.volume.now c.write_beside.new.volume c.args.zone c.where_zone-sector.result c.half.result c.write_beside.result c.where_zone-sector.ensures c.write_beside.ensures.writes

pub returns-clause-others : goal.returns-clause-others
returns-clause-others g c =
    both_others c.args.volume.now c.write_beside.new.volume c.write_beside-2.new.volume c.args.zone c.where_zone-sector.result c.half.result c.half-2.result c.write_beside.result c.write_beside-2.result
    c.where_zone-sector.ensures c.write_beside.ensures.steps.kept c.write_beside.ensures.writes c.write_beside-2.ensures.writes
