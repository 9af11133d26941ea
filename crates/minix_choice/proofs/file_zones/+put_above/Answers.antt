use Rattle.std.proofs.Common.{◌≡◌, ◌-◌, length, ap, ◌∙◌, arith, length-drop}
use Rattle.lilo_model.specs.MinixLayout.{numbers_in_zone}
use Rattle.minix_layout.specs.View.{kind_view}
use Rattle.minix_choice.proofs.FileLemmas.{put_alone, began_by, above_piece_by}
use Rattle.minix_choice.proofs.file_zones.+put_above.Goals as goal

pub returns-then-level-eq0 : goal.returns-then-level-eq0
returns-then-level-eq0 t c =
    put_alone (numbers_in_zone (kind_view c.args.kind)) c.args.level c.args.blocks.now c.args.made.now.items c.push.new.self.items c.is_any-any.result
    (omega (arith, c.if-level-eq0.true)) c.is_any-any.ensures c.in_ok-push.ensures.items

pub loop-rest-init : goal.loop-rest-init
loop-rest-init t c =
    began_by (numbers_in_zone (kind_view c.args.kind)) c.args.level c.args.blocks.now c.args.made.now.items c.push.new.self.items c.is_any-any.result c.blocks_under-size.result
    (omega (arith, c.if-level-eq0.false)) c.is_any-any.ensures c.blocks_under-size.ensures.power c.in_ok-push.ensures.items

pub loop-rest-smaller : goal.loop-rest-smaller
loop-rest-smaller t c =
    let e : length c.from_on-rest.result.now ≡ length c.loop-rest.rest.now - c.blocks_under-size.result = ap length c.from_on-rest.ensures ∙ length-drop _ _ in
    omega (arith, e, c.blocks_under-size.ensures.some, c.loop-rest-test.true)

pub loop-rest-preserved : goal.loop-rest-preserved
loop-rest-preserved t c =
    above_piece_by (numbers_in_zone (kind_view c.args.kind)) (c.args.level - 1) c.blocks_under-size.result c.loop-rest.rest.now c.loop-rest.made.items _
    c.first_of.result.now c.from_on-rest.result.now c.put_above.new.made.items
    c.blocks_under-size.ensures.some (omega (arith, c.loop-rest-test.true)) c.first_of.ensures c.from_on-rest.ensures c.in_ok-put_above.ensures c.loop-rest.invariant
