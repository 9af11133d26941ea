-- The sector of the default line comes first, and there are as many as places.
use Rattle.std.proofs.Common.{[], map, sym, ◌∙◌, arith}
use Rattle.std.proofs.lemmas.List.{get_or_default}
use Rattle.lilo_model.specs.Plan.{plan_sectors}
use Rattle.slot_lists.specs.Made.{place_view}
use Rattle.map_sectors.specs.Map.{plan_view}
use Rattle.map_sectors.proofs.SectionLemmas.{in-line, after-line, length-plan}
use Rattle.map_sectors.proofs.map.MapPlan.sector.Goals as goal

pub returns-then-index-eq0 : goal.returns-then-index-eq0
returns-then-index-eq0 c machine fits own =
    c.write_into.ensures.bytes
    ∙ sym (in-line (plan_view c.args.self.now) machine (map place_view c.args.places.now) c.args.index [] c.if-index-eq0.true)

pub returns-else-index-eq0 : goal.returns-else-index-eq0
returns-else-index-eq0 c machine fits own =
    let view = plan_view c.args.self.now in
    let places = map place_view c.args.places.now in
    let count = own.count in
    let long = length-plan view machine places in
    c.write_after_line.ensures machine fits own
    ∙ sym (after-line view machine places c.args.index c.args.into.now (omega (arith, c.if-index-eq0.false)))
    ∙ get_or_default (plan_sectors view machine places) c.args.index c.args.into.now [] (omega (arith, count, long, c.requires.index))
