-- The table has three sectors, and the zero sector comes after it.
use Rattle.std.proofs.Common.{map, sym, ◌∙◌, arith}
use Rattle.slot_lists.specs.Made.{place_view}
use Rattle.map_sectors.specs.Map.{plan_view}
use Rattle.map_sectors.proofs.FourLemmas.{four-own}
use Rattle.map_sectors.proofs.SectionLemmas.{in-table, in-zero, after-zero}
use Rattle.map_sectors.proofs.map.MapPlan.write_after_line.Goals as goal

pub returns-then-index-lt3 : goal.returns-then-index-lt3
returns-then-index-lt3 c machine fits own =
    let plan = c.args.self.now in
    c.write_table.ensures machine fits (four-own plan.disk c.args.places.now plan.disk_is c.requires)
    ∙ sym (in-table (plan_view plan) machine (map place_view c.args.places.now) c.args.index c.args.into.now c.if-index-lt3.true)

pub returns-then-index-eq3 : goal.returns-then-index-eq3
returns-then-index-eq3 c machine fits own =
    c.clear.ensures ∙ sym (in-zero (plan_view c.args.self.now) machine (map place_view c.args.places.now) c.args.index c.args.into.now c.if-index-eq3.true)

pub returns-else-index-eq3 : goal.returns-else-index-eq3
returns-else-index-eq3 c machine fits own =
    c.write_mapped.ensures machine fits own
    ∙ sym (after-zero (plan_view c.args.self.now) machine (map place_view c.args.places.now) c.args.index c.args.into.now (omega (arith, c.if-index-lt3.false, c.if-index-eq3.false)))
