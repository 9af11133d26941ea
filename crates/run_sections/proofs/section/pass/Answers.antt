-- Where each sector has its own slot, as many sectors are passed.
use Rattle.std.proofs.Common.{◌∙◌}
use Rattle.slot_lists.specs.Made.{place_view}
use Rattle.run_sections.proofs.LeftLemmas.{skipped}
use Rattle.run_sections.proofs.section.pass.Goals as goal

pub returns-else-compact : goal.returns-else-compact
returns-else-compact c slots made =
    skipped c.args.cursor.now c.skip.new.self c.args.runs.now (place_view c.args.zero) c.args.count slots
    c.skip.ensures.same (c.requires.compact ∙ c.if-compact.false) (c.skip.ensures.left (place_view c.args.zero)) made
