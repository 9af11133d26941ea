-- What the cursor answered is the first of what it had left.
use Rattle.slot_lists.specs.Made.{place_view}
use Rattle.run_sections.proofs.LeftLemmas.{left-found, left-refused}
use Rattle.run_sections.proofs.section.next_in.Goals as goal

pub returns-in-Ok-clause-next : goal.returns-in-Ok-clause-next
returns-in-Ok-clause-next c slots made =
    left-found c.args.cursor.now c.next.new.self c.args.runs.now (place_view c.args.zero) c.next.ensures.same c.next.ensures.left
    c.in-Ok.found slots c.in-Ok.ensures.answer made

pub returns-in-Err-clause-next : goal.returns-in-Err-clause-next
returns-in-Err-clause-next c slots made =
    absurd (left-refused c.args.cursor.now c.next.new.self c.args.runs.now (place_view c.args.zero) c.next.ensures.same c.next.ensures.left
    _ slots c.in-Err.ensures.answer made)
