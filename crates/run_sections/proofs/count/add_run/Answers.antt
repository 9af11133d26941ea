-- A hole takes a slot for each of its sectors.
use Rattle.std.proofs.Common.{◌++◌, refl, ap, ◌∙◌}
use Rattle.slot_lists.specs.Runs.{run_places}
use Rattle.run_sections.specs.Counted.{count_left}
use Rattle.run_sections.proofs.PassLemmas.{holes-left}
use Rattle.run_sections.proofs.count.add_run.Goals as goal

pub returns-then-count-gt0-clause-counted : goal.returns-then-count-gt0-clause-counted
returns-then-count-gt0-clause-counted c rest =
    ap (λ run. count_left c.args.naming c.args.counted.now (run_places run ++ rest)) c.in-Hole.is
    ∙ holes-left c.args.naming c.args.counted.now _ c.in-Hole.count rest c.if-count-gt0.true refl
