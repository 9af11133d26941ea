-- A hole goes on in a hole.
use Rattle.std.proofs.Common.{sym, ap, ◌∙◌}
use Rattle.file_runs.specs.Needed.{adjoins}
use Rattle.map_sectors.specs.Runs.{run_start, run_end}
use Rattle.map_sectors.proofs.runs.goes_on.Goals as goal

pub returns-in-Hole : goal.returns-in-Hole
returns-in-Hole c =
    c.is_hole.ensures c.in-Hole.count ∙ ap (λ last. adjoins (run_end last) (run_start c.args.run.now)) (sym c.in-Hole.is)
