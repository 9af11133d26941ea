use Rattle.map_plan.proofs.address.check_runs.Goals as goal

pub returns-clause-decided : goal.returns-clause-decided
returns-clause-decided c config machine named on = c.check_mapped_file.ensures.decided config machine c.args.size named on
