use Rattle.std.proofs.Common.{◌∙◌, ap}
use Rattle.minix_stops.proofs.small.put.Goals as goal

pub returns-clause-size : goal.returns-clause-size
returns-clause-size c = ap (λ sizes. sizes 0) c.set.ensures.size ∙ c.requires.size
