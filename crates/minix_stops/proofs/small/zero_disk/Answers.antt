use Rattle.minix_stops.proofs.SmallLemmas.{blank_made}
use Rattle.minix_stops.proofs.small.zero_disk.Goals as goal

pub returns-clause-image : goal.returns-clause-image
returns-clause-image c = blank_made (λ made. made.start) c.new-2.result c.new-2.ensures.zeros
