-- Image files report no past, so that a stop is said to leave none of their sectors cut short.
use Rattle.ldisk.proofs.serve.Goals as goal

pub ldisk-requires : goal.ldisk-requires
ldisk-requires c = record { whole = c.untold.ensures _ }
