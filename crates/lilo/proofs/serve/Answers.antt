-- The disks report no past, so nothing is said of how long a sector is.
use Rattle.lilo.proofs.serve.Goals as goal

pub lilo-requires : goal.lilo-requires
lilo-requires c = record { whole = c.untold.ensures _ }
