-- A place with nothing has what any disk has.
use Rattle.std.proofs.lemmas.List.Elements.{All-replicate}
use Rattle.minix_zones.specs.Sectors.{HasSector}
use Rattle.minix_zones.proofs.held_sectors.HeldSectors.none.Goals as goal

pub returns : goal.returns
returns c disk now = All-replicate (HasSector disk now) 32 _ (λ full. cc)
