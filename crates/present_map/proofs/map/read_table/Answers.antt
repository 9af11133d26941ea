-- The slots of a table name sectors, and what is read is what lies there.
use Rattle.std.proofs.Common.{map, rules}
use Rattle.sector_address.specs.Machine.{machine_of}
use Rattle.sector_address.specs.View.{slot_view}
use Rattle.present_map.proofs.MapLemmas.{bytes-at-places, not_lost}
use Rattle.disk_trait.proofs.ToldLemmas.{told_map}
use Rattle.present_map.proofs.map.read_table.Goals as goal

pub returns-in-Ok-clause-bytes : goal.returns-in-Ok-clause-bytes
returns-in-Ok-clause-bytes g c =
    told_map (g.D.Disks.past c.args.disks.now) _ _ (λ now read places found.
    bytes-at-places now (machine_of g.D.Disks c.args.disks.now) (map slot_view c.args.slots.now) c.read_slots.new.into places read found)
    c.in-Ok.ensures.sectors

pub unreachable-requires : goal.unreachable-requires
unreachable-requires g c =
    not_lost (machine_of g.D.Disks c.args.disks.now) c.args.slots.now c.requires.there (search rules)
