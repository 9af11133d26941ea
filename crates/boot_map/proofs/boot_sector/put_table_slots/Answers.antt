-- Three slots, one after the other.
use Rattle.boot_map.proofs.SlotLemmas.{three-put}
use Rattle.boot_map.proofs.boot_sector.put_table_slots.Goals as goal

pub returns : goal.returns
returns c =
    three-put c.args.slots.now _ _ _ c.args.sector.now c.put.new.sector c.put-2.new.sector c.put-3.new.sector c.requires.three c.told-sector c.put.ensures c.put-2.ensures c.put-3.ensures
