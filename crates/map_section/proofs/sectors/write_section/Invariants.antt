use Rattle.std.proofs.Common.{◌≡◌, map, take}
use Rattle.std.specs.List.{concat}
use Rattle.lilo_model.specs.Bytes.{filled_bytes}
use Rattle.lilo_model.specs.Slots.{slot_bytes}
use Rattle.sector_address.specs.View.{slot_view}
use Rattle.map_section.proofs.sectors.write_section.Given as goal

-- the slots so far are written, and zeros after them
abbrev pub invariant-loop-index : goal.invariant-loop-index
invariant-loop-index l = l.into ≡ filled_bytes 512 (concat (map slot_bytes (map slot_view (take l.index l.slots))))
