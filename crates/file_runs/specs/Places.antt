-- Where the sectors of an inode's file lie, on any volume: what the model plans for it on a sound one.
use Rattle.std.specs.Prelude.{◌≡◌, ℕ, ◌*◌, ◌-◌, ◌/◌, true, min, List, ◌++◌, map, Option, Result, Ok}
use Rattle.std.specs.List.{range_with_len}
use Rattle.lilo_model.specs.Checks.{◌>>=◌, each}
use Rattle.lilo_model.specs.Disks.{Image, DiskSector}
use Rattle.lilo_model.specs.Section.{sectors_for}
use Rattle.lilo_model.specs.MinixLayout.{Inode}
use Rattle.lilo_model.specs.MinixParts.{Volume, Parts, ZoneFault, parts_of, has_zones, zone_at}
use Rattle.lilo_model.specs.MinixNames.{Named, IsSound}
use Rattle.lilo_model.specs.Planned.{sector_in_zone, inode_places}

-- where a sector of a file lies, or the refusal of its block's zone
abbrev pub placed : Volume → Parts → Inode → ℕ → Result (Option DiskSector) ZoneFault
placed volume parts inode index =
    zone_at volume.layout parts inode (index / 2) >>= λ zone. Ok (sector_in_zone volume.span zone index)

-- where so many first sectors lie, or the refusal of the first block that has one
unfoldable pub first_places : Volume → Parts → Inode → ℕ → Result (List (Option DiskSector)) ZoneFault
first_places volume parts inode count = each (map (placed volume parts inode) (range_with_len 0 count))

-- the same of all
unfoldable pub file_places : Volume → Parts → Inode → Result (List (Option DiskSector)) ZoneFault
file_places volume parts inode = first_places volume parts inode (sectors_for inode.size)

-- ---- by blocks

-- how many sectors of a file its block with an index has
abbrev pub sectors_in_block : ℕ → ℕ → ℕ
sectors_in_block size index = min 2 (sectors_for size - 2 * index)

-- where those of a block lie
abbrev pub block_places : Volume → Parts → Inode → ℕ → Result (List (Option DiskSector)) ZoneFault
block_places volume parts inode index =
    zone_at volume.layout parts inode index
    >>= λ zone. Ok (map (sector_in_zone volume.span zone) (range_with_len 0 (sectors_in_block inode.size index)))

-- after some places
abbrev pub places_with_block : Volume → Parts → Inode → ℕ → List (Option DiskSector) → Result (List (Option DiskSector)) ZoneFault
places_with_block volume parts inode index before =
    block_places volume parts inode index >>= λ here. Ok (before ++ here)

-- ---- on a sound volume

-- for what has a name and zones nothing is refused: the places are those that the model plans
abbrev pub PlacesLaw : Type 0
PlacesLaw =
    (volume : Volume) (image : Image) (number : ℕ) → IsSound volume image → Named volume.layout (parts_of volume image) number
    → has_zones ((parts_of volume image).node number) ≡ true
    → file_places volume (parts_of volume image) ((parts_of volume image).node number) ≡ Ok (inode_places volume (parts_of volume image) number)
