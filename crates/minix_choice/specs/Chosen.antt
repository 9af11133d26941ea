-- What is chosen, step by step.
use Rattle.std.specs.Prelude.{ℕ, ◌+◌, ◌/◌, List, Option, Result, Ok}
use Rattle.lilo_model.specs.Checks.{◌>>=◌}
use Rattle.lilo_model.specs.MinixLayout.{Super}
use Rattle.lilo_model.specs.MinixParts.{Parts}
use Rattle.lilo_model.specs.MinixEntries.{entries_per_block}
use Rattle.write_model.specs.Wish.{Taken, Refusal, NoInode, NoSpace}
use Rattle.write_model.specs.Places.{is_promised, first_free, or_behind}
use Rattle.write_model.specs.Growth.{missing_on_way, promised_zones, count_fresh}
use Rattle.write_model.specs.Choice.{some_or, in_zone, name_check, free_inode, first_zones, left_zones}
use Rattle.minix_choice.specs.declared.pick.Spot.{Spot}
use Rattle.minix_choice.specs.declared.pick.Found.{Found}

-- the first free place of a directory that may have a name
unfoldable pub free_for : Super → Parts → Taken → ℕ → List ℕ → Result (Option ℕ) Refusal
free_for super parts taken directory name =
    name_check super parts taken directory name
    >>= λ entries. Ok (first_free (is_promised taken.promises directory) 0 entries)

-- an inode and a place
pub record InodePlace : Type 0 where
  pub inode : ℕ
  pub place : ℕ

abbrev pub at_place : ℕ → ℕ → InodePlace
at_place inode place = record { inode = inode; place = place }

-- those for a name in a directory
unfoldable pub spot_for : Super → Parts → Taken → ℕ → List ℕ → Result InodePlace Refusal
spot_for super parts taken directory name =
    free_for super parts taken directory name
    >>= λ free. some_or NoInode (free_inode super parts taken.has_inode)
    >>= λ inode. some_or (NoSpace 1 0) (or_behind super.kind taken.promises directory (parts.node directory).size free)
    >>= λ place. Ok (at_place inode place)

abbrev pub spot_view : Spot → InodePlace
spot_view spot = at_place spot.inode spot.place

-- zones, and those of growth that were promised
pub record PromisedZones : Type 0 where
  pub promised : List (Option ℕ)
  pub zones : List ℕ

abbrev pub zones_with : List (Option ℕ) → List ℕ → PromisedZones
zones_with promised zones = record { promised = promised; zones = zones }

-- those for a file of so many zones at a place
unfoldable pub zones_for : Super → Parts → Taken → ℕ → ℕ → ℕ → Result PromisedZones Refusal
zones_for super parts taken directory need place =
    in_zone (missing_on_way super parts (parts.node directory) (place / entries_per_block super.kind))
    >>= λ missing. first_zones
    (need + count_fresh (promised_zones super.kind taken.promises directory (place / entries_per_block super.kind) missing))
    (left_zones super parts taken.has_zone)
    >>= λ zones. Ok (zones_with (promised_zones super.kind taken.promises directory (place / entries_per_block super.kind) missing) zones)

abbrev pub found_view : Found → PromisedZones
found_view found = zones_with found.promised.items found.zones
