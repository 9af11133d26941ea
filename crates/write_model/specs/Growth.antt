-- By which zones a directory grows so that one of its blocks is there (pointers and indirect zones: Minix file system;
-- the order is this project's own: that of the block first, then those of the indirect zones above it, the lowest
-- first). A zone that was promised to a file before isn't chosen again.
use Rattle.std.specs.Prelude.{ℕ, ◌+◌, ◌-◌, ◌/◌, ◌%◌, ◌^◌, ◌==◌, nat_lt, Bool, ◌&&◌, if◌then◌else◌, List, [], ◌∷◌, length, filter, find, map, slice_index}
use Rattle.std.specs.Prelude.{is_none, Option, None, Some, option_map, Result, Ok}
use Rattle.std.specs.List.{range_with_len}
use Rattle.lilo_model.specs.Checks.{◌>>=◌}
use Rattle.lilo_model.specs.MinixLayout.{Kind, Super, Inode, numbers_in_zone}
use Rattle.lilo_model.specs.MinixParts.{Parts, ZoneFault, inside, number_below, block_pointer}
use Rattle.lilo_model.specs.MinixEntries.{entries_per_block}
use Rattle.lilo_model.specs.MinixWalk.{place_in_branch}
use Rattle.write_model.specs.Wish.{Promise}

abbrev pub one_if : Bool → ℕ
one_if holds = if holds then 1 else 0

-- the number at the end of a trail, and how many are 0 from its begin to its end
pub record Way : Type 0 where
  pub zone : ℕ
  pub missing : ℕ

-- one more number on a way
abbrev pub way_on : ℕ → ℕ → Way
way_on zone missing = record { zone = zone; missing = missing + one_if (zone == 0) }

-- the way along a trail, where each number on it may be followed; else the refusal of the first one
unfoldable pub way_along : Super → (ℕ → List ℕ) → ℕ → List ℕ → Result Way ZoneFault
way_along super bytes_of zone [] = inside super zone >>= λ found. Ok (way_on found 0)
way_along super bytes_of zone (index ∷ before) =
    way_along super bytes_of zone before
    >>= λ above. inside super (number_below super.kind bytes_of above.zone index)
    >>= λ found. Ok (way_on found above.missing)

-- how many zones are missing on the way to a block, that of the block included
unfoldable pub missing_on_way : Super → Parts → Inode → ℕ → Result ℕ ZoneFault
missing_on_way super parts inode block =
    way_along super parts.zone (slice_index inode.zones (block_pointer super.kind block).top) (block_pointer super.kind block).trail
    >>= λ way. Ok way.missing

-- the first block that is found through the zone so many levels above a block
abbrev pub first_beside : ℕ → ℕ → ℕ → ℕ
first_beside per block level = block - place_in_branch per block % per ^ level

-- a promise has the zone so many levels above a block of a directory
abbrev pub is_growth_of : Kind → ℕ → ℕ → ℕ → Promise → Bool
is_growth_of kind directory block level promise =
    (promise.directory == directory)
    && nat_lt level (length promise.growth)
    && (first_beside (numbers_in_zone kind) (promise.place / entries_per_block kind) level == first_beside (numbers_in_zone kind) block level)

-- that zone, where it was promised
unfoldable pub promised_zone : Kind → List Promise → ℕ → ℕ → ℕ → Option ℕ
promised_zone kind promises directory block level =
    option_map (λ promise. slice_index promise.growth level) (find (is_growth_of kind directory block level) promises)

-- those of the lowest levels, as many as are missing
abbrev pub promised_zones : Kind → List Promise → ℕ → ℕ → ℕ → List (Option ℕ)
promised_zones kind promises directory block missing =
    map (promised_zone kind promises directory block) (range_with_len 0 missing)

-- how many of some weren't promised
abbrev pub count_fresh : List (Option ℕ) → ℕ
count_fresh promised = length (filter is_none promised)

-- zones are given to those that weren't promised, in order
abbrev pub completed : List (Option ℕ) → List ℕ → List ℕ
completed [] zones = []
completed (Some zone ∷ promised) zones = zone ∷ completed promised zones
completed (None ∷ promised) [] = 0 ∷ completed promised []
completed (None ∷ promised) (zone ∷ zones) = zone ∷ completed promised zones
