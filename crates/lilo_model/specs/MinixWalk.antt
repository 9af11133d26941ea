-- The zones of an inode, each once per pointer, an indirect zone before what it names (Minix file system,
-- versions 1 and 2; the order is this project's own). A stop is a pointer, by the first block that is found
-- through it and the levels of indirect zones between the two: level 0 is the block's own number.
use Rattle.std.specs.Prelude.{ℕ, zero, suc, ◌+◌, ◌-◌, ◌*◌, ◌/◌, ◌%◌, ◌^◌, ◌==◌, nat_le, nat_lt, Bool, ◌&&◌, if◌then◌else◌, List, [], ◌∷◌, ◌++◌, Result, Ok, Err}
use Rattle.lilo_model.specs.MinixLayout.{Super, Inode, numbers_in_zone, reach}
use Rattle.lilo_model.specs.MinixParts.{Parts, Pointer, ZoneFault, pointer_with, at_pointer}

pub record Stop : Type 0 where
  pub index : ℕ
  pub level : ℕ

-- the blocks that one of an inode's ten numbers leads to: the first of them, and the levels of indirect zones
-- before them
pub record Branch : Type 0 where
  pub top : ℕ
  pub first : ℕ
  pub depth : ℕ

-- the branch of a block, where an indirect zone has so many numbers
unfoldable pub branch_of : ℕ → ℕ → Branch
branch_of per index =
    if nat_lt index 7 then record { top = index; first = index; depth = 0 } else
    if nat_lt index (7 + per) then record { top = 7; first = 7; depth = 1 } else
    if nat_lt index (7 + per + per * per) then record { top = 8; first = 7 + per; depth = 2 } else
    record { top = 9; first = 7 + per + per * per; depth = 3 }

-- a block, counted from the first of its branch
abbrev pub place_in_branch : ℕ → ℕ → ℕ
place_in_branch per index = index - (branch_of per index).first

-- whether a block is the first that is found through a pointer this many levels above it
unfoldable pub begins : ℕ → ℕ → ℕ → Bool
begins per index level =
    nat_le level (branch_of per index).depth && (place_in_branch per index % per ^ level == 0)

-- the stops at a block, from a level down
unfoldable pub stops_at : ℕ → ℕ → ℕ → List Stop
stops_at per index zero = record { index = index; level = 0 } ∷ []
stops_at per index (suc level) =
    if begins per index (suc level)
    then record { index = index; level = suc level } ∷ stops_at per index level
    else stops_at per index level

-- the stops of so many blocks from one on: three levels at most, the highest first
unfoldable pub stops_from : ℕ → ℕ → ℕ → List Stop
stops_from per index zero = []
stops_from per index (suc count) = stops_at per index 3 ++ stops_from per (index + 1) count

-- the pointer of a stop: that of its block, without its last indices
unfoldable pub stop_pointer : ℕ → Stop → Pointer
stop_pointer per stop = pointer_with
    per
    (branch_of per stop.index).top
    ((branch_of per stop.index).depth - stop.level)
    (place_in_branch per stop.index / per ^ stop.level)

-- a zone that is met
pub record Visit : Type 0 where
  pub zone : ℕ
  -- its own index, or the least one that is found through it
  pub index : ℕ
  -- whether it has numbers of zones
  pub indirect : Bool

-- what is met at a stop with a number, and then at others: nothing for a hole, and nothing after a refusal
abbrev pub met_then : Stop → Result ℕ ZoneFault → List (Result Visit ZoneFault) → List (Result Visit ZoneFault)
met_then stop (Err fault) others = Err fault ∷ []
met_then stop (Ok zone) others =
    if zone == 0
    then others
    else Ok (record { zone = zone; index = stop.index; indirect = nat_lt 0 stop.level }) ∷ others

-- what is met at stops whose numbers are known
abbrev pub met_at : (Stop → Result ℕ ZoneFault) → List Stop → List (Result Visit ZoneFault)
met_at number [] = []
met_at number (stop ∷ stops) = met_then stop (number stop) (met_at number stops)

-- the number at a stop, or the refusal of the first on the way to it
abbrev pub stop_number : Super → Parts → Inode → Stop → Result ℕ ZoneFault
stop_number super parts inode stop =
    at_pointer super parts inode (stop_pointer (numbers_in_zone super.kind) stop)

-- Visits: what a walk over an inode meets, in order, up to the first refusal
unfoldable pub visits : Super → Parts → Inode → List (Result Visit ZoneFault)
visits super parts inode =
    met_at (stop_number super parts inode) (stops_from (numbers_in_zone super.kind) 0 (reach super.kind))
