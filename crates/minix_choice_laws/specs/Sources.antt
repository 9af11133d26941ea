-- Where each number of a new file is taken from: from the zones of its blocks, or from its indirect zones in the order of
-- a walk (pointers and indirect zones: Minix file system, versions 1 and 2; the order is this project's own). A file's
-- last level has as many indirect zones as its blocks take, so those of the levels before it are at fixed places.
use Rattle.std.specs.Prelude.{ℕ, zero, suc, ◌+◌, ◌-◌, ◌*◌, ◌/◌, ◌%◌, ◌==◌, nat_lt, if◌then◌else◌, List, [], ◌∷◌, slice_index}
use Rattle.lilo_model.specs.MinixParts.{Pointer}

-- a block of the file, or an indirect zone by its place among them
pub data Source : Type 0 where
  Block : (index : ℕ) → Source
  Indirect : (place : ℕ) → Source

-- the zones of a file: that of each of its blocks, and that of each of its indirect zones, 0 where there is none
pub record FileZones : Type 0 where
  pub blocks : List ℕ
  pub indirect : List ℕ

abbrev pub zone_from : FileZones → Source → ℕ
zone_from zones (Block index) = slice_index zones.blocks index
zone_from zones (Indirect place) = slice_index zones.indirect place

-- what one of the inode's ten numbers leads to
unfoldable pub top_source : ℕ → ℕ → Source
top_source per top =
    if nat_lt top 7 then Block top else
    if top == 7 then Indirect 0 else
    if top == 8 then Indirect 1 else
    Indirect (2 + per)

-- what a number leads to in an indirect zone of the third level's second or last kind
abbrev pub below_third : ℕ → ℕ → ℕ → ℕ → Source
below_third per outer zero index = Indirect (4 + per + outer * (1 + per) + index)
below_third per outer (suc inner) index = Block (7 + per + per * per + (outer * per + inner) * per + index)

-- what a number leads to in the indirect zone at a place
unfoldable pub below_source : ℕ → ℕ → ℕ → Source
below_source per place index =
    if place == 0 then Block (7 + index) else
    if place == 1 then Indirect (2 + index) else
    if nat_lt place (2 + per) then Block (7 + per + (place - 2) * per + index) else
    if place == 2 + per then Indirect (3 + per + index * (1 + per)) else
    below_third per ((place - (3 + per)) / (1 + per)) ((place - (3 + per)) % (1 + per)) index

-- below a block there is nothing more
abbrev pub source_below : ℕ → Source → ℕ → Source
source_below per (Block block) index = Block block
source_below per (Indirect place) index = below_source per place index

-- what the number at the end of a trail leads to
abbrev pub source_by : ℕ → ℕ → List ℕ → Source
source_by per top [] = top_source per top
source_by per top (index ∷ before) = source_below per (source_by per top before) index

-- what a pointer leads to
abbrev pub source_of : ℕ → Pointer → Source
source_of per at = source_by per at.top at.trail
