-- Which zones a new file needs, and which of those that are found each of them gets (pointers and indirect zones: Minix
-- file system, versions 1 and 2; the order is this project's own: data first, then indirect zones in the order of a
-- walk, each before those that it names). A list of Booleans says of each of some zones whether it is made.
use Rattle.std.specs.Prelude.{ℕ, zero, suc, ◌+◌, ◌*◌, ◌^◌, Bool, true, false, List, [], ◌∷◌, ◌++◌, length, take, drop, filter, replicate, slice_set}
use Rattle.std.specs.List.{list_any, flat_map}
use Rattle.lilo_model.specs.MinixParts.{blocks_for}

-- blocks, without those that are holes
abbrev pub without_holes : List ℕ → List Bool → List Bool
without_holes [] blocks = blocks
without_holes (hole ∷ holes) blocks = without_holes holes (slice_set blocks hole false)

-- the blocks of a file of so many bytes: each that is no hole gets a zone
unfoldable pub data_blocks : ℕ → List ℕ → List Bool
data_blocks size holes = without_holes holes (replicate (blocks_for size) true)

-- whether any of some is made
abbrev pub is_any : List Bool → Bool
is_any made = list_any (λ it. it) made

-- how many are made
abbrev pub count_made : List Bool → ℕ
count_made made = length (filter (λ it. it) made)

-- a list cut into pieces of a size, of which the last may be shorter: so many pieces at most
abbrev pub pieces : {A : Type 0} → ℕ → ℕ → List A → List (List A)
pieces size zero items = []
pieces size (suc most) [] = []
pieces size (suc most) (item ∷ items) = take size (item ∷ items) ∷ pieces size most (drop size (item ∷ items))

-- the whole list
abbrev pub all_pieces : {A : Type 0} → ℕ → List A → List (List A)
all_pieces size items = pieces size (length items) items

-- an indirect zone above some blocks, with so many levels of others between, and those others in the order of a walk;
-- one below which all blocks are holes isn't made
unfoldable pub made_above : ℕ → ℕ → List Bool → List Bool
made_above per zero blocks = is_any blocks ∷ []
made_above per (suc level) blocks =
    is_any blocks ∷ flat_map (made_above per level) (all_pieces (per ^ suc level) blocks)

-- the same, where there are blocks
abbrev pub made_on : ℕ → ℕ → List Bool → List Bool
made_on per level [] = []
made_on per level (block ∷ blocks) = made_above per level (block ∷ blocks)

-- the indirect zones of a file, where each has so many numbers: seven blocks need none, and then come one, two and three
-- levels
unfoldable pub made_indirect : ℕ → List Bool → List Bool
made_indirect per blocks =
    made_on per 0 (take per (drop 7 blocks))
    ++ (made_on per 1 (take (per * per) (drop (7 + per) blocks))
    ++ made_on per 2 (drop (7 + per + per * per) blocks))

-- zones are given to those that are made, in order, and 0 to the others
abbrev pub given : List Bool → List ℕ → List ℕ
given [] zones = []
given (false ∷ made) zones = 0 ∷ given made zones
given (true ∷ made) [] = 0 ∷ given made []
given (true ∷ made) (zone ∷ zones) = zone ∷ given made zones
