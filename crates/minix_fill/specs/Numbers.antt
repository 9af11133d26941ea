-- The numbers in a new file's inode and in its indirect zones.
use Rattle.std.specs.Prelude.{◌≡◌, ◌<◌, ℕ, ◌+◌, ◌^◌, List, [], ◌∷◌, slice_index}
use Rattle.lilo_model.specs.MinixLayout.{Kind, numbers_in_zone, number_size}
use Rattle.lilo_model.specs.MinixParts.{number_in}
use Rattle.minix_fill.specs.declared.numbers.FileZones.{FileZones}
use Rattle.minix_choice_laws.specs.Sources as laws
use Rattle.minix_choice_laws.specs.Sources.{Source, zone_from, below_source}

-- the zones of a file
abbrev pub zones_view : FileZones → laws.FileZones
zones_view zones = record { blocks = zones.blocks.now; indirect = zones.indirect.now }

-- each of them fits into a number
abbrev pub AreNumbers : Kind → laws.FileZones → Type 0
AreNumbers kind zones = (source : Source) → zone_from zones source < 256 ^ number_size kind

-- the bytes of the indirect zone at a place have their first numbers
abbrev pub HasFirstNumbers : Kind → laws.FileZones → ℕ → ℕ → List ℕ → Type 0
HasFirstNumbers kind zones place count bytes =
    (index : ℕ) → index < count → number_in kind bytes index ≡ zone_from zones (below_source (numbers_in_zone kind) place index)

-- they have all their numbers
abbrev pub HasNumbers : Kind → laws.FileZones → ℕ → List ℕ → Type 0
HasNumbers kind zones place bytes = HasFirstNumbers kind zones place (numbers_in_zone kind) bytes

-- the ten numbers of the inode
abbrev pub tops_of : Kind → laws.FileZones → List ℕ
tops_of kind zones =
    slice_index zones.blocks 0 ∷ (slice_index zones.blocks 1 ∷ (slice_index zones.blocks 2 ∷ (slice_index zones.blocks 3
    ∷ (slice_index zones.blocks 4 ∷ (slice_index zones.blocks 5 ∷ (slice_index zones.blocks 6
    ∷ (slice_index zones.indirect 0 ∷ (slice_index zones.indirect 1 ∷ (slice_index zones.indirect (2 + numbers_in_zone kind) ∷ [])))))))))
