-- What directories that grow do to a sound Minix volume.
use Rattle.std.specs.Prelude.{◌≡◌, ◌/◌, ℕ, List}
use Rattle.lilo_model.specs.MinixLayout.{Super}
use Rattle.lilo_model.specs.MinixParts.{Parts, Pointer}
use Rattle.lilo_model.specs.MinixEntries.{entries_per_block}
use Rattle.lilo_model.specs.MinixNames.{zone_number, entry, Sound}
use Rattle.minix_change_laws.specs.Sees.{Sees}
use Rattle.minix_change_laws.specs.Extends.{Extends}
use Rattle.minix_change_laws.specs.Grows.{Deeper, Grows}

-- no name sees that a directory gets places in zones that it has
abbrev pub ExtendsLaw : Type 0
ExtendsLaw = (super : Super) (old new : Parts) (directory : ℕ) → Sound super old → Extends super old new directory → Sees super old new

-- nor that it gets a zone full of zeros, be it below new indirect zones
abbrev pub GrowsLaw : Type 0
GrowsLaw =
    (super : Super) (old new : Parts) (directory : ℕ) (at : Pointer) (zone : ℕ) (more : List Deeper)
    → Sound super old → Grows super old new directory at zone more → Sees super old new

-- an entry in a hole is free
abbrev pub HoleLaw : Type 0
HoleLaw =
    (super : Super) (parts : Parts) (directory place : ℕ) → zone_number super parts directory (place / entries_per_block super.kind) ≡ 0
    → (entry super parts directory place).inode ≡ 0
