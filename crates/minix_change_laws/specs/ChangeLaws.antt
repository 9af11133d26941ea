-- What one zone or one inode that changes does to a sound Minix volume, where no name sees it.
use Rattle.std.specs.Prelude.{◌≢◌, ◌<◌, ℕ, List, [], length}
use Rattle.lilo_model.specs.MinixLayout.{Super}
use Rattle.lilo_model.specs.MinixParts.{Parts, Pointer}
use Rattle.lilo_model.specs.MinixNames.{pointer, Named, Sound}
use Rattle.minix_change_laws.specs.Sees.{with_links, Sees}
use Rattle.minix_change_laws.specs.Only.{zone_of_entry}
use Rattle.minix_change_laws.specs.Grows.{pointer_at, below, Deeper}
use Rattle.minix_change_laws.specs.Changes.{ChangesZone, ChangesNode, AreEnough, with_size, MaySize, MayFill, MayHook, HasNumber, with_top}

-- links that are enough
abbrev pub LinksChangeLaw : Type 0
LinksChangeLaw =
    (super : Super) (old new : Parts) (number links : ℕ) → Sound super old → Named super old number → AreEnough super old number links
    → ChangesNode super old new number (with_links (old.node number) links)
    → Sees super old new

-- the size of a directory
abbrev pub SizeChangeLaw : Type 0
SizeChangeLaw =
    (super : Super) (old new : Parts) (directory size : ℕ) → Sound super old → MaySize super old directory size
    → ChangesNode super old new directory (with_size (old.node directory) size)
    → Sees super old new

-- bytes past its entries
abbrev pub FillLaw : Type 0
FillLaw =
    (super : Super) (old new : Parts) (directory place : ℕ) (bytes : List ℕ) → Sound super old → MayFill super old directory place bytes
    → ChangesZone super old new (zone_of_entry super old directory place) bytes
    → Sees super old new

-- a number in one of its indirect zones
abbrev pub NumberLaw : Type 0
NumberLaw =
    (super : Super) (old new : Parts) (directory : ℕ) (outer : Pointer) (index zone : ℕ) (more : List Deeper) (bytes : List ℕ)
    → Sound super old → MayHook super old directory (below outer index) zone more
    → pointer super old directory outer ≢ 0 → HasNumber super (old.zone (pointer super old directory outer)) bytes index zone
    → ChangesZone super old new (pointer super old directory outer) bytes
    → Sees super old new

-- a number in its inode, and the size at once
abbrev pub TopLaw : Type 0
TopLaw =
    (super : Super) (old new : Parts) (directory top zone size : ℕ) (more : List Deeper)
    → Sound super old → MayHook super old directory (pointer_at top []) zone more → MaySize super old directory size
    → top < length (old.node directory).zones
    → ChangesNode super old new directory (with_top (old.node directory) top zone size)
    → Sees super old new
