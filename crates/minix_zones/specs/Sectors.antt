-- Sectors that are held, and what they stand for.
use Rattle.std.specs.Prelude.{◌≡◌, ℕ, true, All, Option, Some}
use Rattle.disk_trait.specs.Past.{Past, Image, now_of}
use Rattle.minix_zones.specs.declared.held_sectors.HeldSector.{HeldSector}
use Rattle.minix_zones.specs.declared.held_sectors.HeldSectors.{HeldSectors}

-- a place has nothing, or the bytes of a sector of a disk
abbrev pub HasSector : ℕ → Image → HeldSector → Type 0
HasSector disk now held = held.full ≡ true → held.bytes ≡ now disk held.sector

-- so it is with each place
abbrev pub HaveSectors : ℕ → Image → HeldSectors → Type 0
HaveSectors disk now held = All (HasSector disk now) held.places

-- they are those that the disk has now, where its past is known
abbrev pub AreNow : Option Past → ℕ → HeldSectors → Type 0
AreNow told disk held = (past : Past) → told ≡ Some past → HaveSectors disk (now_of past) held
