-- Zones, contents and entries with refusals, and without: where nothing is refused they are the same, and on a
-- sound volume nothing that has a name is refused.
use Rattle.std.specs.Prelude.{◌≡◌, ℕ, true, List, Option, Ok}
use Rattle.lilo_model.specs.MinixLayout.{Super}
use Rattle.lilo_model.specs.MinixParts.{Parts, has_zones, zone_at, block_at, content_at}
use Rattle.lilo_model.specs.MinixEntries.{Entry, places, entry_at, find_entry}
use Rattle.lilo_model.specs.MinixNames.{zone_number, block, content, entry, first_named, Named, Sound}

-- what is given for an inode is the plain value
pub record GivesPlain (super : Super) (parts : Parts) (number : ℕ) : Type 0 where
  pub zone : (index zone : ℕ) → zone_at super parts (parts.node number) index ≡ Ok zone → zone_number super parts number index ≡ zone
  pub bytes : (index : ℕ) (bytes : List ℕ) → block_at super parts (parts.node number) index ≡ Ok bytes → block super parts number index ≡ bytes
  pub whole : (bytes : List ℕ) → content_at super parts (parts.node number) ≡ Ok bytes → content super parts number ≡ bytes
  pub at : (place : ℕ) (what : Entry) → entry_at super parts (parts.node number) place ≡ Ok what → entry super parts number place ≡ what
  pub found : (name : List ℕ) (inode : Option ℕ) → find_entry super parts (parts.node number) name ≡ Ok inode
      → first_named (entry super parts number) name (places super.kind (parts.node number).size) ≡ inode

-- on any volume
abbrev pub GivenLaw : Type 0
GivenLaw = (super : Super) (parts : Parts) (number : ℕ) → GivesPlain super parts number

-- the plain value is given for an inode
pub record IsGiven (super : Super) (parts : Parts) (number : ℕ) : Type 0 where
  pub zone : (index : ℕ) → zone_at super parts (parts.node number) index ≡ Ok (zone_number super parts number index)
  pub bytes : (index : ℕ) → block_at super parts (parts.node number) index ≡ Ok (block super parts number index)
  pub whole : content_at super parts (parts.node number) ≡ Ok (content super parts number)
  pub at : (place : ℕ) → entry_at super parts (parts.node number) place ≡ Ok (entry super parts number place)
  pub found : (name : List ℕ)
      → find_entry super parts (parts.node number) name
      ≡ Ok (first_named (entry super parts number) name (places super.kind (parts.node number).size))

-- on a sound volume, for each file, directory and link that has a name
abbrev pub SoundLaw : Type 0
SoundLaw =
    (super : Super) (parts : Parts) (number : ℕ) → Sound super parts → Named super parts number → has_zones (parts.node number) ≡ true
    → IsGiven super parts number
