-- What parts of a Minix volume are like of which no name sees what has changed.
use Rattle.std.specs.Prelude.{◌≡◌, ◌<◌, ℕ, ◌*◌, length}
use Rattle.lilo_model.specs.Disks.{Image}
use Rattle.lilo_model.specs.MinixLayout.{Super, super_sector}
use Rattle.lilo_model.specs.MinixParts.{Parts, Volume, sector_of, parts_of}
use Rattle.lilo_model.specs.MinixNames.{Sound, IsSound}
use Rattle.minix_change_laws.specs.Keeps.{Keeps, SoundAs}
use Rattle.minix_change_laws.specs.Beside.{Beside, SoundAsIn}
use Rattle.minix_change_laws.specs.Sees.{KeepsButLinks, Sees, SeenAsIn}

-- ---- parts

-- they stay sound, with the same Names
abbrev pub SeesLaw : Type 0
SeesLaw = (super : Super) (old new : Parts) → Sound super old → Sees super old new → SoundAs super old new

-- what is seen as in parts that are seen as in others is seen as in those
abbrev pub SeesJoinLaw : Type 0
SeesJoinLaw = (super : Super) (old mid new : Parts) → Sees super old mid → Sees super mid new → Sees super old new

-- parts that keep what has a name but for links are seen as before
abbrev pub LinksLaw : Type 0
LinksLaw = (super : Super) (old new : Parts) → Sound super old → KeepsButLinks super old new → Sees super old new

-- and so are those that keep it whole
abbrev pub KeptIsSeenLaw : Type 0
KeptIsSeenLaw = (super : Super) (old new : Parts) → Sound super old → Keeps super old new → Sees super old new

-- ---- images

-- a sound volume is seen as it is
abbrev pub SeenSameLaw : Type 0
SeenSameLaw = (volume : Volume) (old : Image) → IsSound volume old → SeenAsIn volume old old

-- one beside harmless bytes is seen as before
abbrev pub SeenBesideLaw : Type 0
SeenBesideLaw = (volume : Volume) (old image : Image) → IsSound volume old → Beside volume old image → SeenAsIn volume old image

-- and hence sound, with the same Names
abbrev pub SeenSoundLaw : Type 0
SeenSoundLaw = (volume : Volume) (old image : Image) → IsSound volume old → SeenAsIn volume old image → SoundAsIn volume old image

abbrev pub SeenJoinLaw : Type 0
SeenJoinLaw = (volume : Volume) (old middle image : Image) → SeenAsIn volume old middle → SeenAsIn volume middle image → SeenAsIn volume old image

-- where the superblock stays and each sector is whole, parts that are seen as before are a volume that is
pub record KeepsSectors (volume : Volume) (old image : Image) : Type 0 where
  pub super : sector_of volume image super_sector ≡ sector_of volume old super_sector
  pub whole : (sector : ℕ) → sector < 2 * volume.layout.zones → length (sector_of volume image sector) ≡ 512

abbrev pub SeenPartsLaw : Type 0
SeenPartsLaw =
    (volume : Volume) (old image : Image) → IsSound volume old → KeepsSectors volume old image
    → Sees volume.layout (parts_of volume old) (parts_of volume image)
    → SeenAsIn volume old image
