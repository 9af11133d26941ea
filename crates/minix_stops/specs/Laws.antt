-- Soundness is of a volume's own sectors.
use Rattle.std.specs.Prelude.{◌≡◌, ◌<◌, ◌*◌, ◌↔◌, ℕ}
use Rattle.lilo_model.specs.Disks.{Image}
use Rattle.lilo_model.specs.MinixParts.{Volume, sector_of}
use Rattle.lilo_model.specs.MinixNames.{IsSound}
use Rattle.minix_change_laws.specs.Beside.{SoundAsIn}

-- an image has in each sector of a volume what another has there
abbrev pub HasSectorsOf : Volume → Image → Image → Type 0
HasSectorsOf volume old image = (sector : ℕ) → sector < 2 * volume.layout.zones → sector_of volume image sector ≡ sector_of volume old sector

-- then the volume is sound in both or in neither
abbrev pub OwnSectorsLaw : Type 0
OwnSectorsLaw = (volume : Volume) (old image : Image) → HasSectorsOf volume old image → (IsSound volume old ↔ IsSound volume image)

-- and has the same Names
abbrev pub OwnNamesLaw : Type 0
OwnNamesLaw = (volume : Volume) (old image : Image) → HasSectorsOf volume old image → IsSound volume old → SoundAsIn volume old image
