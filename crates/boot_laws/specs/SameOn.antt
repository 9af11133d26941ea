-- Disks that are the same where a boot may look: what then stays the same.
use Rattle.std.specs.Prelude.{◌≡◌, ◌≢◌, ℕ, List, All}
use Rattle.lilo_model.specs.Disks.{Image, Machine, Span, DiskSector, bytes_at, with_sector}
use Rattle.lilo_model.specs.Prompt.{Key}
use Rattle.lilo_model.specs.Mapped.{mapped_sectors}
use Rattle.lilo_model.specs.Boot.{whole_boot}

-- each of these sectors has the same bytes on both
abbrev pub SameOn : List DiskSector → Image → Image → Type 0
SameOn places image other = All (λ place. bytes_at other place ≡ bytes_at image place) places

-- images that are the same on the Mapped sectors of one of them have the same boot, for all keys and any memory
abbrev pub MappedLaw : Type 0
MappedLaw =
    (image other : Image) (machine : Machine) (span : Span) (keys : List Key) (memory : ℕ)
    → SameOn (mapped_sectors image machine span) image other
    → whole_boot other machine span keys memory ≡ whole_boot image machine span keys memory

-- and the same Mapped sectors
abbrev pub SameMappedLaw : Type 0
SameMappedLaw =
    (image other : Image) (machine : Machine) (span : Span)
    → SameOn (mapped_sectors image machine span) image other
    → mapped_sectors other machine span ≡ mapped_sectors image machine span

-- an image is the same on sectors that another one isn't among, whatever is written there
abbrev pub UnlistedLaw : Type 0
UnlistedLaw =
    (places : List DiskSector) (image : Image) (place : DiskSector) (bytes : List ℕ)
    → All (λ listed. listed ≢ place) places
    → SameOn places image (with_sector image place bytes)
