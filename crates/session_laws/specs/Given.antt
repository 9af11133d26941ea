-- What a boot gives of the default line, and what `-u` gives of the boot sector.
use Rattle.std.specs.Prelude.{◌≡◌, ◌⊎◌, ℕ, false, true, List, length, Option, Some, Ok}
use Rattle.lilo_model.specs.Boot.{whole_boot}
use Rattle.lilo_model.specs.DefaultLine.{DefaultLine}
use Rattle.lilo_model.specs.Devices.{Device}
use Rattle.lilo_model.specs.Disks.{Image, bytes_at, with_sector}
use Rattle.lilo_model.specs.LineSector.{line_bytes, is_same_line}
use Rattle.lilo_model.specs.Meant.{file_of}
use Rattle.lilo_model.specs.MinixFind.{find, file_block}
use Rattle.lilo_model.specs.MinixNames.{names_in, IsSound}
use Rattle.lilo_model.specs.MinixParts.{Volume, parts_of, is_file}
use Rattle.lilo_model.specs.NamePlaces.{default_backup}
use Rattle.lilo_model.specs.Prompt.{Key}
use Rattle.lilo_model.specs.Restored.{restored_sector}
use Rattle.lilo_model.specs.Settled.{is_foreign}
use Rattle.minix_change_laws.specs.Beside.{SoundAsIn}
use Rattle.session_model.specs.Keeps.{IsWhole, Keeps}
use Rattle.session_model.specs.Site.{Site, IsBootApart, boot_place}
use Rattle.session_model.specs.State.{SaysLine, line_in}
use Rattle.session_model.specs.Step.{HasLine, IsRestored}

-- ---- the default line

-- both are lines, and not the same one
pub record IsOther (old new : Option DefaultLine) : Type 0 where
  pub one : DefaultLine
  pub other : DefaultLine
  pub was : old ≡ Some one
  pub is : new ≡ Some other
  pub differs : is_same_line one other ≡ false

-- a boot gives the present line, or one that differs from it, which it writes
abbrev pub BootLineLaw : Type 0
BootLineLaw =
    (site : Site) (image : Image) (keys : List Key) (memory : ℕ)
    → ((whole_boot image site.machine site.boot keys memory).line ≡ line_in site image)
    ⊎ IsOther (line_in site image) (whole_boot image site.machine site.boot keys memory).line

-- the line that a boot gives is one that its sector can say: what is written of it is read again
abbrev pub GivenLineLaw : Type 0
GivenLineLaw =
    (site : Site) (image : Image) (keys : List Key) (memory : ℕ) (line : DefaultLine) → IsWhole site image
    → (whole_boot image site.machine site.boot keys memory).line ≡ Some line → SaysLine site image (line_bytes line) line

-- where nothing is written, the line is the present one, and else the state is as before
abbrev pub PresentLineLaw : Type 0
PresentLineLaw = (site : Site) (image : Image) → Keeps site image → HasLine site (line_in site image) image image

-- ---- the boot sector

-- on a sound volume a regular file of one sector that a text leads to, as it is read, is the file that Names have there
abbrev pub BackupLaw : Type 0
BackupLaw =
    (volume : Volume) (image : Image) (text : List ℕ) (number : ℕ) (bytes : List ℕ)
    → IsSound volume image → find volume.layout (parts_of volume image) text ≡ Ok number
    → is_file ((parts_of volume image).node number) ≡ true → ((parts_of volume image).node number).size ≡ 512
    → file_block volume.layout (parts_of volume image) ((parts_of volume image).node number) 0 ≡ Ok bytes
    → (file_of (names_in volume image) text ≡ Some bytes) × (length bytes ≡ 512)

-- an image with the boot sector that is restored of a backup
abbrev pub with_restored : Site → Image → List ℕ → Image
with_restored site image backup =
    with_sector image (boot_place site) (restored_sector backup (bytes_at image (boot_place site)))

-- one restored of the backup of a device, another system's, keeps what a session keeps, and is what `-u` makes
abbrev pub RestoreLaw : Type 0
RestoreLaw =
    (site : Site) (device : Device) (old : Image) (backup : List ℕ)
    → IsBootApart site → Keeps site old
    → file_of (names_in site.volume old) (default_backup device) ≡ Some backup → length backup ≡ 512 → is_foreign backup ≡ true
    → SoundAsIn site.volume old (with_restored site old backup)
    → Keeps site (with_restored site old backup) × IsRestored site device old (with_restored site old backup)
