-- What a command leaves that writes one sector, or none.
use Rattle.std.specs.Prelude.{◌≡◌, ◌≢◌, ◌⊎◌, ◌≤◌, ℕ, true, List, length, Option, Some, Ok}
use Rattle.disk_trait.specs.Past.{Past}
use Rattle.disk_trait.specs.Moments.{now, IsQuiet, MayLeave, LeavesOnly}
use Rattle.lilo_model.specs.Boot.{whole_boot}
use Rattle.lilo_model.specs.DefaultLine.{DefaultLine}
use Rattle.lilo_model.specs.Devices.{Device}
use Rattle.lilo_model.specs.Disks.{Image, DiskSector, with_sector}
use Rattle.lilo_model.specs.LineSector.{line_bytes, line_capacity}
use Rattle.lilo_model.specs.LineShots.{shot_line}
use Rattle.lilo_model.specs.MinixFind.{find, file_block}
use Rattle.lilo_model.specs.MinixNames.{IsSound}
use Rattle.lilo_model.specs.MinixParts.{Volume, parts_of, is_file}
use Rattle.lilo_model.specs.NamePlaces.{default_backup}
use Rattle.lilo_model.specs.Prompt.{Key}
use Rattle.lilo_model.specs.Settled.{is_foreign}
use Rattle.minix_change_laws.specs.Beside.{SoundAsIn}
use Rattle.session_model.specs.Keeps.{Keeps, IsHeld}
use Rattle.session_model.specs.Session.{IsLeft}
use Rattle.session_model.specs.Site.{Site, IsBootApart, boot_place}
use Rattle.session_model.specs.State.{SaysLine, line_in, line_place}
use Rattle.session_model.specs.Step.{Command, Install, Boot, SetLine, Restore, Look, Change, Answer, Answered, Extent, Done, Undone, Came, extent_of}
use Rattle.session_laws.specs.Given.{with_restored}
use Rattle.session_laws.specs.Sessions.{LeavesTurn}

-- ---- commands

-- a command that writes a sector, and no more
abbrev pub WritesOne : Command → Type 0
WritesOne (Install config device) = ⊥
WritesOne (Boot keys memory) = Unit {0}
WritesOne (SetLine text) = Unit {0}
WritesOne (Restore device) = Unit {0}
WritesOne Look = ⊥
WritesOne (Change change) = ⊥

-- one that writes a sector at most
abbrev pub WritesNoFile : Command → Type 0
WritesNoFile (Install config device) = ⊥
WritesNoFile (Boot keys memory) = Unit {0}
WritesNoFile (SetLine text) = Unit {0}
WritesNoFile (Restore device) = Unit {0}
WritesNoFile Look = Unit {0}
WritesNoFile (Change change) = ⊥

-- an image is left by a command, however it ended, unless that says that nothing was done
abbrev pub IsMadeBy : Site → Command → Image → Image → Type 0
IsMadeBy site command old new =
    (answer : Answer) → extent_of command answer ≢ Undone → IsLeft site (record { command = command; answer = answer }) old new

-- ---- images

-- the image itself is left by a command that isn't answered that it was done
abbrev pub UnchangedLaw : Type 0
UnchangedLaw =
    (site : Site) (command : Command) (answer : Answer) (image : Image) → WritesNoFile command → extent_of command answer ≢ Done
    → IsLeft site (record { command = command; answer = answer }) image image

-- a written default line leaves the map with its Holder
abbrev pub HeldLineLaw : Type 0
HeldLineLaw =
    (site : Site) (old : Image) (place : DiskSector) (bytes : List ℕ) (line : DefaultLine) (text : List ℕ)
    → Keeps site old → line_place site old ≡ Some place → length bytes ≡ 512 → SaysLine site old bytes line
    → IsHeld site text old → IsHeld site text (with_sector old place bytes)

-- a boot that gives the present line leaves the image as it is
abbrev pub BootStaysLaw : Type 0
BootStaysLaw =
    (site : Site) (image : Image) (keys : List Key) (memory : ℕ)
    → (whole_boot image site.machine site.boot keys memory).line ≡ line_in site image → IsMadeBy site (Boot keys memory) image image

-- one that gives a line leaves it in the line's sector
abbrev pub BootMakesLaw : Type 0
BootMakesLaw =
    (site : Site) (image : Image) (keys : List Key) (memory : ℕ) (place : DiskSector) (line : DefaultLine)
    → line_place site image ≡ Some place → (whole_boot image site.machine site.boot keys memory).line ≡ Some line
    → IsMadeBy site (Boot keys memory) image (with_sector image place (line_bytes line))

-- `-R` leaves the line of its text there
abbrev pub ShotMakesLaw : Type 0
ShotMakesLaw =
    (site : Site) (image : Image) (text : List ℕ) (place : DiskSector)
    → line_place site image ≡ Some place → length text ≤ line_capacity
    → IsMadeBy site (SetLine text) image (with_sector image place (line_bytes (shot_line text)))

-- a regular file of one sector is read at a path
pub record ReadsSector (volume : Volume) (image : Image) (text bytes : List ℕ) : Type 0 where
  pub number : ℕ
  pub found : find volume.layout (parts_of volume image) text ≡ Ok number
  pub regular : is_file ((parts_of volume image).node number) ≡ true
  pub size : ((parts_of volume image).node number).size ≡ 512
  pub read : file_block volume.layout (parts_of volume image) ((parts_of volume image).node number) 0 ≡ Ok bytes

-- `-u` leaves the boot sector that is restored of the backup, which is another system's
abbrev pub RestoreMakesLaw : Type 0
RestoreMakesLaw =
    (site : Site) (device : Device) (image : Image) (backup : List ℕ)
    → IsBootApart site → ReadsSector site.volume image (default_backup device) backup → is_foreign backup ≡ true
    → ((bytes : List ℕ) → length bytes ≡ 512 → IsSound site.volume image
    → SoundAsIn site.volume image (with_sector image (boot_place site) bytes))
    → IsMadeBy site (Restore device) image (with_restored site image backup)

-- ---- calls

-- a call that wrote nothing, from a quiet moment on, and isn't answered that it was done
abbrev pub StillTurnLaw : Type 0
StillTurnLaw =
    (site : Site) (command : Command) (status : ℕ) (old new : Option Past)
    → WritesNoFile command → extent_of command (Answered status) ≢ Done → IsQuiet old → new ≡ old
    → LeavesTurn site command status old new

-- A call leaves at any moment what was held at its entry or one other image, and from its exit on that which goes with
-- how far it came.
pub record LeavesOne (extent : Extent) (made : Image) (old new : Option Past) : Type 0 where
  pub any_moment : LeavesOnly old new (λ c. (c ≡ now old) ⊎ (c ≡ made))
  pub after : (c : Image) → MayLeave new c → Came extent (c ≡ now old) (c ≡ made)

-- so a call leaves what its command may leave, where the other image is what the command makes
abbrev pub OneTurnLaw : Type 0
OneTurnLaw =
    (site : Site) (command : Command) (status : ℕ) (old new : Option Past) (made : Image)
    → WritesOne command → IsMadeBy site command (now old) made → LeavesOne (extent_of command (Answered status)) made old new
    → LeavesTurn site command status old new
