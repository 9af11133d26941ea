-- A part as a command of a session: one that boots, sets a line, restores or looks.
use Rattle.std.specs.Prelude.{◌≡◌, ◌≢◌, ℕ, true, List, Option, None, Some, Ok, option_and_then}
use Rattle.std.specs.Result.{result_ok}
use Rattle.disk_trait.specs.Past.{Past}
use Rattle.disk_trait.specs.Moments.{IsQuiet}
use Rattle.lilo_model.specs.ConfVerdict.{conf_path, conf_device, place_at}
use Rattle.lilo_model.specs.Devices.{Device}
use Rattle.lilo_model.specs.Disks.{Image, Machine, Span}
use Rattle.lilo_model.specs.LineWords.{joined_words}
use Rattle.lilo_model.specs.MinixParts.{Volume, volume_at}
use Rattle.lilo_model.specs.NamePlaces.{default_backup}
use Rattle.lilo_model.specs.Prompt.{Key}
use Rattle.lilo_model.specs.Settled.{is_foreign}
use Rattle.lilo_model.specs.VolumeSearch.{Located, volume_place}
use Rattle.lilo_model.specs.Words as words
use Rattle.lilo_model.specs.Words.{Part}
use Rattle.boot_backup.specs.Restore.{backup_of}
use Rattle.session_model.specs.Site.{Site, IsBootApart}
use Rattle.session_model.specs.Step.{Command, Boot, SetLine, Restore, Look}
use Rattle.session_laws.specs.Sessions.{LeavesTurn}

-- where the boot device lies that a command finds, if it looks for one that it may write
abbrev pub found_span : Image → Machine → Option Device → List ℕ → words.Command → Option Span
found_span image machine root path (words.Boot device dump) = result_ok (place_at image machine device)
found_span image machine root path (words.SetLine line) =
    option_and_then (λ device. result_ok (place_at image machine device)) (result_ok (conf_device image machine root path))
found_span image machine root path (words.Restore device) = result_ok (place_at image machine device)
found_span image machine root path words.Install = None
found_span image machine root path words.Test = None
found_span image machine root path (words.Query device) = None

-- the command of a session that it is then, by keys and with a memory of some bytes
abbrev pub turn_of : ℕ → List Key → words.Command → Command
turn_of memory keys (words.Boot device dump) = Boot keys memory
turn_of memory keys (words.SetLine line) = SetLine (joined_words line)
turn_of memory keys (words.Restore device) = Restore device
turn_of memory keys words.Install = Look
turn_of memory keys words.Test = Look
turn_of memory keys (words.Query device) = Look

-- `-u` restores on a site: the boot device is apart, the volume that is found is the site's, and a backup that is found
-- there is another system's, as each is that an installation made
pub record RestoresOn (site : Site) (image : Image) (root : Option Device) (device : Device) : Type 0 where
  pub apart : IsBootApart site
  pub on : (place : Located) → volume_place image site.machine root ≡ Ok place → (volume : Volume) → volume_at image place.span ≡ Ok volume
      → volume ≡ site.volume
  pub foreign : (backup : List ℕ) → backup_of image site.machine root (default_backup device) ≡ Ok backup → is_foreign backup ≡ true

abbrev pub ReadsOn : Site → Image → Option Device → words.Command → Type 0
ReadsOn site image root (words.Restore device) = RestoresOn site image root device
ReadsOn site image root (words.Boot device dump) = Unit {0}
ReadsOn site image root (words.SetLine line) = Unit {0}
ReadsOn site image root words.Install = Unit {0}
ReadsOn site image root words.Test = Unit {0}
ReadsOn site image root (words.Query device) = Unit {0}

-- a part, by keys and with a memory of some bytes, is this command on a site
pub data IsOn (site : Site) (image : Image) (memory : ℕ) (keys : List Key) (part : Part) (command : Command) : Type 0 where
  -- the boot device that it finds is the site's, and so is what it reads else
  OnSite : found_span image site.machine part.root (conf_path part.config) part.command ≡ Some site.boot
      → ReadsOn site image part.root part.command → command ≡ turn_of memory keys part.command
      → IsOn site image memory keys part command
  -- it finds none, or looks for none that it writes, and so it only looks
  OnNone : found_span image site.machine part.root (conf_path part.config) part.command ≡ None
      → part.command ≢ words.Install → command ≡ Look → IsOn site image memory keys part command

-- so from a quiet moment on it leaves, on each site on which it is, what that command may leave
abbrev pub PartTurns : Image → Machine → ℕ → List Key → Part → ℕ → Option Past → Option Past → Type 0
PartTurns image machine memory keys part status old new =
    (site : Site) (command : Command) → site.machine ≡ machine → IsOn site image memory keys part command → IsQuiet old
    → LeavesTurn site command status old new
