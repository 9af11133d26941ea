-- A run that writes only what a writer of files may, as settling, staging and tidying do (rules of this project's own).
use Rattle.std.specs.Prelude.{◌≡◌, ℕ, Bool, false, List, Option}
use Rattle.disk_trait.specs.Moments.{now, LeavesOnly}
use Rattle.disk_trait.specs.Past.{Past, with_sector}
use Rattle.lilo_model.specs.Conf.{Config}
use Rattle.lilo_model.specs.Devices.{Device}
use Rattle.lilo_model.specs.Disks.{Image}
use Rattle.lilo_model.specs.Mapped.{mapped_sectors}
use Rattle.lilo_model.specs.Meant.{meant}
use Rattle.lilo_model.specs.MinixNames.{names_in, IsSound}
use Rattle.lilo_model.specs.Planned.{devices_in}
use Rattle.map_laws.specs.Lies.{MapPlaces}
use Rattle.install_laws.specs.Writes.{WritesOnly, AreAvoided}
use Rattle.install_stage_laws.specs.Committed.{IsStaged}
use Rattle.session_model.specs.Keeps.{IsWhole, Keeps}
use Rattle.session_model.specs.Site.{Site}
use Rattle.session_model.specs.State.{KeepsBoot}
use Rattle.session_laws.specs.Kept.{GainsUnmapped}
use Rattle.session_install_laws.specs.Planned.{BootsAnew}

-- It writes only what such a writer may, in chosen zones without a Mapped sector; and at every moment it leaves an image that is
-- whole and sound, and in which no named inode has gained a zone with one.
pub record IsFileRun (site : Site) (chosen : ℕ → Bool) (old new : Option Past) : Type 0 where
  pub avoided : AreAvoided site.volume chosen (mapped_sectors (now old) site.machine site.boot)
  pub writes : WritesOnly site.volume chosen old new
  pub whole : LeavesOnly old new (IsWhole site)
  pub sound : LeavesOnly old new (IsSound site.volume)
  pub gains : LeavesOnly old new (GainsUnmapped site (now old))

-- so each image that it leaves keeps what a session keeps, with body and line as before
abbrev pub FileRunLaw : Type 0
FileRunLaw =
    (site : Site) (chosen : ℕ → Bool) (old new : Option Past)
    → Keeps site (now old) → IsFileRun site chosen old new
    → LeavesOnly old new (λ c. Keeps site c × KeepsBoot site (now old) c)

-- and where it begins on a map that was committed, in no new zone, it is the new one
abbrev pub TidiedKeepsLaw : Type 0
TidiedKeepsLaw =
    (site : Site) (before : Image) (config : Config) (device : Device) (time : ℕ) (chosen : ℕ → Bool)
    (places : MapPlaces) (bytes : List ℕ) (path : List (List ℕ)) (staged committed tidied : Option Past)
    → IsWhole site (now staged)
    → IsStaged before (now staged) site.machine site.volume site.boot config device time chosen places bytes path
    → now committed ≡ with_sector (now staged) site.boot.disk site.boot.start bytes
    → IsFileRun site (λ zone. false) committed tidied
    → LeavesOnly committed tidied (λ c. Keeps site c
    × BootsAnew site (meant config (names_in site.volume before) (devices_in before site.machine)) c)
