-- The state of an image: its body, which is the Mapped sectors without the default line's, its default line, and its
-- Names (this project's own).
use Rattle.std.specs.Prelude.{◌≡◌, ◌==◌, ◌&&◌, ℕ, Bool, true, not, List, map, filter, Option, None, Some, Result, Ok, Err}
use Rattle.std.specs.Result.{result_ok}
use Rattle.lilo_model.specs.Boot.{Boot, present_line, whole_boot}
use Rattle.lilo_model.specs.BootSector.{BootSector, MapFault, boot_at}
use Rattle.lilo_model.specs.DefaultLine.{DefaultLine}
use Rattle.lilo_model.specs.Disks.{Image, Machine, DiskSector, bytes_at}
use Rattle.lilo_model.specs.LineSector.{line_at}
use Rattle.lilo_model.specs.Mapped.{mapped_sectors}
use Rattle.lilo_model.specs.MinixNames.{names_in}
use Rattle.lilo_model.specs.Prompt.{Key}
use Rattle.lilo_model.specs.Slots.{place_at}
use Rattle.session_model.specs.Site.{Site}

-- ---- the default line

-- where its sector is, where a boot sector is of this format and names one that is there
abbrev pub place_by : Machine → Result BootSector MapFault → Option DiskSector
place_by machine (Err fault) = None
place_by machine (Ok boot) = result_ok (place_at machine boot.line 0)

unfoldable pub line_place : Site → Image → Option DiskSector
line_place site image = place_by site.machine (boot_at (image site.boot.disk site.boot.start))

-- what bytes say as the sector of the default line of a map with this boot sector
abbrev pub line_of_boot : BootSector → List ℕ → Result DefaultLine MapFault
line_of_boot boot bytes = line_at bytes

-- the line itself, where that sector says one; a boot sector of another system has none
abbrev pub line_by : Image → Machine → Result BootSector MapFault → Option DefaultLine
line_by image machine (Err fault) = None
line_by image machine (Ok boot) = present_line image machine boot

unfoldable pub line_in : Site → Image → Option DefaultLine
line_in site image = line_by image site.machine (boot_at (image site.boot.disk site.boot.start))

-- bytes say a line, by the boot sector of an image
abbrev pub SaysLine : Site → Image → List ℕ → DefaultLine → Type 0
SaysLine site image bytes line =
    (boot : BootSector) → boot_at (image site.boot.disk site.boot.start) ≡ Ok boot → line_of_boot boot bytes ≡ Ok line

-- ---- the body

-- a sector of a disk with its bytes
pub record Sector : Type 0 where
  pub place : DiskSector
  pub bytes : List ℕ

abbrev pub sector_in : Image → DiskSector → Sector
sector_in image place = record { place = place; bytes = bytes_at image place }

-- whether two places are one
abbrev pub is_same_place : DiskSector → DiskSector → Bool
is_same_place one other = (one.disk == other.disk) && (one.sector == other.sector)

-- whether a place isn't the default line's
abbrev pub is_beside : Option DiskSector → DiskSector → Bool
is_beside None place = true
is_beside (Some line) place = not (is_same_place line place)

-- the Mapped sectors without the line's, each with what it holds
unfoldable pub body_in : Site → Image → List Sector
body_in site image =
    map (sector_in image) (filter (is_beside (line_place site image)) (mapped_sectors image site.machine site.boot))

-- a body boots as is meant, with each default line, for all keys and any memory
abbrev pub BodyMeans : Site → List Sector → (DefaultLine → List Key → ℕ → Boot) → Type 0
BodyMeans site body meant =
    (c : Image) (line : DefaultLine) → body_in site c ≡ body → line_in site c ≡ Some line
    → (keys : List Key) (memory : ℕ) → whole_boot c site.machine site.boot keys memory ≡ meant line keys memory

-- ---- two images

-- body and line are as before
pub record KeepsBoot (site : Site) (old new : Image) : Type 0 where
  pub body : body_in site new ≡ body_in site old
  pub line : line_in site new ≡ line_in site old

-- Names are the same
abbrev pub HasNamesOf : Site → Image → Image → Type 0
HasNamesOf site old new = (path : List (List ℕ)) → names_in site.volume new path ≡ names_in site.volume old path

-- the state is as before
pub record IsSame (site : Site) (old new : Image) : Type 0 where
  pub boots : KeepsBoot site old new
  pub names : HasNamesOf site old new
