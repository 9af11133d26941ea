-- What body and line of an image rest on, and that they decide what boots.
use Rattle.std.specs.Prelude.{◌≡◌, ℕ, List, Some, Ok}
use Rattle.lilo_model.specs.Boot.{Boot, whole_boot}
use Rattle.lilo_model.specs.BootSector.{BootSector, boot_at}
use Rattle.lilo_model.specs.DefaultLine.{DefaultLine}
use Rattle.lilo_model.specs.Disks.{Image, DiskSector, with_sector}
use Rattle.lilo_model.specs.Mapped.{mapped_sectors}
use Rattle.lilo_model.specs.Prompt.{Key}
use Rattle.lilo_model.specs.Slots.{place_at}
use Rattle.boot_laws.specs.SameOn.{SameOn}
use Rattle.session_model.specs.Keeps.{IsLineApart}
use Rattle.session_model.specs.Site.{Site}
use Rattle.session_model.specs.State.{BodyMeans, KeepsBoot, body_in, line_in, line_of_boot}

-- two images of one body and one line boot the same, for all keys and any memory, whatever else is in the line's sector
abbrev pub StateBootsLaw : Type 0
StateBootsLaw =
    (site : Site) (image other : Image) → IsLineApart site image
    → body_in site other ≡ body_in site image → line_in site other ≡ line_in site image → (keys : List Key) (memory : ℕ)
    → whole_boot other site.machine site.boot keys memory ≡ whole_boot image site.machine site.boot keys memory

-- where the Mapped sectors are as they were, so are body and line, and the line's sector is apart as it was
abbrev pub SparedLaw : Type 0
SparedLaw =
    (site : Site) (old new : Image) → SameOn (mapped_sectors old site.machine site.boot) old new
    → KeepsBoot site old new × (IsLineApart site old → IsLineApart site new)

-- an image's boot sector names a place as the default line's, which is no other Mapped sector
pub record NamesLine (site : Site) (image : Image) (place : DiskSector) : Type 0 where
  pub boot : BootSector
  pub says : boot_at (image site.boot.disk site.boot.start) ≡ Ok boot
  pub named : place_at site.machine boot.line 0 ≡ Ok place
  pub apart : IsLineApart site image

-- another line in that sector leaves the body, and all Mapped sectors where they are
pub record HasOtherLine (site : Site) (old new : Image) (place : DiskSector) (line : DefaultLine) : Type 0 where
  pub body : body_in site new ≡ body_in site old
  pub line_is : line_in site new ≡ Some line
  pub mapped : mapped_sectors new site.machine site.boot ≡ mapped_sectors old site.machine site.boot
  pub names : NamesLine site new place

abbrev pub OtherLineLaw : Type 0
OtherLineLaw =
    (site : Site) (old : Image) (place : DiskSector) (bytes : List ℕ) (line : DefaultLine) (names : NamesLine site old place)
    → line_of_boot names.boot bytes ≡ Ok line → HasOtherLine site old (with_sector old place bytes) place line

-- where an image boots as is meant with each line in that sector, its body means that
abbrev pub BodyMeansLaw : Type 0
BodyMeansLaw =
    (site : Site) (image : Image) (place : DiskSector) (meant : DefaultLine → List Key → ℕ → Boot) (names : NamesLine site image place)
    → ((bytes : List ℕ) (line : DefaultLine) → line_of_boot names.boot bytes ≡ Ok line → (keys : List Key) (memory : ℕ)
    → whole_boot (with_sector image place bytes) site.machine site.boot keys memory ≡ meant line keys memory)
    → BodyMeans site (body_in site image) meant
