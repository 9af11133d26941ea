-- The line that is written is the one that the next boot reads.
use Rattle.std.specs.Prelude.{◌≡◌, List, ℕ, Some, Ok}
use Rattle.disk_trait.specs.NotWritten.{IsOther}
use Rattle.disk_trait.specs.Past.{with_sector}
use Rattle.lilo_model.specs.Disks.{Image, Machine, Span, DiskSector}
use Rattle.lilo_model.specs.BootSector.{BootSector, boot_at}
use Rattle.lilo_model.specs.Boot.{present_line}
use Rattle.lilo_model.specs.DefaultLine.{DefaultLine}
use Rattle.lilo_model.specs.LineSector.{line_bytes}
use Rattle.lilo_model.specs.LineShots.{shot_line, shot_place}

-- by the boot sector at the start of a span, this is the default line on the disks
pub record HasLine (image : Image) (machine : Machine) (span : Span) (line : DefaultLine) : Type 0 where
  pub boot : BootSector
  pub read : boot_at (image span.disk span.start) ≡ Ok boot
  pub held : present_line image machine boot ≡ Some line

-- Where the line of a text has a place that isn't the boot sector's, disks that have the line's bytes there have it as their
-- default line.
abbrev pub ShotIsReadLaw : Type 0
ShotIsReadLaw =
    (now : Image) (machine : Machine) (span : Span) (text : List ℕ) (place : DiskSector)
    → shot_place now machine span text ≡ Ok place → IsOther place.disk place.sector span.disk span.start
    → HasLine (with_sector now place.disk place.sector (line_bytes (shot_line text))) machine span (shot_line text)
