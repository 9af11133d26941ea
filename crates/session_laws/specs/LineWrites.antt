-- What a write of the default line leaves.
use Rattle.std.specs.Prelude.{◌≡◌, ℕ, List, length, Some}
use Rattle.lilo_model.specs.DefaultLine.{DefaultLine}
use Rattle.lilo_model.specs.Disks.{Image, DiskSector, with_sector}
use Rattle.session_model.specs.Keeps.{Keeps}
use Rattle.session_model.specs.Site.{Site}
use Rattle.session_model.specs.State.{SaysLine, line_place}
use Rattle.session_model.specs.Step.{HasLine}

-- bytes that say a line, in the line's sector, keep what a session keeps, and are all that changes, wherever that sector is
abbrev pub LineWriteLaw : Type 0
LineWriteLaw =
    (site : Site) (old : Image) (place : DiskSector) (bytes : List ℕ) (line : DefaultLine)
    → Keeps site old → line_place site old ≡ Some place → length bytes ≡ 512 → SaysLine site old bytes line
    → Keeps site (with_sector old place bytes) × HasLine site (Some line) old (with_sector old place bytes)
