-- A run of a writer of files.
use Rattle.std.specs.Prelude.{◌⊎◌, ℕ, ◌+◌, All, Option}
use Rattle.disk_trait.specs.Past.{Past}
use Rattle.disk_trait.specs.Moments.{now, IsQuiet, LeavesOnly}
use Rattle.disk_trait.specs.NotWritten.{NotWritten}
use Rattle.lilo_model.specs.Clear.{IsOfZone}
use Rattle.lilo_model.specs.Disks.{Image}
use Rattle.lilo_model.specs.Mapped.{mapped_sectors}
use Rattle.lilo_model.specs.MinixNames.{Refers, IsSound}
use Rattle.lilo_model.specs.MinixParts.{Pointer, parts_of}
use Rattle.session_model.specs.Keeps.{IsWhole, Keeps}
use Rattle.session_model.specs.Site.{Site}
use Rattle.session_model.specs.State.{KeepsBoot}
use Rattle.session_laws.specs.Kept.{WasThere}

-- a run has no event on a Mapped sector
abbrev pub SparesMapped : Site → Option Past → Option Past → Type 0
SparesMapped site old new = All (λ place. NotWritten old new place.disk place.sector) (mapped_sectors (now old) site.machine site.boot)

-- both sectors of a zone were written in a run
abbrev pub WritesZone : Site → Option Past → Option Past → ℕ → Type 0
WritesZone site old new zone =
    (sector : ℕ) → IsOfZone zone sector → NotWritten old new site.volume.span.disk (site.volume.span.start + sector) → ⊥

-- what named inodes of an image refer to they referred to before, or the zone was written in the run
abbrev pub GainsWritten : Site → Option Past → Option Past → Image → Type 0
GainsWritten site old new c =
    (number : ℕ) (at : Pointer) (zone : ℕ) → Refers site.volume.layout (parts_of site.volume c) number at zone
    → WasThere site (now old) c number at zone ⊎ WritesZone site old new zone

-- from a quiet moment on it has no event on a Mapped sector, and whatever it leaves is whole, sound and gains only zones
-- that it wrote
pub record IsWriterRun (site : Site) (old new : Option Past) : Type 0 where
  pub quiet : IsQuiet old
  pub spares : SparesMapped site old new
  pub whole : LeavesOnly old new (IsWhole site)
  pub sound : LeavesOnly old new (IsSound site.volume)
  pub gains : LeavesOnly old new (GainsWritten site old new)

-- so each image that it leaves keeps what a session keeps, with body and line as before
abbrev pub WriterRunLaw : Type 0
WriterRunLaw =
    (site : Site) (old new : Option Past) → Keeps site (now old) → IsWriterRun site old new
    → LeavesOnly old new (λ c. Keeps site c × KeepsBoot site (now old) c)
