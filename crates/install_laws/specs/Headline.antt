-- What the steps of an installation promise, and what follows for every moment at which it may be stopped.
use Rattle.std.specs.Prelude.{◌≡◌, ◌⊎◌, ℕ, List, Option, Ok}
use Rattle.disk_trait.specs.Past.{Past, with_sector}
use Rattle.disk_trait.specs.Moments.{IsTold, now, MayLeave, LeavesOnly}
use Rattle.lilo_model.specs.Disks.{Image, Machine, Span, DiskSector, bytes_at}
use Rattle.lilo_model.specs.Slots.{place_at}
use Rattle.lilo_model.specs.BootSector.{BootSector, boot_at}
use Rattle.lilo_model.specs.LineSector.{line_at}
use Rattle.lilo_model.specs.DefaultLine.{DefaultLine, Empty}
use Rattle.lilo_model.specs.Prompt.{Key}
use Rattle.lilo_model.specs.Boot.{Boot}
use Rattle.lilo_model.specs.MinixParts.{Volume}
use Rattle.lilo_model.specs.Clear.{Clear}
use Rattle.install_laws.specs.Boots.{BootsAs, BootsAsMeant, BootsAsBeforeOrMeant, SparesMapped, IsWithOrWithout, HasBootOf}

-- an image boots as is meant: by its default line, which is empty, and with each other line put into that line's sector
pub record Means (machine : Machine) (span : Span) (place : DiskSector) (meant : DefaultLine → List Key → ℕ → Boot) (c : Image) : Type 0 where
  -- its boot sector names this place as the default line's, and that line is Empty
  pub boot : BootSector
  pub says : boot_at (c span.disk span.start) ≡ Ok boot
  pub named : place_at machine boot.line 0 ≡ Ok place
  pub line_is : line_at (bytes_at c place) ≡ Ok Empty
  pub empty : BootsAsMeant machine span (meant Empty) c
  pub each_line : (bytes : List ℕ) (line : DefaultLine) → line_at bytes ≡ Ok line
      → BootsAsMeant machine span (meant line) (with_sector c place.disk place.sector bytes)

-- What the steps of an installation promise, from its entry on: to begin, which settles; to stage the new map; to commit,
-- which writes the boot sector; and to tidy. Only the first half rests on a Clear map.
pub record Installs (machine : Machine) (volume : Volume) (span : Span) (place : DiskSector)
    (meant : DefaultLine → List Key → ℕ → Boot) (bytes : List ℕ)
    (entry begun staged committed tidied : Option Past) : Type 0 where
  pub told : IsTold begun × IsTold staged × IsTold committed
  -- what a boot of the old installation may look at is spared until the commit, and so is the boot sector
  pub begin : Clear volume (now entry) machine span → SparesMapped machine span entry begun
  pub begin_boot : LeavesOnly entry begun (HasBootOf span (now entry))
  pub stage : Clear volume (now entry) machine span → SparesMapped machine span begun staged
  pub stage_boot : LeavesOnly begun staged (HasBootOf span (now begun))
  -- with the boot sector written, what is staged boots as is meant
  pub means : Means machine span place meant (with_sector (now staged) span.disk span.start bytes)
  -- the commit is that one write
  pub commit : LeavesOnly staged committed (IsWithOrWithout (now staged) span bytes)
  pub committed_is : now committed ≡ with_sector (now staged) span.disk span.start bytes
  -- whatever tidying leaves boots as is meant
  pub tidy : LeavesOnly committed tidied (Means machine span place meant)

-- What follows: the same of the two, before or as is meant, for all keys and any memory.
pub record Headline (machine : Machine) (volume : Volume) (span : Span) (place : DiskSector)
    (meant : DefaultLine → List Key → ℕ → Boot) (entry staged committed tidied : Option Past) : Type 0 where
  -- where the old map is Clear: at every moment before the commit as before, and at every moment as before or as meant
  pub before_commit : Clear volume (now entry) machine span → LeavesOnly entry staged (BootsAs machine span (now entry))
  pub any_moment : Clear volume (now entry) machine span → LeavesOnly entry tidied (BootsAsBeforeOrMeant machine span (now entry) (meant Empty))
  -- where it isn't, the boot sector is as before, or the image boots as is meant; and so it does from the commit on
  pub boot_or_meant : LeavesOnly entry tidied (λ c. HasBootOf span (now entry) c ⊎ Means machine span place meant c)
  pub from_commit : LeavesOnly committed tidied (Means machine span place meant)
  pub after : (c : Image) → MayLeave tidied c → Means machine span place meant c

-- it does
abbrev pub HeadlineLaw : Type 0
HeadlineLaw =
    (machine : Machine) (volume : Volume) (span : Span) (place : DiskSector)
    (meant : DefaultLine → List Key → ℕ → Boot) (bytes : List ℕ) (entry begun staged committed tidied : Option Past)
    → Installs machine volume span place meant bytes entry begun staged committed tidied
    → Headline machine volume span place meant entry staged committed tidied
