-- What follows for an installation that ends before it is done: refused, or stopped by a disk that failed.
use Rattle.std.specs.Prelude.{◌⊎◌, ℕ, List, Option}
use Rattle.disk_trait.specs.Past.{Past, with_sector}
use Rattle.disk_trait.specs.Moments.{IsTold, now, LeavesOnly}
use Rattle.lilo_model.specs.Boot.{Boot}
use Rattle.lilo_model.specs.Clear.{Clear}
use Rattle.lilo_model.specs.DefaultLine.{DefaultLine, Empty}
use Rattle.lilo_model.specs.Disks.{Machine, Span, DiskSector}
use Rattle.lilo_model.specs.MinixParts.{Volume}
use Rattle.lilo_model.specs.Prompt.{Key}
use Rattle.install_laws.specs.Boots.{BootsAs, BootsAsBeforeOrMeant, SparesMapped, IsWithOrWithout, HasBootOf}
use Rattle.install_laws.specs.Headline.{Means}

-- What an installation promises until its commit: to begin, which settles, and to stage the new map, or a part of it. Only the
-- first half rests on a Clear map.
pub record Prepares (machine : Machine) (volume : Volume) (span : Span) (entry begun staged : Option Past) : Type 0 where
  pub told : IsTold begun × IsTold staged
  pub begin : Clear volume (now entry) machine span → SparesMapped machine span entry begun
  pub begin_boot : LeavesOnly entry begun (HasBootOf span (now entry))
  pub stage : Clear volume (now entry) machine span → SparesMapped machine span begun staged
  pub stage_boot : LeavesOnly begun staged (HasBootOf span (now begun))

-- Whatever a stop leaves of it boots as before, for all keys and any memory, where the old map is Clear; and it has the boot
-- sector of before.
pub record StaysAsBefore (machine : Machine) (volume : Volume) (span : Span) (entry ended : Option Past) : Type 0 where
  pub boots : Clear volume (now entry) machine span → LeavesOnly entry ended (BootsAs machine span (now entry))
  pub boot : LeavesOnly entry ended (HasBootOf span (now entry))

abbrev pub PreparesLaw : Type 0
PreparesLaw =
    (machine : Machine) (volume : Volume) (span : Span) (entry begun staged : Option Past)
    → Prepares machine volume span entry begun staged → StaysAsBefore machine volume span entry staged

-- whatever a stop leaves boots as before or as is meant, the same of the two for all keys and any memory
pub record BootsAsEither (machine : Machine) (volume : Volume) (span : Span) (place : DiskSector)
    (meant : DefaultLine → List Key → ℕ → Boot) (entry ended : Option Past) : Type 0 where
  pub any_moment : Clear volume (now entry) machine span
      → LeavesOnly entry ended (BootsAsBeforeOrMeant machine span (now entry) (meant Empty))
  pub boot_or_meant : LeavesOnly entry ended (λ c. HasBootOf span (now entry) c ⊎ Means machine span place meant c)

-- so it is of an installation that ended in its commit, where what was staged means that once the boot sector is written
abbrev pub CommitEndsLaw : Type 0
CommitEndsLaw =
    (machine : Machine) (volume : Volume) (span : Span) (place : DiskSector)
    (meant : DefaultLine → List Key → ℕ → Boot) (bytes : List ℕ) (entry begun staged ended : Option Past)
    → Prepares machine volume span entry begun staged
    → Means machine span place meant (with_sector (now staged) span.disk span.start bytes)
    → LeavesOnly staged ended (IsWithOrWithout (now staged) span bytes)
    → BootsAsEither machine volume span place meant entry ended
