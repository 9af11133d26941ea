-- The moment at which all is staged and the commit begins, and what comes then (this project's own).
use Rattle.std.specs.Prelude.{◌≡◌, ℕ, List, Option, Ok}
use Rattle.disk_trait.specs.Moments.{now, begun, IsQuiet, LeavesOnly}
use Rattle.disk_trait.specs.NotWritten.{WritesNoOther}
use Rattle.disk_trait.specs.Past.{Past, with_sector}
use Rattle.lilo_model.specs.Boot.{Boot}
use Rattle.lilo_model.specs.Clear.{Clear}
use Rattle.lilo_model.specs.DefaultLine.{DefaultLine}
use Rattle.lilo_model.specs.Disks.{Image, Machine, DiskSector, Span}
use Rattle.lilo_model.specs.Meant.{meant}
use Rattle.lilo_model.specs.MinixNames.{names_in}
use Rattle.lilo_model.specs.MinixParts.{Volume, volume_at}
use Rattle.lilo_model.specs.Planned.{devices_in}
use Rattle.lilo_model.specs.Prompt.{Key}
use Rattle.lilo_model.specs.Settled as model
use Rattle.install_begin.specs.Begin as begins
use Rattle.install_begin.specs.Begin.{begun_with}
use Rattle.install_laws.specs.Boots.{IsWithOrWithout, SparesMapped}
use Rattle.install_laws.specs.Headline.{Means}
use Rattle.install_laws.specs.InstallVerdict.{Begun}
use Rattle.install_laws.specs.Stopped.{StaysAsBefore}
use Rattle.install_order.specs.Begins.{AreOwn}
use Rattle.install_run.specs.Answers.{IsSettledFrom}
use Rattle.install_run.specs.Keeps.{KeepsOldMap, WritesNoApart}

-- what the configuration and its files mean, once names are settled
abbrev pub meant_by : Machine → Begun → Image → DefaultLine → List Key → ℕ → Boot
meant_by machine begun settled = meant begun.config (names_in begun.volume settled) (devices_in settled machine)

-- ---- until the commit

-- a Clear map's sectors stay as they were
abbrev pub SparesClear : Machine → Begun → Option Past → Option Past → Type 0
SparesClear machine begun entry ended =
    Clear begun.volume (now entry) machine begun.span → SparesMapped machine begun.span entry ended

-- Up to a moment what boots stayed as it was, with the sectors of a Clear map, the old map at its name, and all that lies outside of the
-- volume. Then all is durable, and with the new boot sector the disks mean the configuration: so all is staged.
pub record IsStaged (machine : Machine) (begun : Begun) (settled : Image) (entry staged : Option Past) (bytes : List ℕ) : Type 0 where
  pub stays : StaysAsBefore machine begun.volume begun.span entry staged
  pub spares : SparesClear machine begun entry staged
  pub map : (names : model.OwnNames) → AreOwn (now entry) begun names → KeepsOldMap machine begun names entry staged
  pub outside : WritesNoApart begun.volume entry staged
  pub quiet : IsQuiet staged
  pub place : DiskSector
  pub means : Means machine begun.span place (meant_by machine begun settled) (with_sector (now staged) begun.span.disk begun.span.start bytes)

-- so it is for an image that settling left
pub record IsStagedFrom (machine : Machine) (begun : Begun) (entry staged : Option Past) (bytes : List ℕ) : Type 0 where
  pub settled : Image
  pub from : IsSettledFrom (now entry) machine begun settled
  pub is : IsStaged machine begun settled entry staged bytes

-- and on the volume that lies where this was read
abbrev pub IsStagedOn : Image → Machine → begins.Begun → Option Past → Option Past → List ℕ → Type 0
IsStagedOn image machine read entry staged bytes =
    (volume : Volume) → volume_at image read.volume ≡ Ok volume → IsStagedFrom machine (begun_with read volume) entry staged bytes

-- ---- the commit

-- From that moment these bytes were written into the first sector of a span, or not, and nothing else was; and nothing was made durable.
pub record IsUnflushed (span : Span) (staged ended : Option Past) (bytes : List ℕ) : Type 0 where
  pub either : LeavesOnly staged ended (IsWithOrWithout (now staged) span bytes)
  pub others : WritesNoOther span.disk span.start staged ended
  pub unflushed : begun ended ≡ begun staged

-- or they were written, and nothing else was, and all is durable
pub record IsFlushed (span : Span) (staged ended : Option Past) (bytes : List ℕ) : Type 0 where
  pub either : LeavesOnly staged ended (IsWithOrWithout (now staged) span bytes)
  pub others : WritesNoOther span.disk span.start staged ended
  pub written : now ended ≡ with_sector (now staged) span.disk span.start bytes
  pub quiet : IsQuiet ended

-- ---- the whole

-- An installation staged all, and then it ended in its commit.
pub record EndsInCommit (machine : Machine) (begun : Begun) (settled : Image) (entry ended : Option Past) : Type 0 where
  pub staged : Option Past
  pub bytes : List ℕ
  pub is : IsStaged machine begun settled entry staged bytes
  pub commits : IsUnflushed begun.span staged ended bytes

-- Or it was committed; and since then nothing outside of the volume was written.
pub record EndsCommitted (machine : Machine) (begun : Begun) (settled : Image) (entry ended : Option Past) : Type 0 where
  pub staged : Option Past
  pub bytes : List ℕ
  pub is : IsStaged machine begun settled entry staged bytes
  pub committed : Option Past
  pub commits : IsFlushed begun.span staged committed bytes
  pub tidies : WritesNoApart begun.volume committed ended
