-- What an installation does, by its exit status: what it answers, and what a stop at any moment leaves.
use Rattle.std.specs.Prelude.{◌≡◌, ◌≢◌, ◌⊎◌, ℕ, List, Option, Ok, Err, IsErr}
use Rattle.disk_trait.specs.declared.disks.Phase.TheVariants.{Before}
use Rattle.disk_trait.specs.Past.{Past}
use Rattle.disk_trait.specs.Moments.{now, IsQuiet, MayLeave}
use Rattle.lilo_model.specs.Disks.{Image, Machine, DiskSector}
use Rattle.lilo_model.specs.Lays.{Lays}
use Rattle.lilo_model.specs.MinixParts as model
use Rattle.lilo_model.specs.MinixParts.{ZoneFault, volume_at}
use Rattle.lilo_model.specs.Planned.{planned}
use Rattle.lilo_model.specs.Refusal as refusals
use Rattle.lilo_model.specs.Settled as settles
use Rattle.lilo_model.specs.Verdict.{verdict_of}
use Rattle.stream_trait.specs.Shows.{SinkState, Shows}
use Rattle.install_begin.specs.Begin as begins
use Rattle.install_begin.specs.Begin.{begun_with}
use Rattle.install_laws.specs.Headline.{Means}
use Rattle.install_laws.specs.InstallVerdict.{Answer, Begun}
use Rattle.install_laws.specs.Stopped.{BootsAsEither, StaysAsBefore}
use Rattle.install_order.specs.Begins.{AreOwn, HasNothingLeft, LiesThere}
use Rattle.install_stage_laws.specs.BeginLaws.{GainsNothing}
pub use Rattle.install_order.specs.Checks.{StaysRefused}
use Rattle.install_run.specs.Previews.{AnswersVerdict}
use Rattle.install_run.specs.Answers.{AnswersInstall, IsSettledFrom, lost_line, settled_answer}
pub use Rattle.install_run.specs.Keeps.{IsBefore, IsDone}
pub use Rattle.install_run.specs.Staged.{meant_by}
use Rattle.install_run.specs.Staged.{EndsCommitted, EndsInCommit, SparesClear}
use Rattle.install_run.specs.Keeps.{KeepsMost, KeepsNames, WritesInside}

-- ---- what is left

-- At any moment a stop leaves what boots as before or as is meant, the same of the two for all keys and any memory; and from the end
-- on only what boots as is meant.
pub record IsInstalled (machine : Machine) (begun : Begun) (place : DiskSector) (settled : Image) (entry ended : Option Past) : Type 0 where
  pub either : BootsAsEither machine begun.volume begun.span place (meant_by machine begun settled) entry ended
  pub after : (c : Image) → MayLeave ended c → Means machine begun.span place (meant_by machine begun settled) c

-- in an image the map lies as it was planned on the settled one: lilo_model's Lays, with what stays of the boot sector at the entry
abbrev pub LaysAsPlanned : Machine → Begun → Image → ℕ → settles.OwnNames → Option Past → Image → Type 0
LaysAsPlanned machine begun settled time names entry c =
    Lays c machine begun.volume begun.span (planned settled machine begun.volume begun.config time) names.map (now entry begun.span.disk begun.span.start)

-- all checks pass: those up to settling of what there was, and those after it of what it left
abbrev pub Passes : Image → Machine → Image → Begun → ℕ → Type 0
Passes image machine settled begun time = (answer : Answer) × (settled_answer image machine settled begun time ≡ Ok answer)

-- nothing is staged: each name is as before, or as in Settled where settling changes it
abbrev pub StaysUnstaged : Machine → Begun → Option Past → Option Past → Type 0
StaysUnstaged machine begun entry ended = (names : settles.OwnNames) → AreOwn (now entry) begun names → KeepsMost machine begun names entry ended

-- the disks hold what settling left, and it is durable
pub record HoldsSettled (settled : Image) (ended : Option Past) : Type 0 where
  pub now_is : now ended ≡ settled
  pub quiet : IsQuiet ended

-- What a stop leaves, by the status, with the place of the new map's default line: of a refusal, or of a disk that failed before the
-- commit, what boots as before; of one that failed in it, the same of the two; and of what is done, the headline, and a map that lies as
-- planned. What it keeps of names. Files are staged, and a commit begins, only where all checks passed; after a refusal that no failed disk
-- caused the disks hold what settling left; and once all is done, all is durable. Settling sets no bitmap bit, and changes no inode whose bit
-- it leaves set but for its links.
pub record Leaves (machine : Machine) (begun : Begun) (settled : Image) (time : ℕ) (entry ended : Option Past) (status : ℕ) : Type 0 where
  pub keeps : (names : settles.OwnNames) → AreOwn (now entry) begun names → KeepsNames machine begun settled time names entry ended status
  pub lays : IsDone status → (names : settles.OwnNames) → AreOwn (now entry) begun names → (c : Image) → MayLeave ended c
      → LaysAsPlanned machine begun settled time names entry c
  pub settles : (status ≡ 9) ⊎ IsDone status → IsSettledFrom (now entry) machine begun settled
  pub passes : (status ≡ 9) ⊎ IsDone status → Passes (now entry) machine settled begun time
  pub gains : status ≢ 8 → GainsNothing begun.volume (now entry) settled
  pub before : IsBefore status → StaysAsBefore machine begun.volume begun.span entry ended
  pub at_commit : status ≡ 9
      → (place : DiskSector) × BootsAsEither machine begun.volume begun.span place (meant_by machine begun settled) entry ended
  pub done : IsDone status → (place : DiskSector) × IsInstalled machine begun place settled entry ended
  pub quiet : status ≡ 0 → IsQuiet ended
  pub spares : IsBefore status → SparesClear machine begun entry ended
  pub in_commit : status ≡ 9 → EndsInCommit machine begun settled entry ended
  pub committed : IsDone status → EndsCommitted machine begun settled entry ended
  pub holds : IsBefore status → status ≢ 8 → HoldsSettled settled ended
  pub stages : IsBefore status → StaysUnstaged machine begun entry ended
      ⊎ (IsSettledFrom (now entry) machine begun settled × Passes (now entry) machine settled begun time)

-- ---- the whole

-- Where nothing is left that settling changes, it changes nothing, and a refusal writes nothing; nor does whatever is answered where a check
-- after settling refuses.
pub record IsUnsettled (machine : Machine) (begun : Begun) (time : ℕ) (entry ended : Option Past) (settled : Image) (status : ℕ) : Type 0 where
  pub same : settled ≡ now entry
  pub refused : IsBefore status → status ≢ 8 → ended ≡ entry
  pub unplanned : IsErr (settled_answer (now entry) machine settled begun time) → ended ≡ entry

abbrev pub StaysUnsettled : Machine → Begun → ℕ → Image → Option Past → Option Past → ℕ → Type 0
StaysUnsettled machine begun time settled entry ended status =
    HasNothingLeft (now entry) begun → IsUnsettled machine begun time entry ended settled status

-- An installation answers, and leaves, by the image that its settling leaves. What it leaves rests on a quiet entry.
pub record Installs (image : Image) (machine : Machine) (begun : Begun) (time : ℕ) (entry ended : Option Past) (status : ℕ) (old new : SinkState) : Type 0 where
  pub settled : Image
  pub answers : AnswersInstall image machine settled begun time status old new
  pub refused : StaysRefused image machine begun entry ended
  pub unsettled : StaysUnsettled machine begun time settled entry ended status
  pub outside : WritesInside begun.volume begun.span entry ended status
  pub leaves : IsQuiet entry → LiesThere (now entry) machine begun → Leaves machine begun settled time entry ended status

-- So it does by what was read, where a volume lies there; else that is answered, and nothing is done.
pub data InstallsBegun (image : Image) (machine : Machine) (time : ℕ) (begun : begins.Begun) (entry ended : Option Past) (status : ℕ)
    (old new : SinkState) : Type 0 where
  OnVolume : (volume : model.Volume) → volume_at image begun.volume ≡ Ok volume
      → Installs image machine (begun_with begun volume) time entry ended status old new → InstallsBegun image machine time begun entry ended status old new
  NoVolume : (fault : ZoneFault) → volume_at image begun.volume ≡ Err fault → AnswersVerdict (verdict_of (Err refusals.Layout)) status old new
      → ended ≡ entry → InstallsBegun image machine time begun entry ended status old new
  VolumeLost : status ≡ 8 → Shows old (lost_line Before) new → ended ≡ entry → InstallsBegun image machine time begun entry ended status old new
