-- In which phase of an installation a disk failed: before its commit, in it, or after it (this project's own). The commit writes the first
-- sector of the boot device, which lies in a span. What is staged of a past, for the bytes of a boot sector, is the caller's to say.
use Rattle.std.specs.Prelude.{◌≡◌, ℕ, List, Option}
use Rattle.disk_trait.specs.declared.disks.Disks.{Ghosts}
use Rattle.disk_trait.specs.declared.disks.Phase.{Phase}
use Rattle.disk_trait.specs.declared.disks.Phase.TheVariants.{Before, Commit, After}
use Rattle.disk_trait.specs.Calls.{GoesOn}
use Rattle.disk_trait.specs.Moments.{now, LeavesOnly}
use Rattle.disk_trait.specs.Past.{Past}
use Rattle.lilo_model.specs.Disks.{Span}
use Rattle.lilo_model.specs.Faults.{Rose}
use Rattle.install_run.specs.Staged.{IsFlushed, IsUnflushed}
use Rattle.install_run.specs.Texts.{device_status}
use Rattle.install_laws.specs.Boots.{HasBootOf}

-- whatever a stop leaves up to then has the boot sector of before
abbrev pub IsUncommitted : Span → Option Past → Option Past → Type 0
IsUncommitted span entry ended = LeavesOnly entry ended (HasBootOf span (now entry))

-- Before the commit: the boot sector stayed, and the count of faults rose.
pub record FailsBefore {D : Type 0} (g : Ghosts D) (span : Span) (old new : D) : Type 0 where
  pub uncommitted : IsUncommitted span (g.past old) (g.past new)
  pub rose : Rose (g.faults old) (g.faults new)

-- In the commit: until it began the boot sector stayed, and all was staged. From then on at most that sector was written, nothing was made
-- durable, and the count rose.
pub record FailsCommitting {D : Type 0} (g : Ghosts D) (Staged : Option Past → List ℕ → Type 0) (span : Span) (old new : D) : Type 0 where
  -- the disks when it began
  pub before : D
  pub came : GoesOn g old before
  pub uncommitted : IsUncommitted span (g.past old) (g.past before)
  pub bytes : List ℕ
  pub staged : Staged (g.past before) bytes
  pub goes_on : GoesOn g before new
  pub commits : IsUnflushed span (g.past before) (g.past new) bytes
  pub rose : Rose (g.faults before) (g.faults new)

-- After it: all was staged, and then the boot sector was written alone, and made durable. From then on the count rose.
pub record FailsTidying {D : Type 0} (g : Ghosts D) (Staged : Option Past → List ℕ → Type 0) (span : Span) (old new : D) : Type 0 where
  -- the disks when the commit began, and when it was done
  pub before : D
  pub committed : D
  pub came : GoesOn g old before
  pub uncommitted : IsUncommitted span (g.past old) (g.past before)
  pub bytes : List ℕ
  pub staged : Staged (g.past before) bytes
  pub on : GoesOn g before committed
  pub commits : IsFlushed span (g.past before) (g.past committed) bytes
  pub goes_on : GoesOn g committed new
  pub rose : Rose (g.faults committed) (g.faults new)

abbrev pub FailsIn : {D : Type 0} → Ghosts D → Phase → (Option Past → List ℕ → Type 0) → Span → D → D → Type 0
FailsIn g Before Staged span old new = FailsBefore g span old new
FailsIn g Commit Staged span old new = FailsCommitting g Staged span old new
FailsIn g After Staged span old new = FailsTidying g Staged span old new

-- the same by the exit status
abbrev pub FailsBy : {D : Type 0} → Ghosts D → ℕ → (Option Past → List ℕ → Type 0) → Span → D → D → Type 0
FailsBy g status Staged span old new = (phase : Phase) → status ≡ device_status phase → FailsIn g phase Staged span old new
