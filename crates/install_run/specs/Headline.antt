-- The headline of an installation (this project's own): what boots from whatever a stop at any moment leaves of it.
use Rattle.std.specs.Prelude.{◌≡◌, ◌⊎◌, ℕ, Option, is_some}
use Rattle.disk_trait.specs.Past.{Past}
use Rattle.disk_trait.specs.Moments.{now, MayLeave, LeavesOnly}
use Rattle.lilo_model.specs.Clear.{Clear}
use Rattle.lilo_model.specs.DefaultLine.{Empty}
use Rattle.lilo_model.specs.Disks.{Image, Machine}
use Rattle.lilo_model.specs.MinixNames.{names_in}
use Rattle.lilo_model.specs.Settled.{OwnNames, IsSettled}
use Rattle.install_laws.specs.Boots.{BootsAs, BootsAsMeant, BootsAsBeforeOrMeant}
use Rattle.install_laws.specs.InstallVerdict.{Begun}
use Rattle.install_laws.specs.Writes.{IsApartSector}
use Rattle.install_order.specs.Begins.{AreOwn}
use Rattle.install_settle.specs.Settles.{stale_of}
use Rattle.install_run.specs.Keeps.{IsBefore, IsDone}
use Rattle.install_run.specs.Staged.{meant_by}

-- settling left an image: its Names are as in Settled, and all but the volume past its block 0 is as at the entry
pub record IsSettledImage (image : Image) (machine : Machine) (begun : Begun) (settled : Image) : Type 0 where
  pub own : OwnNames
  pub are : AreOwn image begun own
  pub names : IsSettled image machine begun.volume begun.span own.map (stale_of (is_some begun.config.force_backup) own)
      (names_in begun.volume image) (names_in begun.volume settled)
  pub outside : (d s : ℕ) → IsApartSector begun.volume d s → settled d s ≡ image d s

-- an image boots as the configuration and the files mean that settling left, for all keys and any memory; or as another one, or so, the same
-- of the two for all
abbrev pub BootsAsNew : Machine → Begun → Image → Image → Type 0
BootsAsNew machine begun settled c = BootsAsMeant machine begun.span (meant_by machine begun settled Empty) c

abbrev pub BootsAsOneOf : Machine → Begun → Image → Image → Image → Type 0
BootsAsOneOf machine begun settled before c = BootsAsBeforeOrMeant machine begun.span before (meant_by machine begun settled Empty) c

-- At any moment a stop leaves what boots as before, or as the one of the two, where the map of the entry is Clear; so a refusal, and a disk
-- that failed before the commit, leaves what boots as before alone. Once it is done each image that a stop leaves boots as is meant. Both are
-- by an image that settling left.
pub record HeadlineBy (machine : Machine) (begun : Begun) (entry ended : Option Past) (status : ℕ) : Type 0 where
  pub settled : Image
  pub settles : (status ≡ 9) ⊎ IsDone status → IsSettledImage (now entry) machine begun settled
  pub before : IsBefore status → Clear begun.volume (now entry) machine begun.span
      → LeavesOnly entry ended (BootsAs machine begun.span (now entry))
  pub any_moment : (status ≡ 9) ⊎ IsDone status → Clear begun.volume (now entry) machine begun.span
      → LeavesOnly entry ended (BootsAsOneOf machine begun settled (now entry))
  pub done : IsDone status → (c : Image) → MayLeave ended c → BootsAsNew machine begun settled c
