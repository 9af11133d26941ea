-- What the beginning of an installation leaves, at any moment of it and once it is done (a rule of this project's own).
use Rattle.std.specs.Prelude.{◌≡◌, ◌⊎◌, ℕ, ◌↔◌, ◌&&◌, Bool, true, false, IfSome, is_some, Option, None, Some, Ok}
use Rattle.lilo_model.specs.Clear.{Clear}
use Rattle.lilo_model.specs.Disks.{Image, Machine}
use Rattle.lilo_model.specs.Mapped.{mapped_sectors}
use Rattle.lilo_model.specs.MinixNames.{names_in, IsSound}
use Rattle.lilo_model.specs.MinixParts.{parts_of}
use Rattle.lilo_model.specs.NamePlaces.{with_tilde}
use Rattle.lilo_model.specs.Partitions.{span_of}
use Rattle.lilo_model.specs.Settled as model
use Rattle.lilo_model.specs.Settled.{Finishes, Held, IsSettled, is_foreign, own_names}
use Rattle.boot_laws.specs.SameOn.{SameOn}
use Rattle.minix_layout.specs.View.{kind_view}
use Rattle.minix_layout.specs.declared.superblock.Super.{Super}
use Rattle.minix_names.specs.Component.{IsFileName}
use Rattle.minix_change_laws.specs.Tree.{KeepsNamed}
use Rattle.install_apart.specs.Own.{AreInside, AreOwnTwins, AreReplaceable, IsBackupNamed}
use Rattle.install_stage_laws.specs.BeginLaws.{GainsNothing, IsNoneOfMap}
use Rattle.install_laws.specs.Boots.{HasBootOf}
use Rattle.install_laws.specs.InstallVerdict.{Begun, inode_of}
use Rattle.install_laws.specs.Writes.{IsApartSector}
use Rattle.install_settle.specs.Found.{IsCopyLeft, IsLeft, has_copy, is_copy_there}
use Rattle.install_settle.specs.Settles.{HasNames, AreSettling, KeepsPaths, KeepsMap, finishes, stale_of}
use Rattle.install_settle.specs.declared.settling.LeftMap.{LeftMap}
use Rattle.present_map.specs.Old.{IsOldMap}
use Rattle.install_order.specs.Checks.{IsExamined}
use Rattle.install_order.specs.declared.examination.Examined.{Examined}

-- ---- what is begun with

-- the boot device lies where the caller found it
abbrev pub LiesThere : Image → Machine → Begun → Type 0
LiesThere image machine begun = span_of image machine begun.boot ≡ Ok begun.span

-- these are the names that are replaced
abbrev pub AreOwn : Image → Begun → model.OwnNames → Type 0
AreOwn image begun names =
    own_names (names_in begun.volume image) begun.config begun.boot (is_foreign (image begun.span.disk begun.span.start)) ≡ Ok names

-- nothing is left that settling changes: `map~` isn't there, nor a copy of a forced backup
pub record HasNothingLeft (image : Image) (begun : Begun) : Type 0 where
  pub names : model.OwnNames
  pub are : AreOwn image begun names
  pub map : is_some (inode_of image begun.volume (with_tilde names.map)) ≡ false
  pub copy : (is_some begun.config.force_backup && is_copy_there image begun.volume names.backup) ≡ false

-- what was found fits a volume with this superblock, whatever the disks report
pub record FitsVolume (layout : Super) (forced : Bool) (found : Examined) : Type 0 where
  pub inside : AreInside layout found.own
  pub twins : AreOwnTwins found.own
  pub called : IsFileName found.own.map.plain.name
  pub backup_called : IsBackupNamed found.own.backup
  pub files : AreReplaceable forced found.own
  pub left : IsLeft (kind_view layout.kind) found.own.map found.settling.map
  pub copy : IsCopyLeft found.own.backup found.settling.copy
  pub copies : found.settling.copy ≡ (forced && has_copy found.own.backup)

-- ---- at any moment

-- no name of the backup, with `~` or without, is one of the map's
abbrev pub AreApartNames : model.OwnNames → Type 0
AreApartNames names = IfSome names.backup (λ backup. IsNoneOfMap names.map backup × IsNoneOfMap names.map (with_tilde backup))

-- Names are on the way to the settled ones: as before, or both names of the map are on the one file, or the map is
-- settled, or all is; and the backup's names are none of the map's
pub record IsOnTheWay (image : Image) (machine : Machine) (begun : Begun) (c : Image) : Type 0 where
  pub names : model.OwnNames
  pub are : AreOwn image begun names
  pub apart : AreApartNames names
  pub left : LeftMap
  pub holder : Finishes image machine begun.volume begun.span names.map (finishes left)
  pub has : AreSettling begun.volume image names (is_some begun.config.force_backup) left c

-- what is left of an image: sound where it was, with its Names or on the way; and, where the boot device lies where the
-- caller found it, with its boot sector, Held where it was, and all that a boot of a Clear map may look at
pub record IsBeginning (image : Image) (machine : Machine) (begun : Begun) (c : Image) : Type 0 where
  pub sound : IsSound begun.volume image → IsSound begun.volume c
  pub names : HasNames begun.volume c (names_in begun.volume image) ⊎ IsOnTheWay image machine begun c
  pub boot : LiesThere image machine begun → HasBootOf begun.span image c
  pub held : LiesThere image machine begun → (names : model.OwnNames) → AreOwn image begun names
      → Held image machine begun.volume begun.span names.map → Held c machine begun.volume begun.span names.map
  pub spared : LiesThere image machine begun → Clear begun.volume image machine begun.span
      → SameOn (mapped_sectors image machine begun.span) image c

-- ---- once it is done

-- On a sound volume, and a sound one still, Names are settled, other paths lead where they led, and `map` where it or `map~` did, a
-- copy is removed only of a forced backup, what is named before and after stays, no inode refers to another zone than before, what
-- isn't the volume's, or is of its block 0, is as it was, and a Clear map is Clear again, with what was read of it
pub record IsBegun (image : Image) (machine : Machine) (begun : Begun) (found : Examined) (c : Image) : Type 0 where
  pub was_sound : IsSound begun.volume image
  pub sound : IsSound begun.volume c
  pub left : IsBeginning image machine begun c
  pub names : model.OwnNames
  pub are : AreOwn image begun names
  pub settled : IsSettled image machine begun.volume begun.span names.map (stale_of (is_some begun.config.force_backup) names)
      (names_in begun.volume image) (names_in begun.volume c)
  pub copies : found.settling.copy ≡ true → is_some begun.config.force_backup ≡ true
  pub paths : KeepsPaths begun.volume image names found.settling.copy c
  pub file : KeepsMap begun.volume image names settled.finishes c
  pub keeps : KeepsNamed begun.volume.layout (parts_of begun.volume image) (parts_of begun.volume c)
  pub gains : GainsNothing begun.volume image c
  pub outside : (d s : ℕ) → IsApartSector begun.volume d s → c d s ≡ image d s
  pub clear : LiesThere image machine begun → Clear begun.volume image machine begun.span → Clear begun.volume c machine begun.span
  pub map : LiesThere image machine begun → Clear begun.volume image machine begun.span
      → IsOldMap begun.volume c machine begun.span found.old

-- what is known of an image: it is settled from one where this was found, or it is that one
pub record IsSurveyed (image : Image) (machine : Machine) (begun : Begun) (found : Examined) (settled : Bool) : Type 0 where
  pub entry : Image
  pub examined : IsExamined entry machine begun.volume begun.config begun.boot begun.span found
  pub is_settled : settled ≡ true → IsBegun entry machine begun found image
  pub is_looked_at : settled ≡ false → image ≡ entry

-- ---- whether the map is Clear

-- an answer is whether the map of an image is Clear, None where its boot sector is another system's
abbrev pub AnswersClear : Image → Machine → Begun → Option Bool → Type 0
AnswersClear image machine begun None = is_foreign (image begun.span.disk begun.span.start) ≡ true
AnswersClear image machine begun (Some clear) =
    (is_foreign (image begun.span.disk begun.span.start) ≡ false)
    × ((clear ≡ true) ↔ Clear begun.volume image machine begun.span)
