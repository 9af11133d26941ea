-- What is restored as a device's boot sector. One list of checks, in order, of which the first refusal decides. (This
-- project's own.)
use Rattle.std.specs.Prelude.{ℕ, ◌==◌, Bool, not, ◌&&◌, List, Option, Result, Ok, Err}
use Rattle.lilo_model.specs.Checks.{◌>>=◌, require, with_fault}
use Rattle.lilo_model.specs.ConfVerdict.{volume_refusal}
use Rattle.lilo_model.specs.Devices.{Device}
use Rattle.lilo_model.specs.Disks.{Image, Machine, Span, DiskSector}
use Rattle.lilo_model.specs.MinixLayout.{Super, Inode}
use Rattle.lilo_model.specs.MinixParts.{Parts, parts_of, volume_at, is_file}
use Rattle.lilo_model.specs.MinixFind as find
use Rattle.lilo_model.specs.MinixFind.{TreeFault, find, file_block}
use Rattle.lilo_model.specs.NamePlaces.{default_backup}
use Rattle.lilo_model.specs.Refusal as refusals
use Rattle.lilo_model.specs.Refusal.{Refusal}
use Rattle.lilo_model.specs.Restored.{restored_sector}
use Rattle.lilo_model.specs.Settled.{is_foreign}
use Rattle.lilo_model.specs.VolumeSearch.{volume_place}

-- the boot sector of a device that lies here
abbrev pub boot_place : Span → DiskSector
boot_place span = record { disk = span.disk; sector = span.start }

-- how a refusal of a backup's path is reported: as no backup, but for a zone or an inode that is refused
abbrev pub backup_refusal : TreeFault → Refusal
backup_refusal (find.Zone fault) = refusals.Layout
backup_refusal fault = refusals.NotOurs

-- whether an inode is a backup's: that of a regular file of one sector
abbrev pub is_backup : Inode → Bool
is_backup inode = is_file inode && (inode.size == 512)

-- the bytes of the backup at a path
unfoldable pub backup_at : Super → Parts → List ℕ → Result (List ℕ) Refusal
backup_at super parts path = do
  inode ← with_fault backup_refusal (find super parts path)
  a ← require (is_backup (parts.node inode)) refusals.NotOurs
  with_fault backup_refusal (file_block super parts (parts.node inode) 0)

-- on the volume that lies here
unfoldable pub backup_on : Image → Span → List ℕ → Result (List ℕ) Refusal
backup_on image span path = do
  volume ← with_fault (λ fault. refusals.Layout) (volume_at image span)
  backup_at volume.layout (parts_of volume image) path

-- on the volume of a run, by the device that is named for it
unfoldable pub backup_of : Image → Machine → Option Device → List ℕ → Result (List ℕ) Refusal
backup_of image machine root path = do
  place ← with_fault volume_refusal (volume_place image machine root)
  backup_on image place.span path

-- the boot sector that a device has once it is restored, where it lies here
unfoldable pub restored_in : Image → Machine → Option Device → Device → Span → Result (List ℕ) Refusal
restored_in image machine root device span = do
  a ← require (not (is_foreign (image span.disk span.start))) refusals.NotOurs
  backup ← backup_of image machine root (default_backup device)
  Ok (restored_sector backup (image span.disk span.start))
