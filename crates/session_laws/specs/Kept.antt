-- What a session's images keep, under each kind of change of the disks.
use Rattle.std.specs.Prelude.{◌≡◌, ◌≢◌, ◌⊎◌, ℕ, ◌+◌, true, List, [], ◌∷◌, length, All, None}
use Rattle.lilo_model.specs.Clear.{IsOfZone}
use Rattle.lilo_model.specs.Disks.{Image, with_sector}
use Rattle.lilo_model.specs.Mapped.{mapped_sectors}
use Rattle.lilo_model.specs.MinixNames.{Refers, IsSound}
use Rattle.lilo_model.specs.MinixParts.{Pointer, parts_of, is_directory, is_link}
use Rattle.lilo_model.specs.Restored.{restored_sector}
use Rattle.lilo_model.specs.Settled.{is_foreign}
use Rattle.boot_laws.specs.SameOn.{SameOn}
use Rattle.minix_change_laws.specs.Beside.{SoundAsIn}
use Rattle.session_model.specs.Keeps.{IsWhole, Keeps}
use Rattle.session_model.specs.Site.{Site, IsBootApart, boot_place}
use Rattle.session_model.specs.State.{KeepsBoot, body_in, line_in}

-- ---- a writer of files

-- a zone has no Mapped sector
abbrev pub IsUnmapped : Site → Image → ℕ → Type 0
IsUnmapped site image zone =
    (sector : ℕ) → IsOfZone zone sector
    → All (λ place. place ≢ record { disk = site.volume.span.disk; sector = site.volume.span.start + sector }) (mapped_sectors image site.machine site.boot)

-- a reference was there, of an inode of the same kind
pub record WasThere (site : Site) (old new : Image) (number : ℕ) (at : Pointer) (zone : ℕ) : Type 0 where
  pub refers : Refers site.volume.layout (parts_of site.volume old) number at zone
  pub directory : is_directory ((parts_of site.volume new).node number) ≡ is_directory ((parts_of site.volume old).node number)
  pub link : is_link ((parts_of site.volume new).node number) ≡ is_link ((parts_of site.volume old).node number)

-- named inodes refer to what they referred to, and else only to zones without a Mapped sector
abbrev pub GainsUnmapped : Site → Image → Image → Type 0
GainsUnmapped site old new =
    (number : ℕ) (at : Pointer) (zone : ℕ) → Refers site.volume.layout (parts_of site.volume new) number at zone
    → WasThere site old new number at zone ⊎ IsUnmapped site old zone

-- so where no Mapped sector is written, body and line are as before, and all is kept again
abbrev pub WriterLaw : Type 0
WriterLaw =
    (site : Site) (old new : Image)
    → Keeps site old → SameOn (mapped_sectors old site.machine site.boot) old new
    → IsWhole site new → IsSound site.volume new → GainsUnmapped site old new
    → Keeps site new × KeepsBoot site old new

-- ---- another system's boot sector

-- a boot sector of another system
pub record HasForeign (site : Site) (new : Image) (bytes : List ℕ) : Type 0 where
  pub keeps : Keeps site new
  pub body : body_in site new ≡ record { place = boot_place site; bytes = bytes } ∷ []
  pub line : line_in site new ≡ None

-- where it is written, all is kept again
abbrev pub ForeignLaw : Type 0
ForeignLaw =
    (site : Site) (old : Image) (bytes : List ℕ)
    → IsBootApart site → Keeps site old → length bytes ≡ 512 → is_foreign bytes ≡ true
    → SoundAsIn site.volume old (with_sector old (boot_place site) bytes)
    → HasForeign site (with_sector old (boot_place site) bytes) bytes

-- what is restored of a backup is another system's boot sector exactly where the backup is one
abbrev pub RestoredLaw : Type 0
RestoredLaw =
    (backup present : List ℕ) → length backup ≡ 512 → is_foreign (restored_sector backup present) ≡ is_foreign backup
