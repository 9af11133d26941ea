-- What every image of a session keeps, so that the next command may begin on it (this project's own).
use Rattle.std.specs.Prelude.{◌≡◌, ◌≢◌, ◌<◌, ◌⊎◌, ◌++◌, ℕ, ◌+◌, true, false, List, All, map, length, Some, Ok}
use Rattle.lilo_model.specs.BootSector.{BootSector, boot_at}
use Rattle.lilo_model.specs.Checks.{each}
use Rattle.lilo_model.specs.Clear.{Clear, IsOfZone}
use Rattle.lilo_model.specs.Disks.{Image, DiskSector}
use Rattle.lilo_model.specs.Mapped.{found_places, behind_table}
use Rattle.lilo_model.specs.MinixNames.{Refers, names_in, IsSound}
use Rattle.lilo_model.specs.MinixParts.{Pointer, parts_of, is_link}
use Rattle.lilo_model.specs.NamePlaces.{name_path, with_tilde}
use Rattle.lilo_model.specs.Settled.{Holds, is_foreign}
use Rattle.lilo_model.specs.Slots.{place_at}
use Rattle.session_model.specs.Site.{Site, boot_place}
use Rattle.session_model.specs.State.{line_place}

-- ---- the sector of the default line

-- the Mapped sectors behind a boot sector, without the default line's: those of the table, and those that it leads to
unfoldable pub others_behind : Site → Image → BootSector → List DiskSector
others_behind site image boot =
    found_places (map (λ slot. place_at site.machine slot 0) boot.table)
    ++ behind_table image site.machine boot (each (map (λ slot. place_at site.machine slot 0) boot.table))

-- where there is one, it is no other Mapped sector
abbrev pub IsLineApart : Site → Image → Type 0
IsLineApart site image =
    (boot : BootSector) (place : DiskSector) → boot_at (image site.boot.disk site.boot.start) ≡ Ok boot
    → place_at site.machine boot.line 0 ≡ Ok place
    → (boot_place site ≢ place) × All (λ other. other ≢ place) (others_behind site image boot)

-- a place lies in no zone of a named symbolic link
abbrev pub IsOffLinks : Site → Image → DiskSector → Type 0
IsOffLinks site image place =
    (number : ℕ) (at : Pointer) (zone sector : ℕ) → Refers site.volume.layout (parts_of site.volume image) number at zone
    → IsOfZone zone sector → place ≡ record { disk = site.volume.span.disk; sector = site.volume.span.start + sector }
    → is_link ((parts_of site.volume image).node number) ≡ false

-- ---- the whole

-- each sector that is there has 512 bytes
abbrev pub IsWhole : Site → Image → Type 0
IsWhole site image = (d s : ℕ) → s < site.machine.size_of d → length (image d s) ≡ 512

-- The image is whole, the volume sound and the map Clear; and the sector of the default line is no other Mapped one and
-- lies in no symbolic link.
pub record Keeps (site : Site) (image : Image) : Type 0 where
  pub whole : IsWhole site image
  pub sound : IsSound site.volume image
  pub clear : Clear site.volume image site.machine site.boot
  pub line_apart : IsLineApart site image
  pub off_links : (place : DiskSector) → line_place site image ≡ Some place → IsOffLinks site image place

-- ---- Held

-- the text of `map=` leads to a name, and the file there, or at that name with `~`, holds the boot sector's table
pub record HasHolder (site : Site) (text : List ℕ) (image : Image) : Type 0 where
  pub path : List (List ℕ)
  pub is : name_path (names_in site.volume image) text ≡ Ok path
  pub holds : Holds image site.machine site.volume site.boot path ⊎ Holds image site.machine site.volume site.boot (with_tilde path)

-- Held: so it is, or the boot sector is another system's
abbrev pub IsHeld : Site → List ℕ → Image → Type 0
IsHeld site text image = (is_foreign (image site.boot.disk site.boot.start) ≡ true) ⊎ HasHolder site text image
