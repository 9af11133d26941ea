-- What cases of configurations and plans are written in: Names, the sectors of devices, and sectors put at places. (This
-- project's own.)
use Rattle.std.specs.Prelude.{ℕ, ◌==◌, ◌&&◌, if◌then◌else◌, List, [], ◌∷◌, Option, None, Some}
use Rattle.lilo_model.specs.Devices.{Device}
use Rattle.lilo_model.specs.Disks.{Image, DiskSector, with_sector}
use Rattle.lilo_model.specs.MinixNames.{Thing, Directory}
use Rattle.lilo_model.specs.MinixFindNames.{Names}
use Rattle.lilo_model.specs.NamePlaces.{same_path}

-- a path, and what it leads to
pub record NamedThing : Type 0 where
  pub path : List (List ℕ)
  pub thing : Thing

abbrev pub named : List (List ℕ) → Thing → NamedThing
named path thing = record { path = path; thing = thing }

-- what the first of that path leads to
abbrev pub found_thing : List NamedThing → List (List ℕ) → Option Thing
found_thing [] path = None
found_thing (first ∷ others) path = if same_path first.path path then Some first.thing else found_thing others path

-- Names with these things, and the root
abbrev pub things_at : List NamedThing → Names
things_at things [] = Some Directory
things_at things (name ∷ path) = found_thing things (name ∷ path)

-- a device, and the bytes of its first sector
pub record DeviceSector : Type 0 where
  pub device : Device
  pub bytes : List ℕ

abbrev pub sector_of_device : Device → List ℕ → DeviceSector
sector_of_device device bytes = record { device = device; bytes = bytes }

-- the first sectors of these devices
abbrev pub sectors_of_devices : List DeviceSector → Device → List ℕ
sectors_of_devices [] device = []
sectors_of_devices (first ∷ others) device =
    if first.device.disk == device.disk && first.device.partition == device.partition
    then first.bytes
    else sectors_of_devices others device

-- an image with sectors put at places, of which an earlier one counts before a later one
abbrev pub with_sectors : Image → List DiskSector → List (List ℕ) → Image
with_sectors image [] sectors = image
with_sectors image (place ∷ places) [] = image
with_sectors image (place ∷ places) (bytes ∷ sectors) = with_sector (with_sectors image places sectors) place bytes
