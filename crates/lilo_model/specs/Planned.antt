-- What a configuration maps, on a sound volume where nothing that it names is refused (this project's own; zones: Minix
-- file system).
use Rattle.std.specs.Prelude.{ℕ, ◌+◌, ◌*◌, ◌/◌, ◌%◌, ◌==◌, if◌then◌else◌, List, [], ◌∷◌, map, take, flat_map, Option, Some, None, option_map, option_and_then}
use Rattle.std.specs.Prelude.{unwrap_or}
use Rattle.std.specs.List.{range_with_len}
use Rattle.std.specs.Result.{result_ok}
use Rattle.lilo_model.specs.Disks.{Image, Machine, Span, DiskSector, bytes_at}
use Rattle.lilo_model.specs.Devices.{Device}
use Rattle.lilo_model.specs.Partitions.{span_of}
use Rattle.lilo_model.specs.MinixParts.{Parts, Volume, parts_of, is_file}
use Rattle.lilo_model.specs.MinixNames.{zone_number, content}
use Rattle.lilo_model.specs.MinixFind.{find}
use Rattle.lilo_model.specs.Section.{sectors_for}
use Rattle.lilo_model.specs.Conf.{Config, ConfSection}
use Rattle.lilo_model.specs.Plan.{MappedFile, MappedSection, Plan}

-- ---- devices

-- the first sector of a device that has a place
abbrev pub first_sector : Image → Machine → Device → Option DiskSector
first_sector image machine device =
    option_map (λ span. record { disk = span.disk; sector = span.start }) (result_ok (span_of image machine device))

-- the bytes of the first sector of each device
unfoldable pub devices_in : Image → Machine → Device → List ℕ
devices_in image machine device = unwrap_or (option_map (bytes_at image) (first_sector image machine device)) []

-- ---- files

-- where a sector of a file lies, by the zone of its block
abbrev pub sector_in_zone : Span → ℕ → ℕ → Option DiskSector
sector_in_zone span zone index =
    if zone == 0 then None else Some (record { disk = span.disk; sector = span.start + (2 * zone + index % 2) })

-- where each 512 bytes of an inode's file lie
unfoldable pub inode_places : Volume → Parts → ℕ → List (Option DiskSector)
inode_places volume parts number =
    map
    (λ index. sector_in_zone volume.span (zone_number volume.layout parts number (index / 2)) index)
    (range_with_len 0 (sectors_for (parts.node number).size))

-- an inode's file, as it is mapped
unfoldable pub mapped_inode : Volume → Parts → ℕ → MappedFile
mapped_inode volume parts number =
    record { size = (parts.node number).size; places = inode_places volume parts number }

-- the inode of the regular file that a path leads to
unfoldable pub file_inode : Volume → Parts → List ℕ → Option ℕ
file_inode volume parts path =
    option_and_then
    (λ number. if is_file (parts.node number) then Some number else None)
    (result_ok (find volume.layout parts path))

-- a file that isn't empty
abbrev pub some_file : MappedFile → Option MappedFile
some_file file = if file.size == 0 then None else Some file

-- the file of a path that is configured, unless it is empty
abbrev pub optional_file : Volume → Parts → Option (List ℕ) → Option MappedFile
optional_file volume parts path =
    option_and_then some_file (option_map (mapped_inode volume parts) (option_and_then (file_inode volume parts) path))

-- the first sector of another system, and that of the table's device
abbrev pub system_places : Image → Machine → Device → Option Device → List (Option DiskSector)
system_places image machine device None = first_sector image machine device ∷ []
system_places image machine device (Some table) =
    first_sector image machine device ∷ (first_sector image machine table ∷ [])

-- the bytes of them
abbrev pub system_size : Option Device → ℕ
system_size None = 512
system_size (Some table) = 1024

-- a kernel's section, where its file is there
abbrev pub kernel_section : Volume → Parts → ConfSection → Option ℕ → List MappedSection
kernel_section volume parts section None = []
kernel_section volume parts section (Some number) =
    record {
      section = section;
      main = mapped_inode volume parts number;
      initrd = optional_file volume parts section.initrd;
    } ∷ []

-- a section, by the device of another system
abbrev pub mapped_by : Image → Machine → Volume → ConfSection → Option Device → List MappedSection
mapped_by image machine volume section (Some device) =
    record {
      section = section;
      main = record { size = system_size section.table; places = system_places image machine device section.table };
      initrd = None;
    } ∷ []
mapped_by image machine volume section None =
    kernel_section volume (parts_of volume image) section (file_inode volume (parts_of volume image) section.path)

-- a section, where it isn't omitted
unfoldable pub mapped_section : Image → Machine → Volume → ConfSection → List MappedSection
mapped_section image machine volume section = mapped_by image machine volume section section.other

-- the first 512 bytes of the file with the code, none where there is no such file
unfoldable pub code_in : Volume → Parts → Option (List ℕ) → List ℕ
code_in volume parts path =
    take 512 (unwrap_or (option_map (content volume.layout parts) (option_and_then (file_inode volume parts) path)) [])

-- what a configuration maps at a time
unfoldable pub planned : Image → Machine → Volume → Config → ℕ → Plan
planned image machine volume config time = record {
  config = config;
  time = time;
  code = code_in volume (parts_of volume image) config.install;
  message = optional_file volume (parts_of volume image) config.message;
  sections = flat_map (mapped_section image machine volume) config.sections;
}
