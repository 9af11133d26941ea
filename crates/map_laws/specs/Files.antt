-- The files that are mapped, in an image where their sectors are as they were.
use Rattle.std.specs.Prelude.{◌≡◌, ◌≤◌, ◌<◌, ℕ, ◌^◌, true, List, length, replicate, option_map, Option, None, Some}
use Rattle.std.specs.List.{AllByRecursion}
use Rattle.lilo_model.specs.Disks.{Image, Machine, DiskSector, bytes_at}
use Rattle.lilo_model.specs.Conf.{Config}
use Rattle.lilo_model.specs.MinixParts.{Volume, parts_of, is_file}
use Rattle.lilo_model.specs.MinixNames.{Named, content, names_in, IsSound}
use Rattle.lilo_model.specs.Meant.{filled_file}
use Rattle.lilo_model.specs.Plan.{slot_to, slots_for, filled_places}
use Rattle.lilo_model.specs.PlanRefusal.{slots_limit}
use Rattle.lilo_model.specs.Planned.{inode_places, mapped_inode, optional_file}
use Rattle.map_laws.specs.Lies.{AreNamed, IsNone, FileLies}

-- a place has the bytes that it had; a hole has none
abbrev pub IsKept : Image → Image → Option DiskSector → Type 0
IsKept before image None = Unit {0}
IsKept before image (Some place) = bytes_at image place ≡ bytes_at before place

abbrev pub AreKept : Image → Image → List (Option DiskSector) → Type 0
AreKept before image places = AllByRecursion (IsKept before image) places

-- what an image needs so that the file of an inode lies where it is mapped from
pub record FileKept (before image : Image) (machine : Machine) (volume : Volume) (config : Config)
    (line_place zero_place : DiskSector) (number : ℕ) : Type 0 where
  pub named : Named volume.layout (parts_of volume before) number
  pub regular : is_file ((parts_of volume before).node number) ≡ true
  pub some : 1 ≤ ((parts_of volume before).node number).size
  pub few : ((parts_of volume before).node number).size < 2 ^ 32
  pub slots : slots_for config machine (mapped_inode volume (parts_of volume before) number) ≤ slots_limit
  pub are : AreNamed machine (slot_to config.mode machine) (filled_places zero_place (inode_places volume (parts_of volume before) number))
  pub apart : IsNone line_place (filled_places zero_place (inode_places volume (parts_of volume before) number))
  pub kept : AreKept before image (inode_places volume (parts_of volume before) number)
  pub zeros : bytes_at image zero_place ≡ replicate 512 0

-- then it does, with its content
abbrev pub FileLaw : Type 0
FileLaw =
    (before image : Image) (machine : Machine) (volume : Volume) (config : Config) (line_place zero_place : DiskSector) (number : ℕ)
    → IsSound volume before
    → FileKept before image machine volume config line_place zero_place number
    → FileLies image machine config line_place zero_place (mapped_inode volume (parts_of volume before) number)
    (content volume.layout (parts_of volume before) number)

-- a file is mapped where it counts for what is meant, and has as many bytes
abbrev pub OptionalFileLaw : Type 0
OptionalFileLaw =
    (volume : Volume) (image : Image) (path : Option (List ℕ))
    → IsSound volume image
    → option_map (λ file. file.size) (optional_file volume (parts_of volume image) path) ≡ option_map length (filled_file (names_in volume image) path)
