-- The files that a configuration's plan maps, in a later image (rules of this project's own).
use Rattle.std.specs.Prelude.{◌≡◌, ◌≢◌, ℕ, IfSome, List, All, Option, None, Some}
use Rattle.std.specs.List.{AllByRecursion}
use Rattle.lilo_model.specs.Clear.{IsClearPlace}
use Rattle.lilo_model.specs.Conf.{Config, ConfSection}
use Rattle.lilo_model.specs.Devices.{Device}
use Rattle.lilo_model.specs.Disks.{Image, Machine, Span}
use Rattle.lilo_model.specs.MinixNames.{PointsTo, Refers, reached, IsSound}
use Rattle.lilo_model.specs.MinixParts.{Volume, Pointer, parts_of}
use Rattle.lilo_model.specs.Planned.{file_inode, planned}
use Rattle.minix_change_laws.specs.Beside.{NamedIn}
use Rattle.map_laws.specs.MapLays.{HoldsMap}
use Rattle.map_laws.specs.Lies.{MapPlaces, all_places}
use Rattle.install_laws.specs.Writes.{IsApartSector}
use Rattle.install_stage_laws.specs.StaysLaws.{planned_places}
use Rattle.install_stage_laws.specs.ClearMap.{KeepsFiles, KeepsFilesBut}
use Rattle.install_stage_laws.specs.Devices.{AreDevicesApart}

-- ---- files that are mapped

-- a fact on the inode of the file that a path leads to, if there is one
abbrev pub OnFile : Image → Volume → List ℕ → (ℕ → Type 0) → Type 0
OnFile image volume path P = IfSome (file_inode volume (parts_of volume image) path) P

-- on that of a section's kernel, unless it boots another system
abbrev pub OnKernel : Image → Volume → List ℕ → Option Device → (ℕ → Type 0) → Type 0
OnKernel image volume path None P = OnFile image volume path P
OnKernel image volume path (Some device) P = Unit {0}

-- on those of a section
pub record OnSection (image : Image) (volume : Volume) (P : ℕ → Type 0) (section : ConfSection) : Type 0 where
  pub kernel : OnKernel image volume section.path section.other P
  pub initrd : IfSome section.initrd (λ path. OnFile image volume path P)

-- on each that a configuration's plan maps
pub record OnMapped (image : Image) (volume : Volume) (config : Config) (P : ℕ → Type 0) : Type 0 where
  pub message : IfSome config.message (λ path. OnFile image volume path P)
  pub sections : AllByRecursion (OnSection image volume P) config.sections

-- ---- what stays of them

-- an inode has a name in an image, and is of the same mode there and points to what it referred to in another one
pub record StaysThere (volume : Volume) (before c : Image) (number : ℕ) : Type 0 where
  pub named : NamedIn volume c number
  pub mode : ((parts_of volume c).node number).mode ≡ ((parts_of volume before).node number).mode
  pub to : (at : Pointer) (zone : ℕ) → Refers volume.layout (parts_of volume before) number at zone → PointsTo volume.layout (parts_of volume c) number at zone

-- in an image the volume is sound, and so is each file that was mapped in another one
pub record KeepsMapped (volume : Volume) (config : Config) (before c : Image) : Type 0 where
  pub sound : IsSound volume c
  pub mapped : OnMapped before volume config (StaysThere volume before c)

-- so they are where each inode that was named is so still, and stays
abbrev pub FilesKeepMappedLaw : Type 0
FilesKeepMappedLaw =
    (volume : Volume) (config : Config) (before c : Image)
    → IsSound volume before → KeepsFiles volume before c → KeepsMapped volume config before c

-- and where all stay but what one path alone named, and it leads to none of them
abbrev pub ButKeepMappedLaw : Type 0
ButKeepMappedLaw =
    (volume : Volume) (config : Config) (but : List (List ℕ)) (before c : Image)
    → IsSound volume before → KeepsFilesBut volume but before c
    → OnMapped before volume config (λ number. reached volume.layout (parts_of volume before) but ≢ Some number)
    → KeepsMapped volume config before c

-- also after a change that kept them
abbrev pub MappedJoinedLaw : Type 0
MappedJoinedLaw =
    (volume : Volume) (config : Config) (before middle c : Image)
    → KeepsMapped volume config before middle → KeepsFiles volume middle c → KeepsMapped volume config before c

-- There all the sectors that a planned map lies in are Clear, and those that it was planned from, where its own are those of a
-- file of its own: what `TidyLaw` asks of tidying.
abbrev pub StagedClearLaw : Type 0
StagedClearLaw =
    (before c : Image) (machine : Machine) (volume : Volume) (span : Span) (config : Config) (device : Device) (time : ℕ)
    (places : MapPlaces) (path : List (List ℕ))
    → IsSound volume before → AreDevicesApart before machine volume config device → IsApartSector volume span.disk span.start
    → KeepsMapped volume config before c
    → HoldsMap c machine volume (planned before machine volume config time) path (all_places places)
    → All (IsClearPlace volume c) (planned_places before machine volume span config time places)
