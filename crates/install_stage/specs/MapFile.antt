-- The file of a planned map that is made at the path of `map` with `~`, and what its making leaves (this project's own). A path
-- is a list of components, the last one first.
use Rattle.std.specs.Prelude.{◌≡◌, ℕ, ◌*◌, List, [], ◌∷◌, map, Some, Result, OnOk}
use Rattle.std.specs.List.{concat, AllByRecursion}
use Rattle.disk_trait.specs.declared.disks.Disks.{Ghosts}
use Rattle.disk_trait.specs.Moments.{IsTold, now, LeavesOnly}
use Rattle.disk_trait.specs.NotWritten.{NotWritten}
use Rattle.install_laws.specs.InstallVerdict.{sectors_of_blocks}
use Rattle.install_laws.specs.Writes.{IsApartSector, WritesOnly}
use Rattle.install_stage.specs.Named.{HasNamesBut, HasOldOrNew}
use Rattle.install_stage.specs.Within.{is_chosen, AreDataZones, FreeWherePromised}
use Rattle.install_room.specs.Making.{MayMake}
use Rattle.install_room.specs.Room.{HasNoHole}
use Rattle.install_stage_laws.specs.ClearMap.{KeepsFiles}
use Rattle.install_stage_laws.specs.Staged.{IsChosenPlace}
use Rattle.lilo_model.specs.Disks.{Image, Machine, Span}
use Rattle.lilo_model.specs.Disks as model
use Rattle.lilo_model.specs.Lays.{AreAt}
use Rattle.lilo_model.specs.MinixFindNames.{path_above}
use Rattle.lilo_model.specs.MinixNames.{File}
use Rattle.lilo_model.specs.MinixParts.{Volume}
use Rattle.lilo_model.specs.NamePlaces.{with_tilde}
use Rattle.lilo_model.specs.Plan.{map_size}
use Rattle.lilo_model.specs.Settled.{Held}
use Rattle.map_laws.specs.Lies.{IsNone}
use Rattle.map_laws.specs.MapLays.{HoldsMap}
use Rattle.map_sectors.specs.Map.{plan_view}
use Rattle.map_sectors.specs.declared.map.MapPlan.{MapPlan}
use Rattle.minix_create.specs.Linked.{Creates}
use Rattle.minix_create.specs.declared.chosen.Chosen.{Chosen}
use Rattle.minix_layout.specs.View.{super_view}
use Rattle.minix_change_laws.specs.Tree.{HasTreeWith}
use Rattle.minix_choice.specs.declared.write_fault.WriteFault.{WriteFault}
use Rattle.minix_zones.specs.View.{span_view}
use Rattle.minix_zones.specs.Volume.{volume_view, past_of}
use Rattle.minix_zones.specs.declared.volume.Volume as volumes
use Rattle.slot_lists.specs.Made.{place_view}
use Rattle.slot_lists.specs.declared.slots.DiskSector.{DiskSector}
use Rattle.install_stage.specs.Blocks.{MayLieAt, block_of_sectors, sectors_of_map}

-- the bytes of a planned map: those of its sectors, in order
abbrev pub map_bytes : Machine → MapPlan → List DiskSector → List ℕ
map_bytes machine plan places = concat (sectors_of_map machine plan places)

-- ---- the room

-- What was chosen for a map may be made now at the path of `map` with `~`. It is a file without holes, of as many sectors as were
-- planned for a machine, and these are the places where they will lie.
pub record IsMapRoom {D : Type 0} {disks : Ghosts D} (volume : volumes.Volume D disks) (machine : Machine) (path : List (List ℕ))
    (chosen : Chosen) (plan : MapPlan) (places : List DiskSector) : Type 0 where
  pub may : MayMake volume (with_tilde path) chosen
  pub solid : HasNoHole chosen
  pub size : chosen.length ≡ 512 * map_size (plan_view plan) machine
  pub lies : MayLieAt machine plan places
  pub are : map place_view places
      ≡ sectors_of_blocks (span_view volume.span) chosen.choice.blocks (map_size (plan_view plan) machine)

-- the first of some places is none of the others
abbrev pub IsFirstApart : List model.DiskSector → Type 0
IsFirstApart [] = Unit {0}
IsFirstApart (place ∷ places) = IsNone place places

-- Places are sectors of zones that were chosen for a file, and the first is none of the others. These zones are data zones, and
-- free where what was promised is so.
pub record LieInChosen {D : Type 0} {disks : Ghosts D} (volume : volumes.Volume D disks) (chosen : Chosen)
    (places : List model.DiskSector) : Type 0 where
  pub own : AllByRecursion (IsChosenPlace (volume_view volume) (is_chosen chosen)) places
  pub first : IsFirstApart places
  pub zones : AreDataZones (super_view volume.layout) (is_chosen chosen)
  pub free : FreeWherePromised volume chosen

-- ---- at any moment

-- In an image Names are those of another one, or these with a file of some bytes at the path of `map` with `~`. The volume is
-- sound, what was named is so still, and stays; no sector is another that isn't one of the volume's past its block 0; and the
-- file that holds the boot sector's table does so by the same of the two names.
pub record HasMapOrNot (volume : Volume) (old : Image) (path : List (List ℕ)) (bytes : List ℕ) (c : Image) : Type 0 where
  pub names : HasOldOrNew volume old (with_tilde path) (Some (File bytes)) c
  pub files : KeepsFiles volume old c
  pub apart : (d s : ℕ) → IsApartSector volume d s → c d s ≡ old d s
  pub held : (machine : Machine) (span : Span) → IsApartSector volume span.disk span.start
      → Held old machine volume span path → Held c machine volume span path

-- ---- once it is there

-- `map~` is there, with the planned map in it, each of whose sectors lies at its place
pub record HasMap {D : Type 0} {disks : Ghosts D} (start new : volumes.Volume D disks) (machine : Machine) (path : List (List ℕ))
    (chosen : Chosen) (plan : MapPlan) (places : List DiskSector) : Type 0 where
  pub tree : HasTreeWith (volume_view start) (now (past_of start)) (now (past_of new)) (with_tilde path) (Some chosen.choice.inode)
      (Some (File (map_bytes machine plan places)))
  pub names : HasNamesBut (volume_view start) (now (past_of start)) (now (past_of new)) (with_tilde path)
      (Some (File (map_bytes machine plan places)))
  pub holds : HoldsMap (now (past_of new)) machine (volume_view start) (plan_view plan) path (map place_view places)
  pub holder : holds.holder ≡ chosen.choice.inode
  pub lies : AreAt (now (past_of new)) (map place_view places) (sectors_of_map machine plan places)

-- ---- the whole

-- Since a volume was as it is here, at a quiet moment, the map was made at that path, or this was refused. No other sector was
-- written but what a writer of files may write with the chosen zones. Whatever a stop leaves, at any moment, is as before or has
-- the whole map too; once it is done it is there.
pub record MakesMap {D : Type 0} {disks : Ghosts D} (start new : volumes.Volume D disks) (machine : Machine) (path : List (List ℕ))
    (chosen : Chosen) (plan : MapPlan) (places : List DiskSector) (result : Result (Unit {0}) WriteFault) : Type 0 where
  pub creates : Creates start new (path_above (with_tilde path)) chosen (block_of_sectors (sectors_of_map machine plan places)) result
  pub only : WritesOnly (volume_view start) (is_chosen chosen) (past_of start) (past_of new)
  pub apart : IsTold (past_of start) → (d s : ℕ) → IsApartSector (volume_view start) d s → NotWritten (past_of start) (past_of new) d s
  pub any_moment : LeavesOnly (past_of start) (past_of new)
      (HasMapOrNot (volume_view start) (now (past_of start)) path (map_bytes machine plan places))
  pub held : IsTold (past_of start) → HasMapOrNot (volume_view start) (now (past_of start)) path (map_bytes machine plan places) (now (past_of new))
  pub room : IsTold (past_of start) → LieInChosen start chosen (map place_view places)
  pub done : IsTold (past_of start) → OnOk result (HasMap start new machine path chosen plan places)
