-- The checks of the commands that change a volume that is there, in order, of which the first refusal decides. They speak
-- of what the disks hold, and read no device. (This project's own; the volume: Minix file system.) A path is a list of
-- components, the last one first.
use Rattle.std.specs.Prelude.{ℕ, zero, suc, ◌*◌, nat_le, Bool, true, false, ◌&&◌, if◌then◌else◌, is_none, List, [], ◌∷◌, ◌++◌, length, take, drop, replicate}
use Rattle.std.specs.Prelude.{bytes_eq, Option, Some, None, Result, Ok, Err}
use Rattle.lilo_model.specs.Checks.{◌>>=◌, require, with_fault}
use Rattle.lilo_model.specs.Devices.{Device}
use Rattle.lilo_model.specs.Disks.{Image, Machine, Span}
use Rattle.lilo_model.specs.LdiskVerdict.{Refusal, room_of}
use Rattle.lilo_model.specs.MinixFind.{TreeFault, NotFile}
use Rattle.lilo_model.specs.MinixLayout.{Kind, entry_size}
use Rattle.lilo_model.specs.MinixNames.{Thing, File, Link, Directory, Other, reached, names_in, depth_limit}
use Rattle.lilo_model.specs.MinixParts.{ZoneFault, Volume, parts_of, volume_at, blocks_for}
use Rattle.lilo_model.specs.MinixSurvey.{SurveyFault, survey}
use Rattle.lilo_model.specs.NamePlaces.{name_path, plain_path}
use Rattle.write_model.specs.Choice.{Choice, choose_blocks}
use Rattle.write_model.specs.FileZones.{data_blocks}
use Rattle.write_model.specs.Wish as wishes
use Rattle.write_model.specs.Wish.{Taken}
use Rattle.ldisk_model.specs.Waste.{Freed, freed_by}

-- why no name is changed, and nothing is freed
pub data FileRefusal : Type 0 where
  -- disk 0, the device or room for a volume isn't there
  NoRoom : Refusal → FileRefusal
  -- there is no volume
  NoVolume : ZoneFault → FileRefusal
  -- something is wrong with the volume
  NotSound : SurveyFault → FileRefusal
  -- the text before the path's last component leads to no directory, or the path has no component
  NoPlace : TreeFault → FileRefusal
  -- nothing is at the path, or what is there is neither a regular file nor a symbolic link
  NoFile : FileRefusal
  -- something is at the path already
  IsThere : FileRefusal
  -- a new directory would be nested too deep
  TooDeep : FileRefusal
  -- a link's target has no byte, or too many
  BadTarget : FileRefusal
  -- too many bytes are given for a file
  TooLong : FileRefusal
  -- inodes, zones or the length of names don't suffice
  NoSpace : wishes.Refusal → FileRefusal

-- the exit status that reports why nothing could be chosen; on a sound volume where nothing is at the name it is 5
abbrev pub space_status : wishes.Refusal → ℕ
space_status wishes.NameTooLong = 5
space_status wishes.Exists = 3
space_status wishes.NoInode = 5
space_status (wishes.NoSpace need found) = 5
space_status (wishes.Tree fault) = 3

-- the exit status that reports a refusal
abbrev pub file_status : FileRefusal → ℕ
file_status (NoRoom refusal) = 3
file_status (NoVolume fault) = 3
file_status (NotSound fault) = 3
file_status (NoPlace fault) = 3
file_status NoFile = 3
file_status IsThere = 3
file_status TooDeep = 3
file_status BadTarget = 4
file_status TooLong = 4
file_status (NoSpace refusal) = space_status refusal

-- the status of what was checked
abbrev pub checked_status : {A : Type 0} → Result A FileRefusal → ℕ
checked_status (Ok value) = 0
checked_status (Err refusal) = file_status refusal

-- a check of a volume after its survey
abbrev pub sound_check : {A : Type 0} → (Volume → Image → Result A FileRefusal) → Volume → Image → Result A FileRefusal
sound_check check volume now = with_fault NotSound (survey volume.layout (parts_of volume now)) >>= λ met. check volume now

-- the same of the volume in a span
unfoldable pub volume_check : {A : Type 0} → (Volume → Image → Result A FileRefusal) → Image → Span → Result A FileRefusal
volume_check check now span = with_fault NoVolume (volume_at now span) >>= λ volume. sound_check check volume now

-- the same of a device
unfoldable pub device_check : {A : Type 0} → (Volume → Image → Result A FileRefusal) → Image → Machine → Device → Result A FileRefusal
device_check check now machine device = with_fault NoRoom (room_of now machine device) >>= λ span. volume_check check now span

-- ---- rm

-- whether there is a regular file or a symbolic link
abbrev pub is_removable_thing : Option Thing → Bool
is_removable_thing (Some (File bytes)) = true
is_removable_thing (Some (Link text)) = true
is_removable_thing (Some Directory) = false
is_removable_thing (Some Other) = false
is_removable_thing None = false

-- the path of the name that goes
abbrev pub gone_check : List ℕ → Volume → Image → Result (List (List ℕ)) FileRefusal
gone_check path volume now =
    with_fault NoPlace (name_path (names_in volume now) path)
    >>= λ gone. require (is_removable_thing (names_in volume now gone)) NoFile
    >>= λ kind. Ok gone

-- ---- mkdir, ln and put

-- what is made at a path
pub data Making : Type 0 where
  NewDirectory : Making
  NewLink : (target : List ℕ) → Making
  NewFile : (bytes : List ℕ) → Making

-- what the path leads to then
abbrev pub thing_made : Making → Thing
thing_made NewDirectory = Directory
thing_made (NewLink target) = Link target
thing_made (NewFile bytes) = File bytes

-- a link's target has so many bytes at most
abbrev pub most_target : ℕ
most_target = 1023

-- whether it may be one
abbrev pub is_target : List ℕ → Bool
is_target target = nat_le 1 (length target) && nat_le (length target) most_target

-- a file of so many bytes at most is stored
abbrev pub most_stored : ℕ
most_stored = 67108864

-- it may be made by this name, whatever room there is
abbrev pub making_check : Making → List (List ℕ) → Result (Unit {0}) FileRefusal
making_check NewDirectory new = require (nat_le (length new) depth_limit) TooDeep
making_check (NewLink target) new = require (is_target target) BadTarget
making_check (NewFile bytes) new = require (nat_le (length bytes) most_stored) TooLong

-- a block of 1024 zero bytes; one that has fewer is none
abbrev pub is_zero_block : List ℕ → Bool
is_zero_block block = bytes_eq block (replicate 1024 0)

-- a block of some bytes
abbrev pub stored_block : List ℕ → ℕ → List ℕ
stored_block bytes index = take 1024 (drop (1024 * index) bytes)

-- of the first blocks those that get no zone
unfoldable pub zero_blocks : List ℕ → ℕ → List ℕ
zero_blocks bytes zero = []
zero_blocks bytes (suc count) = if is_zero_block (stored_block bytes count) then zero_blocks bytes count ++ count ∷ [] else zero_blocks bytes count

-- how many bytes it has on a volume, and which of its blocks get no zone
pub record Size : Type 0 where
  pub bytes : ℕ
  pub holes : List ℕ

abbrev pub size_made : Kind → Making → Size
size_made kind NewDirectory = record { bytes = 2 * entry_size kind; holes = [] }
size_made kind (NewLink target) = record { bytes = length target; holes = [] }
size_made kind (NewFile bytes) = record { bytes = length bytes; holes = zero_blocks bytes (blocks_for (length bytes)) }

-- nothing was promised before
abbrev pub nothing_taken : Taken
nothing_taken = record { has_zone = λ zone. false; has_inode = λ inode. false; promises = []; overlooked = [] }

-- what is chosen for a name in a directory, where there is one
abbrev pub chosen_in : Volume → Image → Size → List ℕ → Option ℕ → Result Choice FileRefusal
chosen_in volume now size name None = Err (NoPlace NotFile)
chosen_in volume now size name (Some directory) =
    with_fault NoSpace (choose_blocks volume.layout (parts_of volume now) nothing_taken directory name (data_blocks size.bytes size.holes))

-- the same for a path
abbrev pub chosen_at : Volume → Image → Size → List (List ℕ) → Result Choice FileRefusal
chosen_at volume now size [] = Err (NoPlace NotFile)
chosen_at volume now size (name ∷ outer) = chosen_in volume now size name (reached volume.layout (parts_of volume now) outer)

-- the path of a new name, at which nothing is
abbrev pub new_check : List ℕ → Volume → Image → Result (List (List ℕ)) FileRefusal
new_check path volume now =
    with_fault NoPlace (name_path (names_in volume now) path)
    >>= λ new. require (is_none (names_in volume now (plain_path new))) IsThere
    >>= λ free. Ok new

-- what is made may have it, and there is room
abbrev pub room_check : Making → Volume → Image → List (List ℕ) → Result (List (List ℕ)) FileRefusal
room_check making volume now new =
    making_check making new
    >>= λ fits. chosen_at volume now (size_made volume.layout.kind making) new
    >>= λ choice. Ok new

-- all of these checks
abbrev pub made_check : Making → List ℕ → Volume → Image → Result (List (List ℕ)) FileRefusal
made_check making path volume now = new_check path volume now >>= λ new. room_check making volume now new

-- ---- reclaim

-- how much of a volume is freed, once a survey found it sound
abbrev pub freed_check : Volume → Image → Result Freed FileRefusal
freed_check volume now =
    with_fault NotSound (survey volume.layout (parts_of volume now))
    >>= λ met. Ok (freed_by volume.layout (parts_of volume now) met)

-- the same of the volume in a span
unfoldable pub freed_at : Image → Span → Result Freed FileRefusal
freed_at now span = with_fault NoVolume (volume_at now span) >>= λ volume. freed_check volume now

-- the same of a device
unfoldable pub reclaim_check : Image → Machine → Device → Result Freed FileRefusal
reclaim_check now machine device = with_fault NoRoom (room_of now machine device) >>= λ span. freed_at now span

-- ---- names

-- a name that a command changes: the text of its path on a device, and what it leads to then, if anything
pub record NameChange : Type 0 where
  pub device : Device
  pub path : List ℕ
  pub what : Option Thing

-- what `rm` changes
abbrev pub removal : Device → List ℕ → NameChange
removal device path = record { device = device; path = path; what = None }

-- what is made
abbrev pub addition : Device → List ℕ → Making → NameChange
addition device path making = record { device = device; path = path; what = Some (thing_made making) }
