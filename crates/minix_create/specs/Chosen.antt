-- What is chosen for a file (a rule of this project's own). A file's blocks and its sectors are counted from 0.
use Rattle.std.specs.Prelude.{◌≡◌, ◌≢◌, ◌≤◌, ◌<◌, ◌+◌, ◌*◌, ◌/◌, ◌%◌, ◌==◌, ◌^◌, ◌⊎◌, ℕ, true, false, Bool, if◌then◌else◌, List, [], Some, length, take}
use Rattle.std.specs.Prelude.{replicate, slice_index, slice_index_or, All}
use Rattle.disk_trait.specs.declared.disks.Disks.{Ghosts}
use Rattle.disk_trait.specs.declared.disks.Span.{Span}
use Rattle.disk_trait.specs.Moments.{IsTold, now}
use Rattle.lilo_model.specs.MinixEntries.{entry_with, entry_in, here_name, above_name}
use Rattle.lilo_model.specs.MinixLayout.{Kind, Inode, entry_size, is_size, reach}
use Rattle.lilo_model.specs.MinixNames.{Thing, File, Link, Directory, Other, blocks, reached, depth_limit, IsSound}
use Rattle.lilo_model.specs.MinixParts.{blocks_for, is_directory, is_file, is_link}
use Rattle.minix_choice_laws.specs.Choice.{file_of, MayHavePlace}
use Rattle.minix_choice_laws.specs.Growth.{ArePromised}
use Rattle.minix_change_laws.specs.Written.{FitsEntry}
use Rattle.minix_fill.specs.Fill.{IsOfFile}
use Rattle.minix_choice_laws.specs.FillLaws.{MayBeFile}
use Rattle.minix_choice_laws.specs.Sources.{Source, zone_from}
use Rattle.minix_layout.specs.View.{kind_view, super_view}
use Rattle.minix_layout.specs.declared.superblock.Super.{Super}
use Rattle.minix_steps.specs.Written.{parts_now}
use Rattle.minix_choice.specs.Suits.{IsFileOf}
use Rattle.minix_choice.specs.declared.wish.Wish.{Wish}
use Rattle.minix_zones.specs.View.{IsDataZone}
use Rattle.minix_zones.specs.Volume.{volume_view, past_of}
use Rattle.minix_zones.specs.declared.volume.Volume.{Volume}
use Rattle.write_model.specs.Places.{is_overlooked}
use Rattle.write_model.specs.Choice.{Choice}
use Rattle.write_model.specs.Wish.{Taken}
use Rattle.minix_create.specs.Grown.{MayGrowNow}
use Rattle.minix_create.specs.declared.chosen.Chosen.{Chosen}

-- it is made for a wish
pub record IsMade (wish : Wish) (chosen : Chosen) : Type 0 where
  pub mode : chosen.mode ≡ wish.mode
  pub size : chosen.length ≡ wish.length
  pub time : chosen.time ≡ wish.time
  pub directory : chosen.directory ≡ wish.directory
  pub name : chosen.name ≡ wish.name.now

-- it suits a volume with a superblock in a span, whatever the disks hold
pub record Suits (layout : Super) (span : Span) (chosen : Chosen) : Type 0 where
  pub name : FitsEntry (kind_view layout.kind) chosen.name
  pub sized : is_size (kind_view layout.kind) chosen.length ≡ true
  pub small : chosen.length < 2 ^ 32
  pub in_some : 1 ≤ chosen.directory
  pub in_there : chosen.directory ≤ layout.inodes
  pub some : 1 ≤ chosen.choice.inode
  pub there : chosen.choice.inode ≤ layout.inodes
  pub are_data : All (IsDataZone layout) chosen.choice.zones
  -- each of its blocks gets a zone or is a hole
  pub made : List Bool
  pub many : length made ≡ blocks_for chosen.length
  pub file : IsFileOf (kind_view layout.kind) made chosen.choice
  pub begins : chosen.start ≡ span.start

-- each block of a file that is wished without holes gets a zone
abbrev pub HasEachZone : {D : Type 0} {disks : Ghosts D} → Volume D disks → Wish → Chosen → Type 0
HasEachZone volume wish chosen =
    IsTold (past_of volume) → wish.holes.now ≡ [] → (index : ℕ) → index < blocks_for chosen.length → slice_index chosen.choice.blocks index ≢ 0

-- in which sector of the disk a sector of the file will lie
abbrev pub sector_of : Chosen → ℕ → ℕ
sector_of chosen index = chosen.start + 2 * slice_index chosen.choice.blocks (index / 2) + index % 2

-- the zones by which the directory grows are none of the file's
abbrev pub IsClearGrowth : Choice → Type 0
IsClearGrowth choice =
    (source : Source) (level : ℕ) → zone_from (file_of choice) source ≢ 0 → level < length choice.growth
    → slice_index choice.growth level ≢ zone_from (file_of choice) source

-- What is chosen is free now on a sound volume, and may be a file. The directory has a name and may grow by what was chosen:
-- its growth is still to be made, or was made before.
pub record IsFreeNow {D : Type 0} {disks : Ghosts D} (volume : Volume D disks) (chosen : Chosen) : Type 0 where
  pub sound : IsSound (volume_view volume) (now (past_of volume))
  pub file : MayBeFile (kind_view volume.layout.kind) (file_of chosen.choice)
  pub inode : (parts_now volume).has_inode chosen.choice.inode ≡ false
  pub zones : (i : ℕ) → i < length chosen.choice.zones → (parts_now volume).has_zone (slice_index chosen.choice.zones i) ≡ false
  pub grows : MayGrowNow volume chosen
  pub clear : IsClearGrowth chosen.choice

-- its name may be made now in the directory that a path leads to, once its place lies below the size and in a zone
abbrev pub MayLinkNow : {D : Type 0} {disks : Ghosts D} → Volume D disks → List (List ℕ) → Chosen → Type 0
MayLinkNow volume outer chosen = MayHavePlace (volume_view volume) (now (past_of volume)) outer chosen.directory chosen.choice.place chosen.name

-- a path leads to its directory, the name isn't overlooked there, and what was promised before is free
pub record IsPromisedNow {D : Type 0} {disks : Ghosts D} (volume : Volume D disks) (taken : Taken) (outer : List (List ℕ)) (chosen : Chosen) : Type 0 where
  pub sound : IsSound (volume_view volume) (now (past_of volume))
  pub leads : reached (super_view volume.layout) (parts_now volume) outer ≡ Some chosen.directory
  pub is : is_directory ((parts_now volume).node chosen.directory) ≡ true
  pub reached : blocks_for ((parts_now volume).node chosen.directory).size ≤ reach (kind_view volume.layout.kind)
  pub seen : is_overlooked taken.overlooked chosen.directory chosen.name ≡ false
  pub promised : ArePromised (super_view volume.layout) (parts_now volume) taken

-- then it is free, and its name may be made there
abbrev pub IsFreeWhereSound : {D : Type 0} {disks : Ghosts D} → Volume D disks → Taken → Chosen → Type 0
IsFreeWhereSound volume taken chosen =
    (outer : List (List ℕ)) → IsTold (past_of volume) → IsPromisedNow volume taken outer chosen → IsFreeNow volume chosen

abbrev pub LinksWhereSound : {D : Type 0} {disks : Ghosts D} → Volume D disks → Taken → Chosen → Type 0
LinksWhereSound volume taken chosen =
    (outer : List (List ℕ)) → IsTold (past_of volume) → IsPromisedNow volume taken outer chosen → MayLinkNow volume outer chosen

-- ---- content

-- the bytes of a block, zeros in a hole
abbrev pub block_with : List ℕ → (ℕ → List ℕ) → ℕ → List ℕ
block_with zones given index = if slice_index zones index == 0 then replicate 1024 0 else given index

-- the content of a file whose blocks are given: zeros in holes, cut at its length
abbrev pub content_with : Chosen → (ℕ → List ℕ) → List ℕ
content_with chosen given = take chosen.length (blocks (block_with chosen.choice.blocks given) (blocks_for chosen.length))

-- the inode of a new file, without its zones: a directory has a name of its own
abbrev pub new_inode : Chosen → Inode
new_inode chosen = record {
  mode = chosen.mode;
  links = if chosen.mode / 4096 == 4 then 2 else 1;
  uid = 0;
  gid = 0;
  size = chosen.length;
  times = replicate 3 chosen.time;
  zones = replicate 10 0;
}

-- an inode is that of a new file, whatever zones it has
abbrev pub IsNewInode : Chosen → Inode → Type 0
IsNewInode chosen inode = inode ≡ record (new_inode chosen) { zones = inode.zones }

-- what a file is whose blocks are given
abbrev pub thing_with : Chosen → (ℕ → List ℕ) → Thing
thing_with chosen given =
    if is_file (new_inode chosen) then File (content_with chosen given) else
    if is_link (new_inode chosen) then Link (content_with chosen given) else
    if is_directory (new_inode chosen) then Directory else
    Other

-- from one block on, the first that gets a zone, or how many blocks there are
pub record IsNextBlock (zones : List ℕ) (from next : ℕ) : Type 0 where
  pub from_on : from ≤ next
  pub there : next ≤ length zones
  pub some : next < length zones → slice_index zones next ≢ 0
  pub holes : (at : ℕ) → from ≤ at → at < next → slice_index zones at ≡ 0

-- a block of some
abbrev pub block_of : List (List ℕ) → ℕ → List ℕ
block_of given index = slice_index_or given index []

-- ---- what may be made

-- the bytes of a block begin with the entries of `.` and `..` in a directory
pub record HasDots (kind : Kind) (bytes : List ℕ) (number directory : ℕ) : Type 0 where
  pub here : entry_in kind bytes 0 ≡ entry_with number here_name
  pub above : entry_in kind bytes 1 ≡ entry_with directory above_name

-- it is that of a directory with these two entries
pub record IsOfDirectory (kind : Kind) (chosen : Chosen) (given : ℕ → List ℕ) : Type 0 where
  pub is : is_directory (new_inode chosen) ≡ true
  pub two : chosen.length ≡ 2 * entry_size kind
  pub dots : HasDots kind (block_with chosen.choice.blocks given 0) chosen.choice.inode chosen.directory

-- what is chosen and the blocks that are given are those of a file, or of a directory with nothing in it but `.` and `..`
abbrev pub MayBeMade : Kind → Chosen → (ℕ → List ℕ) → Type 0
MayBeMade kind chosen given = IsOfFile (new_inode chosen) ⊎ IsOfDirectory kind chosen given

-- a directory isn't nested too deep in the one that a path leads to
abbrev pub MayNest : List (List ℕ) → Chosen → Type 0
MayNest outer chosen = is_directory (new_inode chosen) ≡ true → length outer < depth_limit
