-- Names and Sound: what a sound Minix volume says (Minix file system; what counts as sound, and the limit on
-- the depth, are this project's own). A path is a list of components, the last one first.
use Rattle.std.specs.Prelude.{◌≡◌, ◌≢◌, ◌<◌, ◌≤◌, ℕ, zero, suc, ◌*◌, ◌/◌, ◌%◌, true, not, ◌&&◌, if◌then◌else◌, List, [], ◌∷◌, ◌++◌, length, take, option_map}
use Rattle.std.specs.Prelude.{Option, Some, None, Ok}
use Rattle.std.specs.Option.{option_or}
use Rattle.lilo_model.specs.Disks.{Image}
use Rattle.lilo_model.specs.MinixLayout.{Super, is_size, super_at, super_sector}
use Rattle.lilo_model.specs.MinixParts.{Parts, Volume, Pointer, IsPointer, sector_of, parts_of, is_directory, is_file, is_link, has_zones, zone_at_pointer}
use Rattle.lilo_model.specs.MinixParts.{block_pointer, zone_bytes, blocks_for}
use Rattle.lilo_model.specs.MinixEntries.{Entry, entry_with, entry_in, entries_per_block, places, named_inode, here_name, above_name, is_dots}

-- ---- blocks, contents and entries by an inode's number, where no zone is refused

-- the number at a pointer
abbrev pub pointer : Super → Parts → ℕ → Pointer → ℕ
pointer super parts number at = zone_at_pointer super parts (parts.node number) at

-- the zone of a block, 0 for a hole
unfoldable pub zone_number : Super → Parts → ℕ → ℕ → ℕ
zone_number super parts number index = pointer super parts number (block_pointer super.kind index)

-- the bytes of a block
unfoldable pub block : Super → Parts → ℕ → ℕ → List ℕ
block super parts number index = zone_bytes parts (zone_number super parts number index)

-- the bytes of the first blocks
abbrev pub blocks : (ℕ → List ℕ) → ℕ → List ℕ
blocks at zero = []
blocks at (suc count) = blocks at count ++ at count

-- the content
unfoldable pub content : Super → Parts → ℕ → List ℕ
content super parts number =
    take (parts.node number).size (blocks (block super parts number) (blocks_for (parts.node number).size))

-- the entry at a place
unfoldable pub entry : Super → Parts → ℕ → ℕ → Entry
entry super parts number place =
    entry_in super.kind (block super parts number (place / entries_per_block super.kind)) (place % entries_per_block super.kind)

-- the inode of the first entry of a name at the places below a number
unfoldable pub first_named : (ℕ → Entry) → List ℕ → ℕ → Option ℕ
first_named at name zero = None
first_named at name (suc place) = option_or (first_named at name place) (named_inode name (at place))

-- the inode of a name in a directory; `.` and `..` are no names
unfoldable pub lookup : Super → Parts → List ℕ → ℕ → Option ℕ
lookup super parts name directory =
    if is_directory (parts.node directory) && not (is_dots name)
    then first_named (entry super parts directory) name (places super.kind (parts.node directory).size)
    else None

-- ---- names

-- the inode that a name leads to from what a path led to
abbrev pub then_lookup : Super → Parts → List ℕ → Option ℕ → Option ℕ
then_lookup super parts name None = None
then_lookup super parts name (Some directory) = lookup super parts name directory

-- the inode that a path leads to from the root; no link is followed
unfoldable pub reached : Super → Parts → List (List ℕ) → Option ℕ
reached super parts [] = Some 1
reached super parts (name ∷ path) = then_lookup super parts name (reached super parts path)

-- what has a name
pub data Thing : Type 0 where
  File : (bytes : List ℕ) → Thing
  -- a symbolic link with its text
  Link : (text : List ℕ) → Thing
  Directory : Thing
  Other : Thing

-- what an inode is
unfoldable pub thing : Super → Parts → ℕ → Thing
thing super parts number =
    if is_file (parts.node number) then File (content super parts number) else
    if is_link (parts.node number) then Link (content super parts number) else
    if is_directory (parts.node number) then Directory else
    Other

-- Names: what each path leads to
unfoldable pub names : Super → Parts → List (List ℕ) → Option Thing
names super parts path = option_map (thing super parts) (reached super parts path)

-- Names of a volume in an image
unfoldable pub names_in : Volume → Image → List (List ℕ) → Option Thing
names_in volume image path = names volume.layout (parts_of volume image) path

-- ---- what Sound is said of

-- an inode is the root, or has a name
pub record Named (super : Super) (parts : Parts) (number : ℕ) : Type 0 where
  pub path : List (List ℕ)
  pub leads : reached super parts path ≡ Some number

-- an inode's pointer has the number of a zone
pub record PointsTo (super : Super) (parts : Parts) (number : ℕ) (at : Pointer) (zone : ℕ) : Type 0 where
  pub kind : has_zones (parts.node number) ≡ true
  pub place : IsPointer super.kind at
  pub is : pointer super parts number at ≡ zone
  pub some : zone ≢ 0

-- a named inode refers to a zone
pub record Refers (super : Super) (parts : Parts) (number : ℕ) (at : Pointer) (zone : ℕ) : Type 0 where
  pub named : Named super parts number
  pub to : PointsTo super parts number at zone

-- a directory has an entry at a place
pub record HasEntry (super : Super) (parts : Parts) (directory place : ℕ) (what : Entry) : Type 0 where
  pub below : place < places super.kind (parts.node directory).size
  pub is : entry super parts directory place ≡ what

-- a directory has an entry
abbrev pub HasSomeEntry : Super → Parts → ℕ → Entry → Type 0
HasSomeEntry super parts directory what = (place : ℕ) × HasEntry super parts directory place what

-- each of some paths leads to an inode
abbrev pub AllLead : Super → Parts → ℕ → List (List (List ℕ)) → Type 0
AllLead super parts number [] = Unit {0}
AllLead super parts number (path ∷ paths) = (reached super parts path ≡ Some number) × AllLead super parts number paths

-- a path isn't among some
abbrev pub IsNew : List (List ℕ) → List (List (List ℕ)) → Type 0
IsNew path [] = Unit {0}
IsNew path (other ∷ others) = (path ≢ other) × IsNew path others

-- no two of some paths are the same
abbrev pub AreDistinct : List (List (List ℕ)) → Type 0
AreDistinct [] = Unit {0}
AreDistinct (path ∷ paths) = IsNew path paths × AreDistinct paths

-- directories are nested below at most so many others, the root counted
abbrev pub depth_limit : ℕ
depth_limit = 64

-- ---- Sound

-- the parts of a volume are sound; bitmap bits that are set without a use are allowed
pub record Sound (super : Super) (parts : Parts) : Type 0 where
  pub root : is_directory (parts.node 1) ≡ true
  pub in_range : (number : ℕ) → Named super parts number → (0 < number) × (number ≤ super.inodes)
  pub marked : (number : ℕ) → Named super parts number → parts.has_inode number ≡ true
  pub mode : (number : ℕ) → Named super parts number → (parts.node number).mode ≢ 0
  pub size : (number : ℕ) → Named super parts number → is_size super.kind (parts.node number).size ≡ true
  pub zone_range : (number : ℕ) (at : Pointer) (zone : ℕ) → Refers super parts number at zone → (super.first ≤ zone) × (zone < super.zones)
  pub zone_marked : (number : ℕ) (at : Pointer) (zone : ℕ) → Refers super parts number at zone → parts.has_zone zone ≡ true
  -- a zone is referred to once
  pub once : (number other : ℕ) (at there : Pointer) (zone : ℕ) → Refers super parts number at zone
      → Refers super parts other there zone → (number ≡ other) × (at ≡ there)
  -- a directory is reached by one path; the root thus has no name
  pub one_name : (number : ℕ) (path other : List (List ℕ)) → is_directory (parts.node number) ≡ true
      → reached super parts path ≡ Some number → reached super parts other ≡ Some number → path ≡ other
  -- no name appears twice in a directory
  pub no_twice : (directory place other inode inode' : ℕ) (name : List ℕ) → Named super parts directory
      → is_directory (parts.node directory) ≡ true → inode ≢ 0 → inode' ≢ 0
      → HasEntry super parts directory place (entry_with inode name)
      → HasEntry super parts directory other (entry_with inode' name) → place ≡ other
  -- `.` is there and right
  pub here : (directory : ℕ) → Named super parts directory → is_directory (parts.node directory) ≡ true
      → HasSomeEntry super parts directory (entry_with directory here_name)
  -- and `..`, in the root and in each other directory
  pub root_above : HasSomeEntry super parts 1 (entry_with 1 above_name)
  pub above : (directory outer : ℕ) (name : List ℕ) (path : List (List ℕ))
      → reached super parts (name ∷ path) ≡ Some directory → reached super parts path ≡ Some outer
      → is_directory (parts.node directory) ≡ true
      → HasSomeEntry super parts directory (entry_with outer above_name)
  pub depth : (directory : ℕ) (path : List (List ℕ)) → reached super parts path ≡ Some directory
      → is_directory (parts.node directory) ≡ true → length path ≤ depth_limit
  -- at least as many links as names; the root has no name
  pub links : (number : ℕ) (paths : List (List (List ℕ))) → number ≢ 1 → AreDistinct paths
      → AllLead super parts number paths → (length paths ≤ (parts.node number).links)

-- an image has a sound volume
pub record HasSound (volume : Volume) (image : Image) : Type 0 where
  -- its superblock is in block 1
  pub super : super_at (sector_of volume image super_sector) volume.span.count ≡ Ok volume.layout
  -- each of its sectors is there
  pub whole : (sector : ℕ) → sector < 2 * volume.layout.zones → length (sector_of volume image sector) ≡ 512
  pub parts : Sound volume.layout (parts_of volume image)

-- the same, as a definition that stays closed
unfoldable pub IsSound : Volume → Image → Type 0
IsSound volume image = HasSound volume image
