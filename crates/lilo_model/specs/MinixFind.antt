-- Find: the inode that a path leads to, on any volume (directories and symbolic links: Minix file system; the
-- limits, the refusals and their positions are this project's own).
use Rattle.std.specs.Prelude.{ℕ, zero, suc, ◌+◌, ◌-◌, ◌*◌, ◌==◌, nat_le, min, Bool, true, false, not, ◌&&◌, ◌||◌, if◌then◌else◌, List, [], ◌∷◌, ◌++◌, length}
use Rattle.std.specs.Prelude.{take, Option, Some, None, Result, Ok, Err}
use Rattle.lilo_model.specs.Checks.{◌>>=◌, require, with_fault}
use Rattle.lilo_model.specs.Disks.{Image}
use Rattle.lilo_model.specs.MinixLayout.{Super, Inode, BadSize, FileSize, is_size}
use Rattle.lilo_model.specs.MinixParts.{Parts, Volume, ZoneFault, Layout, parts_of, is_directory, is_file, is_link, block_at, content_at}
use Rattle.lilo_model.specs.MinixEntries.{find_entry}

-- why a path leads nowhere; a position counts the components of the text that is walked, from 0
pub data TreeFault : Type 0 where
  -- there is no entry of this component's name, or the path doesn't begin with a slash
  NotFound : (position : ℕ) → TreeFault
  -- this component is looked for in what is no directory
  NotDirectory : (position : ℕ) → TreeFault
  -- what was found is no regular file
  NotFile : TreeFault
  -- a ninth link is met
  TooManyLinks : TreeFault
  -- an entry of this directory names an inode that isn't there
  BadEntry : (directory : ℕ) → TreeFault
  -- the text that is still to be walked has more than 1024 bytes
  PathTooLong : TreeFault
  -- a zone or an inode is refused
  Zone : ZoneFault → TreeFault

-- ---- components

-- a component of a path, and the text after it
pub record Component : Type 0 where
  pub name : List ℕ
  pub rest : List ℕ

-- the byte `/`
abbrev pub slash : ℕ
slash = 47

-- whether a text begins with a slash
abbrev pub begins_with_slash : List ℕ → Bool
begins_with_slash [] = false
begins_with_slash (byte ∷ text) = byte == slash

-- whether a text begins with a component
abbrev pub begins_with_name : List ℕ → Bool
begins_with_name [] = false
begins_with_name (byte ∷ text) = not (byte == slash)

-- components, the first of them with one byte more
abbrev pub with_byte : ℕ → List Component → List Component
with_byte byte [] = []
with_byte byte (first ∷ others) = record { name = byte ∷ first.name; rest = first.rest } ∷ others

-- a component of one byte
abbrev pub one_byte : ℕ → List ℕ → Component
one_byte byte text = record { name = byte ∷ []; rest = text }

-- the components of a text, the slashes between them not counted
unfoldable pub components : List ℕ → List Component
components [] = []
components (byte ∷ text) =
    if byte == slash then components text else
    if begins_with_name text then with_byte byte (components text) else
    one_byte byte text ∷ components text

-- ---- the walk

-- where a walk ends
pub data Walked : Type 0 where
  -- at an inode
  Ends : (inode : ℕ) → Walked
  -- at a link in a directory, with the text after it
  Meets : (directory link : ℕ) (rest : List ℕ) → Walked

-- an inode, where its size is one of its kind
abbrev pub readable : Super → Parts → ℕ → Result ℕ TreeFault
readable super parts number = do
  a ← require (is_size super.kind (parts.node number).size) (Zone (Layout (BadSize FileSize)))
  Ok number

-- what was found for a component
abbrev pub found_at : ℕ → Option ℕ → Result ℕ TreeFault
found_at position None = Err (NotFound position)
found_at position (Some inode) = Ok inode

-- the inode of a component in a directory
unfoldable pub child : Super → Parts → ℕ → ℕ → List ℕ → Result ℕ TreeFault
child super parts directory position name = do
  a ← require (is_directory (parts.node directory)) (NotDirectory position)
  found ← with_fault Zone (find_entry super parts (parts.node directory) name)
  inode ← found_at position found
  b ← require (nat_le inode super.inodes) (BadEntry directory)
  readable super parts inode

-- whether there is none
abbrev pub is_last : List Component → Bool
is_last [] = true
is_last (next ∷ others) = false

-- the walk from a directory along components, up to the first link that is to be followed: each, or each but
-- one in the last component
abbrev pub walk : Super → Parts → Bool → ℕ → ℕ → List Component → Result Walked TreeFault
walk super parts follows_last directory position [] = Ok (Ends directory)
walk super parts follows_last directory position (component ∷ others) =
    child super parts directory position component.name
    >>= λ inode.
    if is_link (parts.node inode) && (follows_last || not (is_last others))
    then Ok (Meets directory inode component.rest)
    else walk super parts follows_last inode (position + 1) others

-- ---- links

-- the most bytes of a text that is walked
abbrev pub text_limit : ℕ
text_limit = 1024

-- the most links that are replaced by their texts
abbrev pub link_limit : ℕ
link_limit = 8

-- the end of a walk, where a link is one too many
abbrev pub end_of : Walked → Result ℕ TreeFault
end_of (Ends inode) = Ok inode
end_of (Meets directory link rest) = Err TooManyLinks

-- the end of a walk, where the text of a link is walked before the text after it: from the root where it
-- begins with a slash, else from the directory that has the link
abbrev pub through_link : Super → Parts → (ℕ → List ℕ → Result ℕ TreeFault) → Walked → Result ℕ TreeFault
through_link super parts find (Ends inode) = Ok inode
through_link super parts find (Meets directory link rest) = do
  a ← require (nat_le ((parts.node link).size + length rest) text_limit) PathTooLong
  text ← with_fault Zone (content_at super parts (parts.node link))
  find (if begins_with_slash text then 1 else directory) (text ++ rest)

-- the inode that a text leads to from a directory, with so many links at most
abbrev pub find_through : Super → Parts → Bool → ℕ → ℕ → List ℕ → Result ℕ TreeFault
find_through super parts follows_last zero directory text =
    walk super parts follows_last directory 0 (components text) >>= end_of
find_through super parts follows_last (suc more) directory text =
    walk super parts follows_last directory 0 (components text)
    >>= through_link super parts (find_through super parts follows_last more)

-- the inode that a path leads to
unfoldable pub find_path : Super → Parts → Bool → List ℕ → Result ℕ TreeFault
find_path super parts follows_last path = do
  a ← require (begins_with_slash path) (NotFound 0)
  b ← require (nat_le (length path) text_limit) PathTooLong
  c ← readable super parts 1
  find_through super parts follows_last link_limit 1 path

-- Find: links are followed everywhere
abbrev pub find : Super → Parts → List ℕ → Result ℕ TreeFault
find super parts path = find_path super parts true path

-- the same, but a link in the last component isn't followed
abbrev pub find_name : Super → Parts → List ℕ → Result ℕ TreeFault
find_name super parts path = find_path super parts false path

-- ---- files

-- how many bytes of a file a block has
abbrev pub bytes_in_block : ℕ → ℕ → ℕ
bytes_in_block size index = min 1024 (size - 1024 * index)

-- the first bytes of a block; where none are wanted, no zone is followed
abbrev pub first_of_block : Super → Parts → Inode → ℕ → ℕ → Result (List ℕ) TreeFault
first_of_block super parts inode index zero = Ok []
first_of_block super parts inode index (suc count) =
    with_fault Zone (block_at super parts inode index) >>= λ block. Ok (take (suc count) block)

-- the bytes of a regular file in a block, none after its end
unfoldable pub file_block : Super → Parts → Inode → ℕ → Result (List ℕ) TreeFault
file_block super parts inode index = do
  a ← require (is_file inode) NotFile
  first_of_block super parts inode index (bytes_in_block inode.size index)

-- the bytes of the regular file that a path leads to
unfoldable pub file_at : Super → Parts → List ℕ → Result (List ℕ) TreeFault
file_at super parts path = do
  inode ← find super parts path
  a ← require (is_file (parts.node inode)) NotFile
  with_fault Zone (content_at super parts (parts.node inode))

-- the inode that a path leads to in a volume of an image
abbrev pub find_in : Image → Volume → List ℕ → Result ℕ TreeFault
find_in image volume path = find volume.layout (parts_of volume image) path
