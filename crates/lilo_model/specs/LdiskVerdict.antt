-- What `ldisk` answers and prints, as if nothing failed: for each command a list of checks in order, of which the first
-- refusal decides, and then pieces of text, up to the first that is refused. They speak of what the disks hold, and read
-- no device. (This project's own; the volume: Minix file system.)
use Rattle.std.specs.Prelude.{ℕ, zero, suc, ◌==◌, nat_le, Bool, not, ◌||◌, if◌then◌else◌, List, [], ◌∷◌, ◌++◌, codes, decimal, Result, Ok, Err}
use Rattle.lilo_model.specs.Checks.{◌>>=◌, require, with_fault}
use Rattle.lilo_model.specs.Devices.{Device}
use Rattle.lilo_model.specs.Disks.{Image, Machine, Span}
use Rattle.lilo_model.specs.Partitions.{TableFault, span_of}
use Rattle.lilo_model.specs.MinixLayout.{Super, Inode}
use Rattle.lilo_model.specs.MinixParts.{Parts, Volume, ZoneFault, parts_of, volume_at, is_directory, is_file, is_link, blocks_for}
use Rattle.lilo_model.specs.MinixEntries.{Entry, entry_at, places, is_dots}
use Rattle.lilo_model.specs.MinixFind.{TreeFault, Zone, find, readable, file_block}
use Rattle.lilo_model.specs.Verdict.{Verdict, verdict_behind}
use Rattle.lilo_model.specs.LdiskWords.{Command, Get, Ls, device_of}

-- why a command is refused
pub data Refusal : Type 0 where
  -- disk 0 isn't there
  NoDisk : Refusal
  -- the device can't be found
  NoPlace : TableFault → Refusal
  -- the device has no room for a superblock
  TooSmall : Refusal
  -- there is no volume
  NoVolume : ZoneFault → Refusal
  -- the path leads nowhere, or an inode or a zone is refused
  NoPath : TreeFault → Refusal
  -- what is there is no file for `get`, or no directory for `ls`
  WrongKind : Refusal
  -- an entry names an inode that isn't there
  NoInode : (number : ℕ) → Refusal

-- ---- verdicts

-- a command that answers this, and prints nothing
abbrev pub silent : ℕ → Verdict
silent status = record { status = status; text = [] }

-- what is checked decides, or else what comes after it
abbrev pub checked : {A F : Type 0} → Result A F → (A → Verdict) → Verdict
checked (Ok value) next = next value
checked (Err fault) next = silent 3

-- a piece of text, or a refusal
abbrev pub piece_verdict : {F : Type 0} → Result (List ℕ) F → Verdict
piece_verdict (Ok piece) = record { status = 0; text = piece }
piece_verdict (Err fault) = silent 3

-- a piece after some others: where one of them was refused, it isn't looked at
unfoldable pub then_piece : {F : Type 0} → Verdict → Result (List ℕ) F → Verdict
then_piece before piece = if before.status == 0 then verdict_behind before.text (piece_verdict piece) else before

-- the first pieces of some
unfoldable pub printed : {F : Type 0} → (ℕ → Result (List ℕ) F) → ℕ → Verdict
printed piece zero = silent 0
printed piece (suc count) = then_piece (printed piece count) (piece count)

-- ---- the volume

-- the sectors of a device, which have room for a superblock
unfoldable pub room_of : Image → Machine → Device → Result Span Refusal
room_of now machine device = do
  there ← require (not (machine.size_of 0 == 0)) NoDisk
  span ← with_fault NoPlace (span_of now machine device)
  room ← require (nat_le 4 span.count) TooSmall
  Ok span

-- the volume of a device
unfoldable pub volume_on : Image → Machine → Device → Result Volume Refusal
volume_on now machine device = room_of now machine device >>= λ span. with_fault NoVolume (volume_at now span)

-- ---- get

-- the inode of the regular file at a path
unfoldable pub file_found : Super → Parts → List ℕ → Result Inode Refusal
file_found super parts path = do
  number ← with_fault NoPath (find super parts path)
  kind ← require (is_file (parts.node number)) WrongKind
  Ok (parts.node number)

-- the blocks of a file
unfoldable pub file_verdict : Super → Parts → Inode → Verdict
file_verdict super parts inode = printed (file_block super parts inode) (blocks_for inode.size)

-- `get`
unfoldable pub get_verdict : Super → Parts → List ℕ → Verdict
get_verdict super parts path = checked (file_found super parts path) (file_verdict super parts)

-- ---- ls

-- the letter of an inode's kind: file, directory, symbolic link, or another
unfoldable pub kind_letter : Inode → ℕ
kind_letter inode =
    if is_file inode then 102 else
    if is_directory inode then 100 else
    if is_link inode then 108 else
    111

-- the line of an entry: the kind, the size and the name
unfoldable pub entry_line : Inode → List ℕ → List ℕ
entry_line inode name = kind_letter inode ∷ (codes " " ++ decimal inode.size ++ codes " " ++ name ++ codes "\n")

-- whether an entry has a line: it isn't free, and neither `.` nor `..`
unfoldable pub has_line : Entry → Bool
has_line entry = not (entry.inode == 0 || is_dots entry.name)

-- an inode that an entry of a directory names
unfoldable pub named_node : Super → Parts → ℕ → Result Inode Refusal
named_node super parts number = do
  there ← require (nat_le number super.inodes) (NoInode number)
  a ← with_fault NoPath (readable super parts number)
  Ok (parts.node number)

-- the text of an entry
unfoldable pub entry_text : Super → Parts → Entry → Result (List ℕ) Refusal
entry_text super parts entry =
    if has_line entry
    then (named_node super parts entry.inode >>= λ inode. Ok (entry_line inode entry.name))
    else Ok []

-- the text of the entry at a place of a directory
unfoldable pub place_text : Super → Parts → Inode → ℕ → Result (List ℕ) Refusal
place_text super parts directory place =
    with_fault (λ fault. NoPath (Zone fault)) (entry_at super parts directory place) >>= entry_text super parts

-- the inode of the directory at a path
unfoldable pub directory_found : Super → Parts → List ℕ → Result Inode Refusal
directory_found super parts path = do
  number ← with_fault NoPath (find super parts path)
  kind ← require (is_directory (parts.node number)) WrongKind
  Ok (parts.node number)

-- the entries of a directory, in its order
unfoldable pub listing_verdict : Super → Parts → Inode → Verdict
listing_verdict super parts directory =
    printed (place_text super parts directory) (places super.kind directory.size)

-- `ls`
unfoldable pub ls_verdict : Super → Parts → List ℕ → Verdict
ls_verdict super parts path = checked (directory_found super parts path) (listing_verdict super parts)

-- ---- the whole

-- a command on a volume
unfoldable pub verdict_on : Super → Parts → Command → Verdict
verdict_on super parts (Get device path) = get_verdict super parts path
verdict_on super parts (Ls device path) = ls_verdict super parts path

-- a command
unfoldable pub command_verdict : Image → Machine → Command → Verdict
command_verdict now machine command =
    checked (volume_on now machine (device_of command)) (λ volume. verdict_on volume.layout (parts_of volume now) command)
