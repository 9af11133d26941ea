-- What `put` takes from a source, and how it is stored (a rule of this project's own). A path is a list of components, the
-- last one first.
use Rattle.std.specs.Prelude.{◌≡◌, ◌≢◌, ◌≤◌, ◌<◌, ◌-◌, ℕ, List, ◌∷◌, ◌++◌, length, map, replicate, Option, Some, None, Result, Ok, Err}
use Rattle.std.specs.List.{range_with_len}
use Rattle.disk_trait.specs.declared.disks.Disks.{Ghosts}
use Rattle.disk_trait.specs.declared.disks.Span.{Span}
use Rattle.disk_trait.specs.Past.{Past, Told}
use Rattle.lilo_model.specs.Disks as images
use Rattle.lilo_model.specs.Disks.{Image}
use Rattle.lilo_model.specs.Faults.{Rose}
use Rattle.lilo_model.specs.MinixNames.{File, IsSound}
use Rattle.lilo_model.specs.MinixParts as model
use Rattle.lilo_model.specs.MinixParts.{blocks_for}
use Rattle.minix_create.specs.Chosen.{Suits}
use Rattle.minix_layout.specs.declared.superblock.Super as layouts
use Rattle.minix_names.specs.declared.place.NamePlace.{NamePlace}
use Rattle.minix_choice.specs.declared.wish.Wish.{Wish}
use Rattle.minix_zones.specs.Volume.{volume_view, past_of}
use Rattle.minix_zones.specs.declared.volume.Volume.{Volume}
use Rattle.ldisk_model.specs.FileVerdict.{NewFile, stored_block, most_stored, zero_blocks, checked_status, volume_check, sound_check, new_check, room_check}
use Rattle.ldisk_model.specs.FileVerdict.{made_check}
use Rattle.ldisk_files.specs.Answer.{Answers, HasFileCause, IsSurveyed, IsUnwritten, IsUnwrittenAt, fault_status}
use Rattle.ldisk_files.specs.Inode.{ChangesInode, ChangesInodeAt}
use Rattle.ldisk_files.specs.Left.{LeavesOn, LeavesNames}
use Rattle.ldisk_files.specs.Made.{IsNewAt, IsNewPlace}
use Rattle.ldisk_files.specs.declared.fault.FileFault.{FileFault}
use Rattle.ldisk_files.specs.declared.fault.FileFault.TheVariants as faults
use Rattle.ldisk_files.specs.declared.put_fault.PutFault.{PutFault}
use Rattle.ldisk_files.specs.declared.put_fault.PutFault.TheVariants.{Source, File as OfFile}
use Rattle.ldisk_files.specs.declared.stored.Stored.{Stored}

-- ---- the blocks of a file

-- the bytes of a block, zeros after the last
abbrev pub padded_block : List ℕ → ℕ → List ℕ
padded_block bytes index = stored_block bytes index ++ replicate (1024 - length (stored_block bytes index)) 0

-- all of its blocks
abbrev pub padded_blocks : List ℕ → List (List ℕ)
padded_blocks bytes = map (padded_block bytes) (range_with_len 0 (blocks_for (length bytes)))

-- ---- what a source gives

-- a source that reports what is left gives these bytes up to its end
abbrev pub IsGiven : Option (List ℕ) → List ℕ → Type 0
IsGiven (Some left) given = left ≡ given
IsGiven None given = Unit {0}

-- so it is of the bytes that a source gives up to its end: of those that it reports, or else of some
abbrev pub OnGiven : Option (List ℕ) → (List ℕ → Type 0) → Type 0
OnGiven (Some left) P = P left
OnGiven None P = (given : List ℕ) × P given

-- ---- faults

-- the exit status that reports a fault
abbrev pub put_status : PutFault → ℕ
put_status Source = 11
put_status (OfFile fault) = fault_status fault

-- a fault as one of the volume: where the source failed nothing more is known, as where memory ended
abbrev pub file_fault : PutFault → FileFault
file_fault Source = faults.Memory
file_fault (OfFile fault) = fault

-- the same of what was answered
abbrev pub file_answer : Result (Unit {0}) PutFault → Result (Unit {0}) FileFault
file_answer (Ok done) = Ok tt
file_answer (Err fault) = Err (file_fault fault)

-- where the source failed, its count of faults rose
abbrev pub HasSourceCause : ℕ → ℕ → PutFault → Type 0
HasSourceCause before now Source = Rose before now
HasSourceCause before now (OfFile fault) = Unit {0}

-- where the disk failed, its count rose
abbrev pub HasDiskCause : ℕ → ℕ → PutFault → Type 0
HasDiskCause before now fault = HasFileCause before now (file_fault fault)

-- why a source's bytes aren't taken: it failed, gives too many, or memory ended
abbrev pub IsReadFault : Option (List ℕ) → PutFault → Type 0
IsReadFault left Source = Unit {0}
IsReadFault left (OfFile faults.BadLength) = OnGiven left (λ given. most_stored < length given)
IsReadFault left (OfFile faults.Memory) = Unit {0}
IsReadFault left (OfFile fault) = ⊥

-- ---- its name

-- a surveyed volume has a directory for the name that a text ends with, and nothing is there
pub record IsFreeAt (volume : model.Volume) (image : Image) (text : List ℕ) (place : NamePlace) : Type 0 where
  pub surveyed : IsSurveyed volume image
  pub new : IsNewAt volume image text place

-- so it is, or a check refuses
abbrev pub GivesFree : model.Volume → Image → List ℕ → Result NamePlace FileFault → Type 0
GivesFree volume image text (Ok place) = IsFreeAt volume image text place
GivesFree volume image text (Err fault) = Answers {B = NamePlace} (sound_check (new_check text) volume image) (Err fault)

-- ---- its room

-- it is wished for bytes by a name
pub record IsFileWish (place : NamePlace) (bytes : List ℕ) (wish : Wish) : Type 0 where
  pub mode : wish.mode ≡ 33188
  pub long : wish.length ≡ length bytes
  pub holes : wish.holes.now ≡ zero_blocks bytes (blocks_for (length bytes))
  pub directory : wish.directory ≡ place.directory.inode
  pub name : wish.name.now ≡ place.name.now

-- bytes may be stored by a name, and there is room, or a check refuses
abbrev pub GivesRoom : {B : Type 0} → Option Past → model.Volume → NamePlace → List ℕ → Result B FileFault → Type 0
GivesRoom past volume place given result =
    Told past (λ now. IsSound volume now → (outer : List (List ℕ)) → IsNewPlace volume now outer place
    → Answers (room_check (NewFile given) volume now (place.name.now ∷ outer)) result)

-- the same of the bytes of a source
abbrev pub TakesRoom : Option Past → model.Volume → NamePlace → Option (List ℕ) → Result Stored PutFault → Type 0
TakesRoom past volume place left (Ok stored) = GivesRoom {B = Stored} past volume place stored.bytes.items (Ok stored)
TakesRoom past volume place left (Err fault) = OnGiven left (λ given. GivesRoom {B = Stored} past volume place given (Err (file_fault fault)))

-- all checks of what is stored at a path of a volume
abbrev pub GivesStored : {B : Type 0} → Option Past → model.Volume → List ℕ → List ℕ → Result B FileFault → Type 0
GivesStored past volume text given result = Told past (λ now. Answers (sound_check (made_check (NewFile given) text) volume now) result)

-- the same of the bytes of a source
abbrev pub TakesStored : Option Past → model.Volume → List ℕ → Option (List ℕ) → Result Stored PutFault → Type 0
TakesStored past volume text left (Ok stored) = GivesStored {B = Stored} past volume text stored.bytes.items (Ok stored)
TakesStored past volume text left (Err fault) = OnGiven left (λ given. GivesStored {B = Stored} past volume text given (Err (file_fault fault)))

-- what was chosen suits a volume, and takes no more blocks than there are
pub record IsStorable (layout : layouts.Super) (span : Span) (stored : Stored) : Type 0 where
  pub suits : Suits layout span stored.chosen
  pub few : length stored.chosen.choice.blocks ≤ blocks_for (length stored.bytes.items)

-- ---- when the source is asked

-- it is left alone where a check up to that of the name refuses
abbrev pub IsUnread : {I : Type 0} → Option Past → model.Volume → List ℕ → I → I → Type 0
IsUnread past volume text old new = Told past (λ now. checked_status (sound_check (new_check text) volume now) ≢ 0 → new ≡ old)

-- the same of the volume in a span
abbrev pub IsUnreadAt : {I : Type 0} → Option Past → images.Span → List ℕ → I → I → Type 0
IsUnreadAt past span text old new = Told past (λ now. checked_status (volume_check (new_check text) now span) ≢ 0 → new ≡ old)

-- ---- the whole

-- bytes were stored at a path of a volume at a time, or a check refused
pub record StoresOn {D : Type 0} {disks : Ghosts D} (old new : Volume D disks) (text given : List ℕ) (time : ℕ)
    (result : Result (Unit {0}) FileFault) : Type 0 where
  pub answers : GivesStored (past_of old) (volume_view old) text given result
  pub leaves : LeavesOn old new text (Some (File given)) result
  pub inode : ChangesInodeAt old new text (Some (NewFile given, time)) result
  pub unwritten : IsUnwritten (past_of old) (past_of new) (volume_view old) (made_check (NewFile given) text)

-- the same of the volume in a span
pub record Stores {D : Type 0} (disks : Ghosts D) (old new : D) (span : images.Span) (text given : List ℕ) (time : ℕ)
    (result : Result (Unit {0}) FileFault) : Type 0 where
  pub answers : Told (disks.past old) (λ now. Answers (volume_check (made_check (NewFile given) text) now span) result)
  pub leaves : LeavesNames disks old new span text (Some (File given)) result
  pub inode : ChangesInode disks old new span text (Some (NewFile given, time)) result
  pub unwritten : IsUnwrittenAt (disks.past old) (disks.past new) span (made_check (NewFile given) text)
