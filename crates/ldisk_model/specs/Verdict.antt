-- What `ldisk` answers and prints, as if nothing failed, and what the disks hold then: for each command a list of checks
-- in order, of which the first refusal decides. They speak of what the disks hold, and read no device. (This project's
-- own; the volume: Minix file system.)
use Rattle.std.specs.Prelude.{ℕ, ◌+◌, ◌*◌, ◌==◌, nat_le, nat_lt, Bool, true, false, not, ◌&&◌, List, ◌++◌, codes, decimal, Option, None, Some}
use Rattle.std.specs.Prelude.{ok_or, Result, Ok, Err}
use Rattle.lilo_model.specs.Checks.{◌>>=◌, require, with_fault}
use Rattle.lilo_model.specs.Devices.{Device}
use Rattle.lilo_model.specs.Disks.{Image, Machine, Span, DiskSector, with_sector}
use Rattle.lilo_model.specs.Partitions.{TableFault, span_of}
use Rattle.lilo_model.specs.MinixLayout.{Kind}
use Rattle.lilo_model.specs.MinixParts.{Volume}
use Rattle.lilo_model.specs.Verdict.{Verdict}
use Rattle.lilo_model.specs.LdiskWords as reads
use Rattle.lilo_model.specs.LdiskVerdict.{silent, volume_on}
use Rattle.lilo_model.specs.LdiskVerdict as reads_verdict
use Rattle.ldisk_model.specs.Arguments.{PartWish, Command, Make, Mkfs, Put, Get, Ls, Rm, Mkdir, Ln, Reclaim, Asked, asked_at}
use Rattle.ldisk_model.specs.DiskTable.{are_placed, table_sector}
use Rattle.ldisk_model.specs.MinixFormat.{format_layout, format_at}
use Rattle.ldisk_model.specs.FileVerdict.{FileRefusal, NameChange, NewDirectory, NewLink, NewFile, removal, addition, checked_status, file_status, device_check}
use Rattle.ldisk_model.specs.FileVerdict.{gone_check, new_check, made_check, reclaim_check}
use Rattle.ldisk_model.specs.Waste.{Freed}

-- why a table or a volume isn't made
pub data Refusal : Type 0 where
  -- partitions overlap, lie outside the disk or touch its first sector
  Misplaced : Refusal
  -- disk 0 isn't there
  NoDisk : Refusal
  -- the device can't be found
  NoPlace : TableFault → Refusal
  -- the sectors don't suffice for the tables and the root, or the first data zone doesn't fit its field
  NoSpace : Refusal

abbrev pub refusal_status : Refusal → ℕ
refusal_status Misplaced = 1
refusal_status NoDisk = 3
refusal_status (NoPlace fault) = 3
refusal_status NoSpace = 5

-- the status of what was checked
abbrev pub status_of : {A : Type 0} → Result A Refusal → ℕ
status_of (Ok value) = 0
status_of (Err refusal) = refusal_status refusal

-- ---- make

-- the partitions may lie so on a new disk, and there is one
unfoldable pub make_check : Machine → ℕ → List PartWish → Result (Unit {0}) Refusal
make_check machine sectors parts = do
  placed ← require (are_placed sectors parts) Misplaced
  require (not (machine.size_of 0 == 0)) NoDisk

-- the sector of the table
abbrev pub table_place : DiskSector
table_place = record { disk = 0; sector = 0 }

-- ---- mkfs

-- the sectors of a device
unfoldable pub place_check : Image → Machine → Device → Result Span Refusal
place_check now machine device = do
  there ← require (not (machine.size_of 0 == 0)) NoDisk
  with_fault NoPlace (span_of now machine device)

-- the sectors of the new volume, which have room for it
unfoldable pub mkfs_check : Image → Machine → Device → Kind → ℕ → Result Span Refusal
mkfs_check now machine device kind inodes = do
  span ← place_check now machine device
  layout ← ok_or (format_layout kind span.count inodes) NoSpace
  Ok span

-- ---- reclaim

-- what is printed of what was freed
abbrev pub freed_text : Freed → List ℕ
freed_text freed = codes "zones " ++ decimal freed.zones ++ codes ", inodes " ++ decimal freed.inodes ++ codes "\n"

-- what is answered and printed
abbrev pub freed_verdict : Result Freed FileRefusal → Verdict
freed_verdict (Ok freed) = record { status = 0; text = freed_text freed }
freed_verdict (Err refusal) = silent (file_status refusal)

-- ---- the whole

-- a command on an image with so many sectors where it is new, where a source gives these bytes up to its end
unfoldable pub command_verdict : Image → Machine → List ℕ → ℕ → Command → Verdict
command_verdict now machine given sectors (Make parts) = silent (status_of (make_check machine sectors parts))
command_verdict now machine given sectors (Mkfs device kind inodes) =
    silent (status_of (mkfs_check now machine device kind inodes))
command_verdict now machine given sectors (Get device path) =
    reads_verdict.command_verdict now machine (reads.Get device path)
command_verdict now machine given sectors (Ls device path) =
    reads_verdict.command_verdict now machine (reads.Ls device path)
command_verdict now machine given sectors (Put device path) =
    silent (checked_status (device_check (made_check (NewFile given) path) now machine device))
command_verdict now machine given sectors (Rm device path) =
    silent (checked_status (device_check (gone_check path) now machine device))
command_verdict now machine given sectors (Mkdir device path) =
    silent (checked_status (device_check (made_check NewDirectory path) now machine device))
command_verdict now machine given sectors (Ln device path target) =
    silent (checked_status (device_check (made_check (NewLink target) path) now machine device))
command_verdict now machine given sectors (Reclaim device) = freed_verdict (reclaim_check now machine device)

-- whether a command may be carried out, whatever the disks hold
unfoldable pub is_carried_out : ℕ → Command → Bool
is_carried_out sectors (Make parts) = are_placed sectors parts
is_carried_out sectors (Mkfs device kind inodes) = true
is_carried_out sectors (Put device path) = true
is_carried_out sectors (Get device path) = true
is_carried_out sectors (Ls device path) = true
is_carried_out sectors (Rm device path) = true
is_carried_out sectors (Mkdir device path) = true
is_carried_out sectors (Ln device path target) = true
is_carried_out sectors (Reclaim device) = true

-- arguments that ask for something that may be carried out
abbrev pub are_carried_out : Option Asked → Bool
are_carried_out (Some asked) = is_carried_out asked.sectors asked.command
are_carried_out None = false

-- arguments that ask for something, or are of no grammar
abbrev pub asked_verdict : Image → Machine → List ℕ → Option Asked → Verdict
asked_verdict now machine given (Some asked) = command_verdict now machine given asked.sectors asked.command
asked_verdict now machine given None = silent 1

-- what `ldisk` answers and prints for arguments, over disks that hold this image and a source that gives these bytes
unfoldable pub ldisk_verdict : Image → Machine → List ℕ → List (List ℕ) → Verdict
ldisk_verdict now machine given words = asked_verdict now machine given (asked_at words)

-- ---- when the source is asked

-- whether a command stores what a source gives
abbrev pub stores : Command → Bool
stores (Put device path) = true
stores command = false

-- the same of arguments
abbrev pub asked_stores : Option Asked → Bool
asked_stores (Some asked) = stores asked.command
asked_stores None = false

-- whether it comes to ask the source: only once all checks up to that of its name have passed
abbrev pub asks_source : Image → Machine → Command → Bool
asks_source now machine (Put device path) = checked_status (device_check (new_check path) now machine device) == 0
asks_source now machine command = false

-- the same of arguments
abbrev pub asked_asks_source : Image → Machine → Option Asked → Bool
asked_asks_source now machine (Some asked) = asks_source now machine asked.command
asked_asks_source now machine None = false

-- ---- what the disks hold

-- an empty volume in a device's sectors, where these can be found
abbrev pub formatted_on : Result Span TableFault → Kind → ℕ → ℕ → Image → Option Image
formatted_on (Ok span) kind inodes time now = format_at span kind inodes time now
formatted_on (Err fault) kind inodes time now = None

-- the name that a command changes, if it changes one, where a source gives these bytes
abbrev pub name_change : List ℕ → Command → Option NameChange
name_change given (Put device path) = Some (addition device path (NewFile given))
name_change given (Rm device path) = Some (removal device path)
name_change given (Mkdir device path) = Some (addition device path NewDirectory)
name_change given (Ln device path target) = Some (addition device path (NewLink target))
name_change given command = None

-- the same of arguments
abbrev pub asked_change : List ℕ → Option Asked → Option NameChange
asked_change given (Some asked) = name_change given asked.command
asked_change given None = None

-- what the disks hold after a command that answered 0 at a time, and that changes no name and frees nothing
unfoldable pub image_after : Image → Machine → ℕ → Command → Option Image
image_after now machine time (Make parts) = Some (with_sector now table_place (table_sector parts))
image_after now machine time (Mkfs device kind inodes) =
    formatted_on (span_of now machine device) kind inodes time now
image_after now machine time command = Some now

-- the same after arguments
abbrev pub asked_after : Image → Machine → ℕ → Option Asked → Option Image
asked_after now machine time (Some asked) = image_after now machine time asked.command
asked_after now machine time None = Some now

-- whether a sector is one of a span
abbrev pub is_in : Span → ℕ → ℕ → Bool
is_in span disk sector = span.disk == disk && nat_le span.start sector && nat_lt sector (span.start + span.count)

abbrev pub is_in_found : Result Span TableFault → ℕ → ℕ → Bool
is_in_found (Ok span) disk sector = is_in span disk sector
is_in_found (Err fault) disk sector = false

-- the sectors of the two bitmaps of a volume
abbrev pub bitmap_span : Volume → Span
bitmap_span volume = record {
  disk = volume.span.disk;
  start = volume.span.start + 4;
  count = 2 * (volume.layout.imap + volume.layout.zmap);
}

-- whether a sector is one of these, where there is a volume
abbrev pub is_in_bitmaps : {F : Type 0} → Result Volume F → ℕ → ℕ → Bool
is_in_bitmaps (Ok volume) disk sector = is_in (bitmap_span volume) disk sector
is_in_bitmaps (Err fault) disk sector = false

-- whether a command may write a sector: `make` that of the table, `mkfs`, `put`, `rm`, `mkdir` and `ln` those of the device,
-- `reclaim` those of the volume's bitmaps, and others none
unfoldable pub may_write : Image → Machine → Command → ℕ → ℕ → Bool
may_write now machine (Make parts) disk sector = disk == 0 && sector == 0
may_write now machine (Mkfs device kind inodes) disk sector = is_in_found (span_of now machine device) disk sector
may_write now machine (Put device path) disk sector = is_in_found (span_of now machine device) disk sector
may_write now machine (Rm device path) disk sector = is_in_found (span_of now machine device) disk sector
may_write now machine (Mkdir device path) disk sector = is_in_found (span_of now machine device) disk sector
may_write now machine (Ln device path target) disk sector = is_in_found (span_of now machine device) disk sector
may_write now machine (Reclaim device) disk sector = is_in_bitmaps (volume_on now machine device) disk sector
may_write now machine command disk sector = false

-- the same of arguments
abbrev pub asked_may_write : Image → Machine → Option Asked → ℕ → ℕ → Bool
asked_may_write now machine (Some asked) disk sector = may_write now machine asked.command disk sector
asked_may_write now machine None disk sector = false

-- whether a command only reads
unfoldable pub only_reads : Command → Bool
only_reads (Make parts) = false
only_reads (Mkfs device kind inodes) = false
only_reads (Put device path) = false
only_reads (Rm device path) = false
only_reads (Mkdir device path) = false
only_reads (Ln device path target) = false
only_reads (Reclaim device) = false
only_reads command = true

-- the same of arguments
abbrev pub asked_only_read : Option Asked → Bool
asked_only_read (Some asked) = only_reads asked.command
asked_only_read None = true
