-- What the commands `-q DEVICE` and `boot DEVICE [--dump]` answer and print, as if nothing failed: one list of
-- checks a command, in order, of which the first refusal decides. They speak of what the disks hold, and read
-- no device. (This project's own.)
use Rattle.std.specs.Prelude.{ℕ, zero, suc, ◌+◌, ◌/◌, ◌==◌, Bool, if◌then◌else◌, List, [], ◌∷◌, ◌++◌, length, take, drop, map, flat_map, filter, codes, decimal}
use Rattle.std.specs.Prelude.{Result, Ok, Err}
use Rattle.std.specs.Int.{w32, to_be_bytes}
use Rattle.lilo_model.specs.Bytes.{hex_byte}
use Rattle.lilo_model.specs.Checks.{◌>>=◌, with_fault, each}
use Rattle.lilo_model.specs.Disks.{Image, Machine, Span}
use Rattle.lilo_model.specs.Slots.{Slot}
use Rattle.lilo_model.specs.BootSector.{BootSector, MapFault, boot_at}
use Rattle.lilo_model.specs.BootSector as maps
use Rattle.lilo_model.specs.Table.{Descriptor, table_at}
use Rattle.lilo_model.specs.Prompt.{Key}
use Rattle.lilo_model.specs.Place.{Written}
use Rattle.lilo_model.specs.Reason.{NotFound, BadTable, map_reason}
use Rattle.lilo_model.specs.Boot as boots
use Rattle.lilo_model.specs.Boot.{Outcome, Loaded, Handed, Refused, boot_address, whole_boot, slot_bytes_at}
use Rattle.lilo_model.specs.Refusal.{DeviceFault, Refusal, Device, NotOurs, Boot, refusal_status, refusal_line}

-- a status, and what is printed
pub record Verdict : Type 0 where
  pub status : ℕ
  pub text : List ℕ

-- the verdict that a text or a refusal is
abbrev pub verdict_of : Result (List ℕ) Refusal → Verdict
verdict_of (Ok text) = record { status = 0; text = text }
verdict_of (Err refusal) = record { status = refusal_status refusal; text = refusal_line refusal }

-- ---- the names in the map of a boot sector

-- how a listing reports what is wrong with a map
abbrev pub map_refusal : MapFault → Refusal
map_refusal maps.NotOurs = NotOurs
map_refusal (maps.BadVersion version) = NotOurs
map_refusal (maps.BadTable entry) = Boot (BadTable entry)
map_refusal maps.BadLine = Boot (map_reason maps.BadLine)

-- a line for a name, with ` *` after the default's
abbrev pub name_line : Bool → List ℕ → List ℕ
name_line is_default name = name ++ (if is_default then codes " *\n" else codes "\n")

-- the lines of the entries from a place on
abbrev pub lines_from : ℕ → ℕ → List Descriptor → List ℕ
lines_from default place [] = []
lines_from default place (entry ∷ entries) =
    name_line (place == default) entry.name ++ lines_from default (place + 1) entries

-- the sectors of a table, where each is there
abbrev pub table_sectors : Image → Machine → List Slot → Result (List (List ℕ)) Refusal
table_sectors image machine slots = with_fault (λ fault. Boot NotFound) (each (map (slot_bytes_at image machine) slots))

-- the names in the map of a boot sector
unfoldable pub names_behind : Image → Machine → BootSector → Result (List ℕ) Refusal
names_behind image machine boot = do
  sectors ← table_sectors image machine boot.table
  entries ← with_fault map_refusal (table_at boot.names sectors)
  Ok (lines_from boot.default_entry 0 entries)

-- what `-q` prints for a device that is there or isn't
unfoldable pub names_text : Image → Machine → Result Span DeviceFault → Result (List ℕ) Refusal
names_text image machine device = do
  span ← with_fault Device device
  boot ← with_fault map_refusal (boot_at (image span.disk span.start))
  names_behind image machine boot

-- the verdict of `-q DEVICE`
unfoldable pub query_verdict : Image → Machine → Result Span DeviceFault → Verdict
query_verdict image machine device = verdict_of (names_text image machine device)

-- ---- the memory after a boot

-- an address in eight hexadecimal digits
abbrev pub address_text : ℕ → List ℕ
address_text address = flat_map hex_byte (to_be_bytes w32 address)

-- bytes in lines of 32, for as many lines as there may be
abbrev pub hex_lines : ℕ → List ℕ → List ℕ
hex_lines zero bytes = []
hex_lines (suc more) bytes = flat_map hex_byte (take 32 bytes) ++ codes "\n" ++ hex_lines more (drop 32 bytes)

-- a region: its address and length, and its bytes in lines of up to 32
abbrev pub region_text : Written → List ℕ
region_text written =
    address_text written.address
    ++ codes " "
    ++ decimal (length written.bytes)
    ++ codes "\n"
    ++ hex_lines ((length written.bytes + 31) / 32) written.bytes

-- the regions that are reported: all that a kernel's loading put there, or the boot sector alone
abbrev pub told_regions : Outcome → List Written → List Written
told_regions (Loaded layout) written = written
told_regions Handed written = filter (λ region. region.address == boot_address) written
told_regions (Refused reason) written = []

-- the text of the memory
unfoldable pub dump_text : boots.Boot → List ℕ
dump_text boot = flat_map region_text (told_regions boot.outcome boot.written)

-- ---- a boot

-- a boot that started something, or the refusal
abbrev pub start_check : Outcome → Result (Unit {0}) Refusal
start_check (Loaded layout) = Ok tt
start_check Handed = Ok tt
start_check (Refused reason) = Err (Boot reason)

-- the text after what a boot showed
abbrev pub boot_text : Bool → boots.Boot → Result (List ℕ) Refusal
boot_text dump boot = start_check boot.outcome >>= λ a. Ok (if dump then dump_text boot else [])

-- a verdict with a text before its own
abbrev pub verdict_behind : List ℕ → Verdict → Verdict
verdict_behind shown verdict = record verdict { text = shown ++ verdict.text }

-- the verdict of a boot
abbrev pub verdict_on : Bool → boots.Boot → Verdict
verdict_on dump boot = verdict_behind boot.shown (verdict_of (boot_text dump boot))

-- the verdict of `boot DEVICE`, with `--dump` or without, for these keys and a memory of some bytes
unfoldable pub boot_verdict : Image → Machine → Result Span DeviceFault → Bool → List Key → ℕ → Verdict
boot_verdict image machine (Ok span) dump keys memory = verdict_on dump (whole_boot image machine span keys memory)
boot_verdict image machine (Err fault) dump keys memory = verdict_of (Err (Device fault))
