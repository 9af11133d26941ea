-- What a boot does, as a function of what the disks hold, the keys and the size of the memory. The order of
-- its steps, the texts and the codes are this project's own, after LILO's manners; a boot sector lies at
-- 0x7C00 and a partition table at 0x7BE, as the IBM PC has them.
use Rattle.std.specs.Prelude.{ℕ, ◌+◌, nat_lt, min, Bool, true, false, if◌then◌else◌, List, [], ◌∷◌, ◌++◌, map, length, slice_get, zip, codes, Option, Some}
use Rattle.std.specs.Prelude.{None, option_map, option_and_then, Result, Ok, Err}
use Rattle.std.specs.Option.{option_or}
use Rattle.std.specs.Result.{result_ok}
use Rattle.lilo_model.specs.Bytes.{part_of}
use Rattle.lilo_model.specs.Checks.{◌>>=◌, no_fault, with_fault, each}
use Rattle.lilo_model.specs.Disks.{Image, Machine, Span, DiskSector, bytes_at, with_sector}
use Rattle.lilo_model.specs.Slots as slots
use Rattle.lilo_model.specs.Slots.{Slot, place_at}
use Rattle.lilo_model.specs.BootSector as maps
use Rattle.lilo_model.specs.BootSector.{BootSector, boot_at, is_bootable}
use Rattle.lilo_model.specs.Table.{Descriptor, has_flag, other_flag, password_flag, restricted_flag, lock_flag, fallback_flag, video_flag, initrd_flag}
use Rattle.lilo_model.specs.Table.{table_flag, table_at}
use Rattle.lilo_model.specs.Options.{options_at, extra_at}
use Rattle.lilo_model.specs.LineSector.{line_at, line_bytes, line_capacity, is_same_line}
use Rattle.lilo_model.specs.DefaultLine.{DefaultLine}
use Rattle.lilo_model.specs.Prompt.{Key, Settings, ListedEntry, Picked, Decision, Opening}
use Rattle.lilo_model.specs.Choice.{choice, opening}
use Rattle.lilo_model.specs.Section.{SectionFault, Content, file_content}
use Rattle.lilo_model.specs.Header.{Layout, header_at, plan_memory}
use Rattle.lilo_model.specs.Place.{Written, command_line, first_two, written_by}
use Rattle.lilo_model.specs.Reason as reasons
use Rattle.lilo_model.specs.Reason.{Reason, NotBootable, BadTable, NotFound, Idle, section_reason, map_reason}

-- how a boot ends
pub data Outcome : Type 0 where
  -- a kernel lies in memory by this layout
  Loaded : Layout → Outcome
  -- a boot sector lies at 0x7C00
  Handed : Outcome
  -- nothing is started
  Refused : Reason → Outcome

-- what a boot does
pub record Boot : Type 0 where
  pub outcome : Outcome
  -- the text that was shown
  pub shown : List ℕ
  -- the default line from then on, where the map has one
  pub line : Option DefaultLine
  -- what was put into memory; of a refused boot nothing is said
  pub written : List Written
  -- the keys that were not taken
  pub left : List Key

-- ---- the ends of a boot

-- a refused boot, which says nothing of memory
abbrev pub refused_boot : List ℕ → Option DefaultLine → List Key → Reason → Boot
refused_boot shown line left reason = record {
  outcome = Refused reason;
  shown = shown;
  line = line;
  written = [];
  left = left;
}

-- the text after a failure while an entry is loaded
abbrev pub error_text : Reason → List ℕ
error_text NotFound = codes "Error 04\n"
error_text _ = codes "Error\n"

-- a boot that is refused there
abbrev pub failed_boot : List ℕ → Option DefaultLine → List Key → Reason → Boot
failed_boot shown line left reason = refused_boot (shown ++ error_text reason) line left reason

-- the address of a boot sector
abbrev pub boot_address : ℕ
boot_address = 0x7C00

-- the address of the partition table that goes with it
abbrev pub table_address : ℕ
table_address = 0x7BE

-- a boot sector of another system, which is handed over where a BIOS takes it for one
unfoldable pub foreign_boot : List ℕ → List Key → Boot
foreign_boot bytes keys =
    if is_bootable bytes
    then record {
      outcome = Handed;
      shown = [];
      line = None;
      written = record { address = boot_address; bytes = bytes } ∷ [];
      left = keys;
    }
    else refused_boot [] None keys NotBootable

-- ---- the map

-- the bytes of the one sector that a slot names
unfoldable pub slot_bytes_at : Image → Machine → Slot → Result (List ℕ) slots.AddressFault
slot_bytes_at image machine slot = place_at machine slot 0 >>= λ place. Ok (bytes_at image place)

-- the bytes of the one sector that a slot names, where there is a slot
abbrev pub optional_at : Image → Machine → Option Slot → Result (Option (List ℕ)) slots.AddressFault
optional_at image machine None = Ok None
optional_at image machine (Some slot) = slot_bytes_at image machine slot >>= λ bytes. Ok (Some bytes)

-- whether an entry has a flag
abbrev pub entry_has : Descriptor → ℕ → Bool
entry_has entry flag = has_flag entry.flags flag

-- the extra slot of an entry, where a flag asks for it
abbrev pub extra_slot : ℕ → Descriptor → Option Slot
extra_slot flag entry = if entry_has entry flag then entry.extra else None

-- the entries of a table, none where it is bad
abbrev pub entries_of : Result (List Descriptor) maps.MapFault → List Descriptor
entries_of (Ok entries) = entries
entries_of (Err fault) = []

-- what is read before the prompt: the default line's sector, the table, and the extra sectors of the
-- entries with a password, if the table is good
pub record MapSectors : Type 0 where
  pub line : List ℕ
  pub table : Result (List Descriptor) maps.MapFault
  pub extras : List (Option (List ℕ))

-- these sectors, unless a slot of one names none
unfoldable pub map_sectors : Image → Machine → BootSector → Result MapSectors slots.AddressFault
map_sectors image machine boot = do
  line ← slot_bytes_at image machine boot.line
  sectors ← each (map (slot_bytes_at image machine) boot.table)
  extras ← each (map (λ entry. optional_at image machine (extra_slot password_flag entry)) (entries_of (table_at boot.names sectors)))
  Ok (record { line = line; table = table_at boot.names sectors; extras = extras })

-- the default line on the disks
unfoldable pub present_line : Image → Machine → BootSector → Option DefaultLine
present_line image machine boot =
    option_and_then (λ bytes. result_ok (line_at bytes)) (result_ok (slot_bytes_at image machine boot.line))

-- the password in an extra sector that was read
abbrev pub password_at : Option (List ℕ) → Result (Option (List ℕ)) maps.MapFault
password_at None = Ok None
password_at (Some bytes) = extra_at bytes >>= λ extra. Ok (Some extra.password)

-- a map whose parts read before the prompt are good
pub record GoodMap : Type 0 where
  pub line : DefaultLine
  pub entries : List Descriptor
  pub passwords : List (Option (List ℕ))

-- the first of them that isn't good, in this order, or all of them
unfoldable pub good_map : MapSectors → Result GoodMap maps.MapFault
good_map sectors = do
  line ← line_at sectors.line
  entries ← sectors.table
  passwords ← each (map password_at sectors.extras)
  Ok (record { line = line; entries = entries; passwords = passwords })

-- ---- the prompt

-- the fallback of an entry that has one; where its sector can't be read, the boot is refused before
-- the fallback is used
abbrev pub fallback_of : Image → Machine → Descriptor → Option (List ℕ)
fallback_of image machine entry =
    option_and_then
    (λ slot. option_and_then
    (λ bytes. option_map (λ extra. extra.fallback) (result_ok (extra_at bytes)))
    (result_ok (slot_bytes_at image machine slot)))
    (extra_slot fallback_flag entry)

-- an entry and its password, as the prompt lists them
abbrev pub listed_entry : Image → Machine → Descriptor × Option (List ℕ) → ListedEntry
listed_entry image machine (entry, password) = record {
  name = entry.name;
  password = password;
  restricted = entry_has entry restricted_flag;
  lock = entry_has entry lock_flag;
  fallback = fallback_of image machine entry;
}

-- the entries, as the prompt lists them
unfoldable pub listed_entries : Image → Machine → GoodMap → List ListedEntry
listed_entries image machine good = map (listed_entry image machine) (zip good.entries good.passwords)

-- how the prompt is set up
unfoldable pub settings_of : BootSector → Settings
settings_of boot = record {
  prompt = boot.prompt;
  delay = boot.delay;
  timeout = boot.timeout;
  default_entry = boot.default_entry;
  capacity = line_capacity;
}

-- the message, where there is one
unfoldable pub message_of : Image → Machine → BootSector → Option Content
message_of image machine boot =
    option_map (λ slot. file_content image machine slot boot.message_length boot.message_chain) boot.message

-- where the message is refused, its bytes before that are shown in place of the prompt
abbrev pub message_stop : DefaultLine → Opening → Content → Option SectionFault → Result (Unit {0}) Boot
message_stop line opens message None = Ok tt
message_stop line opens message (Some fault) =
    Err
    (failed_boot
    (codes "LILO\n" ++ opens.before ++ message.bytes)
    (Some line)
    opens.left
    (section_reason fault))

-- the message is good, or the prompt isn't shown
abbrev pub message_check : DefaultLine → Option Opening → Option Content → Result (Unit {0}) Boot
message_check line None message = Ok tt
message_check line (Some opens) None = Ok tt
message_check line (Some opens) (Some message) = message_stop line opens message message.refusal

-- ---- the chosen entry

-- the middle text of the chosen entry; both of its sectors are read before a length in either is judged
unfoldable pub middle_of : Image → Machine → Descriptor → Result (List ℕ) Reason
middle_of image machine entry = do
  options ← with_fault (λ fault. NotFound) (slot_bytes_at image machine entry.options)
  extra ← with_fault (λ fault. NotFound) (optional_at image machine (extra_slot fallback_flag entry))
  middle ← with_fault map_reason (options_at options)
  password ← with_fault map_reason (password_at extra)
  Ok middle

-- an image with the sector of a line, unless it is there already
abbrev pub line_written : Image → DefaultLine → Bool → Result DiskSector slots.AddressFault → Image
line_written image line true place = image
line_written image line false (Ok place) = with_sector image place (line_bytes line)
line_written image line false (Err fault) = image

-- the image in which the default line is a new one: its sector is written only where the line differs
unfoldable pub image_with_line : Image → Machine → BootSector → DefaultLine → DefaultLine → Image
image_with_line image machine boot line new =
    line_written image new (is_same_line line new) (place_at machine boot.line 0)

-- an outcome, with what is put into memory
pub record Ending : Type 0 where
  pub outcome : Outcome
  pub written : List Written

-- a file is there as a whole
abbrev pub whole_check : Content → Result (Unit {0}) Reason
whole_check content = with_fault section_reason (no_fault content.refusal)

-- another system's boot sector, with the partition table that goes with it
unfoldable pub handed_ending : Descriptor → Content → Result Ending Reason
handed_ending entry main = do
  a ← whole_check main
  Ok (record {
    outcome = Handed;
    written =
        (if entry_has entry table_flag then record { address = table_address; bytes = part_of main.bytes (512 + 446) 64 } ∷ [] else [])
        ++ (record { address = boot_address; bytes = part_of main.bytes 0 512 } ∷ []);
  })

-- the first two sectors of a kernel are there
abbrev pub first_two_check : ℕ → Content → Result (Unit {0}) Reason
first_two_check len main =
    if nat_lt (length main.bytes) (min len 1024) then whole_check main else Ok tt

-- the length of an initrd
abbrev pub initrd_size : Descriptor → Option ℕ
initrd_size entry = if entry_has entry initrd_flag then Some entry.initrd_length else None

-- the initrd of an entry
abbrev pub initrd_of : Image → Machine → Descriptor → Option Content
initrd_of image machine entry =
    option_map (λ slot. file_content image machine slot entry.initrd_length entry.initrd_chain) entry.initrd

-- the main file of an entry
unfoldable pub main_of : Image → Machine → Descriptor → Content
main_of image machine entry = file_content image machine entry.first entry.main_length entry.chain

-- an initrd is there as a whole, or there is none
abbrev pub initrd_check : Option Content → Result (Option (List ℕ)) Reason
initrd_check None = Ok None
initrd_check (Some content) = whole_check content >>= λ a. Ok (Some content.bytes)

-- the video mode, typed before configured
abbrev pub video_of : Descriptor → Picked → Option ℕ
video_of entry picked =
    option_or picked.vga (if entry_has entry video_flag then Some entry.vga else None)

-- a kernel and its initrd, with a command line
unfoldable pub loaded_ending : Descriptor → Content → Option Content → List ℕ → Option ℕ → ℕ → Result Ending Reason
loaded_ending entry main initrd line video memory = do
  a ← first_two_check entry.main_length main
  header ← with_fault reasons.Header (header_at (first_two main.bytes) entry.main_length)
  layout ← with_fault reasons.Header (plan_memory header entry.main_length (initrd_size entry) (length line) memory)
  b ← whole_check main
  bytes ← initrd_check initrd
  Ok (record {
    outcome = Loaded layout;
    written = written_by header layout main.bytes bytes line video;
  })

-- the command line of a chosen entry
abbrev pub picked_line : Descriptor → Picked → List ℕ → List ℕ
picked_line entry picked middle = command_line picked.automatic entry.name middle picked.words

-- what a kernel's entry loads
unfoldable pub kernel_ending : Image → Machine → Descriptor → Picked → List ℕ → ℕ → Result Ending Reason
kernel_ending image machine entry picked middle memory =
    loaded_ending
    entry
    (main_of image machine entry)
    (initrd_of image machine entry)
    (picked_line entry picked middle)
    (video_of entry picked)
    memory

-- what an entry loads
unfoldable pub entry_ending : Image → Machine → Descriptor → Picked → List ℕ → ℕ → Result Ending Reason
entry_ending image machine entry picked middle memory =
    if entry_has entry other_flag
    then handed_ending entry (main_of image machine entry)
    else kernel_ending image machine entry picked middle memory

-- ---- the boot

-- a boot of which only the end is left
abbrev pub ended_boot : List ℕ → DefaultLine → List Key → Result Ending Reason → Boot
ended_boot shown line left (Ok ending) = record {
  outcome = ending.outcome;
  shown = shown;
  line = Some line;
  written = ending.written;
  left = left;
}
ended_boot shown line left (Err reason) = failed_boot shown (Some line) left reason

-- a boot from the choice on: the entry's texts are read, then the default line is written, and then the
-- entry is loaded from what the disks hold with that line
unfoldable pub chosen_boot : Image → Machine → BootSector → DefaultLine → Descriptor → Picked → Decision → ℕ → Result (List ℕ) Reason → Boot
chosen_boot image machine boot line entry picked decision memory (Err reason) =
    failed_boot (codes "LILO\n" ++ decision.shown) (Some line) decision.left reason
chosen_boot image machine boot line entry picked decision memory (Ok middle) =
    ended_boot
    (codes "LILO\n" ++ decision.shown ++ codes "Loading " ++ entry.name ++ codes "\n")
    decision.line
    decision.left
    (entry_ending (image_with_line image machine boot line decision.line) machine entry picked middle memory)

-- the entry that was picked; a pick is always an entry of the table
abbrev pub picked_entry : List Descriptor → Option Picked → Option (Descriptor × Picked)
picked_entry entries None = None
picked_entry entries (Some picked) = option_map (λ entry. (entry, picked)) (slice_get entries picked.entry)

-- a boot from the end of the prompt on
abbrev pub decided_boot : Image → Machine → BootSector → DefaultLine → Decision → ℕ → Option (Descriptor × Picked) → Boot
decided_boot image machine boot line decision memory None =
    refused_boot (codes "LILO\n" ++ decision.shown) (Some line) decision.left Idle
decided_boot image machine boot line decision memory (Some (entry, picked)) =
    chosen_boot image machine boot line entry picked decision memory (middle_of image machine entry)

-- what the prompt decides
unfoldable pub decision_at : Image → Machine → BootSector → GoodMap → Option Content → List Key → Decision
decision_at image machine boot good message keys =
    choice
    (settings_of boot)
    (listed_entries image machine good)
    good.line
    (option_map (λ content. content.bytes) message)
    keys

-- where the prompt is shown for the first time
unfoldable pub opening_at : Image → Machine → BootSector → GoodMap → List Key → Option Opening
opening_at image machine boot good keys =
    opening (settings_of boot) (listed_entries image machine good) good.line keys

-- a boot from the prompt on
unfoldable pub prompted_boot : Image → Machine → BootSector → GoodMap → Option Content → List Key → ℕ → Boot
prompted_boot image machine boot good message keys memory =
    decided_boot
    image
    machine
    boot
    good.line
    (decision_at image machine boot good message keys)
    memory
    (picked_entry good.entries (decision_at image machine boot good message keys).picked)

-- a check that refuses with an ended boot, or the boot that goes on
abbrev pub end_of : Result Boot Boot → Boot
end_of (Ok boot) = boot
end_of (Err boot) = boot

-- a boot by a boot sector of this format
unfoldable pub map_boot : Image → Machine → BootSector → List Key → ℕ → Boot
map_boot image machine boot keys memory = end_of (do
  sectors ← with_fault (λ fault. refused_boot (codes "L 04\n") (present_line image machine boot) keys NotFound) (map_sectors image machine boot)
  good ← with_fault (λ fault. refused_boot (codes "LIL-\n") (present_line image machine boot) keys (map_reason fault)) (good_map sectors)
  a ← message_check good.line (opening_at image machine boot good keys) (message_of image machine boot)
  Ok (prompted_boot image machine boot good (message_of image machine boot) keys memory))

-- a boot by what a sector says as a boot sector
abbrev pub boot_by : Image → Machine → List ℕ → List Key → ℕ → Result BootSector maps.MapFault → Boot
boot_by image machine bytes keys memory (Ok boot) = map_boot image machine boot keys memory
boot_by image machine bytes keys memory (Err (maps.BadTable entry)) = refused_boot (codes "LIL-\n") None keys (BadTable entry)
boot_by image machine bytes keys memory (Err _) = foreign_boot bytes keys

-- Boot: what a boot from the first sector of a span does, with these keys and a memory of some bytes
unfoldable pub whole_boot : Image → Machine → Span → List Key → ℕ → Boot
whole_boot image machine span keys memory =
    boot_by image machine (image span.disk span.start) keys memory (boot_at (image span.disk span.start))
