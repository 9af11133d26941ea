-- What a boot comes to, as the loader goes along: the model's boot, with the text that is shown in its place where a
-- device failed, and with what is written of the default line. (This project's own.)
use Rattle.std.specs.Prelude.{ℕ, ◌+◌, nat_lt, min, Bool, ◌||◌, if◌then◌else◌, List, [], ◌∷◌, ◌++◌, length, map, codes, Option, None, Some, Result, Ok, Err}
use Rattle.std.specs.Option.{option_map}
use Rattle.std.specs.Result.{result_ok}
use Rattle.lilo_model.specs.Bytes.{part_of}
use Rattle.lilo_model.specs.Checks.{◌>>=◌, no_fault, with_fault}
use Rattle.lilo_model.specs.Choice.{choice, filled_text}
use Rattle.lilo_model.specs.Disks.{Image, Machine, Span, DiskSector, with_sector}
use Rattle.lilo_model.specs.BootSector as maps
use Rattle.lilo_model.specs.BootSector.{BootSector, boot_at, is_bootable}
use Rattle.lilo_model.specs.Table.{Descriptor, other_flag, lock_flag, video_flag, table_flag}
use Rattle.lilo_model.specs.DefaultLine.{DefaultLine, line_after}
use Rattle.lilo_model.specs.Header.{header_at, plan_memory}
use Rattle.lilo_model.specs.LineSector.{is_same_line, line_bytes}
use Rattle.lilo_model.specs.Place.{first_two, written_by}
use Rattle.lilo_model.specs.Prompt.{Key, Picked, Decision, Opening}
use Rattle.lilo_model.specs.Reason as reasons
use Rattle.lilo_model.specs.Reason.{Reason, NotBootable, BadTable, NotFound, Idle, map_reason}
use Rattle.lilo_model.specs.Section.{file_content}
use Rattle.lilo_model.specs.Slots as slots
use Rattle.lilo_model.specs.Slots.{place_at}
use Rattle.lilo_model.specs.Boot.{Loaded, Handed, Ending, MapSectors, GoodMap, boot_address, table_address, error_text, entry_has, present_line, map_sectors}
use Rattle.lilo_model.specs.Boot.{good_map, listed_entries, settings_of, opening_at, fallback_of, middle_of, initrd_size, main_of, initrd_of, picked_entry}
use Rattle.lilo_model.specs.Boot.{picked_line, video_of}
use Rattle.section_loader.specs.Reading.{FileRest, content_rest}
use Rattle.prompt_loop.specs.Message.{no_rest}

-- ---- an entry

-- a file was read as a whole
abbrev pub whole_read : FileRest → Result (Unit {0}) Reason
whole_read rest = no_fault rest.stop

-- its first two sectors were read
abbrev pub first_two_read : ℕ → FileRest → Result (Unit {0}) Reason
first_two_read len main = if nat_lt (length main.bytes) (min len 1024) then whole_read main else Ok tt

-- an initrd was read as a whole, or there is none
abbrev pub initrd_read : Option FileRest → Result (Option (List ℕ)) Reason
initrd_read None = Ok None
initrd_read (Some rest) = whole_read rest >>= λ a. Ok (Some rest.bytes)

-- another system's boot sector, with the partition table that goes with it
unfoldable pub handed_by : Descriptor → FileRest → Result Ending Reason
handed_by entry main = do
  a ← whole_read main
  Ok (record {
    outcome = Handed;
    written =
        (if entry_has entry table_flag then record { address = table_address; bytes = part_of main.bytes (512 + 446) 64 } ∷ [] else [])
        ++ (record { address = boot_address; bytes = part_of main.bytes 0 512 } ∷ []);
  })

-- a kernel and its initrd, with a command line
unfoldable pub loaded_by : Descriptor → FileRest → Option FileRest → List ℕ → Option ℕ → ℕ → Result Ending Reason
loaded_by entry main initrd line video memory = do
  a ← first_two_read entry.main_length main
  header ← with_fault reasons.Header (header_at (first_two main.bytes) entry.main_length)
  layout ← with_fault reasons.Header (plan_memory header entry.main_length (initrd_size entry) (length line) memory)
  b ← whole_read main
  bytes ← initrd_read initrd
  Ok (record {
    outcome = Loaded layout;
    written = written_by header layout main.bytes bytes line video;
  })

-- the main file of an entry
unfoldable pub main_rest : Image → Machine → Descriptor → FileRest
main_rest image machine entry = content_rest (main_of image machine entry)

-- the initrd of an entry
unfoldable pub initrd_rest : Image → Machine → Descriptor → Option FileRest
initrd_rest image machine entry = option_map content_rest (initrd_of image machine entry)

-- the video mode that an entry is configured with
abbrev pub configured_video : Descriptor → Option ℕ
configured_video entry = if entry_has entry video_flag then Some entry.vga else None

-- the other system that an entry hands over to
abbrev pub other_by : Image → Machine → Descriptor → Result Ending Reason
other_by image machine entry = handed_by entry (main_rest image machine entry)

-- the kernel that an entry loads with a command line and a video mode, in a memory of so many bytes
abbrev pub kernel_by : Image → Machine → Descriptor → List ℕ → Option ℕ → ℕ → Result Ending Reason
kernel_by image machine entry line video memory =
    loaded_by entry (main_rest image machine entry) (initrd_rest image machine entry) line video memory

-- what an entry loads with a command line and a video mode
unfoldable pub entry_by : Image → Machine → Descriptor → List ℕ → Option ℕ → ℕ → Result Ending Reason
entry_by image machine entry line video memory =
    if entry_has entry other_flag then other_by image machine entry else kernel_by image machine entry line video memory

-- ---- the prompt

-- what is read of a message of so many bytes, where there is one
abbrev pub message_by : Image → Machine → ℕ → ℕ → Option slots.Slot → FileRest
message_by image machine len chain None = no_rest
message_by image machine len chain (Some slot) = content_rest (file_content image machine slot len chain)

-- what is read of a map's message
unfoldable pub message_read : Image → Machine → BootSector → FileRest
message_read image machine boot = message_by image machine boot.message_length boot.message_chain boot.message

-- what keys choose, with what is read of the message at its place
unfoldable pub decision_read : Image → Machine → BootSector → GoodMap → List Key → Decision
decision_read image machine boot good keys =
    choice
    (settings_of boot)
    (listed_entries image machine good)
    good.line
    (Some (message_read image machine boot).bytes)
    keys

-- ---- the default line

-- the bytes of a default line, and the sector where they are written
pub record LineWrite : Type 0 where
  pub place : DiskSector
  pub bytes : List ℕ

-- what is written at a slot, so that the default line is another: nothing where it is the same
abbrev pub line_write : Machine → slots.Slot → DefaultLine → DefaultLine → Option LineWrite
line_write machine slot old new =
    if is_same_line old new
    then None
    else option_map (λ place. record { place = place; bytes = line_bytes new }) (result_ok (place_at machine slot 0))

-- an image once that is written
abbrev pub image_with : Image → Option LineWrite → Image
image_with image None = image
image_with image (Some write) = with_sector image write.place write.bytes

-- the line to lock on after a choice of an entry, with the word `lock` or without
abbrev pub locked_line : Descriptor → Bool → List ℕ → Option (List ℕ)
locked_line entry lock text = if entry_has entry lock_flag || lock then Some text else None

-- the default line after such a choice
abbrev pub chosen_line : Image → Machine → Descriptor → DefaultLine → Bool → List ℕ → DefaultLine
chosen_line image machine entry line lock text =
    line_after line (locked_line entry lock text) (filled_text (fallback_of image machine entry))

-- ---- the boot

-- what a boot comes to, what it shows, what it may have shown where a disk failed, what where no key was heard as the
-- source failed, the keys that it leaves, and what it writes of the default line
pub record Report : Type 0 where
  pub result : Result Ending Reason
  pub shown : List ℕ
  pub device : List (List ℕ)
  pub unheard : List (List ℕ)
  pub left : List Key
  pub write : Option LineWrite

-- a report with a text before it
abbrev pub report_behind : List ℕ → Report → Report
report_behind text report = record {
  result = report.result;
  shown = text ++ report.shown;
  device = map (λ shown. text ++ shown) report.device;
  unheard = map (λ shown. text ++ shown) report.unheard;
  left = report.left;
  write = report.write;
}

-- a report of which a step before it may fail too, and then shows this
abbrev pub or_device : List ℕ → Report → Report
or_device text report = record report { device = text ∷ report.device }

-- a report of a boot that writes this of the default line
abbrev pub writing_report : Option LineWrite → Report → Report
writing_report write report = record report { write = write }

-- a refusal while these keys are left
abbrev pub refused_report : List ℕ → Reason → List Key → Report
refused_report text why left =
    record { result = Err why; shown = text; device = []; unheard = []; left = left; write = None }

-- the prefixes of a text
abbrev pub prefixes : List ℕ → List (List ℕ)
prefixes [] = [] ∷ []
prefixes (byte ∷ text) = [] ∷ map (λ front. byte ∷ front) (prefixes text)

-- A report of what comes after a prompt that showed this text and left these keys: where a disk or the source of keys
-- failed there, a prefix of it.
abbrev pub asking_report : List ℕ → List Key → Report → Report
asking_report text left report = record {
  result = report.result;
  shown = text ++ report.shown;
  device = map (λ front. front ++ codes "Error 80\n") (prefixes text) ++ map (λ shown. text ++ shown) report.device;
  unheard = prefixes text;
  left = left;
  write = report.write;
}

-- the text after what is loaded, or after a refusal
abbrev pub end_text : Result Ending Reason → List ℕ
end_text (Ok ending) = []
end_text (Err why) = error_text why

-- an entry that is loaded with a command line and a video mode; no key is taken there
unfoldable pub entry_report : Image → Machine → Descriptor → List ℕ → Option ℕ → ℕ → Report
entry_report image machine entry line video memory =
    report_behind (codes "Loading " ++ (entry.name ++ codes "\n"))
    (record {
      result = entry_by image machine entry line video memory;
      shown = end_text (entry_by image machine entry line video memory);
      device = codes "Error 80\n" ∷ [];
      unheard = [];
      left = [];
      write = None;
    })

-- a chosen entry with this middle text, which is loaded from what the disks hold once this is written of the default
-- line
abbrev pub line_report : Image → Machine → Descriptor → Picked → Option LineWrite → ℕ → List ℕ → Report
line_report image machine entry picked write memory middle =
    writing_report write
    (entry_report (image_with image write) machine entry (picked_line entry picked middle) (video_of entry picked) memory)

-- a chosen entry by its middle text
abbrev pub middle_report : Image → Machine → Descriptor → Picked → Option LineWrite → ℕ → Result (List ℕ) Reason → Report
middle_report image machine entry picked write memory (Err reason) = refused_report (error_text reason) reason []
middle_report image machine entry picked write memory (Ok middle) = line_report image machine entry picked write memory middle

-- a chosen entry whose texts are read; a write of the default line may fail there too
unfoldable pub texts_report : Image → Machine → Descriptor → Picked → Option LineWrite → ℕ → Report
texts_report image machine entry picked write memory =
    or_device (codes "Error 80\n")
    (middle_report image machine entry picked write memory (middle_of image machine entry))

-- an entry that was chosen, or none
abbrev pub picked_report : Image → Machine → Option LineWrite → ℕ → Option (Descriptor × Picked) → Report
picked_report image machine write memory None = refused_report [] Idle []
picked_report image machine write memory (Some (entry, picked)) = texts_report image machine entry picked write memory

-- what was picked, with this default line from then on
unfoldable pub decided_report : Image → Machine → slots.Slot → GoodMap → ℕ → DefaultLine → Option Picked → Report
decided_report image machine slot good memory line picked =
    picked_report image machine (line_write machine slot good.line line) memory (picked_entry good.entries picked)

-- a prompt that comes to a decision, unless the message is refused where it opens
abbrev pub prompt_report : Image → Machine → slots.Slot → GoodMap → ℕ → FileRest → Decision → Option Reason → Option Opening → Report
prompt_report image machine slot good memory message decision None opens =
    asking_report decision.shown decision.left (decided_report image machine slot good memory decision.line decision.picked)
prompt_report image machine slot good memory message decision (Some why) None =
    asking_report decision.shown decision.left (decided_report image machine slot good memory decision.line decision.picked)
prompt_report image machine slot good memory message decision (Some why) (Some opens) =
    asking_report (opens.before ++ message.bytes) opens.left (refused_report (error_text why) why [])

-- a prompt that is given these keys
unfoldable pub asked_report : Image → Machine → BootSector → ℕ → GoodMap → List Key → Report
asked_report image machine boot memory good keys =
    prompt_report
    image
    machine
    boot.line
    good
    memory
    (message_read image machine boot)
    (decision_read image machine boot good keys)
    (message_read image machine boot).stop
    (opening_at image machine boot good keys)

-- a map that is good
unfoldable pub good_report : Image → Machine → BootSector → ℕ → GoodMap → List Key → Report
good_report image machine boot memory good keys =
    report_behind (codes "O\n") (asked_report image machine boot memory good keys)

-- a map that was judged
abbrev pub judged_report : Image → Machine → BootSector → ℕ → List Key → Result GoodMap maps.MapFault → Report
judged_report image machine boot memory keys (Err fault) = refused_report (codes "-\n") (map_reason fault) keys
judged_report image machine boot memory keys (Ok good) = good_report image machine boot memory good keys

-- a map whose sectors were read
unfoldable pub sectors_report : Image → Machine → BootSector → ℕ → MapSectors → List Key → Report
sectors_report image machine boot memory sectors keys =
    report_behind (codes "IL") (judged_report image machine boot memory keys (good_map sectors))

-- a map whose sectors are there, or not
abbrev pub found_report : Image → Machine → BootSector → ℕ → List Key → Result MapSectors slots.AddressFault → Report
found_report image machine boot memory keys (Err fault) = refused_report (codes " 04\n") NotFound keys
found_report image machine boot memory keys (Ok sectors) = sectors_report image machine boot memory sectors keys

-- a boot by a boot sector of this format
unfoldable pub map_report : Image → Machine → BootSector → ℕ → List Key → Report
map_report image machine boot memory keys =
    report_behind (codes "L")
    (or_device (codes " 80\n") (found_report image machine boot memory keys (map_sectors image machine boot)))

-- a boot sector of another system
unfoldable pub foreign_report : List ℕ → List Key → Report
foreign_report bytes keys = record {
  result = (if is_bootable bytes then Ok (record { outcome = Handed; written = record { address = boot_address; bytes = bytes } ∷ [] }) else Err NotBootable);
  shown = [];
  device = [];
  unheard = [];
  left = keys;
  write = None;
}

-- a boot by what a sector says as a boot sector
abbrev pub report_by : Image → Machine → List ℕ → ℕ → Result BootSector maps.MapFault → List Key → Report
report_by image machine bytes memory (Ok boot) keys = map_report image machine boot memory keys
report_by image machine bytes memory (Err (maps.BadTable entry)) keys = refused_report (codes "LIL-\n") (BadTable entry) keys
report_by image machine bytes memory (Err _) keys = foreign_report bytes keys

-- what a boot from the first sector of a span does with these keys
unfoldable pub boot_report : Image → Machine → Span → ℕ → List Key → Report
boot_report image machine span memory keys =
    or_device []
    (report_by image machine (image span.disk span.start) memory (boot_at (image span.disk span.start)) keys)

-- ---- what the model's boot writes

-- what is written so that the default line that is there, if there is one, is another
abbrev pub present_write : Machine → slots.Slot → Option DefaultLine → Option DefaultLine → Option LineWrite
present_write machine slot (Some old) (Some new) = line_write machine slot old new
present_write machine slot None new = None
present_write machine slot (Some old) None = None

-- the same by what a sector says as a boot sector
abbrev pub write_by : Image → Machine → Result BootSector maps.MapFault → Option DefaultLine → Option LineWrite
write_by image machine (Ok boot) new = present_write machine boot.line (present_line image machine boot) new
write_by image machine (Err fault) new = None

-- what a boot writes whose default line is this from then on
unfoldable pub boot_write : Image → Machine → Span → Option DefaultLine → Option LineWrite
boot_write image machine span new = write_by image machine (boot_at (image span.disk span.start)) new
