-- Disks that show a menu boot as it says.
use Rattle.std.proofs.Common.{◌≡◌, ℕ, zero, suc, Bool, true, false, List, [], ◌∷◌, ◌++◌, length, codes, Option, None, Some, option_map, Result, Ok, Err, refl, sym, ap, subst, ◌∙◌, arith, append-nil, append_assoc}
use Rattle.std.specs.Prelude.{slice_get, nat_lt, min, take, drop, ◌+◌}
use Rattle.std.proofs.Math.Seq.{drop-append-add, take-append_seam}
use Rattle.std.specs.Option.{option_or}
use Rattle.lilo_model.specs.Bytes.{part_of}
use Rattle.lilo_model.specs.Checks.{◌>>=◌, with_fault}
use Rattle.lilo_model.specs.Disks.{Image, Machine, Span, DiskSector}
use Rattle.lilo_model.specs.Slots.{place_at}
use Rattle.lilo_model.specs.BootSector.{BootSector}
use Rattle.lilo_model.specs.Table.{Descriptor}
use Rattle.lilo_model.specs.LineSector.{is_same_line}
use Rattle.lilo_model.specs.DefaultLine.{DefaultLine}
use Rattle.lilo_model.specs.Prompt.{Key, Picked, Decision, Opening}
use Rattle.lilo_model.specs.Section.{Content}
use Rattle.lilo_model.specs.Header as header
use Rattle.lilo_model.specs.Header.{SetupFault, Header, header_at, plan_memory}
use Rattle.lilo_model.specs.Place.{first_two, command_line, place, written_by}
use Rattle.lilo_model.specs.Reason as reasons
use Rattle.lilo_model.specs.Reason.{Reason}
use Rattle.lilo_model.specs.Boot.{Ending, message_of, message_check, middle_of, initrd_check, loaded_ending, kernel_ending, handed_ending, entry_ending, ended_boot, chosen_boot, picked_entry, decided_boot, decision_at, opening_at, prompted_boot, map_boot, image_with_line, line_written, whole_boot, error_text, Loaded, Handed, Refused}
use Rattle.lilo_model.specs.Meant.{Target, Kernel, System, MenuEntry, Menu, Start, kernel_start, started, started_boot, decided, menu_pick, menu_decision, menu_boot}
use Rattle.map_laws.specs.Shows.{whole, ShowsKernel, ShowsSystem, ShowsTarget, target_middle, ShowsEntry, ShowsEntries, Shows, ShowsLaw}

-- what a loader's ending is, seen as the start of an entry
abbrev pub start_of : Result Ending Reason → Start
start_of (Ok ending) = record { outcome = ending.outcome; shown = []; written = ending.written }
start_of (Err reason) = record { outcome = Refused reason; shown = error_text reason; written = [] }

-- ---- what an entry loads

first_two_there : (bytes : List ℕ) → nat_lt (length bytes) (min (length bytes) 1024) ≡ false
first_two_there bytes = grind arith

take-prefix : (first others : List ℕ) → length first ≡ 512 → take 512 (first ++ others) ≡ first
take-prefix first others long = subst (λ n. take n (first ++ others) ≡ first) long (take-append_seam first others)

drop-after : (first others : List ℕ) (n : ℕ) → length first ≡ 512 → drop (512 + n) (first ++ others) ≡ drop n others
drop-after first others n long = subst (λ m. drop (m + n) (first ++ others) ≡ drop n others) long (drop-append-add first others n)

module _ (image : Image) (machine : Machine) (entry : Descriptor) (picked : Picked) (memory : ℕ) where
  kernel-shown : (bytes : List ℕ) (initrd : Option (List ℕ)) (middle : List ℕ) (video : Option ℕ)
      → ShowsKernel image machine entry bytes initrd video
      → start_of (entry_ending image machine entry picked middle memory) ≡ started (Kernel bytes initrd middle video) entry.name picked memory
  unfolding entry_ending kernel_ending loaded_ending started place
  kernel-shown bytes initrd middle video shows =
      rw (shows.kernel, shows.main, shows.initrd_is, shows.initrd_size_is, shows.video_is, shows.size, first_two_there bytes) (by-header (header_at (first_two bytes) (length bytes)))
    where
      line : List ℕ
      line = command_line picked.automatic entry.name middle picked.words

      mode : Option ℕ
      mode = option_or picked.vga video

      by-layout : (found : Header) (layout : Result header.Layout SetupFault)
          → start_of (with_fault reasons.Header layout >>= λ layout. initrd_check (option_map whole initrd) >>= λ given. Ok (record { outcome = Loaded layout; written = written_by found layout bytes given line mode }))
          ≡ kernel_start (layout >>= λ layout. Ok (record { layout = layout; written = written_by found layout bytes initrd line mode }))
      by-layout found (Err fault) = refl
      by-layout found (Ok layout) = given initrd
        where
          given : (initrd : Option (List ℕ))
              → start_of (initrd_check (option_map whole initrd) >>= λ given. Ok (record { outcome = Loaded layout; written = written_by found layout bytes given line mode }))
              ≡ record { outcome = Loaded layout; shown = []; written = written_by found layout bytes initrd line mode }
          given None = refl
          given (Some bytes) = refl

      by-header : (found : Result Header SetupFault)
          → start_of (with_fault reasons.Header found >>= λ found. with_fault reasons.Header (plan_memory found (length bytes) (option_map length initrd) (length line) memory) >>= λ layout. initrd_check (option_map whole initrd) >>= λ given. Ok (record { outcome = Loaded layout; written = written_by found layout bytes given line mode }))
          ≡ kernel_start (found >>= λ found. plan_memory found (length bytes) (option_map length initrd) (length line) memory >>= λ layout. Ok (record { layout = layout; written = written_by found layout bytes initrd line mode }))
      by-header (Err fault) = refl
      by-header (Ok found) = by-layout found (plan_memory found (length bytes) (option_map length initrd) (length line) memory)

  system-shown : (sector : List ℕ) (table : Option (List ℕ)) (middle : List ℕ)
      → ShowsSystem image machine entry sector table
      → start_of (entry_ending image machine entry picked middle memory) ≡ started (System sector table) entry.name picked memory
  unfolding entry_ending handed_ending started
  system-shown sector None middle shows =
      rw (shows.other, shows.has_table, shows.main) (ap (λ bytes. record { outcome = Handed; shown = []; written = record { address = 0x7C00; bytes = bytes } ∷ [] }) shows.prefix)
  system-shown sector (Some table) middle shows =
      rw (shows.other, shows.has_table, shows.main)
      (ap (λ bytes. record { outcome = Handed; shown = []; written = record { address = 0x7BE; bytes = part_of shows.bytes 958 64 } ∷ (record { address = 0x7C00; bytes = bytes } ∷ []) }) shows.prefix
      ∙ ap (λ bytes. record { outcome = Handed; shown = []; written = record { address = 0x7BE; bytes = bytes } ∷ (record { address = 0x7C00; bytes = sector } ∷ []) }) shows.suffix)

  -- what an entry of the menu starts
  target-shown : (target : Target) → ShowsTarget image machine entry target
      → start_of (entry_ending image machine entry picked (target_middle target) memory) ≡ started target entry.name picked memory
  target-shown (Kernel bytes initrd middle video) shows = kernel-shown bytes initrd middle video shows
  target-shown (System sector table) shows = system-shown sector table [] shows

-- ---- the boot from a choice on

texts-joined : (a b c d e : List ℕ) → (a ++ b ++ c ++ d) ++ e ≡ a ++ b ++ c ++ d ++ e
texts-joined a b c d e = simp append_assoc

-- a boot by its end is that by its start
texts-after : (b c d e f : List ℕ) → (b ++ c ++ d ++ e) ++ f ≡ b ++ c ++ d ++ e ++ f
texts-after b c d e f = simp append_assoc

ended-start : (name : List ℕ) (decision : Decision) (ending : Result Ending Reason)
    → ended_boot (codes "LILO\n" ++ decision.shown ++ codes "Loading " ++ name ++ codes "\n") decision.line decision.left ending
    ≡ started_boot name decision (start_of ending)
ended-start name decision (Ok ending) =
    ap (λ shown. record { outcome = ending.outcome; shown = codes "LILO\n" ++ shown; line = Some decision.line; written = ending.written; left = decision.left })
    (sym (append-nil (decision.shown ++ codes "Loading " ++ name ++ codes "\n")) ∙ texts-after decision.shown (codes "Loading ") name (codes "\n") [])
ended-start name decision (Err reason) =
    ap (λ shown. record { outcome = Refused reason; shown = codes "LILO\n" ++ shown; line = Some decision.line; written = []; left = decision.left }) (texts-after decision.shown (codes "Loading ") name (codes "\n") (error_text reason))

module _ (image : Image) (machine : Machine) (boot : BootSector) (line_place : DiskSector) (line_at : place_at machine boot.line 0 ≡ Ok line_place) where
  -- what an entry shows, it shows in the image with the new default line
  written-target : (entry : Descriptor) (meant : MenuEntry) (line new : DefaultLine) → ShowsEntry image machine line_place entry meant
      → ShowsTarget (image_with_line image machine boot line new) machine entry meant.target
  unfolding image_with_line
  written-target entry meant line new shows = rw line_at (by-line (is_same_line line new))
    where
      by-line : (same : Bool) → ShowsTarget (line_written image new same (Ok line_place)) machine entry meant.target
      by-line true = shows.now
      by-line false = shows.after new

  chosen-shown : (entry : Descriptor) (meant : MenuEntry) (line : DefaultLine) (picked : Picked) (decision : Decision) (memory : ℕ)
      → ShowsEntry image machine line_place entry meant
      → chosen_boot image machine boot line entry picked decision memory (middle_of image machine entry)
      ≡ started_boot meant.listed.name decision (started meant.target meant.listed.name picked memory)
  unfolding chosen_boot
  chosen-shown entry meant line picked decision memory shows =
      let image' = image_with_line image machine boot line decision.line in
      rw shows.middle
      (ended-start entry.name decision (entry_ending image' machine entry picked (target_middle meant.target) memory)
      ∙ ap (started_boot entry.name decision) (target-shown image' machine entry picked memory meant.target (written-target entry meant line decision.line shows))
      ∙ ap (λ name. started_boot name decision (started meant.target name picked memory)) shows.name)

  -- an entry of the table and of the menu at one place
  decided-shown : (menu : Menu) (line : DefaultLine) (decision : Decision) (memory : ℕ) (picked : Picked) (index : ℕ) (entries : List Descriptor) (meant : List MenuEntry)
      → ShowsEntries image machine line_place entries meant
      → decided_boot image machine boot line decision memory (option_map (λ entry. (entry, picked)) (slice_get entries index))
      ≡ decided menu line decision memory (Some picked) (slice_get meant index)
  decided-shown menu line decision memory picked index [] [] shows = refl
  decided-shown menu line decision memory picked index [] (first ∷ meant) shows = absurd shows
  decided-shown menu line decision memory picked index (entry ∷ entries) [] shows = absurd shows
  decided-shown menu line decision memory picked zero (entry ∷ entries) (first ∷ meant) shows = chosen-shown entry first line picked decision memory shows.0
  decided-shown menu line decision memory picked (suc index) (entry ∷ entries) (first ∷ meant) shows = decided-shown menu line decision memory picked index entries meant shows.1

  picked-shown : (menu : Menu) (line : DefaultLine) (decision : Decision) (memory : ℕ) (picked : Option Picked) (entries : List Descriptor)
      → ShowsEntries image machine line_place entries menu.entries
      → decided_boot image machine boot line decision memory (picked_entry entries picked)
      ≡ decided menu line decision memory picked (menu_pick menu.entries picked)
  picked-shown menu line decision memory None entries shows = refl
  picked-shown menu line decision memory (Some picked) entries shows = decided-shown menu line decision memory picked picked.entry entries menu.entries shows

-- ---- the whole boot

message-bytes : (message : Option (List ℕ)) → option_map (λ (content : Content). content.bytes) (option_map whole message) ≡ message
message-bytes None = refl
message-bytes (Some bytes) = refl

message-good : (line : DefaultLine) (opens : Option Opening) (message : Option (List ℕ)) → message_check line opens (option_map whole message) ≡ Ok tt
message-good line None message = refl
message-good line (Some opens) None = refl
message-good line (Some opens) (Some bytes) = refl

module _ (image : Image) (machine : Machine) (span : Span) (menu : Menu) (line : DefaultLine) (keys : List Key) (memory : ℕ) (shows : Shows image machine span menu line) where
  decision-shown : decision_at image machine shows.boot shows.good (message_of image machine shows.boot) keys ≡ menu_decision menu line keys
  unfolding decision_at menu_decision
  decision-shown = rw (shows.settings, shows.listed, shows.line_is, shows.message, message-bytes menu.message) refl

  prompted-shown : prompted_boot image machine shows.boot shows.good (message_of image machine shows.boot) keys memory ≡ menu_boot menu line keys memory
  unfolding prompted_boot menu_boot
  prompted-shown =
      rw (decision-shown, shows.line_is)
      (picked-shown image machine shows.boot shows.line_place shows.line_at menu line (menu_decision menu line keys) memory (menu_decision menu line keys).picked shows.good.entries shows.entries)

  map-shown : map_boot image machine shows.boot keys memory ≡ menu_boot menu line keys memory
  unfolding map_boot
  map-shown = rw (shows.reads, shows.is_good) (rw (check) prompted-shown)
    where
      check : message_check shows.good.line (opening_at image machine shows.boot shows.good keys) (message_of image machine shows.boot) ≡ Ok tt
      check = rw shows.message (message-good shows.good.line (opening_at image machine shows.boot shows.good keys) menu.message)

pub shows_law : ShowsLaw
unfolding whole_boot
shows_law image machine span menu line keys memory shows = rw shows.says (map-shown image machine span menu line keys memory shows)
