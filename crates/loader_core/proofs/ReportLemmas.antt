-- What is reported of a boot is the model's boot.
use Rattle.std.proofs.Common.{◌≡◌, ℕ, Bool, true, false, refl, sym, ◌∙◌, ap, subst, List, [], ◌∷◌, ◌++◌, append-nil, append_assoc, Option, None, Some, option_map, Result, Ok, Err, codes}
use Rattle.lilo_model.specs.Checks.{◌>>=◌, with_fault}
use Rattle.lilo_model.specs.Choice.{choice}
use Rattle.lilo_model.specs.Disks.{Image, Machine}
use Rattle.lilo_model.specs.BootSector as maps
use Rattle.lilo_model.specs.BootSector.{BootSector, boot_at, is_bootable}
use Rattle.lilo_model.specs.DefaultLine.{DefaultLine}
use Rattle.lilo_model.specs.Prompt.{Key, Picked, Decision, Opening}
use Rattle.lilo_model.specs.Reason.{Reason, section_reason, map_reason}
use Rattle.lilo_model.specs.Section.{SectionFault, Content, file_content}
use Rattle.lilo_model.specs.Slots as slots
use Rattle.lilo_model.specs.Table.{Descriptor}
use Rattle.lilo_model.specs.Boot.{Boot, Ending, MapSectors, GoodMap, error_text, refused_boot, foreign_boot, present_line, map_sectors, good_map, settings_of, listed_entries, message_of, message_check, message_stop, middle_of, image_with_line, entry_ending, ended_boot, chosen_boot, picked_entry, picked_line, video_of, decided_boot, decision_at, opening_at, prompted_boot, end_of, map_boot, boot_by, whole_boot}
use Rattle.section_loader.specs.Reading.{content_rest}
use Rattle.prompt_loop.specs.Message.{no_rest}
use Rattle.loader_core.specs.Report.{LineWrite, line_write, present_write, write_by, boot_write, image_with, Report, message_by, message_read, decision_read, report_behind, or_device, writing_report, asking_report, entry_by, entry_report, middle_report, texts_report, picked_report, decided_report, prompt_report, asked_report, good_report, judged_report, sectors_report, map_report, foreign_report, report_by, boot_report, end_text}
use Rattle.loader_core.specs.Laws.{IsReported, ReportLaw}
use Rattle.loader_core.proofs.EndLemmas.{entry_same}
use Rattle.loader_core.proofs.ChoiceLemmas.{line_stands, write_none, present_none, image_same}

-- a report after the texts before the prompt
abbrev behind : Report → Report
behind report =
    report_behind (codes "L") (or_device (codes " 80\n") (report_behind (codes "IL") (report_behind (codes "O\n") report)))

-- what is written for a line, where this one is there
abbrev from_line : Machine → BootSector → DefaultLine → Option DefaultLine → Option LineWrite
from_line machine boot line new = present_write machine boot.line (Some line) new

-- ---- an entry

-- the report of an entry that is loaded
abbrev end_report : List ℕ → Option LineWrite → Result Ending Reason → Report
end_report name write result =
    or_device (codes "Error 80\n")
    (writing_report write
    (report_behind (codes "Loading " ++ (name ++ codes "\n"))
    (record { result = result; shown = end_text result; device = codes "Error 80\n" ∷ []; unheard = []; left = []; write = None })))

-- the text before the end of an entry that is loaded, as the model joins it and as a report does
loading_joins :
    (text name : List ℕ)
    → codes "LILO\n" ++ text ++ codes "Loading " ++ name ++ codes "\n" ≡ codes "LILO\n" ++ (text ++ (codes "Loading " ++ (name ++ codes "\n")))
loading_joins text name =
    let loading = codes "Loading " in
    ap (λ t. codes "LILO\n" ++ t) (append_assoc (text ++ loading) name (codes "\n") ∙ append_assoc text loading (name ++ codes "\n"))

end_reports :
    (machine : Machine) (boot : BootSector) (line new : DefaultLine) (name text : List ℕ) (left : List Key) (result : Result Ending Reason)
    → IsReported (ended_boot (codes "LILO\n" ++ text ++ codes "Loading " ++ name ++ codes "\n") new left result)
    (behind (asking_report text left (end_report name (line_write machine boot.line line new) result))) (from_line machine boot line)
end_reports machine boot line new name text left (Ok ending) =
    let all = append-nil (codes "Loading " ++ (name ++ codes "\n")) in
    record { ends = (refl, refl); shown = loading_joins text name ∙ ap (λ t. codes "LILO\n" ++ (text ++ t)) (sym all); left = refl; written = refl }
end_reports machine boot line new name text left (Err reason) =
    let joined = append_assoc text (codes "Loading " ++ (name ++ codes "\n")) (error_text reason) in
    record { ends = refl; shown = ap (λ t. t ++ error_text reason) (loading_joins text name) ∙ ap (λ t. codes "LILO\n" ++ t) joined; left = refl; written = refl }

entry_reports :
    (image : Image) (machine : Machine) (boot : BootSector) (line new : DefaultLine) (entry : Descriptor) (picked : Picked) (text middle : List ℕ) (left : List Key) (memory : ℕ)
    → IsReported
    (ended_boot (codes "LILO\n" ++ text ++ codes "Loading " ++ entry.name ++ codes "\n") new left
    (entry_ending (image_with_line image machine boot line new) machine entry picked middle memory))
    (behind (asking_report text left (or_device (codes "Error 80\n") (writing_report (line_write machine boot.line line new)
    (entry_report (image_with image (line_write machine boot.line line new)) machine entry (picked_line entry picked middle) (video_of entry picked) memory)))))
    (from_line machine boot line)
unfolding entry_report
entry_reports image machine boot line new entry picked text middle left memory =
    let held = image_with image (line_write machine boot.line line new) in
    rw (image_same image machine boot line new, ← entry_same held machine entry picked middle memory)
    (end_reports machine boot line new entry.name text left (entry_by held machine entry (picked_line entry picked middle) (video_of entry picked) memory))

middle_reports :
    (image : Image) (machine : Machine) (boot : BootSector) (line : DefaultLine) (entry : Descriptor) (picked : Picked) (decision : Decision) (memory : ℕ)
    (middle : Result (List ℕ) Reason)
    → IsReported
    (chosen_boot image machine boot line entry picked decision memory middle)
    (behind (asking_report decision.shown decision.left (or_device (codes "Error 80\n") (middle_report image machine entry picked (line_write machine boot.line line decision.line) memory middle))))
    (from_line machine boot line)
unfolding chosen_boot
middle_reports image machine boot line entry picked decision memory (Err reason) =
    record { ends = refl; shown = refl; left = refl; written = sym (write_none machine boot.line line) }
middle_reports image machine boot line entry picked decision memory (Ok middle) =
    entry_reports image machine boot line decision.line entry picked decision.shown middle decision.left memory

-- ---- the prompt

picked_reports :
    (image : Image) (machine : Machine) (boot : BootSector) (line : DefaultLine) (decision : Decision) (memory : ℕ) (found : Option (Descriptor × Picked))
    → IsReported
    (decided_boot image machine boot line decision memory found)
    (behind (asking_report decision.shown decision.left (picked_report image machine (line_write machine boot.line line decision.line) memory found)))
    (from_line machine boot line)
unfolding texts_report
picked_reports image machine boot line decision memory None =
    let all = append-nil decision.shown in
    record { ends = refl; shown = ap (λ t. codes "LILO\n" ++ t) (sym all); left = refl; written = sym (write_none machine boot.line line) }
picked_reports image machine boot line decision memory (Some (entry, picked)) =
    middle_reports image machine boot line entry picked decision memory (middle_of image machine entry)

-- a prompt that isn't stopped
decided_reports :
    (image : Image) (machine : Machine) (boot : BootSector) (good : GoodMap) (message : Option Content) (decision : Decision) (keys : List Key) (memory : ℕ)
    → decision_at image machine boot good message keys ≡ decision
    → IsReported
    (prompted_boot image machine boot good message keys memory)
    (behind (asking_report decision.shown decision.left (decided_report image machine boot.line good memory decision.line decision.picked)))
    (from_line machine boot good.line)
unfolding prompted_boot decided_report
decided_reports image machine boot good message decision keys memory same =
    rw same (picked_reports image machine boot good.line decision memory (picked_entry good.entries decision.picked))

-- a boot that is stopped by its message, or goes on
abbrev asked_boot : Image → Machine → BootSector → GoodMap → Option Content → List Key → ℕ → Option Opening → Boot
asked_boot image machine boot good message keys memory opens =
    end_of (message_check good.line opens message >>= λ a. Ok (prompted_boot image machine boot good message keys memory))

-- the decision, by what was read of the message
abbrev decision_by : Image → Machine → BootSector → GoodMap → List ℕ → List Key → Decision
decision_by image machine boot good bytes keys =
    choice (settings_of boot) (listed_entries image machine good) good.line (Some bytes) keys

decision_some :
    (image : Image) (machine : Machine) (boot : BootSector) (good : GoodMap) (content : Content) (keys : List Key)
    → decision_at image machine boot good (Some content) keys ≡ decision_by image machine boot good content.bytes keys
unfolding decision_at
decision_some image machine boot good content keys = refl

decision_none :
    (image : Image) (machine : Machine) (boot : BootSector) (good : GoodMap) (keys : List Key)
    → decision_at image machine boot good None keys ≡ decision_by image machine boot good [] keys
unfolding decision_at
decision_none image machine boot good keys = refl

-- a message is refused where the prompt opens
stopped_reports :
    (image : Image) (machine : Machine) (boot : BootSector) (good : GoodMap) (next : Unit {0} → Result Boot Boot) (memory : ℕ) (content : Content) (decision : Decision)
    (opens : Opening) (fault : SectionFault)
    → IsReported (end_of (message_stop good.line opens content (Some fault) >>= next))
    (behind (prompt_report image machine boot.line good memory (content_rest content) decision (Some (section_reason fault)) (Some opens)))
    (from_line machine boot good.line)
stopped_reports image machine boot good next memory content decision opens fault =
    record { ends = refl; shown = refl; left = refl; written = sym (write_none machine boot.line good.line) }

-- a map without a message
none_reports :
    (image : Image) (machine : Machine) (boot : BootSector) (good : GoodMap) (keys : List Key) (memory : ℕ) (opens : Option Opening)
    → IsReported (asked_boot image machine boot good None keys memory opens)
    (behind (prompt_report image machine boot.line good memory no_rest (decision_by image machine boot good [] keys) None opens))
    (from_line machine boot good.line)
none_reports image machine boot good keys memory None =
    decided_reports image machine boot good None (decision_by image machine boot good [] keys) keys memory (decision_none image machine boot good keys)
none_reports image machine boot good keys memory (Some opens) =
    decided_reports image machine boot good None (decision_by image machine boot good [] keys) keys memory (decision_none image machine boot good keys)

-- a file with these bytes, and this in place of more
abbrev content_with : List ℕ → Option SectionFault → Content
content_with bytes refusal = record { bytes = bytes; refusal = refusal }

-- a map with one
some_reports :
    (image : Image) (machine : Machine) (boot : BootSector) (good : GoodMap) (keys : List Key) (memory : ℕ) (bytes : List ℕ) (opens : Option Opening) (refusal : Option SectionFault)
    → IsReported (asked_boot image machine boot good (Some (content_with bytes refusal)) keys memory opens)
    (behind (prompt_report image machine boot.line good memory (content_rest (content_with bytes refusal)) (decision_by image machine boot good bytes keys) (option_map section_reason refusal) opens))
    (from_line machine boot good.line)
some_reports image machine boot good keys memory bytes None None =
    decided_reports image machine boot good (Some (content_with bytes None)) (decision_by image machine boot good bytes keys) keys memory (decision_some image machine boot good (content_with bytes None) keys)
some_reports image machine boot good keys memory bytes None (Some fault) =
    decided_reports image machine boot good (Some (content_with bytes (Some fault))) (decision_by image machine boot good bytes keys) keys memory (decision_some image machine boot good (content_with bytes (Some fault)) keys)
some_reports image machine boot good keys memory bytes (Some opens) None =
    decided_reports image machine boot good (Some (content_with bytes None)) (decision_by image machine boot good bytes keys) keys memory (decision_some image machine boot good (content_with bytes None) keys)
some_reports image machine boot good keys memory bytes (Some opens) (Some fault) =
    stopped_reports image machine boot good (λ a. Ok (prompted_boot image machine boot good (Some (content_with bytes (Some fault))) keys memory)) memory (content_with bytes (Some fault)) (decision_by image machine boot good bytes keys) opens fault

message_reports :
    (image : Image) (machine : Machine) (boot : BootSector) (good : GoodMap) (keys : List Key) (memory len chain : ℕ) (slot : Option slots.Slot) (opens : Option Opening)
    → IsReported (asked_boot image machine boot good (option_map (λ slot. file_content image machine slot len chain) slot) keys memory opens)
    (behind (prompt_report image machine boot.line good memory (message_by image machine len chain slot) (decision_by image machine boot good (message_by image machine len chain slot).bytes keys) (message_by image machine len chain slot).stop opens))
    (from_line machine boot good.line)
message_reports image machine boot good keys memory len chain None opens = none_reports image machine boot good keys memory opens
message_reports image machine boot good keys memory len chain (Some slot) opens =
    let content = file_content image machine slot len chain in
    some_reports image machine boot good keys memory content.bytes opens content.refusal

asked_reports :
    (image : Image) (machine : Machine) (boot : BootSector) (good : GoodMap) (keys : List Key) (memory : ℕ)
    → IsReported (asked_boot image machine boot good (message_of image machine boot) keys memory (opening_at image machine boot good keys))
    (behind (asked_report image machine boot memory good keys)) (from_line machine boot good.line)
unfolding asked_report decision_read message_of message_read
asked_reports image machine boot good keys memory =
    message_reports image machine boot good keys memory boot.message_length boot.message_chain boot.message (opening_at image machine boot good keys)

-- ---- a good map

-- a boot of a good map, or of one that isn't
abbrev judged_boot : Image → Machine → BootSector → List Key → ℕ → Result GoodMap maps.MapFault → Boot
judged_boot image machine boot keys memory found = end_of (do
  good ← with_fault (λ fault. refused_boot (codes "LIL-\n") (present_line image machine boot) keys (map_reason fault)) found
  a ← message_check good.line (opening_at image machine boot good keys) (message_of image machine boot)
  Ok (prompted_boot image machine boot good (message_of image machine boot) keys memory))

good_reports :
    (image : Image) (machine : Machine) (boot : BootSector) (keys : List Key) (memory : ℕ) (good : GoodMap)
    → IsReported (judged_boot image machine boot keys memory (Ok good))
    (report_behind (codes "L") (or_device (codes " 80\n") (report_behind (codes "IL") (good_report image machine boot memory good keys))))
    (from_line machine boot good.line)
unfolding good_report
good_reports image machine boot keys memory good = asked_reports image machine boot good keys memory

-- ---- the map

judged_reports :
    (image : Image) (machine : Machine) (boot : BootSector) (keys : List Key) (memory : ℕ) (sectors : MapSectors)
    (found : Result GoodMap maps.MapFault)
    → map_sectors image machine boot ≡ Ok sectors → good_map sectors ≡ found
    → IsReported (judged_boot image machine boot keys memory found)
    (report_behind (codes "L") (or_device (codes " 80\n") (report_behind (codes "IL") (judged_report image machine boot memory keys found))))
    (write_by image machine (Ok boot))
judged_reports image machine boot keys memory sectors (Err fault) read judged =
    record { ends = refl; shown = refl; left = refl; written = sym (present_none machine boot.line (present_line image machine boot)) }
judged_reports image machine boot keys memory sectors (Ok good) read judged =
    let stands = line_stands image machine boot sectors good read judged in
    subst
    (λ line. IsReported (judged_boot image machine boot keys memory (Ok good))
    (report_behind (codes "L") (or_device (codes " 80\n") (report_behind (codes "IL") (good_report image machine boot memory good keys))))
    (λ new. present_write machine boot.line line new))
    (sym stands) (good_reports image machine boot keys memory good)

map_reports_by :
    (image : Image) (machine : Machine) (boot : BootSector) (keys : List Key) (memory : ℕ)
    (found : Result MapSectors slots.AddressFault) → map_sectors image machine boot ≡ found
    → IsReported (map_boot image machine boot keys memory) (map_report image machine boot memory keys) (write_by image machine (Ok boot))
unfolding map_boot map_report sectors_report
map_reports_by image machine boot keys memory (Err fault) read =
    rw read (record { ends = refl; shown = refl; left = refl; written = sym (present_none machine boot.line (present_line image machine boot)) })
map_reports_by image machine boot keys memory (Ok sectors) read =
    rw read (judged_reports image machine boot keys memory sectors (good_map sectors) read refl)

map_reports :
    (image : Image) (machine : Machine) (boot : BootSector) (keys : List Key) (memory : ℕ)
    → IsReported (map_boot image machine boot keys memory) (map_report image machine boot memory keys) (write_by image machine (Ok boot))
map_reports image machine boot keys memory =
    map_reports_by image machine boot keys memory (map_sectors image machine boot) refl

-- ---- the boot

-- nothing is written
abbrev no_write : Option DefaultLine → Option LineWrite
no_write new = None

foreign_reports_by :
    (bytes : List ℕ) (keys : List Key) (bootable : Bool) → is_bootable bytes ≡ bootable
    → IsReported (foreign_boot bytes keys) (foreign_report bytes keys) no_write
unfolding foreign_boot foreign_report
foreign_reports_by bytes keys true is = rw is (record { ends = (refl, refl); shown = refl; left = refl; written = refl })
foreign_reports_by bytes keys false is = rw is (record { ends = refl; shown = refl; left = refl; written = refl })

foreign_reports : (bytes : List ℕ) (keys : List Key) → IsReported (foreign_boot bytes keys) (foreign_report bytes keys) no_write
foreign_reports bytes keys = foreign_reports_by bytes keys (is_bootable bytes) refl

device_reports :
    (boot : Boot) (report : Report) (write : Option DefaultLine → Option LineWrite) → IsReported boot report write
    → IsReported boot (or_device [] report) write
device_reports boot report write told =
    record { ends = told.ends; shown = told.shown; left = told.left; written = told.written }

found_reports :
    (image : Image) (machine : Machine) (bytes : List ℕ) (keys : List Key) (memory : ℕ) (found : Result BootSector maps.MapFault)
    → IsReported (boot_by image machine bytes keys memory found) (or_device [] (report_by image machine bytes memory found keys)) (write_by image machine found)
found_reports image machine bytes keys memory (Ok boot) =
    device_reports _ _ _ (map_reports image machine boot keys memory)
found_reports image machine bytes keys memory (Err (maps.BadTable entry)) =
    record { ends = refl; shown = refl; left = refl; written = refl }
found_reports image machine bytes keys memory (Err maps.NotOurs) = device_reports _ _ _ (foreign_reports bytes keys)
found_reports image machine bytes keys memory (Err (maps.BadVersion version)) = device_reports _ _ _ (foreign_reports bytes keys)
found_reports image machine bytes keys memory (Err maps.BadLine) = device_reports _ _ _ (foreign_reports bytes keys)

-- what is reported of a boot is the model's boot
pub report_law : ReportLaw
unfolding whole_boot boot_report boot_write
report_law image machine span keys memory =
    found_reports image machine (image span.disk span.start) keys memory (boot_at (image span.disk span.start))
