-- How the reports of a boot's parts join.
use Rattle.std.proofs.Common.{◌≡◌, ◌≤◌, inl, inr, ◌∙◌, ℕ, Bool, true, false, refl, sym, ap, subst, List, [], ◌∷◌, length, map, Option, None, Some, Result, Ok, Err, arith, rules}
use Rattle.lilo_model.specs.Place.{Memory}
use Rattle.std.specs.Result.{is_err, OnOk}
use Rattle.std.specs.Prelude.{codes, not, bytes_eq, slice_get, slice_index_or, IsErr, IsErrOf, IfSome, ◌<◌, ◌+◌, option_map}
use Rattle.std.proofs.lemmas.Option.{slice_get-map, slice_get-get_or}
use Rattle.lilo_model.specs.Bytes.{part_of}
use Rattle.lilo_model.specs.Place.{with_bytes, memory_after}
use Rattle.lilo_model.specs.Choice.{filled_text}
use Rattle.lilo_model.specs.DefaultLine.{DefaultLine, line_after}
use Rattle.disk_trait.specs.declared.disks.Disks.{Ghosts}
use Rattle.lilo_model.specs.Prompt.{Key, AreLastKeys, Picked}
use Rattle.lilo_model.specs.Reason as reasons
use Rattle.lilo_model.specs.BootSector.{MapFault, NotOurs, BadVersion, BadTable, BadLine, boot_at, is_bootable}
use Rattle.lilo_model.specs.Disks.{Span}
use Rattle.lilo_model.specs.Boot.{Boot, boot_address, fallback_of, listed_entries, picked_entry, picked_line, video_of}
use Rattle.bios_model.specs.Memory.{memory_of}
use Rattle.bios_model.specs.Reads.{OnlyReads}
use Rattle.boot_map.specs.declared.descriptor.Descriptor as declared
use Rattle.boot_map.specs.View.{descriptor_view}
use Rattle.prompt_core.specs.declared.reply.Picked as declared_picked
use Rattle.prompt_core.specs.Decided.{line_behind, picked_by}
use Rattle.prompt_core.specs.Run.{chosen_in}
use Rattle.prompt_core.specs.Steps.{Chosen, State, Delaying, Timing, Typing, Asking, Decided, Over, words_in, lock_line_in}
use Rattle.prompt_loop.specs.declared.asking.Stop.{Stop}
use Rattle.prompt_loop.specs.declared.asking.Stop.TheVariants as stops
use Rattle.loader_core.specs.declared.map.Texts.{Texts}
use Rattle.loader_core.specs.declared.outcome.Outcome.{Outcome}
use Rattle.loader_core.specs.declared.outcome.Started.TheVariants as starts
use Rattle.loader_core.specs.Laws.{EndsSo, IsReported}
use Rattle.loader_core.specs.Start.{result_of, phase_of, unasked, OnKeys, ReportsBy, Went, EndsAs, IsBoot}
use Rattle.disk_trait.specs.declared.disks.DiskFault.{DiskFault}
use Rattle.disk_trait.specs.declared.disks.DiskFault.TheVariants.{Failed, OutOfRange}
use Rattle.disk_trait.specs.declared.disks.Phase.{Phase}
use Rattle.disk_trait.specs.Cause.{HasCause}
use Rattle.lilo_model.specs.Faults.{Rose}
use Rattle.disk_trait.specs.Calls.{SameOf}
use Rattle.disk_trait.specs.Past.{Told}
use Rattle.stream_trait.specs.Shows.{sink_of}
use Rattle.stream_trait.specs.declared.shown.Shown.{Shown}
use Rattle.stream_trait.specs.declared.sink.Sink as sinks
use Rattle.loader_core.specs.Leaves.{Leaves, HasPut, IsPast, LineWritten}
use Rattle.loader_core.proofs.LeavesLemmas.{leaves_after, lost_leaves, put_leaves, put_told}
use Rattle.loader_core.specs.Report.{boot_report, report_by, foreign_report, LineWrite, line_write, image_with, locked_line, chosen_line, writing_report}
use Rattle.loader_core.specs.View.{picked_view, started_view}
use Rattle.prompt_loop.proofs.LastLemmas.{all_last}
use Rattle.loader_core.proofs.AskedLemmas.{asked_last}
use Rattle.loader_core.proofs.ChoiceLemmas.{entry_listed, line_chosen}
use Rattle.loader_core.proofs.MemoryLemmas.{held}
use Rattle.lilo_model.specs.Disks.{Image, Machine}
use Rattle.lilo_model.specs.Slots as slots
use Rattle.lilo_model.specs.BootSector.{BootSector}
use Rattle.lilo_model.specs.Table.{Descriptor}
use Rattle.lilo_model.specs.Reason.{NotFound, map_reason}
use Rattle.lilo_model.specs.Boot.{Ending, MapSectors, GoodMap, error_text, map_sectors, good_map, middle_of}
use Rattle.section_loader.specs.declared.reason.Reason.TheVariants as variants
use Rattle.loader_core.specs.Map.{IsBadMap, ReadsMap, AreTexts, ReadsTexts}
use Rattle.section_loader.specs.declared.reason.Reason.{Reason}
use Rattle.section_loader.specs.declared.reason.Halt.{Halt}
use Rattle.section_loader.specs.declared.reason.Halt.TheVariants.{Device, Refused}
use Rattle.loader_core.specs.declared.outcome.Started.{Started}
use Rattle.stream_trait.specs.Shows.{SinkState, Shows}
use Rattle.stream_trait.specs.declared.source.Source as sources
use Rattle.loader_core.specs.Report.{Report, report_behind, or_device, refused_report, end_text, entry_report, line_report, middle_report, texts_report, picked_report, decided_report, asked_report, good_report, judged_report, sectors_report, found_report, map_report}
use Rattle.loader_core.specs.Start.{Starts, Reports, halt_text, map_text}
use Rattle.section_loader.specs.View.{reason_view}
use Rattle.stream_trait.proofs.ShowsLemmas.{shows_nothing, shows_join, shows_one_join}

-- ---- reports

-- a text, and what is reported after it
pub reports_behind :
    (text : List ℕ) (report : Report) (result : Result Started Halt) (m : Memory) (ram : List ℕ) (a b c : SinkState)
    → Shows a text b → Reports report result m ram b c → Reports (report_behind text report) result m ram a c
reports_behind text report (Ok started) m ram a b c first second =
    record { starts = second.starts; shows = shows_join a b c text report.shown first second.shows }
reports_behind text report (Err Device) m ram a b c first second =
    record { starts = tt; shows = shows_one_join a b c text report.device first second.shows }
reports_behind text report (Err (Refused reason)) m ram a b c first second =
    record { starts = second.starts; shows = shows_join a b c text report.shown first second.shows }

-- what is reported where a step before it may have failed
pub reports_or_device :
    (text : List ℕ) (report : Report) (result : Result Started Halt) (m : Memory) (ram : List ℕ) (a c : SinkState)
    → Reports report result m ram a c → Reports (or_device text report) result m ram a c
reports_or_device text report (Ok started) m ram a c rest = record { starts = rest.starts; shows = rest.shows }
reports_or_device text report (Err Device) m ram a c rest = record { starts = tt; shows = inr rest.shows }
reports_or_device text report (Err (Refused reason)) m ram a c rest = record { starts = rest.starts; shows = rest.shows }

-- where it did
pub reports_device :
    (text : List ℕ) (report : Report) (m : Memory) (ram : List ℕ) (a c : SinkState)
    → Shows a text c → Reports (or_device text report) (Err Device) m ram a c
reports_device text report m ram a c shown = record { starts = tt; shows = inl shown }

-- what is reported, with what is written of the default line
pub reports_written :
    (write : Option LineWrite) (report : Report) (result : Result Started Halt) (m : Memory) (ram : List ℕ) (a c : SinkState)
    → Reports report result m ram a c → Reports (writing_report write report) result m ram a c
reports_written write report (Ok started) m ram a c rest = record { starts = rest.starts; shows = rest.shows }
reports_written write report (Err Device) m ram a c rest = record { starts = tt; shows = rest.shows }
reports_written write report (Err (Refused reason)) m ram a c rest = record { starts = rest.starts; shows = rest.shows }

-- a refusal
pub reports_refused :
    (text : List ℕ) (why : reasons.Reason) (left : List Key) (reason : Reason) (m : Memory) (ram : List ℕ) (a c : SinkState)
    → reason_view reason ≡ why → Shows a text c → Reports (refused_report text why left) (Err (Refused reason)) m ram a c
reports_refused text why left reason m ram a c is shown = record { starts = ap (λ w. Err w) (sym is); shows = shown }

-- ---- an entry

-- what is reported of an entry's loading
abbrev pub end_report : Result Ending reasons.Reason → Report
end_report ending = record { result = ending; shown = end_text ending; device = codes "Error 80\n" ∷ []; unheard = []; left = []; write = None }

abbrev pub loading_report : List ℕ → Result Ending reasons.Reason → Report
loading_report loading ending = report_behind loading (end_report ending)

pub entry_started :
    (loading : List ℕ) (ending : Result Ending reasons.Reason) (started : Started) (m : Memory) (ram : List ℕ) (a b : SinkState)
    → Shows a loading b → Starts (Ok started) ending m ram → Reports (loading_report loading ending) (Ok started) m ram a b
entry_started loading ending started m ram a b first starts =
    let none : end_text ending ≡ [] = ap end_text starts.is in
    reports_behind loading (end_report ending) (Ok started) m ram a b b first
    (record { starts = starts; shows = rw none (shows_nothing b) })

pub entry_halted :
    (loading : List ℕ) (ending : Result Ending reasons.Reason) (halt : Halt) (m : Memory) (ram : List ℕ) (a b c : SinkState)
    → Shows a loading b → Shows b (halt_text halt) c → Starts (Err halt) ending m ram → Reports (loading_report loading ending) (Err halt) m ram a c
entry_halted loading ending Device m ram a b c first second starts =
    reports_behind loading (end_report ending) (Err Device) m ram a b c first
    (record { starts = tt; shows = inl second })
entry_halted loading ending (Refused reason) m ram a b c first second starts =
    let text : end_text ending ≡ error_text (reason_view reason) = ap end_text starts in
    reports_behind loading (end_report ending) (Err (Refused reason)) m ram a b c first
    (record { starts = starts; shows = rw text second })

-- an entry whose texts were read
pub texts_same :
    (image : Image) (machine : Machine) (slot : slots.Slot) (line : DefaultLine) (entry : Descriptor) (picked : Picked) (lock : Bool) (text : List ℕ) (memory : ℕ) (texts : Texts)
    → AreTexts texts (middle_of image machine entry) (fallback_of image machine entry)
    → texts_report image machine entry picked (line_write machine slot line (chosen_line image machine entry line lock text)) memory
    ≡ or_device (codes "Error 80\n")
    (line_report image machine entry picked (line_write machine slot line (line_after line (locked_line entry lock text) (filled_text (Some texts.fallback.items)))) memory texts.middle.items)
unfolding texts_report
texts_same image machine slot line entry picked lock text memory texts read = rw (read.middle_is, ← read.fallback_is) refl

-- or weren't
pub texts_halted :
    (image : Image) (machine : Machine) (entry : Descriptor) (picked : Picked) (write : Option LineWrite) (memory : ℕ) (halt : Halt) (m : Memory) (ram : List ℕ) (a c : SinkState)
    → ReadsTexts (Err halt) (middle_of image machine entry) (fallback_of image machine entry) → Shows a (halt_text halt) c
    → Reports (texts_report image machine entry picked write memory) (Err halt) m ram a c
unfolding texts_report
texts_halted image machine entry picked write memory Device m ram a c read shown =
    reports_device (codes "Error 80\n") (middle_report image machine entry picked write memory (middle_of image machine entry)) m ram a c shown
texts_halted image machine entry picked write memory (Refused reason) m ram a c read shown =
    let text : error_text (reason_view reason) ≡ error_text read.why = ap error_text read.because in
    rw read.is
    (reports_or_device (codes "Error 80\n") (refused_report (error_text read.why) read.why []) (Err (Refused reason)) m ram a c
    (reports_refused (error_text read.why) read.why [] reason m ram a c read.because (rw text at shown)))

-- and then nothing is written
pub texts_unwritten :
    (image : Image) (machine : Machine) (entry : Descriptor) (picked : Picked) (write : Option LineWrite) (memory : ℕ) (halt : Halt) (reason : Reason)
    → halt ≡ Refused reason → ReadsTexts (Err halt) (middle_of image machine entry) (fallback_of image machine entry)
    → (texts_report image machine entry picked write memory).write ≡ None
unfolding texts_report
texts_unwritten image machine entry picked write memory Device reason is read = let h : ⊥ = cc in absurd h
texts_unwritten image machine entry picked write memory (Refused other) reason is read = rw read.is refl

-- an entry that is loaded once the default line is written
pub line_reported :
    (image : Image) (machine : Machine) (entry : Descriptor) (picked : Picked) (write : Option LineWrite) (memory : ℕ) (middle : List ℕ) (result : Result Started Halt) (m : Memory) (ram : List ℕ) (a c : SinkState)
    → Reports (entry_report (image_with image write) machine entry (picked_line entry picked middle) (video_of entry picked) memory) result m ram a c
    → Reports (or_device (codes "Error 80\n") (line_report image machine entry picked write memory middle)) result m ram a c
line_reported image machine entry picked write memory middle result m ram a c rest =
    reports_or_device (codes "Error 80\n") (line_report image machine entry picked write memory middle) result m ram a c
    (reports_written write (entry_report (image_with image write) machine entry (picked_line entry picked middle) (video_of entry picked) memory) result m ram a c rest)

-- one whose default line couldn't be written
pub line_lost :
    (image : Image) (machine : Machine) (entry : Descriptor) (picked : Picked) (write : Option LineWrite) (memory : ℕ) (middle : List ℕ) (m : Memory) (ram : List ℕ) (a c : SinkState)
    → Shows a (codes "Error 80\n") c
    → Reports (or_device (codes "Error 80\n") (line_report image machine entry picked write memory middle)) (Err Device) m ram a c
line_lost image machine entry picked write memory middle m ram a c shown =
    reports_device (codes "Error 80\n") (line_report image machine entry picked write memory middle) m ram a c shown

-- ---- what was picked

-- an item that is at a place
pub item_there :
    {A : Type 0} → (items : List A) (at : ℕ) (item : A) → at < length items → ((other : A) → item ≡ slice_index_or items at other)
    → slice_get items at ≡ Some item
item_there items at item below holds = slice_get-get_or items at item below ∙ ap (λ i. Some i) (sym (holds item))

-- the entry at a place of a table, as it was found there
place_picked :
    (entries : List declared.Descriptor) (picked : Picked) (found : Option declared.Descriptor) → slice_get entries picked.entry ≡ found
    → picked_entry (map descriptor_view entries) (Some picked) ≡ option_map (λ entry. (descriptor_view entry, picked)) found
place_picked entries picked None is = let at = slice_get-map descriptor_view entries picked.entry in rw (at, is) refl
place_picked entries picked (Some entry) is = let at = slice_get-map descriptor_view entries picked.entry in rw (at, is) refl

pub none_there :
    (image : Image) (machine : Machine) (write : Option LineWrite) (memory : ℕ) (entries : List declared.Descriptor) (picked : Picked)
    → slice_get entries picked.entry ≡ None
    → picked_report image machine write memory (picked_entry (map descriptor_view entries) (Some picked)) ≡ refused_report [] reasons.Idle []
none_there image machine write memory entries picked is =
    ap (picked_report image machine write memory) (place_picked entries picked None is)

pub entry_there :
    (image : Image) (machine : Machine) (write : Option LineWrite) (memory : ℕ) (entries : List declared.Descriptor) (picked : Picked) (entry : declared.Descriptor)
    → slice_get entries picked.entry ≡ Some entry
    → picked_report image machine write memory (picked_entry (map descriptor_view entries) (Some picked))
    ≡ texts_report image machine (descriptor_view entry) picked write memory
entry_there image machine write memory entries picked entry is =
    ap (picked_report image machine write memory) (place_picked entries picked (Some entry) is)

-- nothing was chosen
pub idle_reports :
    (m : Memory) (ram : List ℕ) (a : SinkState) → Reports (refused_report [] reasons.Idle []) (Err (Refused variants.Idle)) m ram a a
idle_reports m ram a = reports_refused [] reasons.Idle [] variants.Idle m ram a a refl (shows_nothing a)

-- the default line after a choice, by the entry that was picked
line_picked :
    (image : Image) (machine : Machine) (good : GoodMap) (entries : List declared.Descriptor) (line : DefaultLine) (chosen : Chosen) (found : Option declared.Descriptor)
    → slice_get entries chosen.picked.entry ≡ found
    → good.entries ≡ map descriptor_view entries → length good.passwords ≡ length good.entries
    → IfSome found (λ entry. line_behind (listed_entries image machine good) line (Some chosen) ≡ chosen_line image machine (descriptor_view entry) line chosen.picked.lock chosen.lock_line)
line_picked image machine good entries line chosen None is same long = tt
line_picked image machine good entries line chosen (Some entry) is same long =
    let at = slice_get-map descriptor_view entries chosen.picked.entry in
    let there : slice_get good.entries chosen.picked.entry ≡ Some (descriptor_view entry) = rw (same, at, is) refl in
    let listed = entry_listed image machine good chosen.picked.entry (descriptor_view entry) long there in
    rw listed.is (line_chosen image machine (descriptor_view entry) listed.password line chosen)

-- ---- a part of a boot, with what it leaves of the disks

module _ {D O : Type 0} (g : Ghosts D) (o : sinks.Ghosts O) where
  pub idle_reported :
      (disks : D) (ram : List ℕ) (out : Shown O) (phase : Phase)
      → ReportsBy g o (refused_report [] reasons.Idle []) (Err (Refused variants.Idle)) phase (disks, ram, out) (disks, ram, out)
  idle_reported disks ram out phase = record {
    reports = idle_reports (memory_of ram) ram (sink_of o out);
    leaves = record { same_past = refl; same_size = refl; same_count = refl; same_geometry = refl };
  }

  pub reported_after :
      (old mid new : D) (report : Report) (result : Result Started Halt) (phase : Phase) (ram ram' : List ℕ) (out out' : Shown O)
      → SameOf g old mid → g.faults old ≤ g.faults mid
      → ReportsBy g o report result phase (mid, ram, out) (new, ram', out')
      → ReportsBy g o report result phase (old, ram, out) (new, ram', out')
  reported_after old mid new report result phase ram ram' out out' same later rest = record {
    reports = rest.reports;
    leaves = leaves_after g old mid new same later report.write (unasked result) phase rest.leaves;
  }

  -- the default line couldn't be written
  pub line_halted :
      (old new : D) (image : Image) (machine : Machine) (entry : Descriptor) (picked : Picked) (write : Option LineWrite) (memory : ℕ) (middle : List ℕ) (halt : Halt) (phase : Phase) (ram : List ℕ) (out out' : Shown O)
      → LineWritten g old new write (Err halt) phase → Shows (sink_of o out) (halt_text halt) (sink_of o out')
      → ReportsBy g o (or_device (codes "Error 80\n") (line_report image machine entry picked write memory middle)) (Err halt) phase (old, ram, out) (new, ram, out')
  line_halted old new image machine entry picked write memory middle Device phase ram out out' written shown = record {
    reports = line_lost image machine entry picked write memory middle (memory_of ram) ram (sink_of o out) (sink_of o out') shown;
    leaves = lost_leaves g old new write phase written;
  }
  line_halted old new image machine entry picked write memory middle (Refused reason) phase ram out out' written shown = absurd written

  -- it was written, or stays, and the entry is loaded
  pub line_loaded :
      (old mid new : D) (machine : Machine) (entry : Descriptor) (picked : Picked) (write : Option LineWrite) (memory : ℕ) (middle : List ℕ) (result : Result Started Halt) (phase : Phase) (ram ram' : List ℕ) (out out' : Shown O)
      → HasPut g old mid write × IsPast write phase → g.faults old ≤ g.faults mid → OnlyReads g mid new (IsErrOf result Device)
      → Told (g.past mid) (λ now. Reports (entry_report now machine entry (picked_line entry picked middle) (video_of entry picked) memory) result (memory_of ram) ram' (sink_of o out) (sink_of o out'))
      → Told (g.past old) (λ now. ReportsBy g o (or_device (codes "Error 80\n") (line_report now machine entry picked write memory middle)) result phase (old, ram, out) (new, ram', out'))
  line_loaded old mid new machine entry picked write memory middle result phase ram ram' out out' written early reads reports =
      put_told g old mid write
      (λ now. Reports (entry_report now machine entry (picked_line entry picked middle) (video_of entry picked) memory) result (memory_of ram) ram' (sink_of o out) (sink_of o out'))
      (λ now. ReportsBy g o (or_device (codes "Error 80\n") (line_report now machine entry picked write memory middle)) result phase (old, ram, out) (new, ram', out'))
      written.0
      (λ now loaded. record {
        reports = line_reported now machine entry picked write memory middle result (memory_of ram) ram' (sink_of o out) (sink_of o out') loaded;
        leaves = put_leaves g old mid new reads.same reads.later write result phase written early reads.failed;
      })
      reports

-- what was chosen, by what the prompt says of it
pub record IsChosen (state : State) (picked : declared_picked.Picked) (words lock_line : List ℕ) : Type 0 where
  pub chosen : Chosen
  pub is : chosen_in state ≡ Some chosen
  pub picked_is : picked ≡ chosen.picked
  pub words_are : words ≡ chosen.words
  pub line_is : lock_line ≡ chosen.lock_line

chosen_there :
    (state : State) (picked : declared_picked.Picked) (words lock_line : List ℕ)
    → option_map (λ chosen. chosen.picked) (chosen_in state) ≡ Some picked → words ≡ words_in state → lock_line ≡ lock_line_in state
    → IsChosen state picked words lock_line
chosen_there (Decided chosen) picked words lock_line is said kept =
    let same : chosen.picked ≡ picked = cc in
    record { chosen = chosen; is = refl; picked_is = sym same; words_are = said; line_is = kept }
chosen_there (Delaying wait) picked words lock_line is said kept = let h : ⊥ = cc in absurd h
chosen_there (Timing wait) picked words lock_line is said kept = let h : ⊥ = cc in absurd h
chosen_there (Typing text first) picked words lock_line is said kept = let h : ⊥ = cc in absurd h
chosen_there (Asking question) picked words lock_line is said kept = let h : ⊥ = cc in absurd h
chosen_there Over picked words lock_line is said kept = let h : ⊥ = cc in absurd h

-- a fact of the report of an entry that was picked with these words, whatever the default line is from then on
abbrev pub IsPicked : Image → Machine → slots.Slot → DefaultLine → List declared.Descriptor → ℕ → (Report → Type 0) → declared_picked.Picked → List ℕ → List ℕ → Type 0
IsPicked image machine slot line entries memory P picked words lock_line =
    (new : DefaultLine) → IfSome (slice_get entries picked.entry) (λ entry. new ≡ chosen_line image machine (descriptor_view entry) line picked.lock lock_line)
    → P (picked_report image machine (line_write machine slot line new) memory (picked_entry (map descriptor_view entries) (Some (picked_view picked words))))

pub entry_picked :
    (image : Image) (machine : Machine) (slot : slots.Slot) (line : DefaultLine) (entries : List declared.Descriptor) (memory : ℕ) (P : Report → Type 0) (picked : declared_picked.Picked) (words lock_line : List ℕ) (entry : declared.Descriptor)
    → slice_get entries picked.entry ≡ Some entry
    → P (texts_report image machine (descriptor_view entry) (picked_view picked words) (line_write machine slot line (chosen_line image machine (descriptor_view entry) line picked.lock lock_line)) memory)
    → IsPicked image machine slot line entries memory P picked words lock_line
entry_picked image machine slot line entries memory P picked words lock_line entry there rest = λ new same.
    let is : new ≡ chosen_line image machine (descriptor_view entry) line picked.lock lock_line = rw there at same in
    subst P (sym (entry_there image machine (line_write machine slot line new) memory entries (picked_view picked words) entry there))
    (subst (λ n. P (texts_report image machine (descriptor_view entry) (picked_view picked words) (line_write machine slot line n) memory)) (sym is) rest)

pub none_picked :
    (image : Image) (machine : Machine) (slot : slots.Slot) (line : DefaultLine) (entries : List declared.Descriptor) (memory : ℕ) (P : Report → Type 0) (picked : declared_picked.Picked) (words lock_line : List ℕ)
    → slice_get entries picked.entry ≡ None → P (refused_report [] reasons.Idle [])
    → IsPicked image machine slot line entries memory P picked words lock_line
none_picked image machine slot line entries memory P picked words lock_line none rest = λ new same.
    subst P (sym (none_there image machine (line_write machine slot line new) memory entries (picked_view picked words) none)) rest

-- what was chosen is reported as what was picked
pub chosen_reports :
    (image : Image) (machine : Machine) (slot : slots.Slot) (good : GoodMap) (line : DefaultLine) (entries : List declared.Descriptor) (state : State) (picked : declared_picked.Picked) (words lock_line : List ℕ) (memory : ℕ) (P : Report → Type 0)
    → good.line ≡ line → good.entries ≡ map descriptor_view entries → length good.passwords ≡ length good.entries
    → option_map (λ chosen. chosen.picked) (chosen_in state) ≡ Some picked → words ≡ words_in state → lock_line ≡ lock_line_in state
    → IsPicked image machine slot line entries memory P picked words lock_line
    → P (decided_report image machine slot good memory (line_behind (listed_entries image machine good) good.line (chosen_in state)) (option_map picked_by (chosen_in state)))
unfolding decided_report
chosen_reports image machine slot good line entries state picked words lock_line memory P at same long is said kept reports =
    let there = chosen_there state picked words lock_line is said kept in
    let chosen = there.chosen in
    let listed = listed_entries image machine good in
    let first = subst (λ p. IsPicked image machine slot line entries memory P p words lock_line) there.picked_is reports in
    let second = subst (λ w. IsPicked image machine slot line entries memory P chosen.picked w lock_line) there.words_are first in
    let third = subst (λ l. IsPicked image machine slot line entries memory P chosen.picked chosen.words l) there.line_is second in
    let rest = third (line_behind listed line (Some chosen)) (line_picked image machine good entries line chosen (slice_get entries chosen.picked.entry) refl same long) in
    let of_table = subst (λ all. P (picked_report image machine (line_write machine slot line (line_behind listed line (Some chosen))) memory (picked_entry all (Some (picked_by chosen))))) (sym same) rest in
    let of_line = subst (λ l. P (picked_report image machine (line_write machine slot l (line_behind listed l (Some chosen))) memory (picked_entry good.entries (Some (picked_by chosen))))) (sym at) of_table in
    subst (λ f. P (picked_report image machine (line_write machine slot good.line (line_behind listed good.line f)) memory (picked_entry good.entries (option_map picked_by f)))) (sym there.is) of_line

-- nothing was chosen
idle_by :
    (found : Option Chosen) → option_map (λ chosen. chosen.picked) found ≡ None → found ≡ None
idle_by None is = refl
idle_by (Some chosen) is = let h : ⊥ = cc in absurd h

pub idle_chosen :
    (image : Image) (machine : Machine) (slot : slots.Slot) (good : GoodMap) (state : State) (memory : ℕ)
    → option_map (λ chosen. chosen.picked) (chosen_in state) ≡ None
    → decided_report image machine slot good memory (line_behind (listed_entries image machine good) good.line (chosen_in state)) (option_map picked_by (chosen_in state))
    ≡ refused_report [] reasons.Idle []
unfolding decided_report
idle_chosen image machine slot good state memory is = let none = idle_by (chosen_in state) is in rw none refl

-- ---- keys

-- a part that takes no key
pub went_unasked :
    (report : Report) (result : Result Started Halt) (m : Memory) (ram : List ℕ) (left : List Key) (a c : SinkState)
    → report.left ≡ left → Reports report result m ram a c → Went (unasked result) report m ram left a c
went_unasked report (Ok started) m ram left a c is rest = (is, rest)
went_unasked report (Err Device) m ram left a c is rest = (subst (λ keys. AreLastKeys left keys) (sym is) (all_last left), rest)
went_unasked report (Err (Refused reason)) m ram left a c is rest = (is, rest)

-- a text, and what went after it
pub went_behind :
    (text : List ℕ) (report : Report) (result : Result Started Stop) (m : Memory) (ram : List ℕ) (left : List Key) (a b c : SinkState)
    → Shows a text b → Went result report m ram left b c → Went result (report_behind text report) m ram left a c
went_behind text report (Ok started) m ram left a b c first second = (second.0, reports_behind text report (Ok started) m ram a b c first second.1)
went_behind text report (Err stops.Keys) m ram left a b c first second = (second.0, shows_one_join a b c text report.unheard first second.1)
went_behind text report (Err (stops.Halt Device)) m ram left a b c first second =
    (second.0, reports_behind text report (Err Device) m ram a b c first second.1)
went_behind text report (Err (stops.Halt (Refused reason))) m ram left a b c first second =
    (second.0, reports_behind text report (Err (Refused reason)) m ram a b c first second.1)

-- what went where a step before it may have failed
pub went_or_device :
    (text : List ℕ) (report : Report) (result : Result Started Stop) (m : Memory) (ram : List ℕ) (left : List Key) (a c : SinkState)
    → Went result report m ram left a c → Went result (or_device text report) m ram left a c
went_or_device text report (Ok started) m ram left a c rest = (rest.0, reports_or_device text report (Ok started) m ram a c rest.1)
went_or_device text report (Err stops.Keys) m ram left a c rest = rest
went_or_device text report (Err (stops.Halt Device)) m ram left a c rest = (rest.0, reports_or_device text report (Err Device) m ram a c rest.1)
went_or_device text report (Err (stops.Halt (Refused reason))) m ram left a c rest =
    (rest.0, reports_or_device text report (Err (Refused reason)) m ram a c rest.1)

-- what holds of keys where something else does
pub keys_map :
    {I : Type 0} → (i : sources.Ghosts I) (keys : I × I) (P Q : List Key → List Key → Type 0) → ((all left : List Key) → P all left → Q all left)
    → OnKeys i keys P → OnKeys i keys Q
keys_map i keys P Q f holds = λ left may. let (all, before, p) = holds left may in (all, before, f all left p)

-- where no key is taken
pub keys_still :
    {I : Type 0} → (i : sources.Ghosts I) (k : I) (P : List Key → List Key → Type 0) → ((keys : List Key) → P keys keys) → OnKeys i (k, k) P
keys_still i k P f = λ left may. (left, may, f left)

-- ---- the keys that are left

sectors_last :
    (image : Image) (machine : Machine) (boot : BootSector) (memory : ℕ) (sectors : MapSectors) (keys : List Key)
    → AreLastKeys keys (sectors_report image machine boot memory sectors keys).left
unfolding sectors_report good_report
sectors_last image machine boot memory sectors keys = by (good_map sectors)
  where
    by : (judged : Result GoodMap MapFault) → AreLastKeys keys (judged_report image machine boot memory keys judged).left
    by (Err fault) = all_last keys
    by (Ok good) = asked_last image machine boot good memory keys

found_last :
    (image : Image) (machine : Machine) (boot : BootSector) (memory : ℕ) (keys : List Key) (found : Result MapSectors slots.AddressFault)
    → AreLastKeys keys (found_report image machine boot memory keys found).left
found_last image machine boot memory keys (Err fault) = all_last keys
found_last image machine boot memory keys (Ok sectors) = sectors_last image machine boot memory sectors keys

-- they are the last of those that the boot was given
said_last :
    (image : Image) (machine : Machine) (bytes : List ℕ) (memory : ℕ) (keys : List Key) (said : Result BootSector MapFault)
    → AreLastKeys keys (report_by image machine bytes memory said keys).left
unfolding map_report foreign_report
said_last image machine bytes memory keys (Ok boot) = found_last image machine boot memory keys (map_sectors image machine boot)
said_last image machine bytes memory keys (Err NotOurs) = all_last keys
said_last image machine bytes memory keys (Err (BadVersion version)) = all_last keys
said_last image machine bytes memory keys (Err (BadTable entry)) = all_last keys
said_last image machine bytes memory keys (Err BadLine) = all_last keys

-- ---- a map

-- a good map
pub good_asked :
    (image : Image) (machine : Machine) (boot : BootSector) (memory : ℕ) (good : GoodMap) (keys : List Key) (result : Result Started Stop) (m : Memory) (ram : List ℕ) (left : List Key) (a b c : SinkState)
    → Shows a (codes "O\n") b → Went result (asked_report image machine boot memory good keys) m ram left b c
    → Went result (good_report image machine boot memory good keys) m ram left a c
unfolding good_report
good_asked image machine boot memory good keys result m ram left a b c shown rest =
    went_behind (codes "O\n") (asked_report image machine boot memory good keys) result m ram left a b c shown rest

-- ---- what is written of the default line, by the report of a part

pub good_write :
    (image : Image) (machine : Machine) (boot : BootSector) (memory : ℕ) (good : GoodMap) (keys : List Key)
    → (good_report image machine boot memory good keys).write ≡ (asked_report image machine boot memory good keys).write
unfolding good_report
good_write image machine boot memory good keys = refl

pub sectors_write :
    (image : Image) (machine : Machine) (boot : BootSector) (memory : ℕ) (sectors : MapSectors) (good : GoodMap) (keys : List Key)
    → good_map sectors ≡ Ok good
    → (sectors_report image machine boot memory sectors keys).write ≡ (good_report image machine boot memory good keys).write
unfolding sectors_report
sectors_write image machine boot memory sectors good keys is = rw is refl

pub bad_write :
    (image : Image) (machine : Machine) (boot : BootSector) (memory : ℕ) (sectors : MapSectors) (reason : Reason) (keys : List Key)
    → IsBadMap reason (good_map sectors) → (sectors_report image machine boot memory sectors keys).write ≡ None
unfolding sectors_report
bad_write image machine boot memory sectors reason keys bad = rw bad.is refl

pub map_write :
    (image : Image) (machine : Machine) (boot : BootSector) (memory : ℕ) (sectors : MapSectors) (keys : List Key)
    → map_sectors image machine boot ≡ Ok sectors
    → (map_report image machine boot memory keys).write ≡ (sectors_report image machine boot memory sectors keys).write
unfolding map_report
map_write image machine boot memory sectors keys is = rw is refl

lost_write :
    (image : Image) (machine : Machine) (boot : BootSector) (memory : ℕ) (found : Result MapSectors slots.AddressFault) (keys : List Key)
    → IsErr found → (found_report image machine boot memory keys found).write ≡ None
lost_write image machine boot memory (Ok sectors) keys lost = let h : ⊥ = search rules in absurd h
lost_write image machine boot memory (Err fault) keys lost = refl

pub map_unwritten :
    (image : Image) (machine : Machine) (boot : BootSector) (memory : ℕ) (halt : Halt) (reason : Reason) (keys : List Key)
    → halt ≡ Refused reason → ReadsMap (Err halt) (map_sectors image machine boot)
    → (map_report image machine boot memory keys).write ≡ None
unfolding map_report
map_unwritten image machine boot memory Device reason keys is read = let h : ⊥ = cc in absurd h
map_unwritten image machine boot memory (Refused other) reason keys is read = lost_write image machine boot memory (map_sectors image machine boot) keys read.0

pub boot_written :
    (image : Image) (machine : Machine) (span : Span) (memory : ℕ) (bytes : List ℕ) (said : Result BootSector MapFault) (keys : List Key)
    → bytes ≡ image span.disk span.start → said ≡ boot_at bytes
    → (boot_report image machine span memory keys).write ≡ (report_by image machine bytes memory said keys).write
unfolding boot_report
boot_written image machine span memory bytes said keys here is = rw (← here, ← is) refl

pub other_unwritten :
    (image : Image) (machine : Machine) (bytes : List ℕ) (memory : ℕ) (fault : MapFault) (keys : List Key) → (report_by image machine bytes memory (Err fault) keys).write ≡ None
unfolding foreign_report
other_unwritten image machine bytes memory NotOurs keys = refl
other_unwritten image machine bytes memory (BadVersion version) keys = refl
other_unwritten image machine bytes memory (BadTable entry) keys = refl
other_unwritten image machine bytes memory BadLine keys = refl

-- ---- the map

-- a map that was judged
pub sectors_good :
    (image : Image) (machine : Machine) (boot : BootSector) (memory : ℕ) (sectors : MapSectors) (good : GoodMap) (keys : List Key) (result : Result Started Stop) (m : Memory) (ram : List ℕ) (left : List Key) (a b c : SinkState)
    → good_map sectors ≡ Ok good → Shows a (codes "IL") b → Went result (good_report image machine boot memory good keys) m ram left b c
    → Went result (sectors_report image machine boot memory sectors keys) m ram left a c
unfolding sectors_report
sectors_good image machine boot memory sectors good keys result m ram left a b c is shown rest =
    rw is (went_behind (codes "IL") (good_report image machine boot memory good keys) result m ram left a b c shown rest)

pub sectors_bad :
    (image : Image) (machine : Machine) (boot : BootSector) (memory : ℕ) (sectors : MapSectors) (reason : Reason) (m : Memory) (ram : List ℕ) (left : List Key) (a b c : SinkState)
    → IsBadMap reason (good_map sectors) → Shows a (codes "IL") b → Shows b (codes "-\n") c
    → Went (Err (stops.Halt (Refused reason))) (sectors_report image machine boot memory sectors left) m ram left a c
unfolding sectors_report
sectors_bad image machine boot memory sectors reason m ram left a b c bad first second =
    rw bad.is (
      refl,
      reports_behind (codes "IL") (refused_report (codes "-\n") ((map_reason bad.fault)) left) (Err (Refused reason)) m ram a b c first
          (reports_refused (codes "-\n") ((map_reason bad.fault)) left reason m ram b c bad.because second),
    )

-- a map whose sectors were read
pub map_found :
    (image : Image) (machine : Machine) (boot : BootSector) (memory : ℕ) (sectors : MapSectors) (keys : List Key) (result : Result Started Stop) (m : Memory) (ram : List ℕ) (left : List Key) (a b c : SinkState)
    → map_sectors image machine boot ≡ Ok sectors → Shows a (codes "L") b → Went result (sectors_report image machine boot memory sectors keys) m ram left b c
    → Went result (map_report image machine boot memory keys) m ram left a c
unfolding map_report
map_found image machine boot memory sectors keys result m ram left a b c is shown rest =
    rw is
    (went_behind (codes "L") (or_device (codes " 80\n") (sectors_report image machine boot memory sectors keys)) result m ram left a b c shown
    (went_or_device (codes " 80\n") (sectors_report image machine boot memory sectors keys) result m ram left b c rest))

lost_map :
    (image : Image) (machine : Machine) (boot : BootSector) (memory : ℕ) (found : Result MapSectors slots.AddressFault) (reason : Reason) (m : Memory) (ram : List ℕ) (left : List Key) (a b c : SinkState)
    → IsErr found → reason_view reason ≡ NotFound → Shows a (codes "L") b → Shows b (codes " 04\n") c
    → Went (Err (stops.Halt (Refused reason))) (report_behind (codes "L") (or_device (codes " 80\n") (found_report image machine boot memory left found))) m ram left a c
lost_map image machine boot memory (Ok sectors) reason m ram left a b c lost is first second = let h : ⊥ = search rules in absurd h
lost_map image machine boot memory (Err fault) reason m ram left a b c lost is first second = (
  refl,
  reports_behind (codes "L") (or_device (codes " 80\n") (refused_report (codes " 04\n") NotFound left)) (Err (Refused reason)) m ram a b c first
      (reports_or_device (codes " 80\n") (refused_report (codes " 04\n") NotFound left) (Err (Refused reason)) m ram b c
      (reports_refused (codes " 04\n") NotFound left reason m ram b c is second)),
)

-- or weren't
pub map_halted :
    (image : Image) (machine : Machine) (boot : BootSector) (memory : ℕ) (halt : Halt) (m : Memory) (ram : List ℕ) (left : List Key) (a b c : SinkState)
    → ReadsMap (Err halt) (map_sectors image machine boot) → Shows a (codes "L") b → Shows b (map_text halt) c
    → Went (Err (stops.Halt halt)) (map_report image machine boot memory left) m ram left a c
unfolding map_report
map_halted image machine boot memory Device m ram left a b c read first second = (
  found_last image machine boot memory left (map_sectors image machine boot),
  reports_behind (codes "L") (or_device (codes " 80\n") (found_report image machine boot memory left (map_sectors image machine boot))) (Err Device) m ram a b c first
      (reports_device (codes " 80\n") (found_report image machine boot memory left (map_sectors image machine boot)) m ram b c second),
)
map_halted image machine boot memory (Refused reason) m ram left a b c read first second =
    lost_map image machine boot memory (map_sectors image machine boot) reason m ram left a b c read.0 (ap reason_view read.1) first second

-- ---- the boot sector

-- a read of a sector that is there failed
pub read_failed :
    (size sector before now : ℕ) (result : Result (Unit {0}) DiskFault) → HasCause size sector before now result → sector < size → is_err result ≡ true
    → Rose before now
read_failed size sector before now (Ok done) cause inside lost = let h : ⊥ = cc in absurd h
read_failed size sector before now (Err Failed) cause inside lost = cause.failed refl
read_failed size sector before now (Err OutOfRange) cause inside lost = absurd (let past = cause.out_of_range.0 refl in omega (arith, inside, past))

pub boot_last :
    (image : Image) (machine : Machine) (span : Span) (memory : ℕ) (keys : List Key)
    → AreLastKeys keys (boot_report image machine span memory keys).left
unfolding boot_report
boot_last image machine span memory keys =
    said_last image machine (image span.disk span.start) memory keys (boot_at (image span.disk span.start))

-- a boot whose first sector couldn't be read
pub boot_lost :
    (image : Image) (machine : Machine) (span : Span) (memory : ℕ) (m : Memory) (ram : List ℕ) (left : List Key) (a : SinkState)
    → Went (Err (stops.Halt Device)) (boot_report image machine span memory left) m ram left a a
unfolding boot_report
boot_lost image machine span memory m ram left a = (
  boot_last image machine span memory left,
  record { starts = tt; shows = inl (shows_nothing a) },
)

-- one by what the sector says
pub boot_read :
    (image : Image) (machine : Machine) (span : Span) (memory : ℕ) (bytes : List ℕ) (said : Result BootSector MapFault) (keys : List Key) (result : Result Started Stop) (m : Memory) (ram : List ℕ) (left : List Key) (a c : SinkState)
    → bytes ≡ image span.disk span.start → said ≡ boot_at bytes
    → Went result (report_by image machine bytes memory said keys) m ram left a c
    → Went result (boot_report image machine span memory keys) m ram left a c
unfolding boot_report
boot_read image machine span memory bytes said keys result m ram left a c here is rest =
    rw (← here, ← is) (went_or_device [] (report_by image machine bytes memory said keys) result m ram left a c rest)

-- a sector that is no boot sector of this format leaves all keys
pub other_left :
    (image : Image) (machine : Machine) (bytes : List ℕ) (memory : ℕ) (fault : MapFault) (keys : List Key) → (report_by image machine bytes memory (Err fault) keys).left ≡ keys
unfolding foreign_report
other_left image machine bytes memory NotOurs keys = refl
other_left image machine bytes memory (BadVersion version) keys = refl
other_left image machine bytes memory (BadTable entry) keys = refl
other_left image machine bytes memory BadLine keys = refl

pub boot_bad :
    (entry : ℕ) (left : List Key) (reason : Reason) (m : Memory) (ram : List ℕ) (a c : SinkState) → reason_view reason ≡ (reasons.BadTable entry) → Shows a (codes "LIL-\n") c
    → Reports (refused_report (codes "LIL-\n") ((reasons.BadTable entry)) left) (Err (Refused reason)) m ram a c
boot_bad entry left reason m ram a c is shown = reports_refused (codes "LIL-\n") ((reasons.BadTable entry)) left reason m ram a c is shown

pub foreign_refused : (bytes : List ℕ) (keys : List Key) → is_bootable bytes ≡ false → (foreign_report bytes keys).result ≡ Err reasons.NotBootable
unfolding foreign_report
foreign_refused bytes keys is = rw is refl

pub foreign_started :
    (bytes : List ℕ) (keys : List Key) (m : Memory) (ram : List ℕ) → is_bootable bytes ≡ true → length bytes ≡ 512
    → memory_of ram ≡ with_bytes m (record { address = boot_address; bytes = bytes }) → boot_address + 512 ≤ length ram
    → Starts (Ok starts.Handed) (foreign_report bytes keys).result m ram
unfolding foreign_report
foreign_started bytes keys m ram is long at inside =
    let here = held ram m (record { address = boot_address; bytes = bytes }) [] at tt (omega arith) in
    let there : bytes ≡ part_of ram boot_address 512 = sym here ∙ ap (λ n. part_of ram boot_address n) long in
    rw is
    (record {
      written = record { address = boot_address; bytes = bytes } ∷ [];
      is = refl;
      placed = at;
      held = ap (λ b. record { address = boot_address; bytes = b } ∷ []) there;
    })

-- a sector of another system shows nothing
pub foreign_reports :
    (bytes : List ℕ) (keys : List Key) (result : Result Started Halt) (m : Memory) (ram : List ℕ) (a : SinkState) → (result ≡ Err Device → ⊥)
    → Starts result (foreign_report bytes keys).result m ram → Reports (foreign_report bytes keys) result m ram a a
unfolding foreign_report
foreign_reports bytes keys (Ok started) m ram a fine rest = record { starts = rest; shows = shows_nothing a }
foreign_reports bytes keys (Err Device) m ram a fine rest = absurd (fine refl)
foreign_reports bytes keys (Err (Refused reason)) m ram a fine rest = record { starts = rest; shows = shows_nothing a }

-- ---- the model's boot

ends_as :
    (result : Result Started Stop) (report : Report) (boot : Boot) (write : Option DefaultLine → Option LineWrite) (m : Memory) (ram : List ℕ) (left : List Key) (a c : SinkState) → IsReported boot report write
    → Went result report m ram left a c → EndsAs result boot m (memory_of ram) left a c
ends_as (Ok started) report boot write m ram left a c is went =
    let starts = went.1.starts in
    let ends : EndsSo boot (Ok (record { outcome = started_view started; written = starts.written })) = subst (λ r. EndsSo boot r) starts.is is.ends in
    record {
      outcome = ends.0;
      placed = starts.placed ∙ ap (λ w. memory_after m w) (sym ends.1);
      shows = subst (λ text. Shows a text c) (sym is.shown) went.1.shows;
      keys = is.left ∙ went.0;
    }
ends_as (Err stops.Keys) report boot write m ram left a c is went = subst (λ keys. AreLastKeys left keys) (sym is.left) went.0
ends_as (Err (stops.Halt Device)) report boot write m ram left a c is went = subst (λ keys. AreLastKeys left keys) (sym is.left) went.0
ends_as (Err (stops.Halt (Refused reason))) report boot write m ram left a c is went = record {
  outcome = subst (λ r. EndsSo boot r) went.1.starts is.ends;
  shows = subst (λ text. Shows a text c) (sym is.shown) went.1.shows;
  keys = is.left ∙ went.0;
}

-- what went is the model's boot
pub boots_so :
    {D : Type 0} (g : Ghosts D) (disks disks' : D) (outcome : Outcome) (report : Report) (boot : Boot) (write : Option DefaultLine → Option LineWrite) (m : Memory) (ram : List ℕ) (left : List Key) (a c : SinkState) → IsReported boot report write
    → Leaves g disks disks' report.write (result_of outcome) (phase_of outcome)
    → Went (result_of outcome) report m ram left a c → IsBoot g disks disks' write outcome boot m (memory_of ram) left a c
boots_so g disks disks' outcome report boot write m ram left a c is leaves went = record {
  ends = ends_as (result_of outcome) report boot write m ram left a c is went;
  leaves = subst (λ w. Leaves g disks disks' w (result_of outcome) (phase_of outcome)) is.written leaves;
}

-- ---- the mark of a boot sector

not_not : (b c : Bool) → not b ≡ c → b ≡ not c
not_not true c is = ap not is
not_not false c is = ap not is

-- what the comparison of its last two bytes says
pub marked :
    (sector last mark : List ℕ) (differs : Bool) → last ≡ part_of sector 0x1FE 2 → mark ≡ 0x55 ∷ (0xAA ∷ [])
    → not (bytes_eq last mark) ≡ differs → is_bootable sector ≡ not differs
unfolding is_bootable
marked sector last mark differs is_last is_mark is = not_not (bytes_eq (part_of sector 0x1FE 2) (0x55 ∷ (0xAA ∷ []))) differs (rw (is_last, is_mark) at is)

-- what holds of an answer that is Ok
pub on_ok : {A E : Type 0} → (result : Result A E) (P : Type 0) → is_err result ≡ false → OnOk result P → P
on_ok (Ok value) P fine holds = holds
on_ok (Err fault) P fine holds = let h : ⊥ = cc in absurd h
