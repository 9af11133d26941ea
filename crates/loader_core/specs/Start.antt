-- How a boot's end is what is reported of it.
use Rattle.std.specs.Prelude.{◌≡◌, ℕ, codes, Bool, true, false, List, [], ◌∷◌, length, Option, Result, Ok, Err, IsErrOf}
use Rattle.disk_trait.specs.declared.disks.Span.{Span}
use Rattle.disk_trait.specs.declared.disks.Disks.{Ghosts}
use Rattle.disk_trait.specs.declared.disks.Phase.{Phase}
use Rattle.disk_trait.specs.declared.disks.Phase.TheVariants as phases
use Rattle.lilo_model.specs.Disks as disks
use Rattle.lilo_model.specs.DefaultLine.{DefaultLine}
use Rattle.lilo_model.specs.Prompt.{Key, AreLastKeys}
use Rattle.lilo_model.specs.Place.{Memory, Written, memory_after}
use Rattle.lilo_model.specs.Boot as boots
use Rattle.lilo_model.specs.Bytes.{part_of}
use Rattle.lilo_model.specs.Boot.{Ending, boot_address, table_address, error_text}
use Rattle.lilo_model.specs.Verdict.{told_regions}
use Rattle.lilo_model.specs.Reason as reasons
use Rattle.bios_model.specs.Memory.{memory_of}
use Rattle.setup_header.specs.View.{layout_view}
use Rattle.setup_header.specs.Words.{LiesIn}
use Rattle.loader_core.specs.declared.outcome.Outcome.{Outcome}
use Rattle.loader_core.specs.declared.outcome.Outcome.TheVariants as outcomes
use Rattle.loader_core.specs.declared.outcome.Started.{Started}
use Rattle.loader_core.specs.declared.outcome.Started.TheVariants as starts
use Rattle.section_loader.specs.declared.reason.Halt.{Halt}
use Rattle.section_loader.specs.declared.reason.Halt.TheVariants.{Device, Refused}
use Rattle.loader_core.specs.Kernel.{region_in, regions_in}
use Rattle.prompt_loop.specs.declared.asking.Stop.{Stop}
use Rattle.prompt_loop.specs.declared.asking.Stop.TheVariants as stops
use Rattle.section_loader.specs.declared.reason.Reason.{Reason}
use Rattle.bios_model.specs.Keys.{MayLeave}
use Rattle.stream_trait.specs.declared.source.Source as sources
use Rattle.sector_address.specs.Machine.{OnDisks}
use Rattle.stream_trait.specs.Shows.{SinkState, Shows, ShowsOne, sink_of}
use Rattle.stream_trait.specs.declared.shown.Shown.{Shown}
use Rattle.stream_trait.specs.declared.sink.Sink as sinks
use Rattle.loader_core.specs.Leaves.{Leaves}
use Rattle.loader_core.specs.Report.{LineWrite, Report, boot_write}
use Rattle.loader_core.specs.View.{started_view}
use Rattle.section_loader.specs.View.{reason_view}

-- what is written of a partition table's sector, where it goes with an entry
abbrev pub table_written : Bool → List ℕ → List Written
table_written true sector = record { address = table_address; bytes = part_of sector 446 64 } ∷ []
table_written false sector = []

-- what is in memory where something was started: at the regions of a kernel, or the boot sector
abbrev pub started_regions : List ℕ → Started → List Written
started_regions ram (starts.Loaded layout) = regions_in ram (layout_view layout)
started_regions ram starts.Handed = region_in ram (record { address = boot_address; size = 512 }) ∷ []

-- something was started, and memory holds what was put there
pub record IsStarted (started : Started) (ending : Result Ending reasons.Reason) (memory : Memory) (ram : List ℕ) : Type 0 where
  pub written : List Written
  pub is : ending ≡ Ok (record { outcome = started_view started; written = written })
  pub placed : memory_of ram ≡ memory_after memory written
  pub held : told_regions (started_view started) written ≡ started_regions ram started

-- what was started, or why nothing was, unless a disk failed
abbrev pub Starts : Result Started Halt → Result Ending reasons.Reason → Memory → List ℕ → Type 0
Starts (Ok started) ending memory ram = IsStarted started ending memory ram
Starts (Err Device) ending memory ram = Unit {0}
Starts (Err (Refused reason)) ending memory ram = ending ≡ Err (reason_view reason)

-- what was shown: the text of the report, or one that goes with a disk's failure
abbrev pub ShowsReport : Result Started Halt → Report → SinkState → SinkState → Type 0
ShowsReport (Ok started) report old new = Shows old report.shown new
ShowsReport (Err Device) report old new = ShowsOne old report.device new
ShowsReport (Err (Refused reason)) report old new = Shows old report.shown new

-- a boot, or a part of it, went as the report says
pub record Reports (report : Report) (result : Result Started Halt) (memory : Memory) (ram : List ℕ) (old new : SinkState) : Type 0 where
  pub starts : Starts result report.result memory ram
  pub shows : ShowsReport result report old new

-- the same, by the memory and the sink before it and after it
abbrev pub ReportsAs : {O : Type 0} → sinks.Ghosts O → Report → Result Started Halt → List ℕ × Shown O → List ℕ × Shown O → Type 0
ReportsAs o report result old new = Reports report result (memory_of old.0) new.0 (sink_of o old.1) (sink_of o new.1)

-- the same of what disks hold, where they report their past: the report for this image, machine and size of memory
abbrev pub ReportsOn : {D O : Type 0} → Ghosts D → sinks.Ghosts O → D → Result Started Halt → List ℕ × Shown O → List ℕ × Shown O
    → (disks.Image → disks.Machine → ℕ → Report) → Type 0
ReportsOn g o disks result old new report =
    OnDisks g disks (λ now machine. ReportsAs o (report now machine (length old.0)) result old new)

-- ---- keys

-- a part that takes no key ended so, as the end of one that may
abbrev pub unasked : Result Started Halt → Result Started Stop
unasked (Ok started) = Ok started
unasked (Err halt) = Err (stops.Halt halt)

-- A boot, or a part of it, went as a report says, and left these keys. Where the source of keys failed, one of the
-- report's texts for that was shown; there, and where a disk failed, no key was taken that the report doesn't take.
abbrev pub Went : Result Started Stop → Report → Memory → List ℕ → List Key → SinkState → SinkState → Type 0
Went (Ok started) report memory ram left old new = (report.left ≡ left) × Reports report (Ok started) memory ram old new
Went (Err stops.Keys) report memory ram left old new = AreLastKeys left report.left × ShowsOne old report.unheard new
Went (Err (stops.Halt Device)) report memory ram left old new =
    AreLastKeys left report.left × Reports report (Err Device) memory ram old new
Went (Err (stops.Halt (Refused reason))) report memory ram left old new =
    (report.left ≡ left) × Reports report (Err (Refused reason)) memory ram old new

-- A part of a boot that takes no key went as a report says, and left of the disks what that says.
pub record ReportsBy {D O : Type 0} (g : Ghosts D) (o : sinks.Ghosts O) (report : Report) (result : Result Started Halt) (phase : Phase)
    (old new : D × List ℕ × Shown O) : Type 0 where
  pub reports : ReportsAs o report result (old.1, old.2) (new.1, new.2)
  pub leaves : Leaves g old.0 new.0 report.write (unasked result) phase

-- A fact about keys and those left: whichever keys a source leaves, it holds of those that it left before. Where the
-- source reports its keys, these are all that it had, and what it has.
abbrev pub OnKeys : {I : Type 0} → sources.Ghosts I → I × I → (List Key → List Key → Type 0) → Type 0
OnKeys i keys P = (left : List Key) → MayLeave i keys.1 left → (all : List Key) × MayLeave i keys.0 all × P all left

-- The same of disks, a source, the memory and the sink before and after it: it left of the disks what the report says, by
-- the phase in which a device failed.
abbrev pub WentBy : {D I O : Type 0} → Ghosts D → sources.Ghosts I → sinks.Ghosts O → Result Started Stop → Phase → (List Key → Report)
    → D × I × List ℕ × Shown O → D × I × List ℕ × Shown O → Type 0
WentBy g i o result phase report (disks, keys, ram, out) (disks', keys', ram', out') =
    OnKeys i (keys, keys') (λ all left. Leaves g disks disks' (report all).write result phase
    × Went result (report all) (memory_of ram) ram' left (sink_of o out) (sink_of o out'))

-- the same of what disks hold, where they report their past: the report for this image, machine, size of memory and keys
abbrev pub WentOn : {D I O : Type 0} → Ghosts D → sources.Ghosts I → sinks.Ghosts O → Result Started Stop → Phase → D × I × List ℕ × Shown O
    → D × I × List ℕ × Shown O → (disks.Image → disks.Machine → ℕ → List Key → Report) → Type 0
WentOn g i o result phase old new report =
    OnDisks g old.0 (λ now machine. WentBy g i o result phase (report now machine (length old.2)) old new)

-- a disk failed
abbrev pub IsLost : Result Started Stop → Type 0
IsLost result = IsErrOf result (stops.Halt Device)

-- the source of keys failed
abbrev pub IsUnheard : Result Started Stop → Type 0
IsUnheard result = IsErrOf result stops.Keys

-- ---- the outcome

-- how a boot ended, by its outcome
abbrev pub result_of : Outcome → Result Started Stop
result_of (outcomes.Loaded layout) = Ok (starts.Loaded layout)
result_of outcomes.Handed = Ok starts.Handed
result_of (outcomes.Refused reason) = Err (stops.Halt (Refused reason))
result_of outcomes.Keys = Err stops.Keys
result_of (outcomes.Device phase) = Err (stops.Halt Device)

-- the phase in which a device failed, where one did
abbrev pub phase_of : Outcome → Phase
phase_of (outcomes.Device phase) = phase
phase_of (outcomes.Loaded layout) = phases.Before
phase_of outcomes.Handed = phases.Before
phase_of (outcomes.Refused reason) = phases.Before
phase_of outcomes.Keys = phases.Before

-- where a kernel was started, its regions lie in a memory of so many bytes
abbrev pub LiesInside : ℕ → Started → Type 0
LiesInside memory (starts.Loaded layout) = LiesIn memory layout
LiesInside memory starts.Handed = Unit {0}

-- neighbouring sectors of a disk
abbrev pub span_view : Span → disks.Span
span_view span = record { disk = span.disk; start = span.start; count = span.count }

-- a boot started what it is to start, showed what it is to show, and left the keys that it is to leave
pub record StartsBoot (started : Started) (boot : boots.Boot) (memory memory' : Memory) (left : List Key) (old new : SinkState) : Type 0 where
  pub outcome : boot.outcome ≡ started_view started
  pub placed : memory' ≡ memory_after memory boot.written
  pub shows : Shows old boot.shown new
  pub keys : boot.left ≡ left

-- a boot was refused as it is to be, showed what it is to show, and left the keys that it is to leave
pub record RefusesBoot (reason : Reason) (boot : boots.Boot) (left : List Key) (old new : SinkState) : Type 0 where
  pub outcome : boot.outcome ≡ boots.Refused (reason_view reason)
  pub shows : Shows old boot.shown new
  pub keys : boot.left ≡ left

-- what was done is this boot, unless a disk or the source of keys failed: then it took no key that this boot doesn't take
abbrev pub EndsAs : Result Started Stop → boots.Boot → Memory → Memory → List Key → SinkState → SinkState → Type 0
EndsAs (Ok started) boot memory memory' left old new = StartsBoot started boot memory memory' left old new
EndsAs (Err stops.Keys) boot memory memory' left old new = AreLastKeys left boot.left
EndsAs (Err (stops.Halt Device)) boot memory memory' left old new = AreLastKeys left boot.left
EndsAs (Err (stops.Halt (Refused reason))) boot memory memory' left old new = RefusesBoot reason boot left old new

-- what was done is this boot, and this was written for its default line
pub record IsBoot {D : Type 0} (g : Ghosts D) (disks disks' : D) (write : Option DefaultLine → Option LineWrite) (outcome : Outcome)
    (boot : boots.Boot) (memory memory' : Memory) (left : List Key) (old new : SinkState) : Type 0 where
  pub ends : EndsAs (result_of outcome) boot memory memory' left old new
  pub leaves : Leaves g disks disks' (write boot.line) (result_of outcome) (phase_of outcome)

-- What was done is the model's boot from a span by the keys that the source had, unless a disk or the source failed; and
-- of the disks the sector of the default line was written, where that is another from then on, and no other sector.
abbrev pub BootsAsModel : {D I O : Type 0} → Ghosts D → sources.Ghosts I → sinks.Ghosts O → disks.Image → disks.Machine → Span → Outcome
    → D × I × List ℕ × Shown O → D × I × List ℕ × Shown O → Type 0
BootsAsModel g i o now machine device outcome (disks, keys, ram, out) (disks', keys', ram', out') =
    OnKeys i (keys, keys') (λ all left. IsBoot g disks disks' (boot_write now machine (span_view device)) outcome
    (boots.whole_boot now machine (span_view device) all (length ram)) (memory_of ram) (memory_of ram') left (sink_of o out) (sink_of o out'))

-- a boot ended as a disk failed
abbrev pub IsDiskFailure : Outcome → Type 0
IsDiskFailure outcome = IsLost (result_of outcome)

-- ---- the texts of failures

-- the text after what ended the loading of an entry
abbrev pub halt_text : Halt → List ℕ
halt_text Device = codes "Error 80\n"
halt_text (Refused reason) = error_text (reason_view reason)

-- the text after what ended the asking; none is shown of a source of keys that failed
abbrev pub stop_text : Stop → List ℕ
stop_text stops.Keys = []
stop_text (stops.Halt halt) = halt_text halt

-- the text after what ended the reading of a map
abbrev pub map_text : Halt → List ℕ
map_text Device = codes " 80\n"
map_text (Refused reason) = codes " 04\n"
