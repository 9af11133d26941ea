-- What the second stage of a PC's boot hands over to what runs below it: records of binary numbers, the lowest byte first.
-- (This project's own.)
use Rattle.std.specs.Prelude.{◌≡◌, ℕ, List, [], ◌∷◌, ◌++◌, length, Result, Ok, Err}
use Rattle.std.specs.List.{flat_map}
use Rattle.disk_trait.specs.declared.disks.Disks.{Ghosts}
use Rattle.lilo_model.specs.Disks.{Image, Machine, Span}
use Rattle.lilo_model.specs.Boot as boots
use Rattle.lilo_model.specs.Boot.{Ending, boot_address, table_address}
use Rattle.lilo_model.specs.Bytes.{bytes32}
use Rattle.lilo_model.specs.Header.{Layout}
use Rattle.lilo_model.specs.Place.{Written}
use Rattle.lilo_model.specs.Prompt.{Key}
use Rattle.lilo_model.specs.Reason.{Reason}
use Rattle.lilo_model.specs.Refusal.{DeviceFault}
use Rattle.sector_address.specs.Machine.{OnDisks}
use Rattle.stream_trait.specs.Shows.{SinkState, Shows, sink_of}
use Rattle.stream_trait.specs.declared.shown.Shown.{Shown}
use Rattle.stream_trait.specs.declared.sink.Sink as sinks
use Rattle.stream_trait.specs.declared.source.Source as sources
use Rattle.loader_core.specs.Kernel.{region_in, regions_in}
use Rattle.loader_core.specs.Report.{Report, boot_report}
use Rattle.loader_core.specs.Start.{OnKeys}
use Rattle.lilo_run.specs.Run.{Carries, state_of}
use Rattle.lilo_run.specs.Verdict.{Effect}

-- ---- records

-- a region of memory: its address, its length and its bytes
unfoldable pub region_record : Written → List ℕ
region_record region = bytes32 region.address ++ (bytes32 (length region.bytes) ++ region.bytes)

-- the last record: where the machine goes on, and a length that no region has
unfoldable pub entry_record : ℕ → List ℕ
entry_record entry = bytes32 entry ++ bytes32 0xFFFFFFFF

-- where a kernel is entered: at its second sector, 9020:0000 (Linux/x86 boot protocol)
abbrev pub kernel_entry : ℕ
kernel_entry = 0x90200

-- the regions of a kernel's layout as memory has them, and its entry
unfoldable pub kernel_records : List ℕ → Layout → List ℕ
kernel_records ram layout = flat_map region_record (regions_in ram layout) ++ entry_record kernel_entry

-- what memory has where the partition table of another system's boot sector goes, that boot sector, and its entry
unfoldable pub sector_records : List ℕ → List ℕ
sector_records ram =
    region_record (region_in ram (record { address = table_address; size = 64 }))
    ++ (region_record (region_in ram (record { address = boot_address; size = 512 })) ++ entry_record boot_address)

-- what a boot started, as memory has it
abbrev pub started_records : List ℕ → boots.Outcome → List ℕ
started_records ram (boots.Loaded layout) = kernel_records ram layout
started_records ram boots.Handed = sector_records ram
started_records ram (boots.Refused reason) = []

-- the same of how a boot ended
abbrev pub ending_records : List ℕ → Result Ending Reason → List ℕ
ending_records ram (Ok ending) = started_records ram ending.outcome
ending_records ram (Err reason) = []

-- the same of what a boot comes to
abbrev pub report_records : Report → List ℕ → List ℕ
report_records report ram = ending_records ram report.result

-- the same of a boot from where a device lies, by keys, in a memory of so many bytes at first
abbrev pub place_records : Image → Machine → ℕ → Result Span DeviceFault → List Key → List ℕ → List ℕ
place_records now machine memory (Ok span) keys ram = report_records (boot_report now machine span memory keys) ram
place_records now machine memory (Err fault) keys ram = []

-- ---- a boot

-- It carried out what an effect says, by the keys that the source had, and where it answers 0 it handed over these records of
-- the memory after it.
abbrev pub BootsBy : {D I O R : Type 0} → Ghosts D → sources.Ghosts I → sinks.Ghosts O → sinks.Ghosts R → ℕ → D × I × List ℕ × Shown O → Shown R
    → D × I × List ℕ × Shown O → Shown R → (List Key → Effect) → (List Key → List ℕ → List ℕ) → Type 0
BootsBy g i o r status old to new to' effect records =
    OnKeys i (old.1, new.1) (λ all left. Carries g (effect all) status left (state_of i o old) (state_of i o new)
    × (status ≡ 0 → Shows (sink_of r to) (records all new.2) (sink_of r to')))

-- the same of what disks hold, where they report their past
abbrev pub BootsOn : {D I O R : Type 0} → Ghosts D → sources.Ghosts I → sinks.Ghosts O → sinks.Ghosts R → ℕ → D × I × List ℕ × Shown O → Shown R
    → D × I × List ℕ × Shown O → Shown R → (Image → Machine → ℕ → List Key → Effect) → (Image → Machine → ℕ → List Key → List ℕ → List ℕ) → Type 0
BootsOn g i o r status old to new to' effect records =
    OnDisks g old.0 (λ now machine. BootsBy g i o r status old to new to' (effect now machine (length old.2)) (records now machine (length old.2)))
