-- What `lilo` answers, prints, writes, and leaves in memory and of its keys, as if nothing failed, and what it may print
-- where something did. The verdicts are the model's. (This project's own.)
use Rattle.std.specs.Prelude.{ℕ, ◌==◌, Bool, true, false, if◌then◌else◌, List, [], ◌∷◌, ◌++◌, map, flat_map, Option, None, Some, Result, Ok, Err}
use Rattle.std.specs.List.{list_any}
use Rattle.std.specs.Result.{result_ok}
use Rattle.lilo_model.specs.Boot.{Ending}
use Rattle.lilo_model.specs.Reason.{Reason}
use Rattle.lilo_model.specs.Checks.{◌>>=◌, with_fault}
use Rattle.lilo_model.specs.ConfVerdict.{conf_path, conf_device, place_at, conf_query_verdict}
use Rattle.lilo_model.specs.Devices.{Device}
use Rattle.lilo_model.specs.Disks.{Image, Machine, Span, DiskSector}
use Rattle.lilo_model.specs.LineSector.{line_bytes}
use Rattle.lilo_model.specs.LineShots.{shot_line, shot_place}
use Rattle.lilo_model.specs.LineWords.{joined_words}
use Rattle.lilo_model.specs.Place.{Written}
use Rattle.lilo_model.specs.Prompt.{Key}
use Rattle.lilo_model.specs.Refusal as refusals
use Rattle.lilo_model.specs.Verdict.{Verdict, verdict_of, verdict_behind, query_verdict, start_check, region_text, told_regions}
use Rattle.lilo_model.specs.Words as words
use Rattle.lilo_model.specs.Words.{Command, Part, run_at, usage_text}
use Rattle.loader_core.specs.Report.{LineWrite, Report, boot_report, image_with}
use Rattle.boot_backup.specs.Restore.{boot_place, restored_in}
use Rattle.install_begin.specs.Begin.{begun_at}
use Rattle.install_laws.specs.InstallVerdict.{Answer, InstallRefusal, Reading, answer_text, test_verdict, verdict_by}
use Rattle.install_run.specs.Answers.{install_on}
use Rattle.lilo_run.specs.Refusal.{device_failed, failed_at_commit, failed_after_commit, keys_failed, no_memory, reason_verdict, line_refused}

-- What is found out only as an installation runs: the image that its settling leaves, whether that decided the answer (else a
-- disk failed or memory ended first), and the image at its end.
pub record Left : Type 0 where
  pub settled : Image
  pub answered : Bool
  pub ended : Image

-- an installation: what disks hold at its entry, the device that is named for the volume, the configuration's path, the time
-- in seconds since 1970, and what is found out
pub record Installation : Type 0 where
  pub image : Image
  pub machine : Machine
  pub root : Option Device
  pub path : List ℕ
  pub time : ℕ
  pub left : Left

-- what a command does
pub record Effect : Type 0 where
  -- its status, and what it prints
  pub verdict : Verdict
  -- the texts of which it prints one where a disk failed before it wrote
  pub failures : List (List ℕ)
  -- those where one failed in its write or the flush of that
  pub at_commit : List (List ℕ)
  -- those where one failed after that
  pub after_commit : List (List ℕ)
  -- those where memory didn't suffice
  pub starved : List (List ℕ)
  -- and those where the source of keys failed
  pub unheard : List (List ℕ)
  -- what it puts into memory where its status is 0
  pub written : List Written
  -- the keys that it leaves
  pub left : List Key
  -- the sector that it writes: of a default line, or a boot sector
  pub write : Option LineWrite
  -- the installation that it is: no other command writes more than that sector
  pub installs : Option Installation
  -- whether it boots: no other command changes memory
  pub boots : Bool

-- a command that only answers and prints
abbrev pub plain_effect : Verdict → List (List ℕ) → Effect
plain_effect verdict failures =
    record {
      verdict = verdict;
      failures = failures;
      at_commit = [];
      after_commit = [];
      starved = [];
      unheard = [];
      written = [];
      left = [];
      write = None;
      installs = None;
      boots = false;
    }

-- one that reads a configuration first, which takes memory
abbrev pub conf_effect : Verdict → Effect
conf_effect verdict =
    record (plain_effect verdict (device_failed.text ∷ [])) { starved = no_memory.text ∷ [] }

-- a command that takes no key of these
abbrev pub leaving : List Key → Effect → Effect
leaving keys effect = record effect { left = keys }

-- the same of one that writes nothing
abbrev pub keeping : List Key → Effect → Effect
keeping keys effect = record effect { left = keys; write = None; installs = None }

-- ---- a command

-- `-q` with a device
unfoldable pub query_effect : Image → Machine → Result Span refusals.DeviceFault → Effect
query_effect now machine place = plain_effect (query_verdict now machine place) (device_failed.text ∷ [])

-- the text of some regions of memory, where that is asked for
abbrev pub regions_text : Bool → List Written → List ℕ
regions_text dump regions = if dump then flat_map region_text regions else []

-- what is reported of the memory where something was started
abbrev pub told_text : Bool → Ending → List ℕ
told_text dump ending = regions_text dump (told_regions ending.outcome ending.written)

-- what is answered at the end of a boot, and printed after what it showed
abbrev pub end_verdict : Bool → Result Ending Reason → Verdict
end_verdict dump (Ok ending) = verdict_of (start_check ending.outcome >>= λ a. Ok (told_text dump ending))
end_verdict dump (Err reason) = reason_verdict reason

-- what was put into memory where something was started
abbrev pub end_written : Result Ending Reason → List Written
end_written (Ok ending) = ending.written
end_written (Err reason) = []

-- what is printed after what a boot showed, with the text of this verdict at the end
abbrev pub failed_behind : Verdict → List ℕ → List ℕ
failed_behind failed shown = shown ++ failed.text

-- a boot that goes as a report says
unfoldable pub report_effect : Bool → Report → Effect
report_effect dump report = record {
  verdict = verdict_behind report.shown (end_verdict dump report.result);
  failures = map (failed_behind device_failed) report.device;
  at_commit = map (failed_behind failed_at_commit) report.device;
  after_commit = map (failed_behind failed_after_commit) report.device;
  starved = [];
  unheard = map (failed_behind keys_failed) report.unheard;
  written = end_written report.result;
  left = report.left;
  write = report.write;
  installs = None;
  boots = true;
}

-- `boot`, with `--dump` or without, in a memory of so many bytes, by keys
unfoldable pub boot_effect : Image → Machine → ℕ → Bool → Result Span refusals.DeviceFault → List Key → Effect
boot_effect now machine memory dump (Ok span) keys = report_effect dump (boot_report now machine span memory keys)
boot_effect now machine memory dump (Err fault) keys =
    record (plain_effect (verdict_of (Err (refusals.Device fault))) (device_failed.text ∷ [])) { left = keys; boots = true }

-- what an installation answers, by the image that its settling leaves
abbrev pub installed_answer : Image → Machine → Option Device → List ℕ → ℕ → Left → Result Answer InstallRefusal
installed_answer image machine root path time left =
    with_fault Reading (begun_at image machine root path) >>= install_on image machine left.settled time

-- what is printed of it where a disk failed before the commit: the line alone, or after the text of the answer
abbrev pub lost_text : Verdict → Left → List ℕ
lost_text verdict left = failed_behind device_failed (if left.answered then verdict.text else [])

-- an installation that answers so
abbrev pub installing : Verdict → Installation → Effect
installing verdict found =
    record (plain_effect verdict (lost_text verdict found.left ∷ [])) {
      at_commit = failed_behind failed_at_commit verdict.text ∷ [];
      after_commit = failed_behind failed_after_commit verdict.text ∷ [];
      starved = no_memory.text ∷ [];
      installs = Some found;
    }

-- an installation at a time, whose configuration's device and path are these
unfoldable pub install_effect : Image → Machine → Option Device → List ℕ → ℕ → Left → Effect
install_effect image machine root path time left =
    installing (verdict_by answer_text (installed_answer image machine root path time left))
    (record { image = image; machine = machine; root = root; path = path; time = time; left = left })

-- `-t` at a time
unfoldable pub test_effect : Image → Machine → ℕ → Option Device → List ℕ → Effect
test_effect now machine time root path = conf_effect (test_verdict now machine root path time)

-- `-q` without a device
unfoldable pub conf_query_effect : Image → Machine → Option Device → List ℕ → Effect
conf_query_effect now machine root path = conf_effect (conf_query_verdict now machine root path)

-- where the default line of a text goes on a device, or what is answered and printed of the first refusal
abbrev pub line_on : Image → Machine → List ℕ → Result Span refusals.DeviceFault → Result DiskSector Verdict
line_on now machine text place = do
  span ← with_fault (λ fault. verdict_of (Err (refusals.Device fault))) place
  with_fault line_refused (shot_place now machine span text)

-- the same on the device that a configuration boots
abbrev pub line_by : Image → Machine → List ℕ → Result Device refusals.Refusal → Result DiskSector Verdict
line_by now machine text device = do
  found ← with_fault (λ refusal. verdict_of (Err refusal)) device
  line_on now machine text (place_at now machine found)

-- what is answered and printed of a line that goes there: nothing is printed of one that is written
abbrev pub line_verdict : Result DiskSector Verdict → Verdict
line_verdict (Ok place) = verdict_of (Ok [])
line_verdict (Err verdict) = verdict

-- what is written there
abbrev pub shot_write : List ℕ → Result DiskSector Verdict → Option LineWrite
shot_write text (Ok place) = Some (record { place = place; bytes = line_bytes (shot_line text) })
shot_write text (Err verdict) = None

-- a command that writes the default line of a text there; nothing comes after the write that may fail
abbrev pub shot_effect : List ℕ → Result DiskSector Verdict → Effect
shot_effect text place =
    record (conf_effect (line_verdict place)) { at_commit = failed_at_commit.text ∷ []; write = shot_write text place }

-- `-R` with a text, which the words after it are with a space between each two: it sets the default line for one boot, or
-- without words it clears it
unfoldable pub line_effect : Image → Machine → Option Device → List ℕ → List ℕ → Effect
line_effect now machine root path text = shot_effect text (line_by now machine text (conf_device now machine root path))

-- bytes, and the sector where they are to be written
abbrev pub written_at : DiskSector → Result (List ℕ) refusals.Refusal → Result LineWrite refusals.Refusal
written_at place bytes = bytes >>= λ found. Ok (record { place = place; bytes = found })

-- the boot sector that is restored where a device lies, by the device that is named for the volume
abbrev pub restored_at : Image → Machine → Option Device → Device → Span → Result LineWrite refusals.Refusal
restored_at now machine root device span = written_at (boot_place span) (restored_in now machine root device span)

-- the same where the device is looked for, or the first refusal
abbrev pub restored_on : Image → Machine → Option Device → Device → Result Span refusals.DeviceFault → Result LineWrite refusals.Refusal
restored_on now machine root device place = do
  span ← with_fault refusals.Device place
  restored_at now machine root device span

-- what is answered and printed of a boot sector that is restored: nothing is printed of one that is written
abbrev pub restored_verdict : Result LineWrite refusals.Refusal → Verdict
restored_verdict (Ok write) = verdict_of (Ok [])
restored_verdict (Err refusal) = verdict_of (Err refusal)

-- a command that writes this boot sector; nothing comes after the write that may fail
abbrev pub restored_effect : Result LineWrite refusals.Refusal → Effect
restored_effect found =
    record (plain_effect (restored_verdict found) (device_failed.text ∷ [])) { at_commit = failed_at_commit.text ∷ []; write = result_ok found }

-- `-u` with a device
unfoldable pub restore_effect : Image → Machine → Option Device → Device → Result Span refusals.DeviceFault → Effect
restore_effect now machine root device place = restored_effect (restored_on now machine root device place)

-- `-q` on a device, or on that of a configuration
abbrev pub query_command : Image → Machine → Option Device → List ℕ → Option Device → Effect
query_command now machine root path (Some device) = query_effect now machine (place_at now machine device)
query_command now machine root path None = conf_query_effect now machine root path

-- a command by keys, of which only a boot takes any, with a memory of so many bytes and at a time, whose volume lies on this
-- device, where one is named, and has its configuration at this path; only an installation looks at what is found out
unfoldable pub command_effect : Image → Machine → ℕ → ℕ → Option Device → List ℕ → Command → Left → List Key → Effect
command_effect now machine memory time root path (words.Boot device dump) left keys = boot_effect now machine memory dump (place_at now machine device) keys
command_effect now machine memory time root path words.Install left keys = leaving keys (install_effect now machine root path time left)
command_effect now machine memory time root path words.Test left keys = keeping keys (test_effect now machine time root path)
command_effect now machine memory time root path (words.Query device) left keys = keeping keys (query_command now machine root path device)
command_effect now machine memory time root path (words.SetLine line) left keys = leaving keys (line_effect now machine root path (joined_words line))
command_effect now machine memory time root path (words.Restore device) left keys =
    leaving keys (restore_effect now machine root device (place_at now machine device))

-- a part
abbrev pub part_effect : Machine → ℕ → ℕ → Image → Part → Left → List Key → Effect
part_effect machine memory time now part left keys = command_effect now machine memory time part.root (conf_path part.config) part.command left keys

-- ---- a run

-- what disks hold once something was installed, or else a sector written
abbrev pub image_by : Option Installation → Option LineWrite → Image → Image
image_by None write now = image_with now write
image_by (Some found) write now = found.left.ended

-- the same once a part was done
abbrev pub image_after : Effect → Image → Image
image_after effect now = image_by effect.installs effect.write now

-- what the first of some parts finds out, where it is given
abbrev pub first_left : Image → List Left → Left
first_left now [] = record { settled = now; answered = false; ended = now }
first_left now (left ∷ lefts) = left

abbrev pub later_lefts : List Left → List Left
later_lefts [] = []
later_lefts (left ∷ lefts) = lefts

-- what parts do in order, each over what the disks hold after the one before it, by what it finds out and by the keys that
-- are left
abbrev pub parts_effects : (Image → Part → Left → List Key → Effect) → Image → List Part → List Left → List Key → List Effect
parts_effects effect now [] lefts keys = []
parts_effects effect now (part ∷ parts) lefts keys =
    effect now part (first_left now lefts) keys
    ∷ parts_effects effect (image_after (effect now part (first_left now lefts) keys) now) parts (later_lefts lefts)
    (effect now part (first_left now lefts) keys).left

-- what the parts of a run do; arguments that are none are as one part, which shows the usage
abbrev pub words_effects : (Image → Part → Left → List Key → Effect) → Image → List (List ℕ) → List Left → List Key → Result (List Part) (Option ℕ)
    → List Effect
words_effects effect now words lefts keys (Ok parts) = parts_effects effect now parts lefts keys
words_effects effect now words lefts keys (Err wrong) = keeping keys (plain_effect (record { status = 1; text = usage_text words }) []) ∷ []

-- what the parts of arguments do, by what each finds out and by keys, over disks that hold this image, with a memory of so
-- many bytes and at a time
unfoldable pub effects_of : Image → Machine → ℕ → ℕ → List (List ℕ) → List Left → List Key → List Effect
effects_of now machine memory time words lefts keys = words_effects (part_effect machine memory time) now words lefts keys (run_at words)

-- Verdict: the texts of the parts that answer 0, and after them the first other verdict
abbrev pub run_verdict : List Effect → Verdict
run_verdict [] = verdict_of (Ok [])
run_verdict (part ∷ parts) =
    if part.verdict.status == 0 then verdict_behind part.verdict.text (run_verdict parts) else part.verdict

-- the keys that they leave where all answer 0
abbrev pub run_left : List Key → List Effect → List Key
run_left keys [] = keys
run_left keys (part ∷ parts) = run_left part.left parts

-- what they put into memory where all answer 0
abbrev pub run_written : List Effect → List Written
run_written parts = flat_map (λ part. part.written) parts

-- what disks hold once all were done
abbrev pub run_image : Image → List Effect → Image
run_image now [] = now
run_image now (part ∷ parts) = run_image (image_after part now) parts

-- ---- what is known of arguments, whatever disks hold

-- what is answered whatever a disk holds: 3 for a device of a disk without sectors
abbrev pub early_at : (ℕ → ℕ) → Device → Option ℕ
early_at size_of device = if size_of device.disk == 0 then Some 3 else None

unfoldable pub early_status : (ℕ → ℕ) → Command → Option ℕ
early_status size_of (words.Query (Some device)) = early_at size_of device
early_status size_of (words.Boot device dump) = early_at size_of device
early_status size_of (words.Restore device) = early_at size_of device
early_status size_of _ = None

-- the same of parts, by the first
unfoldable pub early_parts : (ℕ → ℕ) → List Part → Option ℕ
early_parts size_of [] = None
early_parts size_of (part ∷ parts) = early_status size_of part.command

-- the same of arguments, and 1 for those that are no run
unfoldable pub early_answer : (ℕ → ℕ) → Result (List Part) (Option ℕ) → Option ℕ
early_answer size_of (Ok parts) = early_parts size_of parts
early_answer size_of (Err wrong) = Some 1

-- whether a command boots
abbrev pub is_boot : Command → Bool
is_boot (words.Boot device dump) = true
is_boot _ = false

-- whether one of some parts boots
unfoldable pub has_boot : List Part → Bool
has_boot parts = list_any (λ part. is_boot part.command) parts

-- whether a command works on once its write is durable: a boot reads what it starts, and an installation tidies
abbrev pub works_on : Command → Bool
works_on (words.Boot device dump) = true
works_on words.Install = true
works_on _ = false

-- whether one of some parts does
unfoldable pub has_work_on : List Part → Bool
has_work_on parts = list_any (λ part. works_on part.command) parts

-- whether a command may write a disk
abbrev pub is_write : Command → Bool
is_write (words.Boot device dump) = true
is_write words.Install = true
is_write (words.SetLine line) = true
is_write (words.Restore device) = true
is_write _ = false

-- whether one of some parts may
unfoldable pub has_write : List Part → Bool
has_write parts = list_any (λ part. is_write part.command) parts

-- whether arguments are a run of which a part boots
abbrev pub run_boots : Result (List Part) (Option ℕ) → Bool
run_boots (Ok parts) = has_boot parts
run_boots (Err wrong) = false

-- whether a command reads a configuration
abbrev pub reads_conf : Command → Bool
reads_conf words.Install = true
reads_conf words.Test = true
reads_conf (words.Query None) = true
reads_conf (words.SetLine line) = true
reads_conf _ = false

-- whether one of some parts does
unfoldable pub has_conf : List Part → Bool
has_conf parts = list_any (λ part. reads_conf part.command) parts
