-- Which of the model's refusals each reason why a command ends represents, and what is answered and printed.
use Rattle.std.specs.Prelude.{◌≡◌, ℕ, List, ◌++◌, Option, None, Some, Result, Ok, Err, codes, decimal}
use Rattle.conf_file.specs.View.{Refuses, HasCause}
use Rattle.install_begin.specs.View.{RefusesText}
use Rattle.install_begin.specs.declared.fault.BeginFault.{BeginFault}
use Rattle.install_begin.specs.declared.fault.BeginFault.TheVariants as begins
use Rattle.conf_file.specs.declared.file_fault.FileFault.{FileFault}
use Rattle.conf_file.specs.declared.file_fault.FileFault.TheVariants as files
use Rattle.conf_settings.specs.View.{fault_view}
use Rattle.disk_trait.specs.declared.disks.Phase.{Phase}
use Rattle.disk_trait.specs.declared.disks.Phase.TheVariants.{Before, Commit, After}
use Rattle.lilo_model.specs.ConfRefusal.{ConfRefusal}
use Rattle.lilo_model.specs.Devices as devices
use Rattle.mbr_table.specs.View.{device_view}
use Rattle.mbr_table.specs.declared.device.Device.{Device}
use Rattle.mbr_table.specs.declared.table_fault.TableFault.{TableFault}
use Rattle.mbr_table.specs.declared.table_fault.TableFault.TheVariants as tables
use Rattle.minix_search.specs.View.{told_fault}
use Rattle.lilo_run.specs.declared.conf.ConfHalt.{ConfHalt}
use Rattle.lilo_run.specs.declared.conf.ConfHalt.TheVariants.{File, Text}
use Rattle.lilo_model.specs.Refusal as model
use Rattle.lilo_model.specs.LineShots as model_shots
use Rattle.lilo_model.specs.Reason as reasons
use Rattle.lilo_model.specs.Reason.{Reason}
use Rattle.lilo_model.specs.Verdict.{Verdict, verdict_of}
use Rattle.one_shot.specs.declared.shot.ShotFault.{ShotFault}
use Rattle.one_shot.specs.declared.shot.ShotFault.TheVariants as shots
use Rattle.boot_backup.specs.declared.restore_fault.RestoreFault.{RestoreFault}
use Rattle.boot_backup.specs.declared.restore_fault.RestoreFault.TheVariants as restores
use Rattle.section_loader.specs.View.{reason_view}
use Rattle.lilo_run.specs.declared.refusal.PlaceFault.{PlaceFault}
use Rattle.lilo_run.specs.declared.refusal.PlaceFault.TheVariants.{NoDisk, NoPartition, BadTable}
use Rattle.lilo_run.specs.declared.refusal.Halt.{Halt}
use Rattle.lilo_run.specs.declared.refusal.Halt.TheVariants as halts

-- why a device isn't found
abbrev pub place_fault_view : PlaceFault → model.DeviceFault
place_fault_view NoDisk = model.NoDisk
place_fault_view NoPartition = model.NoPartition
place_fault_view BadTable = model.BadTable

-- what is answered and printed where a disk failed before anything was written
abbrev pub device_failed : Verdict
device_failed = record { status = 8; text = codes "lilo: device\n" }

-- where one failed in that write, or the flush of it
abbrev pub failed_at_commit : Verdict
failed_at_commit = record { status = 9; text = codes "lilo: device at commit\n" }

-- where one failed after that flush
abbrev pub failed_after_commit : Verdict
failed_after_commit = record { status = 10; text = codes "lilo: device after commit\n" }

-- what is answered and printed where a disk failed in a phase
abbrev pub phase_verdict : Phase → Verdict
phase_verdict Before = device_failed
phase_verdict Commit = failed_at_commit
phase_verdict After = failed_after_commit

-- what is answered and printed where the source of keys failed
abbrev pub keys_failed : Verdict
keys_failed = record { status = 11; text = codes "lilo: keys\n" }

-- what is answered and printed where memory didn't suffice
abbrev pub no_memory : Verdict
no_memory = record { status = 13; text = codes "lilo: memory\n" }

-- what is answered and printed where nothing is started
abbrev pub reason_verdict : Reason → Verdict
reason_verdict reason = verdict_of (Err (model.Boot reason))

-- what is answered and printed where a command ended early
abbrev pub halt_verdict : Halt → Verdict
halt_verdict halts.Device = device_failed
halt_verdict (halts.NoPlace fault) = verdict_of (Err (model.Device (place_fault_view fault)))
halt_verdict halts.NotOurs = verdict_of (Err model.NotOurs)
halt_verdict (halts.Boot reason) = reason_verdict (reason_view reason)

-- ---- default lines

-- what is answered and printed of a default line of so many bytes, which are too many
abbrev pub too_long : ℕ → Verdict
too_long size = record { status = 4; text = codes "lilo: address: line " ++ decimal size ++ codes " over 255\n" }

-- what is answered and printed where a default line has no place
abbrev pub line_refused : model_shots.ShotFault → Verdict
line_refused model_shots.NotOurs = verdict_of (Err model.NotOurs)
line_refused (model_shots.LineTooLong size) = too_long size
line_refused (model_shots.BadTable entry) = reason_verdict (reasons.BadTable entry)
line_refused model_shots.NotFound = reason_verdict reasons.NotFound

-- what is answered and printed where a disk failed in a phase of a write after which nothing comes
abbrev pub shot_phase_verdict : Phase → Verdict
shot_phase_verdict Before = device_failed
shot_phase_verdict Commit = failed_at_commit
shot_phase_verdict After = failed_at_commit

-- what is answered and printed where one wasn't written
abbrev pub shot_verdict : ShotFault → Verdict
shot_verdict (shots.LineTooLong size) = too_long size
shot_verdict shots.NotOurs = verdict_of (Err model.NotOurs)
shot_verdict (shots.BadTable entry) = reason_verdict (reasons.BadTable entry)
shot_verdict shots.NotFound = reason_verdict reasons.NotFound
shot_verdict (shots.Device phase) = shot_phase_verdict phase

-- ---- configurations

-- what is answered and printed of a device that isn't found
abbrev pub table_verdict : TableFault → Verdict
table_verdict tables.Device = device_failed
table_verdict fault = verdict_of (Err (model.Device (told_fault fault)))

-- what is answered and printed where a boot sector isn't restored
abbrev pub restore_verdict : RestoreFault → Verdict
restore_verdict restores.NotOurs = verdict_of (Err model.NotOurs)
restore_verdict restores.NoVolume = verdict_of (Err model.NoVolume)
restore_verdict (restores.Place fault) = table_verdict fault
restore_verdict restores.Layout = verdict_of (Err model.Layout)
restore_verdict (restores.Device phase) = shot_phase_verdict phase

-- what is answered and printed of a text that is refused, or for which there is no memory
abbrev pub text_verdict : Option ConfRefusal → Verdict
text_verdict None = no_memory
text_verdict (Some refusal) = verdict_of (Err (model.Config refusal))

-- what is answered and printed where the file of a path isn't read
abbrev pub file_verdict : List ℕ → FileFault → Verdict
file_verdict path files.NoVolume = verdict_of (Err model.NoVolume)
file_verdict path (files.Place fault) = table_verdict fault
file_verdict path files.Device = device_failed
file_verdict path files.Layout = verdict_of (Err model.Layout)
file_verdict path files.Missing = verdict_of (Err (model.Missing path))
file_verdict path files.BadPath = verdict_of (Err (model.BadPath path))
file_verdict path files.Memory = no_memory

-- what is answered and printed where a configuration can't be used, whose path is this one
abbrev pub conf_verdict : List ℕ → ConfHalt → Verdict
conf_verdict path (File fault) = file_verdict path fault
conf_verdict path (Text fault) = text_verdict (fault_view fault)

-- a configuration is refused as the model refuses it, or a disk failed, or there was no memory
abbrev pub ConfRefuses : {A : Type 0} → List ℕ → ConfHalt → Result A model.Refusal → Type 0
ConfRefuses path (File fault) given = Refuses path fault given
ConfRefuses path (Text fault) given = RefusesText (fault_view fault) given

-- what was answered of a configuration is what the model gives, unless a disk failed or there was no memory
abbrev pub GivesDevice : List ℕ → Result Device ConfHalt → Result devices.Device model.Refusal → Type 0
GivesDevice path (Ok device) given = given ≡ Ok (device_view device)
GivesDevice path (Err halt) given = ConfRefuses path halt given

-- the cause: where a disk failed, the count of faults rose
abbrev pub HasConfCause : ℕ → ℕ → ConfHalt → Type 0
HasConfCause before now (File fault) = HasCause before now fault
HasConfCause before now (Text fault) = Unit {0}

-- what an installation begins with is refused so
abbrev pub IsBeginHalt : BeginFault → ConfHalt → Type 0
IsBeginHalt (begins.File fault) halt = halt ≡ File fault
IsBeginHalt (begins.Text fault) halt = halt ≡ Text fault
