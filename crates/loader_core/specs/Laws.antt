-- What is reported of a boot is the model's boot.
use Rattle.std.specs.Prelude.{◌≡◌, ℕ, List, Option, Result, Ok, Err}
use Rattle.lilo_model.specs.DefaultLine.{DefaultLine}
use Rattle.lilo_model.specs.Disks.{Image, Machine, Span}
use Rattle.lilo_model.specs.Prompt.{Key}
use Rattle.lilo_model.specs.Reason.{Reason}
use Rattle.lilo_model.specs.Boot.{Boot, Ending, Refused, whole_boot}
use Rattle.loader_core.specs.Report.{LineWrite, Report, boot_report, boot_write}

-- a boot ends so
abbrev pub EndsSo : Boot → Result Ending Reason → Type 0
EndsSo boot (Ok ending) = (boot.outcome ≡ ending.outcome) × (boot.written ≡ ending.written)
EndsSo boot (Err reason) = boot.outcome ≡ Refused reason

-- a boot is the one of a report; this is written for its default line
pub record IsReported (boot : Boot) (report : Report) (write : Option DefaultLine → Option LineWrite) : Type 0 where
  pub ends : EndsSo boot report.result
  pub shown : boot.shown ≡ report.shown
  pub left : boot.left ≡ report.left
  pub written : report.write ≡ write boot.line

-- what is reported of a boot is the model's boot, for all keys
abbrev pub ReportLaw : Type 0
ReportLaw =
    (image : Image) (machine : Machine) (span : Span) (keys : List Key) (memory : ℕ)
    → IsReported (whole_boot image machine span keys memory) (boot_report image machine span memory keys) (boot_write image machine span)
