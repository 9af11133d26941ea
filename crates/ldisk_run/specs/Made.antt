-- How what makes an image, and what changes a volume, reports what it did.
use Rattle.std.specs.Prelude.{ℕ, List, [], Result, Ok, Err}
use Rattle.ldisk_model.specs.Verdict.{freed_text}
use Rattle.minix_reclaim.specs.Reclaim.{freed_view}
use Rattle.minix_reclaim.specs.declared.waste.Freed.{Freed}
use Rattle.ldisk_files.specs.Answer as files
use Rattle.ldisk_files.specs.Stored as stored
use Rattle.ldisk_files.specs.declared.fault.FileFault.{FileFault}
use Rattle.ldisk_files.specs.declared.put_fault.PutFault.{PutFault}
use Rattle.ldisk_make.specs.Answer.{fault_status}
use Rattle.ldisk_make.specs.declared.fault.MakeFault.{MakeFault}

-- the exit status
abbrev pub made_status : Result (Unit {0}) MakeFault → ℕ
made_status (Ok done) = 0
made_status (Err fault) = fault_status fault

-- that of a command on a volume
abbrev pub file_status : {T : Type 0} → Result T FileFault → ℕ
file_status (Ok done) = 0
file_status (Err fault) = files.fault_status fault

-- what `reclaim` prints
abbrev pub freed_line : Result Freed FileFault → List ℕ
freed_line (Ok freed) = freed_text (freed_view freed)
freed_line (Err fault) = []

-- that of `put`
abbrev pub put_status : Result (Unit {0}) PutFault → ℕ
put_status (Ok done) = 0
put_status (Err fault) = stored.put_status fault
