-- How what was done compares with what the definitions give.
use Rattle.std.specs.Prelude.{◌≡◌, ◌⊎◌, ◌==◌, ℕ, Bool, true, false, List, [], ◌∷◌, Option, Some, None, Result, Ok, Err, IsErr}
use Rattle.std.specs.List.{list_any}
use Rattle.lilo_model.specs.Faults.{Rose}
use Rattle.stream_trait.specs.Sink.{TakesFront}
use Rattle.stream_trait.specs.Shows.{Prints}
use Rattle.lilo_model.specs.Verdict.{Verdict}
use Rattle.ldisk_model.specs.Arguments.{Command, Put, Rm, Mkdir, Ln, Reclaim, Asked}
use Rattle.minix_names.specs.Component.{HasNoZero}
use Rattle.mbr_table.specs.declared.table_fault.TableFault.{TableFault}
use Rattle.mbr_table.specs.declared.table_fault.TableFault.TheVariants as tables
use Rattle.minix_zones.specs.declared.zone_fault.ZoneFault.{ZoneFault}
use Rattle.minix_zones.specs.declared.zone_fault.ZoneFault.TheVariants as zones
use Rattle.minix_tree.specs.declared.tree_fault.TreeFault.{TreeFault}
use Rattle.minix_tree.specs.declared.tree_fault.TreeFault.TheVariants as trees
use Rattle.ldisk_run.specs.declared.halt.Halt.{Halt}
use Rattle.ldisk_run.specs.declared.halt.Halt.TheVariants.{Device, Refused}
use Rattle.ldisk_run.specs.Pieces.{Held, Adds, AddsFront}

-- ---- a reader

-- a reader was refused as the model refuses, or the disk failed
abbrev pub Halts : {B F : Type 0} → Halt → Result B F → Type 0
Halts Device found = Unit {0}
Halts Refused found = IsErr found

-- What a reader answered, seen by view, is what the model gives, unless the disk failed.
abbrev pub Gives : {A B F : Type 0} → (A → B) → Result A Halt → Result B F → Type 0
Gives view (Ok value) found = found ≡ Ok (view value)
Gives view (Err halt) found = Halts halt found

-- how a refusal of partition tables is reported
abbrev pub IsTableHalt : TableFault → Halt → Type 0
IsTableHalt tables.Device halt = halt ≡ Device
IsTableHalt fault halt = halt ≡ Refused

-- how a refusal of a superblock, an inode or a zone is reported
abbrev pub IsZoneHalt : ZoneFault → Halt → Type 0
IsZoneHalt zones.Device halt = halt ≡ Device
IsZoneHalt fault halt = halt ≡ Refused

-- how a refusal of a path or a file is reported
abbrev pub IsTreeHalt : TreeFault → Halt → Type 0
IsTreeHalt (trees.Zone fault) halt = IsZoneHalt fault halt
IsTreeHalt fault halt = halt ≡ Refused

-- where the disk failed, the count of faults rose
abbrev pub HasCause : ℕ → ℕ → Halt → Type 0
HasCause before now Device = Rose before now
HasCause before now Refused = Unit {0}

-- ---- a command

-- It was done as its verdict says, or the disk failed and a prefix of the verdict's text was added.
abbrev pub Does : Verdict → Result (Unit {0}) Halt → Held → Held → Type 0
Does verdict (Ok done) old new = (verdict.status ≡ 0) × Adds old verdict.text new
Does verdict (Err Refused) old new = (verdict.status ≡ 3) × Adds old verdict.text new
Does verdict (Err Device) old new = AddsFront old verdict.text new

-- the status of a command
abbrev pub status_of : Result (Unit {0}) Halt → ℕ
status_of (Ok done) = 0
status_of (Err Refused) = 3
status_of (Err Device) = 8

-- the status says that a disk failed, that memory ended, or that the source failed
abbrev pub IsFailure : ℕ → Type 0
IsFailure status = (status ≡ 8) ⊎ ((status ≡ 13) ⊎ (status ≡ 11))

-- the same by the status
abbrev pub DoesAs : Verdict → ℕ → Held → Held → Type 0
DoesAs verdict status old new =
    ((status ≡ verdict.status) × Adds old verdict.text new) ⊎ (IsFailure status × AddsFront old verdict.text new)

-- whether a command takes memory
abbrev pub takes_memory : Command → Bool
takes_memory (Put device path) = true
takes_memory (Rm device path) = true
takes_memory (Mkdir device path) = true
takes_memory (Ln device path target) = true
takes_memory (Reclaim device) = true
takes_memory command = false

-- the same of arguments
abbrev pub asked_takes_memory : Option Asked → Bool
asked_takes_memory (Some asked) = takes_memory asked.command
asked_takes_memory None = false

-- the path of what a command makes has no zero byte
abbrev pub HasPlainPath : Command → Type 0
HasPlainPath (Put device path) = HasNoZero path
HasPlainPath (Mkdir device path) = HasNoZero path
HasPlainPath (Ln device path target) = HasNoZero path
HasPlainPath command = Unit {0}

-- ---- the whole

-- the status is the verdict's, or that of a failure, or in the place of 0 it is 12
abbrev pub Answers : Verdict → ℕ → Type 0
Answers verdict status = (status ≡ verdict.status) ⊎ (IsFailure status ⊎ ((status ≡ 12) × (verdict.status ≡ 0)))

-- The verdict's text goes with its status, or 12 in the place of 0, and a prefix of it with that of a failure.
abbrev pub Tells : Verdict → ℕ → Option (List ℕ) → Option (List ℕ) → ℕ → ℕ → Type 0
Tells verdict status old new before now =
    (((status ≡ verdict.status) ⊎ ((status ≡ 12) × (verdict.status ≡ 0))) × Prints old verdict.text new before now)
    ⊎ (IsFailure status × TakesFront old verdict.text new)

-- whether a command that stores nothing may end with this status, but for the sink
abbrev pub is_command_status : ℕ → Bool
is_command_status status = list_any (λ known. known == status) (0 ∷ 1 ∷ 3 ∷ 4 ∷ 5 ∷ 8 ∷ 13 ∷ [])

-- whether any command may end with this status, but for the sink
abbrev pub is_any_status : ℕ → Bool
is_any_status status = list_any (λ known. known == status) (0 ∷ 1 ∷ 3 ∷ 4 ∷ 5 ∷ 8 ∷ 11 ∷ 13 ∷ [])

-- whether a call may end with this status
abbrev pub is_status : ℕ → Bool
is_status status = list_any (λ known. known == status) (0 ∷ 1 ∷ 3 ∷ 4 ∷ 5 ∷ 8 ∷ 11 ∷ 12 ∷ 13 ∷ [])
