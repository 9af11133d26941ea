-- The values of a creation, and what each call makes of them.
use Rattle.std.specs.Prelude.{◌≡◌, ◌≢◌, ◌≤◌, ◌<◌, ℕ, List, length, slice_index, Result, Ok, Err}
use Rattle.disk_trait.specs.declared.disks.Disks.{Ghosts}
use Rattle.disk_trait.specs.Moments.{IsTold, IsQuiet}
use Rattle.disk_trait.specs.NotWritten.{NotWritten}
use Rattle.lilo_model.specs.Faults.{Rose}
use Rattle.minix_layout.specs.View.{kind_view}
use Rattle.minix_steps.specs.Steps.{Steps}
use Rattle.minix_choice.specs.declared.write_fault.WriteFault.{WriteFault}
use Rattle.minix_choice.specs.declared.write_fault.WriteFault.TheVariants.{Device}
use Rattle.minix_zones.specs.Volume.{past_of, faults_of}
use Rattle.minix_zones.specs.declared.volume.Volume.{Volume}
use Rattle.minix_create.specs.Chosen.{Suits, MayLinkNow, MayBeMade, MayNest}
use Rattle.minix_create.specs.Created.{IsOffFile, IsOpen, IsReserved, IsFilled}
use Rattle.minix_create.specs.Grown.{MayGrowNow}
use Rattle.minix_create.specs.Linked.{LinksFilled, Creates}
use Rattle.minix_create.specs.declared.chosen.Chosen.{Chosen}
use Rattle.minix_create.specs.declared.filled.Filled.{Filled}
use Rattle.minix_create.specs.declared.linked.Linked.{Linked}
use Rattle.minix_choice.specs.declared.halt.WriteHalt.{WriteHalt}
use Rattle.minix_create.specs.declared.reserved.Reserved.{Reserved}

-- a file that is reserved may be gone on with: its next block is no hole, or there is none
pub record IsInHand {D : Type 0} {disks : Ghosts D} (reserved : Reserved D disks) : Type 0 where
  pub may : IsOpen reserved.volume reserved.chosen
  pub some : reserved.next < length reserved.chosen.choice.blocks → slice_index reserved.chosen.choice.blocks reserved.next ≢ 0
  pub there : reserved.next ≤ length reserved.chosen.choice.blocks

-- since a volume was as it is here it was reserved, and the blocks before the next one were written as they are given
abbrev pub IsReservedSince : {D : Type 0} {disks : Ghosts D} → Volume D disks → (ℕ → List ℕ) → Reserved D disks → Type 0
IsReservedSince start given reserved = IsReserved start reserved.volume reserved.chosen given reserved.next

-- it was reserved on a volume, and nothing more
pub record Reserves {D : Type 0} {disks : Ghosts D} (start : Volume D disks) (chosen : Chosen) (reserved : Reserved D disks) : Type 0 where
  pub same : reserved.chosen ≡ chosen
  pub hand : IsInHand reserved
  pub since : (given : ℕ → List ℕ) → IsReservedSince start given reserved

-- its next block was written
pub record WritesBlock {D : Type 0} {disks : Ghosts D} (old new : Reserved D disks) (bytes : List ℕ) : Type 0 where
  pub same : new.chosen ≡ old.chosen
  pub further : old.next < new.next
  pub hand : IsInHand new
  pub since : (start : Volume D disks) (given : ℕ → List ℕ) → bytes ≡ given old.next → IsReservedSince start given old → IsReservedSince start given new

-- a file is filled, and its directory may grow for it
pub record IsInPlace {D : Type 0} {disks : Ghosts D} (filled : Filled D disks) : Type 0 where
  pub suits : Suits filled.volume.layout filled.volume.span filled.chosen
  pub quiet : IsQuiet (past_of filled.volume)
  pub grows : IsTold (past_of filled.volume) → MayGrowNow filled.volume filled.chosen

pub record Fills {D : Type 0} {disks : Ghosts D} (reserved : Reserved D disks) (filled : Filled D disks) : Type 0 where
  pub same : filled.chosen ≡ reserved.chosen
  pub place : IsInPlace filled
  pub since : (start : Volume D disks) (given : ℕ → List ℕ) → (IsTold (past_of start) → MayBeMade (kind_view start.layout.kind) reserved.chosen given)
      → IsReservedSince start given reserved → IsFilled start filled.volume filled.chosen given

-- a call was refused as the disk failed. What it did no name sees, and it wrote nothing but what was chosen.
pub record GoesWrong {D : Type 0} {disks : Ghosts D} (old new : Volume D disks) (chosen : Chosen) (fault : WriteFault) : Type 0 where
  pub steps : Steps old new
  pub others : (d s : ℕ) → IsOffFile old chosen d s → NotWritten (past_of old) (past_of new) d s
  pub device : fault ≡ Device
  pub rose : Rose (faults_of old) (faults_of new)

-- the same, where the volume is handed back
abbrev pub Halts : {D : Type 0} {disks : Ghosts D} → Volume D disks → Chosen → WriteHalt D disks → Type 0
Halts old chosen halt = GoesWrong old halt.volume chosen halt.fault

-- ---- the name

-- a filled file got its name
pub record Links {D : Type 0} {disks : Ghosts D} (old : Filled D disks) (linked : Volume D disks × Linked) : Type 0 where
  pub inode : linked.1.inode ≡ old.chosen.choice.inode
  pub quiet : IsQuiet (past_of linked.0)
  pub creates : LinksFilled old.volume linked.0 old.chosen (Ok tt)

-- or it was refused
pub record LinkHalts {D : Type 0} {disks : Ghosts D} (old : Filled D disks) (halt : WriteHalt D disks) : Type 0 where
  pub creates : LinksFilled old.volume halt.volume old.chosen (Err halt.fault)

-- ---- all of it

-- on a volume a file was made of the blocks that are given, whole or not at all, in each directory where its name may be made
abbrev pub CreatesOn : {D : Type 0} {disks : Ghosts D} → Volume D disks → Volume D disks → Chosen → (ℕ → List ℕ) → Result (Unit {0}) WriteFault → Type 0
CreatesOn start volume chosen given result =
    (outer : List (List ℕ)) → MayNest outer chosen → (IsTold (past_of start) → MayLinkNow start outer chosen) → Creates start volume outer chosen given result

-- it is there
pub record CreatesFile {D : Type 0} {disks : Ghosts D} (start : Volume D disks) (chosen : Chosen) (given : ℕ → List ℕ)
    (linked : Volume D disks × Linked) : Type 0 where
  pub inode : linked.1.inode ≡ chosen.choice.inode
  pub quiet : IsQuiet (past_of linked.0)
  pub creates : CreatesOn start linked.0 chosen given (Ok tt)

-- or a call was refused
abbrev pub CreationHalts : {D : Type 0} {disks : Ghosts D} → Volume D disks → Chosen → (ℕ → List ℕ) → WriteHalt D disks → Type 0
CreationHalts start chosen given halt = CreatesOn start halt.volume chosen given (Err halt.fault)
