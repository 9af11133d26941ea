-- What the steps of loading a file give.
use Rattle.std.specs.Prelude.{◌≡◌, ◌⊎◌, ◌≤◌, ◌<◌, ◌%◌, ℕ, List, length, Some, Result, Ok, Err}
use Rattle.lilo_model.specs.Bytes.{filled_bytes}
use Rattle.lilo_model.specs.Place.{Memory, with_bytes}
use Rattle.section_loader.specs.declared.reason.Halt.{Halt}
use Rattle.section_loader.specs.declared.reason.Halt.TheVariants.{Device, Refused}
use Rattle.section_loader.specs.Reading.{FileRest, rest_behind}
use Rattle.section_loader.specs.View.{reason_view}

-- some bytes of a file end with a sector or with the file
pub record IsCut (size left : ℕ) : Type 0 where
  pub there : size ≤ left
  pub ends : (size % 512 ≡ 0) ⊎ (size ≡ left)

-- so many bytes of a file were placed in memory
pub record IsLoaded (size at : ℕ) (old : FileRest) (memory : Memory) (new : FileRest) (memory' : Memory) : Type 0 where
  pub bytes : List ℕ
  pub long : length bytes ≡ size
  pub read : old ≡ rest_behind bytes new
  pub placed : memory' ≡ with_bytes memory (record { address = at; bytes = bytes })

-- a file's bytes end for this reason
abbrev pub StopsFor : FileRest → Halt → Type 0
StopsFor rest Device = ⊥
StopsFor rest (Refused reason) = rest.stop ≡ Some (reason_view reason)

-- fewer bytes of a file are there, and this is in place of the others
pub record IsShort (size : ℕ) (old : FileRest) (halt : Halt) : Type 0 where
  pub stops : StopsFor old halt
  pub short : length old.bytes < size

-- what was loaded
abbrev pub Loads : Result (Unit {0}) Halt → ℕ → ℕ → FileRest → Memory → FileRest → Memory → Type 0
Loads (Ok done) size at old memory new memory' = IsLoaded size at old memory new memory'
Loads (Err Device) size at old memory new memory' = Unit {0}
Loads (Err (Refused reason)) size at old memory new memory' = IsShort size old (Refused reason)

-- a sector of a file, with zeros after so many bytes
pub record IsCutSector (size : ℕ) (old : FileRest) (sector : List ℕ) (new : FileRest) : Type 0 where
  pub bytes : List ℕ
  pub long : length bytes ≡ size
  pub read : old ≡ rest_behind bytes new
  pub filled : sector ≡ filled_bytes 512 bytes

-- what was read of one sector
abbrev pub ReadsCut : Result (Unit {0}) Halt → ℕ → FileRest → List ℕ → FileRest → Type 0
ReadsCut (Ok done) size old sector new = IsCutSector size old sector new
ReadsCut (Err Device) size old sector new = Unit {0}
ReadsCut (Err (Refused reason)) size old sector new = IsShort size old (Refused reason)
