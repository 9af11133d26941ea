-- What the steps of loading a kernel give.
use Rattle.std.specs.Prelude.{◌≡◌, ◌≤◌, ◌<◌, ◌+◌, ◌%◌, ◌^◌, ℕ, List, [], ◌∷◌, ◌++◌, length, Option, None, Some, Result, Ok, Err}
use Rattle.lilo_model.specs.Bytes.{part_of, filled_bytes}
use Rattle.lilo_model.specs.Header as headers
use Rattle.lilo_model.specs.Place.{Memory, Written, memory_after, initrd_written}
use Rattle.lilo_model.specs.Reason as reasons
use Rattle.lilo_model.specs.Boot.{Ending, Loaded}
use Rattle.bios_model.specs.Memory.{memory_of}
use Rattle.setup_header.specs.declared.header.Header.{Header}
use Rattle.setup_header.specs.declared.layout.Layout.{Layout}
use Rattle.setup_header.specs.View.{header_view, layout_view}
use Rattle.setup_header.specs.Words.{EndsBy}
use Rattle.section_loader.specs.declared.reason.Reason.{Reason}
use Rattle.section_loader.specs.declared.reason.Halt.{Halt}
use Rattle.section_loader.specs.declared.reason.Halt.TheVariants.{Device, Refused}
use Rattle.section_loader.specs.Reading.{FileRest, rest_behind}
use Rattle.section_loader.specs.Load.{StopsFor, IsShort}
use Rattle.section_loader.specs.View.{reason_view}

-- the first two sectors of a file, with zeros after so many bytes
pub record IsTwo (size : ℕ) (old : FileRest) (sectors : List ℕ) (new : FileRest) : Type 0 where
  pub bytes : List ℕ
  pub long : length bytes ≡ size
  pub read : old ≡ rest_behind bytes new
  pub filled : sectors ≡ filled_bytes 1024 bytes

-- what was read of two sectors
abbrev pub ReadsTwo : Result (Unit {0}) Halt → ℕ → FileRest → List ℕ → FileRest → Type 0
ReadsTwo (Ok done) size old sectors new = IsTwo size old sectors new
ReadsTwo (Err Device) size old sectors new = Unit {0}
ReadsTwo (Err (Refused reason)) size old sectors new = IsShort size old (Refused reason)

-- a kernel is refused for this reason
abbrev pub IsSetupRefusal : {A : Type 0} → Reason → Result A headers.SetupFault → Type 0
IsSetupRefusal reason (Ok value) = ⊥
IsSetupRefusal reason (Err fault) = reason_view reason ≡ (reasons.Header fault)

-- a header, or the refusal of one
abbrev pub GivesHeader : Result Header Halt → Result headers.Header headers.SetupFault → Type 0
GivesHeader (Ok header) read = read ≡ Ok (header_view header)
GivesHeader (Err Device) read = ⊥
GivesHeader (Err (Refused reason)) read = IsSetupRefusal reason read

-- a layout, or the refusal of one
abbrev pub GivesLayout : Result Layout Halt → Result headers.Layout headers.SetupFault → Type 0
GivesLayout (Ok layout) read = read ≡ Ok (layout_view layout)
GivesLayout (Err Device) read = ⊥
GivesLayout (Err (Refused reason)) read = IsSetupRefusal reason read

-- memory has room for a kernel of which so many bytes are left after its first two sectors
pub record HoldsKernel (layout : Layout) (left memory : ℕ) : Type 0 where
  pub least : 1024 ≤ layout.real.length
  pub whole : layout.real.length % 512 ≡ 0
  pub rest : layout.real.length + layout.protected.length ≡ left + 1024
  pub real_inside : EndsBy memory layout.real
  pub protected_inside : EndsBy memory layout.protected
  pub few : memory < 2 ^ 32

-- a kernel was placed: its first two sectors and the others of its real-mode part, and its protected-mode part
pub record IsPlaced (layout : Layout) (sectors : List ℕ) (old : FileRest) (memory memory' : Memory) : Type 0 where
  pub real : List ℕ
  pub protected : List ℕ
  pub real_long : length real + 1024 ≡ layout.real.length
  pub protected_long : length protected ≡ layout.protected.length
  pub read : old ≡ record { bytes = real ++ protected; stop = None }
  pub placed :
      memory' ≡ memory_after memory
      (record { address = layout.real.address; bytes = sectors ++ real } ∷ (record { address = layout.protected.address; bytes = protected } ∷ []))

abbrev pub PlacesKernel : Result (Unit {0}) Halt → Layout → List ℕ → FileRest → Memory → Memory → Type 0
PlacesKernel (Ok done) layout sectors old memory memory' = IsPlaced layout sectors old memory memory'
PlacesKernel (Err Device) layout sectors old memory memory' = Unit {0}
PlacesKernel (Err (Refused reason)) layout sectors old memory memory' = StopsFor old (Refused reason)

-- a region is as long as its bytes
abbrev pub IsSized : Option headers.Region → Option (List ℕ) → Type 0
IsSized None None = Unit {0}
IsSized (Some region) (Some bytes) = length bytes ≡ region.size
IsSized _ _ = ⊥

-- an initrd was placed at its region, or there is none
pub record IsInitrd (region : Option headers.Region) (read : Result (Option (List ℕ)) reasons.Reason) (memory memory' : Memory) : Type 0 where
  pub bytes : Option (List ℕ)
  pub is : read ≡ Ok bytes
  pub fits : IsSized region bytes
  pub placed : memory' ≡ memory_after memory (initrd_written region bytes)

abbrev pub PlacesInitrd : Result (Unit {0}) Halt → Option headers.Region → Result (Option (List ℕ)) reasons.Reason → Memory → Memory → Type 0
PlacesInitrd (Ok done) region read memory memory' = IsInitrd region read memory memory'
PlacesInitrd (Err Device) region read memory memory' = Unit {0}
PlacesInitrd (Err (Refused reason)) region read memory memory' = read ≡ Err (reason_view reason)

-- what is in memory at a region
abbrev pub region_in : List ℕ → headers.Region → Written
region_in ram region = record { address = region.address; bytes = part_of ram region.address region.size }

-- the same, where there is a region
abbrev pub optional_region : List ℕ → Option headers.Region → List Written
optional_region ram None = []
optional_region ram (Some region) = region_in ram region ∷ []

-- what is in memory at the regions of a layout
unfoldable pub regions_in : List ℕ → headers.Layout → List Written
regions_in ram layout =
    region_in ram layout.real
    ∷ (region_in ram layout.protected ∷ (optional_region ram layout.initrd ++ (region_in ram layout.line ∷ [])))

-- a kernel was loaded, and its regions hold what was put there
pub record IsKernel (layout : Layout) (ending : Result Ending reasons.Reason) (memory : Memory) (ram : List ℕ) : Type 0 where
  pub written : List Written
  pub is : ending ≡ Ok (record { outcome = Loaded (layout_view layout); written = written })
  pub placed : memory_of ram ≡ memory_after memory written
  pub held : written ≡ regions_in ram (layout_view layout)

abbrev pub LoadsKernel : Result Layout Halt → Result Ending reasons.Reason → Memory → List ℕ → Type 0
LoadsKernel (Ok layout) ending memory ram = IsKernel layout ending memory ram
LoadsKernel (Err Device) ending memory ram = Unit {0}
LoadsKernel (Err (Refused reason)) ending memory ram = ending ≡ Err (reason_view reason)
