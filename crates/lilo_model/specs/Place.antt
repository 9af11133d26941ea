-- What a boot puts into memory: the command line, and a kernel with its fields replaced, its initrd and
-- that line (Linux/x86 boot protocol; the line's text follows LILO's manners).
use Rattle.std.specs.Prelude.{ℕ, ◌+◌, ◌-◌, nat_le, nat_lt, ◌&&◌, Bool, if◌then◌else◌, List, [], ◌∷◌, ◌++◌, length, take, drop, slice_index, codes, Option, Some}
use Rattle.std.specs.Prelude.{None, option_map, Result, Ok, IsOk}
use Rattle.lilo_model.specs.Bytes.{filled_bytes}
use Rattle.lilo_model.specs.Checks.{◌>>=◌}
use Rattle.lilo_model.specs.Header.{Header, Region, Layout, SetupFault, header_at, fit_checks, plan_memory, patch}

-- ---- the command line

-- a space and some words, or nothing where there are none
abbrev pub spaced_words : List ℕ → List ℕ
spaced_words [] = []
spaced_words (byte ∷ bytes) = 32 ∷ (byte ∷ bytes)

-- Line: the command line for a chosen name, with the middle text of its entry and the words passed on
unfoldable pub command_line : Bool → List ℕ → List ℕ → List ℕ → List ℕ
command_line automatic name middle words =
    (if automatic then codes "auto " else []) ++ codes "BOOT_IMAGE=" ++ name ++ middle ++ spaced_words words

-- ---- memory

-- the byte at each address
abbrev pub Memory : Type 0
Memory = ℕ → ℕ

-- bytes that are put into memory at an address
pub record Written : Type 0 where
  pub address : ℕ
  pub bytes : List ℕ

-- memory with these bytes, and nothing else changed
abbrev pub with_bytes : Memory → Written → Memory
with_bytes memory written address =
    if nat_le written.address address && nat_lt address (written.address + length written.bytes)
    then slice_index written.bytes (address - written.address)
    else memory address

-- memory with all of these bytes, in order
abbrev pub memory_after : Memory → List Written → Memory
memory_after memory [] = memory
memory_after memory (first ∷ others) = memory_after (with_bytes memory first) others

-- ---- a kernel in memory

-- the first two sectors of a file, with zeros after its end
abbrev pub first_two : List ℕ → List ℕ
first_two kernel = filled_bytes 1024 (take 1024 kernel)

-- what is put where the initrd lies
abbrev pub initrd_written : Option Region → Option (List ℕ) → List Written
initrd_written None initrd = []
initrd_written (Some region) None = []
initrd_written (Some region) (Some bytes) = record { address = region.address; bytes = bytes } ∷ []

-- what a kernel, its initrd and its line put into memory by a layout
unfoldable pub written_by : Header → Layout → List ℕ → Option (List ℕ) → List ℕ → Option ℕ → List Written
written_by header layout kernel initrd line video =
    record { address = layout.real.address; bytes = take layout.real.size (patch header layout video kernel) }
    ∷ (record { address = layout.protected.address; bytes = drop layout.real.size kernel }
    ∷ (initrd_written layout.initrd initrd
    ++ (record { address = layout.line.address; bytes = line ++ (0 ∷ []) } ∷ [])))

-- a layout, and what lies there
pub record Loading : Type 0 where
  pub layout : Layout
  pub written : List Written

-- Place: where a kernel, its initrd and its line lie in a memory of some bytes, or why they don't
unfoldable pub place : List ℕ → Option (List ℕ) → List ℕ → Option ℕ → ℕ → Result Loading SetupFault
place kernel initrd line video memory = do
  header ← header_at (first_two kernel) (length kernel)
  layout ← plan_memory header (length kernel) (option_map length initrd) (length line) memory
  Ok (record { layout = layout; written = written_by header layout kernel initrd line video })

-- the checks of a kernel, an initrd and a line that don't know the memory
unfoldable pub kernel_fit : List ℕ → Option (List ℕ) → List ℕ → Result (Unit {0}) SetupFault
kernel_fit kernel initrd line = do
  header ← header_at (first_two kernel) (length kernel)
  fit_checks header (length kernel) (option_map length initrd) (length line)

-- Fits: they pass
abbrev pub Fits : List ℕ → Option (List ℕ) → List ℕ → Type 0
Fits kernel initrd line = IsOk (kernel_fit kernel initrd line)
