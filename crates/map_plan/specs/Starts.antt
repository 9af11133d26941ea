-- The first bytes of files, and what they are asked for: the code of a boot sector, and a kernel's header.
use Rattle.std.specs.Prelude.{◌≡◌, ℕ, ◌+◌, Bool, true, false, if◌then◌else◌, List, [], ◌∷◌, ◌++◌, length, take, min, Option, Some, None, Result, Ok, Err}
use Rattle.std.specs.Option.{option_map}
use Rattle.lilo_model.specs.Bytes.{filled_bytes}
use Rattle.lilo_model.specs.Checks.{◌>>=◌, require, with_fault}
use Rattle.lilo_model.specs.Disks.{Image}
use Rattle.lilo_model.specs.MinixParts.{Volume, Parts, parts_of, is_file}
use Rattle.lilo_model.specs.MinixNames.{content, names_in, IsSound}
use Rattle.lilo_model.specs.MinixFind.{TreeFault, NotFile, find}
use Rattle.lilo_model.specs.Header.{SetupFault, TooShort, NoBootFlag, SetupTooLarge, LowTooLarge, NoInitrd, NoRoom, LineTooLong, header_at, fit_checks}
use Rattle.lilo_model.specs.Place.{first_two}
use Rattle.lilo_model.specs.Plan.{MappedSection}
use Rattle.lilo_model.specs.Planned.{code_in}
use Rattle.lilo_model.specs.PlanRefusal.{PlanFault, Header, path_fault, each_passes, kernel_check, if_there, file_check}
use Rattle.lilo_model.specs.Conf.{ConfSection}
use Rattle.lilo_model.specs.ConfLawful.{names_of_section}
use Rattle.lilo_model.specs.Meant.{middle_text}
use Rattle.map_plan.specs.declared.start.FileStart as code
use Rattle.map_plan.specs.Files.{kernel_planned, passed}

-- how many bytes a file has, and its first 1024, with zeros after its end
pub record FileStart : Type 0 where
  pub size : ℕ
  pub bytes : List ℕ

-- a file of some bytes whose first ones are these, up to 1024
abbrev pub block_start : ℕ → List ℕ → FileStart
block_start size bytes = record { size = size; bytes = filled_bytes 1024 bytes }

abbrev pub start_view : code.FileStart → FileStart
start_view start = record { size = start.size; bytes = start.first ++ start.second }

-- the start of the regular file that a path leads to, or the refusal of the path
abbrev pub start_found : Volume → Parts → List ℕ → Result FileStart TreeFault
start_found volume parts path =
    find volume.layout parts path
    >>= λ number. require (is_file (parts.node number)) NotFile
    >>= λ a. Ok (record { size = (parts.node number).size; bytes = first_two (content volume.layout parts number) })

-- the same as a plan reports it
unfoldable pub start_planned : Volume → Parts → List ℕ → Result FileStart PlanFault
start_planned volume parts path = with_fault (path_fault path) (start_found volume parts path)

-- ---- the code

-- the first sector of the file with the code, as far as it goes; nothing where none is named
abbrev pub code_planned : Volume → Parts → Option (List ℕ) → Result (List ℕ) PlanFault
code_planned volume parts None = Ok []
code_planned volume parts (Some path) = start_planned volume parts path >>= λ start. Ok (take (min 512 start.size) start.bytes)

-- it is the model's
pub record IsCodePlan (volume : Volume) (image : Image) (path : Option (List ℕ)) : Type 0 where
  pub check : if_there (file_check volume (parts_of volume image)) path ≡ passed (code_planned volume (parts_of volume image) path)
  pub code : (code : List ℕ) → code_planned volume (parts_of volume image) path ≡ Ok code → code_in volume (parts_of volume image) path ≡ code

abbrev pub CodePlanLaw : Type 0
CodePlanLaw = (volume : Volume) (image : Image) (path : Option (List ℕ)) → IsSound volume image → IsCodePlan volume image path

-- ---- headers

-- whether a refusal is that of the memory's size
abbrev pub is_room : SetupFault → Bool
is_room TooShort = false
is_room NoBootFlag = false
is_room (SetupTooLarge setup) = false
is_room (LowTooLarge size) = false
is_room NoInitrd = false
is_room (NoRoom need have) = true
is_room (LineTooLong size) = false

-- the checks of a kernel by its start, an initrd of some bytes and a line of some bytes
abbrev pub fit_by : FileStart → Option ℕ → ℕ → Result (Unit {0}) SetupFault
fit_by start initrd line = header_at start.bytes start.size >>= λ header. fit_checks header start.size initrd line

-- what a refusal is where the memory's size doesn't count
abbrev pub but_room : SetupFault → Result (Unit {0}) SetupFault
but_room fault = if is_room fault then Ok tt else Err fault

-- the bytes of the line of an automatic choice of a name, with the middle of so many
abbrev pub line_size : List ℕ → ℕ → ℕ
line_size name middle = 16 + length name + middle

-- the kernel takes each of these
abbrev pub names_fit : FileStart → Option ℕ → ℕ → List (List ℕ) → Result (Unit {0}) SetupFault
names_fit start initrd middle names = each_passes (λ name. fit_by start initrd (line_size name middle)) names

-- where a kernel's section is planned, that is what is asked of it
abbrev pub HeaderLaw : Type 0
HeaderLaw =
    (volume : Volume) (image : Image) (section : ConfSection) (mapped : MappedSection) (start : FileStart) → IsSound volume image
    → kernel_planned volume (parts_of volume image) section ≡ Ok (mapped ∷ []) → start_planned volume (parts_of volume image) section.path ≡ Ok start
    → kernel_check (names_in volume image) section
    ≡ with_fault (Header section.path)
    (names_fit start (option_map (λ file. file.size) mapped.initrd) (length (middle_text section)) (names_of_section section))
