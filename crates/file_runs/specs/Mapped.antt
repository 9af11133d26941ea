-- How the file of a path is mapped, on any volume: as the model plans it on a sound one.
use Rattle.std.specs.Prelude.{◌≡◌, ℕ, List, Result, Ok}
use Rattle.lilo_model.specs.Checks.{◌>>=◌, require, with_fault}
use Rattle.lilo_model.specs.Disks.{Image}
use Rattle.lilo_model.specs.MinixParts.{Volume, Parts, parts_of, is_file}
use Rattle.lilo_model.specs.MinixNames.{IsSound}
use Rattle.lilo_model.specs.MinixFind.{TreeFault, NotFile, Zone, find}
use Rattle.lilo_model.specs.Plan.{MappedFile}
use Rattle.lilo_model.specs.Planned.{mapped_inode}
use Rattle.slot_lists.specs.Runs.{places_in}
use Rattle.file_runs.specs.declared.mapped.FileRuns.{FileRuns}
use Rattle.file_runs.specs.Places.{file_places}

-- a file as its runs say where its sectors lie
abbrev pub file_view : FileRuns → MappedFile
file_view file = record { size = file.size; places = places_in file.runs }

-- the regular file that a path leads to, or the first refusal on the way to it and to its zones
unfoldable pub file_mapped : Volume → Parts → List ℕ → Result MappedFile TreeFault
file_mapped volume parts path =
    find volume.layout parts path
    >>= λ number. require (is_file (parts.node number)) NotFile
    >>= λ a. with_fault Zone (file_places volume parts (parts.node number))
    >>= λ places. Ok (record { size = (parts.node number).size; places = places })

-- on a sound volume, only the path is refused, and the file is mapped as planned
abbrev pub MappedLaw : Type 0
MappedLaw =
    (volume : Volume) (image : Image) (path : List ℕ) → IsSound volume image
    → file_mapped volume (parts_of volume image) path
    ≡ (find volume.layout (parts_of volume image) path
    >>= λ number. require (is_file ((parts_of volume image).node number)) NotFile
    >>= λ a. Ok (mapped_inode volume (parts_of volume image) number))
