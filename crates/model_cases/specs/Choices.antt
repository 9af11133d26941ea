-- What is chosen for a new file of a volume that is given by tables. (This project's own.)
use Rattle.std.specs.Prelude.{ℕ, ◌==◌, Bool, List, [], map, Result}
use Rattle.std.specs.List.{list_any, range_with_len}
use Rattle.lilo_model.specs.MinixSurvey.{Surveyable}
use Rattle.write_model.specs.Wish.{Wish, Promise, Overlooked, Taken, Refusal}
use Rattle.write_model.specs.FileZones.{data_blocks}
use Rattle.write_model.specs.Choice.{Choice, choose, choose_blocks, zones_check, is_one_of}

-- numbers in a row
abbrev pub up_from : ℕ → ℕ → List ℕ
up_from first count = range_with_len first count

abbrev pub promise : ℕ → ℕ → List ℕ → Promise
promise directory place growth = record { directory = directory; place = place; growth = growth }

abbrev pub overlook : ℕ → List ℕ → Overlooked
overlook directory name = record { directory = directory; name = name }

-- what is taken: zones, inodes, places, and names that are overlooked
abbrev pub taken_by : List ℕ → List ℕ → List Promise → List Overlooked → Taken
taken_by zones inodes promises overlooked =
    record { has_zone = is_one_of zones; has_inode = is_one_of inodes; promises = promises; overlooked = overlooked }

-- a regular file of so many bytes with these holes, by its directory and its name
abbrev pub wish : ℕ → List ℕ → ℕ → List ℕ → Wish
wish length holes directory name =
    record { mode = 0x81A4; length = length; holes = holes; time = 0; directory = directory; name = name }

-- so many blocks, of which these are no holes
abbrev pub made_at : ℕ → List ℕ → List Bool
made_at total made = map (λ index. is_one_of made index) (range_with_len 0 total)

-- what is chosen: inode, place, zones, and which of them are for blocks, for indirect zones and for growth
abbrev pub choice : ℕ → ℕ → List ℕ → List ℕ → List ℕ → List ℕ → Choice
choice inode place zones blocks indirect growth =
    record { inode = inode; place = place; zones = zones; blocks = blocks; indirect = indirect; growth = growth }

-- for a wish
abbrev pub choose_on : Surveyable → Taken → Wish → Result Choice Refusal
choose_on volume taken asked = choose volume.super volume.parts taken asked

-- for a name in a directory and some blocks
abbrev pub blocks_on : Surveyable → Taken → ℕ → List ℕ → List Bool → Result Choice Refusal
blocks_on volume taken directory name blocks = choose_blocks volume.super volume.parts taken directory name blocks

-- for a directory, so many bytes without holes, an inode and a place
abbrev pub zones_on : Surveyable → Taken → ℕ → ℕ → ℕ → ℕ → Result Choice Refusal
zones_on volume taken directory length inode place =
    zones_check volume.super volume.parts taken directory (data_blocks length []) inode place
