-- The bytes of a new directory's block, and of its first sector.
use Rattle.std.specs.Prelude.{◌+◌, ◌++◌, ℕ, List, replicate}
use Rattle.lilo_model.specs.Bytes.{with_part, bytes16, filled_bytes}
use Rattle.lilo_model.specs.MinixEntries.{here_name, above_name}
use Rattle.lilo_model.specs.MinixLayout.{Kind, entry_size, name_size}
use Rattle.minix_change_laws.specs.Written.{entry_bytes}

-- one entry from an offset on
abbrev pub with_entry : Kind → ℕ → ℕ → List ℕ → List ℕ → List ℕ
with_entry kind at number name bytes = with_part (with_part bytes at (bytes16 number)) (at + 2) (filled_bytes (name_size kind) name)

-- its `.` and its `..`
abbrev pub dots_of : Kind → ℕ → ℕ → List ℕ
dots_of kind number directory = with_entry kind (entry_size kind) directory above_name (with_entry kind 0 number here_name (replicate 512 0))

-- its `.` and its `..`, and zeros after them
abbrev pub directory_bytes : Kind → ℕ → ℕ → List ℕ
directory_bytes kind number directory =
    filled_bytes 1024 (entry_bytes kind number here_name ++ entry_bytes kind directory above_name)
