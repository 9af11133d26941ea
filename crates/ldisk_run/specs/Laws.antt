-- What `ls` prints of a directory's entries, and `get` of a file.
use Rattle.std.specs.Prelude.{◌≡◌, ◌↔◌, ◌≤◌, ◌<◌, ℕ, List, [], length, flat_map, if◌then◌else◌, Ok}
use Rattle.lilo_model.specs.MinixLayout.{Super, Inode}
use Rattle.lilo_model.specs.MinixParts.{Parts}
use Rattle.lilo_model.specs.MinixEntries.{Entry, entries_at}
use Rattle.lilo_model.specs.MinixFind.{file_at}
use Rattle.lilo_model.specs.LdiskVerdict.{has_line, entry_line, directory_found, get_verdict, ls_verdict}

-- the line of an entry, or nothing for one that has none
abbrev pub line_of : Parts → Entry → List ℕ
line_of parts entry = if has_line entry then entry_line (parts.node entry.inode) entry.name else []

-- the lines of entries, in order
abbrev pub lines_of : Parts → List Entry → List ℕ
lines_of parts entries = flat_map (line_of parts) entries

-- where `ls` answers 0, it prints the lines of the entries of the directory that the path leads to
abbrev pub ListingLaw : Type 0
ListingLaw =
    (super : Super) (parts : Parts) (path : List ℕ) → (ls_verdict super parts path).status ≡ 0
    → (directory : Inode) × (entries : List Entry) × (directory_found super parts path ≡ Ok directory)
    × (entries_at super parts directory ≡ Ok entries) × ((ls_verdict super parts path).text ≡ lines_of parts entries)

-- each data zone has 1024 bytes
abbrev pub HasWholeZones : Super → Parts → Type 0
HasWholeZones super parts = (zone : ℕ) → super.first ≤ zone → zone < super.zones → length (parts.zone zone) ≡ 1024

-- `get` answers 0 and prints some bytes exactly where they are those of the file that the path leads to
abbrev pub ContentLaw : Type 0
ContentLaw =
    (super : Super) (parts : Parts) (path bytes : List ℕ) → HasWholeZones super parts
    → (get_verdict super parts path ≡ record { status = 0; text = bytes }) ↔ (file_at super parts path ≡ Ok bytes)
