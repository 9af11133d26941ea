-- Where a new entry lies in a directory (entries: Minix file system; the rule is this project's own): at the first free
-- place below the directory's size that isn't promised, a place in a hole being free; else at the first one after it
-- that isn't promised, where the directory can have so many.
use Rattle.std.specs.Prelude.{ℕ, zero, suc, ◌/◌, ◌==◌, nat_lt, Bool, not, ◌&&◌, if◌then◌else◌, List, [], ◌∷◌, ◌++◌, length, bytes_eq, Option, None, Some}
use Rattle.std.specs.Prelude.{Result, Ok}
use Rattle.std.specs.List.{list_any}
use Rattle.lilo_model.specs.Checks.{◌>>=◌}
use Rattle.lilo_model.specs.MinixLayout.{Kind, Super, Inode, is_v1, v1_limit, entry_size}
use Rattle.lilo_model.specs.MinixParts.{Parts, ZoneFault}
use Rattle.lilo_model.specs.MinixEntries.{Entry, entry_at, places}
use Rattle.write_model.specs.Wish.{Promise, Overlooked}

-- ---- what a directory has

-- the entries at the places below a number, free ones too, or the first refusal
abbrev pub entries_to : (ℕ → Result Entry ZoneFault) → ℕ → Result (List Entry) ZoneFault
entries_to at zero = Ok []
entries_to at (suc place) =
    entries_to at place >>= λ before. at place >>= λ entry. Ok (before ++ (entry ∷ []))

-- those at all its places
unfoldable pub all_entries : Super → Parts → Inode → Result (List Entry) ZoneFault
all_entries super parts inode = entries_to (entry_at super parts inode) (places super.kind inode.size)

-- an entry has a name
abbrev pub is_named : List ℕ → Entry → Bool
is_named name entry = not (entry.inode == 0) && bytes_eq entry.name name

-- one of some entries has it
unfoldable pub has_name : List ℕ → List Entry → Bool
has_name name entries = list_any (is_named name) entries

-- whether a name of a directory is overlooked
unfoldable pub is_overlooked : List Overlooked → ℕ → List ℕ → Bool
is_overlooked overlooked directory name =
    list_any (λ other. (other.directory == directory) && bytes_eq other.name name) overlooked

-- ---- places

-- whether a place of a directory was promised
unfoldable pub is_promised : List Promise → ℕ → ℕ → Bool
is_promised promises directory place =
    list_any (λ promise. (promise.directory == directory) && (promise.place == place)) promises

-- the first free place among some entries, of which the first is at a place
abbrev pub first_free : (ℕ → Bool) → ℕ → List Entry → Option ℕ
first_free promised place [] = None
first_free promised place (entry ∷ entries) =
    if (entry.inode == 0) && not (promised place) then Some place else first_free promised (suc place) entries

-- the greatest size of a directory
abbrev pub most_size : Kind → ℕ
most_size kind = if is_v1 kind then v1_limit else 4294967295

-- how many places a directory can have
abbrev pub most_places : Kind → ℕ
most_places kind = most_size kind / entry_size kind

-- the first place from one on that isn't promised, of so many promises
abbrev pub first_from : (ℕ → Bool) → ℕ → ℕ → ℕ
first_from promised place zero = place
first_from promised place (suc more) = if promised place then first_from promised (suc place) more else place

-- a place that a directory can have
abbrev pub within : ℕ → ℕ → Option ℕ
within most place = if nat_lt place most then Some place else None

-- a place that was found, or else the first after those that a directory has
abbrev pub or_behind : Kind → List Promise → ℕ → ℕ → Option ℕ → Option ℕ
or_behind kind promises directory size (Some place) = Some place
or_behind kind promises directory size None =
    within (most_places kind) (first_from (is_promised promises directory) (places kind size) (length promises))

-- the place of a new entry in a directory of a size with these entries, where there is one
unfoldable pub new_place : Kind → List Promise → ℕ → ℕ → List Entry → Option ℕ
new_place kind promises directory size entries =
    or_behind kind promises directory size (first_free (is_promised promises directory) 0 entries)
