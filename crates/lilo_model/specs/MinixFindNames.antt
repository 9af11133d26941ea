-- What Find leads to on a sound volume, as a function of Names alone (directories and symbolic links: Minix file
-- system; the limits and the refusals are those of Find). A path is a list of components, the last one first.
use Rattle.std.specs.Prelude.{◌≡◌, ℕ, zero, suc, ◌+◌, nat_le, Bool, true, false, not, ◌||◌, if◌then◌else◌, List, [], ◌∷◌, ◌++◌, length, bytes_eq, Option, Some}
use Rattle.std.specs.Prelude.{None, Result, Ok, Err}
use Rattle.lilo_model.specs.Checks.{◌>>=◌, require}
use Rattle.lilo_model.specs.MinixLayout.{Super}
use Rattle.lilo_model.specs.MinixParts.{Parts}
use Rattle.lilo_model.specs.MinixEntries.{here_name, above_name}
use Rattle.lilo_model.specs.MinixFind.{TreeFault, NotFound, NotDirectory, TooManyLinks, PathTooLong, Component, components, is_last, begins_with_slash}
use Rattle.lilo_model.specs.MinixFind.{text_limit, link_limit}
use Rattle.lilo_model.specs.MinixNames.{Thing, File, Link, Directory, Other, reached}

-- what each path leads to
abbrev pub Names : Type 0
Names = List (List ℕ) → Option Thing

-- whether a path leads to a directory
abbrev pub leads_to_directory : Option Thing → Bool
leads_to_directory None = false
leads_to_directory (Some (File bytes)) = false
leads_to_directory (Some (Link text)) = false
leads_to_directory (Some Directory) = true
leads_to_directory (Some Other) = false

-- the text of a link that a path leads to
abbrev pub link_text : Option Thing → Option (List ℕ)
link_text None = None
link_text (Some (File bytes)) = None
link_text (Some (Link text)) = Some text
link_text (Some Directory) = None
link_text (Some Other) = None

-- the path of the directory above; the root is above itself
abbrev pub path_above : List (List ℕ) → List (List ℕ)
path_above [] = []
path_above (name ∷ path) = path

-- a path, where it leads somewhere
abbrev pub path_there : ℕ → List (List ℕ) → Option Thing → Result (List (List ℕ)) TreeFault
path_there position path None = Err (NotFound position)
path_there position path (Some thing) = Ok path

-- the path of a component in what is a directory
abbrev pub path_below : Names → List (List ℕ) → ℕ → List ℕ → Result (List (List ℕ)) TreeFault
path_below names path position name =
    if bytes_eq here_name name then Ok path else
    if bytes_eq above_name name then Ok (path_above path) else
    path_there position (name ∷ path) (names (name ∷ path))

-- the path of a component
unfoldable pub child_path : Names → List (List ℕ) → ℕ → List ℕ → Result (List (List ℕ)) TreeFault
child_path names path position name = do
  a ← require (leads_to_directory (names path)) (NotDirectory position)
  path_below names path position name

-- where a walk over names ends
pub data NameWalked : Type 0 where
  -- at a path
  EndsAt : (path : List (List ℕ)) → NameWalked
  -- at a link in the directory of a path, with its text and the text after it
  MeetsLink : (path : List (List ℕ)) (text rest : List ℕ) → NameWalked

-- the walk stops at a link, or goes on
abbrev pub stop_or : List (List ℕ) → List ℕ → Result NameWalked TreeFault → Option (List ℕ) → Result NameWalked TreeFault
stop_or path rest further None = further
stop_or path rest further (Some text) = Ok (MeetsLink path text rest)

-- the text of a link that is to be followed
abbrev pub followed_text : Bool → Option Thing → Option (List ℕ)
followed_text true thing = link_text thing
followed_text false thing = None

-- the walk along components, up to the first link that is to be followed
abbrev pub walk_names : Names → Bool → List (List ℕ) → ℕ → List Component → Result NameWalked TreeFault
walk_names names follows_last path position [] = Ok (EndsAt path)
walk_names names follows_last path position (component ∷ others) =
    child_path names path position component.name
    >>= λ at.
    stop_or
    path
    component.rest
    (walk_names names follows_last at (position + 1) others)
    (followed_text (follows_last || not (is_last others)) (names at))

-- the end of a walk, where a link is one too many
abbrev pub path_end : NameWalked → Result (List (List ℕ)) TreeFault
path_end (EndsAt path) = Ok path
path_end (MeetsLink path text rest) = Err TooManyLinks

-- the end of a walk, where the text of a link is walked before the text after it
abbrev pub path_through : (List (List ℕ) → List ℕ → Result (List (List ℕ)) TreeFault) → NameWalked → Result (List (List ℕ)) TreeFault
path_through find (EndsAt path) = Ok path
path_through find (MeetsLink path text rest) = do
  a ← require (nat_le (length text + length rest) text_limit) PathTooLong
  find (if begins_with_slash text then [] else path) (text ++ rest)

-- the path that a text leads to from a directory's, with so many links at most
abbrev pub names_through : Names → Bool → ℕ → List (List ℕ) → List ℕ → Result (List (List ℕ)) TreeFault
names_through names follows_last zero path text =
    walk_names names follows_last path 0 (components text) >>= path_end
names_through names follows_last (suc more) path text =
    walk_names names follows_last path 0 (components text)
    >>= path_through (names_through names follows_last more)

-- the path that a text leads to, without links, `.` and `..`
unfoldable pub path_of : Names → Bool → List ℕ → Result (List (List ℕ)) TreeFault
path_of names follows_last text = do
  a ← require (begins_with_slash text) (NotFound 0)
  b ← require (nat_le (length text) text_limit) PathTooLong
  names_through names follows_last link_limit [] text

-- an inode and a path that leads to it, or the same refusal
abbrev pub AgreesOn : Super → Parts → Result ℕ TreeFault → Result (List (List ℕ)) TreeFault → Type 0
AgreesOn super parts (Ok inode) (Ok path) = reached super parts path ≡ Some inode
AgreesOn super parts (Ok inode) (Err fault) = ⊥
AgreesOn super parts (Err fault) (Ok path) = ⊥
AgreesOn super parts (Err fault) (Err other) = fault ≡ other
