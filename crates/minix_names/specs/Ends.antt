-- Where a walk along a path ends, on any volume: where Find ends, or at a last component that isn't in its directory
-- (this project's own; links and limits are those of Find).
use Rattle.std.specs.Prelude.{ℕ, zero, suc, ◌+◌, nat_le, Bool, true, false, if◌then◌else◌, List, [], ◌∷◌, length, Option, Some, None, Result, Ok, Err}
use Rattle.lilo_model.specs.Checks.{◌>>=◌, require}
use Rattle.lilo_model.specs.MinixLayout.{Super}
use Rattle.lilo_model.specs.MinixParts.{Parts, is_link}
use Rattle.lilo_model.specs.MinixFind.{TreeFault, NotFound, NotDirectory, NotFile, TooManyLinks, BadEntry, PathTooLong, Zone, Component, components}
use Rattle.lilo_model.specs.MinixFind.{begins_with_slash, readable, child, is_last, text_limit, link_limit}
use Rattle.minix_tree.specs.LinkText.{LinkText, link_text}

-- where the walk of a path ends
pub data PathEnd : Type 0 where
  -- at an inode
  At : (inode : ℕ) → PathEnd
  -- at the last component of the text that is walked, of which its directory has no entry
  Misses : (directory : ℕ) (name : List ℕ) → PathEnd

-- where that of one text does
pub data TextEnd : Type 0 where
  Ends : (inode : ℕ) → TextEnd
  -- at a link in a directory, with the text after it
  Meets : (directory link : ℕ) (rest : List ℕ) → TextEnd
  Lacks : (directory : ℕ) (name : List ℕ) → TextEnd

-- what was found of a component: nothing where it is the last one and there is no entry
abbrev pub found_or_last : Bool → Result ℕ TreeFault → Result (Option ℕ) TreeFault
found_or_last last (Ok inode) = Ok (Some inode)
found_or_last true (Err (NotFound position)) = Ok None
found_or_last false (Err (NotFound position)) = Err (NotFound position)
found_or_last last (Err (NotDirectory position)) = Err (NotDirectory position)
found_or_last last (Err NotFile) = Err NotFile
found_or_last last (Err TooManyLinks) = Err TooManyLinks
found_or_last last (Err (BadEntry directory)) = Err (BadEntry directory)
found_or_last last (Err PathTooLong) = Err PathTooLong
found_or_last last (Err (Zone fault)) = Err (Zone fault)

-- the walk stops at a link or where nothing was found, or goes on
abbrev pub stop_at : Parts → ℕ → Component → (ℕ → Result TextEnd TreeFault) → Option ℕ → Result TextEnd TreeFault
stop_at parts directory component further None = Ok (Lacks directory component.name)
stop_at parts directory component further (Some inode) =
    if is_link (parts.node inode) then Ok (Meets directory inode component.rest) else further inode

-- the walk from a directory along components, up to the first link
abbrev pub text_end : Super → Parts → ℕ → ℕ → List Component → Result TextEnd TreeFault
text_end super parts directory position [] = Ok (Ends directory)
text_end super parts directory position (component ∷ others) =
    found_or_last (is_last others) (child super parts directory position component.name)
    >>= stop_at parts directory component (λ inode. text_end super parts inode (position + 1) others)

-- the end of a walk, where a link is one too many
abbrev pub last_end : TextEnd → Result PathEnd TreeFault
last_end (Ends inode) = Ok (At inode)
last_end (Meets directory link rest) = Err TooManyLinks
last_end (Lacks directory name) = Ok (Misses directory name)

-- where a text is walked from
abbrev pub start_of : ℕ → LinkText → ℕ
start_of directory next = if next.from_root then 1 else directory

-- the end of a walk, where the text of a link is walked before the text after it
abbrev pub end_through : Super → Parts → (ℕ → List ℕ → Result PathEnd TreeFault) → TextEnd → Result PathEnd TreeFault
end_through super parts further (Ends inode) = Ok (At inode)
end_through super parts further (Meets directory link rest) =
    link_text super parts (parts.node link) rest >>= λ next. further (start_of directory next) next.text
end_through super parts further (Lacks directory name) = Ok (Misses directory name)

-- the same with so many links at most
abbrev pub ends_through : Super → Parts → ℕ → ℕ → List ℕ → Result PathEnd TreeFault
ends_through super parts zero directory text = text_end super parts directory 0 (components text) >>= last_end
ends_through super parts (suc more) directory text =
    text_end super parts directory 0 (components text) >>= end_through super parts (ends_through super parts more)

-- where the walk of a path ends
unfoldable pub path_end : Super → Parts → List ℕ → Result PathEnd TreeFault
path_end super parts path = do
  a ← require (begins_with_slash path) (NotFound 0)
  b ← require (nat_le (length path) text_limit) PathTooLong
  c ← readable super parts 1
  ends_through super parts link_limit 1 path
