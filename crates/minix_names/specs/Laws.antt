-- On a sound volume the end of a walk is a function of Names, and it says what Find leads to.
use Rattle.std.specs.Prelude.{◌≡◌, ℕ, ◌==◌, Bool, false, not, ◌&&◌, List, bytes_eq, Option, Some, None, Result, Ok, Err}
use Rattle.lilo_model.specs.Disks.{Image}
use Rattle.lilo_model.specs.MinixParts.{Volume, parts_of}
use Rattle.lilo_model.specs.MinixFind.{TreeFault}
use Rattle.lilo_model.specs.MinixNames.{reached, IsSound}
use Rattle.lilo_model.specs.NamePlaces.{plain_path}
use Rattle.lilo_model.specs.Apart.{is_apart_path}
use Rattle.minix_names.specs.Ends.{PathEnd, At, Misses, path_end}
use Rattle.minix_names.specs.Places.{IsPlace}

-- whether a walk ends at a name of a directory: at the inode of what is there, or, where nothing is, at the name itself
abbrev pub is_end_at : ℕ → List ℕ → Option ℕ → PathEnd → Bool
is_end_at directory name (Some number) (At inode) = number == inode
is_end_at directory name None (At inode) = false
is_end_at directory name (Some number) (Misses other missed) = false
is_end_at directory name None (Misses other missed) = other == directory && bytes_eq missed name

-- the same of a walk that may be refused
abbrev pub ends_at_name : ℕ → List ℕ → Option ℕ → Result PathEnd TreeFault → Bool
ends_at_name directory name there (Ok end) = is_end_at directory name there end
ends_at_name directory name there (Err fault) = false

-- on a sound volume a path is apart from a name exactly where its walk doesn't end there
abbrev pub ApartLaw : Type 0
ApartLaw =
    (volume : Volume) (image : Image) (text : List ℕ) (path : List (List ℕ)) (directory : ℕ) (name : List ℕ) (there : Option ℕ)
    → IsSound volume image → IsPlace volume.layout (parts_of volume image) path directory name
    → reached volume.layout (parts_of volume image) (plain_path path) ≡ there
    → is_apart_path image volume text path
    ≡ not (ends_at_name directory name there (path_end volume.layout (parts_of volume image) text))
