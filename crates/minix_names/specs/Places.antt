-- Where the name is that a path ends with, and what is there, on a sound volume.
use Rattle.std.specs.Prelude.{◌≡◌, ℕ, true, List, ◌∷◌, Option, Some, Result, Ok, Err}
use Rattle.std.specs.Option.{option_map}
use Rattle.lilo_model.specs.MinixLayout.{Super}
use Rattle.lilo_model.specs.MinixParts.{Parts, is_directory}
use Rattle.lilo_model.specs.MinixFind as model
use Rattle.lilo_model.specs.MinixNames.{reached}
use Rattle.lilo_model.specs.NamePlaces.{plain_path}
use Rattle.minix_zones.specs.declared.zone_fault.ZoneFault.TheVariants as zones
use Rattle.minix_tree.specs.declared.stat.Stat.{Stat}
use Rattle.minix_tree.specs.declared.tree_fault.TreeFault.{TreeFault}
use Rattle.minix_tree.specs.declared.tree_fault.TreeFault.TheVariants as faults
use Rattle.minix_tree.specs.View.{Refuses}
use Rattle.minix_names.specs.declared.place.NamePlace.{NamePlace}

-- a path leads to a directory of this number
pub record LeadsToDirectory (super : Super) (parts : Parts) (path : List (List ℕ)) (directory : ℕ) : Type 0 where
  pub leads : reached super parts path ≡ Some directory
  pub is : is_directory (parts.node directory) ≡ true

-- a path ends with a name in a directory
pub record IsPlace (super : Super) (parts : Parts) (path : List (List ℕ)) (directory : ℕ) (name : List ℕ) : Type 0 where
  pub above : List (List ℕ)
  pub is : path ≡ name ∷ above
  pub there : LeadsToDirectory super parts above directory

-- what was answered is the place of the name that a path ends with, or the path's refusal, unless the disk failed
pub record GivesPath (super : Super) (parts : Parts) (given : Result (List (List ℕ)) model.TreeFault) (place : NamePlace) : Type 0 where
  pub path : List (List ℕ)
  pub is : given ≡ Ok path
  pub ends : IsPlace super parts path place.directory.inode place.name.now

abbrev pub GivesPlace : Super → Parts → Result NamePlace TreeFault → Result (List (List ℕ)) model.TreeFault → Type 0
GivesPlace super parts (Ok place) given = GivesPath super parts given place
GivesPlace super parts (Err fault) given = Refuses fault given

-- the number of what was found, if anything was
abbrev pub number_found : Option Stat → Option ℕ
number_found found = option_map (λ stat. stat.inode) found

-- what was found at a path is what it leads to, unless the disk failed; `.` and `..` are there, as directories
abbrev pub GivesThere : Super → Parts → List (List ℕ) → Result (Option Stat) TreeFault → Type 0
GivesThere super parts path (Ok found) = reached super parts (plain_path path) ≡ number_found found
GivesThere super parts path (Err fault) = fault ≡ faults.Zone zones.Device
