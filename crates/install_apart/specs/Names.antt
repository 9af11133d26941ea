-- Names that an installation replaces or takes away, and what is there, on a sound volume.
use Rattle.std.specs.Prelude.{◌≡◌, ◌≤◌, ℕ, ◌++◌, Bool, true, not, ◌&&◌, ◌||◌, List, codes, IfSome, Option, Some, None, Result, Ok, Err}
use Rattle.lilo_model.specs.MinixLayout as layouts
use Rattle.lilo_model.specs.MinixParts.{Parts, is_file}
use Rattle.lilo_model.specs.MinixFind as model
use Rattle.lilo_model.specs.MinixNames.{reached}
use Rattle.lilo_model.specs.NamePlaces.{plain_path, with_tilde}
use Rattle.minix_layout.specs.declared.superblock.Super.{Super}
use Rattle.minix_layout.specs.View.{inode_view}
use Rattle.minix_tree.specs.declared.stat.Stat.{Stat}
use Rattle.minix_tree.specs.declared.tree_fault.TreeFault.{TreeFault}
use Rattle.minix_tree.specs.View.{Refuses}
use Rattle.minix_names.specs.Places.{IsPlace, number_found}
use Rattle.install_apart.specs.Faults.{IsStopped}
use Rattle.install_apart.specs.declared.name.OwnName.{OwnName}
use Rattle.install_apart.specs.declared.name.NamePair.{NamePair}

-- a path ends with a name in its directory, and this is there: `.` and `..` are there, as directories
pub record IsOwnName (super : layouts.Super) (parts : Parts) (path : List (List ℕ)) (own : OwnName) : Type 0 where
  pub ends : IsPlace super parts path own.directory own.name
  pub there : reached super parts (plain_path path) ≡ number_found own.there
  pub node : IfSome own.there (λ stat. inode_view stat.node ≡ parts.node stat.inode)

-- a path's name was found, unless that was stopped
abbrev pub GivesOwnName : layouts.Super → Parts → List (List ℕ) → Result OwnName TreeFault → Type 0
GivesOwnName super parts path (Ok own) = IsOwnName super parts path own
GivesOwnName super parts path (Err fault) = IsStopped fault

-- a name, and the same with `~`
pub record IsPair (super : layouts.Super) (parts : Parts) (path : List (List ℕ)) (pair : NamePair) : Type 0 where
  pub plain : IsOwnName super parts path pair.plain
  pub tilde : IsOwnName super parts (with_tilde path) pair.tilde

abbrev pub GivesNamePair : layouts.Super → Parts → List (List ℕ) → Result NamePair TreeFault → Type 0
GivesNamePair super parts path (Ok pair) = IsPair super parts path pair
GivesNamePair super parts path (Err fault) = IsStopped fault

-- what was answered is the name at a path that is given, and that with `~`, or the path's refusal
pub record GivesPairAt (super : layouts.Super) (parts : Parts) (given : Result (List (List ℕ)) model.TreeFault) (pair : NamePair) : Type 0 where
  pub path : List (List ℕ)
  pub is : given ≡ Ok path
  pub names : IsPair super parts path pair

abbrev pub GivesPair : layouts.Super → Parts → Result NamePair TreeFault → Result (List (List ℕ)) model.TreeFault → Type 0
GivesPair super parts (Ok pair) given = GivesPairAt super parts given pair
GivesPair super parts (Err fault) given = Refuses fault given

-- the directory has a number of the volume's inodes
abbrev pub IsInside : Super → OwnName → Type 0
IsInside layout own = (1 ≤ own.directory) × (own.directory ≤ layout.inodes)

abbrev pub ArePairsInside : Super → NamePair → Type 0
ArePairsInside layout pair = IsInside layout pair.plain × IsInside layout pair.tilde

-- both names are in one directory, and the other ends with `~`
pub record AreTwins (pair : NamePair) : Type 0 where
  pub directory : pair.tilde.directory ≡ pair.plain.directory
  pub name : pair.tilde.name ≡ pair.plain.name ++ codes "~"

-- whether what is there may be replaced: it is a regular file, or nothing is
abbrev pub is_file_found : Option Stat → Bool
is_file_found None = true
is_file_found (Some stat) = is_file (inode_view stat.node)

abbrev pub is_replaceable : OwnName → Bool
is_replaceable own = is_file_found own.there

-- so may both of a pair, where both are asked for
abbrev pub is_pair_replaceable : Bool → NamePair → Bool
is_pair_replaceable both pair = is_replaceable pair.plain && (not both || is_replaceable pair.tilde)
