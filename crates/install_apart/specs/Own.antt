-- The names that an installation replaces, as they are found.
use Rattle.std.specs.Prelude.{◌≡◌, ℕ, Bool, true, List, Option, Some, None, Result, Ok, Err}
use Rattle.lilo_model.specs.MinixLayout as layouts
use Rattle.lilo_model.specs.MinixParts.{Parts}
use Rattle.lilo_model.specs.Checks.{with_fault}
use Rattle.lilo_model.specs.MinixFind as trees
use Rattle.lilo_model.specs.Settled as model
use Rattle.lilo_model.specs.Settled.{PathRefusal}
use Rattle.minix_layout.specs.declared.superblock.Super.{Super}
use Rattle.minix_names.specs.Component.{IsFileName}
use Rattle.install_apart.specs.Faults.{RefusesNames}
use Rattle.install_apart.specs.Names.{IsPair, GivesPairAt, ArePairsInside, AreTwins, is_pair_replaceable}
use Rattle.install_apart.specs.declared.fault.NameFault.{NameFault}
use Rattle.install_apart.specs.declared.name.NamePair.{NamePair}
use Rattle.install_apart.specs.declared.own.OwnNames.{OwnNames}

-- the backup's names, where one is to be made
abbrev pub IsBackup : layouts.Super → Parts → Option (List (List ℕ)) → Option NamePair → Type 0
IsBackup super parts None None = Unit {0}
IsBackup super parts None (Some pair) = ⊥
IsBackup super parts (Some path) None = ⊥
IsBackup super parts (Some path) (Some pair) = IsPair super parts path pair

-- the name at a path that may be replaced, or its refusal with the path
abbrev pub GivesReplaceable : layouts.Super → Parts → List ℕ → Result NamePair NameFault → Result (List (List ℕ)) trees.TreeFault → Type 0
GivesReplaceable super parts text (Ok pair) given = GivesPairAt super parts given pair
GivesReplaceable super parts text (Err fault) given = RefusesNames fault (with_fault (model.refused_path text) given)

pub record GivesBackupAt (super : layouts.Super) (parts : Parts) (given : Result (Option (List (List ℕ))) PathRefusal) (found : Option NamePair) : Type 0 where
  pub path : Option (List (List ℕ))
  pub is : given ≡ Ok path
  pub names : IsBackup super parts path found

abbrev pub GivesBackup : layouts.Super → Parts → Result (Option NamePair) NameFault → Result (Option (List (List ℕ))) PathRefusal → Type 0
GivesBackup super parts (Ok found) given = GivesBackupAt super parts given found
GivesBackup super parts (Err fault) given = RefusesNames fault given

-- what was answered are the names that are given, with what is there, or the first path that is refused
pub record AreOwnNames (super : layouts.Super) (parts : Parts) (given : Result model.OwnNames PathRefusal) (own : OwnNames) : Type 0 where
  pub names : model.OwnNames
  pub is : given ≡ Ok names
  pub map : IsPair super parts names.map own.map
  pub backup : IsBackup super parts names.backup own.backup

abbrev pub GivesNames : layouts.Super → Parts → Result OwnNames NameFault → Result model.OwnNames PathRefusal → Type 0
GivesNames super parts (Ok own) given = AreOwnNames super parts given own
GivesNames super parts (Err fault) given = RefusesNames fault given

-- each is a regular file or not there; the backup's with `~` where the backup is forced
abbrev pub IsReplaceable : Bool → NamePair → Type 0
IsReplaceable both pair = is_pair_replaceable both pair ≡ true

abbrev pub IsBackupReplaceable : Bool → Option NamePair → Type 0
IsBackupReplaceable forced None = Unit {0}
IsBackupReplaceable forced (Some pair) = IsReplaceable forced pair

pub record AreReplaceable (forced : Bool) (own : OwnNames) : Type 0 where
  pub map : IsReplaceable true own.map
  pub backup : IsBackupReplaceable forced own.backup

-- their directories have numbers of the volume's inodes
abbrev pub IsBackupInside : Super → Option NamePair → Type 0
IsBackupInside layout None = Unit {0}
IsBackupInside layout (Some pair) = ArePairsInside layout pair

abbrev pub AreInside : Super → OwnNames → Type 0
AreInside layout own = ArePairsInside layout own.map × IsBackupInside layout own.backup

-- each name with `~` is beside its own
abbrev pub IsBackupTwins : Option NamePair → Type 0
IsBackupTwins None = Unit {0}
IsBackupTwins (Some pair) = AreTwins pair

abbrev pub AreOwnTwins : OwnNames → Type 0
AreOwnTwins own = AreTwins own.map × IsBackupTwins own.backup

-- a backup's name may be given to a file, if it isn't too long
abbrev pub IsBackupNamed : Option NamePair → Type 0
IsBackupNamed None = Unit {0}
IsBackupNamed (Some pair) = IsFileName pair.plain.name
