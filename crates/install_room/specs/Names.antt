-- The names under which an installation makes its files (this project's own).
use Rattle.std.specs.Prelude.{◌≡◌, ◌≢◌, ℕ, Bool, true, false, if◌then◌else◌, is_some, All, List, [], ◌∷◌, ◌++◌, Option, Some, None}
use Rattle.lilo_model.specs.MinixLayout.{Super}
use Rattle.lilo_model.specs.MinixParts.{Parts}
use Rattle.lilo_model.specs.MinixNames.{reached}
use Rattle.lilo_model.specs.NamePlaces.{with_tilde}
use Rattle.lilo_model.specs.Settled as model
use Rattle.write_model.specs.Wish.{Wish, Overlooked}
use Rattle.install_laws.specs.InstallVerdict.{directory_of, last_name, file_mode}
use Rattle.install_apart.specs.declared.name.OwnName.{OwnName}
use Rattle.install_apart.specs.declared.name.NamePair.{NamePair}
use Rattle.install_apart.specs.declared.own.OwnNames.{OwnNames}

-- a file without holes by a name
abbrev pub own_wish : OwnName → ℕ → ℕ → Wish
own_wish own length time = record {
  mode = file_mode;
  length = length;
  holes = [];
  time = time;
  directory = own.directory;
  name = own.name;
}

-- ---- names that a file may be given

-- no byte of a name is 0
abbrev pub IsCalled : OwnName → Type 0
IsCalled own = All (λ byte. byte ≢ 0) own.name

abbrev pub IsBackupCalled : Option NamePair → Type 0
IsBackupCalled None = Unit {0}
IsBackupCalled (Some pair) = IsCalled pair.plain × IsCalled pair.tilde

abbrev pub AreCalled : OwnNames → Type 0
AreCalled own = IsCalled own.map.tilde × IsBackupCalled own.backup

-- ---- where a backup is made

-- with `~`, where it is forced, else where nothing is at its name
abbrev pub backup_at : Bool → NamePair → Option OwnName
backup_at true pair = Some pair.tilde
backup_at false pair = if is_some pair.plain.there then None else Some pair.plain

abbrev pub backup_of : Bool → Option NamePair → Option OwnName
backup_of forced None = None
backup_of forced (Some pair) = backup_at forced pair

-- ---- names that settling takes away

abbrev pub overlooked_of : OwnName → Overlooked
overlooked_of own = record { directory = own.directory; name = own.name }

abbrev pub stale_copy_of : Bool → Option NamePair → List Overlooked
stale_copy_of true (Some pair) = overlooked_of pair.tilde ∷ []
stale_copy_of true None = []
stale_copy_of false pair = []

-- `map~`, and under a forced backup its name with `~`
abbrev pub stale_of : Bool → OwnNames → List Overlooked
stale_of forced own = (overlooked_of own.map.tilde ∷ []) ++ stale_copy_of forced own.backup

-- ---- names of the model

-- a path ends with a name in the directory
pub record IsNameAt (super : Super) (parts : Parts) (path : List (List ℕ)) (own : OwnName) : Type 0 where
  pub directory : directory_of super parts path ≡ own.directory
  pub name : last_name path ≡ own.name

-- a backup's names, and whether it is there
pub record IsBackupAt (super : Super) (parts : Parts) (path : List (List ℕ)) (pair : NamePair) : Type 0 where
  pub plain : IsNameAt super parts path pair.plain
  pub tilde : IsNameAt super parts (with_tilde path) pair.tilde
  pub there : is_some (reached super parts path) ≡ is_some pair.plain.there

abbrev pub IsBackupOf : Super → Parts → Option (List (List ℕ)) → Option NamePair → Type 0
IsBackupOf super parts None None = Unit {0}
IsBackupOf super parts None (Some pair) = ⊥
IsBackupOf super parts (Some path) None = ⊥
IsBackupOf super parts (Some path) (Some pair) = IsBackupAt super parts path pair

-- names of the model are these
pub record AreNamesOf (super : Super) (parts : Parts) (names : model.OwnNames) (own : OwnNames) : Type 0 where
  pub tilde : IsNameAt super parts (with_tilde names.map) own.map.tilde
  pub backup : IsBackupOf super parts names.backup own.backup
