-- Names that what is read or mapped must be apart from, as they are found, and the model's verdict on paths by parts.
use Rattle.std.specs.Prelude.{◌≡◌, ℕ, ◌==◌, Bool, true, false, not, ◌&&◌, ◌||◌, if◌then◌else◌, List, [], ◌∷◌, ◌++◌, bytes_eq, is_some, Option, Some, None}
use Rattle.std.specs.Prelude.{Result, Ok, Err}
use Rattle.std.specs.List.{list_all}
use Rattle.disk_trait.specs.declared.disks.Disks.{Ghosts}
use Rattle.disk_trait.specs.Past.{Told}
use Rattle.lilo_model.specs.Apart.{is_apart_path}
use Rattle.lilo_model.specs.Checks.{◌>>=◌, require}
use Rattle.lilo_model.specs.Conf.{Config, ConfSection}
use Rattle.lilo_model.specs.ConfOptions as options
use Rattle.lilo_model.specs.ConfOptions.{Opt}
use Rattle.lilo_model.specs.Disks.{Image}
use Rattle.lilo_model.specs.MinixLayout.{Super}
use Rattle.lilo_model.specs.MinixParts as model
use Rattle.lilo_model.specs.MinixParts.{Parts, parts_of}
use Rattle.lilo_model.specs.MinixNames.{IsSound}
use Rattle.lilo_model.specs.NamePlaces.{with_tilde}
use Rattle.lilo_model.specs.PlanRefusal.{each_passes, if_there}
use Rattle.minix_zones.specs.declared.volume.Volume.{Volume}
use Rattle.minix_zones.specs.Volume.{volume_view, past_of}
use Rattle.minix_names.specs.Ends.{PathEnd}
use Rattle.minix_names.specs.Laws.{is_end_at}
use Rattle.minix_names.specs.Places.{number_found}
use Rattle.install_apart.specs.Names.{IsPair}
use Rattle.install_apart.specs.declared.apart_name.BothNames.{BothNames}
use Rattle.install_apart.specs.declared.apart_name.Guarded.{Guarded}
use Rattle.install_apart.specs.declared.apart_path.FilePart.{FilePart}
use Rattle.install_apart.specs.declared.apart_path.FilePart.TheVariants as files
use Rattle.install_apart.specs.declared.fault.ApartFault.{ApartFault}
use Rattle.install_apart.specs.declared.fault.ApartFault.TheVariants as faults
use Rattle.install_apart.specs.declared.name.NamePair.{NamePair}
use Rattle.install_apart.specs.declared.name.OwnName.{OwnName}

-- ---- names that were found

-- some paths are a name and that with `~`, and these are they
pub record ArePair (super : Super) (parts : Parts) (paths : List (List (List ℕ))) (pair : NamePair) : Type 0 where
  pub path : List (List ℕ)
  pub is : paths ≡ path ∷ (with_tilde path ∷ [])
  pub names : IsPair super parts path pair

-- the same of names that there may be none of
abbrev pub AreFound : Super → Parts → List (List (List ℕ)) → Option NamePair → Type 0
AreFound super parts paths None = paths ≡ []
AreFound super parts paths (Some pair) = ArePair super parts paths pair

-- these were found, unless the disk failed or memory ended
abbrev pub GivesFound : Super → Parts → List (List (List ℕ)) → Result (Option NamePair) ApartFault → Type 0
GivesFound super parts paths (Ok found) = AreFound super parts paths found
GivesFound super parts paths (Err (faults.NotApart opt)) = ⊥
GivesFound super parts paths (Err faults.Device) = Unit {0}
GivesFound super parts paths (Err faults.Memory) = Unit {0}

-- so were the map's and the backup's
pub record AreBoth (super : Super) (parts : Parts) (first second : List (List (List ℕ))) (both : BothNames) : Type 0 where
  pub map : AreFound super parts first both.map
  pub backup : AreFound super parts second both.backup

abbrev pub GivesBoth : Super → Parts → List (List (List ℕ)) → List (List (List ℕ)) → Result BothNames ApartFault → Type 0
GivesBoth super parts first second (Ok both) = AreBoth super parts first second both
GivesBoth super parts first second (Err (faults.NotApart opt)) = ⊥
GivesBoth super parts first second (Err faults.Device) = Unit {0}
GivesBoth super parts first second (Err faults.Memory) = Unit {0}

-- ---- whether they are apart

-- whether two names aren't the same
abbrev pub are_apart_owns : OwnName → OwnName → Bool
are_apart_owns own other = not (own.directory == other.directory && bytes_eq own.name other.name)

-- whether no name of a pair is one of another's
abbrev pub are_apart_pairs : NamePair → NamePair → Bool
are_apart_pairs pair other =
    are_apart_owns pair.plain other.plain && are_apart_owns pair.plain other.tilde
    && are_apart_owns pair.tilde other.plain && are_apart_owns pair.tilde other.tilde

abbrev pub are_apart_found : Option NamePair → Option NamePair → Bool
are_apart_found None other = true
are_apart_found (Some pair) None = true
are_apart_found (Some pair) (Some other) = are_apart_pairs pair other

-- ---- guarded names

-- the names whose files must not be mapped, by whether the backup is forced
abbrev pub guarded_of : Bool → BothNames → Guarded
guarded_of forced both = record { map = both.map; forced = if forced then both.backup else None }

-- some paths are these
pub record AreGuarded (super : Super) (parts : Parts) (paths : List (List (List ℕ))) (guarded : Guarded) : Type 0 where
  pub first : List (List (List ℕ))
  pub second : List (List (List ℕ))
  pub is : paths ≡ first ++ second
  pub map : AreFound super parts first guarded.map
  pub forced : AreFound super parts second guarded.forced

-- a fact on a sound volume, and on the paths of names that were found there
abbrev pub OnGuarded : {D : Type 0} {disks : Ghosts D} → Volume D disks → Guarded → (Image → model.Volume → List (List (List ℕ)) → Type 0) → Type 0
OnGuarded volume guarded P = Told (past_of volume) (λ now. IsSound (volume_view volume) now → (paths : List (List (List ℕ)))
    → AreGuarded (volume_view volume).layout (parts_of (volume_view volume) now) paths guarded → P now (volume_view volume) paths)

-- whether one of them passes a test
abbrev pub any_found : (OwnName → Bool) → Option NamePair → Bool
any_found test None = false
any_found test (Some pair) = test pair.plain || test pair.tilde

abbrev pub any_guarded : (OwnName → Bool) → Guarded → Bool
any_guarded test guarded = any_found test guarded.map || any_found test guarded.forced

-- whether a walk ends at a name, at one of a pair, or at a guarded one
abbrev pub is_end_at_own : OwnName → PathEnd → Bool
is_end_at_own own end = is_end_at own.directory own.name (number_found own.there) end

abbrev pub ends_at_found : Option NamePair → PathEnd → Bool
ends_at_found found end = any_found (λ own. is_end_at_own own end) found

abbrev pub ends_at_guarded : Guarded → PathEnd → Bool
ends_at_guarded guarded end = any_guarded (λ own. is_end_at_own own end) guarded

-- ---- paths

-- whether a path leads to none of some names
abbrev pub path_check : Image → model.Volume → List (List (List ℕ)) → Opt → List ℕ → Result (Unit {0}) Opt
path_check image volume names option text = require (list_all (is_apart_path image volume text) names) option

-- the path of a part of a section, if it is there, and the option that names it
abbrev pub path_unless : List ℕ → Bool → Option (List ℕ)
path_unless path true = None
path_unless path false = Some path

abbrev pub part_path : FilePart → ConfSection → Option (List ℕ)
part_path files.Kernel section = path_unless section.path (is_some section.other)
part_path files.Initrd section = section.initrd

abbrev pub file_option : FilePart → Opt
file_option files.Kernel = options.Image
file_option files.Initrd = options.Initrd

abbrev pub part_check : Image → model.Volume → List (List (List ℕ)) → FilePart → ConfSection → Result (Unit {0}) Opt
part_check image volume names part section = if_there (path_check image volume names (file_option part)) (part_path part section)

-- the last four checks of the model, section by section
unfoldable pub file_checks : Image → model.Volume → List (List (List ℕ)) → Config → Result (Unit {0}) Opt
file_checks image volume names config = do
  a ← if_there (path_check image volume names options.Install) config.install
  b ← if_there (path_check image volume names options.Message) config.message
  c ← each_passes (part_check image volume names files.Kernel) config.sections
  each_passes (part_check image volume names files.Initrd) config.sections
