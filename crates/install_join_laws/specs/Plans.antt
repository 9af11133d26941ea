-- What a configuration plans is the same once names are settled (rules of this project's own).
use Rattle.std.specs.Prelude.{◌≡◌, ℕ, Bool, true, IfSome, is_some, option_to_list, List, [], Some, Ok, Err}
use Rattle.std.specs.List.{AllByRecursion}
use Rattle.lilo_model.specs.Apart.{Apart, kernel_paths, initrd_paths}
use Rattle.lilo_model.specs.Conf.{Config, ConfSection}
use Rattle.lilo_model.specs.Devices.{Device}
use Rattle.lilo_model.specs.Disks.{Image, Machine, Span}
use Rattle.lilo_model.specs.MinixFind.{TreeFault}
use Rattle.lilo_model.specs.MinixFindNames.{Names, path_of}
use Rattle.lilo_model.specs.MinixNames.{File, names_in, IsSound}
use Rattle.lilo_model.specs.MinixParts.{Volume, parts_of}
use Rattle.lilo_model.specs.NamePlaces.{with_tilde, with_name, without_name}
use Rattle.lilo_model.specs.Planned.{mapped_section}
use Rattle.lilo_model.specs.PlanRefusal.{plan_at}
use Rattle.lilo_model.specs.Settled.{OwnNames, own_names, settled}
use Rattle.minix_change_laws.specs.Tree.{KeepsNamed}
use Rattle.install_stage_laws.specs.BeginLaws.{GainsNothing}
use Rattle.install_laws.specs.Writes.{IsApartSector}
use Rattle.install_settle.specs.Settles.{stale_of}
use Rattle.install_join_laws.specs.ApartLaws.{HasSettled, KeepsDevices}

-- ---- what stays

-- a section maps what it mapped
abbrev pub MapsAsIn : Image → Image → Machine → Volume → ConfSection → Type 0
MapsAsIn old c machine volume section = mapped_section c machine volume section ≡ mapped_section old machine volume section

-- in a sound image names are settled, as in HasSettled, what has a name in both images stays, no inode refers to another zone than
-- before, and what isn't the volume's, or is of its block 0, is as it was
pub record StaysSettled (volume : Volume) (old c : Image) (names : OwnNames) (forced finishes : Bool) : Type 0 where
  pub settled : HasSettled volume old c names forced finishes
  pub keeps : KeepsNamed volume.layout (parts_of volume old) (parts_of volume c)
  pub gains : GainsNothing volume old c
  pub outside : (d s : ℕ) → IsApartSector volume d s → c d s ≡ old d s

-- ---- paths that can't be followed

-- where a path can't be followed over Names, it can't be over others, for the same reason
abbrev pub FailsAsIn : Names → Names → List ℕ → Type 0
FailsAsIn old new text = (fault : TreeFault) → path_of old true text ≡ Err fault → path_of new true text ≡ Err fault

-- So it is of each path that a configuration names. One that goes on after a name that settling takes away or makes leads nowhere
-- before and after, but fails otherwise: over a file as no directory, over nothing as not found.
pub record FailAsIn (old new : Names) (config : Config) : Type 0 where
  pub install : AllByRecursion (FailsAsIn old new) (option_to_list config.install)
  pub message : AllByRecursion (FailsAsIn old new) (option_to_list config.message)
  pub kernels : AllByRecursion (FailsAsIn old new) (kernel_paths config)
  pub initrds : AllByRecursion (FailsAsIn old new) (initrd_paths config)

-- Names once they are settled, by those before
abbrev pub settled_names : Volume → Image → Config → OwnNames → Bool → Names
settled_names volume old config names finishes =
    settled finishes names.map (stale_of (is_some config.force_backup) names) (names_in volume old)

-- ---- the law

-- then what a configuration that was apart plans is what it planned, or it is refused as it was
abbrev pub SettledPlanLaw : Type 0
SettledPlanLaw =
    (old c : Image) (machine : Machine) (volume : Volume) (config : Config) (device : Device) (span : Span) (foreign finishes : Bool)
    (names : OwnNames) (time : ℕ)
    → IsSound volume old → own_names (names_in volume old) config device foreign ≡ Ok names
    → StaysSettled volume old c names (is_some config.force_backup) finishes → KeepsDevices old c machine config device
    → Apart old machine volume config device
    → FailAsIn (names_in volume old) (settled_names volume old config names finishes) config
    → (plan_at c machine volume span config time ≡ plan_at old machine volume span config time)
    × AllByRecursion (MapsAsIn old c machine volume) config.sections

-- ---- paths that pass by a name

-- a path comes to the same whether a file is at a name or nothing is
abbrev pub PassesBy : Names → List ℕ → List (List ℕ) → Type 0
PassesBy names text name = path_of (with_name name (Some (File [])) names) true text ≡ path_of (without_name name names) true text

-- so it does at each name that settling changes: those of the map, and that of a stale copy, where one may go
pub record PassesByOwn (at : Names) (names : OwnNames) (forced : Bool) (text : List ℕ) : Type 0 where
  pub map : PassesBy at text names.map
  pub tilde : PassesBy at text (with_tilde names.map)
  pub stale : IfSome (stale_of forced names) (λ backup. PassesBy at text (with_tilde backup))

-- then it fails as it did
abbrev pub PassingLaw : Type 0
PassingLaw =
    (old c : Image) (volume : Volume) (config : Config) (device : Device) (foreign finishes : Bool) (names : OwnNames) (text : List ℕ)
    → IsSound volume old → own_names (names_in volume old) config device foreign ≡ Ok names
    → HasSettled volume old c names (is_some config.force_backup) finishes
    → PassesByOwn (names_in volume old) names (is_some config.force_backup) text
    → FailsAsIn (names_in volume old) (settled_names volume old config names finishes) text

-- so does each path that a configuration names
pub record AllPassBy (at : Names) (names : OwnNames) (config : Config) : Type 0 where
  pub install : AllByRecursion (PassesByOwn at names (is_some config.force_backup)) (option_to_list config.install)
  pub message : AllByRecursion (PassesByOwn at names (is_some config.force_backup)) (option_to_list config.message)
  pub kernels : AllByRecursion (PassesByOwn at names (is_some config.force_backup)) (kernel_paths config)
  pub initrds : AllByRecursion (PassesByOwn at names (is_some config.force_backup)) (initrd_paths config)
