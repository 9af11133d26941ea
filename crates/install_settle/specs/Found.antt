-- What there is to settle, by what was found at the names that an installation replaces (a rule of this project's own).
use Rattle.std.specs.Prelude.{◌≡◌, ◌≢◌, ℕ, IfSome, nat_lt, Bool, true, false, ◌&&◌, ◌||◌, is_some, List, Option, Some, None, Result, Ok, Err}
use Rattle.disk_trait.specs.declared.disks.Disks.{Ghosts}
use Rattle.disk_trait.specs.Moments.{now}
use Rattle.lilo_model.specs.Disks.{Image, Machine, Span}
use Rattle.lilo_model.specs.Faults.{Rose}
use Rattle.lilo_model.specs.MinixLayout as layouts
use Rattle.lilo_model.specs.MinixLayout.{most_links}
use Rattle.lilo_model.specs.MinixNames.{IsSound}
use Rattle.lilo_model.specs.MinixParts as volumes
use Rattle.lilo_model.specs.MinixParts.{Parts, parts_of}
use Rattle.lilo_model.specs.MinixWalk.{visits}
use Rattle.lilo_model.specs.NamePlaces.{with_tilde}
use Rattle.lilo_model.specs.Settled as model
use Rattle.minix_layout.specs.View.{super_view}
use Rattle.minix_steps.specs.Written.{parts_now}
use Rattle.minix_tree.specs.declared.stat.Stat.{Stat}
use Rattle.minix_zones.specs.Volume.{volume_view, past_of}
use Rattle.minix_zones.specs.declared.volume.Volume.{Volume}
use Rattle.install_apart.specs.Names.{IsPair, is_replaceable}
use Rattle.install_apart.specs.Own.{IsBackup}
use Rattle.install_apart.specs.declared.name.NamePair.{NamePair}
use Rattle.install_apart.specs.declared.name.OwnName.{OwnName}
use Rattle.install_apart.specs.declared.own.OwnNames.{OwnNames}
use Rattle.install_laws.specs.InstallVerdict.{is_to_finish, inode_of}
use Rattle.install_settle.specs.declared.settling.LeftMap.{LeftMap}
use Rattle.install_settle.specs.declared.settling.LeftMap.TheVariants.{Absent, Finish, Remove}
use Rattle.install_settle.specs.declared.settling.Settling.{Settling}
use Rattle.install_settle.specs.declared.settling.SettleFault.{SettleFault}
use Rattle.install_settle.specs.declared.settling.SettleFault.TheVariants.{Links, Device}

-- ---- what was found

-- these names were found, with what is there
pub record AreFound (super : layouts.Super) (parts : Parts) (names : model.OwnNames) (own : OwnNames) : Type 0 where
  pub map : IsPair super parts names.map own.map
  pub backup : IsBackup super parts names.backup own.backup

-- whether anything is at a name
abbrev pub is_there : OwnName → Bool
is_there own = is_some own.there

-- whether a copy of a backup is
abbrev pub has_copy : Option NamePair → Bool
has_copy None = false
has_copy (Some pair) = is_there pair.tilde

-- whether `map~` may take the place of `map`: nothing is there, or it may have a link more
abbrev pub has_link_by : layouts.Kind → Option Stat → Option Stat → Bool
has_link_by kind None found = true
has_link_by kind (Some plain) None = true
has_link_by kind (Some plain) (Some stat) = nat_lt stat.node.links (most_links kind)

abbrev pub has_link_left : layouts.Kind → NamePair → Bool
has_link_left kind pair = has_link_by kind pair.plain.there pair.tilde.there

-- ---- what is to be done

-- what becomes of `map~`, by whether a rename is to be finished and whether it is there
abbrev pub left_map : Bool → Bool → LeftMap
left_map true there = Finish
left_map false true = Remove
left_map false false = Absent

-- whether a copy of a backup is there, by its path
abbrev pub is_copy_there : Image → volumes.Volume → Option (List (List ℕ)) → Bool
is_copy_there image volume None = false
is_copy_there image volume (Some path) = is_some (inode_of image volume (with_tilde path))

-- what is to be settled is what the model's tests say
pub record IsToSettle (image : Image) (machine : Machine) (volume : volumes.Volume) (span : Span) (names : model.OwnNames) (forced : Bool)
    (settling : Settling) : Type 0 where
  pub map : settling.map ≡ left_map
      (is_to_finish image machine volume (visits volume.layout (parts_of volume image)) span names.map)
      (is_some (inode_of image volume (with_tilde names.map)))
  pub copy : settling.copy ≡ (forced && is_copy_there image volume names.backup)

-- what is to be done with `map~` is so by what was found
abbrev pub IsLeft : layouts.Kind → NamePair → LeftMap → Type 0
IsLeft kind pair Absent = is_there pair.tilde ≡ false
IsLeft kind pair Finish = (is_there pair.tilde ≡ true) × (has_link_left kind pair ≡ true)
IsLeft kind pair Remove = is_there pair.tilde ≡ true

-- a copy that is to be removed is that of a backup, and is there, as a regular file
abbrev pub IsCopyLeft : Option NamePair → Bool → Type 0
IsCopyLeft None copy = copy ≡ false
IsCopyLeft (Some pair) false = Unit {0}
IsCopyLeft (Some pair) true = (is_there pair.tilde ≡ true) × (is_replaceable pair.tilde ≡ true)

-- whether anything is to be done
abbrev pub is_some_left : LeftMap → Bool
is_some_left Absent = false
is_some_left Finish = true
is_some_left Remove = true

abbrev pub is_anything : Settling → Bool
is_anything settling = is_some_left settling.map || settling.copy

-- the backup's name with `~` is neither of the map's
abbrev pub IsApartCopy : model.OwnNames → Type 0
IsApartCopy names = IfSome names.backup (λ backup. (with_tilde backup ≢ with_tilde names.map) × (with_tilde backup ≢ names.map))

-- the volume is sound now, and these names were found on it
pub record MaySettle {D : Type 0} {disks : Ghosts D} (volume : Volume D disks) (names : model.OwnNames) (forced : Bool) (own : OwnNames)
    (settling : Settling) : Type 0 where
  pub sound : IsSound (volume_view volume) (now (past_of volume))
  pub found : AreFound (super_view volume.layout) (parts_now volume) names own
  pub apart : IsApartCopy names
  pub copy : settling.copy ≡ (forced && has_copy own.backup)

-- some names were
pub record AreNamesNow {D : Type 0} {disks : Ghosts D} (volume : Volume D disks) (own : OwnNames) : Type 0 where
  pub sound : IsSound (volume_view volume) (now (past_of volume))
  pub names : model.OwnNames
  pub found : AreFound (super_view volume.layout) (parts_now volume) names own
  pub apart : IsApartCopy names

-- ---- refusals

-- it is refused for links exactly where the model's test fails, unless a disk failed
abbrev pub RefusesLinks : Result Settling SettleFault → Bool → Type 0
RefusesLinks (Ok settling) may = may ≡ true
RefusesLinks (Err Links) may = may ≡ false
RefusesLinks (Err Device) may = Unit {0}

-- the cause of a refusal: where a disk failed, the count of faults rose
abbrev pub HasSettleCause : ℕ → ℕ → SettleFault → Type 0
HasSettleCause before now Links = Unit {0}
HasSettleCause before now Device = Rose before now
