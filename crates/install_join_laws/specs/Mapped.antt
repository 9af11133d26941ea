-- The files that a configuration's plan maps are none of those at the names that an installation replaces (rules of this
-- project's own).
use Rattle.std.specs.Prelude.{◌≡◌, ◌≢◌, ℕ, Bool, IfSome, is_some, Some, Ok}
use Rattle.lilo_model.specs.Apart.{Apart}
use Rattle.lilo_model.specs.Conf.{Config}
use Rattle.lilo_model.specs.Devices.{Device}
use Rattle.lilo_model.specs.Disks.{Image, Machine}
use Rattle.lilo_model.specs.MinixNames.{names_in, reached}
use Rattle.lilo_model.specs.MinixParts.{Volume, parts_of}
use Rattle.lilo_model.specs.NamePlaces.{with_tilde}
use Rattle.lilo_model.specs.Settled.{OwnNames, own_names}
use Rattle.install_settle.specs.Settles.{stale_of}
use Rattle.install_stage_laws.specs.Mapped.{OnMapped}

-- an inode is at neither of the map's names, nor at a forced backup's, with `~` or without
pub record IsNotReplaced (image : Image) (volume : Volume) (names : OwnNames) (forced : Bool) (number : ℕ) : Type 0 where
  pub map : reached volume.layout (parts_of volume image) names.map ≢ Some number
  pub tilde : reached volume.layout (parts_of volume image) (with_tilde names.map) ≢ Some number
  pub backup : IfSome (stale_of forced names) (λ backup. reached volume.layout (parts_of volume image) backup ≢ Some number)
  pub copy : IfSome (stale_of forced names) (λ backup. reached volume.layout (parts_of volume image) (with_tilde backup) ≢ Some number)

-- where a configuration is apart, the inode of each file that its plan maps is so
abbrev pub MappedApartLaw : Type 0
MappedApartLaw =
    (image : Image) (machine : Machine) (volume : Volume) (config : Config) (device : Device) (foreign : Bool) (names : OwnNames)
    → Apart image machine volume config device → own_names (names_in volume image) config device foreign ≡ Ok names
    → OnMapped image volume config (IsNotReplaced image volume names (is_some config.force_backup))
