-- What the check of a map's own places answers.
use Rattle.std.specs.Prelude.{◌≡◌, List}
use Rattle.std.specs.List.{AllByRecursion}
use Rattle.lilo_model.specs.Checks.{with_fault}
use Rattle.lilo_model.specs.Disks.{Machine, Geometry, DiskSector}
use Rattle.lilo_model.specs.ConfOptions as options
use Rattle.lilo_model.specs.Conf.{Config}
use Rattle.lilo_model.specs.PlanRefusal.{Address, own_places_check}
use Rattle.slot_lists.specs.Made.{places_check}

-- where all lie on disks of one geometry, it is whether each has a slot
abbrev pub OwnPlacesLaw : Type 0
OwnPlacesLaw =
    (config : Config) (machine : Machine) (geometry : Geometry) (places : List DiskSector)
    → AllByRecursion (λ place. machine.geometry_of place.disk ≡ geometry) places
    → own_places_check config machine places ≡ with_fault (Address options.Map) (places_check config.mode geometry places)
