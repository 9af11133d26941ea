-- How long a planned map may be (a file's greatest size: Minix file system; the map: this project's own).
use Rattle.std.specs.Prelude.{◌≡◌, ◌≤◌, ◌*◌, ℕ, Ok}
use Rattle.lilo_model.specs.Conf.{Config}
use Rattle.lilo_model.specs.ConfLawful.{IsLawful}
use Rattle.lilo_model.specs.Disks.{Image, Machine, Span}
use Rattle.lilo_model.specs.MinixNames.{IsSound}
use Rattle.lilo_model.specs.MinixParts.{Volume}
use Rattle.lilo_model.specs.Plan.{Plan, map_size}
use Rattle.lilo_model.specs.PlanRefusal.{plan_at}
use Rattle.write_model.specs.Places.{most_size}

-- a map that is planned on a sound volume is no longer than a file of that volume may be
abbrev pub MapSizeLaw : Type 0
MapSizeLaw =
    (image : Image) (machine : Machine) (volume : Volume) (span : Span) (config : Config) (time : ℕ) (plan : Plan)
    → IsSound volume image → IsLawful config → plan_at image machine volume span config time ≡ Ok plan
    → 512 * map_size plan machine ≤ most_size volume.layout.kind
