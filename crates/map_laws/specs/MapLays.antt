-- A planned map that lies, in a file of its own, is laid out as an installation has to leave it.
use Rattle.std.specs.Prelude.{◌≡◌, ◌⊎◌, ℕ, ◌*◌, ◌%◌, true, List, map, Some, Ok, replicate}
use Rattle.lilo_model.specs.Disks.{Image, Machine, Span, DiskSector, bytes_at}
use Rattle.lilo_model.specs.Devices.{Device}
use Rattle.lilo_model.specs.Conf.{Config}
use Rattle.lilo_model.specs.LineSector.{line_at}
use Rattle.lilo_model.specs.DefaultLine.{DefaultLine}
use Rattle.lilo_model.specs.Meant.{Target, Menu}
use Rattle.lilo_model.specs.MinixParts.{Volume, parts_of, is_file}
use Rattle.lilo_model.specs.MinixNames.{IsSound, reached}
use Rattle.lilo_model.specs.NamePlaces.{with_tilde}
use Rattle.lilo_model.specs.Plan.{Plan, map_size}
use Rattle.lilo_model.specs.Planned.{inode_places, planned}
use Rattle.lilo_model.specs.Settled.{Held}
use Rattle.lilo_model.specs.Lays.{Lays, tail_place}
use Rattle.boot_laws.specs.SameOn.{SameOn}
use Rattle.map_laws.specs.Lies.{MapPlaces, all_places, MapLies}
use Rattle.map_laws.specs.PlannedLies.{PlannedLies}
use Rattle.map_laws.specs.Accepted.{IsAccepted, IsWritten}
use Rattle.map_laws.specs.MapStays.{fixed_places}

-- Some places are those of a file, in order: a regular file without holes at the path of `map` or at that with `~`, of as
-- many sectors as the plan has, with zeros in the rest of its last zone.
pub record HoldsMap (image : Image) (machine : Machine) (volume : Volume) (plan : Plan) (path : List (List ℕ)) (places : List DiskSector) : Type 0 where
  pub holder : ℕ
  pub leads : (reached volume.layout (parts_of volume image) path ≡ Some holder)
      ⊎ (reached volume.layout (parts_of volume image) (with_tilde path) ≡ Some holder)
  pub regular : is_file ((parts_of volume image).node holder) ≡ true
  pub solid : inode_places volume (parts_of volume image) holder ≡ map Some places
  pub size_is : ((parts_of volume image).node holder).size ≡ 512 * map_size plan machine
  pub odd : map_size plan machine % 2 ≡ 1 → bytes_at image (tail_place volume image holder (map_size plan machine)) ≡ replicate 512 0

-- where a planned map lies at such places, the image has Lays
abbrev pub LaysLaw : Type 0
LaysLaw =
    (image : Image) (machine : Machine) (volume : Volume) (span : Span) (plan : Plan) (menu : Menu)
    (targets : List Target) (line : DefaultLine) (places : MapPlaces) (present : List ℕ) (path : List (List ℕ))
    → MapLies image machine span plan menu targets line places present
    → HoldsMap image machine volume plan path (all_places places)
    → Lays image machine volume span plan path present

-- so it does where what a configuration plans on a volume, as another image has it, lies
abbrev pub PlannedLaysLaw : Type 0
PlannedLaysLaw =
    (before image : Image) (machine : Machine) (volume : Volume) (span : Span) (config : Config) (time : ℕ)
    (devices : Device → List ℕ) (line : DefaultLine) (places : MapPlaces) (present : List ℕ) (path : List (List ℕ))
    → IsSound volume before
    → PlannedLies before image machine volume span config time devices line places present
    → HoldsMap image machine volume (planned before machine volume config time) path (all_places places)
    → Lays image machine volume span (planned before machine volume config time) path present

-- and where what a plan's checks accept is written
abbrev pub AcceptedLaysLaw : Type 0
AcceptedLaysLaw =
    (before image : Image) (machine : Machine) (volume : Volume) (span : Span) (config : Config) (time : ℕ)
    (line : DefaultLine) (places : MapPlaces) (present : List ℕ) (path : List (List ℕ))
    → IsSound volume before
    → IsAccepted before machine volume span config time (all_places places)
    → IsWritten before image machine volume span config time line places present
    → HoldsMap image machine volume (planned before machine volume config time) path (all_places places)
    → Lays image machine volume span (planned before machine volume config time) path present

-- A planned map that lies in one image has Lays in each later one where its sectors, its boot sector's and its files' stay,
-- its first sector says some line, and its places are still those of its file, under either name.
abbrev pub LaysStaysLaw : Type 0
LaysStaysLaw =
    (image c : Image) (machine : Machine) (volume : Volume) (span : Span) (plan : Plan) (menu : Menu)
    (targets : List Target) (line other : DefaultLine) (places : MapPlaces) (present : List ℕ) (path : List (List ℕ))
    → MapLies image machine span plan menu targets line places present
    → SameOn (fixed_places span plan places) image c
    → line_at (bytes_at c places.line) ≡ Ok other
    → HoldsMap c machine volume plan path (all_places places)
    → Lays c machine volume span plan path present

-- an image that has Lays is Held: the file that holds the map has the table of its boot sector
abbrev pub LaysHeldLaw : Type 0
LaysHeldLaw =
    (image : Image) (machine : Machine) (volume : Volume) (span : Span) (plan : Plan) (path : List (List ℕ)) (present : List ℕ)
    → Lays image machine volume span plan path present
    → Held image machine volume span path
