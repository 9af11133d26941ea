-- A planned map that lies somewhere, once other sectors are written.
use Rattle.std.specs.Prelude.{◌≡◌, ℕ, List, [], ◌∷◌, ◌++◌, flat_map, Option, None, Some, Ok}
use Rattle.lilo_model.specs.Disks.{Image, Machine, Span, DiskSector, bytes_at}
use Rattle.lilo_model.specs.LineSector.{line_at}
use Rattle.lilo_model.specs.DefaultLine.{DefaultLine}
use Rattle.lilo_model.specs.Meant.{Target, Menu}
use Rattle.lilo_model.specs.Plan.{MappedFile, MappedSection, Plan, filled_places}
use Rattle.boot_laws.specs.SameOn.{SameOn}
use Rattle.map_laws.specs.Lies.{MapPlaces, after_line, MapLies}

-- the sectors that a planned map, its boot sector and its files lie in, but for the default line's
abbrev pub file_sectors_of : DiskSector → Option MappedFile → List DiskSector
file_sectors_of zero_place None = []
file_sectors_of zero_place (Some file) = filled_places zero_place file.places

abbrev pub section_places : DiskSector → MappedSection → List DiskSector
section_places zero_place mapped = filled_places zero_place mapped.main.places ++ file_sectors_of zero_place mapped.initrd

abbrev pub fixed_places : Span → Plan → MapPlaces → List DiskSector
fixed_places span plan places =
    record { disk = span.disk; sector = span.start }
    ∷ (after_line places
    ++ (file_sectors_of places.zero_place plan.message ++ flat_map (section_places places.zero_place) plan.sections))

-- where these sectors stay, and the line's sector has a line, the map lies
abbrev pub MapStaysLaw : Type 0
MapStaysLaw =
    (image c : Image) (machine : Machine) (span : Span) (plan : Plan) (menu : Menu) (targets : List Target)
    (line other : DefaultLine) (places : MapPlaces) (present : List ℕ)
    → MapLies image machine span plan menu targets line places present
    → SameOn (fixed_places span plan places) image c
    → line_at (bytes_at c places.line) ≡ Ok other
    → MapLies c machine span plan menu targets other places present
