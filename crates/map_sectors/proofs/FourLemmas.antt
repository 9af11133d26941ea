-- The places of each part of a map lie on the disks 0 to 3 where all do.
use Rattle.std.proofs.Common.{◌≡◌, ◌≤◌, ℕ, List, map, arith}
use Rattle.std.specs.Prelude.{All}
use Rattle.std.proofs.lemmas.List.Elements.{All-drop, All-map}
use Rattle.lilo_model.specs.Disks.{Machine}
use Rattle.lilo_model.specs.Disks as disks
use Rattle.lilo_model.specs.Conf.{Config, ConfSection}
use Rattle.lilo_model.specs.Plan.{MappedSection, Plan, main_places, initrd_places, places_after, sections_places, message_places}
use Rattle.slot_lists.specs.declared.slots.DiskSector.{DiskSector}
use Rattle.slot_lists.specs.Made.{place_view}
use Rattle.map_sectors.specs.Places.{LieOnFour}

-- the disk of a place is one of the four
abbrev is-on : disks.DiskSector → Type 0
is-on place = place.disk ≤ 3

pub four-main : (section : ConfSection) (places : List disks.DiskSector) → LieOnFour places → LieOnFour (main_places section places)
four-main section places on = All-drop is-on _ _ (All-drop is-on 1 places on)

pub four-initrd : (config : Config) (machine : Machine) (mapped : MappedSection) (places : List disks.DiskSector) → LieOnFour places
    → LieOnFour (initrd_places config machine mapped places)
four-initrd config machine mapped places on = All-drop is-on _ _ (four-main mapped.section places on)

pub four-after : (config : Config) (machine : Machine) (mapped : MappedSection) (places : List disks.DiskSector) → LieOnFour places
    → LieOnFour (places_after config machine mapped places)
four-after config machine mapped places on = All-drop is-on _ _ (four-initrd config machine mapped places on)

pub four-message : (places : List disks.DiskSector) → LieOnFour places → LieOnFour (message_places places)
four-message places on = All-drop is-on 5 places on

pub four-sections : (plan : Plan) (machine : Machine) (places : List disks.DiskSector) → LieOnFour places → LieOnFour (sections_places plan machine places)
four-sections plan machine places on = All-drop is-on _ _ (four-message places on)

-- places on one of the four lie on them
pub four-own : (disk : ℕ) (places : List DiskSector) → disk ≤ 3 → All (λ place. place.disk ≡ disk) places → LieOnFour (map place_view places)
four-own disk places most on =
    All-map is-on place_view places (λ k d below. let here = on k d below in omega (arith, here, most))
