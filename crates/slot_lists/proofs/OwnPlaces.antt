-- The model's check of a map's own places is the check of slots.
use Rattle.std.proofs.Common.{◌≡◌, List, [], ◌∷◌, Result, Ok, Err, refl, ap, ◌∙◌}
use Rattle.std.specs.List.{AllByRecursion}
use Rattle.lilo_model.specs.Checks.{◌>>=◌, with_fault}
use Rattle.lilo_model.specs.Disks.{Machine, Geometry, DiskSector}
use Rattle.lilo_model.specs.Slots.{Slot, AddressFault, slot_make}
use Rattle.lilo_model.specs.ConfOptions as options
use Rattle.lilo_model.specs.Conf.{Config}
use Rattle.lilo_model.specs.PlanRefusal.{PlanFault, Address, own_places_check, each_passes, place_check}
use Rattle.slot_lists.specs.Made.{made_slots, is_made, places_check}
use Rattle.slot_lists.specs.OwnPlaces.{OwnPlacesLaw}

module _ (config : Config) (machine : Machine) (geometry : Geometry) where
  -- what is asked of a place, by the slot that is made of it
  abbrev asked : Result Slot AddressFault → Result (Unit {0}) PlanFault
  asked made = is_made (with_fault (Address options.Map) made)

  both :
      (made : Result Slot AddressFault) (rest : Result (List Slot) AddressFault)
      → (asked made >>= λ a. with_fault (Address options.Map) (is_made rest))
      ≡ with_fault (Address options.Map) (is_made (made >>= λ value. rest >>= λ values. Ok (value ∷ values)))
  both (Err fault) rest = refl
  both (Ok slot) (Err fault) = refl
  both (Ok slot) (Ok slots) = refl

  pub own-places :
      (places : List DiskSector) → AllByRecursion (λ place. machine.geometry_of place.disk ≡ geometry) places
      → each_passes (place_check config machine options.Map) places ≡ with_fault (Address options.Map) (places_check config.mode geometry places)
  own-places [] on = refl
  own-places (place ∷ others) on =
      ap (λ geometry. asked (slot_make config.mode geometry place.disk place.sector 1) >>= λ a. each_passes (place_check config machine options.Map) others) on.0
      ∙ ap (λ rest. asked (slot_make config.mode geometry place.disk place.sector 1) >>= λ a. rest) (own-places others on.1)
      ∙ both (slot_make config.mode geometry place.disk place.sector 1) (made_slots config.mode geometry others)

pub own_places_law : OwnPlacesLaw
unfolding own_places_check
own_places_law config machine geometry places on = own-places config machine geometry places on
