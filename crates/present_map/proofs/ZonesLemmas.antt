-- Sectors that are met one after the other.
use Rattle.std.proofs.Common.{◌≡◌, ◌∙◌, ◌||◌, ◌&&◌, ◌==◌, ◌-◌, ◌/◌, ℕ, Bool, true, false, refl, sym, ap, List, [], ◌∷◌, ◌++◌, None, Some, if◌then◌else◌, arith, rules}
use Rattle.std.proofs.Math.Bool.{or_assoc, or-false}
use Rattle.std.proofs.lemmas.List.Folds.{list_any-append}
use Rattle.lilo_model.specs.Disks.{DiskSector}
use Rattle.lilo_model.specs.Section.{Listing, with_place, with_looked}
use Rattle.lilo_model.specs.Mapped.{listing_places}
use Rattle.std.proofs.lemmas.Bool.Decides.{nat_tests}
use Rattle.minix_steps.specs.Numbers.{has_number, with_number}
use Rattle.install_laws.specs.InstallVerdict.{is_of_volume, is_of_places}
use Rattle.present_map.specs.Zones.{Met, Meets, MeetsListing}
use Rattle.present_map.proofs.NumbersLemmas.{has-with}

-- none
pub meets_none : (met : Met) → Meets met met []
meets_none met = record { volume = refl; zones = λ zone. sym (or-false (has_number met.zones zone)) }

places-append :
    (met : Met) (zone : ℕ) (one other : List DiskSector)
    → is_of_places met.volume (one ++ other) zone ≡ (is_of_places met.volume one zone || is_of_places met.volume other zone)
places-append met zone one other = list_any-append _ one other

-- some, and then others
pub meets_more :
    (old met new : Met) (one other : List DiskSector) → Meets old met one → Meets met new other → Meets old new (one ++ other)
meets_more old met new one other first second = record {
  volume = second.volume ∙ first.volume;
  zones = λ zone.
      second.zones zone
      ∙ ap (λ volume. has_number met.zones zone || is_of_places volume other zone) first.volume
      ∙ ap (λ test. test || is_of_places old.volume other zone) (first.zones zone)
      ∙ or_assoc (has_number old.zones zone) (is_of_places old.volume one zone) (is_of_places old.volume other zone)
      ∙ ap (λ test. has_number old.zones zone || test) (sym (places-append old zone one other));
}

swapped : (a b c : Bool) → (a || (b || c)) ≡ (b || (a || c))
swapped true true c = refl
swapped true false c = refl
swapped false true c = refl
swapped false false c = refl

-- the order of sectors makes no difference
place-between :
    (met : Met) (zone : ℕ) (place : DiskSector) (one other : List DiskSector)
    → is_of_places met.volume (place ∷ (one ++ other)) zone ≡ is_of_places met.volume (one ++ (place ∷ other)) zone
place-between met zone place one other =
    ap (λ rest. (is_of_volume met.volume place && ((place.sector - met.volume.span.start) / 2 == zone)) || rest) (places-append met zone one other)
    ∙ swapped (is_of_volume met.volume place && ((place.sector - met.volume.span.start) / 2 == zone)) (is_of_places met.volume one zone) (is_of_places met.volume other zone)
    ∙ sym (places-append met zone one (place ∷ other))

-- a sector that a listing names, and its others
pub meets_place :
    (old met new : Met) (place : DiskSector) (listing : Listing) → Meets old met (place ∷ []) → MeetsListing met new listing
    → MeetsListing old new (with_place place listing)
meets_place old met new place listing first second =
    let all = meets_more old met new (place ∷ []) (listing_places listing) first second in
    record {
      volume = all.volume;
      zones = λ zone. all.zones zone ∙ ap (λ test. has_number old.zones zone || test) (place-between old zone place listing.looked listing.places);
    }

-- a section sector, and what is listed after it
pub meets_looked :
    (old met new : Met) (place : DiskSector) (listing : Listing) → Meets old met (place ∷ []) → MeetsListing met new listing
    → MeetsListing old new (with_looked place listing)
meets_looked old met new place listing first second = meets_more old met new (place ∷ []) (listing_places listing) first second

same-test : (n zone half : ℕ) → n ≡ half → (zone == n) ≡ ((half == zone) || false)
same-test n zone half is = grind (arith, nat_tests, is)

-- a sector of the volume
zone-met :
    (of : Bool) (n half zone : ℕ) → Some n ≡ (if of then Some half else None) → (zone == n) ≡ ((of && (half == zone)) || false)
zone-met true n half zone is = same-test n zone half (let same : n ≡ half = cc in same)
zone-met false n half zone is = absurd (search rules)

pub meets_one :
    (old new : Met) (place : DiskSector) (n : ℕ)
    → Some n ≡ (if is_of_volume old.volume place then Some ((place.sector - old.volume.span.start) / 2) else None)
    → new.volume ≡ old.volume → new.zones ≡ with_number old.zones n → Meets old new (place ∷ [])
meets_one old new place n found volume zones = record {
  volume = volume;
  zones = λ zone.
      ap (λ zones. has_number zones zone) zones
      ∙ has-with n zone old.zones
      ∙ ap (λ test. has_number old.zones zone || test)
      (zone-met (is_of_volume old.volume place) n ((place.sector - old.volume.span.start) / 2) zone found);
}
