-- What the checks of a plan accept.
use Rattle.std.proofs.Common.{◌≡◌, ◌≢◌, ◌≤◌, ◌<◌, ℕ, suc, ◌+◌, ◌*◌, ◌/◌, ◌%◌, ◌^◌, ◌==◌, Bool, true, false, if◌then◌else◌, List, [], ◌∷◌, map, length, None, Some, Result, Ok, Err, refl, sym, ap, subst, ◌∙◌, arith}
use Rattle.std.specs.Prelude.{Option, IfSome, is_ok, nat_le, option_map, option_and_then}
use Rattle.std.specs.List.{AllByRecursion, range_with_len}
use Rattle.std.proofs.lemmas.Bool.Decides.{nat_tests}
use Rattle.lilo_model.specs.Checks.{◌>>=◌, require, with_fault}
use Rattle.lilo_model.specs.Disks.{Image, Machine, DiskSector, IsGeometry}
use Rattle.lilo_model.specs.Slots.{slot_make}
use Rattle.lilo_model.specs.ConfOptions as options
use Rattle.lilo_model.specs.ConfOptions.{Opt}
use Rattle.lilo_model.specs.Conf.{Config}
use Rattle.lilo_model.specs.MinixParts.{Volume, parts_of, is_file}
use Rattle.lilo_model.specs.MinixNames.{Named, zone_number, content, names_in, IsSound}
use Rattle.lilo_model.specs.Section.{sectors_for}
use Rattle.lilo_model.specs.Meant.{filled_file, some_bytes}
use Rattle.lilo_model.specs.Plan.{MappedFile, slot_to, slots_for, filled_places}
use Rattle.lilo_model.specs.Planned.{sector_in_zone, inode_places, mapped_inode, file_inode, some_file, optional_file}
use Rattle.lilo_model.specs.PlanRefusal.{each_passes, if_there, place_check, mapped_file_check, own_places_check, slots_limit}
use Rattle.map_laws.specs.Lies.{IsNamed, AreNamed, IsNone, FileLies, OptionalLies}
use Rattle.map_laws.specs.Files.{IsKept, AreKept}
use Rattle.map_laws.specs.Accepted.{IsSmall, IsInside, HasVolume, HasZeros, PlacesLaw, IsOptionalLeft, AcceptedFileLaw, AcceptedOptionalLaw}
use Rattle.map_laws.proofs.Named.{named_again}
use Rattle.map_laws.proofs.MeantFiles.{in-range, file_law, file-both, inode-named, length-content}

-- ---- checks

pub not-ok : {A F : Type 0} → (fault : F) (value : A) → Err fault ≡ Ok value → ⊥
not-ok fault value same = let both : false ≡ true = ap is_ok same in grind (arith, both)

-- both of two checks pass
pub both-pass : {A B F : Type 0} → (check : Result A F) (next : A → Result B F) (value : B) → (check >>= next) ≡ Ok value → (found : A) × (check ≡ Ok found) × (next found ≡ Ok value)
both-pass (Ok found) next value is = (found, refl, is)
both-pass (Err fault) next value is = absurd (not-ok fault value is)

pub required : {F : Type 0} → (test : Bool) (fault : F) → require test fault ≡ Ok tt → test ≡ true
required true fault is = refl
required false fault is = absurd (not-ok fault tt is)

abbrev value-or : {A F : Type 0} → A → Result A F → A
value-or other (Ok value) = value
value-or other (Err fault) = other

pub told-ok : {A F G : Type 0} → (told : F → G) (check : Result A F) (value : A) → with_fault told check ≡ Ok value → check ≡ Ok value
told-ok told (Ok found) value is = ap Ok (ap (value-or found) is)
told-ok told (Err fault) value is = absurd (not-ok (told fault) value is)

pub all-pass : {A F : Type 0} → (check : A → Result (Unit {0}) F) (values : List A) → each_passes check values ≡ Ok tt → AllByRecursion (λ value. check value ≡ Ok tt) values
all-pass check [] is = tt
all-pass check (value ∷ values) is =
    let both = both-pass (check value) (λ a. each_passes check values) tt is in
    (both.1, all-pass check values both.2)

-- ---- places

module _ (machine : Machine) (config : Config) (geometries : (disk : ℕ) → IsGeometry (machine.geometry_of disk)) where
  pub place-named : (option : Opt) (place : DiskSector) → IsInside machine place → place_check config machine option place ≡ Ok tt → IsNamed machine (slot_to config.mode machine) place
  place-named option place inside is =
      let both = both-pass (with_fault (Rattle.lilo_model.specs.PlanRefusal.Address option) (slot_make config.mode (machine.geometry_of place.disk) place.disk place.sector 1)) (λ slot. Ok tt) tt is in
      let made = told-ok (Rattle.lilo_model.specs.PlanRefusal.Address option) (slot_make config.mode (machine.geometry_of place.disk) place.disk place.sector 1) both.0 both.1 in
      named_again config.mode machine place both.0 (geometries place.disk) inside.disk inside.sector made

  pub all-named : (places : List DiskSector) → AllByRecursion (IsInside machine) places → AllByRecursion (λ place. place_check config machine options.Map place ≡ Ok tt) places → AreNamed machine (slot_to config.mode machine) places
  all-named [] inside all = tt
  all-named (place ∷ places) inside all = (place-named options.Map place inside.0 all.0, all-named places inside.1 all.1)

  -- the sectors of a file, the zero sector for holes
  filled-named : (option : Opt) (zero_place : DiskSector) → IsNamed machine (slot_to config.mode machine) zero_place → (places : List (Option DiskSector))
      → AllByRecursion (λ place. IfSome place (IsInside machine)) places → AllByRecursion (λ place. if_there (place_check config machine option) place ≡ Ok tt) places
      → AreNamed machine (slot_to config.mode machine) (filled_places zero_place places)
  filled-named option zero_place at [] inside all = tt
  filled-named option zero_place at (None ∷ places) inside all = (at, filled-named option zero_place at places inside.1 all.1)
  filled-named option zero_place at (Some place ∷ places) inside all = (place-named option place inside.0 all.0, filled-named option zero_place at places inside.1 all.1)

pub places_law : PlacesLaw
unfolding own_places_check
places_law machine config places geometries inside is = all-named machine config geometries places inside (all-pass (place_check config machine options.Map) places is)

-- ---- files

filled-none : (line_place zero_place : DiskSector) → line_place ≢ zero_place → (before image : Image) (places : List (Option DiskSector)) → AllByRecursion (λ place. IsKept before image place × (place ≢ Some line_place)) places → IsNone line_place (filled_places zero_place places)
filled-none line_place zero_place other before image [] all = tt
filled-none line_place zero_place other before image (None ∷ places) all = (other, filled-none line_place zero_place other before image places all.1)
filled-none line_place zero_place other before image (Some place ∷ places) all = ((λ same. all.0.1 (ap Some (sym same))), filled-none line_place zero_place other before image places all.1)

are-kept : (line_place : DiskSector) (before image : Image) (places : List (Option DiskSector)) → AllByRecursion (λ place. IsKept before image place × (place ≢ Some line_place)) places → AreKept before image places
are-kept line_place before image [] all = tt
are-kept line_place before image (place ∷ places) all = (all.0.0, are-kept line_place before image places all.1)

all-mapped : {A B : Type 0} → (P : B → Type 0) (f : A → B) → ((x : A) → P (f x)) → (xs : List A) → AllByRecursion P (map f xs)
all-mapped P f each [] = tt
all-mapped P f each (x ∷ xs) = (each x, all-mapped P f each xs)

module _ (before : Image) (machine : Machine) (volume : Volume) (sound : IsSound volume before) (has : HasVolume machine volume) (number : ℕ) (named : Named volume.layout (parts_of volume before) number) (regular : is_file ((parts_of volume before).node number) ≡ true) where
  inside-zone : (index : ℕ) → IfSome (sector_in_zone volume.span (zone_number volume.layout (parts_of volume before) number (index / 2)) index) (IsInside machine)
  inside-zone index = by (zone_number volume.layout (parts_of volume before) number (index / 2)) (zone_number volume.layout (parts_of volume before) number (index / 2) == 0) refl refl
    where
      by : (zone : ℕ) (hole : Bool) → zone_number volume.layout (parts_of volume before) number (index / 2) ≡ zone → (zone == 0) ≡ hole
          → IfSome (if zone == 0 then None else Some (record { disk = volume.span.disk; sector = volume.span.start + (2 * zone + index % 2) })) (IsInside machine)
      by zone true is none = rw none tt
      by zone false is none =
          let some : zone ≢ 0 = grind (arith, nat_tests) in
          let below = in-range volume before sound number named regular index zone is some in
          let zones = has.zones in
          rw none (record { disk = has.disk; sector = omega (arith, below, zones) })

  pub all-inside : AllByRecursion (λ place. IfSome place (IsInside machine)) (inode_places volume (parts_of volume before) number)
  unfolding inode_places
  all-inside = all-mapped (λ place. IfSome place (IsInside machine)) (λ index. sector_in_zone volume.span (zone_number volume.layout (parts_of volume before) number (index / 2)) index) inside-zone (range_with_len 0 (sectors_for ((parts_of volume before).node number).size))

pub accepted_file_law : AcceptedFileLaw
unfolding mapped_inode
accepted_file_law before image machine volume config line_place zero_place option number sound has z named regular some few is left =
    let file = mapped_inode volume (parts_of volume before) number in
    let places = inode_places volume (parts_of volume before) number in
    let both = both-pass (each_passes (if_there (place_check config machine option)) places) (λ a. require (nat_le (slots_for config machine file) slots_limit) (Rattle.lilo_model.specs.PlanRefusal.TooManySlots option (slots_for config machine file))) tt is in
    let slots = required (nat_le (slots_for config machine file) slots_limit) (Rattle.lilo_model.specs.PlanRefusal.TooManySlots option (slots_for config machine file)) both.2 in
    file_law before image machine volume config line_place zero_place number sound
    (record {
      named = named;
      regular = regular;
      some = some;
      few = few;
      slots = grind (arith, nat_tests, slots);
      are = filled-named machine config has.geometries option zero_place z.named.0 places (all-inside before machine volume sound has number named regular) (all-pass (if_there (place_check config machine option)) places both.1);
      apart = filled-none line_place zero_place z.other before image places left;
      kept = are-kept line_place before image places left;
      zeros = z.zeros;
    })

-- ---- files that may be absent or empty

module _ (before image : Image) (machine : Machine) (volume : Volume) (config : Config) (line_place zero_place : DiskSector) (option : Opt) (sound : IsSound volume before) (has : HasVolume machine volume) (z : HasZeros image machine config line_place zero_place) where
  abbrev check : Option MappedFile → Result (Unit {0}) Rattle.lilo_model.specs.PlanRefusal.PlanFault
  check file = if_there (mapped_file_check config machine option) file

  by-size : (number : ℕ) → Named volume.layout (parts_of volume before) number → is_file ((parts_of volume before).node number) ≡ true
      → (bytes : List ℕ) → content volume.layout (parts_of volume before) number ≡ bytes → (empty : Bool) → (((parts_of volume before).node number).size == 0) ≡ empty
      → IfSome (if empty then None else Some (mapped_inode volume (parts_of volume before) number)) IsSmall
      → check (if empty then None else Some (mapped_inode volume (parts_of volume before) number)) ≡ Ok tt → IsOptionalLeft before image line_place (if empty then None else Some (mapped_inode volume (parts_of volume before) number))
      → OptionalLies image machine config line_place zero_place (if empty then None else Some (mapped_inode volume (parts_of volume before) number)) (some_bytes bytes)
  unfolding mapped_inode
  by-size number named regular [] is true none small accepted left = tt
  by-size number named regular (byte ∷ bytes) is true none small accepted left =
      let long : ((parts_of volume before).node number).size ≡ suc (length bytes) = sym (length-content volume before sound number named regular) ∙ ap length is in
      absurd (grind (arith, nat_tests, long))
  by-size number named regular [] is false some small accepted left =
      let long : ((parts_of volume before).node number).size ≡ 0 = sym (length-content volume before sound number named regular) ∙ ap length is in
      absurd (grind (arith, nat_tests, long))
  by-size number named regular (byte ∷ bytes) is false some small accepted left =
      let more : 1 ≤ ((parts_of volume before).node number).size = grind (arith, nat_tests) in
      subst (FileLies image machine config line_place zero_place (mapped_inode volume (parts_of volume before) number)) is
      (accepted_file_law before image machine volume config line_place zero_place option number sound has z named regular more small accepted left)

  by-inode : (text : List ℕ) (inode : Option ℕ) → file_inode volume (parts_of volume before) text ≡ inode
      → IfSome (option_and_then some_file (option_map (mapped_inode volume (parts_of volume before)) inode)) IsSmall
      → check (option_and_then some_file (option_map (mapped_inode volume (parts_of volume before)) inode)) ≡ Ok tt
      → IsOptionalLeft before image line_place (option_and_then some_file (option_map (mapped_inode volume (parts_of volume before)) inode))
      → OptionalLies image machine config line_place zero_place (option_and_then some_file (option_map (mapped_inode volume (parts_of volume before)) inode)) (option_and_then some_bytes (option_map (content volume.layout (parts_of volume before)) inode))
  unfolding mapped_inode
  by-inode text None is small accepted left = tt
  by-inode text (Some number) is small accepted left =
      let named = inode-named volume before sound text number is in
      by-size number named.0 named.1 (content volume.layout (parts_of volume before) number) refl (((parts_of volume before).node number).size == 0) refl small accepted left

  pub optional-lies : (path : Option (List ℕ)) → IfSome (optional_file volume (parts_of volume before) path) IsSmall → check (optional_file volume (parts_of volume before) path) ≡ Ok tt → IsOptionalLeft before image line_place (optional_file volume (parts_of volume before) path)
      → OptionalLies image machine config line_place zero_place (optional_file volume (parts_of volume before) path) (filled_file (names_in volume before) path)
  optional-lies None small accepted left = tt
  optional-lies (Some text) small accepted left =
      subst (λ bytes. OptionalLies image machine config line_place zero_place (optional_file volume (parts_of volume before) (Some text)) (option_and_then some_bytes bytes)) (sym (file-both volume before sound text))
      (by-inode text (file_inode volume (parts_of volume before) text) refl small accepted left)

pub accepted_optional_law : AcceptedOptionalLaw
accepted_optional_law before image machine volume config line_place zero_place option path sound has z small accepted left =
    optional-lies before image machine volume config line_place zero_place option sound has z path small accepted left
