-- What is counted sector by sector is what the model asks of a file's addresses, and how many slots it plans.
use Rattle.std.proofs.Common.{◌≡◌, ℕ, suc, ◌+◌, Bool, true, false, ◌&&◌, if◌then◌else◌, List, [], ◌∷◌, length, map, Option, Some, None, Result, Ok, Err, refl, sym, ap, ◌∙◌, arith}
use Rattle.std.specs.Prelude.{nat_le, unwrap_or, IfSome}
use Rattle.std.specs.Option.{option_map}
use Rattle.std.specs.Result.{result_ok}
use Rattle.std.specs.List.{AllByRecursion}
use Rattle.lilo_model.specs.Checks.{◌>>=◌, require, with_fault}
use Rattle.lilo_model.specs.Disks.{DiskSector, Geometry, Machine}
use Rattle.lilo_model.specs.Slots.{Slot, Mode, AddressFault, slot_make, could_be_one}
use Rattle.lilo_model.specs.ConfOptions as options
use Rattle.lilo_model.specs.ConfOptions.{Opt}
use Rattle.lilo_model.specs.Conf.{Config}
use Rattle.lilo_model.specs.Plan.{MappedFile, slot_to, no_slot, slots_after, slots_for}
use Rattle.lilo_model.specs.PlanRefusal.{PlanFault, Address, TooManySlots, slots_limit, each_passes, if_there, place_check}
use Rattle.slot_lists.specs.Cursor.{with_slot}
use Rattle.run_sections.specs.Counted.{joined_slot, counted_after, slots_counted, CountLaw, CountedLaw}
use Rattle.run_sections.proofs.SectorLemmas.{made-disk}

-- one slot more is counted
one-more : (asked : Result (Unit {0}) PlanFault) (count : ℕ) (counted : Result ℕ AddressFault) (told : AddressFault → PlanFault)
    → (asked >>= λ a. Ok count) ≡ with_fault told counted
    → (asked >>= λ a. Ok (1 + count)) ≡ with_fault told (counted >>= λ count. Ok (1 + count))
one-more (Ok a) count (Ok other) told same = let so : count ≡ other = cc in ap (λ n. Ok (1 + n)) so
one-more (Ok a) count (Err fault) told same = cc
one-more (Err refused) count (Ok other) told same = cc
one-more (Err refused) count (Err fault) told same = let so : refused ≡ told fault = cc in ap Err so

module _ (mode : Mode) (machine : Machine) (geometry : Geometry) (told : AddressFault → PlanFault) where
  abbrev IsHeldOn : Option Slot → Type 0
  IsHeldOn held = IfSome held (λ slot. machine.geometry_of slot.disk ≡ geometry)

  abbrev passed : Result Slot AddressFault → Result (Unit {0}) PlanFault
  passed made = with_fault told made >>= λ slot. Ok tt

  abbrev asked : DiskSector → Result (Unit {0}) PlanFault
  asked place = passed (slot_make mode (machine.geometry_of place.disk) place.disk place.sector 1)

  abbrev named : List (Option DiskSector) → List (Option Slot)
  named places = map (option_map (slot_to mode machine)) places

  abbrev how_many : Bool → Option Slot → List (Option DiskSector) → ℕ
  how_many compact held places = if compact then slots_after machine held (named places) else length places

  made-slot : (place : DiskSector) (slot : Slot) → machine.geometry_of place.disk ≡ geometry → slot_make mode geometry place.disk place.sector 1 ≡ Ok slot
      → slot_to mode machine place ≡ slot
  unfolding slot_to
  made-slot place slot on is =
      ap (λ geometry. unwrap_or (result_ok (slot_make mode geometry place.disk place.sector 1)) no_slot) on
      ∙ ap (λ made. unwrap_or (result_ok made) no_slot) is

  long : (others : List (Option DiskSector)) → suc (length others) ≡ 1 + length others
  long others = omega arith

  -- how many there are after a sector with a slot
  after-joined : (compact : Bool) (held : Option Slot) (next : Slot) (others : List (Option DiskSector)) → IsHeldOn held
      → (place : DiskSector) → slot_to mode machine place ≡ next
      → how_many compact held (Some place ∷ others)
      ≡ (with_slot (joined_slot geometry compact held next) (1 + how_many compact (Some next) others) (λ both. how_many compact (Some both) others))
  after-joined false None next others on place is = long others
  after-joined false (Some slot) next others on place is = long others
  after-joined true None next others on place is = ap (λ next. 1 + slots_after machine (Some next) (named others)) is
  after-joined true (Some slot) next others on place is =
      ap (λ next. if could_be_one (machine.geometry_of slot.disk) slot next
      then slots_after machine (Some (record slot { count = slot.count + next.count })) (named others)
      else 1 + slots_after machine (Some next) (named others)) is
      ∙ ap (λ geometry. if could_be_one geometry slot next
      then slots_after machine (Some (record slot { count = slot.count + next.count })) (named others)
      else 1 + slots_after machine (Some next) (named others)) on
      ∙ by (could_be_one geometry slot next)
    where
      by : (one : Bool)
          → (if one then slots_after machine (Some (record slot { count = slot.count + next.count })) (named others) else 1 + slots_after machine (Some next) (named others))
          ≡ with_slot (if one then Some (record slot { count = slot.count + next.count }) else None) (1 + how_many true (Some next) others) (λ both. how_many true (Some both) others)
      by true = refl
      by false = refl

  -- what is joined lies on the same disk
  joined-on : (compact : Bool) (held : Option Slot) (next both : Slot) → IsHeldOn held → joined_slot geometry compact held next ≡ Some both
      → machine.geometry_of both.disk ≡ geometry
  joined-on compact None next both on is = cc
  joined-on compact (Some slot) next both on is = by (compact && could_be_one geometry slot next) is
    where
      by : (one : Bool) → (if one then Some (record slot { count = slot.count + next.count }) else None) ≡ Some both → machine.geometry_of both.disk ≡ geometry
      by true is =
          let so : record slot { count = slot.count + next.count } ≡ both = cc in
          sym (ap (λ (slot : Slot). machine.geometry_of slot.disk) so) ∙ on
      by false is = cc

  counted-is : (compact : Bool) (held : Option Slot) (places : List (Option DiskSector)) → IsHeldOn held
      → AllByRecursion (λ place. IfSome place (λ place. machine.geometry_of place.disk ≡ geometry)) places
      → (each_passes (if_there asked) places >>= λ a. Ok (how_many compact held places)) ≡ with_fault told (counted_after mode geometry compact held places)
  counted-is true held [] kept on = refl
  counted-is false held [] kept on = refl
  counted-is true held (None ∷ others) kept on =
      one-more (each_passes (if_there asked) others) (how_many true None others) (counted_after mode geometry true None others) told
      (counted-is true None others tt on.1)
  counted-is false held (None ∷ others) kept on =
      ap (λ n. each_passes (if_there asked) others >>= λ a. Ok n) (long others)
      ∙ one-more (each_passes (if_there asked) others) (how_many false None others) (counted_after mode geometry false None others) told
      (counted-is false None others tt on.1)
  counted-is compact held (Some place ∷ others) kept on =
      ap (λ geometry. (passed (slot_make mode geometry place.disk place.sector 1) >>= λ a. each_passes (if_there asked) others) >>= λ a. Ok (how_many compact held (Some place ∷ others))) on.0
      ∙ by (slot_make mode geometry place.disk place.sector 1) refl
      (λ held kept. counted-is compact held others kept on.1)
    where
      count_with : Option Slot → Slot → Result ℕ AddressFault
      count_with both next =
          with_slot both
          (counted_after mode geometry compact (Some next) others >>= λ count. Ok (1 + count))
          (λ both. counted_after mode geometry compact (Some both) others)

      joined : (both : Option Slot) (next : Slot) → joined_slot geometry compact held next ≡ both
          → ((held : Option Slot) → IsHeldOn held → (each_passes (if_there asked) others >>= λ a. Ok (how_many compact held others)) ≡ with_fault told (counted_after mode geometry compact held others))
          → machine.geometry_of next.disk ≡ geometry
          → (each_passes (if_there asked) others >>= λ a. Ok (with_slot both (1 + how_many compact (Some next) others) (λ both. how_many compact (Some both) others)))
          ≡ with_fault told (count_with both next)
      joined None next is after on =
          one-more (each_passes (if_there asked) others) (how_many compact (Some next) others) (counted_after mode geometry compact (Some next) others) told (after (Some next) on)
      joined (Some both) next is after on = after (Some both) (joined-on compact held next both kept is)

      by : (made : Result Slot AddressFault) → slot_make mode geometry place.disk place.sector 1 ≡ made
          → ((held : Option Slot) → IsHeldOn held → (each_passes (if_there asked) others >>= λ a. Ok (how_many compact held others)) ≡ with_fault told (counted_after mode geometry compact held others))
          → ((passed made >>= λ a. each_passes (if_there asked) others) >>= λ a. Ok (how_many compact held (Some place ∷ others)))
          ≡ with_fault told (made >>= λ next. count_with (joined_slot geometry compact held next) next)
      by (Err fault) is after = refl
      by (Ok next) is after =
          ap (λ n. each_passes (if_there asked) others >>= λ a. Ok n) (after-joined compact held next others kept place (made-slot place next on.0 is))
          ∙ joined (joined_slot geometry compact held next) next refl after
          (ap machine.geometry_of (made-disk mode geometry place.disk place.sector next is) ∙ on.0)

-- ---- the laws

asked-more : (asked : Result (Unit {0}) PlanFault) (count : ℕ) (next : ℕ → Result (Unit {0}) PlanFault) → (asked >>= λ a. next count) ≡ ((asked >>= λ a. Ok count) >>= next)
asked-more (Ok a) count next = refl
asked-more (Err fault) count next = refl

slots-are : (config : Config) (machine : Machine) (file : MappedFile) → slots_for config machine file
    ≡ how_many config.mode machine (machine.geometry_of 0) (Address options.Map) config.compact None file.places
unfolding slots_for
slots-are config machine file = by config.compact
  where
    by : (compact : Bool) → (if compact then slots_after machine None (map (option_map (slot_to config.mode machine)) file.places) else length file.places)
        ≡ how_many config.mode machine (machine.geometry_of 0) (Address options.Map) compact None file.places
    by true = refl
    by false = refl

pub count_law : CountLaw
count_law config machine geometry option file on =
    asked-more (each_passes (if_there (place_check config machine option)) file.places) (slots_for config machine file) (λ count. require (nat_le count slots_limit) (TooManySlots option count))
    ∙ ap (λ counted. counted >>= λ count. require (nat_le count slots_limit) (TooManySlots option count))
    (ap (λ count. each_passes (if_there (place_check config machine option)) file.places >>= λ a. Ok count) (slots-are config machine file)
    ∙ counted-is config.mode machine geometry (Address option) config.compact None file.places tt on)

counted-ok : (asked : Result (Unit {0}) PlanFault) (count : ℕ) (counted : Result ℕ AddressFault) (told : AddressFault → PlanFault) (found : ℕ)
    → (asked >>= λ a. Ok count) ≡ with_fault told counted → counted ≡ Ok found → count ≡ found
counted-ok (Ok a) count (Ok other) told found same is =
    let one : count ≡ other = cc in
    let two : other ≡ found = cc in
    one ∙ two
counted-ok (Ok a) count (Err fault) told found same is = cc
counted-ok (Err refused) count counted told found same is =
    let so : Err refused ≡ with_fault told (Ok found) = same ∙ ap (with_fault told) is in
    cc

pub counted_law : CountedLaw
counted_law config machine geometry file count on is =
    slots-are config machine file
    ∙ counted-ok (each_passes (if_there (place_check config machine options.Map)) file.places)
    (how_many config.mode machine geometry (Address options.Map) config.compact None file.places)
    (slots_counted config.mode geometry config.compact file.places) (Address options.Map) count
    (counted-is config.mode machine geometry (Address options.Map) config.compact None file.places tt on) is
