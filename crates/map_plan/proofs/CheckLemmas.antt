-- The checks of addresses, as they are computed.
use Rattle.std.proofs.Common.{◌≡◌, ◌<◌, ◌≤◌, ℕ, true, false, List, Result, Ok, Err, sym, ap, ◌∙◌, arith}
use Rattle.std.specs.Prelude.{nat_le}
use Rattle.std.specs.List.{AllByRecursion}
use Rattle.std.proofs.lemmas.Bool.Decides.{nat_tests}
use Rattle.lilo_model.specs.Checks.{◌>>=◌, require, with_fault}
use Rattle.lilo_model.specs.Disks as disks
use Rattle.lilo_model.specs.Disks.{Geometry, Machine}
use Rattle.lilo_model.specs.Slots.{AddressFault}
use Rattle.lilo_model.specs.ConfOptions as options
use Rattle.lilo_model.specs.ConfOptions.{Opt}
use Rattle.lilo_model.specs.Conf.{Config}
use Rattle.lilo_model.specs.PlanRefusal.{PlanFault, Address, TooManySlots, slots_limit, mapped_file_check, own_places_check}
use Rattle.sector_address.specs.View.{mode_view}
use Rattle.slot_lists.specs.declared.runs.Run.{Run}
use Rattle.slot_lists.specs.Made.{places_check}
use Rattle.slot_lists.specs.Runs.{places_in}
use Rattle.slot_lists.proofs.OwnPlaces.{own_places_law}
use Rattle.run_sections.specs.declared.section.Naming.{Naming}
use Rattle.run_sections.specs.Counted.{slots_counted, LiesOn}
use Rattle.run_sections.proofs.CountLemmas.{count_law}
use Rattle.map_plan.specs.Named.{NamesBy, file_of_runs}

le-false : (n m : ℕ) → m < n → nat_le n m ≡ false
le-false n m e = grind (arith, nat_tests)

le-true : (n m : ℕ) → n ≤ m → nat_le n m ≡ true
le-true n m e = grind (arith, nat_tests)

module _ (naming : Naming) (config : Config) (machine : Machine) (geometry : Geometry) (option : Opt) (size : ℕ) (runs : List Run)
    (named : NamesBy naming config) (on : LiesOn machine geometry (file_of_runs size runs)) where
  abbrev checked : Result ℕ AddressFault → Result (Unit {0}) PlanFault
  checked counted = with_fault (Address option) counted >>= λ count. require (nat_le count slots_limit) (TooManySlots option count)

  file-check : mapped_file_check config machine option (file_of_runs size runs) ≡ checked (slots_counted (mode_view naming.mode) geometry naming.compact (places_in runs))
  file-check =
      count_law config machine geometry option (file_of_runs size runs) on
      ∙ ap (λ mode. checked (slots_counted mode geometry config.compact (places_in runs))) named.mode
      ∙ ap (λ compact. checked (slots_counted (mode_view naming.mode) geometry compact (places_in runs))) named.compact

  pub file-few : (count : ℕ) → Ok count ≡ slots_counted (mode_view naming.mode) geometry naming.compact (places_in runs) → count ≤ 4128705
      → mapped_file_check config machine option (file_of_runs size runs) ≡ Ok tt
  file-few count is few =
      file-check ∙ ap checked (sym is) ∙ ap (λ few. require few (TooManySlots option count)) (le-true count 4128705 few)

  pub file-many : (count : ℕ) → Ok count ≡ slots_counted (mode_view naming.mode) geometry naming.compact (places_in runs) → 4128705 < count
      → mapped_file_check config machine option (file_of_runs size runs) ≡ Err (TooManySlots option count)
  file-many count is many =
      file-check ∙ ap checked (sym is) ∙ ap (λ few. require few (TooManySlots option count)) (le-false count 4128705 many)

  pub file-unnamed : (fault : AddressFault) → Err fault ≡ slots_counted (mode_view naming.mode) geometry naming.compact (places_in runs)
      → mapped_file_check config machine option (file_of_runs size runs) ≡ Err (Address option fault)
  file-unnamed fault is = file-check ∙ ap checked (sym is)

pub places-are : (config : Config) (machine : Machine) (geometry : Geometry) (places : List disks.DiskSector) (made : Result (Unit {0}) AddressFault)
    → AllByRecursion (λ place. machine.geometry_of place.disk ≡ geometry) places → made ≡ places_check config.mode geometry places
    → own_places_check config machine places ≡ with_fault (Address options.Map) made
places-are config machine geometry places made on is =
    own_places_law config machine geometry places on ∙ ap (with_fault (Address options.Map)) (sym is)
