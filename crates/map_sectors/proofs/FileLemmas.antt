-- The slots of files that are accepted.
use Rattle.std.proofs.Common.{◌≡◌, ◌≤◌, ◌<◌, ℕ, suc, ◌+◌, Bool, true, false, if◌then◌else◌, List, [], ◌∷◌, map, length, drop, get_or, Option, None, Some, Result, Ok, Err, refl, sym, ap, ◌∙◌, arith}
use Rattle.std.specs.Prelude.{All, IfSome, nat_le}
use Rattle.std.specs.Option.{option_map}
use Rattle.std.specs.List.{AllByRecursion}
use Rattle.std.proofs.lemmas.Bool.Decides.{nat_tests}
use Rattle.lilo_model.specs.Checks.{◌>>=◌, require, with_fault}
use Rattle.lilo_model.specs.Disks.{DiskSector, Machine}
use Rattle.lilo_model.specs.Slots.{Slot, AddressFault, could_be_one}
use Rattle.lilo_model.specs.Conf.{Config}
use Rattle.lilo_model.specs.Plan.{MappedFile, slot_to, slots_after, slots_for, section_sectors, chain_for}
use Rattle.lilo_model.specs.PlanRefusal as plans
use Rattle.lilo_model.specs.PlanRefusal.{each_passes, if_there, place_check, slots_limit}
use Rattle.sector_address.specs.View.{mode_view, geometry_view}
use Rattle.lilo_conf.specs.View.{config_view}
use Rattle.slot_lists.specs.declared.runs.Run.{Run}
use Rattle.slot_lists.specs.Runs.{run_count, places_in}
use Rattle.run_sections.proofs.PassLemmas.{runs-long}
use Rattle.run_sections.specs.declared.section.Naming.{Naming}
use Rattle.run_sections.specs.Counted.{slots_counted, LiesOn}
use Rattle.run_sections.proofs.CountLemmas.{count_law, counted_law}
use Rattle.map_laws.proofs.Accepted.{both-pass, required}
use Rattle.map_plan.specs.declared.section.PlannedSection.{PlannedSection}
use Rattle.map_plan.specs.declared.section.SectionFiles.{SectionFiles}
use Rattle.map_plan.specs.declared.section.SectionFiles.TheVariants.{Kernel, System}
use Rattle.map_plan.specs.Devices.{places_with, system_file}
use Rattle.map_plan.specs.Sections.{FitsKind, FitsSection}
use Rattle.map_sectors.specs.declared.map.MapPlan.{MapPlan}
use Rattle.map_sectors.specs.Accepted.{IsNamed}
use Rattle.map_sectors.specs.Kept.{AreKept, IsKept}

-- ---- what was found is kept

kept-kind : (sizes : ℕ → ℕ) (planned : PlannedSection) (files : SectionFiles) → FitsKind sizes planned.section files → AreKept files
kept-kind sizes planned (Kernel files) fits = (fits.1, fits.2)
kept-kind sizes planned (System sectors) fits = fits.1

pub all-kept : (sizes : ℕ → ℕ) (sections : List PlannedSection) → All (FitsSection sizes) sections → AllByRecursion IsKept sections
all-kept sizes [] fits = tt
all-kept sizes (planned ∷ sections) fits =
    (kept-kind sizes planned planned.files (fits 0 planned (omega arith)).kind, all-kept sizes sections (λ k d below. fits (suc k) d (omega (arith, below))))

-- ---- sectors

pub sectors-more : (runs : List Run) (index before count : ℕ) (other : Run) → index < length runs → count ≡ run_count (get_or runs index other)
    → before + length (places_in (drop index runs)) ≡ length (places_in runs)
    → (before + count ≤ length (places_in runs)) × (before + count + length (places_in (drop (index + 1) runs)) ≡ length (places_in runs))
sectors-more runs index before count other within is so =
    let long = runs-long runs index other within in
    (omega (arith, long, is, so), omega (arith, long, is, so))

-- ---- slots

pub plain-slots : (config : Config) (machine : Machine) (file : MappedFile) → config.compact ≡ false → slots_for config machine file ≡ length file.places
unfolding slots_for
plain-slots config machine file is =
    ap (λ compact. if compact then slots_after machine None (map (option_map (slot_to config.mode machine)) file.places) else length file.places) is

abbrev value-of : Result ℕ AddressFault → ℕ
value-of (Ok n) = n
value-of (Err fault) = 0

pub ok-same : (a b : ℕ) (one other : Result ℕ AddressFault) → one ≡ Ok a → other ≡ Ok b → one ≡ other → a ≡ b
ok-same a b one other is so same = ap value-of (sym is ∙ same ∙ so)

pub not-counted : (fault : AddressFault) (count : ℕ) → Err fault ≡ Ok count → ⊥
not-counted fault count same = cc

module _ (machine : Machine) (plan : MapPlan) (file : MappedFile) (named : IsNamed machine plan file) where
  abbrev config : Config
  config = config_view plan.config

  pub lies-on : LiesOn machine (machine.geometry_of plan.disk) file
  lies-on = by file.places named.lies
    where
      one : (place : Option DiskSector) → IfSome place (λ place. place.disk ≡ plan.disk) → IfSome place (λ place. machine.geometry_of place.disk ≡ machine.geometry_of plan.disk)
      one None is = tt
      one (Some place) is = ap machine.geometry_of is

      by : (places : List (Option DiskSector)) → AllByRecursion (λ place. IfSome place (λ place. place.disk ≡ plan.disk)) places
          → AllByRecursion (λ place. IfSome place (λ place. machine.geometry_of place.disk ≡ machine.geometry_of plan.disk)) places
      by [] lies = tt
      by (place ∷ places) lies = (one place lies.0, by places lies.1)

  counted : slots_counted config.mode (machine.geometry_of plan.disk) config.compact file.places ≡ Ok (slots_for config machine file)
  counted =
      by (slots_counted config.mode (machine.geometry_of plan.disk) config.compact file.places) refl
      (sym (count_law config machine (machine.geometry_of plan.disk) named.option file lies-on) ∙ named.check)
    where
      by : (found : Result ℕ AddressFault) → slots_counted config.mode (machine.geometry_of plan.disk) config.compact file.places ≡ found
          → (with_fault (plans.Address named.option) found >>= λ count. require (nat_le count slots_limit) (plans.TooManySlots named.option count)) ≡ Ok tt
          → found ≡ Ok (slots_for config machine file)
      by (Err fault) is whole = cc
      by (Ok count) is whole = ap Ok (sym (counted_law config machine (machine.geometry_of plan.disk) file count lies-on is))

  -- a file's slots as they are counted
  pub counted-by : (naming : Naming) → naming.mode ≡ plan.config.mode → naming.compact ≡ plan.config.compact
      → geometry_view naming.geometry ≡ machine.geometry_of plan.disk
      → slots_counted (mode_view naming.mode) (geometry_view naming.geometry) naming.compact file.places ≡ Ok (slots_for config machine file)
  counted-by naming mode compact geometry =
      ap (λ mode. slots_counted (mode_view mode) (geometry_view naming.geometry) naming.compact file.places) mode
      ∙ ap (λ geometry. slots_counted config.mode geometry naming.compact file.places) geometry
      ∙ ap (λ compact. slots_counted config.mode (machine.geometry_of plan.disk) compact file.places) compact
      ∙ counted

  pub checks : (each_passes (if_there (place_check config machine named.option)) file.places ≡ Ok tt) × (slots_for config machine file ≤ 4128705)
  checks =
      let both = both-pass (each_passes (if_there (place_check config machine named.option)) file.places) (λ a. require (nat_le (slots_for config machine file) slots_limit) (plans.TooManySlots named.option (slots_for config machine file))) tt named.check in
      let test = required (nat_le (slots_for config machine file) slots_limit) (plans.TooManySlots named.option (slots_for config machine file)) both.2 in
      (both.1, grind (arith, nat_tests, test))

  pub few-sectors : section_sectors (slots_for config machine file) ≤ 65535
  few-sectors = let few = checks.1 in omega (arith, few)

-- ---- another system

system-slots : (config : Config) (machine : Machine) (first : DiskSector) (table : Option DiskSector)
    → (1 ≤ slots_for config machine (system_file (places_with first table))) × (slots_for config machine (system_file (places_with first table)) ≤ 2)
unfolding slots_for
system-slots config machine first None = by config.compact
  where
    by : (compact : Bool) → (1 ≤ (if compact then 1 + 0 else 1)) × ((if compact then 1 + 0 else 1) ≤ 2)
    by true = (omega arith, omega arith)
    by false = (omega arith, omega arith)
system-slots config machine first (Some table) = by config.compact (could_be_one (machine.geometry_of one.disk) one two)
  where
    one : Slot
    one = slot_to config.mode machine first

    two : Slot
    two = slot_to config.mode machine table

    by : (compact both : Bool) → (1 ≤ (if compact then 1 + (if both then 0 else 1 + 0) else 2)) × ((if compact then 1 + (if both then 0 else 1 + 0) else 2) ≤ 2)
    by true true = (omega arith, omega arith)
    by true false = (omega arith, omega arith)
    by false true = (omega arith, omega arith)
    by false false = (omega arith, omega arith)

-- its section has one sector
pub system-chain : (config : Config) (machine : Machine) (first : DiskSector) (table : Option DiskSector)
    → 1 ≡ chain_for config machine (system_file (places_with first table))
unfolding chain_for
system-chain config machine first table =
    let few = system-slots config machine first table in
    let some = few.0 in
    let most = few.1 in
    omega (arith, some, most)
