-- The slots of another system's section sector.
use Rattle.std.proofs.Common.{◌≡◌, ◌≤◌, ℕ, ◌+◌, Bool, true, false, if◌then◌else◌, List, [], ◌∷◌, take, drop, Option, None, Some, refl, sym, ap, subst, ◌∙◌, arith}
use Rattle.std.specs.Prelude.{slice_index_or}
use Rattle.std.proofs.lemmas.List.{get_or_past}
use Rattle.lilo_model.specs.Conf.{Config}
use Rattle.lilo_model.specs.Disks.{DiskSector, Geometry, Machine}
use Rattle.lilo_model.specs.Slots.{Slot, could_be_one}
use Rattle.lilo_model.specs.Section.{section_bytes}
use Rattle.lilo_model.specs.Plan.{MappedFile, compact_slots, chain_sectors, file_sectors, file_slots, slot_to}
use Rattle.map_laws.proofs.Entries.{length-file}
use Rattle.map_plan.specs.Devices.{places_with, system_file}
use Rattle.run_sections.specs.Counted.{joined_slot}
use Rattle.map_sectors.proofs.FileLemmas.{system-chain}

-- two slots, or one that is both
abbrev pub two_slots : Slot → Slot → Option Slot → List Slot
two_slots slot next None = slot ∷ (next ∷ [])
two_slots slot next (Some both) = both ∷ []

pub two-slots : (machine : Machine) (geometry : Geometry) (compact : Bool) (slot next : Slot) → machine.geometry_of slot.disk ≡ geometry
    → two_slots slot next (joined_slot geometry compact (Some slot) next)
    ≡ (if compact then compact_slots machine (slot ∷ (next ∷ [])) else slot ∷ (next ∷ []))
two-slots machine geometry false slot next on = refl
two-slots machine geometry true slot next on =
    subst (λ geometry. two_slots slot next (joined_slot geometry true (Some slot) next) ≡ compact_slots machine (slot ∷ (next ∷ []))) on
    (by (could_be_one (machine.geometry_of slot.disk) slot next) (record slot { count = slot.count + next.count }))
  where
    by : (one : Bool) (longer : Slot) → two_slots slot next (if one then Some longer else None) ≡ (if one then longer ∷ [] else slot ∷ (next ∷ []))
    by true longer = refl
    by false longer = refl

pub one-slot : (config : Config) (machine : Machine) (zero_place first : DiskSector)
    → file_slots config machine zero_place (system_file (places_with first None)) ≡ slot_to config.mode machine first ∷ []
unfolding file_slots
one-slot config machine zero_place first = by config.compact
  where
    by : (compact : Bool) → (if compact then slot_to config.mode machine first ∷ [] else slot_to config.mode machine first ∷ []) ≡ slot_to config.mode machine first ∷ []
    by true = refl
    by false = refl

pub both-slots : (config : Config) (machine : Machine) (zero_place first table : DiskSector) (slot next : Slot)
    → slot ≡ slot_to config.mode machine first → next ≡ slot_to config.mode machine table
    → (if config.compact then compact_slots machine (slot ∷ (next ∷ [])) else slot ∷ (next ∷ []))
    ≡ file_slots config machine zero_place (system_file (places_with first (Some table)))
unfolding file_slots
both-slots config machine zero_place first table slot next is after =
    ap (λ slot. if config.compact then compact_slots machine (slot ∷ (next ∷ [])) else slot ∷ (next ∷ [])) is
    ∙ ap (λ next. if config.compact then compact_slots machine (slot_to config.mode machine first ∷ (next ∷ [])) else slot_to config.mode machine first ∷ (next ∷ [])) after

-- ---- its section sector

few-slots : (config : Config) (machine : Machine) (zero_place first : DiskSector) (table : Option DiskSector)
    → take 63 (file_slots config machine zero_place (system_file (places_with first table))) ≡ file_slots config machine zero_place (system_file (places_with first table))
unfolding file_slots
few-slots config machine zero_place first None = by config.compact
  where
    by : (compact : Bool) → take 63 (if compact then slot_to config.mode machine first ∷ [] else slot_to config.mode machine first ∷ [])
        ≡ (if compact then slot_to config.mode machine first ∷ [] else slot_to config.mode machine first ∷ [])
    by true = refl
    by false = refl
few-slots config machine zero_place first (Some table) =
    by config.compact (slot_to config.mode machine first) (slot_to config.mode machine table)
    (could_be_one (machine.geometry_of (slot_to config.mode machine first).disk) (slot_to config.mode machine first) (slot_to config.mode machine table))
    (record (slot_to config.mode machine first) { count = (slot_to config.mode machine first).count + (slot_to config.mode machine table).count })
  where
    by : (compact : Bool) (slot next : Slot) (one : Bool) (longer : Slot)
        → take 63 (if compact then (if one then longer ∷ [] else slot ∷ (next ∷ [])) else slot ∷ (next ∷ []))
        ≡ (if compact then (if one then longer ∷ [] else slot ∷ (next ∷ [])) else slot ∷ (next ∷ []))
    by true slot next true longer = refl
    by true slot next false longer = refl
    by false slot next one longer = refl

module _ (config : Config) (machine : Machine) (zero_place first : DiskSector) (table : Option DiskSector) (places : List DiskSector) where
  abbrev file : MappedFile
  file = system_file (places_with first table)

  -- it is the only one
  pub system-sector : (other : List ℕ) → slice_index_or (file_sectors config machine zero_place file places) 0 other
      ≡ section_bytes (file_slots config machine zero_place file) None
  unfolding file_sectors
  system-sector other =
      ap (λ chain. slice_index_or (chain_sectors (slot_to config.mode machine) chain (file_slots config machine zero_place file) (drop 1 places)) 0 other)
      (sym (system-chain config machine first table))
      ∙ ap (λ slots. section_bytes slots None) (few-slots config machine zero_place first table)

  pub past-system : (index : ℕ) (other : List ℕ) → 1 ≤ index → slice_index_or (file_sectors config machine zero_place file places) index other ≡ other
  past-system index other above =
      let long = length-file config machine zero_place file places in
      let one = system-chain config machine first table in
      get_or_past (file_sectors config machine zero_place file places) index other (omega (arith, long, one, above))
