-- Files whose sectors all have slots.
use Rattle.std.proofs.Common.{◌≡◌, ◌<◌, ℕ, ◌+◌, ◌-◌, ◌*◌, Bool, true, false, List, [], ◌∷◌, take, drop, Option, None, Some, Ok, refl, sym, ap, subst, ◌∙◌}
use Rattle.std.specs.Prelude.{IfSome, slice_index_or}
use Rattle.std.specs.List.{AllByRecursion}
use Rattle.std.proofs.lemmas.List.{get_or_default}
use Rattle.lilo_model.specs.Checks.{with_fault}
use Rattle.lilo_model.specs.Disks.{DiskSector, Geometry, Machine}
use Rattle.lilo_model.specs.Slots.{Slot, slot_make}
use Rattle.lilo_model.specs.Section.{section_bytes}
use Rattle.lilo_model.specs.Conf.{Config}
use Rattle.lilo_model.specs.ConfOptions as options
use Rattle.lilo_model.specs.ConfOptions.{Opt}
use Rattle.lilo_model.specs.Plan.{MappedFile, chain_for, compact_slots, file_sectors, filled_places, link_to, slot_to}
use Rattle.lilo_model.specs.PlanRefusal as plans
use Rattle.lilo_model.specs.PlanRefusal.{if_there, place_check}
use Rattle.slot_lists.specs.Made.{made_slots, one_geometry}
use Rattle.sector_address.specs.View.{mode_view, geometry_view}
use Rattle.run_sections.specs.declared.section.Naming.{Naming}
use Rattle.run_sections.specs.Laws.{HasSlots}
use Rattle.run_sections.specs.Made.{slots_made}
use Rattle.run_sections.proofs.SectorLemmas.{file_sector_law}
use Rattle.map_laws.proofs.Accepted.{both-pass, told-ok, all-pass}
use Rattle.map_laws.proofs.Entries.{length-file}
use Rattle.lilo_conf.specs.View.{config_view}
use Rattle.map_sectors.specs.declared.map.MapPlan.{MapPlan}
use Rattle.map_sectors.specs.Accepted.{IsNamed}
use Rattle.map_sectors.specs.Places.{IsOwnPlace}
use Rattle.map_sectors.proofs.FileLemmas.{checks, lies-on}

-- ---- slots are made

module _ (config : Config) (machine : Machine) (geometry : Geometry) where
  -- a place has a slot
  record HasSlot (place : DiskSector) : Type 0 where
    slot : Slot
    made : slot_make config.mode geometry place.disk place.sector 1 ≡ Ok slot

  -- so have some places
  record HaveSlots (places : List DiskSector) : Type 0 where
    slots : List Slot
    made : made_slots config.mode geometry places ≡ Ok slots

  has-slot : (option : Opt) (place : DiskSector) → machine.geometry_of place.disk ≡ geometry → place_check config machine option place ≡ Ok tt → HasSlot place
  has-slot option place on is =
      let both = both-pass (with_fault (plans.Address option) (slot_make config.mode (machine.geometry_of place.disk) place.disk place.sector 1)) (λ slot. Ok tt) tt is in
      let made = told-ok (plans.Address option) (slot_make config.mode (machine.geometry_of place.disk) place.disk place.sector 1) both.0 both.1 in
      record { slot = both.0; made = subst (λ geometry. slot_make config.mode geometry place.disk place.sector 1 ≡ Ok both.0) on made }

  one-more : (place : DiskSector) (others : List DiskSector) → HasSlot place → HaveSlots others → HaveSlots (place ∷ others)
  one-more place others first rest = record { slots = first.slot ∷ rest.slots; made = rw (first.made, rest.made) refl }

  -- the sectors of a file, the zero sector in holes
  have-slots : (option : Opt) (zero_place : DiskSector) → HasSlot zero_place → (places : List (Option DiskSector))
      → AllByRecursion (λ place. IfSome place (λ place. machine.geometry_of place.disk ≡ geometry)) places
      → AllByRecursion (λ place. if_there (place_check config machine option) place ≡ Ok tt) places → HaveSlots (filled_places zero_place places)
  have-slots by zero_place at [] on all = record { slots = []; made = refl }
  have-slots by zero_place at (None ∷ places) on all =
      one-more zero_place (filled_places zero_place places) at (have-slots by zero_place at places on.1 all.1)
  have-slots by zero_place at (Some place ∷ places) on all =
      one-more place (filled_places zero_place places) (has-slot by place on.0 all.0) (have-slots by zero_place at places on.1 all.1)

  filled-on : (zero_place : DiskSector) → machine.geometry_of zero_place.disk ≡ geometry → (places : List (Option DiskSector))
      → AllByRecursion (λ place. IfSome place (λ place. machine.geometry_of place.disk ≡ geometry)) places
      → AllByRecursion (λ place. machine.geometry_of place.disk ≡ geometry) (filled_places zero_place places)
  filled-on zero_place at [] on = tt
  filled-on zero_place at (None ∷ places) on = (at, filled-on zero_place at places on.1)
  filled-on zero_place at (Some place ∷ places) on = (on.0, filled-on zero_place at places on.1)

  -- slots that are made, joined or not
  record Made (places : List DiskSector) : Type 0 where
    slots : List Slot
    made : slots_made config.mode geometry config.compact places ≡ Ok slots

  made-by : (places : List DiskSector) (compact : Bool) → config.compact ≡ compact → HaveSlots places → Made places
  made-by places false is have = record { slots = have.slots; made = ap (λ compact. slots_made config.mode geometry compact places) is ∙ have.made }
  made-by places true is have = record {
    slots = compact_slots (one_geometry geometry) have.slots;
    made = ap (λ compact. slots_made config.mode geometry compact places) is ∙ (rw have.made refl);
  }

-- ---- the section sectors of a file

module _ (machine : Machine) (plan : MapPlan) (zero_place : DiskSector) (file : MappedFile) (named : IsNamed machine plan file) (own : IsOwnPlace machine plan zero_place) where
  abbrev config : Config
  config = config_view plan.config

  abbrev geometry : Geometry
  geometry = machine.geometry_of plan.disk

  -- its slots
  pub record FileSlots : Type 0 where
    pub slots : List Slot
    pub has : HasSlots config machine geometry zero_place file slots

  pub file-slots : FileSlots
  file-slots =
      let zero-on = ap machine.geometry_of own.on in
      let on = lies-on machine plan file named in
      let have = have-slots config machine geometry named.option zero_place (has-slot config machine geometry options.Map zero_place zero-on own.check) file.places on
      (all-pass (if_there (place_check config machine named.option)) file.places (checks machine plan file named).0) in
      let made = made-by config machine geometry (filled_places zero_place file.places) config.compact refl have in
      record {
        slots = made.slots;
        has = record { on = filled-on config machine geometry zero_place zero-on file.places on; made = made.made };
      }

  -- a section sector of it
  pub file-sector : (slots : List Slot) → HasSlots config machine geometry zero_place file slots → (places : List DiskSector) (index : ℕ) (other : List ℕ) → index < chain_for config machine file
      → slice_index_or (file_sectors config machine zero_place file places) index other
      ≡ section_bytes (take 63 (drop (63 * index) slots)) (link_to (slot_to config.mode machine) (chain_for config machine file - 1 - index) (drop (index + 1) places))
  file-sector slots has places index other below =
      get_or_default (file_sectors config machine zero_place file places) index other []
      (subst (λ n. index < n) (sym (length-file config machine zero_place file places)) below)
      ∙ file_sector_law config machine geometry zero_place file slots places index has below

  -- they are made by the names that the plan gives sectors
  pub made-as : (slots : List Slot) → HasSlots config machine geometry zero_place file slots → (naming : Naming) → naming.mode ≡ plan.config.mode → naming.compact ≡ plan.config.compact
      → geometry_view naming.geometry ≡ geometry
      → slots_made (mode_view naming.mode) (geometry_view naming.geometry) naming.compact (filled_places zero_place file.places) ≡ Ok slots
  made-as slots has naming mode compact geometry-is =
      ap (λ mode. slots_made (mode_view mode) (geometry_view naming.geometry) naming.compact (filled_places zero_place file.places)) mode
      ∙ ap (λ geometry. slots_made config.mode geometry naming.compact (filled_places zero_place file.places)) geometry-is
      ∙ ap (λ compact. slots_made config.mode geometry compact (filled_places zero_place file.places)) compact
      ∙ has.made
