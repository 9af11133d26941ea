-- How many slots a file takes, reckoned sector by sector before the zero sector has its place.
use Rattle.std.specs.Prelude.{◌≡◌, ℕ, ◌+◌, nat_le, Bool, ◌&&◌, if◌then◌else◌, List, [], ◌∷◌, Option, Some, None, IfSome, Result, Ok}
use Rattle.std.specs.Option.{option_map}
use Rattle.std.specs.List.{AllByRecursion}
use Rattle.lilo_model.specs.Checks.{◌>>=◌, require, with_fault}
use Rattle.lilo_model.specs.Disks.{DiskSector, Geometry, Machine}
use Rattle.lilo_model.specs.Slots.{Slot, Mode, AddressFault, slot_make, could_be_one}
use Rattle.lilo_model.specs.ConfOptions.{Opt}
use Rattle.lilo_model.specs.Conf.{Config}
use Rattle.lilo_model.specs.Plan.{MappedFile, slots_for}
use Rattle.lilo_model.specs.PlanRefusal.{Address, TooManySlots, slots_limit, mapped_file_check}
use Rattle.sector_address.specs.View.{mode_view, geometry_view, slot_view}
use Rattle.slot_lists.specs.Cursor.{with_slot}
use Rattle.run_sections.specs.declared.section.Naming.{Naming}
use Rattle.run_sections.specs.declared.count.Counted.{Counted}

-- the slot of one that is held and the next, where one slot could name both and slots are to be joined
abbrev pub joined_slot : Geometry → Bool → Option Slot → Slot → Option Slot
joined_slot geometry compact None next = None
joined_slot geometry compact (Some held) next =
    if compact && could_be_one geometry held next then Some (record held { count = held.count + next.count }) else None

-- how many slots are begun after one that is held, or the first refusal; a hole takes one and adjoins nothing
abbrev pub counted_after : Mode → Geometry → Bool → Option Slot → List (Option DiskSector) → Result ℕ AddressFault
counted_after mode geometry compact held [] = Ok 0
counted_after mode geometry compact held (None ∷ others) =
    counted_after mode geometry compact None others >>= λ count. Ok (1 + count)
counted_after mode geometry compact held (Some place ∷ others) =
    slot_make mode geometry place.disk place.sector 1 >>= λ next.
    with_slot
    (joined_slot geometry compact held next)
    (counted_after mode geometry compact (Some next) others >>= λ count. Ok (1 + count))
    (λ both. counted_after mode geometry compact (Some both) others)

-- how many slots sectors take, or the first refusal
abbrev pub slots_counted : Mode → Geometry → Bool → List (Option DiskSector) → Result ℕ AddressFault
slots_counted mode geometry compact places = counted_after mode geometry compact None places

-- where the sectors of a file lie on disks of one geometry
abbrev pub LiesOn : Machine → Geometry → MappedFile → Type 0
LiesOn machine geometry file =
    AllByRecursion (λ place. IfSome place (λ place. machine.geometry_of place.disk ≡ geometry)) file.places

-- it is what is asked of the addresses of a file that is planned
abbrev pub CountLaw : Type 0
CountLaw =
    (config : Config) (machine : Machine) (geometry : Geometry) (option : Opt) (file : MappedFile) → LiesOn machine geometry file
    → mapped_file_check config machine option file
    ≡ (with_fault (Address option) (slots_counted config.mode geometry config.compact file.places)
    >>= λ count. require (nat_le count slots_limit) (TooManySlots option count))

-- and so many slots are planned
abbrev pub CountedLaw : Type 0
CountedLaw =
    (config : Config) (machine : Machine) (geometry : Geometry) (file : MappedFile) (count : ℕ) → LiesOn machine geometry file
    → slots_counted config.mode geometry config.compact file.places ≡ Ok count → slots_for config machine file ≡ count

-- ---- on the way

-- the slots of what was counted and of what is left
abbrev pub count_left : Naming → Counted → List (Option DiskSector) → Result ℕ AddressFault
count_left naming counted places =
    counted_after (mode_view naming.mode) (geometry_view naming.geometry) naming.compact (option_map slot_view counted.held) places
    >>= λ count. Ok (counted.count + count)
