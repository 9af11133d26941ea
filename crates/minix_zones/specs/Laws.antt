-- The stops of a walk are the pointers of an inode, each once, an indirect zone before what it names.
use Rattle.std.specs.Prelude.{◌≡◌, ◌⊎◌, ◌↔◌, ◌<◌, ℕ, true, if◌then◌else◌, ◌∷◌, Contains, AllPairs}
use Rattle.lilo_model.specs.MinixLayout.{Kind, is_v1, numbers_in_zone, reach}
use Rattle.lilo_model.specs.MinixParts.{Pointer, IsPointer}
use Rattle.lilo_model.specs.MinixWalk.{Stop, begins, stops_from, stop_pointer}

-- the numbers in an inode of a kind: version 1 has nine
abbrev pub numbers_of : Kind → ℕ
numbers_of kind = if is_v1 kind then 9 else 10

-- a stop of a walk over an inode of a kind
pub record IsStop (kind : Kind) (stop : Stop) : Type 0 where
  pub reached : stop.index < reach kind
  pub begun : begins (numbers_in_zone kind) stop.index stop.level ≡ true

-- one stop comes before another: its block is an earlier one, or it is higher
abbrev pub Before : Stop → Stop → Type 0
Before one other = (one.index < other.index) ⊎ ((one.index ≡ other.index) × (other.level < one.level))

-- a walk comes to each stop, and to nothing else
abbrev pub ContainsLaw : Type 0
ContainsLaw = (kind : Kind) (stop : Stop) → Contains (stops_from (numbers_in_zone kind) 0 (reach kind)) stop ↔ IsStop kind stop

-- in order, and so to each once
abbrev pub OrderLaw : Type 0
OrderLaw = (kind : Kind) → AllPairs Before (stops_from (numbers_in_zone kind) 0 (reach kind))

-- each stop has a pointer
abbrev pub PointerLaw : Type 0
PointerLaw = (kind : Kind) (stop : Stop) → IsStop kind stop → IsPointer kind (stop_pointer (numbers_in_zone kind) stop)

-- no two have one
abbrev pub SameStopLaw : Type 0
SameStopLaw =
    (kind : Kind) (stop other : Stop) → IsStop kind stop → IsStop kind other
    → stop_pointer (numbers_in_zone kind) stop ≡ stop_pointer (numbers_in_zone kind) other → stop ≡ other

-- each pointer is that of a stop
abbrev pub EveryPointerLaw : Type 0
EveryPointerLaw =
    (kind : Kind) (pointer : Pointer) → IsPointer kind pointer → pointer.top < numbers_of kind
    → (stop : Stop) × IsStop kind stop × (stop_pointer (numbers_in_zone kind) stop ≡ pointer)

-- an indirect zone comes before what it names
abbrev pub ParentLaw : Type 0
ParentLaw =
    (kind : Kind) (stop other : Stop) (index : ℕ) → IsStop kind stop → IsStop kind other
    → stop_pointer (numbers_in_zone kind) other
    ≡ record { top = (stop_pointer (numbers_in_zone kind) stop).top; trail = index ∷ (stop_pointer (numbers_in_zone kind) stop).trail }
    → Before stop other
