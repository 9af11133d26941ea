-- Sectors that a run doesn't write.
use Rattle.std.specs.Prelude.{◌≡◌, ◌≢◌, ◌⊎◌, ℕ, List, ◌++◌, All, Option, None, Some}
use Rattle.disk_trait.specs.declared.event.Event.{Event}
use Rattle.disk_trait.specs.declared.event.Event.TheVariants.{Write, Flush}
use Rattle.disk_trait.specs.Past.{Image, Past}
use Rattle.disk_trait.specs.Moments.{MayLeave, LeavesOnly}

-- another sector
abbrev pub IsOther : ℕ → ℕ → ℕ → ℕ → Type 0
IsOther disk sector d s = (d ≢ disk) ⊎ (s ≢ sector)

-- an event writes no sector but others
abbrev pub IsElsewhere : ℕ → ℕ → Event → Type 0
IsElsewhere d s (Write disk sector bytes) = IsOther disk sector d s
IsElsewhere d s Flush = Unit {0}

-- a past with further events
abbrev pub continued : List Event → Past → Past
continued newer past = record { start = past.start; events = newer ++ past.events }

-- the later past goes on from the earlier one, and no event between the two writes this sector
unfoldable pub NotWritten : Option Past → Option Past → ℕ → ℕ → Type 0
NotWritten None None d s = Unit {0}
NotWritten None (Some new) d s = ⊥
NotWritten (Some old) None d s = ⊥
NotWritten (Some old) (Some new) d s = (newer : List Event) × (new ≡ continued newer old) × All (IsElsewhere d s) newer

-- no sector of a disk but one was written
abbrev pub WritesNoOther : ℕ → ℕ → Option Past → Option Past → Type 0
WritesNoOther disk sector old new = (d s : ℕ) → IsOther disk sector d s → NotWritten old new d s

-- What each stop left in a sector, where they all left the same, a stop at any moment of a run leaves there.
pub record Untouched (old new : Option Past) (d s : ℕ) : Type 0 where
  pub stays : (bytes : List ℕ) → ((c : Image) → MayLeave old c → c d s ≡ bytes) → LeavesOnly old new (λ c. c d s ≡ bytes)
