-- What disks hold, and what a stop may leave on them (this project's own model of a disk: each sector is
-- written whole or not at all, and a flush that answered is honest).
use Rattle.std.specs.Prelude.{◌≡◌, ◌⊎◌, ◌&&◌, ◌==◌, ℕ, ◌-◌, List, [], ◌∷◌, length, drop, Option, None, Some, if◌then◌else◌}
use Rattle.disk_trait.specs.declared.event.Event.{Event}
use Rattle.disk_trait.specs.declared.event.Event.TheVariants.{Write, Flush}

-- the bytes in each sector of each disk
abbrev pub Image : Type 0
Image = ℕ → ℕ → List ℕ

-- what disks held at first, and all that was done since, the newest first
pub record Past : Type 0 where
  pub start : Image
  pub events : List Event

-- an image with other bytes in one sector
abbrev pub with_sector : Image → ℕ → ℕ → List ℕ → Image
with_sector image disk sector bytes d s = if disk == d && sector == s then bytes else image d s

-- Now: each sector holds the bytes of the last write to it, or those of the start
abbrev pub now_after : Image → List Event → Image
now_after start [] = start
now_after start (Write disk sector bytes ∷ older) = with_sector (now_after start older) disk sector bytes
now_after start (Flush ∷ older) = now_after start older

abbrev pub now_of : Past → Image
now_of past = now_after past.start past.events

-- Quiet: no write comes after the last flush
abbrev pub IsQuietAfter : List Event → Type 0
IsQuietAfter [] = Unit {0}
IsQuietAfter (Write disk sector bytes ∷ older) = ⊥
IsQuietAfter (Flush ∷ older) = Unit {0}

-- one sector may hold these bytes after a stop: its value at the last flush, or those of one write to it since
abbrev pub MayHold : Image → List Event → ℕ → ℕ → List ℕ → Type 0
MayHold start [] d s bytes = bytes ≡ start d s
MayHold start (Write disk sector new ∷ older) d s bytes = ((disk ≡ d) × (sector ≡ s) × (bytes ≡ new)) ⊎ MayHold start older d s bytes
MayHold start (Flush ∷ older) d s bytes = bytes ≡ now_after start older d s

-- the first k of some events
abbrev pub first_events : ℕ → List Event → List Event
first_events k events = drop (length events - k) events

-- Leaves: a stop after the first k events of a past may leave this image, each sector by itself
abbrev pub Leaves : Past → ℕ → Image → Type 0
Leaves past k image = (d s : ℕ) → MayHold past.start (first_events k past.events) d s (image d s)

-- a fact about what disks hold, where they report their past
abbrev pub Told : Option Past → (Image → Type 0) → Type 0
Told None P = Unit {0}
Told (Some past) P = P (now_of past)

-- a past with one more event, where it is known
abbrev pub appended : Event → Option Past → Option Past
appended event None = None
appended event (Some past) = Some (record past { events = event ∷ past.events })

-- A call changed no disk: it made no event, and what never changes is as before.
pub record SameDisks {D G : Type 0} (past : D → Option Past) (size_of : D → ℕ → ℕ) (count_of : D → ℕ) (geometry_of : D → ℕ → G) (old new : D) : Type 0 where
  pub same_past : past new ≡ past old
  pub same_size : size_of new ≡ size_of old
  pub same_count : count_of new ≡ count_of old
  pub same_geometry : geometry_of new ≡ geometry_of old
