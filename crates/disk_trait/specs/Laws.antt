-- What the definitions of moments say, as laws.
use Rattle.std.specs.Prelude.{◌≡◌, ◌⊎◌, ◌↔◌, ◌≤◌, ◌<◌, ⊤, ℕ, ◌+◌, ◌-◌, Bool, List, ◌++◌, length, take, slice_get, All, Option, None, Some}
use Rattle.disk_trait.specs.declared.event.Event.{Event}
use Rattle.disk_trait.specs.declared.event.Event.TheVariants.{Write, Flush}
use Rattle.disk_trait.specs.Past.{Image, Past, now_after, IsQuietAfter, MayHold, first_events, Leaves, appended}
use Rattle.disk_trait.specs.MemDisks.{WritesWholeSector}
use Rattle.disk_trait.specs.NotWritten.{IsOther, IsElsewhere, continued, NotWritten, Untouched}
use Rattle.disk_trait.specs.Range.{IsOutside}
use Rattle.disk_trait.specs.Left.{unflushed_count, left_image}
use Rattle.disk_trait.specs.Moments.{IsTold, now, begun_after, begun, moment, MayLeave, LeftSince, IsQuiet, LeavesOnly, IsWholeImage, IsWhole}

-- MayHold in other words: the bytes are those of the last flush, or those of one write to the sector with no flush
-- after it (the newest event is the one at 0)
abbrev pub HeldOrWritten : Image → List Event → ℕ → ℕ → List ℕ → Type 0
HeldOrWritten start events d s bytes = (bytes ≡ begun_after start events d s)
    ⊎ ((at : ℕ) × (slice_get events at ≡ Some (Write d s bytes)) × ((i : ℕ) → i < at → slice_get events i ≡ Some Flush → ⊥))

abbrev pub MayHoldLaw : Type 0
MayHoldLaw = (start : Image) (events : List Event) (d s : ℕ) (bytes : List ℕ) → MayHold start events d s bytes ↔ HeldOrWritten start events d s bytes

-- what a stop may leave is what it may leave after all events, and what it may leave since this moment
abbrev pub LastMomentLaw : Type 0
LastMomentLaw = (past : Past) (c : Image)
    → (MayLeave (Some past) c ↔ Leaves past (length past.events) c)
    × (LeftSince (Some past) (moment (Some past)) c ↔ MayLeave (Some past) c)

-- what the disks hold now, and what they held at the last flush, are two of the images that a stop may leave
abbrev pub NowAndBegunLaw : Type 0
NowAndBegunLaw = (past : Option Past) → IsTold past → MayLeave past (now past) × MayLeave past (begun past)

-- a past with no write after its last flush is quiet
abbrev pub QuietLaw : Type 0
QuietLaw = (past : Past) → IsQuietAfter past.events → IsQuiet (Some past)

-- a past begun anew at Now of its first n events, with only the events after them
abbrev pub begun_anew : ℕ → Past → Past
begun_anew n past = record { start = now_after past.start (first_events n past.events); events = take (length past.events - n) past.events }

-- Joining: where the first n events leave a quiet past, a stop at k from n on leaves what it leaves at k - n in the past
-- that is begun anew there.
abbrev pub JoiningLaw : Type 0
JoiningLaw = (past : Past) (n k : ℕ) (c : Image) → IsQuietAfter (first_events n past.events) → n ≤ k
    → (Leaves past k c ↔ Leaves (begun_anew n past) (k - n) c)

-- LeavesOnly in other words: at every k from the number of events before to that after, every image with Leaves at k
-- has P
abbrev pub LeavesOnlyLaw : (Image → Type 0) → Type 0
LeavesOnlyLaw P = (past : Past) (newer : List Event) → (LeavesOnly (Some past) (Some (continued newer past)) P)
    ↔ ((k : ℕ) (c : Image) → length past.events ≤ k → k ≤ length (newer ++ past.events) → Leaves (continued newer past) k c → P c)

-- two runs in a row are one
abbrev pub RunsJoinLaw : (Image → Type 0) → Type 0
RunsJoinLaw P = (old mid new : Option Past) → LeavesOnly old mid P → LeavesOnly mid new P → LeavesOnly old new P

-- a run that leaves only what has P leaves only what has Q, if P means Q
abbrev pub WeakerLaw : (Image → Type 0) → (Image → Type 0) → Type 0
WeakerLaw P Q = ((c : Image) → P c → Q c) → (old new : Option Past) → LeavesOnly old new P → LeavesOnly old new Q

-- what a stop may leave after a run that leaves only what has P has P
abbrev pub EndOfRunLaw : (Image → Type 0) → Type 0
EndOfRunLaw P = (old new : Option Past) → LeavesOnly old new P → (c : Image) → MayLeave new c → P c

-- where the start and all that was written is whole, so is each image that a stop may leave
abbrev pub WholeLaw : Type 0
WholeLaw = (past : Past) (size_of : ℕ → ℕ) → IsWholeImage size_of past.start → All WritesWholeSector past.events → IsWhole size_of (Some past)

-- a past that isn't known leaves no image, and so none that isn't whole
abbrev pub UntoldLaw : Type 0
UntoldLaw = (size_of : ℕ → ℕ) → IsWhole size_of None

-- The images that a stop after the first k events may leave are those that some keep makes, with one entry for each
-- write after their last flush: each keep makes one of them, and each of them has a keep that makes it. Images are
-- the same where they hold the same bytes at every disk and sector.
abbrev pub LeftImagesLaw : Type 0
LeftImagesLaw = (past : Past) (k : ℕ) (c : Image)
    → Leaves past k c ↔ ((keep : List Bool) × (length keep ≡ unflushed_count (first_events k past.events)) × (c ≡ left_image past k keep))

-- NotWritten in other words: each event between the two pasts is a flush, or a write to another sector
abbrev pub NotWrittenLaw : Type 0
NotWrittenLaw = (past : Past) (newer : List Event) (d s : ℕ) → NotWritten (Some past) (Some (continued newer past)) d s ↔ All (IsElsewhere d s) newer

-- of a write, of a flush, and of no event
abbrev pub NotWrittenByOneLaw : Type 0
NotWrittenByOneLaw = (past : Option Past) (disk sector : ℕ) (bytes : List ℕ) (d s : ℕ)
    → (IsOther disk sector d s → NotWritten past (appended (Write disk sector bytes) past) d s)
    × NotWritten past (appended Flush past) d s × NotWritten past past d s

-- an event writes no sector but some neighbouring ones
abbrev pub IsWithin : ℕ → ℕ → ℕ → Event → Type 0
IsWithin disk start count (Write d s bytes) = (d ≡ disk) × (start ≤ s) × (s < start + count)
IsWithin disk start count Flush = ⊤

-- of writes to neighbouring sectors
abbrev pub NotWrittenByRangeLaw : Type 0
NotWrittenByRangeLaw = (past : Past) (newer : List Event) (disk start count d s : ℕ) → All (IsWithin disk start count) newer
    → IsOutside disk start count d s → NotWritten (Some past) (Some (continued newer past)) d s

-- two runs in a row that don't write a sector are one
abbrev pub NotWrittenJoinsLaw : Type 0
NotWrittenJoinsLaw = (old mid new : Option Past) (d s : ℕ) → NotWritten old mid d s → NotWritten mid new d s → NotWritten old new d s

-- a sector that isn't written is as before, and what every stop left there stays at each moment
abbrev pub NotWrittenStaysLaw : Type 0
NotWrittenStaysLaw = (old new : Option Past) (d s : ℕ) → NotWritten old new d s → (now new d s ≡ now old d s) × Untouched old new d s
