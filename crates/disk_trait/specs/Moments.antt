-- What a stop may leave, at each moment: each sector by itself holds its value at the last flush or the bytes of one
-- write since. A moment is a number of events. Where no past is known, no image is left, and nothing is said.
use Rattle.std.specs.Prelude.{◌≡◌, ◌⊎◌, ◌<◌, ◌≤◌, ℕ, List, [], ◌∷◌, length, Option, None, Some}
use Rattle.disk_trait.specs.declared.event.Event.{Event}
use Rattle.disk_trait.specs.declared.event.Event.TheVariants.{Write, Flush}
use Rattle.disk_trait.specs.Past.{Image, Past, with_sector, now_after, now_of, MayHold, Leaves}

-- the past is known
unfoldable pub IsTold : Option Past → Type 0
IsTold None = ⊥
IsTold (Some past) = Unit {0}

-- Now: each sector holds the bytes of the last write to it, or those of the start
unfoldable pub now : Option Past → Image
now None d s = []
now (Some past) d s = now_of past d s

-- what was held at the last flush, or at the start
abbrev pub begun_after : Image → List Event → Image
begun_after start [] = start
begun_after start (Write disk sector bytes ∷ older) = begun_after start older
begun_after start (Flush ∷ older) = now_after start older

-- what was held at the last flush, or at the start
unfoldable pub begun : Option Past → Image
begun None d s = []
begun (Some past) d s = begun_after past.start past.events d s

-- this moment: how many events there were
unfoldable pub moment : Option Past → ℕ
moment None = 0
moment (Some past) = length past.events

-- a stop at this moment may leave this image: each sector by itself holds its value at the last flush or the bytes
-- of one write since
unfoldable pub MayLeave : Option Past → Image → Type 0
MayLeave None image = ⊥
MayLeave (Some past) image = (d s : ℕ) → MayHold past.start past.events d s (image d s)

-- a stop at some moment from the t-th event on might have left this image
unfoldable pub LeftSince : Option Past → ℕ → Image → Type 0
LeftSince None t image = ⊥
LeftSince (Some past) t image = (k : ℕ) × (t ≤ k) × (k ≤ length past.events) × Leaves past k image

-- Quiet: a stop at this moment leaves what the disks hold now, and nothing else
abbrev pub IsQuiet : Option Past → Type 0
IsQuiet past = (c : Image) → MayLeave past c → c ≡ now past

-- an image that a stop might have left before, or that image with the bytes of one sector written
abbrev pub LeftOrWritten : Option Past → ℕ → ℕ → List ℕ → Image → Type 0
LeftOrWritten old d s bytes c = (b : Image) × MayLeave old b × ((c ≡ b) ⊎ (c ≡ with_sector b d s bytes))

-- a stop leaves only images that it might have left before, and those with the bytes of one sector written
abbrev pub MayWrite : ℕ → ℕ → List ℕ → Option Past → Option Past → Type 0
MayWrite d s bytes old new = (c : Image) → MayLeave new c → LeftOrWritten old d s bytes c

-- A stop at any moment from old to new leaves an image that has P.
pub record LeavesOnly (old new : Option Past) (P : Image → Type 0) : Type 0 where
  pub later : moment old ≤ moment new
  pub each : (c : Image) → LeftSince new (moment old) c → P c
  -- for a run that began earlier: it leaves nothing more than what was left before and what has P
  pub before : (t : ℕ) (c : Image) → t ≤ moment old → LeftSince new t c → LeftSince old t c ⊎ P c

-- an image has 512 bytes in each sector that is there
abbrev pub IsWholeImage : (ℕ → ℕ) → Image → Type 0
IsWholeImage size_of image = (d s : ℕ) → s < size_of d → length (image d s) ≡ 512

-- each image that a stop may leave has 512 bytes in each sector that is there
abbrev pub IsWhole : (ℕ → ℕ) → Option Past → Type 0
IsWhole size_of past = (c : Image) → MayLeave past c → IsWholeImage size_of c

-- Each image that a stop leaves, at any moment from old to new and after it, has 512 bytes in each sector that is there.
pub record StaysWhole (size_of : ℕ → ℕ) (old new : Option Past) : Type 0 where
  pub after : IsWhole size_of new
  pub any_moment : LeavesOnly old new (IsWholeImage size_of)
