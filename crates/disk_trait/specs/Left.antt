-- The image that a stop leaves, where it is said of each write since the last flush whether it was made.
use Rattle.std.specs.Prelude.{◌≡◌, ◌+◌, ℕ, Bool, false, List, [], ◌∷◌, length, slice_index_or, if◌then◌else◌}
use Rattle.disk_trait.specs.declared.event.Event.{Event}
use Rattle.disk_trait.specs.declared.event.Event.TheVariants.{Write, Flush}
use Rattle.disk_trait.specs.Past.{Image, Past, with_sector, now_after, first_events}
use Rattle.disk_trait.specs.MemDisks.{StartDisk, sizes_of, geometries_of}

-- how many events come after the last flush, or in all where there is none
abbrev pub unflushed_count : List Event → ℕ
unflushed_count [] = 0
unflushed_count (Write disk sector bytes ∷ older) = unflushed_count older + 1
unflushed_count (Flush ∷ older) = 0

-- an image with one write made, or not
abbrev pub made_if : Bool → ℕ → ℕ → List ℕ → Image → Image
made_if kept disk sector bytes image = if kept then with_sector image disk sector bytes else image

-- Now at the last flush, and then the i-th write after it made exactly where keep says so at i: writes are counted
-- from 0, in the order in which they were made
abbrev pub left_after : Image → List Event → List Bool → Image
left_after start [] keep = start
left_after start (Write disk sector bytes ∷ older) keep =
    made_if (slice_index_or keep (unflushed_count older) false) disk sector bytes (left_after start older keep)
left_after start (Flush ∷ older) keep = now_after start older

-- the image that a stop after the first k events leaves, where keep says which of the writes after their last flush
-- were made
abbrev pub left_image : Past → ℕ → List Bool → Image
left_image past k keep = left_after past.start (first_events k past.events) keep

-- Disks have other bytes, and are as many, as long and divided as before.
pub record SameShape (old new : List StartDisk) : Type 0 where
  pub size : sizes_of new ≡ sizes_of old
  pub count : length new ≡ length old
  pub geometry : geometries_of new ≡ geometries_of old
