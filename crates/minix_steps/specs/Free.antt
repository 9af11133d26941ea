-- Free zones and inodes: those that aren't marked and aren't avoided.
use Rattle.std.specs.Prelude.{◌≡◌, ◌≤◌, ◌<◌, ℕ, ◌-◌, Bool, true, false, not, ◌&&◌, nat_le, List, filter, find, length, take, Option, None, Some, Result, Ok}
use Rattle.std.specs.Prelude.{Err}
use Rattle.std.specs.List.{range_with_len}
use Rattle.lilo_model.specs.Disks.{Image}
use Rattle.lilo_model.specs.MinixLayout.{Super}
use Rattle.lilo_model.specs.MinixParts.{Parts, Volume, bit}
use Rattle.minix_steps.specs.declared.bitmap.Bitmap.{Bitmap}
use Rattle.minix_steps.specs.Bitmap.{marked}
use Rattle.minix_steps.specs.Numbers.{has_number}

-- the numbers of a range that pass a test
abbrev pub free_from : (ℕ → Bool) → ℕ → ℕ → List ℕ
free_from is_free at count = filter is_free (range_with_len at count)

-- the number isn't marked and isn't avoided
abbrev pub is_free : (ℕ → Bool) → List ℕ → ℕ → Bool
is_free is_marked avoid n = not (is_marked n) && not (has_number avoid n)

-- ---- of a volume

-- the free data zones, in rising order
unfoldable pub free_zones : Super → Parts → List ℕ → List ℕ
free_zones super parts avoid = free_from (is_free parts.has_zone avoid) super.first (super.zones - super.first)

-- too few zones are free
pub record Shortage : Type 0 where
  pub need : ℕ
  pub found : ℕ

-- the first of some numbers, where there are enough
abbrev pub enough : Bool → ℕ → List ℕ → Result (List ℕ) Shortage
enough true need free = Ok (take need free)
enough false need free = Err (record { need = need; found = length free })

-- the lowest free data zones, so many
unfoldable pub lowest_zones : Super → Parts → List ℕ → ℕ → Result (List ℕ) Shortage
lowest_zones super parts avoid need =
    enough (nat_le need (length (free_zones super parts avoid))) need (free_zones super parts avoid)

-- the lowest free inode
unfoldable pub lowest_inode : Super → Parts → List ℕ → Option ℕ
lowest_inode super parts avoid = find (is_free parts.has_inode avoid) (range_with_len 1 super.inodes)

-- ---- of a bitmap, and of one sector of it

-- whether a number of a bitmap is free
unfoldable pub is_free_on : Volume → Image → Bitmap → List ℕ → ℕ → Bool
is_free_on volume image bitmap avoid n = is_free (marked volume image bitmap) avoid n

-- whether a number is free by the bytes of a sector, whose first bit is that of base
unfoldable pub is_free_in : List ℕ → ℕ → List ℕ → ℕ → Bool
is_free_in bytes base avoid n = not (bit bytes (n - base)) && not (has_number avoid n)

-- the least number of a range that passes a test
pub record IsLeast (test : ℕ → Bool) (from end n : ℕ) : Type 0 where
  pub from_on : from ≤ n
  pub below : n < end
  pub passes : test n ≡ true
  pub none_before : (m : ℕ) → from ≤ m → m < n → test m ≡ false

-- that number, or None where there is none
abbrev pub IsLowest : (ℕ → Bool) → ℕ → ℕ → Option ℕ → Type 0
IsLowest test from end None = (m : ℕ) → from ≤ m → m < end → test m ≡ false
IsLowest test from end (Some n) = IsLeast test from end n
