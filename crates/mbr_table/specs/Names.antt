-- The number after a disk's name, read digit by digit.
use Rattle.std.specs.Prelude.{ℕ, ◌+◌, ◌-◌, ◌*◌, ◌&&◌, if◌then◌else◌, List, [], ◌∷◌, Option, Some, None}
use Rattle.lilo_model.specs.Bytes.{is_between}

-- the number that one digit is, 1 to 9
unfoldable pub one_digit : ℕ → Option ℕ
one_digit unit = if is_between 49 57 unit then Some (unit - 48) else None

-- the number that two digits are, 10 to 99
unfoldable pub two_digits : ℕ → ℕ → Option ℕ
two_digits ten unit =
    if is_between 49 57 ten && is_between 48 57 unit then Some ((ten - 48) * 10 + (unit - 48)) else None

-- the partition whose number comes after the disk's name, where it has at most two digits
unfoldable pub partition_at : List ℕ → Option ℕ
partition_at [] = Some 0
partition_at (unit ∷ []) = one_digit unit
partition_at (ten ∷ (unit ∷ [])) = two_digits ten unit
partition_at _ = None
