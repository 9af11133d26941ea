-- Which writes are made in the images of a stop that are looked at (a rule of this project's own).
use Rattle.std.specs.Prelude.{◌+◌, ◌/◌, ◌%◌, ◌^◌, ◌==◌, ℕ, Bool, true, false, not, nat_le, if◌then◌else◌, List, map}
use Rattle.std.specs.List.{range_with_len}

-- so many images are looked at where so many writes aren't flushed
abbrev pub choices : ℕ → ℕ
choices count = if nat_le count 5 then 2 ^ count else 6

-- of many writes: none is made, all are, every second one, the others, the last one, or all but the last
abbrev pub is_kept_of_many : ℕ → ℕ → ℕ → Bool
is_kept_of_many choice count at =
    if choice == 0 then false else
    if choice == 1 then true else
    if choice == 2 then at % 2 == 0 else
    if choice == 3 then at % 2 == 1 else
    if choice == 4 then at + 1 == count else
    not (at + 1 == count)

-- of few writes each is made or not by a bit of the choice
abbrev pub is_kept : ℕ → ℕ → ℕ → Bool
is_kept choice count at = if nat_le count 5 then choice / 2 ^ at % 2 == 1 else is_kept_of_many choice count at

-- whether each of so many is made
abbrev pub kept : ℕ → ℕ → List Bool
kept choice count = map (is_kept choice count) (range_with_len 0 count)
