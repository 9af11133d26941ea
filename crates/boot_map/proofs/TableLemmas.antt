-- What is known of the entries of a table.
use Rattle.std.proofs.Common.{◌≡◌, ℕ, List, true, false, arith}
use Rattle.std.specs.Prelude.{◌||◌}
use Rattle.lilo_model.specs.Bytes.{part_of, is_zero}
use Rattle.lilo_model.specs.Slots.{is_one_slot}
use Rattle.lilo_model.specs.Table.{entry_bytes, is_entry, has_extra, breaks}

has_extra-slot :
    (bytes : List ℕ) → has_extra bytes ≡ true
    → (is_zero (part_of bytes 56 8) || is_one_slot (part_of bytes 56 8)) ≡ true
unfolding has_extra
has_extra-slot bytes good = grind arith

-- the slot of the extra sector is zeros or one sector
pub entry_extra :
    (bytes : List ℕ) → is_entry bytes ≡ true
    → (is_zero (part_of bytes 56 8) || is_one_slot (part_of bytes 56 8)) ≡ true
unfolding is_entry
entry_extra bytes good = let extra : has_extra bytes ≡ true = grind arith in has_extra-slot bytes extra

-- what doesn't break the format is an entry
pub breaks_entry :
    (sectors : List (List ℕ)) (entry : ℕ) → breaks sectors entry ≡ false
    → is_entry (entry_bytes sectors entry) ≡ true
unfolding breaks
breaks_entry sectors entry whole = grind arith
