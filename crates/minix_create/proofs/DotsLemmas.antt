-- A new directory with its `.` and `..`.
use Rattle.std.proofs.Common.{◌≡◌, ◌≢◌, ◌≤◌, ◌<◌, ◌+◌, ◌-◌, ◌*◌, ◌/◌, ◌%◌, ◌^◌, ℕ, zero, suc, true, List, length, replicate, ◌++◌, All, refl, sym, ap, ◌∙◌, arith}
use Rattle.std.proofs.Math.Path.{subst₂}
use Rattle.lilo_model.specs.Bytes.{part_of, with_part, bytes16, filled_bytes}
use Rattle.lilo_model.specs.MinixEntries.{entry_of, entry_in, entries_per_block, places, here_name, above_name}
use Rattle.lilo_model.specs.MinixLayout.{Kind, V1Short, V1Long, V2Short, V2Long, Super, entry_size, name_size, reach}
use Rattle.lilo_model.specs.MinixNames.{block, entry, depth_limit}
use Rattle.lilo_model.specs.MinixParts.{Parts, is_directory}
use Rattle.minix_change_laws.specs.Written.{FitsEntry, entry_bytes}
use Rattle.minix_change_laws.proofs.EntryBytes.{entry_bytes_law}
use Rattle.minix_change_laws.specs.Comes.{HasOnlyDots}
use Rattle.minix_change_laws.specs.Enter.{DirectoryMayStand}
use Rattle.minix_change_laws.proofs.Dots.{new_directory_law}
use Rattle.minix_fill.specs.Fill.{IsNewFit}
use Rattle.minix_create.specs.Chosen.{HasDots}
use Rattle.minix_create.specs.Dots.{dots_of, directory_bytes}

-- the first two entries lie in the first block
first-at : (kind : Kind) → (0 / entries_per_block kind ≡ 0) × (0 % entries_per_block kind ≡ 0)
first-at V1Short = (refl, refl)
first-at V1Long = (refl, refl)
first-at V2Short = (refl, refl)
first-at V2Long = (refl, refl)

second-at : (kind : Kind) → (1 / entries_per_block kind ≡ 0) × (1 % entries_per_block kind ≡ 1)
second-at V1Short = (refl, refl)
second-at V1Long = (refl, refl)
second-at V2Short = (refl, refl)
second-at V2Long = (refl, refl)

entry-in : (super : Super) (parts : Parts) (number place index : ℕ) (bytes : List ℕ) → block super parts number 0 ≡ bytes
    → (place / entries_per_block super.kind ≡ 0) × (place % entries_per_block super.kind ≡ index)
    → entry super parts number place ≡ entry_in super.kind bytes index
unfolding entry
entry-in super parts number place index bytes is at =
    ap (λ i. entry_in super.kind (block super parts number i) (place % entries_per_block super.kind)) at.0
    ∙ (ap (λ b. entry_in super.kind b (place % entries_per_block super.kind)) is
    ∙ ap (entry_in super.kind bytes) at.1)

-- it has two places
two-places : (kind : Kind) → places kind (2 * entry_size kind) ≡ 2
two-places V1Short = refl
two-places V1Long = refl
two-places V2Short = refl
two-places V2Long = refl

pub near_first : (kind : Kind) → 0 < reach kind
near_first V1Short = omega arith
near_first V1Long = omega arith
near_first V2Short = omega arith
near_first V2Long = omega arith

module _ (super : Super) (parts : Parts) (directory number : ℕ) (bytes : List ℕ) (size : (parts.node number).size ≡ 2 * entry_size super.kind) (is : block super parts number 0 ≡ bytes)
    (dots : HasDots super.kind bytes number directory) where
  two : places super.kind (parts.node number).size ≡ 2
  two = ap (places super.kind) size ∙ two-places super.kind

  only-dots : HasOnlyDots super parts directory number
  only-dots = record {
    two = omega (arith, two);
    first = entry-in super parts number 0 0 bytes is (first-at super.kind) ∙ dots.here;
    second = entry-in super parts number 1 1 bytes is (second-at super.kind) ∙ dots.above;
    rest = λ place past below. absurd (omega (arith, two, past, below));
  }

  -- it may get its name
  pub directory_stands : (outer : List (List ℕ)) → is_directory (parts.node number) ≡ true → IsNewFit super parts number → length outer < depth_limit → DirectoryMayStand super parts outer directory number
  directory_stands outer dir new near = record {
    is = dir;
    fit = new.fit;
    some_link = new.some_link;
    fresh = new_directory_law super parts outer directory number only-dots new.unnamed near;
  }

-- ---- the block

-- its entries, as they are put
pub dots_put : (kind : Kind) (number directory size : ℕ) (one two three four : List ℕ) → size ≡ entry_size kind
    → one ≡ with_part (replicate 512 0) 0 (bytes16 number) → two ≡ with_part one 2 (filled_bytes (size - 2) here_name)
    → three ≡ with_part two size (bytes16 directory) → four ≡ with_part three (size + 2) (filled_bytes (size - 2) above_name)
    → four ≡ dots_of kind number directory
dots_put kind number directory size one two three four is first second third fourth =
    let P : ℕ → ℕ → Type 0 = λ n len. with_part (with_part (with_part (with_part (replicate 512 0) 0 (bytes16 number)) 2 (filled_bytes len here_name)) n (bytes16 directory)) (n + 2) (filled_bytes len above_name)
    ≡ dots_of kind number directory in
    let len : size - 2 ≡ name_size kind = omega (arith, is) in
    fourth
    ∙ ap (λ bytes. with_part bytes (size + 2) (filled_bytes (size - 2) above_name))
    (third ∙ ap (λ bytes. with_part bytes size (bytes16 directory)) (second ∙ ap (λ bytes. with_part bytes 2 (filled_bytes (size - 2) here_name)) first))
    ∙ subst₂ P (sym is) (sym len) refl

first-part : (kind : Kind) (number directory : ℕ) (rest : List ℕ) → part_of (dots_of kind number directory ++ rest) (entry_size kind * 0) (entry_size kind) ≡ entry_bytes kind number here_name
first-part V1Short number directory rest = refl
first-part V1Long number directory rest = refl
first-part V2Short number directory rest = refl
first-part V2Long number directory rest = refl

second-part : (kind : Kind) (number directory : ℕ) (rest : List ℕ) → part_of (dots_of kind number directory ++ rest) (entry_size kind * 1) (entry_size kind) ≡ entry_bytes kind directory above_name
second-part V1Short number directory rest = refl
second-part V1Long number directory rest = refl
second-part V2Short number directory rest = refl
second-part V2Long number directory rest = refl

fits-here : (kind : Kind) → FitsEntry kind here_name
fits-here kind = record { short = short kind; no_zero = no_zero }
  where
    short : (kind : Kind) → length here_name ≤ name_size kind
    short V1Short = omega arith
    short V1Long = omega arith
    short V2Short = omega arith
    short V2Long = omega arith

    no_zero : All (λ byte. byte ≢ 0) here_name
    no_zero zero d below = λ e. absurd (omega (arith, e))
    no_zero (suc k) d below = absurd (omega (arith, below))

fits-above : (kind : Kind) → FitsEntry kind above_name
fits-above kind = record { short = short kind; no_zero = no_zero }
  where
    short : (kind : Kind) → length above_name ≤ name_size kind
    short V1Short = omega arith
    short V1Long = omega arith
    short V2Short = omega arith
    short V2Long = omega arith

    no_zero : All (λ byte. byte ≢ 0) above_name
    no_zero zero d below = λ e. absurd (omega (arith, e))
    no_zero (suc zero) d below = λ e. absurd (omega (arith, e))
    no_zero (suc (suc k)) d below = absurd (omega (arith, below))

pub dots_made : (kind : Kind) (number directory : ℕ) (bytes rest : List ℕ) → bytes ≡ dots_of kind number directory → number < 2 ^ 16 → directory < 2 ^ 16 → HasDots kind (bytes ++ rest) number directory
dots_made kind number directory bytes rest is low low' = rw is (record {
  here = ap (entry_of kind) (first-part kind number directory rest) ∙ (entry_bytes_law kind number here_name low (fits-here kind)).1;
  above = ap (entry_of kind) (second-part kind number directory rest) ∙ (entry_bytes_law kind directory above_name low' (fits-above kind)).1;
})

-- and all after them are zeros
pub all_bytes : (kind : Kind) (number directory : ℕ) (bytes : List ℕ) → bytes ≡ dots_of kind number directory → bytes ++ replicate 512 0 ≡ directory_bytes kind number directory
all_bytes V1Short number directory bytes is = rw is refl
all_bytes V1Long number directory bytes is = rw is refl
all_bytes V2Short number directory bytes is = rw is refl
all_bytes V2Long number directory bytes is = rw is refl
