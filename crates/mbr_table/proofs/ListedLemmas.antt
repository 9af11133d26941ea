-- Partitions that are listed one after another.
use Rattle.std.proofs.Common.{◌≡◌, ◌<◌, ◌≤◌, ◌⊎◌, inl, inr, ℕ, ◌+◌, ◌-◌, List, [], ◌∷◌, ◌++◌, length, get_or, drop, Result, Ok, Err, Bool, true, false, refl, sym, ap, ◌∙◌, arith, length-append}
use Rattle.std.specs.Prelude.{Option, None, Some, option_map, option_to_list, IfSome, map, All, ltb}
use Rattle.std.specs.List.Sorted.{IsStrictlyIncreasing}
use Rattle.std.proofs.lemmas.Bool.{ltb-false, ltb-true}
use Rattle.std.proofs.lemmas.List.{get_or_append_left, get_or-append_right, map-append, append_assoc, append-nil, at_drop_more}
use Rattle.std.proofs.lemmas.List.Elements.{All-nil, All-cons, All-append, All-map, All-weaker}
use Rattle.lilo_model.specs.Checks.{◌>>=◌}
use Rattle.lilo_model.specs.Partitions as model
use Rattle.lilo_model.specs.Partitions.{is_used, listed, listed_from}
use Rattle.mbr_table.specs.declared.partition.Partition.{Partition}
use Rattle.mbr_table.specs.declared.table.Entry.{Entry}
use Rattle.mbr_table.specs.View.{entry_view, partition_view, partitions_view}
use Rattle.mbr_table.specs.Listed.{IsOnDisk, IsNumbered, AreListed}

-- ---- what is known of them

below_or_not : (a b : ℕ) (below : Bool) → ltb a b ≡ below → (a < b) ⊎ (b ≤ a)
below_or_not a b true is = inl (ltb-true a b is)
below_or_not a b false is = inr (ltb-false a b is)

lt-or-le : (a b : ℕ) → (a < b) ⊎ (b ≤ a)
lt-or-le a b = below_or_not a b (ltb a b) refl

rising-append :
    (xs ys : List ℕ) (mid : ℕ) → IsStrictlyIncreasing xs → IsStrictlyIncreasing ys → All (λ n. n < mid) xs
    → All (λ n. mid ≤ n) ys → IsStrictlyIncreasing (xs ++ ys)
rising-append xs ys mid first second below above = λ k inside.
    let len : length (xs ++ ys) ≡ length xs + length ys = length-append xs ys in
    elim (lt-or-le (k + 1) (length xs)) [
      | inl left ↦
          let here = get_or_append_left xs ys 0 k (omega arith) in
          let next = get_or_append_left xs ys 0 (k + 1) left in
          rw (here, next) (first k left)
      | inr right ↦
          let next = get_or-append_right xs ys (length xs) (k + 1) 0 refl right in
          elim (lt-or-le k (length xs)) [
            | inl last ↦
                let here = get_or_append_left xs ys 0 k last in
                let small : get_or xs k 0 < mid = below k 0 last in
                let large : mid ≤ get_or ys (k + 1 - length xs) 0 = above (k + 1 - length xs) 0 (omega arith) in
                rw (here, next) (omega arith)
            | inr later ↦
                let here = get_or-append_right xs ys (length xs) k 0 refl later in
                let place : k + 1 - length xs ≡ k - length xs + 1 = omega arith in
                let rises : get_or ys (k - length xs) 0 < get_or ys (k - length xs + 1) 0 = second (k - length xs) (omega arith) in
                rw (here, next, place) rises
          ]
    ]

-- the numbers of some partitions
abbrev pub numbers_of : List Partition → List ℕ
numbers_of partitions = map (λ partition. partition.number) partitions

pub AreListed-append :
    (disk size low mid high : ℕ) (xs ys : List Partition) → low ≤ mid → mid ≤ high
    → AreListed disk size low mid xs → AreListed disk size mid high ys → AreListed disk size low high (xs ++ ys)
AreListed-append disk size low mid high xs ys under over first second = record {
  spans = All-append (λ (p : Partition). IsOnDisk disk size p.span) xs ys first.spans second.spans;
  numbers =
      All-append (IsNumbered low high) xs ys
      (All-weaker (IsNumbered low mid) (IsNumbered low high) (λ p is. record { least = is.least; below = omega (arith, is.below) }) xs first.numbers)
      (All-weaker (IsNumbered mid high) (IsNumbered low high) (λ p is. record { least = omega (arith, is.least); below = is.below }) ys second.numbers);
  rising =
      rw (map-append)
      (rising-append (numbers_of xs) (numbers_of ys) mid first.rising second.rising
      (All-map (λ n. n < mid) (λ (p : Partition). p.number) xs
      (All-weaker (IsNumbered low mid) (λ p. p.number < mid) (λ p is. is.below) xs first.numbers))
      (All-map (λ n. mid ≤ n) (λ (p : Partition). p.number) ys
      (All-weaker (IsNumbered mid high) (λ p. mid ≤ p.number) (λ p is. is.least) ys second.numbers)));
}

pub AreListed-one :
    (disk size number : ℕ) (partition : Partition) → IsOnDisk disk size partition.span → partition.number ≡ number
    → AreListed disk size number (number + 1) (partition ∷ [])
AreListed-one disk size number partition span same = record {
  spans = All-cons (λ (p : Partition). IsOnDisk disk size p.span) partition [] span (All-nil (λ (p : Partition). IsOnDisk disk size p.span));
  numbers = All-cons (IsNumbered number (number + 1)) partition [] (record { least = omega arith; below = omega arith }) (All-nil (IsNumbered number (number + 1)));
  rising = λ k inside. absurd (omega arith);
}

-- one more, with the next number
pub AreListed-push :
    (disk size low number : ℕ) (xs : List Partition) (partition : Partition) → low ≤ number
    → AreListed disk size low number xs → IsOnDisk disk size partition.span → partition.number ≡ number
    → AreListed disk size low (number + 1) (xs ++ (partition ∷ []))
AreListed-push disk size low number xs partition under before span same =
    AreListed-append disk size low number (number + 1) xs (partition ∷ []) under (omega arith) before
    (AreListed-one disk size number partition span same)

-- room for further numbers
pub AreListed-weaker :
    (disk size low mid high : ℕ) (xs : List Partition) → mid ≤ high → AreListed disk size low mid xs
    → AreListed disk size low high xs
AreListed-weaker disk size low mid high xs over are = record {
  spans = are.spans;
  numbers = All-weaker (IsNumbered low mid) (IsNumbered low high) (λ p is. record { least = is.least; below = omega (arith, is.below) }) xs are.numbers;
  rising = are.rising;
}

-- one more, if there is one, where the numbers follow each other
pub AreListed-add :
    (disk size len : ℕ) (xs all : List Partition) (partition : Option Partition) → len ≡ length xs
    → AreListed disk size 5 (length xs + 5) xs → IfSome partition (λ p. IsOnDisk disk size p.span)
    → IfSome partition (λ p. p.number ≡ len + 5) → all ≡ xs ++ option_to_list partition
    → AreListed disk size 5 (length all + 5) all
AreListed-add disk size len xs all None count before span same is =
    let none : all ≡ xs = is ∙ append-nil xs in rw none before
AreListed-add disk size len xs all (Some partition) count before span same is =
    let more : length all + 5 ≡ length xs + 5 + 1 =
    ap (λ ys. length ys + 5) is ∙ ap (λ n. n + 5) (length-append xs (partition ∷ [])) ∙ omega arith in
    rw (more, is)
    (AreListed-push disk size 5 (length xs + 5) xs partition (omega arith) before span (same ∙ ap (λ n. n + 5) count))

-- one more finds room
pub few-add :
    (len : ℕ) (xs all : List Partition) (partition : Option Partition) → len ≡ length xs → length xs ≤ 59
    → IfSome partition (λ p. len + 5 ≤ 63) → all ≡ xs ++ option_to_list partition → length all ≤ 59
few-add len xs all None count few room is =
    let none : all ≡ xs = is ∙ append-nil xs in rw none few
few-add len xs all (Some partition) count few room is =
    let more : length all ≡ length xs + 1 = ap length is ∙ length-append xs (partition ∷ []) in
    omega (arith, more, room)

pub partitions_view-add :
    (xs : List Partition) (partition : Option Partition)
    → partitions_view (xs ++ option_to_list partition) ≡ partitions_view xs ++ option_to_list (option_map partition_view partition)
partitions_view-add xs None = map-append partition_view xs []
partitions_view-add xs (Some partition) = map-append partition_view xs (partition ∷ [])

-- ---- what the model lists

-- a list of partitions, or a refusal
abbrev pub Listing : Type 0
Listing = Result (List model.Partition) model.TableFault

-- some partitions, and those after them
abbrev pub behind : List model.Partition → Listing → Listing
behind front rest = rest >>= λ others. Ok (front ++ others)

pub behind-behind : (xs ys : List model.Partition) (rest : Listing) → behind xs (behind ys rest) ≡ behind (xs ++ ys) rest
behind-behind xs ys (Ok others) = ap Ok (sym (append_assoc xs ys others))
behind-behind xs ys (Err fault) = refl

listed_from-used :
    (size disk number : ℕ) (entry : model.Entry) (entries : List model.Entry) (first : model.Partition)
    → is_used entry ≡ true → listed size disk 0 number entry ≡ Ok first
    → listed_from size disk number (entry ∷ entries) ≡ behind (first ∷ []) (listed_from size disk (number + 1) entries)
listed_from-used size disk number entry entries first used is = rw (used, is) refl

listed_from-refused :
    (size disk number : ℕ) (entry : model.Entry) (entries : List model.Entry) (fault : model.TableFault)
    → is_used entry ≡ true → listed size disk 0 number entry ≡ Err fault
    → listed_from size disk number (entry ∷ entries) ≡ Err fault
listed_from-refused size disk number entry entries fault used is = rw (used, is) refl

listed_from-empty :
    (size disk number : ℕ) (entry : model.Entry) (entries : List model.Entry)
    → is_used entry ≡ false
    → listed_from size disk number (entry ∷ entries) ≡ listed_from size disk (number + 1) entries
listed_from-empty size disk number entry entries empty = rw empty refl

-- the entries from a place on, as partitions from a number on
abbrev pub rest_of : ℕ → ℕ → ℕ → List Entry → ℕ → Listing
rest_of size disk number entries place = listed_from size disk number (map entry_view (drop place entries))

-- an entry is listed
pub rest_of-used :
    (size disk number : ℕ) (entries : List Entry) (place : ℕ) (default : Entry) (whole : Listing) (found : List Partition)
    (first : Partition) → place < length entries → is_used (entry_view (get_or entries place default)) ≡ true
    → listed size disk 0 number (entry_view (get_or entries place default)) ≡ Ok (partition_view first)
    → whole ≡ behind (partitions_view found) (rest_of size disk number entries place)
    → whole ≡ behind (partitions_view (found ++ (first ∷ []))) (rest_of size disk (number + 1) entries (place + 1))
rest_of-used size disk number entries place default whole found first inside used is so_far =
    let here = at_drop_more (λ es. listed_from size disk number (map entry_view es)) entries place default inside in
    let one = listed_from-used size disk number (entry_view (get_or entries place default)) (map entry_view (drop (place + 1) entries)) (partition_view first) used is in
    so_far ∙ ap (behind (partitions_view found)) (here ∙ one)
    ∙ behind-behind (partitions_view found) (partition_view first ∷ []) (rest_of size disk (number + 1) entries (place + 1))
    ∙ ap (λ front. behind front (rest_of size disk (number + 1) entries (place + 1))) (sym (map-append partition_view found (first ∷ [])))

-- an entry is refused
pub rest_of-refused :
    (size disk number : ℕ) (entries : List Entry) (place : ℕ) (default : Entry) (whole : Listing) (found : List Partition)
    (fault : model.TableFault) → place < length entries → is_used (entry_view (get_or entries place default)) ≡ true
    → listed size disk 0 number (entry_view (get_or entries place default)) ≡ Err fault
    → whole ≡ behind (partitions_view found) (rest_of size disk number entries place) → whole ≡ Err fault
rest_of-refused size disk number entries place default whole found fault inside used is so_far =
    let here = at_drop_more (λ es. listed_from size disk number (map entry_view es)) entries place default inside in
    let one = listed_from-refused size disk number (entry_view (get_or entries place default)) (map entry_view (drop (place + 1) entries)) fault used is in
    so_far ∙ ap (behind (partitions_view found)) (here ∙ one)

-- an entry is empty
pub rest_of-empty :
    (size disk number : ℕ) (entries : List Entry) (place : ℕ) (default : Entry) (whole : Listing) (found : List Partition)
    → place < length entries → is_used (entry_view (get_or entries place default)) ≡ false
    → whole ≡ behind (partitions_view found) (rest_of size disk number entries place)
    → whole ≡ behind (partitions_view found) (rest_of size disk (number + 1) entries (place + 1))
rest_of-empty size disk number entries place default whole found inside empty so_far =
    let here = at_drop_more (λ es. listed_from size disk number (map entry_view es)) entries place default inside in
    let one = listed_from-empty size disk number (entry_view (get_or entries place default)) (map entry_view (drop (place + 1) entries)) empty in
    so_far ∙ ap (behind (partitions_view found)) (here ∙ one)
