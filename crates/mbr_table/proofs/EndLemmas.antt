-- A chain ends, or comes back, within as many tables as there are sectors: those that were read are apart, and each
-- lies on the disk.
use Rattle.std.proofs.Common.{◌≡◌, ◌<◌, ◌≤◌, ℕ, zero, suc, ◌+◌, List, [], ◌∷◌, ◌++◌, length, Bool, true, false, refl, sym, ap, ◌∙◌, inl, inr, length-append, arith}
use Rattle.std.specs.Prelude.{Option, None, Some, Result, Ok, Err, option_to_list, nat_eq, ◌||◌}
use Rattle.std.specs.List.{list_any, AllByRecursion, IsDistinct}
use Rattle.std.proofs.lemmas.Bool.{or_cases, or_parts}
use Rattle.std.proofs.lemmas.List.Folds.{list_any-append}
use Rattle.std.proofs.lemmas.Map.Steps.{length-le_from_distinct_below}
use Rattle.lilo_model.specs.Checks.{◌>>=◌}
use Rattle.lilo_model.specs.Partitions as model
use Rattle.lilo_model.specs.Partitions.{Entry, linked_sector, chain_from, chain_tables, chain_entries, logical_of, logical_at, logical_from}
use Rattle.mbr_table.specs.Laws.{ChainEndsLaw}
use Rattle.mbr_table.proofs.ChainLemmas.{chain_from-none}
use Rattle.mbr_table.proofs.LogicalLemmas.{chain_entries-new, chain_entries-inside}

-- the sectors that were read: the first one, and those of some tables
record Seen (size : ℕ) (earlier seen : List ℕ) : Type 0 where
  distinct : IsDistinct nat_eq seen
  count : length seen ≡ length earlier + 1
  same : (sector : ℕ) → list_any (nat_eq sector) seen ≡ list_any (nat_eq sector) (0 ∷ earlier)
  below : (sector : ℕ) → list_any (nat_eq sector) seen ≡ true → sector < size

apart : (sector : ℕ) (seen : List ℕ) → list_any (nat_eq sector) seen ≡ false → AllByRecursion (λ other. nat_eq sector other ≡ false) seen
apart sector [] new = tt
apart sector (other ∷ seen) new =
    let parts = or_parts (nat_eq sector other) (list_any (nat_eq sector) seen) new in (parts.0, apart sector seen parts.1)

turned : (a b c : Bool) → (a || (b || c)) ≡ (b || (c || (a || false)))
turned true true c = refl
turned true false true = refl
turned true false false = refl
turned false true c = refl
turned false false true = refl
turned false false false = refl

same_number : (a b : ℕ) → nat_eq a b ≡ true → a ≡ b
same_number a b e = grind arith

Seen-first : (size : ℕ) → 1 ≤ size → Seen size [] (0 ∷ [])
unfolding IsDistinct
Seen-first size some = record {
  distinct = (tt, tt);
  count = refl;
  same = λ sector. refl;
  below = λ sector is.
      elim (or_cases (nat_eq sector 0) false is) [
        | inl here ↦ let zero_is = same_number sector 0 here in omega arith
        | inr nowhere ↦ absurd (cc)
      ];
}

Seen-more :
    (size : ℕ) (earlier seen : List ℕ) (sector : ℕ) → Seen size earlier seen
    → list_any (nat_eq sector) (0 ∷ earlier) ≡ false → sector < size → Seen size (earlier ++ (sector ∷ [])) (sector ∷ seen)
unfolding IsDistinct
Seen-more size earlier seen sector before new inside = record {
  distinct = (apart sector seen (before.same sector ∙ new), before.distinct);
  count =
      let more : length (earlier ++ (sector ∷ [])) ≡ length earlier + 1 = length-append earlier (sector ∷ []) in
      omega (arith, before.count, more);
  same = λ other.
      let joined = list_any-append (nat_eq other) earlier (sector ∷ []) in
      ap (λ rest. nat_eq other sector || rest) (before.same other)
      ∙ turned (nat_eq other sector) (nat_eq other 0) (list_any (nat_eq other) earlier)
      ∙ ap (λ rest. nat_eq other 0 || rest) (sym joined);
  below = λ other is.
      elim (or_cases (nat_eq other sector) (list_any (nat_eq other) seen) is) [
        | inl here ↦ let same = same_number other sector here in omega arith
        | inr there ↦ before.below other there
      ];
}

-- no more tables than sectors were read
Seen-few : (size : ℕ) (earlier seen : List ℕ) → Seen size earlier seen → length earlier + 1 ≤ size
Seen-few size earlier seen are =
    let few = length-le_from_distinct_below seen size are.distinct are.below in omega (arith, are.count)

-- the partitions of some tables, where further ones change nothing
abbrev pub Settled : (ℕ → List ℕ) → ℕ → ℕ → ℕ → ℕ → List ℕ → List ℕ → List ℕ → Type 0
Settled sectors size disk outer number earlier few many =
    logical_from sectors size disk number earlier many ≡ logical_from sectors size disk number earlier few

behind_partition :
    (sectors : ℕ → List ℕ) (size disk outer number : ℕ) (earlier few many : List ℕ) (sector : ℕ) (entries : List Entry)
    (found : Result (Option model.Partition) model.TableFault)
    → chain_entries sectors size earlier sector ≡ Ok entries
    → logical_at size disk sector number (logical_of entries) ≡ found
    → ((after : ℕ) → Settled sectors size disk outer after (earlier ++ (sector ∷ [])) few many)
    → Settled sectors size disk outer number earlier (sector ∷ few) (sector ∷ many)
behind_partition sectors size disk outer number earlier few many sector entries (Err fault) read is deeper = rw (read, is) refl
behind_partition sectors size disk outer number earlier few many sector entries (Ok first) read is deeper =
    rw (read, is) (ap (λ rest. rest >>= λ others. Ok (option_to_list first ++ others)) (deeper (number + length (option_to_list first))))

behind_table :
    (sectors : ℕ → List ℕ) (size disk outer number : ℕ) (earlier few many seen : List ℕ) (sector : ℕ)
    (read : Result (List Entry) model.TableFault) → chain_entries sectors size earlier sector ≡ read
    → Seen size earlier seen
    → (Seen size (earlier ++ (sector ∷ [])) (sector ∷ seen) → (after : ℕ) → Settled sectors size disk outer after (earlier ++ (sector ∷ [])) few many)
    → Settled sectors size disk outer number earlier (sector ∷ few) (sector ∷ many)
behind_table sectors size disk outer number earlier few many seen sector (Err fault) is before deeper = rw is refl
behind_table sectors size disk outer number earlier few many seen sector (Ok entries) is before deeper =
    let new = chain_entries-new sectors size earlier sector entries is in
    let inside = chain_entries-inside sectors size earlier sector entries is in
    behind_partition sectors size disk outer number earlier few many sector entries _ is refl
    (deeper (Seen-more size earlier seen sector before new inside))

settled :
    (sectors : ℕ → List ℕ) (size disk outer more most number : ℕ) (earlier seen : List ℕ) (at : Option ℕ)
    → Seen size earlier seen → size ≤ most + length earlier
    → Settled sectors size disk outer number earlier (chain_from (linked_sector sectors size outer) most at) (chain_from (linked_sector sectors size outer) (most + more) at)
settled sectors size disk outer more zero number earlier seen at are enough =
    let few = Seen-few size earlier seen are in absurd (omega (arith, enough))
settled sectors size disk outer more (suc most) number earlier seen None are enough =
    rw (chain_from-none (linked_sector sectors size outer) (suc most + more)) refl
settled sectors size disk outer more (suc most) number earlier seen (Some sector) are enough =
    let linked = linked_sector sectors size outer in
    let total : suc most + more ≡ suc (most + more) = omega arith in
    let longer : length (earlier ++ (sector ∷ [])) ≡ length earlier + 1 = length-append earlier (sector ∷ []) in
    let still : size ≤ most + length (earlier ++ (sector ∷ [])) = omega (arith, enough, longer) in
    rw total
    (behind_table sectors size disk outer number earlier (chain_from linked most (linked sector)) (chain_from linked (most + more) (linked sector))
    seen sector _ refl are
    (λ now after. settled sectors size disk outer more most after (earlier ++ (sector ∷ [])) (sector ∷ seen) (linked sector) now still))

pub chain_ends : ChainEndsLaw
unfolding chain_tables
chain_ends sectors size disk outer more some =
    settled sectors size disk outer more size 5 [] (0 ∷ []) (Some outer) (Seen-first size some) (omega arith)
