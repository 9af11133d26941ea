-- Zones that are given to what is made, each once.
use Rattle.std.proofs.Common.{◌≡◌, ◌≢◌, ◌≤◌, ◌<◌, ◌+◌, ℕ, zero, suc, Bool, true, false, List, [], ◌∷◌, length, take, drop, get_or, refl, sym, ap, ◌∙◌, arith, ⊎_elim}
use Rattle.std.specs.Prelude.{slice_index}
use Rattle.std.proofs.lemmas.Bool.{cases_lt, cases_Bool}
use Rattle.std.proofs.lemmas.List.{get_or-drop}
use Rattle.write_model.specs.FileZones.{count_made, given}
use Rattle.minix_choice_laws.specs.Chosen.{AreRising}
use Rattle.minix_choice_laws.specs.Sources.{Source, Block, Indirect, FileZones, zone_from}

pub past_end : (numbers : List ℕ) (at : ℕ) → length numbers ≤ at → slice_index numbers at ≡ 0
past_end [] at long = refl
past_end (number ∷ numbers) zero long = absurd (omega (arith, long))
past_end (number ∷ numbers) (suc at) long = past_end numbers at (omega (arith, long))

-- ---- what is given

pub given_length : (made : List Bool) (zones : List ℕ) → length (given made zones) ≡ length made
given_length [] zones = refl
given_length (false ∷ made) zones = ap suc (given_length made zones)
given_length (true ∷ made) [] = ap suc (given_length made [])
given_length (true ∷ made) (zone ∷ zones) = ap suc (given_length made zones)

given_none : (made : List Bool) (i : ℕ) → slice_index (given made []) i ≡ 0
given_none [] i = refl
given_none (false ∷ made) zero = refl
given_none (false ∷ made) (suc i) = given_none made i
given_none (true ∷ made) zero = refl
given_none (true ∷ made) (suc i) = given_none made i

pub given_hole : (made : List Bool) (zones : List ℕ) (i : ℕ) → get_or made i false ≡ false → slice_index (given made zones) i ≡ 0
given_hole [] zones i hole = refl
given_hole (false ∷ made) zones zero hole = refl
given_hole (false ∷ made) zones (suc i) hole = given_hole made zones i hole
given_hole (true ∷ made) zones zero hole = cc
given_hole (true ∷ made) [] (suc i) hole = given_none made i
given_hole (true ∷ made) (zone ∷ zones) (suc i) hole = given_hole made zones i hole

pub given_at : (made : List Bool) (zones : List ℕ) (i : ℕ) → get_or made i false ≡ true → slice_index (given made zones) i ≡ slice_index zones (count_made (take i made))
given_at [] zones i is = cc
given_at (false ∷ made) zones zero is = cc
given_at (false ∷ made) zones (suc i) is = given_at made zones i is
given_at (true ∷ made) [] zero is = refl
given_at (true ∷ made) [] (suc i) is = given_none made i
given_at (true ∷ made) (zone ∷ zones) zero is = refl
given_at (true ∷ made) (zone ∷ zones) (suc i) is = given_at made zones i is

-- ---- how many are made before one

pub count_before : (made : List Bool) (i : ℕ) → get_or made i false ≡ true → count_made (take i made) < count_made made
count_before [] i is = cc
count_before (false ∷ made) zero is = cc
count_before (false ∷ made) (suc i) is = count_before made i is
count_before (true ∷ made) zero is = omega arith
count_before (true ∷ made) (suc i) is = let before = count_before made i is in omega (arith, before)

pub count_once : (made : List Bool) (i j : ℕ) → get_or made i false ≡ true → get_or made j false ≡ true → count_made (take i made) ≡ count_made (take j made) → i ≡ j
count_once [] i j one other same = cc
count_once (made ∷ more) zero zero one other same = refl
count_once (false ∷ made) zero (suc j) one other same = cc
count_once (true ∷ made) zero (suc j) one other same = absurd (omega (arith, same))
count_once (false ∷ made) (suc i) zero one other same = cc
count_once (true ∷ made) (suc i) zero one other same = absurd (omega (arith, same))
count_once (false ∷ made) (suc i) (suc j) one other same = ap suc (count_once made i j one other same)
count_once (true ∷ made) (suc i) (suc j) one other same = ap suc (count_once made i j one other (omega (arith, same)))

-- ---- zones that rise

rising_once : (zones : List ℕ) (i j : ℕ) → AreRising zones → i < length zones → j < length zones → slice_index zones i ≡ slice_index zones j → i ≡ j
rising_once zones i j rising one other same = ⊎_elim
    (λ (low : i < j). absurd (omega (arith, rising.rise i j low other, same)))
    (λ (high : j ≤ i). ⊎_elim (λ (low : j < i). absurd (omega (arith, rising.rise j i low one, same))) (λ (low : i ≤ j). omega (arith, high, low)) (cases_lt j i))
    (cases_lt i j)

inside_list : (zones : List ℕ) (i : ℕ) → slice_index zones i ≢ 0 → i < length zones
inside_list zones i some = ⊎_elim (λ inside. inside) (λ past. absurd (some (past_end zones i past))) (cases_lt i (length zones))

-- ---- each source's own

module _ (blocks made : List Bool) (zones : List ℕ) (rising : AreRising zones) where
  abbrev pub all_given : FileZones
  all_given = record { blocks = given blocks zones; indirect = given made (drop (count_made blocks) zones) }

  rank : Source → ℕ
  rank (Block index) = count_made (take index blocks)
  rank (Indirect place) = count_made blocks + count_made (take place made)

  IsMade : Source → Type 0
  IsMade (Block index) = get_or blocks index false ≡ true
  IsMade (Indirect place) = get_or made place false ≡ true

  zone_is : (source : Source) → zone_from all_given source ≢ 0 → IsMade source × (zone_from all_given source ≡ slice_index zones (rank source))
  unfolding rank IsMade
  zone_is (Block index) some = ⊎_elim
      (λ is. (is, given_at blocks zones index is))
      (λ hole. absurd (some (given_hole blocks zones index hole)))
      (cases_Bool (get_or blocks index false))
  zone_is (Indirect place) some = ⊎_elim
      (λ is. (is, given_at made (drop (count_made blocks) zones) place is ∙ get_or-drop (count_made blocks) zones (count_made (take place made)) 0))
      (λ hole. absurd (some (given_hole made (drop (count_made blocks) zones) place hole)))
      (cases_Bool (get_or made place false))

  rank_once : (one other : Source) → IsMade one → IsMade other → rank one ≡ rank other → one ≡ other
  unfolding rank IsMade
  rank_once (Block i) (Block j) one other same = ap Block (count_once blocks i j one other same)
  rank_once (Block i) (Indirect q) one other same = absurd (let low = count_before blocks i one in omega (arith, low, same))
  rank_once (Indirect p) (Block j) one other same = absurd (let low = count_before blocks j other in omega (arith, low, same))
  rank_once (Indirect p) (Indirect q) one other same = ap Indirect (count_once made p q one other (omega (arith, same)))

  pub given_once : (one other : Source) → zone_from all_given one ≡ zone_from all_given other → zone_from all_given one ≢ 0 → one ≡ other
  given_once one other same some =
      let first = zone_is one some in
      let some_other : zone_from all_given other ≢ 0 = λ none. some (same ∙ none) in
      let second = zone_is other some_other in
      let equal : slice_index zones (rank one) ≡ slice_index zones (rank other) = sym first.1 ∙ same ∙ second.1 in
      let inside : rank one < length zones = inside_list zones (rank one) (λ none. some (first.1 ∙ none)) in
      let inside_other : rank other < length zones = inside_list zones (rank other) (λ none. some_other (second.1 ∙ none)) in
      rank_once one other first.0 second.0 (rising_once zones (rank one) (rank other) rising inside inside_other equal)
