-- Zones that were chosen for a file may be its zones.
use Rattle.std.proofs.Common.{◌≡◌, ◌≤◌, ◌<◌, ◌+◌, ℕ, Bool, true, false, List, length, take, drop, get_or, sym, ◌∙◌, lit<, arith, ⊎_elim}
use Rattle.std.proofs.lemmas.Bool.{cases_Bool}
use Rattle.std.proofs.lemmas.List.{get_or-drop}
use Rattle.std.specs.Prelude.{slice_index}
use Rattle.lilo_model.specs.MinixLayout.{Kind, V1Short, V1Long, V2Short, V2Long, numbers_in_zone, reach, is_v1}
use Rattle.write_model.specs.FileZones.{count_made, given, made_indirect}
use Rattle.write_model.specs.Choice.{file_need}
use Rattle.minix_choice_laws.specs.Chosen.{AreRising, chosen_zones, ChosenLaw}
use Rattle.minix_choice_laws.specs.Sources.{Source, Block, Indirect, zone_from, below_source}
use Rattle.minix_choice_laws.proofs.Given.{given_length, given_hole, given_at, count_before, given_once}
use Rattle.minix_choice_laws.proofs.Places.{IsHole, below_hole, made_few, two_levels_made}
use Rattle.minix_laws.proofs.Inside.{some_numbers}

pub few_by : (kind : Kind) (blocks : List Bool) → length blocks ≤ reach kind → length (made_indirect (numbers_in_zone kind) blocks) ≤ reach kind
few_by V1Short blocks few = omega (arith, two_levels_made 512 (lit< tt) blocks (omega (arith, few)))
few_by V1Long blocks few = omega (arith, two_levels_made 512 (lit< tt) blocks (omega (arith, few)))
few_by V2Short blocks few = omega (arith, made_few 256 (lit< tt) blocks 256 (omega (arith, few)))
few_by V2Long blocks few = omega (arith, made_few 256 (lit< tt) blocks 256 (omega (arith, few)))

levels_by : (kind : Kind) (blocks : List Bool) → length blocks ≤ reach kind → is_v1 kind ≡ true → length (made_indirect (numbers_in_zone kind) blocks) ≤ 2 + numbers_in_zone kind
levels_by V1Short blocks few one = two_levels_made 512 (lit< tt) blocks (omega (arith, few))
levels_by V1Long blocks few one = two_levels_made 512 (lit< tt) blocks (omega (arith, few))
levels_by V2Short blocks few one = cc
levels_by V2Long blocks few one = cc

module _ (kind : Kind) (blocks : List Bool) (zones : List ℕ) (enough : file_need kind blocks ≤ length zones) (rising : AreRising zones) where
  abbrev per : ℕ
  per = numbers_in_zone kind

  abbrev made : List Bool
  made = made_indirect per blocks

  -- one that has no zone isn't made
  not_made : (place : ℕ) → slice_index (given made (drop (count_made blocks) zones)) place ≡ 0 → get_or made place false ≡ false
  unfolding file_need
  not_made place none = ⊎_elim
      (λ is.
      let low = count_before made place is in
      let there : count_made blocks + count_made (take place made) < length zones = omega (arith, low, enough) in
      absurd (rising.some (count_made blocks + count_made (take place made)) there
      (sym (given_at made (drop (count_made blocks) zones) place is ∙ get_or-drop (count_made blocks) zones (count_made (take place made)) 0) ∙ none)))
      (λ isnt. isnt)
      (cases_Bool (get_or made place false))

  no_zone : (source : Source) → IsHole per (some_numbers kind) blocks source → zone_from (chosen_zones kind blocks zones) source ≡ 0
  no_zone (Block index) hole = given_hole blocks zones index hole
  no_zone (Indirect place) hole = given_hole made (drop (count_made blocks) zones) place hole

pub chosen_law : ChosenLaw
chosen_law kind blocks zones few enough rising = record {
  few = omega (arith, given_length blocks zones, few);
  few_indirect = omega (arith, given_length (made_indirect (numbers_in_zone kind) blocks) (drop (count_made blocks) zones), few_by kind blocks few);
  two_levels = λ one. omega (arith, given_length (made_indirect (numbers_in_zone kind) blocks) (drop (count_made blocks) zones), levels_by kind blocks few one);
  holes = λ place index small none.
      no_zone kind blocks zones enough rising (below_source (numbers_in_zone kind) place index)
      (below_hole (numbers_in_zone kind) (some_numbers kind) blocks place index small (not_made kind blocks zones enough rising place none));
  once = given_once blocks (made_indirect (numbers_in_zone kind) blocks) zones rising;
}
