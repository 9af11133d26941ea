-- The test of Clear, zone by zone.
use Rattle.std.proofs.Common.{◌≡◌, ◌<◌, ◌≤◌, ◌+◌, ◌-◌, ◌*◌, ◌/◌, ◌==◌, ◌&&◌, ◌||◌, ◌∙◌, ℕ, Bool, true, false, not, refl, sym, ap, subst, List, [], ◌∷◌, Some, Result, Ok, Err, arith, rules}
use Rattle.std.specs.Prelude.{nat_lt, nat_le, IfOk, IsErr}
use Rattle.std.specs.List.{list_all}
use Rattle.std.proofs.lemmas.Bool.{and_parts}
use Rattle.std.proofs.lemmas.Bool.Decides.{nat_tests}
use Rattle.lilo_model.specs.Disks.{Image, Machine, Span, DiskSector}
use Rattle.lilo_model.specs.Mapped.{mapped_sectors}
use Rattle.lilo_model.specs.MinixFind.{TreeFault, readable}
use Rattle.lilo_model.specs.MinixLayout.{Super, IsSuper, table_start, table_blocks}
use Rattle.lilo_model.specs.MinixParts as model
use Rattle.lilo_model.specs.MinixParts.{Parts, parts_of, is_directory}
use Rattle.lilo_model.specs.MinixSurvey.{Met, owner, is_indirect}
use Rattle.minix_sound_laws.proofs.Law.{sound_law, has-numbers}
use Rattle.minix_sound_laws.proofs.Findings.{met_law}
use Rattle.minix_survey.specs.declared.findings.Findings.{Findings}
use Rattle.minix_survey.specs.Findings.{owner_in, indirect_in}
use Rattle.minix_steps.specs.Numbers.{has_number}
use Rattle.install_laws.specs.InstallVerdict.{is_of_volume, is_of_places, is_plain_owner, is_plain_sector, is_clear}
use Rattle.present_map.specs.Clear.{IsFound, IsThere, clear_answer}
use Rattle.present_map.specs.Old.{Old, IsOldMap}

-- ---- tests

both-ways : (a b : Bool) → (a ≡ true → b ≡ true) → (b ≡ true → a ≡ true) → a ≡ b
both-ways true b to from = sym (to refl)
both-ways false true to from = from refl
both-ways false false to from = refl

or-true : (a b : Bool) → b ≡ true → (a || b) ≡ true
or-true true b is = refl
or-true false b is = is

and-false : (a b : Bool) → b ≡ false → (a && b) ≡ false
and-false true b is = is
and-false false b is = refl

-- the zone of a sector decides
lt-half : (sector : ℕ) → nat_lt sector 2 ≡ nat_lt (2 * (sector / 2)) 2
lt-half sector = both-ways (nat_lt sector 2) (nat_lt (2 * (sector / 2)) 2) (λ is. grind (arith, nat_tests, is)) (λ is. grind (arith, nat_tests, is))

le-half : (blocks sector : ℕ) → nat_le (2 * blocks) sector ≡ nat_le (2 * blocks) (2 * (sector / 2))
le-half blocks sector = both-ways (nat_le (2 * blocks) sector) (nat_le (2 * blocks) (2 * (sector / 2))) (λ is. grind (arith, nat_tests, is)) (λ is. grind (arith, nat_tests, is))

half-half : (zone : ℕ) → 2 * zone / 2 ≡ zone
half-half zone = omega arith

module _ (volume : model.Volume) (image : Image) (met : List Met) where
  abbrev plain : ℕ → Bool
  plain sector = is_plain_sector volume (parts_of volume image) met sector

  abbrev blocks : ℕ
  blocks = table_start volume.layout + table_blocks volume.layout

  abbrev judged : Bool → Bool → ℕ → Bool
  judged before behind zone = (before || behind) && is_plain_owner (parts_of volume image) (owner met zone) (is_indirect met zone)

  plain-half : (sector : ℕ) → plain sector ≡ plain (2 * (sector / 2))
  plain-half sector =
      ap (λ before. judged before (nat_le (2 * blocks) sector) (sector / 2)) (lt-half sector)
      ∙ ap (λ behind. judged (nat_lt (2 * (sector / 2)) 2) behind (sector / 2)) (le-half blocks sector)
      ∙ ap (λ zone. judged (nat_lt (2 * (sector / 2)) 2) (nat_le (2 * blocks) (2 * (sector / 2))) zone) (sym (half-half (sector / 2)))

  abbrev passes : DiskSector → Bool
  passes place = not (is_of_volume volume place) || plain (place.sector - volume.span.start)

  abbrev half : DiskSector → ℕ
  half place = (place.sector - volume.span.start) / 2

  inside : (place : DiskSector) → is_of_volume volume place ≡ true → half place < volume.layout.zones
  inside place is =
      let first = and_parts (place.disk == volume.span.disk && nat_le volume.span.start place.sector) (nat_lt place.sector (volume.span.start + 2 * volume.layout.zones)) is in
      let second = and_parts (place.disk == volume.span.disk) (nat_le volume.span.start place.sector) first.0 in
      let from_test = second.1 in
      let below_test = first.1 in
      let from : volume.span.start ≤ place.sector = grind (arith, nat_tests, from_test) in
      let below : place.sector < volume.span.start + 2 * volume.layout.zones = grind (arith, nat_tests, below_test) in
      omega (arith, from, below)

  -- where each zone with one of some places is plain, each place passes
  all-plain :
      (places : List DiskSector)
      → ((zone : ℕ) → zone < volume.layout.zones → is_of_places volume places zone ≡ true → plain (2 * zone) ≡ true)
      → list_all passes places ≡ true
  all-plain [] given = refl
  all-plain (place ∷ places) given =
      let here : passes place ≡ true = by (is_of_volume volume place) refl in
      rw here (all-plain places (λ zone below is. given zone below (or-true (is_of_volume volume place && (half place == zone)) (is_of_places volume places zone) is)))
    where
      by : (of : Bool) → is_of_volume volume place ≡ of → (not of || plain (place.sector - volume.span.start)) ≡ true
      by false is = refl
      by true is =
          let same : (half place == half place) ≡ true = grind (arith, nat_tests) in
          plain-half (place.sector - volume.span.start) ∙ given (half place) (inside place is) (rw (is, same) refl)

  -- where one isn't, a place doesn't
  not-plain : (places : List DiskSector) (zone : ℕ) → is_of_places volume places zone ≡ true → plain (2 * zone) ≡ false → list_all passes places ≡ false
  not-plain [] zone is refused = cc
  not-plain (place ∷ places) zone is refused =
      by (is_of_volume volume place && (half place == zone)) refl is (λ rest. not-plain places zone rest refused)
    where
      by : (here : Bool) → (is_of_volume volume place && (half place == zone)) ≡ here → (here || is_of_places volume places zone) ≡ true
          → (is_of_places volume places zone ≡ true → list_all passes places ≡ false) → list_all passes (place ∷ places) ≡ false
      by true here is others =
          let parts = and_parts (is_of_volume volume place) (half place == zone) here in
          let test = parts.1 in
          let same : half place ≡ zone = grind (arith, nat_tests, test) in
          let fails : plain (place.sector - volume.span.start) ≡ false = plain-half (place.sector - volume.span.start) ∙ ap (λ zone. plain (2 * zone)) same ∙ refused in
          rw (parts.0, fails) refl
      by false here is others = and-false (passes place) (list_all passes places) (others is)

  module _ (machine : Machine) (boot : Span) (old : Old) (is : IsOldMap volume image machine boot old) where
    pub clear_true :
        ((zone : ℕ) → zone < volume.layout.zones → has_number old.met.zones zone ≡ true → plain (2 * zone) ≡ true)
        → is_clear volume image met machine boot ≡ true
    unfolding is_clear
    clear_true given = all-plain (mapped_sectors image machine boot) (λ zone below of. given zone below (is.zones zone ∙ of))

    pub clear_false : (zone : ℕ) → has_number old.met.zones zone ≡ true → plain (2 * zone) ≡ false → is_clear volume image met machine boot ≡ false
    unfolding is_clear
    clear_false zone has refused = not-plain (mapped_sectors image machine boot) zone (sym (is.zones zone) ∙ has) refused

-- ---- a zone

-- one of the tables
table-by : (volume : model.Volume) (image : Image) (met : List Met) (zone : ℕ) → 1 ≤ zone → zone < table_start volume.layout + table_blocks volume.layout
    → is_plain_sector volume (parts_of volume image) met (2 * zone) ≡ false
table-by volume image met zone some below =
    let before : nat_lt (2 * zone) 2 ≡ false = grind (arith, nat_tests) in
    let behind : nat_le (2 * (table_start volume.layout + table_blocks volume.layout)) (2 * zone) ≡ false = grind (arith, nat_tests) in
    rw (before, behind) refl

pub plain_table :
    (volume : model.Volume) (image : Image) (met : List Met) (zone : ℕ) → 1 ≤ zone → zone < table_start volume.layout + table_blocks volume.layout
    → false ≡ is_plain_sector volume (parts_of volume image) met (2 * zone)
plain_table volume image met zone some below = sym (table-by volume image met zone some below)

-- one after them, or before
pub plain_other :
    (volume : model.Volume) (image : Image) (met : List Met) (zone : ℕ) → (1 ≤ zone → table_start volume.layout + table_blocks volume.layout ≤ zone)
    → is_plain_sector volume (parts_of volume image) met (2 * zone) ≡ is_plain_owner (parts_of volume image) (owner met zone) (is_indirect met zone)
plain_other volume image met zone past =
    let outside : (nat_lt (2 * zone) 2 || nat_le (2 * (table_start volume.layout + table_blocks volume.layout)) (2 * zone)) ≡ true = by (nat_lt (2 * zone) 2) refl in
    rw (outside, half-half zone) refl
  where
    by : (before : Bool) → nat_lt (2 * zone) 2 ≡ before → (before || nat_le (2 * (table_start volume.layout + table_blocks volume.layout)) (2 * zone)) ≡ true
    by true is = refl
    by false is = let some : 1 ≤ zone = grind (arith, nat_tests, is) in let beyond = past some in grind (arith, nat_tests, beyond)

-- the owner that a survey found is there
pub owner_there :
    (volume : model.Volume) (image : Image) (findings : Findings) (met : List Met) (zone number sectors : ℕ) → IsSuper volume.layout sectors
    → IsFound volume image findings met → Some number ≡ owner_in findings zone → IsThere volume.layout (parts_of volume image) number
owner_there volume image findings met zone number sectors whole found is =
    let numbers = has-numbers volume image sectors whole.passes in
    let sound = (sound_law volume.layout (parts_of volume image) numbers).sound met found.surveyed in
    let says = met_law volume.layout (parts_of volume image) met numbers found.surveyed in
    let there = says.owned zone number (sym (found.found.owner zone) ∙ sym is) in
    let range = sound.in_range number there.1.named in
    record { some = range.0; few = range.1; size = sound.size number there.1.named }

-- an owned zone after the tables, or before
pub plain_owned :
    (volume : model.Volume) (image : Image) (findings : Findings) (met : List Met) (zone number : ℕ)
    → IsFound volume image findings met → Some number ≡ owner_in findings zone
    → (1 ≤ zone → table_start volume.layout + table_blocks volume.layout ≤ zone)
    → (not (is_directory ((parts_of volume image).node number)) && not (indirect_in findings zone))
    ≡ is_plain_sector volume (parts_of volume image) met (2 * zone)
plain_owned volume image findings met zone number found is past =
    sym
    (plain_other volume image met zone past
    ∙ ap (λ owned. is_plain_owner (parts_of volume image) owned (is_indirect met zone)) (sym (found.found.owner zone) ∙ sym is)
    ∙ ap (λ indirect. not (is_directory ((parts_of volume image).node number)) && not indirect) (sym (found.found.indirect zone)))

pub if_ok-same : {A : Type 0} (result : Result Bool A) (one other : Bool) → one ≡ other → IfOk result (λ plain. plain ≡ one) → IfOk result (λ plain. plain ≡ other)
if_ok-same (Ok plain) one other same is = is ∙ same
if_ok-same (Err fault) one other same is = tt

-- the answer where the boot sector is of this format
pub answered : (foreign clear answer : Bool) → foreign ≡ false → clear ≡ answer → Some answer ≡ clear_answer foreign clear
answered foreign clear answer ours is = rw (ours, is) refl

-- ---- an inode

pub readable-there : (super : Super) (parts : Parts) (number : ℕ) → IsThere super parts number → readable super parts number ≡ Ok number
readable-there super parts number there = rw there.size refl

pub not_refused :
    {A : Type 0} (result : Result Bool A) (P : Bool → Type 0) (found : Result ℕ TreeFault) (number : ℕ) → found ≡ Ok number
    → IfOk result (λ plain. IsErr found) → IfOk result P
not_refused (Ok plain) P found number is refused = absurd (by found is refused)
  where
    by : (found : Result ℕ TreeFault) → found ≡ Ok number → IsErr found → ⊥
    by (Ok n) is refused = absurd (search rules)
    by (Err fault) is refused = cc
not_refused (Err fault) P found number is refused = tt

-- ---- the zones so far

module _ (volume : model.Volume) (image : Image) (findings : Findings) (old : Old) where
  -- those below a number are plain where they are of the map
  abbrev pub ArePlain : ℕ → Type 0
  ArePlain count =
      (met : List Met) → IsFound volume image findings met → (zone : ℕ) → zone < count → has_number old.met.zones zone ≡ true
      → is_plain_sector volume (parts_of volume image) met (2 * zone) ≡ true

  -- one zone's answer
  abbrev pub SaysZone : ℕ → Bool → Type 0
  SaysZone zone clear =
      (met : List Met) → IsFound volume image findings met
      → clear ≡ (not (has_number old.met.zones zone) || is_plain_sector volume (parts_of volume image) met (2 * zone))

  true-by : (has plain : Bool) → true ≡ (not has || plain) → has ≡ true → plain ≡ true
  true-by true true is of = refl
  true-by true false is of = cc
  true-by false plain is of = cc

  false-by : (has plain : Bool) → false ≡ (not has || plain) → (has ≡ true) × (plain ≡ false)
  false-by true true is = cc
  false-by true false is = (refl, refl)
  false-by false plain is = cc

  pub plain_next : (count : ℕ) → ArePlain count → SaysZone count true → ArePlain (count + 1)
  plain_next count before here met found zone below has = by (nat_lt zone count) refl
    where
      by : (less : Bool) → nat_lt zone count ≡ less → is_plain_sector volume (parts_of volume image) met (2 * zone) ≡ true
      by true is = let less : zone < count = grind (arith, nat_tests, is) in before met found zone less has
      by false is =
          let same : count ≡ zone = grind (arith, nat_tests, is) in
          true-by _ _ (subst (λ zone. SaysZone zone true) same here met found) has

  module _ (machine : Machine) (boot : Span) (met : List Met) (is : IsOldMap volume image machine boot old) (found : IsFound volume image findings met) where
    pub clear_at_end : (count : ℕ) → volume.layout.zones ≤ count → ArePlain count → is_clear volume image met machine boot ≡ true
    clear_at_end count past before = clear_true volume image met machine boot old is (λ zone below has. before met found zone (omega (arith, past, below)) has)

    pub clear_not : (zone : ℕ) → SaysZone zone false → is_clear volume image met machine boot ≡ false
    clear_not zone says = let parts = false-by _ _ (says met found) in clear_false volume image met machine boot old is zone parts.0 parts.1
