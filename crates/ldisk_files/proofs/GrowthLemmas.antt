-- What is missing on the way to a block of a directory are the numbers of the lowest levels.
use Rattle.std.proofs.Common.{◌≡◌, ◌≢◌, ◌≤◌, ◌<◌, ◌+◌, ◌-◌, ◌==◌, ◌⊎◌, ℕ, zero, suc, Bool, true, false, ◌∷◌, length, Ok, refl, sym, ◌∙◌, ap, subst, inl, inr, arith, eq-eqb}
use Rattle.std.specs.Prelude.{slice_index}
use Rattle.std.proofs.lemmas.Bool.{eqb-true}
use Rattle.lilo_model.specs.MinixLayout.{Kind, Super, numbers_in_zone}
use Rattle.lilo_model.specs.MinixParts.{Parts, Pointer, inside, number_below, block_pointer}
use Rattle.lilo_model.specs.MinixWalk.{branch_of}
use Rattle.minix_choice_laws.proofs.Choose.{passed}
use Rattle.minix_choice_laws.proofs.Place.{way_zone}
use Rattle.minix_grow.specs.Way.{depth_of, pointer_above, index_above, number_above}
use Rattle.minix_grow.proofs.GrowLemmas.{holes_below}
use Rattle.minix_grow.proofs.WayLemmas.{pointer_below, pointer_highest, pointer_lowest}
use Rattle.write_model.specs.Growth.{Way, way_on, way_along, missing_on_way}

-- one more is missing, or none is
abbrev IsStep : Way → ℕ → Type 0
IsStep way missing = ((way.zone ≡ 0) × (way.missing ≡ missing + 1)) ⊎ ((way.zone ≢ 0) × (way.missing ≡ missing))

step-by : (zone missing : ℕ) (way : Way) (test : Bool) → (zone == 0) ≡ test → way_on zone missing ≡ way → IsStep way missing
step-by zone missing way true e is =
    let more : (way_on zone missing).missing ≡ missing + 1 = rw e refl in
    inl (sym (ap (λ (x : Way). x.zone) is) ∙ eqb-true zone 0 e, sym (ap (λ (x : Way). x.missing) is) ∙ more)
step-by zone missing way false e is =
    let zero-more : missing + 0 ≡ missing = omega arith in
    let same : (way_on zone missing).missing ≡ missing = rw e zero-more in
    inr (
      λ none. (let hole = eq-eqb zone 0 (ap (λ (x : Way). x.zone) is ∙ none) in let differ : false ≡ true = sym e ∙ hole in cc),
      sym (ap (λ (x : Way). x.missing) is) ∙ same,
    )

step-cases : (zone missing : ℕ) (way : Way) → way_on zone missing ≡ way → IsStep way missing
step-cases zone missing way is = step-by zone missing way (zone == 0) refl is

module _ (super : Super) (parts : Parts) (directory block : ℕ) where
  abbrev WayTo : Pointer → Way → Type 0
  WayTo at way = way_along super parts.zone (slice_index (parts.node directory).zones at.top) at.trail ≡ Ok way

  abbrev IsMissing : ℕ → Type 0
  IsMissing level = number_above super parts directory block level ≡ 0

  missing-at : (level other : ℕ) → level ≡ other → IsMissing level → IsMissing other
  missing-at level other same is = subst IsMissing same is

  -- from a level on those are missing that are counted
  found : (level more count : ℕ) (way : Way) → level + more ≡ depth_of super.kind block → WayTo (pointer_above super.kind block level) way → IsStep way count
      → ((j : ℕ) → j < count → (suc j ≤ more) × IsMissing (level + suc j)) → (j : ℕ) → j < way.missing → (j ≤ more) × IsMissing (level + j)
  found level more count way same is (inl hole) upper zero low =
      (omega arith, missing-at level (level + 0) (omega arith) (sym (way_zone super parts.zone _ _ way is) ∙ hole.0))
  found level more count way same is (inl hole) upper (suc j) low = let m = hole.1 in upper j (omega (arith, low, m))
  found level more count way same is (inr some) upper j low =
      let m = some.1 in
      let one = upper 0 (omega (arith, low, m)) in
      let high = one.0 in
      absurd (some.0 (way_zone super parts.zone _ _ way is ∙ holes_below super parts (parts.node directory) block (level + 1) level 1 (omega (arith, high, same)) (omega arith) one.1))

  zeros-from : (level more : ℕ) (way : Way) → level + more ≡ depth_of super.kind block → WayTo (pointer_above super.kind block level) way
      → (j : ℕ) → j < way.missing → (j ≤ more) × IsMissing (level + j)
  unfolding way_along
  zeros-from level zero way same is j low =
      let here : level ≡ depth_of super.kind block = omega (arith, same) in
      let P : Pointer → Type 0 = λ at. WayTo at way in
      let is' = subst P (ap (pointer_above super.kind block) here ∙ pointer_highest super.kind block) is in
      let one = passed (inside super (slice_index (parts.node directory).zones (branch_of (numbers_in_zone super.kind) block).top)) _ way is' in
      let w : way_on one.0 0 ≡ way = let e = one.2 in cc in
      found level 0 0 way same is (step-cases one.0 0 way w) (λ i none. absurd (omega (arith, none))) j low
  zeros-from level (suc more) way same is j low =
      let outer : Pointer = pointer_above super.kind block (suc level) in
      let P : Pointer → Type 0 = λ at. WayTo at way in
      let is' : way_along super parts.zone (slice_index (parts.node directory).zones outer.top) (index_above super.kind block level ∷ outer.trail) ≡ Ok way =
      subst P (pointer_below super.kind block level (omega (arith, same))) is in
      let above = passed (way_along super parts.zone (slice_index (parts.node directory).zones outer.top) outer.trail) _ way is' in
      let one = passed (inside super (number_below super.kind parts.zone above.0.zone (index_above super.kind block level))) _ way above.2 in
      let w : way_on one.0 above.0.missing ≡ way = let e = one.2 in cc in
      found level (suc more) above.0.missing way same is (step-cases one.0 above.0.missing way w)
      (λ i small.
      let it = zeros-from (suc level) more above.0 (omega (arith, same)) above.1 i small in
      let b = it.0 in
      (omega (arith, b), missing-at (suc level + i) (level + suc i) (omega arith) it.1))
      j low

  -- so they are the lowest ones
  pub lowest-missing : (missing : ℕ) → missing_on_way super parts (parts.node directory) block ≡ Ok missing → (level : ℕ) → level < missing → (level ≤ depth_of super.kind block) × IsMissing level
  unfolding missing_on_way
  lowest-missing missing is level low =
      let at : Pointer = block_pointer super.kind block in
      let way = passed (way_along super parts.zone (slice_index (parts.node directory).zones at.top) at.trail) _ missing is in
      let same : way.0.missing ≡ missing = let e = way.2 in cc in
      let P : Pointer → Type 0 = λ p. WayTo p way.0 in
      let it = zeros-from 0 (depth_of super.kind block) way.0 (omega arith) (subst P (sym (pointer_lowest super.kind block)) way.1) level (omega (arith, low, same)) in
      (it.0, missing-at (0 + level) level (omega arith) it.1)

-- ---- each level has a pointer of its own

trail-long : (kind : Kind) (block level more : ℕ) → level + more ≡ depth_of kind block → length (pointer_above kind block level).trail ≡ more
trail-long kind block level zero same =
    let here : level ≡ depth_of kind block = omega (arith, same) in
    ap (λ (at : Pointer). length at.trail) (ap (pointer_above kind block) here ∙ pointer_highest kind block)
trail-long kind block level (suc more) same =
    ap (λ (at : Pointer). length at.trail) (pointer_below kind block level (omega (arith, same))) ∙ ap suc (trail-long kind block (suc level) more (omega (arith, same)))

pub levels-apart : (kind : Kind) (block level other : ℕ) → level ≤ depth_of kind block → other ≤ depth_of kind block → pointer_above kind block level ≡ pointer_above kind block other → level ≡ other
levels-apart kind block level other low high same =
    let one = trail-long kind block level (depth_of kind block - level) (omega (arith, low)) in
    let two = trail-long kind block other (depth_of kind block - other) (omega (arith, high)) in
    let long : length (pointer_above kind block level).trail ≡ length (pointer_above kind block other).trail = ap (λ (at : Pointer). length at.trail) same in
    omega (arith, one, two, long, low, high)
