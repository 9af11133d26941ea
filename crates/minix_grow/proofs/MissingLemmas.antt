-- How many zones are missing on the way to a block.
use Rattle.std.proofs.Common.{◌≡◌, ◌≤◌, ◌<◌, ◌+◌, ◌/◌, ℕ, zero, suc, List, [], ◌∷◌, length, Option, Some, None, Ok, refl, sym, ◌∙◌, ap, subst, arith}
use Rattle.std.specs.Prelude.{slice_index}
use Rattle.lilo_model.specs.MinixEntries.{entries_per_block}
use Rattle.lilo_model.specs.MinixLayout.{Super}
use Rattle.lilo_model.specs.MinixParts.{Parts, Pointer, inside, number_below, block_pointer}
use Rattle.minix_choice_laws.proofs.Choose.{passed, made_by}
use Rattle.minix_choice_laws.proofs.Place.{way_zone}
use Rattle.std.proofs.lemmas.List.FromFn.{length-map-range_with_len}
use Rattle.write_model.specs.Choice.{Choice, choice_with}
use Rattle.write_model.specs.Growth.{Way, way_on, way_along, missing_on_way, promised_zone, completed}
use Rattle.minix_grow.specs.Missing.{MissingLaw, GrowthLaw}
use Rattle.minix_grow.specs.Way.{depth_of, pointer_above, index_above, number_above}
use Rattle.minix_grow.proofs.GrowLemmas.{holes_below}
use Rattle.minix_grow.proofs.WayLemmas.{pointer_below, pointer_lowest}

-- one more is missing where the last number is 0
one_more : (zone missing : ℕ) → zone ≡ 0 → (way_on zone missing).missing ≡ missing + 1
one_more zero missing none = refl
one_more (suc zone) missing none = absurd (omega (arith, none))

some_missing : (super : Super) (bytes_of : ℕ → List ℕ) (zone : ℕ) (trail : List ℕ) (way : Way) → way_along super bytes_of zone trail ≡ Ok way → way.zone ≡ 0 → 1 ≤ way.missing
unfolding way_along
some_missing super bytes_of zone [] way is none =
    let one = passed (inside super zone) _ way is in
    let w : way_on one.0 0 ≡ way = let e = one.2 in cc in
    let hole : one.0 ≡ 0 = ap (λ (x : Way). x.zone) w ∙ none in
    let more = sym (ap (λ (x : Way). x.missing) w) ∙ one_more one.0 0 hole in
    omega (arith, more)
some_missing super bytes_of zone (index ∷ before) way is none =
    let above = passed (way_along super bytes_of zone before) _ way is in
    let one = passed (inside super (number_below super.kind bytes_of above.0.zone index)) _ way above.2 in
    let w : way_on one.0 above.0.missing ≡ way = let e = one.2 in cc in
    let hole : one.0 ≡ 0 = ap (λ (x : Way). x.zone) w ∙ none in
    let more = sym (ap (λ (x : Way). x.missing) w) ∙ one_more one.0 above.0.missing hole in
    omega (arith, more)

more_missing : (super : Super) (bytes_of : ℕ → List ℕ) (zone index : ℕ) (before : List ℕ) (way : Way) → way_along super bytes_of zone (index ∷ before) ≡ Ok way → way.zone ≡ 0
    → (above : Way) × (way_along super bytes_of zone before ≡ Ok above) × (way.missing ≡ above.missing + 1)
unfolding way_along
more_missing super bytes_of zone index before way is none =
    let above = passed (way_along super bytes_of zone before) _ way is in
    let one = passed (inside super (number_below super.kind bytes_of above.0.zone index)) _ way above.2 in
    let w : way_on one.0 above.0.missing ≡ way = let e = one.2 in cc in
    let hole : one.0 ≡ 0 = ap (λ (x : Way). x.zone) w ∙ none in
    (above.0, above.1, sym (ap (λ (x : Way). x.missing) w) ∙ one_more one.0 above.0.missing hole)

module _ (super : Super) (parts : Parts) (directory block high : ℕ) (few : high ≤ depth_of super.kind block) (hole : number_above super parts directory block high ≡ 0) where
  abbrev WayTo : Pointer → Way → Type 0
  WayTo at way = way_along super parts.zone (slice_index (parts.node directory).zones at.top) at.trail ≡ Ok way

  number-zero : (level more : ℕ) → level + more ≡ high → number_above super parts directory block level ≡ 0
  number-zero level more same = holes_below super parts (parts.node directory) block high level more few same hole

  way-zero : (level more : ℕ) (way : Way) → level + more ≡ high → WayTo (pointer_above super.kind block level) way → way.zone ≡ 0
  way-zero level more way same is = way_zone super parts.zone _ _ way is ∙ number-zero level more same

  from_level : (level more : ℕ) (way : Way) → level + more ≡ high → WayTo (pointer_above super.kind block level) way → more < way.missing
  from_level level zero way same is =
      let some = some_missing super parts.zone _ _ way is (way-zero level zero way same is) in
      omega (arith, some)
  from_level level (suc more) way same is =
      let outer : Pointer = pointer_above super.kind block (suc level) in
      let is' : way_along super parts.zone (slice_index (parts.node directory).zones outer.top) (index_above super.kind block level ∷ outer.trail) ≡ Ok way =
      let P : Pointer → Type 0 = λ at. WayTo at way in subst P (pointer_below super.kind block level (omega (arith, same, few))) is in
      let up = more_missing super parts.zone (slice_index (parts.node directory).zones outer.top) (index_above super.kind block level) outer.trail way is' (way-zero level (suc more) way same is) in
      let rest = from_level (suc level) more up.0 (omega (arith, same)) up.1 in
      let one = up.2 in
      omega (arith, rest, one)

pub missing_law : MissingLaw
unfolding missing_on_way
missing_law super parts directory block missing level is few hole =
    let at : Pointer = block_pointer super.kind block in
    let way = passed (way_along super parts.zone (slice_index (parts.node directory).zones at.top) at.trail) _ missing is in
    let same : way.0.missing ≡ missing = let e = way.2 in cc in
    let P : Pointer → Type 0 = λ p. way_along super parts.zone (slice_index (parts.node directory).zones p.top) p.trail ≡ Ok way.0 in
    let more = from_level super parts directory block level few hole 0 level way.0 (omega arith) (subst P (sym (pointer_lowest super.kind block)) way.1) in
    omega (arith, more, same)

completed_long : (promised : List (Option ℕ)) (zones : List ℕ) → length (completed promised zones) ≡ length promised
completed_long [] zones = refl
completed_long (Some zone ∷ promised) zones = ap suc (completed_long promised zones)
completed_long (None ∷ promised) [] = ap suc (completed_long promised [])
completed_long (None ∷ promised) (zone ∷ zones) = ap suc (completed_long promised zones)

pub growth_law : GrowthLaw
unfolding choice_with
growth_law super parts taken wish choice level chosen few hole =
    let made = made_by super parts taken wish choice chosen in
    let less = missing_law super parts wish.directory (choice.place / entries_per_block super.kind) made.count level made.missing few hole in
    let growth : length choice.growth ≡ length made.promised = ap (λ (c : Choice). length c.growth) made.is ∙ completed_long made.promised _ in
    let long : length made.promised ≡ made.count = ap length made.are_promised ∙ length-map-range_with_len (promised_zone super.kind taken.promises wish.directory (choice.place / entries_per_block super.kind)) 0 made.count in
    omega (arith, less, growth, long)
