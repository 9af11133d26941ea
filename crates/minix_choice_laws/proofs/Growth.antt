-- The zones of growth that are chosen: some were promised before, and the others are the last of those that are free.
use Rattle.std.proofs.Common.{◌≡◌, ◌≢◌, ◌≤◌, ◌<◌, ◌+◌, ◌/◌, ◌==◌, ◌&&◌, ◌||◌, ◌⊎◌, nat_lt, ℕ, zero, suc, Bool, true, false, List, [], ◌∷◌, length, take, drop, get_or, map, find, option_map, Option, Some, None, Ok, refl, sym, ap, ◌∙◌, subst, subst₂, arith, inl, inr, ⊎_elim}
use Rattle.std.specs.Prelude.{slice_index}
use Rattle.std.specs.List.{Contains, range_with_len}
use Rattle.std.proofs.lemmas.Bool.{cases_Bool, cases_lt, eq-eqb, eqb-true}
use Rattle.std.proofs.lemmas.Bool.Decides.{nat_tests}
use Rattle.std.proofs.lemmas.List.{get_or-drop, length-drop}
use Rattle.std.proofs.lemmas.List.Elements.{Contains-append_cases}
use Rattle.std.proofs.lemmas.List.FromFn.{get_or-map-range_with_len, length-map-range_with_len}
use Rattle.lilo_model.specs.MinixEntries.{entries_per_block}
use Rattle.lilo_model.specs.MinixLayout.{Kind, Super, numbers_in_zone}
use Rattle.lilo_model.specs.MinixParts.{Parts}
use Rattle.minix_choice_laws.specs.Choice.{file_of, IsFreeZone, IsFreeChoice}
use Rattle.minix_choice_laws.specs.Growth.{IsPromisedZone, IsSameStep, ArePromised, IsFreeGrowth, FreeGrowthLaw, PromisesLaw}
use Rattle.minix_choice_laws.proofs.Choose.{IsMadeOf, made_by, choice_law, many}
use Rattle.minix_choice_laws.specs.Sources.{Source, Block, Indirect, FileZones, zone_from}
use Rattle.minix_choice_laws.proofs.Given.{given_hole, given_at, count_before}
use Rattle.write_model.specs.Choice.{Choice, file_need, choice_with, is_one_of, taken_with, choose}
use Rattle.write_model.specs.FileZones.{data_blocks, count_made, made_indirect, given}
use Rattle.write_model.specs.Growth.{first_beside, is_growth_of, promised_zone, count_fresh, completed}
use Rattle.write_model.specs.Wish.{Wish, Taken, Promise}

-- ---- each zone of growth was promised, or is one of those that are chosen now

-- how many before one weren't promised
abbrev fresh_before : List (Option ℕ) → ℕ → ℕ
fresh_before promised level = count_fresh (take level promised)

-- that of a level was promised, or is the next of those chosen
record IsFresh (promised : List (Option ℕ)) (zones : List ℕ) (level : ℕ) : Type 0 where
  pub none : get_or promised level None ≡ None
  pub is : slice_index (completed promised zones) level ≡ slice_index zones (fresh_before promised level)
  pub low : fresh_before promised level < count_fresh promised

record WasPromised (promised : List (Option ℕ)) (zones : List ℕ) (level : ℕ) : Type 0 where
  pub some : get_or promised level None ≡ Some (slice_index (completed promised zones) level)

completed_at : (promised : List (Option ℕ)) (zones : List ℕ) (level : ℕ) → count_fresh promised ≤ length zones → level < length promised → WasPromised promised zones level ⊎ IsFresh promised zones level
completed_at [] zones level few low = absurd (omega (arith, low))
completed_at (Some zone ∷ promised) zones zero few low = inl (record { some = refl })
completed_at (Some zone ∷ promised) zones (suc level) few low = ⊎_elim
    (λ (was : WasPromised promised zones level). inl (record { some = was.some }))
    (λ (fresh : IsFresh promised zones level). inr (record { none = fresh.none; is = fresh.is; low = fresh.low }))
    (completed_at promised zones level few (omega (arith, low)))
completed_at (None ∷ promised) [] level few low = absurd (omega (arith, few))
completed_at (None ∷ promised) (zone ∷ zones) zero few low = inr (record { none = refl; is = refl; low = omega arith })
completed_at (None ∷ promised) (zone ∷ zones) (suc level) few low = ⊎_elim
    (λ (was : WasPromised promised zones level). inl (record { some = was.some }))
    (λ (fresh : IsFresh promised zones level). let l = fresh.low in inr (record { none = fresh.none; is = fresh.is; low = omega (arith, l) }))
    (completed_at promised zones level (omega (arith, few)) (omega (arith, low)))

-- of two that weren't promised the higher one comes later
fresh_order : (promised : List (Option ℕ)) (level other : ℕ) → get_or promised level None ≡ None → level < other → other < length promised → fresh_before promised level < fresh_before promised other
fresh_order [] level other none order low = absurd (omega (arith, low))
fresh_order (Some zone ∷ promised) zero other none order low = cc
fresh_order (Some zone ∷ promised) (suc level) zero none order low = absurd (omega (arith, order))
fresh_order (Some zone ∷ promised) (suc level) (suc other) none order low = fresh_order promised level other none (omega (arith, order)) (omega (arith, low))
fresh_order (None ∷ promised) zero zero none order low = absurd (omega (arith, order))
fresh_order (None ∷ promised) zero (suc other) none order low = omega arith
fresh_order (None ∷ promised) (suc level) zero none order low = absurd (omega (arith, order))
fresh_order (None ∷ promised) (suc level) (suc other) none order low =
    let later = fresh_order promised level other none (omega (arith, order)) (omega (arith, low)) in
    omega (arith, later)

completed_long : (promised : List (Option ℕ)) (zones : List ℕ) → length (completed promised zones) ≡ length promised
completed_long [] zones = refl
completed_long (Some zone ∷ promised) zones = ap suc (completed_long promised zones)
completed_long (None ∷ promised) [] = ap suc (completed_long promised [])
completed_long (None ∷ promised) (zone ∷ zones) = ap suc (completed_long promised zones)

-- ---- what was promised is in a promise, at its level

pub record IsIn (kind : Kind) (directory block : ℕ) (promises : List Promise) (level zone : ℕ) : Type 0 where
  pub promise : Promise
  pub there : Contains promises promise
  pub low : level < length promise.growth
  pub is : slice_index promise.growth level ≡ zone
  pub in_it : promise.directory ≡ directory
  pub beside : first_beside (numbers_in_zone kind) (promise.place / entries_per_block kind) level ≡ first_beside (numbers_in_zone kind) block level

both-true : (a b : Bool) → (a && b) ≡ true → (a ≡ true) × (b ≡ true)
both-true true true is = (refl, refl)
both-true true false is = cc
both-true false b is = cc

found_in : (kind : Kind) (directory block level : ℕ) (promises : List Promise) (zone : ℕ) → option_map (λ (p : Promise). slice_index p.growth level) (find (is_growth_of kind directory block level) promises) ≡ Some zone → IsIn kind directory block promises level zone
found_in kind directory block level [] zone is = cc
found_in kind directory block level (promise ∷ promises) zone is = by (found_in kind directory block level promises zone) (is_growth_of kind directory block level promise) refl
  where
    by : (option_map (λ (p : Promise). slice_index p.growth level) (find (is_growth_of kind directory block level) promises) ≡ Some zone → IsIn kind directory block promises level zone)
        → (test : Bool) → is_growth_of kind directory block level promise ≡ test → IsIn kind directory block (promise ∷ promises) level zone
    by rest true holds =
        let e = rw holds at is in
        let two = both-true ((promise.directory == directory) && nat_lt level (length promise.growth)) (first_beside (numbers_in_zone kind) (promise.place / entries_per_block kind) level == first_beside (numbers_in_zone kind) block level) holds in
        let inner = both-true (promise.directory == directory) (nat_lt level (length promise.growth)) two.0 in
        let test = inner.1 in
        record {
          promise = promise;
          there = (0, omega arith, refl);
          low = grind (arith, nat_tests);
          is = cc;
          in_it = eqb-true promise.directory directory inner.0;
          beside = eqb-true _ _ two.1;
        }
    by rest false holds =
        let e = rw holds at is in
        let later = rest e in
        record { promise = later.promise; there = (suc later.there.0, (let l = later.there.1 in omega (arith, l)), later.there.2); low = later.low; is = later.is; in_it = later.in_it; beside = later.beside }

promised_in : (kind : Kind) (promises : List Promise) (directory block level zone : ℕ) → promised_zone kind promises directory block level ≡ Some zone → IsIn kind directory block promises level zone
unfolding promised_zone
promised_in kind promises directory block level zone is = found_in kind directory block level promises zone is

-- ---- the growth of a choice

module _ (super : Super) (parts : Parts) (taken : Taken) (wish : Wish) (choice : Choice) (first : 0 < super.first) (promises : ArePromised super parts taken) (chosen : choose super parts taken wish ≡ Ok choice) where
  pub made : IsMadeOf super parts taken wish.directory wish.name (data_blocks wish.length wish.holes) choice
  made = made_by super parts taken wish choice chosen

  pub free : IsFreeChoice super parts taken wish choice
  free = choice_law super parts taken wish choice first chosen

  abbrev Need : ℕ
  Need = file_need super.kind (data_blocks wish.length wish.holes)

  abbrev PlaceBlock : ℕ
  PlaceBlock = choice.place / entries_per_block super.kind

  growth-is : choice.growth ≡ completed made.promised (drop Need choice.zones)
  unfolding choice_with
  growth-is = ap (λ (c : Choice). c.growth) made.is

  long : length choice.growth ≡ length made.promised
  long = ap length growth-is ∙ completed_long made.promised (drop Need choice.zones)

  -- that of a level was promised at that level, and is taken; or it is one of those chosen, and isn't
  pub record IsNext (level : ℕ) : Type 0 where
    pub at : ℕ
    pub low : at < length choice.zones
    pub from : Need ≤ at
    pub is : slice_index choice.growth level ≡ slice_index choice.zones at
    pub none : get_or made.promised level None ≡ None
    pub rank : at ≡ Need + fresh_before made.promised level

  pub either : (level : ℕ) → level < length choice.growth → IsIn super.kind wish.directory PlaceBlock taken.promises level (slice_index choice.growth level) ⊎ IsNext level
  either level low = ⊎_elim
      (λ (was : WasPromised made.promised (drop Need choice.zones) level).
      let P : List (Option ℕ) → Type 0 = λ all. get_or all level None ≡ Some (slice_index (completed made.promised (drop Need choice.zones)) level) in
      let is = subst P made.are_promised was.some in
      let at : get_or (map (promised_zone super.kind taken.promises wish.directory PlaceBlock) (range_with_len 0 made.count)) level None ≡ promised_zone super.kind taken.promises wish.directory PlaceBlock level =
      get_or-map-range_with_len (promised_zone super.kind taken.promises wish.directory PlaceBlock) 0 made.count level level None below (omega arith) in
      let Q : ℕ → Type 0 = λ zone. IsIn super.kind wish.directory PlaceBlock taken.promises level zone in
      inl (subst Q (ap (λ (zones : List ℕ). slice_index zones level) (sym growth-is)) (promised_in super.kind taken.promises wish.directory PlaceBlock level _ (sym at ∙ is))))
      (λ (fresh : IsFresh made.promised (drop Need choice.zones) level).
      let l = fresh.low in
      inr (record {
        at = Need + fresh_before made.promised level;
        low = omega (arith, l, all);
        from = omega arith;
        is = ap (λ (zones : List ℕ). slice_index zones level) growth-is ∙ (fresh.is ∙ get_or-drop Need choice.zones (fresh_before made.promised level) 0);
        none = fresh.none;
        rank = refl;
      }))
      (completed_at made.promised (drop Need choice.zones) level enough (omega (arith, low, long)))
    where
      all : length choice.zones ≡ Need + count_fresh made.promised
      all = many super parts taken wish choice made

      enough : count_fresh made.promised ≤ length (drop Need choice.zones)
      enough = omega (arith, all, length-drop Need choice.zones)

      below : level < made.count
      below =
          let count : length made.promised ≡ made.count = ap length made.are_promised ∙ length-map-range_with_len (promised_zone super.kind taken.promises wish.directory PlaceBlock) 0 made.count in
          omega (arith, low, long, count)

  -- of one that was promised
  module _ (level : ℕ) (was : IsIn super.kind wish.directory PlaceBlock taken.promises level (slice_index choice.growth level)) where
    pub was-zone : IsPromisedZone super parts taken (slice_index choice.growth level)
    was-zone = subst (IsPromisedZone super parts taken) was.is (promises.zones was.promise level was.there was.low)

  -- of one that is chosen now
  module _ (level : ℕ) (next : IsNext level) where
    pub next-zone : IsFreeZone super parts taken (slice_index choice.growth level)
    next-zone = subst (IsFreeZone super parts taken) (sym next.is) (free.free next.at next.low)

  pub taken-apart : (zone other : ℕ) → taken.has_zone zone ≡ true → taken.has_zone other ≡ false → zone ≢ other
  taken-apart zone other is not same = let t = ap taken.has_zone same in cc

  apart-by : (level other : ℕ) → level < other → other < length choice.growth → IsIn super.kind wish.directory PlaceBlock taken.promises level (slice_index choice.growth level) ⊎ IsNext level
      → IsIn super.kind wish.directory PlaceBlock taken.promises other (slice_index choice.growth other) ⊎ IsNext other → slice_index choice.growth other ≢ slice_index choice.growth level
  apart-by level other order low (inl one) (inl two) same =
      let e = (promises.steps two.promise one.promise other level two.there one.there two.low one.low (two.is ∙ (same ∙ sym one.is))).at in
      omega (arith, e, order)
  apart-by level other order low (inl one) (inr two) same = taken-apart _ _ (was-zone level one).taken_is (next-zone other two).left (sym same)
  apart-by level other order low (inr one) (inl two) same = taken-apart _ _ (was-zone other two).taken_is (next-zone level one).left same
  apart-by level other order low (inr one) (inr two) same =
      let later = fresh_order made.promised level other one.none order (omega (arith, low, long)) in
      let r = one.rank in
      let r' = two.rank in
      let less = free.rising.rise one.at two.at (omega (arith, later, r, r')) two.low in
      let e : slice_index choice.zones two.at ≡ slice_index choice.zones one.at = sym two.is ∙ (same ∙ one.is) in
      omega (arith, less, e)

  -- a zone of the file is one of the first
  pub record IsFirst (zone : ℕ) : Type 0 where
    pub at : ℕ
    pub low : at < Need
    pub is : slice_index choice.zones at ≡ zone

  given-first : (made-of : List Bool) (zones : List ℕ) (i : ℕ) → slice_index (given made-of zones) i ≢ 0 → (at : ℕ) × (at < count_made made-of) × (slice_index (given made-of zones) i ≡ slice_index zones at)
  given-first made-of zones i some = ⊎_elim
      (λ is. (count_made (take i made-of), count_before made-of i is, given_at made-of zones i is))
      (λ hole. absurd (some (given_hole made-of zones i hole)))
      (cases_Bool (get_or made-of i false))

  pub file-first : (source : Source) → zone_from (file_of choice) source ≢ 0 → IsFirst (zone_from (file_of choice) source)
  unfolding file_need
  file-first (Block index) some =
      let P : FileZones → Type 0 = λ zones. zone_from zones (Block index) ≢ 0 → IsFirst (zone_from zones (Block index)) in
      subst P (sym free.file)
      (λ some'.
      let one = given-first (data_blocks wish.length wish.holes) choice.zones index some' in
      record { at = one.0; low = omega (arith, one.1); is = sym one.2 })
      some
  file-first (Indirect place) some =
      let P : FileZones → Type 0 = λ zones. zone_from zones (Indirect place) ≢ 0 → IsFirst (zone_from zones (Indirect place)) in
      let count : ℕ = count_made (data_blocks wish.length wish.holes) in
      subst P (sym free.file)
      (λ some'.
      let one = given-first (made_indirect (numbers_in_zone super.kind) (data_blocks wish.length wish.holes)) (drop count choice.zones) place some' in
      record { at = count + one.0; low = omega (arith, one.1); is = sym (one.2 ∙ get_or-drop count choice.zones one.0 0) })
      some

  clear-by : (zone level : ℕ) → IsFirst zone → IsIn super.kind wish.directory PlaceBlock taken.promises level (slice_index choice.growth level) ⊎ IsNext level → slice_index choice.growth level ≢ zone
  clear-by zone level own (inl one) same =
      let inside = free.enough in
      let o = own.low in
      taken-apart _ _ (was-zone level one).taken_is (free.free own.at (omega (arith, o, inside))).left (same ∙ sym own.is)
  clear-by zone level own (inr one) same =
      let o = own.low in
      let f = one.from in
      let less = free.rising.rise own.at one.at (omega (arith, o, f)) one.low in
      let e : slice_index choice.zones one.at ≡ slice_index choice.zones own.at = sym one.is ∙ (same ∙ sym own.is) in
      omega (arith, less, e)

  pub free_growth : IsFreeGrowth super parts choice
  free_growth = record {
    from = λ level low. ⊎_elim (λ was. (was-zone level was).from) (λ next. (next-zone level next).from) (either level low);
    below = λ level low. ⊎_elim (λ was. (was-zone level was).below) (λ next. (next-zone level next).below) (either level low);
    unmarked = λ level low. ⊎_elim (λ was. (was-zone level was).unmarked) (λ next. (next-zone level next).unmarked) (either level low);
    apart = λ level other order low. apart-by level other order low (either level (omega (arith, order, low))) (either other low);
    clear = λ source level some low. clear-by (zone_from (file_of choice) source) level (file-first source some) (either level low);
  }

  -- the other way round
  turned : (one other : Promise) (level there : ℕ) → IsSameStep super.kind one other level there → IsSameStep super.kind other one there level
  turned one other level there step = record { directory = sym step.directory; at = sym step.at; blocks = sym step.blocks }

  -- ---- what is promised then

  abbrev After : Taken
  After = taken_with taken wish.directory choice

  abbrev Promised : Promise
  Promised = record { directory = wish.directory; place = choice.place; growth = choice.growth }

  pub either-true : (a b : Bool) → a ≡ true → (a || b) ≡ true
  either-true true b is = refl
  either-true false b is = cc

  pub second-true : (a b : Bool) → b ≡ true → (a || b) ≡ true
  second-true true b is = refl
  second-true false b is = is

  one_of : (zones : List ℕ) (at : ℕ) → at < length zones → is_one_of zones (slice_index zones at) ≡ true
  one_of [] at low = absurd (omega (arith, low))
  one_of (zone ∷ zones) zero low = either-true (zone == zone) _ (eq-eqb zone zone refl)
  one_of (zone ∷ zones) (suc at) low = second-true (slice_index zones at == zone) _ (one_of zones at (omega (arith, low)))

  pub after-taken : (zone : ℕ) → taken.has_zone zone ≡ true → After.has_zone zone ≡ true
  unfolding taken_with
  after-taken zone is = either-true (taken.has_zone zone) _ is

  pub after-chosen : (at : ℕ) → at < length choice.zones → After.has_zone (slice_index choice.zones at) ≡ true
  unfolding taken_with
  after-chosen at low = second-true (taken.has_zone (slice_index choice.zones at)) _ (one_of choice.zones at low)

  growth-after : (level : ℕ) → level < length choice.growth → IsIn super.kind wish.directory PlaceBlock taken.promises level (slice_index choice.growth level) ⊎ IsNext level → After.has_zone (slice_index choice.growth level) ≡ true
  growth-after level low (inl was) = after-taken _ (was-zone level was).taken_is
  growth-after level low (inr next) = ap After.has_zone next.is ∙ after-chosen next.at next.low

  -- a promise is one of those before, or that of this choice
  pub before-or : (promise : Promise) → Contains After.promises promise → Contains taken.promises promise ⊎ (promise ≡ Promised)
  unfolding taken_with
  before-or promise there = ⊎_elim (λ was. inl was) (λ last. inr (only last)) (Contains-append_cases taken.promises (Promised ∷ []) promise there)
    where
      only : Contains (Promised ∷ []) promise → promise ≡ Promised
      only here =
          let low = here.1 in
          let zero-is : here.0 ≡ 0 = omega (arith, low) in
          sym here.2 ∙ ap (λ i. get_or (Promised ∷ []) i promise) zero-is

  zones-by : (promise : Promise) (level : ℕ) → level < length promise.growth → Contains taken.promises promise ⊎ (promise ≡ Promised) → IsPromisedZone super parts After (slice_index promise.growth level)
  zones-by promise level low (inl was) =
      let z = promises.zones promise level was low in
      record { from = z.from; below = z.below; unmarked = z.unmarked; taken_is = after-taken _ z.taken_is }
  zones-by promise level low (inr same) =
      let P : Promise → Type 0 = λ p. level < length p.growth → IsPromisedZone super parts After (slice_index p.growth level) in
      subst P (sym same)
      (λ low'. record {
        from = free_growth.from level low';
        below = free_growth.below level low';
        unmarked = free_growth.unmarked level low';
        taken_is = growth-after level low' (either level low');
      })
      low

  -- a zone of this growth that an earlier promise has too
  old-new : (promise : Promise) (level there : ℕ) → Contains taken.promises promise → level < length promise.growth → there < length choice.growth → slice_index promise.growth level ≡ slice_index choice.growth there
      → IsIn super.kind wish.directory PlaceBlock taken.promises there (slice_index choice.growth there) ⊎ IsNext there → IsSameStep super.kind promise Promised level there
  old-new promise level there was low low' same (inl one) =
      let step = promises.steps promise one.promise level there was one.there low one.low (same ∙ sym one.is) in
      record { directory = step.directory ∙ one.in_it; at = step.at; blocks = step.blocks ∙ one.beside }
  old-new promise level there was low low' same (inr next) = absurd (taken-apart _ _ (promises.zones promise level was low).taken_is (next-zone there next).left same)

  own-level : (level there : ℕ) → level < length choice.growth → there < length choice.growth → slice_index choice.growth level ≡ slice_index choice.growth there → level ≡ there
  own-level level there low low' same = ⊎_elim
      (λ less. absurd (free_growth.apart level there less low' (sym same)))
      (λ no-less. ⊎_elim (λ more. absurd (free_growth.apart there level more low same)) (λ no-more. omega (arith, no-less, no-more)) (cases_lt there level))
      (cases_lt level there)

  own-step : (level there : ℕ) → level < length choice.growth → there < length choice.growth → slice_index choice.growth level ≡ slice_index choice.growth there → IsSameStep super.kind Promised Promised level there
  own-step level there low low' same =
      let e = own-level level there low low' same in
      record { directory = refl; at = e; blocks = ap (first_beside (numbers_in_zone super.kind) PlaceBlock) e }

  steps-by : (one other : Promise) (level there : ℕ) → level < length one.growth → there < length other.growth → slice_index one.growth level ≡ slice_index other.growth there
      → Contains taken.promises one ⊎ (one ≡ Promised) → Contains taken.promises other ⊎ (other ≡ Promised) → IsSameStep super.kind one other level there
  steps-by one other level there low low' same (inl was) (inl was') = promises.steps one other level there was was' low low' same
  steps-by one other level there low low' same (inl was) (inr new) =
      let P : Promise → Type 0 = λ p. there < length p.growth → slice_index one.growth level ≡ slice_index p.growth there → IsSameStep super.kind one p level there in
      subst P (sym new) (λ l e. old-new one level there was low l e (either there l)) low' same
  steps-by one other level there low low' same (inr new) (inl was') =
      let P : Promise → Type 0 = λ p. level < length p.growth → slice_index p.growth level ≡ slice_index other.growth there → IsSameStep super.kind p other level there in
      subst P (sym new) (λ l e. turned other Promised there level (old-new other there level was' low' l (sym e) (either level l))) low same
  steps-by one other level there low low' same (inr new) (inr new') =
      let P : Promise → Promise → Type 0 = λ p q. level < length p.growth → there < length q.growth → slice_index p.growth level ≡ slice_index q.growth there → IsSameStep super.kind p q level there in
      subst₂ P (sym new) (sym new') (own-step level there) low low' same

  pub promised_after : ArePromised super parts After
  promised_after = record {
    zones = λ promise level there low. zones-by promise level low (before-or promise there);
    steps = λ one other level there is is' low low' same. steps-by one other level there low low' same (before-or one is) (before-or other is');
  }

-- ---- the laws

pub free_growth_law : FreeGrowthLaw
free_growth_law super parts taken wish choice first promises chosen = free_growth super parts taken wish choice first promises chosen

pub promises_law : PromisesLaw
promises_law super parts taken wish choice first promises chosen = promised_after super parts taken wish choice first promises chosen
