-- Choices in a row are apart.
use Rattle.std.proofs.Common.{◌≡◌, ◌≢◌, ◌<◌, ◌/◌, ◌⊎◌, ℕ, true, [], ◌∷◌, length, Ok, refl, sym, ap, ◌∙◌, subst, arith, ⊎_elim}
use Rattle.std.specs.Prelude.{slice_index}
use Rattle.std.specs.List.{Contains}
use Rattle.std.proofs.lemmas.Bool.{eq-eqb}
use Rattle.std.proofs.lemmas.List.Elements.{Contains-append_left, Contains-append_right}
use Rattle.lilo_model.specs.MinixEntries.{entries_per_block}
use Rattle.lilo_model.specs.MinixLayout.{Super}
use Rattle.lilo_model.specs.MinixParts.{Parts}
use Rattle.minix_choice_laws.specs.Apart.{promise_of, IsHeld, AreApart, HeldLaw, HeldStaysLaw, ApartLaw}
use Rattle.minix_choice_laws.specs.Choice.{file_of}
use Rattle.minix_choice_laws.specs.Growth.{ArePromised}
use Rattle.minix_choice_laws.proofs.Growth.{IsIn, IsNext, either, next-zone, taken-apart, file-first, after-taken, after-chosen, before-or, either-true, second-true, free, made, free_growth, promised_after}
use Rattle.minix_choice_laws.proofs.NewPlace.{new_is_free, not_promised}
use Rattle.minix_choice_laws.specs.Sources.{Source, zone_from}
use Rattle.write_model.specs.Choice.{Choice, choose, taken_with}
use Rattle.write_model.specs.Wish.{Wish, Taken, Promise}

module _ (super : Super) (parts : Parts) (taken : Taken) (wish : Wish) (choice : Choice) (first : 0 < super.first) (promises : ArePromised super parts taken) (chosen : choose super parts taken wish ≡ Ok choice) where
  abbrev After : Taken
  After = taken_with taken wish.directory choice

  abbrev Own : Promise
  Own = promise_of wish.directory choice

  after_promised : ArePromised super parts After
  after_promised = promised_after super parts taken wish choice first promises chosen

  -- the zones of the file are among those that were chosen
  file_taken : (source : Source) → zone_from (file_of choice) source ≢ 0 → After.has_zone (zone_from (file_of choice) source) ≡ true
  file_taken source some =
      let own = file-first super parts taken wish choice first promises chosen source some in
      let f = free super parts taken wish choice first promises chosen in
      let o = own.low in
      let e = f.enough in
      ap After.has_zone (sym own.is) ∙ after-chosen super parts taken wish choice first promises chosen own.at (omega (arith, o, e))

  own_there : Contains After.promises Own
  unfolding taken_with
  own_there = Contains-append_right taken.promises (Own ∷ []) Own (0, omega arith, refl)

  was_there : (promise : Promise) → Contains taken.promises promise → Contains After.promises promise
  unfolding taken_with
  was_there promise there = Contains-append_left taken.promises (Own ∷ []) promise there

  own_inode : After.has_inode choice.inode ≡ true
  unfolding taken_with
  own_inode = second-true super parts taken wish choice first promises chosen (taken.has_inode choice.inode) _ (eq-eqb choice.inode choice.inode refl)

  was_inode : (inode : ℕ) → taken.has_inode inode ≡ true → After.has_inode inode ≡ true
  unfolding taken_with
  was_inode inode is = either-true super parts taken wish choice first promises chosen (taken.has_inode inode) _ is

  was_zone : (zone : ℕ) → taken.has_zone zone ≡ true → After.has_zone zone ≡ true
  was_zone zone is = after-taken super parts taken wish choice first promises chosen zone is

  -- a zone of the file isn't one of growth that was promised
  clear_of : (source : Source) → zone_from (file_of choice) source ≢ 0 → (promise : Promise) (level : ℕ) → level < length promise.growth → Contains taken.promises promise ⊎ (promise ≡ Own)
      → slice_index promise.growth level ≢ zone_from (file_of choice) source
  clear_of source some promise level low was = ⊎_elim
      (λ there.
      let own = file-first super parts taken wish choice first promises chosen source some in
      let f = free super parts taken wish choice first promises chosen in
      let o = own.low in
      let e = f.enough in
      let left = (f.free own.at (omega (arith, o, e))).left in
      λ same. taken-apart super parts taken wish choice first promises chosen _ _ (promises.zones promise level there low).taken_is left (same ∙ sym own.is))
      (λ is.
      let P : Promise → Type 0 = λ p. level < length p.growth → slice_index p.growth level ≢ zone_from (file_of choice) source in
      subst P (sym is) (λ l. (free_growth super parts taken wish choice first promises chosen).clear source level some l) low)
      was

  pub is_held : IsHeld After wish.directory choice
  is_held = record {
    inode = own_inode;
    zones = λ i low. after-chosen super parts taken wish choice first promises chosen i low;
    promise = own_there;
    file = file_taken;
    clear = λ promise source level there some low. clear_of source some promise level low (before-or super parts taken wish choice first promises chosen promise there);
  }

  -- ---- an earlier choice

  module _ (directory : ℕ) (one : Choice) (held : IsHeld taken directory one) where
    -- a zone of growth isn't one of the earlier file
    growth_clear : (source : Source) → zone_from (file_of one) source ≢ 0 → (level : ℕ) → level < length choice.growth → slice_index choice.growth level ≢ zone_from (file_of one) source
    growth_clear source some level low = ⊎_elim
        (λ (was : IsIn super.kind wish.directory (choice.place / entries_per_block super.kind) taken.promises level (slice_index choice.growth level)).
        λ same. held.clear was.promise source level was.there some was.low (was.is ∙ same))
        (λ (next : IsNext super parts taken wish choice first promises chosen level).
        let left = (next-zone super parts taken wish choice first promises chosen level next).left in
        λ same. taken-apart super parts taken wish choice first promises chosen _ _ (held.file source some) left (sym same))
        (either super parts taken wish choice first promises chosen level low)

    pub held_stays : IsHeld After directory one
    held_stays = record {
      inode = was_inode one.inode held.inode;
      zones = λ i low. was_zone _ (held.zones i low);
      promise = was_there _ held.promise;
      file = λ source some. was_zone _ (held.file source some);
      clear = λ promise source level there some low. ⊎_elim
          (λ was. held.clear promise source level was some low)
          (λ is.
          let P : Promise → Type 0 = λ p. level < length p.growth → slice_index p.growth level ≢ zone_from (file_of one) source in
          subst P (sym is) (λ l. growth_clear source some level l) low)
          (before-or super parts taken wish choice first promises chosen promise there);
    }

    pub are_apart : AreApart super.kind directory one wish.directory choice
    are_apart = record {
      inode = λ same.
          let f = free super parts taken wish choice first promises chosen in
          let left = f.left in
          let is = held.inode in
          let t = ap taken.has_inode same in
          cc;
      place = λ in_it at. not_promised taken.promises (promise_of directory one) wish.directory choice.place
          (let m = made super parts taken wish choice first promises chosen in new_is_free super.kind taken.promises wish.directory (parts.node wish.directory).size m.entries choice.place m.place)
          held.promise in_it at;
      zones = λ i j low low' same.
          let left = ((free super parts taken wish choice first promises chosen).free i low).left in
          taken-apart super parts taken wish choice first promises chosen _ _ (held.zones j low') left (sym same);
      growth = λ i level low low' same.
          let left = ((free super parts taken wish choice first promises chosen).free i low).left in
          taken-apart super parts taken wish choice first promises chosen _ _ (promises.zones (promise_of directory one) level held.promise low').taken_is left (sym same);
      file = λ source level some low. growth_clear source some level low;
      steps = λ level there low low' same. after_promised.steps Own (promise_of directory one) level there own_there (was_there _ held.promise) low low' same;
    }

-- ---- the laws

pub held_law : HeldLaw
held_law super parts taken wish choice first promises chosen = is_held super parts taken wish choice first promises chosen

pub held_stays_law : HeldStaysLaw
held_stays_law super parts taken wish choice directory one first promises chosen held = held_stays super parts taken wish choice first promises chosen directory one held

pub apart_law : ApartLaw
apart_law super parts taken wish choice directory one first promises chosen held = are_apart super parts taken wish choice first promises chosen directory one held
