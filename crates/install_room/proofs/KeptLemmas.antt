-- What is chosen avoids the zones that were kept out at first, and so does what is chosen after it.
use Rattle.std.proofs.Common.{◌≡◌, ◌<◌, ◌/◌, ◌==◌, ℕ, suc, Bool, true, false, length, List, [], ◌∷◌, Option, Some, None, Ok, refl, sym, ◌∙◌, ap, subst, arith, ⊎_elim}
use Rattle.std.specs.Prelude.{slice_index, IfSome}
use Rattle.std.specs.List.{Contains}
use Rattle.std.proofs.lemmas.Bool.{eqb-true}
use Rattle.lilo_model.specs.Disks.{DiskSector}
use Rattle.lilo_model.specs.MinixEntries.{entries_per_block}
use Rattle.lilo_model.specs.MinixLayout.{Super}
use Rattle.lilo_model.specs.MinixParts.{Parts, Volume}
use Rattle.minix_steps.specs.Numbers.{has_number}
use Rattle.minix_choice_laws.specs.Choice.{IsFreeChoice}
use Rattle.minix_choice_laws.specs.Growth.{ArePromised}
use Rattle.minix_choice_laws.proofs.Choose.{choice_law}
use Rattle.minix_choice_laws.proofs.Growth.{IsIn, IsNext, either, after-taken, before-or, promised_after}
use Rattle.minix_create.specs.declared.chosen.Chosen.{Chosen}
use Rattle.minix_choice.specs.View.{Promised, taken_view}
use Rattle.write_model.specs.Choice.{Choice, choose, taken_with}
use Rattle.write_model.specs.Wish.{Wish, Taken, Promise}
use Rattle.install_laws.specs.InstallVerdict.{is_of_places}
use Rattle.install_apart.specs.declared.name.OwnName.{OwnName}
use Rattle.install_room.specs.Names.{own_wish}
use Rattle.install_room.specs.Room.{GivesFor, AvoidsPlaces}
use Rattle.install_room.proofs.FreeLemmas.{none_promised}
use Rattle.install_room.proofs.RoomOfLemmas.{view_with}

-- what holds of each of some numbers holds of one that is among them
each-number : (kept : ℕ → Bool) (zones : List ℕ) → ((i : ℕ) → i < length zones → kept (slice_index zones i) ≡ false) → (zone : ℕ) → has_number zones zone ≡ true → kept zone ≡ false
unfolding has_number
each-number kept [] each zone has = absurd cc
each-number kept (first ∷ zones) each zone has = by (each-number kept zones (λ i low. each (suc i) (omega (arith, low))) zone) (zone == first) refl
  where
    by : (has_number zones zone ≡ true → kept zone ≡ false) → (same : Bool) → (zone == first) ≡ same → kept zone ≡ false
    by rest true is = ap kept (eqb-true zone first is) ∙ each 0 (omega arith)
    by rest false is = let later = rw is at has in rest later

module _ (super : Super) (parts : Parts) (kept : ℕ → Bool) (some : 0 < super.first) where
  -- some zones are taken, and no directory was promised to grow by one
  pub record AreKept (taken : Taken) : Type 0 where
    pub zones : (zone : ℕ) → kept zone ≡ true → taken.has_zone zone ≡ true
    pub growth : (promise : Promise) (level : ℕ) → Contains taken.promises promise → level < length promise.growth → kept (slice_index promise.growth level) ≡ false
    pub promised : ArePromised super parts taken

  -- a choice has none of them
  pub record HasNone (choice : Choice) : Type 0 where
    pub zones : (i : ℕ) → i < length choice.zones → kept (slice_index choice.zones i) ≡ false
    pub growth : (level : ℕ) → level < length choice.growth → kept (slice_index choice.growth level) ≡ false

  module _ (taken : Taken) (wish : Wish) (choice : Choice) (are : AreKept taken) (chosen : choose super parts taken wish ≡ Ok choice) where
    left : (zone : ℕ) → taken.has_zone zone ≡ false → kept zone ≡ false
    left zone free = by (kept zone) refl
      where
        by : (test : Bool) → kept zone ≡ test → kept zone ≡ false
        by true is = let there = are.zones zone is in absurd cc
        by false is = is

    free : IsFreeChoice super parts taken wish choice
    free = choice_law super parts taken wish choice some chosen

    zone-left : (i : ℕ) → i < length choice.zones → kept (slice_index choice.zones i) ≡ false
    zone-left i low = left (slice_index choice.zones i) (free.free i low).left

    pub has_none : HasNone choice
    has_none = record {
      zones = zone-left;
      growth = λ level low. ⊎_elim
          (λ (was : IsIn super.kind wish.directory (choice.place / entries_per_block super.kind) taken.promises level (slice_index choice.growth level)).
          subst (λ zone. kept zone ≡ false) was.is (are.growth was.promise level was.there was.low))
          (λ (next : IsNext super parts taken wish choice some are.promised chosen level).
          subst (λ zone. kept zone ≡ false) (sym next.is) (zone-left next.at next.low))
          (either super parts taken wish choice some are.promised chosen level low);
    }

    pub are_kept : AreKept (taken_with taken wish.directory choice)
    are_kept = record {
      zones = λ zone is. after-taken super parts taken wish choice some are.promised chosen zone (are.zones zone is);
      growth = λ promise level there low. ⊎_elim
          (λ was. are.growth promise level was low)
          (λ (new : promise ≡ record { directory = wish.directory; place = choice.place; growth = choice.growth }).
          let G : Promise → Type 0 = λ p. level < length p.growth → kept (slice_index p.growth level) ≡ false in
          subst G (sym new) (has_none.growth level) low)
          (before-or super parts taken wish choice some are.promised chosen promise there);
      promised = promised_after super parts taken wish choice some are.promised chosen;
    }

-- ---- the room

module _ (view : Volume) (places : List DiskSector) (super : Super) (parts : Parts) (some : 0 < super.first) where
  abbrev Kept : Taken → Type 0
  Kept taken = AreKept super parts (is_of_places view places) some taken

  pub avoids_by : (chosen : Chosen) → HasNone super parts (is_of_places view places) some chosen.choice → AvoidsPlaces view places chosen
  avoids_by chosen none = record { zones = each-number (is_of_places view places) chosen.choice.zones none.zones; growth = none.growth }

  -- where nothing was promised at first
  pub kept_first : (taken : Taken) → ((zone : ℕ) → taken.has_zone zone ≡ is_of_places view places zone) → taken.promises ≡ [] → Kept taken
  kept_first taken has none = record {
    zones = λ zone is. has zone ∙ is;
    growth = λ promise level there low.
        let here = subst (λ (promises : List Promise). Contains promises promise) none there in
        let less = here.1 in
        absurd (omega (arith, less));
    promised = none_promised super parts taken none;
  }

  module _ (old new : Promised) (time : ℕ) (kept : Kept (taken_view old)) where
    pub backup_avoids : (own : Option OwnName) (backup : Option Chosen) → GivesFor super parts old new own time (Ok backup) → IfSome backup (AvoidsPlaces view places)
    backup_avoids None None gives = tt
    backup_avoids (Some own) (Some chosen) gives = avoids_by chosen (has_none super parts (is_of_places view places) some (taken_view old) (own_wish own 512 time) chosen.choice kept gives.0)
    backup_avoids None (Some chosen) gives = elim gives [ ]
    backup_avoids (Some own) None gives = elim gives [ ]

    pub kept_beside : (own : Option OwnName) (backup : Option Chosen) → GivesFor super parts old new own time (Ok backup) → Kept (taken_view new)
    kept_beside None None gives = subst (λ (t : Promised). Kept (taken_view t)) (sym gives) kept
    kept_beside (Some own) (Some chosen) gives =
        let after = are_kept super parts (is_of_places view places) some (taken_view old) (own_wish own 512 time) chosen.choice kept gives.0 in
        subst Kept (sym (ap taken_view gives.1 ∙ view_with old own.directory chosen.choice)) after
    kept_beside None (Some chosen) gives = elim gives [ ]
    kept_beside (Some own) None gives = elim gives [ ]

    pub map_avoids : (own : Option OwnName) (backup : Option Chosen) → GivesFor super parts old new own time (Ok backup)
        → (wish : Wish) (map : Chosen) → choose super parts (taken_view new) wish ≡ Ok map.choice → AvoidsPlaces view places map
    map_avoids own backup gives wish map chosen =
        avoids_by map (has_none super parts (is_of_places view places) some (taken_view new) wish map.choice (kept_beside own backup gives) chosen)
