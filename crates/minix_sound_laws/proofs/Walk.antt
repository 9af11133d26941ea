-- What a survey's walk meets, thing by thing.
use Rattle.std.proofs.Common.{◌≡◌, ◌≢◌, ◌⊎◌, ◌≤◌, ◌<◌, ◌+◌, ◌==◌, ◌||◌, ℕ, zero, suc, Bool, true, false, List, [], ◌∷◌, ◌++◌, Result, refl, sym, ◌∙◌, ap, subst, inl, inr, arith, append_assoc, eq-eqb}
use Rattle.std.proofs.lemmas.Bool.{eqb-true}
use Rattle.lilo_model.specs.MinixParts.{ZoneFault}
use Rattle.lilo_model.specs.MinixEntries.{Entry, is_dots}
use Rattle.lilo_model.specs.MinixNames.{entry}
use Rattle.lilo_model.specs.MinixWalk.{Visit}
use Rattle.lilo_model.specs.MinixSurvey.{Spot, Met, Reaches, Refers, Stands, Ends, Surveyable, is_reached, was_reached, with_zones, zones_of, with_inode, spot_below, entry_then, is_known, with_entries, has_entries, places_of, with_directory, with_all, root_spot, survey_walk}
use Rattle.minix_sound_laws.proofs.Lists.{In, any-in, any-some, in-left, in-right, Extends, ext-same, ext-trans, ext-in, not-head}

-- ---- what was reached

pub reached-in : (met : List Met) (spot : Spot) (inode : ℕ) → In (Reaches spot) met → spot.inode ≡ inode → was_reached met inode ≡ true
unfolding was_reached
reached-in met spot inode has same = any-in (is_reached inode) met (Reaches spot) has (let e = eq-eqb spot.inode inode same in e)

-- the spot by which an inode was reached
pub record IsReached (met : List Met) (inode : ℕ) : Type 0 where
  pub spot : Spot
  pub has : In (Reaches spot) met
  pub is : spot.inode ≡ inode

reached-by : (met : List Met) (inode : ℕ) (item : Met) → In item met → is_reached inode item ≡ true → IsReached met inode
reached-by met inode (Reaches spot) has is = record { spot = spot; has = has; is = eqb-true spot.inode inode is }
reached-by met inode (Refers other found) has is = cc
reached-by met inode (Stands directory place what) has is = cc
reached-by met inode (Ends directory places) has is = cc

pub reached-some : (met : List Met) (inode : ℕ) → was_reached met inode ≡ true → IsReached met inode
unfolding was_reached
reached-some met inode is = let some = any-some (is_reached inode) met is in reached-by met inode some.item some.has some.is

pub reached-ext : (next met : List Met) (inode : ℕ) → Extends next met → was_reached met inode ≡ true → was_reached next inode ≡ true
reached-ext next met inode grew is =
    let some = reached-some met inode is in
    reached-in next some.spot inode (ext-in next met grew (Reaches some.spot) some.has) some.is

-- ---- what each thing that is met says of what was met before

-- each inode that an entry names was reached
abbrev pub Followed : List Met → Type 0
Followed met = (directory : Spot) (place : ℕ) (what : Entry) → In (Stands directory place what) met → is_dots what.name ≡ false → was_reached met what.inode ≡ true

-- each but one
abbrev pub FollowedBut : List Met → ℕ → Type 0
FollowedBut met inode =
    (directory : Spot) (place : ℕ) (what : Entry) → In (Stands directory place what) met → is_dots what.name ≡ false
    → (what.inode ≡ inode) ⊎ (was_reached met what.inode ≡ true)

-- a spot is that below an entry
pub record IsBelow (before : List Met) (spot : Spot) : Type 0 where
  pub directory : Spot
  pub place : ℕ
  pub what : Entry
  pub stands : In (Stands directory place what) before
  pub plain : is_dots what.name ≡ false
  pub is : spot_below directory what.inode ≡ spot

pub record IsCome (before : List Met) (spot : Spot) : Type 0 where
  pub new : was_reached before spot.inode ≡ false
  pub from : (spot ≡ root_spot) ⊎ IsBelow before spot

module _ (volume : Surveyable) where
  pub record IsFound (before : List Met) (inode : ℕ) (found : Result Visit ZoneFault) : Type 0 where
    pub seen : was_reached before inode ≡ true
    pub earlier : List (Result Visit ZoneFault)
    pub later : List (Result Visit ZoneFault)
    pub split : zones_of volume inode ≡ earlier ++ (found ∷ later)
    pub only : (other : Result Visit ZoneFault) → In (Refers inode other) before → In other earlier

  pub record IsEntry (before : List Met) (directory : Spot) (place : ℕ) (what : Entry) : Type 0 where
    pub seen : In (Reaches directory) before
    pub has : has_entries volume directory.inode ≡ true
    pub below : place < places_of volume directory.inode
    pub is : what ≡ entry volume.super volume.parts directory.inode place
    pub some : what.inode ≢ 0
    pub new : (other : Spot) (name : Entry) → In (Stands other place name) before → other.inode ≡ directory.inode → ⊥
    pub followed : Followed before

  -- the entries of a directory at the places below a number that aren't free
  abbrev pub AllStand : List Met → Spot → ℕ → Type 0
  AllStand met directory count =
      (place : ℕ) → place < count → (entry volume.super volume.parts directory.inode place).inode ≢ 0
      → In (Stands directory place (entry volume.super volume.parts directory.inode place)) met

  pub record IsEnd (before : List Met) (directory : Spot) (places : ℕ) : Type 0 where
    pub seen : In (Reaches directory) before
    pub has : has_entries volume directory.inode ≡ true
    pub is : places ≡ places_of volume directory.inode
    pub all : AllStand before directory (places_of volume directory.inode)

  abbrev pub Fits : List Met → Met → Type 0
  Fits before (Reaches spot) = IsCome before spot
  Fits before (Refers inode found) = IsFound before inode found
  Fits before (Stands directory place what) = IsEntry before directory place what
  Fits before (Ends directory places) = IsEnd before directory places

  abbrev pub AllFit : List Met → Type 0
  AllFit [] = Unit {0}
  AllFit (met ∷ before) = Fits before met × AllFit before

  -- where a thing is met
  pub record FitsAt (met : List Met) (item : Met) : Type 0 where
    pub before : List Met
    pub fits : Fits before item
    pub all : AllFit before
    pub extends : Extends met (item ∷ before)

  pub fits-at : (met : List Met) → AllFit met → (item : Met) → In item met → FitsAt met item
  fits-at [] fits item has = absurd has
  fits-at (first ∷ before) fits item (inl same) = record { before = before; fits = subst (Fits before) same fits.0; all = fits.1; extends = inl (ap (λ m. m ∷ before) same) }
  fits-at (first ∷ before) fits item (inr has) =
      let rest = fits-at before fits.1 item has in
      record { before = rest.before; fits = rest.fits; all = rest.all; extends = inr rest.extends }

  -- what was met before a thing was met
  pub before-in : (met : List Met) (item : Met) (at : FitsAt met item) (other : Met) → In other at.before → In other met
  before-in met item at other has = ext-in met (item ∷ at.before) at.extends other (inr has)

  pub refers-reached : (met : List Met) → AllFit met → (inode : ℕ) (found : Result Visit ZoneFault) → In (Refers inode found) met → was_reached met inode ≡ true
  refers-reached met fits inode found has =
      let at = fits-at met fits (Refers inode found) has in
      let some = reached-some at.before inode at.fits.seen in
      reached-in met some.spot inode (before-in met (Refers inode found) at (Reaches some.spot) some.has) some.is

  pub stands-reached : (met : List Met) → AllFit met → (directory : Spot) (place : ℕ) (what : Entry) → In (Stands directory place what) met → was_reached met directory.inode ≡ true
  stands-reached met fits directory place what has =
      let at = fits-at met fits (Stands directory place what) has in
      reached-in met directory directory.inode (before-in met (Stands directory place what) at (Reaches directory) at.fits.seen) refl

  -- ---- an inode and its zones

  pub zones-extend : (inode : ℕ) (rest : List (Result Visit ZoneFault)) (met : List Met) → Extends (with_zones inode rest met) met
  zones-extend inode [] met = ext-same met
  zones-extend inode (found ∷ rest) met =
      ext-trans (with_zones inode rest (Refers inode found ∷ met)) (Refers inode found ∷ met) met (zones-extend inode rest (Refers inode found ∷ met)) (inr (ext-same met))

  zones-old : (inode : ℕ) (rest : List (Result Visit ZoneFault)) (met : List Met) (item : Met) → ((found : Result Visit ZoneFault) → Refers inode found ≡ item → ⊥)
      → In item (with_zones inode rest met) → In item met
  zones-old inode [] met item other has = has
  zones-old inode (found ∷ rest) met item other has = not-head (Refers inode found) met item (other found) (zones-old inode rest (Refers inode found ∷ met) item other has)

  zones-fit : (inode : ℕ) (earlier rest : List (Result Visit ZoneFault)) (met : List Met) → zones_of volume inode ≡ earlier ++ rest → was_reached met inode ≡ true
      → ((other : Result Visit ZoneFault) → In (Refers inode other) met → In other earlier) → AllFit met → AllFit (with_zones inode rest met)
  unfolding was_reached
  zones-fit inode earlier [] met split seen only fits = fits
  zones-fit inode earlier (found ∷ rest) met split seen only fits =
      zones-fit inode (earlier ++ (found ∷ [])) rest (Refers inode found ∷ met) (split ∙ sym (append_assoc earlier (found ∷ []) rest)) seen only-next
      (record { seen = seen; earlier = earlier; later = rest; split = split; only = only }, fits)
    where
      only-next : (other : Result Visit ZoneFault) → In (Refers inode other) (Refers inode found ∷ met) → In other (earlier ++ (found ∷ []))
      only-next other (inl same) = in-right earlier (found ∷ []) other (inl cc)
      only-next other (inr has) = in-left earlier (found ∷ []) other (only other has)

  -- an inode was met, and its zones
  pub record MeetsInode (spot : Spot) (met next : List Met) : Type 0 where
    pub fits : AllFit next
    pub extends : Extends next met
    pub here : In (Reaches spot) next
    pub stands : (directory : Spot) (place : ℕ) (what : Entry) → In (Stands directory place what) next → In (Stands directory place what) met
    pub reaches : (other : Spot) → In (Reaches other) next → (spot ≡ other) ⊎ In (Reaches other) met
    pub followed : Followed next

  module _ (spot : Spot) (met : List Met) (fits : AllFit met) (come : IsCome met spot) (followed : FollowedBut met spot.inode) where
    abbrev Base : List Met
    Base = with_zones spot.inode (zones_of volume spot.inode) (Reaches spot ∷ met)

    base-extends : Extends Base (Reaches spot ∷ met)
    base-extends = zones-extend spot.inode (zones_of volume spot.inode) (Reaches spot ∷ met)

    base-here : In (Reaches spot) Base
    base-here = ext-in Base (Reaches spot ∷ met) base-extends (Reaches spot) (inl refl)

    none-yet : (other : Result Visit ZoneFault) → In (Refers spot.inode other) (Reaches spot ∷ met) → In other []
    none-yet other (inl same) = cc
    none-yet other (inr has) = let e = refers-reached met fits spot.inode other has in let n = come.new in cc

    base-stands : (directory : Spot) (place : ℕ) (what : Entry) → In (Stands directory place what) Base → In (Stands directory place what) met
    base-stands directory place what has =
        not-head (Reaches spot) met (Stands directory place what) (λ e. cc)
        (zones-old spot.inode (zones_of volume spot.inode) (Reaches spot ∷ met) (Stands directory place what) (λ found e. cc) has)

    base-reaches : (other : Spot) → In (Reaches other) Base → (spot ≡ other) ⊎ In (Reaches other) met
    base-reaches other has = by_case (zones-old spot.inode (zones_of volume spot.inode) (Reaches spot ∷ met) (Reaches other) (λ found e. cc) has)
      where
        by_case : In (Reaches other) (Reaches spot ∷ met) → (spot ≡ other) ⊎ In (Reaches other) met
        by_case (inl same) = inl cc
        by_case (inr has') = inr has'

    base-followed : Followed Base
    base-followed directory place what has plain = by_case (followed directory place what (base-stands directory place what has) plain)
      where
        by_case : (what.inode ≡ spot.inode) ⊎ (was_reached met what.inode ≡ true) → was_reached Base what.inode ≡ true
        by_case (inl same) = reached-in Base spot what.inode base-here (sym same)
        by_case (inr was) = reached-ext Base met what.inode (ext-trans Base (Reaches spot ∷ met) met base-extends (inr (ext-same met))) was

    base-seen : was_reached (Reaches spot ∷ met) spot.inode ≡ true
    base-seen = reached-in (Reaches spot ∷ met) spot spot.inode (inl refl) refl

    pub meets-inode : MeetsInode spot met (with_inode volume spot met)
    unfolding with_inode
    meets-inode = record {
      fits = zones-fit spot.inode [] (zones_of volume spot.inode) (Reaches spot ∷ met) refl base-seen none-yet (come, fits);
      extends = ext-trans Base (Reaches spot ∷ met) met base-extends (inr (ext-same met));
      here = base-here;
      stands = base-stands;
      reaches = base-reaches;
      followed = base-followed;
    }

  -- ---- all from an inode on

  -- an inode was met with all that it has
  pub record Done (next : List Met) (spot : Spot) : Type 0 where
    pub before : List Met
    pub inode : Extends next (with_inode volume spot before)
    pub entries : has_entries volume spot.inode ≡ true → spot.level ≤ 64 → In (Ends spot (places_of volume spot.inode)) next

  done-ext : (next met : List Met) (spot : Spot) → Extends next met → Done met spot → Done next spot
  done-ext next met spot grew done = record {
    before = done.before;
    inode = ext-trans next met (with_inode volume spot done.before) grew done.inode;
    entries = λ has low. ext-in next met grew (Ends spot (places_of volume spot.inode)) (done.entries has low);
  }

  pub record Grows (met next : List Met) (spot : Spot) : Type 0 where
    pub fits : AllFit next
    pub extends : Extends next met
    pub here : In (Reaches spot) next
    -- no directory that was reached has more entries
    pub old : (directory : Spot) (place : ℕ) (what : Entry) → In (Stands directory place what) next → was_reached met directory.inode ≡ true → In (Stands directory place what) met
    pub done : (other : Spot) → In (Reaches other) next → In (Reaches other) met ⊎ Done next other
    pub followed : Followed next

  abbrev pub Visits : (Spot → List Met → List Met) → ℕ → Type 0
  Visits visit left = (spot : Spot) (met : List Met) → spot.level + left ≡ 65 → AllFit met → IsCome met spot → FollowedBut met spot.inode → Grows met (visit spot met) spot

  -- ---- a directory

  module _ (visit : Spot → List Met → List Met) (left : ℕ) (visits : Visits visit left)
      (spot : Spot) (met : List Met) (level : spot.level + suc left ≡ 65) (new : was_reached met spot.inode ≡ false)
      (meets : MeetsInode spot met (with_inode volume spot met)) (fits-met : AllFit met) (has : has_entries volume spot.inode ≡ true) where
    abbrev base : List Met
    base = with_inode volume spot met

    abbrev At : ℕ → Entry
    At place = entry volume.super volume.parts spot.inode place

    record Entries (count : ℕ) (next : List Met) : Type 0 where
      pub fits : AllFit next
      pub extends : Extends next base
      pub stands : (directory : Spot) (place : ℕ) (what : Entry) → In (Stands directory place what) next → was_reached base directory.inode ≡ true
          → In (Stands directory place what) base ⊎ ((directory.inode ≡ spot.inode) × (place < count))
      pub done : (other : Spot) → In (Reaches other) next → In (Reaches other) base ⊎ Done next other
      pub followed : Followed next
      pub all : AllStand next spot count

    entries-none : Entries 0 base
    entries-none = record {
      fits = meets.fits;
      extends = ext-same base;
      stands = λ directory place what is was. inl is;
      done = λ other is. inl is;
      followed = meets.followed;
      all = λ place below some. absurd (omega (arith, below));
    }

    module _ (count : ℕ) (next : List Met) (inner : Entries count next) (below : count < places_of volume spot.inode) where
      later-place : (directory : Spot) (place : ℕ) (what : Entry) → In (Stands directory place what) base ⊎ ((directory.inode ≡ spot.inode) × (place < count))
          → In (Stands directory place what) base ⊎ ((directory.inode ≡ spot.inode) × (place < suc count))
      later-place directory place what (inl is) = inl is
      later-place directory place what (inr is) = let low : place < count = is.1 in inr (is.0, omega (arith, low))

      all-next : (next' : List Met) → Extends next' next → ((At count).inode ≢ 0 → In (Stands spot count (At count)) next') → AllStand next' spot (suc count)
      all-next next' grew last place low some = by_case (place == count) refl
        where
          by_case : (here : Bool) → (place == count) ≡ here → In (Stands spot place (At place)) next'
          by_case true here =
              let same : place ≡ count = eqb-true place count here in
              subst (λ p. In (Stands spot p (At p)) next') (sym same) (last (λ e. some (ap (λ p. (At p).inode) same ∙ e)))
          by_case false here =
              let other : place ≢ count = λ e. let t = eq-eqb place count e in cc in
              ext-in next' next grew (Stands spot place (At place)) (inner.all place (omega (arith, low, other)) some)

      entry-free : (At count).inode ≡ 0 → Entries (suc count) next
      entry-free free = record {
        fits = inner.fits;
        extends = inner.extends;
        stands = λ directory place what is was. later-place directory place what (inner.stands directory place what is was);
        done = inner.done;
        followed = inner.followed;
        all = all-next next (ext-same next) (λ some. absurd (some free));
      }

      base-reached : was_reached base spot.inode ≡ true
      base-reached = reached-in base spot spot.inode meets.here refl

      is-new : (other : Spot) (name : Entry) → In (Stands other count name) next → other.inode ≡ spot.inode → ⊥
      is-new other name is same = by_case (inner.stands other count name is (subst (λ n. was_reached base n ≡ true) (sym same) base-reached))
        where
          by_case : In (Stands other count name) base ⊎ ((other.inode ≡ spot.inode) × (count < count)) → ⊥
          by_case (inl was) =
              let reached : was_reached met other.inode ≡ true = stands-reached met fits-met other count name (meets.stands other count name was) in
              let reached' : was_reached met spot.inode ≡ true = subst (λ n. was_reached met n ≡ true) same reached in
              cc
          by_case (inr low) = let l : count < count = low.1 in absurd (omega (arith, l))

      is-entry : (At count).inode ≢ 0 → IsEntry next spot count (At count)
      is-entry some = record {
        seen = ext-in next base inner.extends (Reaches spot) meets.here;
        has = has;
        below = below;
        is = refl;
        some = some;
        new = is-new;
        followed = inner.followed;
      }

      -- an entry is met
      abbrev Next : List Met
      Next = Stands spot count (At count) ∷ next

      stands-next : (directory : Spot) (place : ℕ) (what : Entry) → In (Stands directory place what) Next → was_reached base directory.inode ≡ true
          → In (Stands directory place what) base ⊎ ((directory.inode ≡ spot.inode) × (place < suc count))
      stands-next directory place what (inl same) was =
          let one : spot ≡ directory = cc in
          let two : count ≡ place = cc in
          inr (ap (λ (s : Spot). s.inode) (sym one), omega (arith, two))
      stands-next directory place what (inr is) was = later-place directory place what (inner.stands directory place what is was)

      done-next : (other : Spot) (next' : List Met) → Extends next' next → In (Reaches other) Next → In (Reaches other) base ⊎ Done next' other
      done-next other next' grew is = by_case (inner.done other (not-head (Stands spot count (At count)) next (Reaches other) (λ e. cc) is))
        where
          by_case : In (Reaches other) base ⊎ Done next other → In (Reaches other) base ⊎ Done next' other
          by_case (inl was) = inl was
          by_case (inr done) = inr (done-ext next' next other grew done)

      reached-next : (inode : ℕ) → was_reached next inode ≡ true → was_reached Next inode ≡ true
      reached-next inode was = reached-ext Next next inode (inr (ext-same next)) was

      entry-known : (At count).inode ≢ 0 → is_known (At count) next ≡ true → Entries (suc count) Next
      entry-known some known = record {
        fits = (is-entry some, inner.fits);
        extends = inr inner.extends;
        stands = stands-next;
        done = λ other is. done-next other Next (inr (ext-same next)) is;
        followed = followed-next;
        all = all-next Next (inr (ext-same next)) (λ some'. inl refl);
      }
        where
          known-plain : (dots : Bool) → (dots || was_reached next (At count).inode) ≡ true → dots ≡ false → was_reached next (At count).inode ≡ true
          known-plain true is plain = cc
          known-plain false is plain = is

          followed-next : Followed Next
          followed-next directory place what (inl same) plain =
              let one : At count ≡ what = cc in
              let was = known-plain (is_dots (At count).name) known (ap (λ (e : Entry). is_dots e.name) one ∙ plain) in
              reached-next what.inode (subst (λ (e : Entry). was_reached next e.inode ≡ true) one was)
          followed-next directory place what (inr is) plain = reached-next what.inode (inner.followed directory place what is plain)

      abbrev There : Spot
      There = spot_below spot (At count).inode

      plain-by : (dots was : Bool) → (dots || was) ≡ false → (dots ≡ false) × (was ≡ false)
      plain-by true was is = cc
      plain-by false was is = (refl, is)

      not-reached : was_reached next (At count).inode ≡ false → was_reached Next (At count).inode ≡ false
      unfolding was_reached
      not-reached is = is

      entry-new : (At count).inode ≢ 0 → is_known (At count) next ≡ false → Entries (suc count) (visit (spot_below spot (At count).inode) Next)
      entry-new some known = record {
        fits = grows.fits;
        extends = ext-trans (visit There Next) Next base grows.extends (inr inner.extends);
        stands = λ directory place what is was. stands-next directory place what (grows.old directory place what is (reached-ext Next base directory.inode (inr inner.extends) was)) was;
        done = λ other is. done-by other (grows.done other is);
        followed = grows.followed;
        all = all-next (visit There Next) (ext-trans (visit There Next) Next next grows.extends (inr (ext-same next)))
            (λ some'. ext-in (visit There Next) Next grows.extends (Stands spot count (At count)) (inl refl));
      }
        where
          followed-but : FollowedBut Next (At count).inode
          followed-but directory place what (inl same) plain = inl (let one : At count ≡ what = cc in ap (λ (e : Entry). e.inode) (sym one))
          followed-but directory place what (inr is) plain = inr (reached-next what.inode (inner.followed directory place what is plain))

          both : (is_dots (At count).name ≡ false) × (was_reached next (At count).inode ≡ false)
          both = plain-by (is_dots (At count).name) (was_reached next (At count).inode) known

          grows : Grows Next (visit There Next) There
          grows = visits There Next (omega (arith, level)) (is-entry some, inner.fits)
              (record { new = not-reached both.1; from = inr (record { directory = spot; place = count; what = At count; stands = inl refl; plain = both.0; is = refl }) })
              followed-but

          done-by : (other : Spot) → In (Reaches other) Next ⊎ Done (visit There Next) other → In (Reaches other) base ⊎ Done (visit There Next) other
          done-by other (inl is) = done-next other (visit There Next) (ext-trans (visit There Next) Next next grows.extends (inr (ext-same next))) is
          done-by other (inr done) = inr done

      entry-by : (free known : Bool) → ((At count).inode == 0) ≡ free → is_known (At count) next ≡ known → Entries (suc count) (entry_then visit spot count (At count) free known next)
      entry-by true known is is' = entry-free (eqb-true (At count).inode 0 is)
      entry-by false true is is' = entry-known (λ e. let t = eq-eqb (At count).inode 0 e in cc) is'
      entry-by false false is is' = entry-new (λ e. let t = eq-eqb (At count).inode 0 e in cc) is'

    entries-all : (count : ℕ) → count ≤ places_of volume spot.inode → Entries count (with_entries visit spot (entry volume.super volume.parts spot.inode) count base)
    entries-all zero low = entries-none
    entries-all (suc count) low =
        entry-by count (with_entries visit spot (entry volume.super volume.parts spot.inode) count base) (entries-all count (omega (arith, low))) (omega (arith, low)) _ _ refl refl

    -- the whole of it
    abbrev Whole : List Met
    Whole = with_entries visit spot (entry volume.super volume.parts spot.inode) (places_of volume spot.inode) base

    directory-grows : Grows met (with_directory visit volume spot true base) spot
    directory-grows = record {
      fits = (record { seen = seen; has = has; is = refl; all = whole.all }, whole.fits);
      extends = inr (ext-trans Whole base met whole.extends meets.extends);
      here = inr seen;
      old = old;
      done = done;
      followed = λ directory place what is plain.
          reached-ext (with_directory visit volume spot true base) Whole what.inode (inr (ext-same Whole))
          (whole.followed directory place what (not-head (Ends spot (places_of volume spot.inode)) Whole (Stands directory place what) (λ e. cc) is) plain);
    }
      where
        whole : Entries (places_of volume spot.inode) Whole
        whole = entries-all (places_of volume spot.inode) (omega arith)

        seen : In (Reaches spot) Whole
        seen = ext-in Whole base whole.extends (Reaches spot) meets.here

        old-by : (directory : Spot) (place : ℕ) (what : Entry) → was_reached met directory.inode ≡ true
            → In (Stands directory place what) base ⊎ ((directory.inode ≡ spot.inode) × (place < places_of volume spot.inode)) → In (Stands directory place what) met
        old-by directory place what was (inl is) = meets.stands directory place what is
        old-by directory place what was (inr is) = let t : was_reached met spot.inode ≡ true = subst (λ n. was_reached met n ≡ true) is.0 was in cc

        old : (directory : Spot) (place : ℕ) (what : Entry) → In (Stands directory place what) (with_directory visit volume spot true base) → was_reached met directory.inode ≡ true
            → In (Stands directory place what) met
        old directory place what is was =
            old-by directory place what was
            (whole.stands directory place what (not-head (Ends spot (places_of volume spot.inode)) Whole (Stands directory place what) (λ e. cc) is)
            (reached-ext base met directory.inode meets.extends was))

        done-by : (other : Spot) → (spot ≡ other) ⊎ In (Reaches other) met → In (Reaches other) met ⊎ Done (with_directory visit volume spot true base) other
        done-by other (inl same) = inr (subst (Done (with_directory visit volume spot true base)) same (spot-done))
          where
            spot-done : Done (with_directory visit volume spot true base) spot
            spot-done = record { before = met; inode = inr whole.extends; entries = λ has' low. inl refl }
        done-by other (inr is) = inl is

        done : (other : Spot) → In (Reaches other) (with_directory visit volume spot true base) → In (Reaches other) met ⊎ Done (with_directory visit volume spot true base) other
        done other is = by_case (whole.done other (not-head (Ends spot (places_of volume spot.inode)) Whole (Reaches other) (λ e. cc) is))
          where
            by_case : In (Reaches other) base ⊎ Done Whole other → In (Reaches other) met ⊎ Done (with_directory visit volume spot true base) other
            by_case (inl was) = done-by other (meets.reaches other was)
            by_case (inr is') = inr (done-ext (with_directory visit volume spot true base) Whole other (inr (ext-same Whole)) is')

  -- ---- the whole walk

  -- an inode of which no entries are looked at
  inode-grows : (left : ℕ) (spot : Spot) (met : List Met) → IsCome met spot → MeetsInode spot met (with_inode volume spot met)
      → (has_entries volume spot.inode ≡ true → spot.level ≤ 64 → ⊥) → Grows met (with_inode volume spot met) spot
  inode-grows left spot met come meets none = record {
    fits = meets.fits;
    extends = meets.extends;
    here = meets.here;
    old = λ directory place what is was. meets.stands directory place what is;
    done = λ other is. done-by other (meets.reaches other is);
    followed = meets.followed;
  }
    where
      done-by : (other : Spot) → (spot ≡ other) ⊎ In (Reaches other) met → In (Reaches other) met ⊎ Done (with_inode volume spot met) other
      done-by other (inl same) = inr (subst (Done (with_inode volume spot met)) same (record { before = met; inode = ext-same (with_inode volume spot met); entries = λ has low. absurd (none has low) }))
      done-by other (inr is) = inl is

  level-visits : (left : ℕ) → Visits (with_all volume left) left → (spot : Spot) (met : List Met) → spot.level + suc left ≡ 65 → AllFit met → IsCome met spot → FollowedBut met spot.inode
      → (has : Bool) → has_entries volume spot.inode ≡ has → Grows met (with_directory (with_all volume left) volume spot has (with_inode volume spot met)) spot
  level-visits left inner spot met level fits come followed true has =
      directory-grows (with_all volume left) left inner spot met level come.new (meets-inode spot met fits come followed) fits has
  level-visits left inner spot met level fits come followed false has =
      inode-grows (suc left) spot met come (meets-inode spot met fits come followed) (λ has' low. cc)

  pub all-visits : (left : ℕ) → Visits (with_all volume left) left
  all-visits zero spot met level fits come followed =
      inode-grows 0 spot met come (meets-inode spot met fits come followed) (λ has low. omega (arith, level, low))
  all-visits (suc left) spot met level fits come followed = level-visits left (all-visits left) spot met level fits come followed _ refl

  root-come : IsCome [] root_spot
  unfolding was_reached
  root-come = record { new = refl; from = inl refl }

  pub walk-grows : Grows [] (survey_walk volume) root_spot
  unfolding survey_walk
  walk-grows = all-visits 65 root_spot [] refl tt root-come (λ directory place what is plain. absurd is)
