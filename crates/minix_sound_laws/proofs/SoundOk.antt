-- On a sound volume a survey is Ok: each thing that is met passes its judgment.
use Rattle.std.proofs.Common.{◌≡◌, ◌≢◌, ◌⊎◌, ◌≤◌, ◌<◌, ◌==◌, ◌&&◌, ◌||◌, ◌++◌, nat_le, nat_lt, ℕ, suc, Bool, true, false, not, bytes_eq, List, [], ◌∷◌, length, Option, None, Some, Result, Ok, Err, refl, sym, ◌∙◌, ap, subst, inl, inr, arith, eq-eqb}
use Rattle.std.proofs.lemmas.Bool.{ne_eqb, le-leb, lt-ltb}
use Rattle.std.proofs.lemmas.Slice.Eq.{bytes_eq-Decides}
use Rattle.lilo_model.specs.MinixLayout.{Super, is_size}
use Rattle.lilo_model.specs.MinixParts.{Parts, ZoneFault, is_directory, has_zones}
use Rattle.lilo_model.specs.MinixEntries.{Entry, entry_with, here_name, above_name, is_dots}
use Rattle.lilo_model.specs.MinixNames.{entry, PointsTo, Named, HasSomeEntry, Sound}
use Rattle.lilo_model.specs.MinixWalk.{Visit, stop_number, met_at}
use Rattle.lilo_model.specs.MinixSurvey.{Spot, Met, Reaches, Refers, Stands, Ends, Surveyable, surveyable, was_reached, owner, has_name, names_of, zones_of, right_inode, root_spot, entry_check, judge, judged}
use Rattle.minix_survey_laws.specs.Survey.{IsSeenDirectory, IsTaken, NamesAt, EntryPlace, SurveyFacts}
use Rattle.minix_survey_laws.specs.Laws.{AreNamed, MeetsFacts}
use Rattle.minix_survey_laws.proofs.Facts.{facts_law}
use Rattle.minix_survey_laws.proofs.Paths.{root-leads}
use Rattle.minix_sound_laws.proofs.Lists.{In, in-right}
use Rattle.minix_sound_laws.proofs.Walk.{Fits, AllFit, fits-at, before-in, reached-in, reached-some, IsCome, IsBelow, IsFound, IsEntry, IsEnd}
use Rattle.minix_sound_laws.proofs.Good.{and-left, has-name, name-some, owner-some}
use Rattle.minix_sound_laws.proofs.Places.{place_at, places_in, count-places, place-of, new-by, apart-places, each-in}
use Rattle.minix_sound_laws.proofs.Pointers.{All, zones-are}
use Rattle.minix_sound_laws.proofs.SoundStops.{none-refused, pointed, once-met}

or-true : (a b : Bool) → b ≡ true → (not a || b) ≡ true
or-true true b is = is
or-true false b is = refl

not-unless : (a : Bool) → (a ≡ true → ⊥) → a ≡ false
not-unless true none = absurd (none refl)
not-unless false none = refl

implied : (a b : Bool) → (a ≡ true → b ≡ true) → (not a || b) ≡ true
implied true b is = is refl
implied false b is = refl

not-both : (a b : Bool) → (a ≡ true → b ≡ true → ⊥) → not (a && b) ≡ true
not-both true true none = absurd (none refl refl)
not-both true false none = refl
not-both false b none = refl

none-in : {X : Type 0} (earlier later : List X) (x : X) → [] ≡ earlier ++ (x ∷ later) → ⊥
none-in [] later x e = cc
none-in (y ∷ earlier) later x e = cc

in-tail : {X : Type 0} (earlier later : List X) (x : X) → In x (earlier ++ (x ∷ later))
in-tail earlier later x = in-right earlier (x ∷ later) x (inl refl)

module _ (super : Super) (parts : Parts) (sound : Sound super parts) where
  abbrev V : Surveyable
  V = surveyable super parts

  -- what zones are met of has zones
  pub zoned : (before : List Met) (inode : ℕ) (found : Result Visit ZoneFault) → IsFound V before inode found → (has : Bool) → has_zones (parts.node inode) ≡ has → has_zones (parts.node inode) ≡ true
  zoned before inode found here true is = is
  zoned before inode found here false is =
      let none : [] ≡ zones_of V inode = rw is refl in
      absurd (none-in here.earlier here.later found (none ∙ here.split))

  -- ---- what was reached has a name

  root-named : Named super parts 1
  root-named = record { path = []; leads = root-leads super parts }

  -- what is known of an entry that was met
  pub record IsMetAt (list : List Met) (directory : Spot) (place : ℕ) (what : Entry) : Type 0 where
    pub reached : In (Reaches directory) list
    pub from : IsSeenDirectory parts (was_reached list) directory.inode
    pub taken : IsTaken super parts directory.inode place
    pub is : entry super parts directory.inode place ≡ what

  met-entry : (list before : List Met) (directory : Spot) (place : ℕ) (what : Entry) → ((item : Met) → In item before → In item list) → IsEntry V before directory place what → IsMetAt list directory place what
  met-entry list before directory place what into fits = record {
    reached = into (Reaches directory) fits.seen;
    from = record {
      was = reached-in list directory directory.inode (into (Reaches directory) fits.seen) refl;
      is = and-left (is_directory (parts.node directory.inode)) (is_size super.kind (parts.node directory.inode).size) fits.has;
    };
    taken = record { below = fits.below; some = λ e. fits.some (ap (λ (w : Entry). w.inode) fits.is ∙ e) };
    is = sym fits.is;
  }

  pub met-at : (list : List Met) → AllFit V list → (directory : Spot) (place : ℕ) (what : Entry) → In (Stands directory place what) list → IsMetAt list directory place what
  met-at list fits directory place what has =
      let at = fits-at V list fits (Stands directory place what) has in
      met-entry list at.before directory place what (λ item has'. before-in V list (Stands directory place what) at item has') at.fits

  pub names-of : (list : List Met) (directory : Spot) (place : ℕ) (what : Entry) → IsMetAt list directory place what → is_dots what.name ≡ false
      → NamesAt super parts (was_reached list) directory.inode place what.inode
  names-of list directory place what at plain = record {
    from = at.from;
    by = record {
      taken = at.taken;
      is = ap (λ (w : Entry). w.inode) at.is;
      plain = ap (λ (w : Entry). is_dots w.name) at.is ∙ plain;
    };
  }

  pub are-named : (list : List Met) → ((spot : Spot) → In (Reaches spot) list → Named super parts spot.inode) → AreNamed super parts (was_reached list)
  are-named list named number was = let r = reached-some list number was in subst (Named super parts) r.is (named r.spot r.has)

  named-by : (before : List Met) → AllFit V before → ((spot : Spot) → In (Reaches spot) before → Named super parts spot.inode) → (spot : Spot) → (spot ≡ root_spot) ⊎ IsBelow before spot → Named super parts spot.inode
  named-by before fits named spot (inl root) = subst (λ (s : Spot). Named super parts s.inode) (sym root) root-named
  named-by before fits named spot (inr below) =
      let at = met-at before fits below.directory below.place below.what below.stands in
      let names = names-of before below.directory below.place below.what at below.plain in
      let meets = facts_law super parts (was_reached before) sound (are-named before named) in
      subst (Named super parts) (ap (λ (s : Spot). s.inode) below.is) (meets.entries below.directory.inode below.place below.what.inode names)

  pub spot-named : (list : List Met) → AllFit V list → (spot : Spot) → In (Reaches spot) list → Named super parts spot.inode
  spot-named [] fits spot has = absurd has
  spot-named (item ∷ before) fits spot (inr has) = spot-named before fits.1 spot has
  spot-named (item ∷ before) fits spot (inl same) =
      let come : IsCome before spot = subst (Fits V before) same fits.0 in
      named-by before fits.1 (λ other has. spot-named before fits.1 other has) spot come.from

  -- ---- what was met by some moment

  module _ (met : List Met) (fits-met : AllFit V met) where
    named : AreNamed super parts (was_reached met)
    named = are-named met (λ spot has. spot-named met fits-met spot has)

    meets : MeetsFacts super parts (was_reached met)
    meets = facts_law super parts (was_reached met) sound named

    level : ℕ → ℕ
    level = meets.levels.0

    facts : SurveyFacts super parts (was_reached met) level
    unfolding level
    facts = meets.facts meets.levels.0 meets.levels.1

    directory-spot : (spot : Spot) → In (Reaches spot) met → is_directory (parts.node spot.inode) ≡ true → IsSeenDirectory parts (was_reached met) spot.inode
    directory-spot spot has is = record { was = reached-in met spot spot.inode has refl; is = is }

    level-by : (before : List Met) → AllFit V before → ((item : Met) → In item before → In item met)
        → ((spot : Spot) → In (Reaches spot) before → is_directory (parts.node spot.inode) ≡ true → level spot.inode ≡ spot.level)
        → (spot : Spot) → In (Reaches spot) met → is_directory (parts.node spot.inode) ≡ true → (spot ≡ root_spot) ⊎ IsBelow before spot → level spot.inode ≡ spot.level
    level-by before fits into levels spot has is (inl root) =
        let one : spot.inode ≡ 1 = ap (λ (s : Spot). s.inode) root in
        let none : spot.level ≡ 0 = ap (λ (s : Spot). s.level) root in
        ap level one ∙ facts.root_level (subst (IsSeenDirectory parts (was_reached met)) one (directory-spot spot has is)) ∙ sym none
    level-by before fits into levels spot has is (inr below) =
        let inode : below.what.inode ≡ spot.inode = ap (λ (s : Spot). s.inode) below.is in
        let next : suc below.directory.level ≡ spot.level = ap (λ (s : Spot). s.level) below.is in
        let at = met-at before fits below.directory below.place below.what below.stands in
        let at' = met-at met fits-met below.directory below.place below.what (into (Stands below.directory below.place below.what) below.stands) in
        let names = names-of met below.directory below.place below.what at' below.plain in
        let names' = subst (NamesAt super parts (was_reached met) below.directory.inode below.place) inode names in
        facts.next_level below.directory.inode below.place spot.inode (directory-spot spot has is) names'
        ∙ ap suc (levels below.directory at.reached at.from.is) ∙ next

    level-in : (list : List Met) → AllFit V list → ((item : Met) → In item list → In item met) → (spot : Spot) → In (Reaches spot) list → is_directory (parts.node spot.inode) ≡ true → level spot.inode ≡ spot.level
    level-in [] fits into spot has is = absurd has
    level-in (item ∷ before) fits into spot (inr has) is = level-in before fits.1 (λ other has'. into other (inr has')) spot has is
    level-in (item ∷ before) fits into spot (inl same) is =
        let come : IsCome before spot = subst (Fits V before) same fits.0 in
        level-by before fits.1 (λ other has'. into other (inr has')) (λ other has' is'. level-in before fits.1 (λ one has''. into one (inr has'')) other has' is')
        spot (into (Reaches spot) (inl same)) is come.from

    -- ---- an inode

    spot-ok : (before : List Met) (spot : Spot) → In (Reaches spot) met → judge V before (Reaches spot) ≡ Ok tt
    unfolding judge
    spot-ok before spot has =
        let here = spot-named met fits-met spot has in
        let a : parts.has_inode spot.inode ≡ true = sound.marked spot.inode here in
        let b : (not (spot.inode == 1) || is_size super.kind (parts.node 1).size) ≡ true = or-true (spot.inode == 1) (is_size super.kind (parts.node 1).size) (sound.size 1 root-named) in
        let c : (not (spot.inode == 1) || is_directory (parts.node 1)) ≡ true = or-true (spot.inode == 1) (is_directory (parts.node 1)) sound.root in
        let d : (not (is_directory (parts.node spot.inode)) || nat_le spot.level 64) ≡ true =
        implied (is_directory (parts.node spot.inode)) (nat_le spot.level 64)
        (λ is. le-leb spot.level 64 (let low = facts.depth spot.inode (directory-spot spot has is) in
        let same : level spot.inode ≡ spot.level = level-in met fits-met (λ item has'. has') spot has is in subst (λ n. n ≤ 64) same low)) in
        rw (a, b, c, d) refl

    module _ (before : List Met) (fits : AllFit V before) (into : (item : Met) → In item before → In item met) where
      -- ---- a zone

      found-named : (inode : ℕ) (found : Result Visit ZoneFault) → IsFound V before inode found → Named super parts inode
      found-named inode found here = let r = reached-some before inode here.seen in subst (Named super parts) r.is (spot-named before fits r.spot r.has)

      found-at : (inode : ℕ) (found : Result Visit ZoneFault) (here : IsFound V before inode found) → has_zones (parts.node inode) ≡ true
          → met_at (stop_number super parts (parts.node inode)) (All super parts inode) ≡ here.earlier ++ (found ∷ here.later)
      found-at inode found here has = sym (zones-are super parts inode has) ∙ here.split

      -- what refers to the zone before it
      owner-is : (inode : ℕ) (visit : Visit) (here : IsFound V before inode (Ok visit)) (other : ℕ) → owner before visit.zone ≡ Some other → ⊥
      owner-is inode visit here other is =
          let has = zoned before inode (Ok visit) here _ refl in
          let list = found-at inode (Ok visit) here has in
          let named' = found-named inode (Ok visit) here in
          let to = pointed super parts sound inode named' has visit (subst (In (Ok visit)) (sym list) (in-tail here.earlier here.later (Ok visit))) in
          let by = owner-some before visit.zone other is in
          let at = fits-at V before fits (Refers other (Ok by.visit)) by.has in
          let has' = zoned at.before other (Ok by.visit) at.fits _ refl in
          let r = reached-some at.before other at.fits.seen in
          let named'' = subst (Named super parts) r.is (spot-named before fits r.spot (before-in V before (Refers other (Ok by.visit)) at (Reaches r.spot) r.has)) in
          let list' : met_at (stop_number super parts (parts.node other)) (All super parts other) ≡ at.fits.earlier ++ (Ok by.visit ∷ at.fits.later) = sym (zones-are super parts other has') ∙ at.fits.split in
          let to' = pointed super parts sound other named'' has' by.visit (subst (In (Ok by.visit)) (sym list') (in-tail at.fits.earlier at.fits.later (Ok by.visit))) in
          let same = (sound.once inode other to.at to'.at visit.zone (record { named = named'; to = to.to })
          (record { named = named''; to = subst (PointsTo super parts other to'.at) by.is to'.to })).0 in
          let by-here : In (Refers inode (Ok by.visit)) before = subst (λ n. In (Refers n (Ok by.visit)) before) (sym same) by.has in
          once-met super parts sound inode named' has by.visit visit here.earlier here.later list (here.only (Ok by.visit) by-here) by.is

      owner-none : (inode : ℕ) (visit : Visit) → IsFound V before inode (Ok visit) → (first : Option ℕ) → owner before visit.zone ≡ first → owner before visit.zone ≡ None
      owner-none inode visit here None is = is
      owner-none inode visit here (Some other) is = absurd (owner-is inode visit here other is)

      zone-ok : (inode : ℕ) (found : Result Visit ZoneFault) → IsFound V before inode found → judge V before (Refers inode found) ≡ Ok tt
      unfolding judge
      zone-ok inode (Err fault) here =
          let has = zoned before inode (Err fault) here _ refl in
          let list = found-at inode (Err fault) here has in
          absurd (none-refused super parts sound inode (found-named inode (Err fault) here) has fault (subst (In (Err fault)) (sym list) (in-tail here.earlier here.later (Err fault))))
      zone-ok inode (Ok visit) here =
          let has = zoned before inode (Ok visit) here _ refl in
          let list = found-at inode (Ok visit) here has in
          let named' = found-named inode (Ok visit) here in
          let to = pointed super parts sound inode named' has visit (subst (In (Ok visit)) (sym list) (in-tail here.earlier here.later (Ok visit))) in
          let marked : parts.has_zone visit.zone ≡ true = sound.zone_marked inode to.at visit.zone (record { named = named'; to = to.to }) in
          let none = owner-none inode visit here _ refl in
          rw (marked, none) refl

      -- ---- an entry

      module _ (directory : Spot) (place : ℕ) (what : Entry) (entry-fits : IsEntry V before directory place what) where
        at : IsMetAt met directory place what
        at = met-entry met before directory place what into entry-fits

        single-by : (has : Bool) → has_name before directory.inode what.name ≡ has → has_name before directory.inode what.name ≡ false
        single-by false is = is
        single-by true is =
            let one = name-some before directory.inode what.name is in
            let there = met-at met fits-met one.directory one.place one.what (into (Stands one.directory one.place one.what) one.has) in
            let taken' = subst (λ n. IsTaken super parts n one.place) one.at there.taken in
            let name' : (entry super parts directory.inode one.place).name ≡ what.name = ap (λ n. (entry super parts n one.place).name) (sym one.at) ∙ ap (λ (w : Entry). w.name) there.is ∙ one.is in
            let same : place ≡ one.place = facts.no_twice directory.inode place one.place at.from at.taken taken' (ap (λ (w : Entry). w.name) at.is ∙ sym name') in
            absurd (entry-fits.new one.directory one.what (subst (λ p. In (Stands one.directory p one.what) before) (sym same) one.has) one.at)

        single : has_name before directory.inode what.name ≡ false
        single = single-by _ refl

        -- the entry of a name is the one that a directory has
        right-by : (name : List ℕ) (inode : ℕ) → inode ≢ 0 → HasSomeEntry super parts directory.inode (entry_with inode name) → what.name ≡ name → what.inode ≡ inode
        right-by name inode some has is =
            let inode' : (entry super parts directory.inode has.0).inode ≡ inode = ap (λ (w : Entry). w.inode) has.1.is in
            let name' : (entry super parts directory.inode has.0).name ≡ name = ap (λ (w : Entry). w.name) has.1.is in
            let taken' : IsTaken super parts directory.inode has.0 = record { below = has.1.below; some = λ e. some (sym inode' ∙ e) } in
            let same : place ≡ has.0 = facts.no_twice directory.inode place has.0 at.from at.taken taken' (ap (λ (w : Entry). w.name) at.is ∙ is ∙ sym name') in
            sym (ap (λ (w : Entry). w.inode) at.is) ∙ ap (λ p. (entry super parts directory.inode p).inode) same ∙ inode'

        positive : (n : ℕ) → Named super parts n → n ≢ 0
        positive n named' = let some = (sound.in_range n named').0 in λ e. absurd (omega (arith, some, e))

        directory-named : Named super parts directory.inode
        directory-named = spot-named met fits-met directory at.reached

        above-by : (earlier : List Met) → ((item : Met) → In item earlier → In item met) → (directory ≡ root_spot) ⊎ IsBelow earlier directory
            → (directory.above ≢ 0) × HasSomeEntry super parts directory.inode (entry_with directory.above above_name)
        above-by earlier into' (inl root) =
            let one : 1 ≡ directory.inode = ap (λ (s : Spot). s.inode) (sym root) in
            let up : 1 ≡ directory.above = ap (λ (s : Spot). s.above) (sym root) in (
              λ e. let t : 1 ≡ 0 = up ∙ e in absurd (omega (arith, t)),
              subst (λ n. HasSomeEntry super parts directory.inode (entry_with n above_name)) up
                  (subst (λ n. HasSomeEntry super parts n (entry_with 1 above_name)) one sound.root_above),
            )
        above-by earlier into' (inr below) =
            let inode : below.what.inode ≡ directory.inode = ap (λ (s : Spot). s.inode) below.is in
            let up : below.directory.inode ≡ directory.above = ap (λ (s : Spot). s.above) below.is in
            let there = met-at met fits-met below.directory below.place below.what (into' (Stands below.directory below.place below.what) below.stands) in
            let names = subst (NamesAt super parts (was_reached met) below.directory.inode below.place) inode (names-of met below.directory below.place below.what there below.plain) in
            let has = facts.above below.directory.inode below.place directory.inode at.from names in (
              λ e. positive below.directory.inode (spot-named met fits-met below.directory there.reached) (up ∙ e),
              subst (λ n. HasSomeEntry super parts directory.inode (entry_with n above_name)) up has,
            )

        above-has : (directory.above ≢ 0) × HasSomeEntry super parts directory.inode (entry_with directory.above above_name)
        above-has =
            let from = fits-at V met fits-met (Reaches directory) at.reached in
            above-by from.before (λ item has. before-in V met (Reaches directory) from item has) from.fits.from

        same-name : (one two : List ℕ) → bytes_eq one two ≡ true → one ≡ two
        same-name one two is = (bytes_eq-Decides one two).0 is

        dots-by : is_dots what.name ≡ true → (here above : Bool) → bytes_eq here_name what.name ≡ here → bytes_eq above_name what.name ≡ above → what.inode ≡ right_inode directory what.name
        unfolding is_dots
        dots-by dots true above is is' =
            rw is (right-by here_name directory.inode (positive directory.inode directory-named) (facts.here directory.inode at.from) (sym (same-name here_name what.name is)))
        dots-by dots false true is is' =
            rw is (right-by above_name directory.above above-has.0 above-has.1 (sym (same-name above_name what.name is')))
        dots-by dots false false is is' = let e = rw (is, is') at dots in cc

        dots-ok : is_dots what.name ≡ true → judge V before (Stands directory place what) ≡ Ok tt
        unfolding judge
        dots-ok dots =
            let right : (what.inode == right_inode directory what.name) ≡ true = eq-eqb what.inode (right_inode directory what.name) (dots-by dots _ _ refl refl) in
            ap (entry_check V before directory place what) dots ∙ rw (right, single) refl

        names : is_dots what.name ≡ false → NamesAt super parts (was_reached met) directory.inode place what.inode
        names plain = names-of met directory place what at plain

        -- a directory that was reached is not named again
        fresh-by : is_dots what.name ≡ false → is_directory (parts.node what.inode) ≡ true → (spot : Spot) → In (Reaches spot) met → spot.inode ≡ what.inode
            → (earlier : List Met) → ((item : Met) → In item earlier → In item before) → (spot ≡ root_spot) ⊎ IsBelow earlier spot → ⊥
        fresh-by plain is spot has same earlier into' (inl root) =
            facts.not_root directory.inode place what.inode (names plain) (sym same ∙ ap (λ (s : Spot). s.inode) root)
        fresh-by plain is spot has same earlier into' (inr below) =
            let inode : below.what.inode ≡ what.inode = ap (λ (s : Spot). s.inode) below.is ∙ same in
            let stands = into' (Stands below.directory below.place below.what) below.stands in
            let there = met-at met fits-met below.directory below.place below.what (into (Stands below.directory below.place below.what) stands) in
            let names' = subst (NamesAt super parts (was_reached met) below.directory.inode below.place) inode (names-of met below.directory below.place below.what there below.plain) in
            let here : IsSeenDirectory parts (was_reached met) what.inode = record { was = reached-in met spot what.inode has same; is = is } in
            let one = facts.one_entry below.directory.inode directory.inode below.place place what.inode here names' (names plain) in
            entry-fits.new below.directory below.what (subst (λ p. In (Stands below.directory p below.what) before) one.1 stands) one.0

        fresh : is_dots what.name ≡ false → is_directory (parts.node what.inode) ≡ true → was_reached before what.inode ≡ true → ⊥
        fresh plain is was =
            let r = reached-some before what.inode was in
            let from = fits-at V before fits (Reaches r.spot) r.has in
            fresh-by plain is r.spot (into (Reaches r.spot) r.has) r.is from.before (λ item has. before-in V before (Reaches r.spot) from item has) from.fits.from

        -- the places that named its inode, and this one
        name-at : (other : EntryPlace) → In other (places_in before what.inode) → NamesAt super parts (was_reached met) other.directory other.place what.inode
        name-at other has =
            let it = place-of before what.inode other has in
            let there = met-at met fits-met it.directory other.place it.what (into (Stands it.directory other.place it.what) it.has) in
            subst (λ n. NamesAt super parts (was_reached met) other.directory other.place n) it.names
            (subst (λ d. NamesAt super parts (was_reached met) d other.place it.what.inode) it.is (names-of met it.directory other.place it.what there it.plain))

        new-place : In (place_at directory.inode place) (places_in before what.inode) → ⊥
        new-place has = let it = place-of before what.inode (place_at directory.inode place) has in entry-fits.new it.directory it.what it.has it.is

        links-low : is_dots what.name ≡ false → names_of before what.inode < (parts.node what.inode).links
        links-low plain =
            let all : List EntryPlace = places_in before what.inode in
            let few = facts.links what.inode (place_at directory.inode place ∷ places_in before what.inode)
            (new-by (place_at directory.inode place) (places_in before what.inode) new-place, apart-places V before what.inode fits)
            (names plain, each-in (λ other. NamesAt super parts (was_reached met) other.directory other.place what.inode) (places_in before what.inode) name-at) in
            let count : length all ≡ names_of before what.inode = count-places before what.inode in
            let few' : suc (length all) ≤ (parts.node what.inode).links = few in
            omega (arith, few', count)

        name-ok : is_dots what.name ≡ false → judge V before (Stands directory place what) ≡ Ok tt
        unfolding judge
        name-ok plain =
            let there : Named super parts what.inode = meets.entries directory.inode place what.inode (names plain) in
            let a : nat_le what.inode super.inodes ≡ true = le-leb what.inode super.inodes (sound.in_range what.inode there).1 in
            let b : is_size super.kind (parts.node what.inode).size ≡ true = sound.size what.inode there in
            let c : ((parts.node what.inode).mode == 0) ≡ false = ne_eqb (parts.node what.inode).mode 0 (sound.mode what.inode there) in
            let r : (what.inode == 1) ≡ false = ne_eqb what.inode 1 (facts.not_root directory.inode place what.inode (names plain)) in
            let d : not (is_directory (parts.node what.inode) && was_reached before what.inode) ≡ true =
            not-both (is_directory (parts.node what.inode)) (was_reached before what.inode) (fresh plain) in
            let f : nat_lt (names_of before what.inode) (parts.node what.inode).links ≡ true = lt-ltb (names_of before what.inode) (parts.node what.inode).links (links-low plain) in
            ap (entry_check V before directory place what) plain ∙ rw (a, b, c, r, d, single, f) refl

        entry-by : (dots : Bool) → is_dots what.name ≡ dots → judge V before (Stands directory place what) ≡ Ok tt
        entry-by true is = dots-ok is
        entry-by false is = name-ok is

        pub entry-ok : judge V before (Stands directory place what) ≡ Ok tt
        entry-ok = entry-by _ refl

      -- ---- the end of a directory

      end-has : (directory : Spot) (count : ℕ) (name : List ℕ) (inode : ℕ) → IsEnd V before directory count → inode ≢ 0 → HasSomeEntry super parts directory.inode (entry_with inode name)
          → has_name before directory.inode name ≡ true
      end-has directory count name inode ends some has =
          let inode' : (entry super parts directory.inode has.0).inode ≡ inode = ap (λ (w : Entry). w.inode) has.1.is in
          has-name before directory has.0 (entry super parts directory.inode has.0) directory.inode name
          (ends.all has.0 has.1.below (λ e. some (sym inode' ∙ e))) refl (ap (λ (w : Entry). w.name) has.1.is)

      end-above : (directory : Spot) → (IsSeenDirectory parts (was_reached met) directory.inode) → In (Reaches directory) met → (earlier : List Met) → ((item : Met) → In item earlier → In item met)
          → (directory ≡ root_spot) ⊎ IsBelow earlier directory → (inode : ℕ) × (inode ≢ 0) × HasSomeEntry super parts directory.inode (entry_with inode above_name)
      end-above directory from has earlier into' (inl root) =
          let one : 1 ≡ directory.inode = ap (λ (s : Spot). s.inode) (sym root) in
          (1, λ e. absurd (omega (arith, e)), subst (λ n. HasSomeEntry super parts n (entry_with 1 above_name)) one sound.root_above)
      end-above directory from has earlier into' (inr below) =
          let inode : below.what.inode ≡ directory.inode = ap (λ (s : Spot). s.inode) below.is in
          let there = met-at met fits-met below.directory below.place below.what (into' (Stands below.directory below.place below.what) below.stands) in
          let names = subst (NamesAt super parts (was_reached met) below.directory.inode below.place) inode (names-of met below.directory below.place below.what there below.plain) in
          let some = (sound.in_range below.directory.inode (spot-named met fits-met below.directory there.reached)).0 in
          (below.directory.inode, λ e. absurd (omega (arith, some, e)), facts.above below.directory.inode below.place directory.inode from names)

      end-ok : (directory : Spot) (count : ℕ) → IsEnd V before directory count → judge V before (Ends directory count) ≡ Ok tt
      unfolding judge
      end-ok directory count ends =
          let has = into (Reaches directory) ends.seen in
          let from : IsSeenDirectory parts (was_reached met) directory.inode = record {
            was = reached-in met directory directory.inode has refl;
            is = and-left (is_directory (parts.node directory.inode)) (is_size super.kind (parts.node directory.inode).size) ends.has;
          } in
          let some = (sound.in_range directory.inode (spot-named met fits-met directory has)).0 in
          let here : has_name before directory.inode here_name ≡ true = end-has directory count here_name directory.inode ends (λ e. absurd (omega (arith, some, e))) (facts.here directory.inode from) in
          let spot-at = fits-at V met fits-met (Reaches directory) has in
          let up = end-above directory from has spot-at.before (λ item has'. before-in V met (Reaches directory) spot-at item has') spot-at.fits.from in
          let above : has_name before directory.inode above_name ≡ true = end-has directory count above_name up.0 ends up.1 up.2 in
          rw (here, above) refl

      -- ---- each thing

      met-ok : (item : Met) → In item met → Fits V before item → judge V before item ≡ Ok tt
      met-ok (Reaches spot) has here = spot-ok before spot has
      met-ok (Refers inode found) has here = zone-ok inode found here
      met-ok (Stands directory place what) has here = entry-ok directory place what here
      met-ok (Ends directory count) has here = end-ok directory count here

    judged-in : (list : List Met) → AllFit V list → ((item : Met) → In item list → In item met) → judged V list ≡ Ok tt
    unfolding judged
    judged-in [] fits into = refl
    judged-in (item ∷ before) fits into =
        let first = judged-in before fits.1 (λ other has. into other (inr has)) in
        let last = met-ok before fits.1 (λ other has. into other (inr has)) item (into item (inl refl)) fits.0 in
        rw (first, last) refl

    pub judged-ok : judged V met ≡ Ok tt
    judged-ok = judged-in met fits-met (λ item has. has)
