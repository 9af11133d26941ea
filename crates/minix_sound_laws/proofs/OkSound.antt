-- Where a survey is Ok its facts hold, and so the volume is sound.
use Rattle.std.proofs.Common.{◌≡◌, ◌≢◌, ◌⊎◌, ◌≤◌, ◌<◌, ◌==◌, ◌&&◌, ◌/◌, ◌-◌, nat_lt, ℕ, suc, Bool, true, false, List, [], ◌∷◌, length, Ok, refl, sym, ◌∙◌, ap, subst, inl, inr, arith}
use Rattle.std.proofs.lemmas.Bool.{eqb-true}
use Rattle.lilo_model.specs.MinixLayout.{Super, numbers_in_zone, is_size}
use Rattle.lilo_model.specs.MinixParts.{Parts, Pointer, is_directory, at_pointer}
use Rattle.lilo_model.specs.MinixEntries.{Entry, entry_with, places, here_name, above_name, is_dots}
use Rattle.lilo_model.specs.MinixNames.{entry, PointsTo, HasSomeEntry, Sound, depth_limit}
use Rattle.lilo_model.specs.MinixWalk.{Visit, Stop, stop_pointer, stop_number, met_at}
use Rattle.lilo_model.specs.MinixSurvey.{Spot, Met, Reaches, Refers, Stands, Ends, Surveyable, surveyable, was_reached, has_name, names_of, has_entries, places_of, zones_of, with_zones, with_inode, right_inode, root_spot, names_it, judged}
use Rattle.minix_survey_laws.specs.Survey.{IsGoodInode, IsGoodZone, IsSeenDirectory, IsTaken, NamesAt, EntryPlace, AreApart, AllName, SurveyFacts, Surveyed}
use Rattle.minix_survey_laws.proofs.Paths.{survey_law}
use Rattle.minix_sound_laws.specs.Laws.{HasNumbers}
use Rattle.minix_sound_laws.proofs.Lists.{In, Extends, ext-in}
use Rattle.minix_sound_laws.proofs.Walk.{IsReached, reached-in, reached-some, IsBelow, Grows, Done}
use Rattle.minix_sound_laws.proofs.Good.{AllGood, good-of, good-ext, GoodAt, good-at, good-before, IsAfter, order, SpotPasses, spot-passes, NamePasses, name-passes, dots-pass, zone-passes, single, end-passes, has-name, name-some, owner-none, apart}
use Rattle.minix_sound_laws.proofs.Places.{place_at, places_in, count-places, is-named, names-it, in-places, places-most}
use Rattle.minix_sound_laws.proofs.Stops.{AreClear, zones-clear, zones-in, good-stop, stops-apart}
use Rattle.minix_sound_laws.proofs.SoundStops.{stop-short}
use Rattle.minix_sound_laws.proofs.Pointers.{stop-is, has-stop, zones-are, pointer-range, pointer-is, All, HasStop}
use Rattle.minix_survey_laws.proofs.Count.{each-of}

module _ (super : Super) (parts : Parts) (numbers : HasNumbers super parts) (met : List Met)
    (grows : Grows (surveyable super parts) [] met root_spot) (ok : judged (surveyable super parts) met ≡ Ok tt) where
  abbrev V : Surveyable
  V = surveyable super parts

  good : AllGood V met
  good = good-of V met grows.fits ok

  abbrev pub seen : ℕ → Bool
  seen = was_reached met

  done-by : (spot : Spot) → In (Reaches spot) [] ⊎ Done V met spot → Done V met spot
  done-by spot (inl none) = absurd none
  done-by spot (inr done) = done

  done : (spot : Spot) → In (Reaches spot) met → Done V met spot
  done spot has = done-by spot (grows.done spot has)

  -- ---- inodes

  at-spot : (spot : Spot) → In (Reaches spot) met → GoodAt V met (Reaches spot)
  at-spot spot has = good-at V met good (Reaches spot) has

  passes-spot : (spot : Spot) → In (Reaches spot) met → SpotPasses V spot
  passes-spot spot has = let at = at-spot spot has in spot-passes V at.before spot at.ok

  at-entry : (directory : Spot) (place : ℕ) (what : Entry) → In (Stands directory place what) met → GoodAt V met (Stands directory place what)
  at-entry directory place what has = good-at V met good (Stands directory place what) has

  -- an entry in what was met by which a spot was come to
  pub record IsFrom (spot : Spot) : Type 0 where
    pub directory : Spot
    pub place : ℕ
    pub what : Entry
    pub has : In (Stands directory place what) met
    pub plain : is_dots what.name ≡ false
    pub inode : what.inode ≡ spot.inode
    pub above : directory.inode ≡ spot.above
    pub level : suc directory.level ≡ spot.level

  from-below : (spot : Spot) (has : In (Reaches spot) met) → (spot ≡ root_spot) ⊎ IsBelow (at-spot spot has).before spot → (spot ≡ root_spot) ⊎ IsFrom spot
  from-below spot has (inl root) = inl root
  from-below spot has (inr below) = inr (record {
    directory = below.directory;
    place = below.place;
    what = below.what;
    has = good-before V met (Reaches spot) (at-spot spot has) (Stands below.directory below.place below.what) below.stands;
    plain = below.plain;
    inode = ap (λ (s : Spot). s.inode) below.is;
    above = ap (λ (s : Spot). s.above) below.is;
    level = ap (λ (s : Spot). s.level) below.is;
  })

  from-spot : (spot : Spot) → In (Reaches spot) met → (spot ≡ root_spot) ⊎ IsFrom spot
  from-spot spot has = from-below spot has (at-spot spot has).fits.from

  entry-passes : (directory : Spot) (place : ℕ) (what : Entry) (has : In (Stands directory place what) met) → is_dots what.name ≡ false
      → NamePasses V (at-entry directory place what has).before directory what
  entry-passes directory place what has plain = let at = at-entry directory place what has in name-passes V at.before directory place what plain at.ok

  root-mode : is_directory (parts.node 1) ≡ true → (parts.node 1).mode ≢ 0
  root-mode is none =
      let d : ((parts.node 1).mode / 4096 == 4) ≡ true = is in
      let e : (0 / 4096 == 4) ≡ true = subst (λ m. (m / 4096 == 4) ≡ true) none d in
      cc

  good-by : (spot : Spot) (has : In (Reaches spot) met) → (spot ≡ root_spot) ⊎ IsFrom spot → IsGoodInode super parts spot.inode
  good-by spot has (inl root) =
      let one : spot.inode ≡ 1 = ap (λ (s : Spot). s.inode) root in
      let passes = passes-spot spot has in
      let low : 1 ≤ super.inodes = numbers.some in
      record {
        some = omega (arith, one);
        below = omega (arith, one, low);
        marked = passes.marked;
        mode = subst (λ n. (parts.node n).mode ≢ 0) (sym one) (root-mode (passes.root one));
        size = subst (λ n. is_size super.kind (parts.node n).size ≡ true) (sym one) (passes.root_size one);
      }
  good-by spot has (inr from) =
      let passes = entry-passes from.directory from.place from.what from.has from.plain in
      let some : from.what.inode ≢ 0 = (at-entry from.directory from.place from.what from.has).fits.some in
      record {
        some = positive spot.inode (λ e. some (from.inode ∙ e));
        below = subst (λ n. n ≤ super.inodes) from.inode passes.near;
        marked = (passes-spot spot has).marked;
        mode = subst (λ n. (parts.node n).mode ≢ 0) from.inode passes.mode;
        size = subst (λ n. is_size super.kind (parts.node n).size ≡ true) from.inode passes.sized;
      }
    where
      positive : (n : ℕ) → n ≢ 0 → 0 < n
      positive n other = omega (arith, other)

  good-inode : (spot : Spot) → In (Reaches spot) met → IsGoodInode super parts spot.inode
  good-inode spot has = good-by spot has (from-spot spot has)

  spot-of : (number : ℕ) → seen number ≡ true → IsReached met number
  spot-of number was = reached-some met number was

  spot-seen : (spot : Spot) (number : ℕ) → In (Reaches spot) met → spot.inode ≡ number → seen number ≡ true
  spot-seen spot number has is = reached-in met spot number has is

  -- an inode is reached once
  once-after : (spot other : Spot) → IsAfter V met (Reaches spot) (Reaches other) → spot.inode ≡ other.inode → ⊥
  once-after spot other after same =
      let was : was_reached after.at.before spot.inode ≡ true = reached-in after.at.before other spot.inode after.has (sym same) in
      let new : was_reached after.at.before spot.inode ≡ false = after.at.fits.new in
      cc

  reached-once : (spot other : Spot) → In (Reaches spot) met → In (Reaches other) met → spot.inode ≡ other.inode → spot ≡ other
  reached-once spot other has has' same = by_case (order V met good (Reaches spot) (Reaches other) has has')
    where
      by_case : (Reaches spot ≡ Reaches other) ⊎ (IsAfter V met (Reaches spot) (Reaches other) ⊎ IsAfter V met (Reaches other) (Reaches spot)) → spot ≡ other
      by_case (inl e) = cc
      by_case (inr (inl after)) = absurd (once-after spot other after same)
      by_case (inr (inr after)) = absurd (once-after other spot after (sym same))

  -- ---- entries

  -- a directory that was reached has all its entries met, and its end
  pub record IsMetWhole (spot : Spot) : Type 0 where
    pub here : has_name met spot.inode here_name ≡ true
    pub above : has_name met spot.inode above_name ≡ true
    pub all : (place : ℕ) → place < places super.kind (parts.node spot.inode).size → (entry super parts spot.inode place).inode ≢ 0
        → In (Stands spot place (entry super parts spot.inode place)) met

  name-before : (item : Met) (at : GoodAt V met item) (inode : ℕ) (name : List ℕ) → has_name at.before inode name ≡ true → has_name met inode name ≡ true
  name-before item at inode name has =
      let one = name-some at.before inode name has in
      has-name met one.directory one.place one.what inode name (good-before V met item at (Stands one.directory one.place one.what) one.has) one.at one.is

  has-both : (a b : Bool) → a ≡ true → b ≡ true → (a && b) ≡ true
  has-both true b one two = two
  has-both false b one two = one

  whole : (spot : Spot) → In (Reaches spot) met → is_directory (parts.node spot.inode) ≡ true → IsMetWhole spot
  whole spot has is =
      let size : is_size super.kind (parts.node spot.inode).size ≡ true = (good-inode spot has).size in
      let entries : has_entries V spot.inode ≡ true = has-both (is_directory (parts.node spot.inode)) (is_size super.kind (parts.node spot.inode).size) is size in
      let ends = (done spot has).entries entries ((passes-spot spot has).shallow is) in
      let at = good-at V met good (Ends spot (places_of V spot.inode)) ends in
      let both = end-passes V at.before spot (places_of V spot.inode) at.ok in
      record {
        here = name-before (Ends spot (places_of V spot.inode)) at spot.inode here_name both.0;
        above = name-before (Ends spot (places_of V spot.inode)) at spot.inode above_name both.1;
        all = λ place below some.
            good-before V met (Ends spot (places_of V spot.inode)) at (Stands spot place (entry super parts spot.inode place)) (at.fits.all place below some);
      }

  -- an entry of a directory that was seen was met
  pub record IsMet (directory place : ℕ) : Type 0 where
    pub spot : Spot
    pub has : In (Reaches spot) met
    pub is : spot.inode ≡ directory
    pub stands : In (Stands spot place (entry super parts directory place)) met

  met-by : (directory place : ℕ) → is_directory (parts.node directory) ≡ true → IsTaken super parts directory place → IsReached met directory → IsMet directory place
  met-by directory place is taken reached =
      let here : is_directory (parts.node reached.spot.inode) ≡ true = subst (λ n. is_directory (parts.node n) ≡ true) (sym reached.is) is in
      let taken' : IsTaken super parts reached.spot.inode place = subst (λ n. IsTaken super parts n place) (sym reached.is) taken in
      let stands = (whole reached.spot reached.has here).all place taken'.below taken'.some in
      record {
        spot = reached.spot;
        has = reached.has;
        is = reached.is;
        stands = subst (λ n. In (Stands reached.spot place (entry super parts n place)) met) reached.is stands;
      }

  met-at : (directory place : ℕ) → IsSeenDirectory parts seen directory → IsTaken super parts directory place → IsMet directory place
  met-at directory place from taken = met-by directory place from.is taken (spot-of directory from.was)

  -- ---- names appear once

  twice-after : (spot other : Spot) (place there : ℕ) (what name : Entry) → IsAfter V met (Stands spot place what) (Stands other there name)
      → spot.inode ≡ other.inode → what.name ≡ name.name → ⊥
  twice-after spot other place there what name after same named =
      let was : has_name after.at.before spot.inode what.name ≡ true = has-name after.at.before other there name spot.inode what.name after.has (sym same) (sym named) in
      let new : has_name after.at.before spot.inode what.name ≡ false = single V after.at.before spot place what after.at.ok in
      cc

  stands-once : (spot other : Spot) (place there : ℕ) (what name : Entry) → In (Stands spot place what) met → In (Stands other there name) met
      → spot.inode ≡ other.inode → what.name ≡ name.name → place ≡ there
  stands-once spot other place there what name has has' same named = by_case (order V met good (Stands spot place what) (Stands other there name) has has')
    where
      by_case : (Stands spot place what ≡ Stands other there name) ⊎ (IsAfter V met (Stands spot place what) (Stands other there name) ⊎ IsAfter V met (Stands other there name) (Stands spot place what)) → place ≡ there
      by_case (inl e) = cc
      by_case (inr (inl after)) = absurd (twice-after spot other place there what name after same named)
      by_case (inr (inr after)) = absurd (twice-after other spot there place name what after (sym same) (sym named))

  no_twice-at : (directory place other : ℕ) → IsSeenDirectory parts seen directory → IsTaken super parts directory place → IsTaken super parts directory other
      → (entry super parts directory place).name ≡ (entry super parts directory other).name → place ≡ other
  no_twice-at directory place other from one two same =
      let a = met-at directory place from one in
      let b = met-at directory other from two in
      stands-once a.spot b.spot place other (entry super parts directory place) (entry super parts directory other) a.stands b.stands (a.is ∙ sym b.is) same

  -- ---- a directory is named once

  named-after : (spot other : Spot) (place there : ℕ) (what name : Entry) → IsAfter V met (Stands spot place what) (Stands other there name)
      → is_dots what.name ≡ false → is_dots name.name ≡ false → what.inode ≡ name.inode → is_directory (parts.node what.inode) ≡ true → ⊥
  named-after spot other place there what name after plain plain' same is =
      let passes = name-passes V after.at.before spot place what plain after.at.ok in
      passes.fresh is (subst (λ n. was_reached after.at.before n ≡ true) (sym same) (after.at.fits.followed other there name after.has plain'))

  named-once : (spot other : Spot) (place there : ℕ) (what name : Entry) → In (Stands spot place what) met → In (Stands other there name) met
      → is_dots what.name ≡ false → is_dots name.name ≡ false → what.inode ≡ name.inode → is_directory (parts.node what.inode) ≡ true → (spot ≡ other) × (place ≡ there)
  named-once spot other place there what name has has' plain plain' same is = by_case (order V met good (Stands spot place what) (Stands other there name) has has')
    where
      by_case : (Stands spot place what ≡ Stands other there name) ⊎ (IsAfter V met (Stands spot place what) (Stands other there name) ⊎ IsAfter V met (Stands other there name) (Stands spot place what)) → (spot ≡ other) × (place ≡ there)
      by_case (inl e) = (cc, cc)
      by_case (inr (inl after)) = absurd (named-after spot other place there what name after plain plain' same is)
      by_case (inr (inr after)) =
          absurd (named-after other spot there place name what after plain' plain (sym same) (subst (λ n. is_directory (parts.node n) ≡ true) same is))

  one_entry-at : (directory other place there inode : ℕ) → IsSeenDirectory parts seen inode → NamesAt super parts seen directory place inode → NamesAt super parts seen other there inode
      → (directory ≡ other) × (place ≡ there)
  one_entry-at directory other place there inode from one two =
      let a = met-at directory place one.from one.by.taken in
      let b = met-at other there two.from two.by.taken in
      let same = named-once a.spot b.spot place there (entry super parts directory place) (entry super parts other there) a.stands b.stands one.by.plain two.by.plain
      (one.by.is ∙ sym two.by.is) (subst (λ n. is_directory (parts.node n) ≡ true) (sym one.by.is) from.is) in
      (sym a.is ∙ ap (λ (s : Spot). s.inode) same.0 ∙ b.is, same.1)

  not_root-at : (directory place inode : ℕ) → NamesAt super parts seen directory place inode → inode ≢ 1
  not_root-at directory place inode names root =
      let a = met-at directory place names.from names.by.taken in
      (entry-passes a.spot place (entry super parts directory place) a.stands names.by.plain).other (names.by.is ∙ root)

  -- ---- the spot of a directory

  -- a spot below which an entry was met is that of its directory
  from-names : (outer place directory : ℕ) → IsSeenDirectory parts seen directory → NamesAt super parts seen outer place directory → (spot : Spot) → In (Reaches spot) met → spot.inode ≡ directory
      → (entry-spot : IsMet outer place) → (spot ≡ root_spot) ⊎ IsFrom spot → (spot.above ≡ outer) × (spot.level ≡ suc entry-spot.spot.level)
  from-names outer place directory from names spot has is at (inl root) = absurd (not_root-at outer place directory names (sym is ∙ ap (λ (s : Spot). s.inode) root))
  from-names outer place directory from names spot has is at (inr by) =
      let same = named-once by.directory at.spot by.place place by.what (entry super parts outer place) by.has at.stands by.plain names.by.plain
      (by.inode ∙ is ∙ sym names.by.is) (subst (λ n. is_directory (parts.node n) ≡ true) (sym (by.inode ∙ is)) from.is) in
      (sym by.above ∙ ap (λ (s : Spot). s.inode) same.0 ∙ at.is, sym by.level ∙ ap (λ (s : Spot). suc s.level) same.0)

  -- ---- `.` and `..`

  here-dots : is_dots here_name ≡ true
  unfolding is_dots
  here-dots = refl

  above-dots : is_dots above_name ≡ true
  unfolding is_dots
  above-dots = refl

  dots-at : (spot : Spot) (name : List ℕ) → In (Reaches spot) met → is_dots name ≡ true → has_name met spot.inode name ≡ true
      → HasSomeEntry super parts spot.inode (entry_with (right_inode spot name) name)
  dots-at spot name has dots stands =
      let one = name-some met spot.inode name stands in
      let at = at-entry one.directory one.place one.what one.has in
      let pass = dots-pass V at.before one.directory one.place one.what (ap is_dots one.is ∙ dots) at.ok in
      let same : one.directory ≡ spot = reached-once one.directory spot (good-before V met (Stands one.directory one.place one.what) at (Reaches one.directory) at.fits.seen) has one.at in
      let inode : one.what.inode ≡ right_inode spot name = pass.right ∙ ap (right_inode one.directory) one.is ∙ ap (λ s. right_inode s name) same in
      let is : one.what ≡ entry_with (right_inode spot name) name = ap (λ n. entry_with n one.what.name) inode ∙ ap (entry_with (right_inode spot name)) one.is in (
        one.place,
        record {
          below = subst (λ n. one.place < places super.kind (parts.node n).size) one.at at.fits.below;
          is = ap (λ n. entry super parts n one.place) (sym one.at) ∙ sym at.fits.is ∙ is;
        },
      )

  here-spot : (spot : Spot) → In (Reaches spot) met → is_directory (parts.node spot.inode) ≡ true → HasSomeEntry super parts spot.inode (entry_with spot.inode here_name)
  here-spot spot has is = dots-at spot here_name has here-dots (whole spot has is).here

  above-spot : (spot : Spot) → In (Reaches spot) met → is_directory (parts.node spot.inode) ≡ true → HasSomeEntry super parts spot.inode (entry_with spot.above above_name)
  above-spot spot has is = dots-at spot above_name has above-dots (whole spot has is).above

  at-inode : (number : ℕ) (Is : Spot → ℕ → Type 0) → ((spot : Spot) → In (Reaches spot) met → is_directory (parts.node spot.inode) ≡ true → Is spot spot.inode)
      → (reached : IsReached met number) → is_directory (parts.node number) ≡ true → Is reached.spot number
  at-inode number Is each reached is =
      subst (Is reached.spot) reached.is (each reached.spot reached.has (subst (λ n. is_directory (parts.node n) ≡ true) (sym reached.is) is))

  here-at : (directory : ℕ) → IsSeenDirectory parts seen directory → HasSomeEntry super parts directory (entry_with directory here_name)
  here-at directory from =
      at-inode directory (λ spot n. HasSomeEntry super parts n (entry_with n here_name)) here-spot (spot-of directory from.was) from.is

  above-named : (outer directory : ℕ) → IsSeenDirectory parts seen directory → (reached : IsReached met directory) → reached.spot.above ≡ outer → HasSomeEntry super parts directory (entry_with outer above_name)
  above-named outer directory from reached same =
      subst (λ n. HasSomeEntry super parts directory (entry_with n above_name)) same
      (at-inode directory (λ spot n. HasSomeEntry super parts n (entry_with spot.above above_name)) above-spot reached from.is)

  above-at : (outer place directory : ℕ) → IsSeenDirectory parts seen directory → NamesAt super parts seen outer place directory → HasSomeEntry super parts directory (entry_with outer above_name)
  above-at outer place directory from names =
      let reached = spot-of directory from.was in
      let at = met-at outer place names.from names.by.taken in
      above-named outer directory from reached (from-names outer place directory from names reached.spot reached.has reached.is at (from-spot reached.spot reached.has)).0

  root-here : In (Reaches root_spot) met
  root-here = grows.here

  root-spot-is : (reached : IsReached met 1) → reached.spot ≡ root_spot
  root-spot-is reached = reached-once reached.spot root_spot reached.has root-here reached.is

  root_above-at : IsSeenDirectory parts seen 1 → HasSomeEntry super parts 1 (entry_with 1 above_name)
  root_above-at from =
      let reached = spot-of 1 from.was in
      above-named 1 1 from reached (ap (λ (s : Spot). s.above) (root-spot-is reached))

  -- ---- levels

  level-by : (number : ℕ) (test : Bool) → was_reached met number ≡ test → ℕ
  level-by number true was = (reached-some met number was).spot.level
  level-by number false was = 0

  pub level_of : ℕ → ℕ
  level_of number = level-by number (was_reached met number) refl

  level-spot-by : (spot : Spot) → In (Reaches spot) met → (number : ℕ) → spot.inode ≡ number → (test : Bool) (was : was_reached met number ≡ test) → level-by number test was ≡ spot.level
  unfolding level-by
  level-spot-by spot has number is true was =
      let reached = reached-some met number was in
      ap (λ (s : Spot). s.level) (reached-once reached.spot spot reached.has has (reached.is ∙ sym is))
  level-spot-by spot has number is false was = let t = reached-in met spot number has is in cc

  level-spot : (spot : Spot) → In (Reaches spot) met → (number : ℕ) → spot.inode ≡ number → level_of number ≡ spot.level
  unfolding level_of
  level-spot spot has number is = level-spot-by spot has number is _ refl

  root_level-at : IsSeenDirectory parts seen 1 → level_of 1 ≡ 0
  root_level-at from = level-spot root_spot root-here 1 refl

  next_level-at : (outer place directory : ℕ) → IsSeenDirectory parts seen directory → NamesAt super parts seen outer place directory → level_of directory ≡ suc (level_of outer)
  next_level-at outer place directory from names =
      let reached = spot-of directory from.was in
      let at = met-at outer place names.from names.by.taken in
      level-spot reached.spot reached.has directory reached.is
      ∙ (from-names outer place directory from names reached.spot reached.has reached.is at (from-spot reached.spot reached.has)).1
      ∙ ap suc (sym (level-spot at.spot at.has outer at.is))

  depth-at : (directory : ℕ) → IsSeenDirectory parts seen directory → level_of directory ≤ depth_limit
  depth-at directory from =
      let reached = spot-of directory from.was in
      let low : reached.spot.level ≤ 64 = (passes-spot reached.spot reached.has).shallow (subst (λ n. is_directory (parts.node n) ≡ true) (sym reached.is) from.is) in
      subst (λ n. n ≤ 64) (sym (level-spot reached.spot reached.has directory reached.is)) low

  -- ---- links

  names-bound-by : (item : Met) (before : List Met) (inode : ℕ) → AllGood V (item ∷ before) → names_of before inode ≤ (parts.node inode).links
      → (named : Bool) → names_it inode item ≡ named → names_of (item ∷ before) inode ≤ (parts.node inode).links
  unfolding names_of
  names-bound-by item before inode good' low false is = rw is low
  names-bound-by (Reaches spot) before inode good' low true is = cc
  names-bound-by (Refers other found) before inode good' low true is = cc
  names-bound-by (Ends other places) before inode good' low true is = cc
  names-bound-by (Stands directory place what) before inode good' low true is =
      let it = names-it inode directory place what is in
      let more = (name-passes V before directory place what it.1 good'.1).links in
      let more' : names_of before inode < (parts.node inode).links = subst (λ n. names_of before n < (parts.node n).links) it.0 more in
      rw is (omega (arith, more'))

  names-bound : (list : List Met) → AllGood V list → (inode : ℕ) → names_of list inode ≤ (parts.node inode).links
  unfolding names_of
  names-bound [] good' inode = omega arith
  names-bound (item ∷ before) good' inode = names-bound-by item before inode good' (names-bound before good'.2 inode) _ refl

  -- a place that names an inode is among those that were met
  place-met : (number : ℕ) (at : EntryPlace) → NamesAt super parts seen at.directory at.place number → In at (places_in met number)
  place-met number at names =
      let there = met-at at.directory at.place names.from names.by.taken in
      subst (λ d. In (place_at d at.place) (places_in met number)) there.is
      (in-places met number there.spot at.place (entry super parts at.directory at.place) there.stands
      (is-named number there.spot at.place (entry super parts at.directory at.place) names.by.is names.by.plain))

  pub places-bound : (number : ℕ) (all : List EntryPlace) → AreApart all → AllName super parts seen number all → length all ≤ names_of met number
  places-bound number all apart' name =
      let few = places-most (places_in met number) all apart' (each-of (λ at. NamesAt super parts seen at.directory at.place number) (λ at. In at (places_in met number)) (place-met number) all name) in
      subst (λ n. length all ≤ n) (count-places met number) few

  links-at : (number : ℕ) (all : List EntryPlace) → AreApart all → AllName super parts seen number all → length all ≤ (parts.node number).links
  links-at number all apart' name =
      let few = places-bound number all apart' name in
      let low = names-bound met good number in
      omega (arith, few, low)

  -- ---- zones

  -- the zones of an inode that was reached pass one after the other
  pub record IsZoned (spot : Spot) : Type 0 where
    pub base : List Met
    pub clear : AreClear V spot.inode base (zones_of V spot.inode)
    pub extends : Extends met (with_zones spot.inode (zones_of V spot.inode) base)

  zoned : (spot : Spot) → In (Reaches spot) met → IsZoned spot
  unfolding with_inode
  zoned spot has =
      let done' = done spot has in
      let base : List Met = Reaches spot ∷ done'.before in
      let list : List Met = with_zones spot.inode (zones_of V spot.inode) base in
      record {
        base = base;
        clear = zones-clear V spot.inode (zones_of V spot.inode) base (good-ext V met list done'.inode good);
        extends = done'.inode;
      }

  -- a zone that an inode refers to
  pub record IsZone (number : ℕ) (at : Pointer) (zone : ℕ) : Type 0 where
    pub good : IsGoodZone super parts zone
    pub visit : Visit
    pub has : In (Refers number (Ok visit)) met
    pub same : visit.zone ≡ zone
    pub indirect : visit.indirect ≡ nat_lt (length at.trail) (at.top - 6)

  zone-spot : (spot : Spot) → In (Reaches spot) met → (at : Pointer) (zone : ℕ) → PointsTo super parts spot.inode at zone → IsZone spot.inode at zone
  zone-spot spot has at zone to =
      let number : ℕ = spot.inode in
      let zoned' = zoned spot has in
      let stop = has-stop super parts number numbers at zone to in
      let list = zones-are super parts number to.kind in
      let clear : AreClear V number zoned'.base (met_at (stop_number super parts (parts.node number)) (All super parts number)) = subst (AreClear V number zoned'.base) list zoned'.clear in
      let found = good-stop V number (stop_number super parts (parts.node number)) (All super parts number) zoned'.base clear stop.stop stop.has in
      let given : at_pointer super parts (parts.node number) at ≡ Ok found.zone = ap (at_pointer super parts (parts.node number)) (sym stop.is) ∙ found.is in
      let same : found.zone ≡ zone = sym (pointer-is super parts number at found.zone given) ∙ to.is in
      let some : found.zone ≢ 0 = λ e. to.some (sym same ∙ e) in
      let there = found.some some in
      let range = pointer-range super parts number at found.zone given some in
      record {
        good = subst (IsGoodZone super parts) same (record { from = range.0; below = range.1; marked = there.marked });
        visit = there.visit;
        has = ext-in met (with_zones number (zones_of V number) zoned'.base) zoned'.extends (Refers number (Ok there.visit))
            (zones-in V number (zones_of V number) zoned'.base (Ok there.visit) (subst (In (Ok there.visit)) (sym list) there.has));
        same = there.same ∙ same;
        indirect = there.indirect ∙ sym (stop-short super.kind stop.stop (stop-is super parts number stop.stop stop.has)) ∙ ap (λ (p : Pointer). nat_lt (length p.trail) (p.top - 6)) stop.is;
      }

  pub zone-at : (number : ℕ) (at : Pointer) (zone : ℕ) → seen number ≡ true → PointsTo super parts number at zone → IsZone number at zone
  zone-at number at zone was to =
      let reached = spot-of number was in
      subst (λ n. IsZone n at zone) reached.is (zone-spot reached.spot reached.has at zone (subst (λ n. PointsTo super parts n at zone) (sym reached.is) to))

  crossed-after : (number other : ℕ) (one two : Visit) → IsAfter V met (Refers number (Ok one)) (Refers other (Ok two)) → one.zone ≡ two.zone → ⊥
  crossed-after number other one two after same =
      let passes = zone-passes V after.at.before number (Ok one) after.at.ok in
      let visit : one ≡ passes.visit = let e = passes.is in cc in
      owner-none after.at.before passes.visit.zone other two passes.new after.has (sym same ∙ ap (λ (v : Visit). v.zone) visit)

  one-inode : (number other : ℕ) (one two : Visit) → In (Refers number (Ok one)) met → In (Refers other (Ok two)) met → one.zone ≡ two.zone → number ≡ other
  one-inode number other one two has has' same = by_case (order V met good (Refers number (Ok one)) (Refers other (Ok two)) has has')
    where
      by_case : (Refers number (Ok one) ≡ Refers other (Ok two)) ⊎ (IsAfter V met (Refers number (Ok one)) (Refers other (Ok two)) ⊎ IsAfter V met (Refers other (Ok two)) (Refers number (Ok one))) → number ≡ other
      by_case (inl e) = cc
      by_case (inr (inl after)) = absurd (crossed-after number other one two after same)
      by_case (inr (inr after)) = absurd (crossed-after other number two one after (sym same))

  -- two pointers of one inode
  same-pointer : (spot : Spot) → In (Reaches spot) met → (at there : Pointer) (zone : ℕ) → PointsTo super parts spot.inode at zone → PointsTo super parts spot.inode there zone → at ≡ there
  same-pointer spot has at there zone to to' = by_case (one.stop.index == two.stop.index) (one.stop.level == two.stop.level) refl refl
    where
      one : HasStop super parts spot.inode at
      one = has-stop super parts spot.inode numbers at zone to

      two : HasStop super parts spot.inode there
      two = has-stop super parts spot.inode numbers there zone to'

      clear : AreClear V spot.inode (zoned spot has).base (met_at (stop_number super parts (parts.node spot.inode)) (All super parts spot.inode))
      clear = subst (AreClear V spot.inode (zoned spot has).base) (zones-are super parts spot.inode to.kind) (zoned spot has).clear

      given : (pointer' : Pointer) (stop : HasStop super parts spot.inode pointer') → PointsTo super parts spot.inode pointer' zone → stop_number super parts (parts.node spot.inode) stop.stop ≡ Ok zone
      given pointer' stop points =
          let found = good-stop V spot.inode (stop_number super parts (parts.node spot.inode)) (All super parts spot.inode) (zoned spot has).base clear stop.stop stop.has in
          let at' : at_pointer super parts (parts.node spot.inode) pointer' ≡ Ok found.zone = ap (at_pointer super parts (parts.node spot.inode)) (sym stop.is) ∙ found.is in
          found.is ∙ ap Ok (sym (pointer-is super parts spot.inode pointer' found.zone at') ∙ points.is)

      other : one.stop ≢ two.stop → at ≡ there
      other differ =
          absurd (stops-apart V spot.inode (stop_number super parts (parts.node spot.inode)) (All super parts spot.inode) (zoned spot has).base clear one.stop two.stop one.has two.has differ zone
          (given at one to) (given there two to') to.some)

      by_case : (index level : Bool) → (one.stop.index == two.stop.index) ≡ index → (one.stop.level == two.stop.level) ≡ level → at ≡ there
      by_case true true index level =
          let same : one.stop ≡ two.stop =
          ap (λ i. let s : Stop = record { index = i; level = one.stop.level } in s) (eqb-true one.stop.index two.stop.index index)
          ∙ ap (λ l. let s : Stop = record { index = two.stop.index; level = l } in s) (eqb-true one.stop.level two.stop.level level) in
          sym one.is ∙ ap (stop_pointer (numbers_in_zone super.kind)) same ∙ two.is
      by_case true false index level = other (λ e. apart one.stop.level two.stop.level level (ap (λ (s : Stop). s.level) e))
      by_case false level index is_level = other (λ e. apart one.stop.index two.stop.index index (ap (λ (s : Stop). s.index) e))

  once-by : (number other : ℕ) (at there : Pointer) (zone : ℕ) → number ≡ other → (reached : IsReached met number) → PointsTo super parts number at zone → PointsTo super parts other there zone → at ≡ there
  once-by number other at there zone same reached to to' =
      same-pointer reached.spot reached.has at there zone
      (subst (λ n. PointsTo super parts n at zone) (sym reached.is) to)
      (subst (λ n. PointsTo super parts n there zone) (sym (reached.is ∙ same)) to')

  once-at : (number other : ℕ) (at there : Pointer) (zone : ℕ) → seen number ≡ true → seen other ≡ true → PointsTo super parts number at zone → PointsTo super parts other there zone
      → (number ≡ other) × (at ≡ there)
  once-at number other at there zone was was' to to' =
      let one = zone-at number at zone was to in
      let two = zone-at other there zone was' to' in
      let same = one-inode number other one.visit two.visit one.has two.has (one.same ∙ sym two.same) in
      (same, once-by number other at there zone same (spot-of number was) to to')

  -- ---- all of it

  facts : SurveyFacts super parts seen level_of
  facts = record {
    inodes = λ number was. let reached = spot-of number was in subst (IsGoodInode super parts) reached.is (good-inode reached.spot reached.has);
    zones = λ number at zone was to. (zone-at number at zone was to).good;
    once = once-at;
    no_twice = no_twice-at;
    not_root = not_root-at;
    one_entry = one_entry-at;
    here = here-at;
    root_above = root_above-at;
    above = above-at;
    root_level = root_level-at;
    next_level = next_level-at;
    depth = depth-at;
    links = links-at;
  }

  root-directory : is_directory (parts.node 1) ≡ true
  root-directory = (passes-spot root_spot root-here).root refl

  pub surveyed : Surveyed super parts seen level_of
  surveyed = record {
    root = record { was = reached-in met root_spot 1 root-here refl; is = root-directory };
    entries = λ directory place inode names.
        let at = met-at directory place names.from names.by.taken in
        subst (λ n. was_reached met n ≡ true) names.by.is (grows.followed at.spot place (entry super parts directory place) at.stands names.by.plain);
    facts = facts;
  }

  pub sound : Sound super parts
  sound = survey_law super parts seen level_of surveyed
