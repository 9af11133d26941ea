-- What holds where all that is met passes its judgment.
use Rattle.std.proofs.Common.{◌≡◌, ◌≢◌, ◌⊎◌, ◌≤◌, ◌<◌, ◌==◌, ◌&&◌, ◌||◌, nat_le, nat_lt, ℕ, Bool, true, false, not, List, [], ◌∷◌, bytes_eq, Option, None, Some, Result, Ok, Err, refl, sym, ◌∙◌, ap, subst, inl, inr, eq-eqb}
use Rattle.std.specs.Option.{option_or}
use Rattle.std.proofs.lemmas.Bool.{eqb-true, leb-true, ltb-true, not-true}
use Rattle.std.proofs.lemmas.Slice.Eq.{bytes_eq-Decides}
use Rattle.lilo_model.specs.Checks.{◌>>=◌, require}
use Rattle.lilo_model.specs.MinixLayout.{BadSize, FileSize, is_size}
use Rattle.lilo_model.specs.MinixParts.{ZoneFault, Layout, is_directory}
use Rattle.lilo_model.specs.MinixEntries.{Entry, here_name, above_name, is_dots}
use Rattle.lilo_model.specs.MinixFind.{NotDirectory, Zone}
use Rattle.lilo_model.specs.MinixNames.{depth_limit}
use Rattle.lilo_model.specs.MinixWalk.{Visit}
use Rattle.lilo_model.specs.MinixSurvey.{Spot, Met, Reaches, Refers, Stands, Ends, SurveyFault, UnmarkedInode, BadLink, FewLinks, TooDeep, Tree, Unmarked, Surveyable, was_reached, owner, refers_to, names_of, has_name, has_that_name, right_inode, dots_check, name_check, entry_check, crossed, judge, judged}
use Rattle.minix_sound_laws.proofs.Lists.{In, any-in, any-some, Extends, ext-in}
use Rattle.minix_sound_laws.proofs.Walk.{Fits, AllFit}

-- ---- checks

bind-both : {F : Type 0} (first next : Result (Unit {0}) F) → (first >>= λ a. next) ≡ Ok tt → (first ≡ Ok tt) × (next ≡ Ok tt)
bind-both (Ok value) next given = (refl, given)
bind-both (Err fault) next given = cc

pub require-true : {F : Type 0} (test : Bool) (fault : F) → require test fault ≡ Ok tt → test ≡ true
require-true true fault given = refl
require-true false fault given = cc

four-true : {F : Type 0} (a b c d : Bool) (f g h k : F) → (require a f >>= λ w. require b g >>= λ x. require c h >>= λ y. require d k) ≡ Ok tt
    → (a ≡ true) × (b ≡ true) × (c ≡ true) × (d ≡ true)
four-true true true true true f g h k given = (refl, refl, refl, refl)
four-true true true true false f g h k given = cc
four-true true true false d f g h k given = cc
four-true true false c d f g h k given = cc
four-true false b c d f g h k given = cc

pub and-left : (a b : Bool) → (a && b) ≡ true → a ≡ true
and-left true b is = refl
and-left false b is = cc

pub and-right : (a b : Bool) → (a && b) ≡ true → b ≡ true
and-right true b is = is
and-right false b is = cc

not-both : (a b : Bool) → not (a && b) ≡ true → a ≡ true → b ≡ true → ⊥
not-both true true is one two = cc
not-both true false is one two = cc
not-both false b is one two = cc

implies : (a b : Bool) → (not a || b) ≡ true → a ≡ true → b ≡ true
implies true b is one = is
implies false b is one = cc

pub apart : (m n : ℕ) → (m == n) ≡ false → m ≢ n
apart m n is same = let t = eq-eqb m n same in cc

-- ---- names

pub has-name : (met : List Met) (directory : Spot) (place : ℕ) (what : Entry) (inode : ℕ) (name : List ℕ) → In (Stands directory place what) met → directory.inode ≡ inode → what.name ≡ name
    → has_name met inode name ≡ true
unfolding has_name
has-name met directory place what inode name has same named =
    let one : (directory.inode == inode) ≡ true = eq-eqb directory.inode inode same in
    let two : bytes_eq what.name name ≡ true = (bytes_eq-Decides what.name name).1 named in
    any-in (has_that_name inode name) met (Stands directory place what) has (rw (one, two) refl)

-- the entry by which a name is in a directory
pub record IsNameIn (met : List Met) (inode : ℕ) (name : List ℕ) : Type 0 where
  pub directory : Spot
  pub place : ℕ
  pub what : Entry
  pub has : In (Stands directory place what) met
  pub at : directory.inode ≡ inode
  pub is : what.name ≡ name

name-by : (met : List Met) (inode : ℕ) (name : List ℕ) (item : Met) → In item met → has_that_name inode name item ≡ true → IsNameIn met inode name
name-by met inode name (Reaches spot) has is = cc
name-by met inode name (Refers other found) has is = cc
name-by met inode name (Ends directory places) has is = cc
name-by met inode name (Stands directory place what) has is =
    record {
      directory = directory;
      place = place;
      what = what;
      has = has;
      at = eqb-true directory.inode inode (and-left (directory.inode == inode) (bytes_eq what.name name) is);
      is = (bytes_eq-Decides what.name name).0 (and-right (directory.inode == inode) (bytes_eq what.name name) is);
    }

pub name-some : (met : List Met) (inode : ℕ) (name : List ℕ) → has_name met inode name ≡ true → IsNameIn met inode name
unfolding has_name
name-some met inode name is = let some = any-some (has_that_name inode name) met is in name-by met inode name some.item some.has some.is

-- ---- owners

option_or-none : {A : Type 0} (first second : Option A) → option_or first second ≡ None → (first ≡ None) × (second ≡ None)
option_or-none None second is = (refl, is)
option_or-none (Some value) second is = cc

-- nothing that was met refers to a zone without an owner
pub owner-none : (met : List Met) (zone inode : ℕ) (visit : Visit) → owner met zone ≡ None → In (Refers inode (Ok visit)) met → visit.zone ≡ zone → ⊥
unfolding owner
owner-none [] zone inode visit none has same = has
owner-none (first ∷ met) zone inode visit none (inr has) same = owner-none met zone inode visit (option_or-none (owner met zone) (refers_to zone first) none).0 has same
owner-none (first ∷ met) zone inode visit none (inl is) same =
    let two : refers_to zone first ≡ None = (option_or-none (owner met zone) (refers_to zone first) none).1 in
    let here : refers_to zone (Refers inode (Ok visit)) ≡ None = subst (λ m. refers_to zone m ≡ None) is two in
    let t : (visit.zone == zone) ≡ true = eq-eqb visit.zone zone same in
    let e = rw t at here in cc

-- what refers to a zone with an owner
pub record IsOwner (met : List Met) (zone inode : ℕ) : Type 0 where
  pub visit : Visit
  pub has : In (Refers inode (Ok visit)) met
  pub is : visit.zone ≡ zone

owner-here : (item : Met) (before : List Met) (zone inode : ℕ) → refers_to zone item ≡ Some inode → IsOwner (item ∷ before) zone inode
owner-here (Reaches spot) before zone inode is = cc
owner-here (Stands directory place what) before zone inode is = cc
owner-here (Ends directory places) before zone inode is = cc
owner-here (Refers other (Err fault)) before zone inode is = cc
owner-here (Refers other (Ok visit)) before zone inode is = by_case (visit.zone == zone) refl
  where
    by_case : (here : Bool) → (visit.zone == zone) ≡ here → IsOwner (Refers other (Ok visit) ∷ before) zone inode
    by_case true here =
        let e = rw here at is in
        let same : other ≡ inode = cc in
        record { visit = visit; has = inl (ap (λ n. Refers n (Ok visit)) same); is = eqb-true visit.zone zone here }
    by_case false here = let e = rw here at is in cc

owner-by : (item : Met) (before : List Met) (zone inode : ℕ) (first : Option ℕ) → owner before zone ≡ first → (owner before zone ≡ Some inode → IsOwner before zone inode)
    → option_or first (refers_to zone item) ≡ Some inode → IsOwner (item ∷ before) zone inode
owner-by item before zone inode None is earlier given = owner-here item before zone inode given
owner-by item before zone inode (Some other) is earlier given =
    let rest = earlier (is ∙ given) in
    record { visit = rest.visit; has = inr rest.has; is = rest.is }

pub owner-some : (met : List Met) (zone inode : ℕ) → owner met zone ≡ Some inode → IsOwner met zone inode
unfolding owner
owner-some [] zone inode is = cc
owner-some (item ∷ before) zone inode is = owner-by item before zone inode (owner before zone) refl (owner-some before zone inode) is

-- ---- what passes

module _ (volume : Surveyable) where
  abbrev pub AllGood : List Met → Type 0
  AllGood [] = Unit {0}
  AllGood (met ∷ before) = Fits volume before met × (judge volume before met ≡ Ok tt) × AllGood before

  pub good-of : (met : List Met) → AllFit volume met → judged volume met ≡ Ok tt → AllGood met
  unfolding judged
  good-of [] fits ok = tt
  good-of (met ∷ before) fits ok =
      let both = bind-both (judged volume before) (judge volume before met) ok in
      (fits.0, both.1, good-of before fits.1 both.0)

  pub good-ext : (next met : List Met) → Extends next met → AllGood next → AllGood met
  good-ext [] met grew good = subst AllGood grew good
  good-ext (first ∷ next) met (inl grew) good = subst AllGood grew good
  good-ext (first ∷ next) met (inr grew) good = good-ext next met grew good.2

  pub record GoodAt (met : List Met) (item : Met) : Type 0 where
    pub before : List Met
    pub fits : Fits volume before item
    pub ok : judge volume before item ≡ Ok tt
    pub extends : Extends met (item ∷ before)

  good-here : (first : Met) (before : List Met) (item : Met) → first ≡ item → AllGood (first ∷ before) → GoodAt (first ∷ before) item
  good-here first before item same good = record {
    before = before;
    fits = subst (Fits volume before) same good.0;
    ok = subst (λ m. judge volume before m ≡ Ok tt) same good.1;
    extends = inl (ap (λ m. m ∷ before) same);
  }

  good-later : (first : Met) (met : List Met) (item : Met) → GoodAt met item → GoodAt (first ∷ met) item
  good-later first met item at = record { before = at.before; fits = at.fits; ok = at.ok; extends = inr at.extends }

  pub good-at : (met : List Met) → AllGood met → (item : Met) → In item met → GoodAt met item
  good-at [] good item has = absurd has
  good-at (first ∷ before) good item (inl same) = good-here first before item same good
  good-at (first ∷ before) good item (inr has) = good-later first before item (good-at before good.2 item has)

  pub good-before : (met : List Met) (item : Met) (at : GoodAt met item) (other : Met) → In other at.before → In other met
  good-before met item at other has = ext-in met (item ∷ at.before) at.extends other (inr has)

  -- one thing is met after another
  pub record IsAfter (met : List Met) (item other : Met) : Type 0 where
    pub at : GoodAt met item
    pub has : In other at.before

  after-later : (first : Met) (met : List Met) (item other : Met) → IsAfter met item other → IsAfter (first ∷ met) item other
  unfolding good-later
  after-later first met item other after = record { at = good-later first met item after.at; has = after.has }

  order-later : (first : Met) (met : List Met) (item other : Met) → (item ≡ other) ⊎ (IsAfter met item other ⊎ IsAfter met other item)
      → (item ≡ other) ⊎ (IsAfter (first ∷ met) item other ⊎ IsAfter (first ∷ met) other item)
  order-later first met item other (inl same) = inl same
  order-later first met item other (inr (inl after)) = inr (inl (after-later first met item other after))
  order-later first met item other (inr (inr after)) = inr (inr (after-later first met other item after))

  -- of two things that are met one is met first
  pub order : (met : List Met) → AllGood met → (item other : Met) → In item met → In other met → (item ≡ other) ⊎ (IsAfter met item other ⊎ IsAfter met other item)
  unfolding good-here
  order [] good item other one two = absurd one
  order (first ∷ before) good item other (inl one) (inl two) = inl (sym one ∙ two)
  order (first ∷ before) good item other (inl one) (inr two) = inr (inl (record { at = good-here first before item one good; has = two }))
  order (first ∷ before) good item other (inr one) (inl two) = inr (inr (record { at = good-here first before other two good; has = one }))
  order (first ∷ before) good item other (inr one) (inr two) = order-later first before item other (order before good.2 item other one two)

  -- ---- an inode

  pub record SpotPasses (spot : Spot) : Type 0 where
    pub marked : volume.parts.has_inode spot.inode ≡ true
    pub root_size : spot.inode ≡ 1 → is_size volume.super.kind (volume.parts.node 1).size ≡ true
    pub root : spot.inode ≡ 1 → is_directory (volume.parts.node 1) ≡ true
    pub shallow : is_directory (volume.parts.node spot.inode) ≡ true → spot.level ≤ 64

  pub spot-passes : (before : List Met) (spot : Spot) → judge volume before (Reaches spot) ≡ Ok tt → SpotPasses spot
  unfolding judge
  spot-passes before spot ok =
      let all = four-true
      (volume.parts.has_inode spot.inode)
      (not (spot.inode == 1) || is_size volume.super.kind (volume.parts.node 1).size)
      (not (spot.inode == 1) || is_directory (volume.parts.node 1))
      (not (is_directory (volume.parts.node spot.inode)) || nat_le spot.level depth_limit)
      (UnmarkedInode spot.inode) (Tree (Zone (Layout (BadSize FileSize)))) (Tree (NotDirectory 0)) TooDeep ok in
      record {
        marked = all.0;
        root_size = λ e. implies (spot.inode == 1) (is_size volume.super.kind (volume.parts.node 1).size) all.1 (eq-eqb spot.inode 1 e);
        root = λ e. implies (spot.inode == 1) (is_directory (volume.parts.node 1)) all.2 (eq-eqb spot.inode 1 e);
        shallow = λ is. leb-true spot.level 64 (implies (is_directory (volume.parts.node spot.inode)) (nat_le spot.level depth_limit) all.3 is);
      }

  -- ---- a zone

  pub record ZonePasses (before : List Met) (found : Result Visit ZoneFault) : Type 0 where
    pub visit : Visit
    pub is : found ≡ Ok visit
    pub marked : volume.parts.has_zone visit.zone ≡ true
    pub new : owner before visit.zone ≡ None

  crossed-none : (zone inode : ℕ) (first : Option ℕ) → crossed zone inode first ≡ Ok tt → first ≡ None
  crossed-none zone inode None ok = refl
  crossed-none zone inode (Some other) ok = cc

  pub zone-passes : (before : List Met) (inode : ℕ) (found : Result Visit ZoneFault) → judge volume before (Refers inode found) ≡ Ok tt → ZonePasses before found
  unfolding judge
  zone-passes before inode (Err fault) ok = cc
  zone-passes before inode (Ok visit) ok =
      let both = bind-both (require (volume.parts.has_zone visit.zone) (Unmarked visit.zone)) (crossed visit.zone inode (owner before visit.zone)) ok in
      record {
        visit = visit;
        is = refl;
        marked = require-true (volume.parts.has_zone visit.zone) (Unmarked visit.zone) both.0;
        new = crossed-none visit.zone inode (owner before visit.zone) both.1;
      }

  -- ---- an entry

  pub record DotsPass (before : List Met) (directory : Spot) (what : Entry) : Type 0 where
    pub right : what.inode ≡ right_inode directory what.name
    pub single : has_name before directory.inode what.name ≡ false

  pub dots-pass : (before : List Met) (directory : Spot) (place : ℕ) (what : Entry) → is_dots what.name ≡ true → judge volume before (Stands directory place what) ≡ Ok tt → DotsPass before directory what
  unfolding judge
  dots-pass before directory place what dots ok =
      let there : dots_check before directory place what ≡ Ok tt = ap (entry_check volume before directory place what) (sym dots) ∙ ok in
      let one = what.inode == right_inode directory what.name in
      let two = not (has_name before directory.inode what.name) in
      let both = require-true (one && two) (BadLink directory.inode place) there in
      record {
        right = eqb-true what.inode (right_inode directory what.name) (and-left one two both);
        single = not-true (has_name before directory.inode what.name) (and-right one two both);
      }

  pub record NamePasses (before : List Met) (directory : Spot) (what : Entry) : Type 0 where
    pub near : what.inode ≤ volume.super.inodes
    pub sized : is_size volume.super.kind (volume.parts.node what.inode).size ≡ true
    pub mode : (volume.parts.node what.inode).mode ≢ 0
    pub other : what.inode ≢ 1
    pub fresh : is_directory (volume.parts.node what.inode) ≡ true → was_reached before what.inode ≡ true → ⊥
    pub single : has_name before directory.inode what.name ≡ false
    pub links : names_of before what.inode < (volume.parts.node what.inode).links

  pub name-passes : (before : List Met) (directory : Spot) (place : ℕ) (what : Entry) → is_dots what.name ≡ false → judge volume before (Stands directory place what) ≡ Ok tt → NamePasses before directory what
  unfolding judge
  name-passes before directory place what plain ok =
      let there : name_check volume before directory place what ≡ Ok tt = ap (entry_check volume before directory place what) (sym plain) ∙ ok in
      let bad : SurveyFault = BadLink directory.inode place in
      let node = volume.parts.node what.inode in
      let a = nat_le what.inode volume.super.inodes in
      let b = is_size volume.super.kind node.size in
      let m = node.mode == 0 in
      let r = what.inode == 1 in
      let d = is_directory node && was_reached before what.inode in
      let e = has_name before directory.inode what.name in
      let f = nat_lt (names_of before what.inode) node.links in
      let all = six-true a b (not m && not r) (not d) (not e) f bad (Tree (Zone (Layout (BadSize FileSize)))) bad bad bad (FewLinks what.inode) there in
      record {
        near = leb-true what.inode volume.super.inodes all.0;
        sized = all.1;
        mode = apart node.mode 0 (not-true m (and-left (not m) (not r) all.2));
        other = apart what.inode 1 (not-true r (and-right (not m) (not r) all.2));
        fresh = not-both (is_directory node) (was_reached before what.inode) all.3;
        single = not-true e all.4;
        links = ltb-true (names_of before what.inode) node.links all.5;
      }
    where
      six-true : (a b c d e f : Bool) (u v w x y z : SurveyFault)
          → (require a u >>= λ i. require b v >>= λ j. require c w >>= λ k. require d x >>= λ l. require e y >>= λ m. require f z) ≡ Ok tt
          → (a ≡ true) × (b ≡ true) × (c ≡ true) × (d ≡ true) × (e ≡ true) × (f ≡ true)
      six-true true true true true true true u v w x y z given = (refl, refl, refl, refl, refl, refl)
      six-true true true true true true false u v w x y z given = cc
      six-true true true true true false f u v w x y z given = cc
      six-true true true true false e f u v w x y z given = cc
      six-true true true false d e f u v w x y z given = cc
      six-true true false c d e f u v w x y z given = cc
      six-true false b c d e f u v w x y z given = cc

  single-by : (before : List Met) (directory : Spot) (place : ℕ) (what : Entry) (dots : Bool) → is_dots what.name ≡ dots → judge volume before (Stands directory place what) ≡ Ok tt
      → has_name before directory.inode what.name ≡ false
  single-by before directory place what true is ok = (dots-pass before directory place what is ok).single
  single-by before directory place what false is ok = (name-passes before directory place what is ok).single

  -- an entry's name is new in its directory
  pub single : (before : List Met) (directory : Spot) (place : ℕ) (what : Entry) → judge volume before (Stands directory place what) ≡ Ok tt → has_name before directory.inode what.name ≡ false
  single before directory place what ok = single-by before directory place what _ refl ok

  -- ---- the end of a directory

  pub end-passes : (before : List Met) (directory : Spot) (places : ℕ) → judge volume before (Ends directory places) ≡ Ok tt
      → (has_name before directory.inode here_name ≡ true) × (has_name before directory.inode above_name ≡ true)
  unfolding judge
  end-passes before directory places ok =
      let one = has_name before directory.inode here_name in
      let two = has_name before directory.inode above_name in
      let both = require-true (one && two) (BadLink directory.inode places) ok in
      (and-left one two both, and-right one two both)
