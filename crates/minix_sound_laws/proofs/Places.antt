-- The places at which an inode was named, one for each of its names.
use Rattle.std.proofs.Common.{◌≡◌, ◌≤◌, ◌==◌, ℕ, suc, Bool, true, false, not, List, [], ◌∷◌, length, refl, sym, ◌∙◌, ap, subst, inl, inr, arith, eq-eqb}
use Rattle.std.proofs.lemmas.Bool.{eqb-true, not-true}
use Rattle.lilo_model.specs.MinixEntries.{Entry, is_dots}
use Rattle.lilo_model.specs.MinixSurvey.{Spot, Met, Reaches, Refers, Stands, Ends, Surveyable, names_it, names_of}
use Rattle.minix_survey_laws.specs.Survey.{EntryPlace, Each, IsNewPlace, AreApart}
use Rattle.minix_survey_laws.proofs.Count.{without}
use Rattle.minix_sound_laws.proofs.Lists.{In}
use Rattle.minix_sound_laws.proofs.Walk.{AllFit}
use Rattle.minix_sound_laws.proofs.Good.{and-left, and-right}

abbrev pub place_at : ℕ → ℕ → EntryPlace
place_at directory place = record { directory = directory; place = place }

abbrev pub more_places : Bool → EntryPlace → List EntryPlace → List EntryPlace
more_places true at others = at ∷ others
more_places false at others = others

abbrev pub places_in : List Met → ℕ → List EntryPlace
places_in [] inode = []
places_in (Reaches spot ∷ before) inode = places_in before inode
places_in (Refers other found ∷ before) inode = places_in before inode
places_in (Ends directory places ∷ before) inode = places_in before inode
places_in (Stands directory place what ∷ before) inode =
    more_places (names_it inode (Stands directory place what)) (place_at directory.inode place) (places_in before inode)

-- ---- one for each name

names-more : (met : Met) (before : List Met) (inode : ℕ) → names_it inode met ≡ true → names_of (met ∷ before) inode ≡ suc (names_of before inode)
unfolding names_of
names-more met before inode is = rw is refl

names-same : (met : Met) (before : List Met) (inode : ℕ) → names_it inode met ≡ false → names_of (met ∷ before) inode ≡ names_of before inode
unfolding names_of
names-same met before inode is = rw is refl

names-none : (inode : ℕ) → names_of [] inode ≡ 0
unfolding names_of
names-none inode = refl

count-by : (directory : Spot) (place : ℕ) (what : Entry) (before : List Met) (inode : ℕ) → length (places_in before inode) ≡ names_of before inode
    → (named : Bool) → names_it inode (Stands directory place what) ≡ named
    → length (more_places named (place_at directory.inode place) (places_in before inode)) ≡ names_of (Stands directory place what ∷ before) inode
count-by directory place what before inode rest true is = ap suc rest ∙ sym (names-more (Stands directory place what) before inode is)
count-by directory place what before inode rest false is = rest ∙ sym (names-same (Stands directory place what) before inode is)

pub count-places : (met : List Met) (inode : ℕ) → length (places_in met inode) ≡ names_of met inode
count-places [] inode = sym (names-none inode)
count-places (Reaches spot ∷ before) inode = count-places before inode ∙ sym (names-same (Reaches spot) before inode refl)
count-places (Refers other found ∷ before) inode = count-places before inode ∙ sym (names-same (Refers other found) before inode refl)
count-places (Ends directory places ∷ before) inode = count-places before inode ∙ sym (names-same (Ends directory places) before inode refl)
count-places (Stands directory place what ∷ before) inode = count-by directory place what before inode (count-places before inode) _ refl

-- ---- which they are

-- an entry names an inode by a name of its own
pub names-it : (inode : ℕ) (directory : Spot) (place : ℕ) (what : Entry) → names_it inode (Stands directory place what) ≡ true → (what.inode ≡ inode) × (is_dots what.name ≡ false)
names-it inode directory place what is = (
  eqb-true what.inode inode (and-left (what.inode == inode) (not (is_dots what.name)) is),
  not-true (is_dots what.name) (and-right (what.inode == inode) (not (is_dots what.name)) is),
)

pub is-named : (inode : ℕ) (directory : Spot) (place : ℕ) (what : Entry) → what.inode ≡ inode → is_dots what.name ≡ false → names_it inode (Stands directory place what) ≡ true
is-named inode directory place what same plain = let t : (what.inode == inode) ≡ true = eq-eqb what.inode inode same in rw (t, plain) refl

in-more : (named : Bool) (at other : EntryPlace) (others : List EntryPlace) → In other others → In other (more_places named at others)
in-more true at other others has = inr has
in-more false at other others has = has

in-named : (named : Bool) (at : EntryPlace) (others : List EntryPlace) → named ≡ true → In at (more_places named at others)
in-named true at others is = inl refl
in-named false at others is = cc

-- each entry that names an inode is among the places
pub in-places : (met : List Met) (inode : ℕ) (directory : Spot) (place : ℕ) (what : Entry) → In (Stands directory place what) met → names_it inode (Stands directory place what) ≡ true
    → In (place_at directory.inode place) (places_in met inode)
in-places [] inode directory place what has is = absurd has
in-places (Reaches spot ∷ before) inode directory place what (inl same) is = cc
in-places (Reaches spot ∷ before) inode directory place what (inr has) is = in-places before inode directory place what has is
in-places (Refers other found ∷ before) inode directory place what (inl same) is = cc
in-places (Refers other found ∷ before) inode directory place what (inr has) is = in-places before inode directory place what has is
in-places (Ends other places ∷ before) inode directory place what (inl same) is = cc
in-places (Ends other places ∷ before) inode directory place what (inr has) is = in-places before inode directory place what has is
in-places (Stands other there name ∷ before) inode directory place what (inl same) is =
    let is' : names_it inode (Stands other there name) ≡ true = ap (names_it inode) same ∙ is in
    let one : other ≡ directory = cc in
    let two : there ≡ place = cc in
    let here : place_at other.inode there ≡ place_at directory.inode place = ap (λ (s : Spot). place_at s.inode there) one ∙ ap (place_at directory.inode) two in
    subst (λ at. In at (places_in (Stands other there name ∷ before) inode)) here
    (in-named (names_it inode (Stands other there name)) (place_at other.inode there) (places_in before inode) is')
in-places (Stands other there name ∷ before) inode directory place what (inr has) is =
    in-more (names_it inode (Stands other there name)) (place_at other.inode there) (place_at directory.inode place) (places_in before inode)
    (in-places before inode directory place what has is)

-- the entry at one of the places
pub record IsPlaceOf (met : List Met) (inode : ℕ) (at : EntryPlace) : Type 0 where
  pub directory : Spot
  pub what : Entry
  pub has : In (Stands directory at.place what) met
  pub is : directory.inode ≡ at.directory
  pub names : what.inode ≡ inode
  pub plain : is_dots what.name ≡ false

place-later : (first : Met) (met : List Met) (inode : ℕ) (at : EntryPlace) → IsPlaceOf met inode at → IsPlaceOf (first ∷ met) inode at
place-later first met inode at is = record { directory = is.directory; what = is.what; has = inr is.has; is = is.is; names = is.names; plain = is.plain }

place-by : (other : Spot) (there : ℕ) (name : Entry) (before : List Met) (inode : ℕ) (at : EntryPlace) → (In at (places_in before inode) → IsPlaceOf before inode at)
    → (named : Bool) → names_it inode (Stands other there name) ≡ named → In at (more_places named (place_at other.inode there) (places_in before inode))
    → IsPlaceOf (Stands other there name ∷ before) inode at
place-by other there name before inode at rest true is (inl same) =
    let it = names-it inode other there name is in
    let place : there ≡ at.place = ap (λ (a : EntryPlace). a.place) same in
    record {
      directory = other;
      what = name;
      has = inl (ap (λ p. Stands other p name) place);
      is = ap (λ (a : EntryPlace). a.directory) same;
      names = it.0;
      plain = it.1;
    }
place-by other there name before inode at rest true is (inr has) = place-later (Stands other there name) before inode at (rest has)
place-by other there name before inode at rest false is has = place-later (Stands other there name) before inode at (rest has)

pub place-of : (met : List Met) (inode : ℕ) (at : EntryPlace) → In at (places_in met inode) → IsPlaceOf met inode at
place-of [] inode at has = absurd has
place-of (Reaches spot ∷ before) inode at has = place-later (Reaches spot) before inode at (place-of before inode at has)
place-of (Refers other found ∷ before) inode at has = place-later (Refers other found) before inode at (place-of before inode at has)
place-of (Ends other places ∷ before) inode at has = place-later (Ends other places) before inode at (place-of before inode at has)
place-of (Stands other there name ∷ before) inode at has = place-by other there name before inode at (place-of before inode at) _ refl has

-- ---- no two are the same

pub new-by : (at : EntryPlace) (others : List EntryPlace) → (In at others → ⊥) → IsNewPlace at others
new-by at [] none = tt
new-by at (other ∷ others) none = (λ same. none (inl (sym same)), new-by at others (λ has. none (inr has)))

apart-more : (named : Bool) (at : EntryPlace) (others : List EntryPlace) → (In at others → ⊥) → AreApart others → AreApart (more_places named at others)
apart-more true at others none rest = (new-by at others none, rest)
apart-more false at others none rest = rest

pub apart-places : (volume : Surveyable) (met : List Met) (inode : ℕ) → AllFit volume met → AreApart (places_in met inode)
apart-places volume [] inode fits = tt
apart-places volume (Reaches spot ∷ before) inode fits = apart-places volume before inode fits.1
apart-places volume (Refers other found ∷ before) inode fits = apart-places volume before inode fits.1
apart-places volume (Ends other places ∷ before) inode fits = apart-places volume before inode fits.1
apart-places volume (Stands other there name ∷ before) inode fits =
    apart-more (names_it inode (Stands other there name)) (place_at other.inode there) (places_in before inode)
    (λ has. let at = place-of before inode (place_at other.inode there) has in fits.0.new at.directory at.what at.has at.is)
    (apart-places volume before inode fits.1)

-- ---- so many places at most

pub each-in : (Is : EntryPlace → Type 0) (all : List EntryPlace) → ((at : EntryPlace) → In at all → Is at) → Each Is all
each-in Is [] is = tt
each-in Is (at ∷ others) is = (is at (inl refl), each-in Is others (λ other has. is other (inr has)))

-- different places among some are no more than these
pub places-most : (some all : List EntryPlace) → AreApart all → Each (λ at. In at some) all → length all ≤ length some
places-most [] [] apart each = omega arith
places-most [] (at ∷ others) apart each = absurd each.0
places-most (first ∷ some) all apart each =
    let less = without (λ at. In at (first ∷ some)) (λ at. In at some) first (λ other has. has) all apart each in
    let few : length less.rest ≤ length some = places-most some less.rest less.apart less.each in
    let one : length all ≤ suc (length less.rest) = less.count in
    omega (arith, few, one)
