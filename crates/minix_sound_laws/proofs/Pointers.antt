-- The pointers of an inode and the stops of a walk over it.
use Rattle.std.proofs.Common.{◌≡◌, ◌≢◌, ◌≤◌, ◌<◌, ◌==◌, ◌||◌, nat_le, nat_lt, ℕ, Bool, true, false, List, [], ◌∷◌, Result, Ok, Err, refl, sym, ◌∙◌, ap, subst, arith}
use Rattle.std.specs.Prelude.{slice_index}
use Rattle.std.proofs.lemmas.Bool.{eqb-true, leb-true, ltb-true}
use Rattle.lilo_model.specs.Checks.{◌>>=◌}
use Rattle.lilo_model.specs.MinixLayout.{Kind, Super, is_v1, numbers_in_zone, reach}
use Rattle.lilo_model.specs.MinixParts.{Parts, Pointer, IsPointer, has_zones, inside, number_below, follow, follow_at, at_pointer}
use Rattle.lilo_model.specs.MinixNames.{pointer, PointsTo}
use Rattle.lilo_model.specs.MinixWalk.{Stop, stops_from, stop_pointer, stop_number, met_at, visits}
use Rattle.lilo_model.specs.MinixSurvey.{surveyable, zones_of}
use Rattle.minix_laws.proofs.Given.{follow_at-ok}
use Rattle.minix_zones.specs.Laws.{IsStop, numbers_of}
use Rattle.minix_zones.proofs.PointerLemmas.{stop_for, pointer_has_stop}
use Rattle.minix_zones.proofs.StopLemmas.{contains_stop}
use Rattle.minix_zones.proofs.TurnLemmas.{per_some}
use Rattle.minix_sound_laws.specs.Laws.{HasNumbers}
use Rattle.minix_sound_laws.proofs.Lists.{In}
use Rattle.minix_sound_laws.proofs.Stops.{contains-in, in-contains}

-- ---- below no zone there is none

follow-none : (kind : Kind) (bytes_of : ℕ → List ℕ) (trail : List ℕ) → follow kind bytes_of 0 trail ≡ 0
unfolding follow
follow-none kind bytes_of [] = refl
follow-none kind bytes_of (index ∷ before) = ap (λ z. number_below kind bytes_of z index) (follow-none kind bytes_of before)

-- ---- a zone that may be followed is a data zone

bind-ok : {A B F : Type 0} (first : Result A F) (next : A → Result B F) (to : B) → (first >>= next) ≡ Ok to → (value : A) × (next value ≡ Ok to)
bind-ok (Ok value) next to given = (value, given)
bind-ok (Err fault) next to given = cc

or-some : (a b : Bool) → a ≡ false → (a || b) ≡ true → b ≡ true
or-some true b is given = cc
or-some false b is given = given

inside-by : (super : Super) (zone to : ℕ) (hole from below : Bool) → (zone == 0) ≡ hole → nat_le super.first zone ≡ from → nat_lt zone super.zones ≡ below
    → inside super zone ≡ Ok to → to ≢ 0 → (super.first ≤ to) × (to < super.zones)
unfolding inside
inside-by super zone to true from below is is_from is_below given some =
    let e = rw is at given in
    let same : zone ≡ to = cc in
    absurd (some (sym same ∙ eqb-true zone 0 is))
inside-by super zone to false true true is is_from is_below given some =
    let e = rw (is, is_from, is_below) at given in
    let same : zone ≡ to = cc in
    (subst (λ z. super.first ≤ z) same (leb-true super.first zone is_from), subst (λ z. z < super.zones) same (ltb-true zone super.zones is_below))
inside-by super zone to false false below is is_from is_below given some = let e = rw (is, is_from) at given in cc
inside-by super zone to false true false is is_from is_below given some = let e = rw (is, is_from, is_below) at given in cc

inside-range : (super : Super) (zone to : ℕ) → inside super zone ≡ Ok to → to ≢ 0 → (super.first ≤ to) × (to < super.zones)
inside-range super zone to given some = inside-by super zone to _ _ _ refl refl refl given some

follow-range : (super : Super) (bytes_of : ℕ → List ℕ) (zone : ℕ) (trail : List ℕ) (to : ℕ) → follow_at super bytes_of zone trail ≡ Ok to → to ≢ 0 → (super.first ≤ to) × (to < super.zones)
unfolding follow_at
follow-range super bytes_of zone [] to given some = inside-range super zone to given some
follow-range super bytes_of zone (index ∷ before) to given some =
    let last = bind-ok (follow_at super bytes_of zone before) (λ above. inside super (number_below super.kind bytes_of above index)) to given in
    inside-range super (number_below super.kind bytes_of last.0 index) to last.1 some

module _ (super : Super) (parts : Parts) (number : ℕ) where
  pub pointer-range : (at : Pointer) (to : ℕ) → at_pointer super parts (parts.node number) at ≡ Ok to → to ≢ 0 → (super.first ≤ to) × (to < super.zones)
  pointer-range at to given some = follow-range super parts.zone (slice_index (parts.node number).zones at.top) at.trail to given some

  pub pointer-is : (at : Pointer) (to : ℕ) → at_pointer super parts (parts.node number) at ≡ Ok to → pointer super parts number at ≡ to
  pointer-is at to given = follow_at-ok super parts.zone (slice_index (parts.node number).zones at.top) at.trail to given

  -- ---- the stop of a pointer

  abbrev pub Per : ℕ
  Per = numbers_in_zone super.kind

  abbrev pub All : List Stop
  All = stops_from (numbers_in_zone super.kind) 0 (reach super.kind)

  pub stop-is : (stop : Stop) → In stop All → IsStop super.kind stop
  stop-is stop has = (contains_stop super.kind stop).0 (in-contains All stop has)

  pub record HasStop (at : Pointer) : Type 0 where
    pub stop : Stop
    pub has : In stop All
    pub is : stop_pointer Per stop ≡ at

  has-stop-of : (at : Pointer) → IsPointer super.kind at → at.top < numbers_of super.kind → HasStop at
  has-stop-of at is below =
      let one = pointer_has_stop super.kind at (per_some super.kind) is below in
      record {
        stop = stop_for Per at;
        has = contains-in All (stop_for Per at) ((contains_stop super.kind (stop_for Per at)).1 one.0);
        is = one.1;
      }

  top-by : (numbers : HasNumbers super parts) (at : Pointer) (zone : ℕ) → PointsTo super parts number at zone → (v1 low : Bool) → is_v1 super.kind ≡ v1 → nat_lt at.top 9 ≡ low
      → at.top < numbers_of super.kind
  top-by numbers at zone to false low is is_low = let ten : at.top < 10 = to.place.ten in rw is (omega (arith, ten))
  top-by numbers at zone to true true is is_low = let h : at.top < 9 = ltb-true at.top 9 is_low in rw is h
  top-by numbers at zone to true false is is_low =
      let ten : at.top < 10 = to.place.ten in
      let nine : at.top ≡ 9 = top-nine (at.top) ten is_low in
      let none : slice_index (parts.node number).zones at.top ≡ 0 = ap (slice_index (parts.node number).zones) nine ∙ numbers.nine is number in
      let hole : pointer super parts number at ≡ 0 = ap (λ z. follow super.kind parts.zone z at.trail) none ∙ follow-none super.kind parts.zone at.trail in
      absurd (to.some (sym to.is ∙ hole))
    where
      top-nine : (top : ℕ) → top < 10 → nat_lt top 9 ≡ false → top ≡ 9
      top-nine top ten low = grind arith

  pub has-stop : HasNumbers super parts → (at : Pointer) (zone : ℕ) → PointsTo super parts number at zone → HasStop at
  has-stop numbers at zone to = has-stop-of at to.place (top-by numbers at zone to _ _ refl refl)

  -- what a survey meets of an inode's zones
  pub zones-are : has_zones (parts.node number) ≡ true → zones_of (surveyable super parts) number ≡ met_at (stop_number super parts (parts.node number)) All
  unfolding visits
  zones-are is = rw is refl
