-- What a walk over an inode meets, and the pointers of the inode.
use Rattle.std.proofs.Common.{◌≡◌, ◌≢◌, ◌≤◌, ◌==◌, ℕ, suc, Bool, true, false, List, [], ◌∷◌, Result, Ok, Err, refl, sym, ◌∙◌, ap, subst, inl, inr, arith, eq-eqb}
use Rattle.std.specs.Prelude.{slice_index}
use Rattle.std.proofs.lemmas.Bool.{eqb-true}
use Rattle.lilo_model.specs.Checks.{◌>>=◌}
use Rattle.lilo_model.specs.MinixLayout.{Super, Inode, numbers_in_zone, reach}
use Rattle.lilo_model.specs.MinixParts.{Parts, ZoneFault, Pointer, IsPointer, has_zones, inside, number_below, number_in, follow, follow_at}
use Rattle.lilo_model.specs.MinixNames.{pointer, PointsTo}
use Rattle.lilo_model.specs.MinixWalk.{Visit, Stop, stops_from, stop_pointer, stop_number, met_at, visits}
use Rattle.minix_change_laws.specs.Beside.{IsDataZone}
use Rattle.minix_steps.specs.Numbers.{has_number}
use Rattle.minix_laws.proofs.Inside.{inside-hole, inside-zone}
use Rattle.minix_layout.specs.View.{inode_view}
use Rattle.minix_sound_laws.specs.Laws.{HasNumbers}
use Rattle.minix_sound_laws.proofs.Lists.{In, any-in, any-some}
use Rattle.minix_sound_laws.proofs.Pointers.{All, stop-is, pointer-is, pointer-range, has-stop}
use Rattle.minix_sound_laws.proofs.SoundStops.{zone-met, refused-met}
use Rattle.minix_sound_laws.proofs.Stops.{at-hole, at-zone}
use Rattle.minix_zones.proofs.PointerLemmas.{stop_has_pointer}
use Rattle.minix_zones.proofs.TurnLemmas.{per_some}
use Rattle.minix_zones.specs.Walk.{rest_of, stops_left}
use Rattle.minix_zones.specs.declared.walk.Walk.{Walk}
use Rattle.minix_fill.specs.Freed.{zones_met}

-- ---- where data zones have the same bytes, a walk meets the same

module _ (super : Super) (old new : Parts) (same : (zone : ℕ) → super.first ≤ zone → new.zone zone ≡ old.zone zone) where
  below_by : (above index : ℕ) (hole : Bool) → (above == 0) ≡ hole → (above ≢ 0 → super.first ≤ above)
      → number_below super.kind new.zone above index ≡ number_below super.kind old.zone above index
  below_by above index true is range = rw is refl
  below_by above index false is range = rw is (ap (λ bytes. number_in super.kind bytes index) (same above (range (λ e. let t = eq-eqb above 0 e in cc))))

  with_inode : Inode → Parts
  with_inode inode = record { node = λ number. inode; zone = old.zone; has_inode = old.has_inode; has_zone = old.has_zone }

  after_same : (inode : Inode) (top index : ℕ) (before : List ℕ) (found : Result ℕ ZoneFault) → follow_at super old.zone (slice_index inode.zones top) before ≡ found
      → (found >>= λ above. inside super (number_below super.kind new.zone above index)) ≡ (found >>= λ above. inside super (number_below super.kind old.zone above index))
  unfolding with_inode
  after_same inode top index before (Err fault) is = refl
  after_same inode top index before (Ok above) is =
      ap (inside super) (below_by above index _ refl (λ some. (pointer-range super (with_inode inode) 0 (record { top = top; trail = before }) above is some).0))

  follow_same : (inode : Inode) (top : ℕ) (trail : List ℕ) → follow_at super new.zone (slice_index inode.zones top) trail ≡ follow_at super old.zone (slice_index inode.zones top) trail
  unfolding follow_at
  follow_same inode top [] = refl
  follow_same inode top (index ∷ before) =
      ap (λ (found : Result ℕ ZoneFault). found >>= λ above. inside super (number_below super.kind new.zone above index)) (follow_same inode top before)
      ∙ after_same inode top index before _ refl

  stop_same : (inode : Inode) (stop : Stop) → stop_number super new inode stop ≡ stop_number super old inode stop
  stop_same inode stop = follow_same inode (stop_pointer (numbers_in_zone super.kind) stop).top (stop_pointer (numbers_in_zone super.kind) stop).trail

  met_same : (inode : Inode) (stops : List Stop) → met_at (stop_number super new inode) stops ≡ met_at (stop_number super old inode) stops
  met_same inode stops =
      let M : (Stop → Result ℕ ZoneFault) → List (Result Visit ZoneFault) = λ number. met_at number stops in
      let numbers : stop_number super new inode ≡ stop_number super old inode = λ i stop. stop_same inode stop i in
      ap M numbers

  pub rest_same : (walk : Walk) → rest_of super new walk ≡ rest_of super old walk
  unfolding rest_of
  rest_same walk = met_same (inode_view walk.inode) (stops_left (numbers_in_zone super.kind) walk.index walk.level walk.end)

  pub visits_same : (inode : Inode) → visits super new inode ≡ visits super old inode
  unfolding visits
  visits_same inode = met_same inode (stops_from (numbers_in_zone super.kind) 0 (reach super.kind))

-- ---- the zones among what was met

pub in_zones : (met : List (Result Visit ZoneFault)) (visit : Visit) → In (Ok visit) met → In visit.zone (zones_met met)
in_zones [] visit has = absurd has
in_zones (Ok first ∷ rest) visit (inl same) = let v : first ≡ visit = cc in inl (ap (λ (w : Visit). w.zone) v)
in_zones (Ok first ∷ rest) visit (inr has) = inr (in_zones rest visit has)
in_zones (Err fault ∷ rest) visit (inl same) = cc
in_zones (Err fault ∷ rest) visit (inr has) = in_zones rest visit has

pub record HasVisit (met : List (Result Visit ZoneFault)) (zone : ℕ) : Type 0 where
  pub visit : Visit
  pub has : In (Ok visit) met
  pub is : visit.zone ≡ zone

pub zones_in : (met : List (Result Visit ZoneFault)) (zone : ℕ) → In zone (zones_met met) → HasVisit met zone
zones_in [] zone has = absurd has
zones_in (Ok first ∷ rest) zone (inl same) = record { visit = first; has = inl refl; is = same }
zones_in (Ok first ∷ rest) zone (inr has) = let it = zones_in rest zone has in record { visit = it.visit; has = inr it.has; is = it.is }
zones_in (Err fault ∷ rest) zone has = let it = zones_in rest zone has in record { visit = it.visit; has = inr it.has; is = it.is }

pub has_in : (zones : List ℕ) (zone : ℕ) → In zone zones → has_number zones zone ≡ true
unfolding has_number
has_in zones zone has = any-in (λ other. zone == other) zones zone has (eq-eqb zone zone refl)

pub in_has : (zones : List ℕ) (zone : ℕ) → has_number zones zone ≡ true → In zone zones
unfolding has_number
in_has zones zone has =
    let it = any-some (λ other. zone == other) zones has in
    subst (λ n. In n zones) (sym (eqb-true zone it.item it.is)) it.has

-- ---- a zone at a stop is met, where none is refused

module _ (number : Stop → Result ℕ ZoneFault) where
  module _ (first : Stop) (stops : List Stop) (stop : Stop) (zone : ℕ) (is : number stop ≡ Ok zone) (some : zone ≢ 0)
      (later : In stop stops → In zone (zones_met (met_at number stops))) where
    by_some : (value : ℕ) → number first ≡ Ok value → In stop (first ∷ stops) → In zone (value ∷ zones_met (met_at number stops))
    by_some value here (inl same) = let e : number first ≡ number stop = ap number same in let v : value ≡ zone = cc in inl v
    by_some value here (inr there) = inr (later there)

    by_none : (value : ℕ) → number first ≡ Ok value → value ≡ 0 → In stop (first ∷ stops) → In zone (zones_met (met_at number stops))
    by_none value here hole (inl same) =
        let e : number first ≡ number stop = ap number same in
        let v : value ≡ zone = cc in
        absurd (some (sym v ∙ hole))
    by_none value here hole (inr there) = later there

    by_hole : (value : ℕ) → number first ≡ Ok value → In stop (first ∷ stops) → (hole : Bool) → (value == 0) ≡ hole → In zone (zones_met (met_at number (first ∷ stops)))
    by_hole value here has true hole =
        let Z : List (Result Visit ZoneFault) → Type 0 = λ met. In zone (zones_met met) in
        subst Z (sym (at-hole number first stops value here (eqb-true value 0 hole))) (by_none value here (eqb-true value 0 hole) has)
    by_hole value here has false hole =
        let Z : List (Result Visit ZoneFault) → Type 0 = λ met. In zone (zones_met met) in
        subst Z (sym (at-zone number first stops value here (λ e. let t = eq-eqb value 0 e in cc))) (by_some value here has)

  met_in : (stops : List Stop) → ((stop : Stop) → In stop stops → (value : ℕ) × (number stop ≡ Ok value))
      → (stop : Stop) (zone : ℕ) → In stop stops → number stop ≡ Ok zone → zone ≢ 0 → In zone (zones_met (met_at number stops))
  met_in [] good stop zone has is some = absurd has
  met_in (first ∷ stops) good stop zone has is some =
      by_hole first stops stop zone is some (λ there. met_in stops (λ other there'. good other (inr there')) stop zone there is some)
      (good first (inl refl)).0 (good first (inl refl)).1 has _ refl

-- ---- an inode whose pointers lead to data zones

module _ (super : Super) (parts : Parts) (number : ℕ) (kind : has_zones (parts.node number) ≡ true)
    (range : (at : Pointer) (zone : ℕ) → PointsTo super parts number at zone → IsDataZone super zone) where
  points : (at : Pointer) (zone : ℕ) → IsPointer super.kind at → pointer super parts number at ≡ zone → zone ≢ 0 → PointsTo super parts number at zone
  points at zone is same some = record { kind = kind; place = is; is = same; some = some }

  inside_by : (at : Pointer) → IsPointer super.kind at → (hole : Bool) → (pointer super parts number at == 0) ≡ hole → inside super (pointer super parts number at) ≡ Ok (pointer super parts number at)
  inside_by at is true hole = subst (λ n. inside super n ≡ Ok n) (sym (eqb-true (pointer super parts number at) 0 hole)) (inside-hole super)
  inside_by at is false hole =
      let some : pointer super parts number at ≢ 0 = λ e. let t = eq-eqb (pointer super parts number at) 0 e in cc in
      let there = range at (pointer super parts number at) (points at (pointer super parts number at) is refl some) in
      inside-zone super (pointer super parts number at) some there.0 there.1

  -- no number of a pointer is refused
  given : (top : ℕ) (trail : List ℕ) → IsPointer super.kind (record { top = top; trail = trail })
      → follow_at super parts.zone (slice_index (parts.node number).zones top) trail ≡ Ok (follow super.kind parts.zone (slice_index (parts.node number).zones top) trail)
  unfolding follow_at follow
  given top [] is = inside_by (record { top = top; trail = [] }) is _ refl
  given top (index ∷ before) is =
      let outer : IsPointer super.kind (record { top = top; trail = before }) = record {
        ten = is.ten;
        deep = omega (arith, is.deep);
        within = λ k d below. is.within (suc k) d (omega (arith, below));
      } in
      rw (given top before outer) (inside_by (record { top = top; trail = index ∷ before }) is _ refl)

  abbrev numbers : Stop → Result ℕ ZoneFault
  numbers = stop_number super parts (parts.node number)

  abbrev stops : List Stop
  stops = All super parts number

  pointer_of : (stop : Stop) → In stop stops → IsPointer super.kind (stop_pointer (numbers_in_zone super.kind) stop)
  pointer_of stop has = stop_has_pointer super.kind stop (per_some super.kind) (stop-is super parts number stop has)

  given_stop : (stop : Stop) → In stop stops → numbers stop ≡ Ok (pointer super parts number (stop_pointer (numbers_in_zone super.kind) stop))
  given_stop stop has =
      let at : Pointer = stop_pointer (numbers_in_zone super.kind) stop in
      given at.top at.trail (pointer_of stop has)

  pub none_refused : (fault : ZoneFault) → In (Err fault) (visits super parts (parts.node number)) → ⊥
  unfolding visits
  none_refused fault has =
      let at = refused-met numbers stops fault has in
      let ok = given_stop at.stop at.has in
      let bad = at.is in
      cc

  pub record IsPointed (zone : ℕ) : Type 0 where
    pub at : Pointer
    pub to : PointsTo super parts number at zone

  pub visit_pointed : (visit : Visit) → In (Ok visit) (visits super parts (parts.node number)) → IsPointed visit.zone
  unfolding visits
  visit_pointed visit has =
      let at = zone-met numbers stops visit has in
      let place : Pointer = stop_pointer (numbers_in_zone super.kind) at.stop in
      record {
        at = place;
        to = points place visit.zone (pointer_of at.stop at.has) (pointer-is super parts number place visit.zone at.is) at.some;
      }

  pub pointed_met : HasNumbers super parts → (at : Pointer) (zone : ℕ) → PointsTo super parts number at zone → In zone (zones_met (visits super parts (parts.node number)))
  unfolding visits
  pointed_met tops at zone to =
      let stop = has-stop super parts number tops at zone to in
      let is : numbers stop.stop ≡ Ok zone = given_stop stop.stop stop.has ∙ ap (λ (p : Pointer). Ok (pointer super parts number p)) stop.is ∙ ap Ok to.is in
      met_in numbers stops (λ other there. (pointer super parts number (stop_pointer (numbers_in_zone super.kind) other), given_stop other there)) stop.stop zone stop.has is to.some
