-- The zones of an inode on a sound volume, stop by stop.
use Rattle.std.proofs.Common.{◌≡◌, ◌≢◌, ◌≤◌, ◌<◌, ◌==◌, ◌++◌, ◌-◌, nat_lt, ℕ, suc, Bool, true, false, List, [], ◌∷◌, length, Result, Ok, Err, refl, sym, ◌∙◌, ap, subst, inl, inr, arith, eq-eqb}
use Rattle.std.specs.Prelude.{slice_index, AllPairs}
use Rattle.std.proofs.lemmas.Bool.{eqb-true}
use Rattle.lilo_model.specs.MinixLayout.{Kind, Super, numbers_in_zone}
use Rattle.lilo_model.specs.MinixParts.{Parts, ZoneFault, Pointer, IsPointer, has_zones, inside, follow, follow_at}
use Rattle.lilo_model.specs.MinixNames.{pointer, PointsTo, Named, Sound}
use Rattle.lilo_model.specs.MinixWalk.{Visit, Stop, branch_of, stop_pointer, stop_number, met_at}
use Rattle.minix_zones.specs.Laws.{IsStop, Before}
use Rattle.std.proofs.lemmas.Bool.Decides.{nat_tests}
use Rattle.minix_zones.proofs.BranchLemmas.{begins_within}
use Rattle.minix_zones.proofs.PointerLemmas.{length-trail_of, stop_has_pointer}
use Rattle.minix_zones.proofs.StopLemmas.{order_of_stops, same_stop}
use Rattle.minix_zones.proofs.TurnLemmas.{per_some}
use Rattle.minix_sound_laws.proofs.Lists.{In}
use Rattle.minix_sound_laws.proofs.Stops.{in-contains, visit_at, at-hole, at-zone, at-refusal}
use Rattle.minix_sound_laws.proofs.Pointers.{All, stop-is, pointer-is}
use Rattle.minix_laws.proofs.Inside.{inside-hole, inside-zone}

-- ---- stops in order

pairs-tail : {X : Type 0} (R : X → X → Type 0) (x : X) (xs : List X) → AllPairs R (x ∷ xs) → AllPairs R xs
pairs-tail R x xs pairs i j d before inside = pairs (suc i) (suc j) d (omega arith) (omega arith)

pairs-head : {X : Type 0} (R : X → X → Type 0) (x : X) (xs : List X) (y : X) → AllPairs R (x ∷ xs) → In y xs → R x y
pairs-head R x xs y pairs has = let there = in-contains xs y has in let low = there.1 in subst (R x) there.2 (pairs 0 (suc there.0) _ (omega arith) (omega (arith, low)))

before-apart : (one other : Stop) → Before one other → one ≢ other
before-apart one other (inl low) same = let e : one.index ≡ other.index = ap (λ (s : Stop). s.index) same in absurd (omega (arith, low, e))
before-apart one other (inr both) same = let e : one.level ≡ other.level = ap (λ (s : Stop). s.level) same in let low : other.level < one.level = both.1 in absurd (omega (arith, low, e))

-- ---- a stop above the block's own has a pointer that leads on

depth-is : (per index : ℕ) → (branch_of per index).depth ≡ (branch_of per index).top - 6
unfolding branch_of
depth-is per index = grind (arith, nat_tests)

short-by : (level depth top short : ℕ) → level ≤ depth → depth ≡ top - 6 → short ≡ depth - level → nat_lt short (top - 6) ≡ nat_lt 0 level
short-by level depth top short low is same = grind (arith, nat_tests)

pub stop-short : (kind : Kind) (stop : Stop) → IsStop kind stop
    → nat_lt (length (stop_pointer (numbers_in_zone kind) stop).trail) ((stop_pointer (numbers_in_zone kind) stop).top - 6) ≡ nat_lt 0 stop.level
unfolding stop_pointer
stop-short kind stop is =
    short-by stop.level (branch_of (numbers_in_zone kind) stop.index).depth (branch_of (numbers_in_zone kind) stop.index).top _
    (begins_within (numbers_in_zone kind) stop.index stop.level is.begun) (depth-is (numbers_in_zone kind) stop.index)
    (length-trail_of (numbers_in_zone kind) ((branch_of (numbers_in_zone kind) stop.index).depth - stop.level) _)

-- ---- what is met has a stop

module _ (number : Stop → Result ℕ ZoneFault) where
  pub record IsAt (stops : List Stop) (visit : Visit) : Type 0 where
    pub stop : Stop
    pub has : In stop stops
    pub is : number stop ≡ Ok visit.zone
    pub some : visit.zone ≢ 0
    pub indirect : visit.indirect ≡ nat_lt 0 stop.level

  at-later : (first : Stop) (stops : List Stop) (visit : Visit) → IsAt stops visit → IsAt (first ∷ stops) visit
  at-later first stops visit at = record { stop = at.stop; has = inr at.has; is = at.is; some = at.some; indirect = at.indirect }

  zone-head : (first : Stop) (stops : List Stop) (zone : ℕ) (visit : Visit) → number first ≡ Ok zone → zone ≢ 0 → (found : Result Visit ZoneFault) → found ≡ Ok (visit_at first zone) → found ≡ Ok visit → IsAt (first ∷ stops) visit
  zone-head first stops zone visit is some found one two =
      let v : visit_at first zone ≡ visit = cc in
      let z : zone ≡ visit.zone = ap (λ (w : Visit). w.zone) v in
      record { stop = first; has = inl refl; is = is ∙ ap Ok z; some = λ e. some (z ∙ e); indirect = ap (λ (w : Visit). w.indirect) (sym v) }

  zone-met-by : (first : Stop) (stops : List Stop) (visit : Visit) → (In (Ok visit) (met_at number stops) → IsAt stops visit) → (found : Result ℕ ZoneFault) → number first ≡ found
      → In (Ok visit) (met_at number (first ∷ stops)) → IsAt (first ∷ stops) visit
  zone-met-by first stops visit later (Err fault) is has = by_case (subst (In (Ok visit)) (at-refusal number first stops fault is) has)
    where
      by_case : In (Ok visit) (Err fault ∷ []) → IsAt (first ∷ stops) visit
      by_case (inl e) = cc
      by_case (inr none) = absurd none
  zone-met-by first stops visit later (Ok zone) is has = by_hole (zone == 0) refl
    where
      by_head : zone ≢ 0 → In (Ok visit) (Ok (visit_at first zone) ∷ met_at number stops) → IsAt (first ∷ stops) visit
      by_head some (inl e) = zone-head first stops zone visit is some (Ok visit) (sym e) refl
      by_head some (inr has') = at-later first stops visit (later has')

      by_hole : (hole : Bool) → (zone == 0) ≡ hole → IsAt (first ∷ stops) visit
      by_hole true hole = at-later first stops visit (later (subst (In (Ok visit)) (at-hole number first stops zone is (eqb-true zone 0 hole)) has))
      by_hole false hole =
          let some : zone ≢ 0 = λ e. let t = eq-eqb zone 0 e in cc in
          by_head some (subst (In (Ok visit)) (at-zone number first stops zone is some) has)

  pub zone-met : (stops : List Stop) (visit : Visit) → In (Ok visit) (met_at number stops) → IsAt stops visit
  zone-met [] visit has = absurd has
  zone-met (first ∷ stops) visit has = zone-met-by first stops visit (zone-met stops visit) _ refl has

  pub record IsRefusedAt (stops : List Stop) (fault : ZoneFault) : Type 0 where
    pub stop : Stop
    pub has : In stop stops
    pub is : number stop ≡ Err fault

  refused-later : (first : Stop) (stops : List Stop) (fault : ZoneFault) → IsRefusedAt stops fault → IsRefusedAt (first ∷ stops) fault
  refused-later first stops fault at = record { stop = at.stop; has = inr at.has; is = at.is }

  refused-met-by : (first : Stop) (stops : List Stop) (fault : ZoneFault) → (In (Err fault) (met_at number stops) → IsRefusedAt stops fault) → (found : Result ℕ ZoneFault) → number first ≡ found
      → In (Err fault) (met_at number (first ∷ stops)) → IsRefusedAt (first ∷ stops) fault
  refused-met-by first stops fault later (Err other) is has = by_case (subst (In (Err fault)) (at-refusal number first stops other is) has)
    where
      by_case : In {X = Result Visit ZoneFault} (Err fault) (Err other ∷ []) → IsRefusedAt (first ∷ stops) fault
      by_case (inl e) = let same : other ≡ fault = cc in record { stop = first; has = inl refl; is = is ∙ ap Err same }
      by_case (inr none) = absurd none
  refused-met-by first stops fault later (Ok zone) is has = by_hole (zone == 0) refl
    where
      by_head : In (Err fault) (Ok (visit_at first zone) ∷ met_at number stops) → IsRefusedAt (first ∷ stops) fault
      by_head (inl e) = cc
      by_head (inr has') = refused-later first stops fault (later has')

      by_hole : (hole : Bool) → (zone == 0) ≡ hole → IsRefusedAt (first ∷ stops) fault
      by_hole true hole = refused-later first stops fault (later (subst (In (Err fault)) (at-hole number first stops zone is (eqb-true zone 0 hole)) has))
      by_hole false hole = by_head (subst (In (Err fault)) (at-zone number first stops zone is (λ e. let t = eq-eqb zone 0 e in cc)) has)

  pub refused-met : (stops : List Stop) (fault : ZoneFault) → In (Err fault) (met_at number stops) → IsRefusedAt stops fault
  refused-met [] fault has = absurd has
  refused-met (first ∷ stops) fault has = refused-met-by first stops fault (refused-met stops fault) _ refl has

  -- ---- two zones that are met have two stops

  pub record AreAt (stops : List Stop) (one two : Visit) : Type 0 where
    pub first : IsAt stops one
    pub second : IsAt stops two
    pub apart : first.stop ≢ second.stop

  are-later : (first : Stop) (stops : List Stop) (one two : Visit) → AreAt stops one two → AreAt (first ∷ stops) one two
  unfolding at-later
  are-later first stops one two are = record { first = at-later first stops one are.first; second = at-later first stops two are.second; apart = are.apart }

  in-tail : (earlier : List (Result Visit ZoneFault)) (found : Result Visit ZoneFault) (later : List (Result Visit ZoneFault)) → In found (earlier ++ (found ∷ later))
  in-tail [] found later = inl refl
  in-tail (x ∷ earlier) found later = inr (in-tail earlier found later)

  tail-of : {X : Type 0} (x y : X) (xs ys : List X) → x ∷ xs ≡ y ∷ ys → (x ≡ y) × (xs ≡ ys)
  tail-of x y xs ys e = (cc, cc)

  none-after : {X : Type 0} (earlier later : List X) (x : X) → [] ≡ earlier ++ (x ∷ later) → ⊥
  none-after [] later x e = cc
  none-after (y ∷ earlier) later x e = cc

  module _ (first : Stop) (stops : List Stop) (one two : Visit) (later : List (Result Visit ZoneFault)) (order : AllPairs Before (first ∷ stops))
      (rest : (earlier : List (Result Visit ZoneFault)) → met_at number stops ≡ earlier ++ (Ok two ∷ later) → In (Ok one) earlier → AreAt stops one two) where
    two-head : (earlier : List (Result Visit ZoneFault)) (zone : ℕ) → number first ≡ Ok zone → zone ≢ 0 → Ok (visit_at first zone) ∷ met_at number stops ≡ earlier ++ (Ok two ∷ later)
        → In (Ok one) earlier → AreAt (first ∷ stops) one two
    two-head [] zone is some list has = absurd has
    two-head (x ∷ earlier) zone is some list (inl same) =
        let both = tail-of (Ok (visit_at first zone)) x (met_at number stops) (earlier ++ (Ok two ∷ later)) list in
        let last = zone-met stops two (subst (In (Ok two)) (sym both.1) (in-tail earlier (Ok two) later)) in
        let v : visit_at first zone ≡ one = let e = both.0 ∙ same in cc in
        let z : zone ≡ one.zone = ap (λ (w : Visit). w.zone) v in
        record {
          first = record { stop = first; has = inl refl; is = is ∙ ap Ok z; some = λ e. some (z ∙ e); indirect = ap (λ (w : Visit). w.indirect) (sym v) };
          second = record { stop = last.stop; has = inr last.has; is = last.is; some = last.some; indirect = last.indirect };
          apart = before-apart first last.stop (pairs-head Before first stops last.stop order last.has);
        }
    two-head (x ∷ earlier) zone is some list (inr has) =
        let both = tail-of (Ok (visit_at first zone)) x (met_at number stops) (earlier ++ (Ok two ∷ later)) list in
        are-later first stops one two (rest earlier both.1 has)

    two-refused : (earlier : List (Result Visit ZoneFault)) (fault : ZoneFault) → Err fault ∷ [] ≡ earlier ++ (Ok two ∷ later) → In (Ok one) earlier → AreAt (first ∷ stops) one two
    two-refused [] fault list has = absurd has
    two-refused (x ∷ earlier) fault list has = absurd (none-after earlier later (Ok two) (tail-of (Err fault) x [] (earlier ++ (Ok two ∷ later)) list).1)

    two-by : (earlier : List (Result Visit ZoneFault)) → met_at number (first ∷ stops) ≡ earlier ++ (Ok two ∷ later) → In (Ok one) earlier → (found : Result ℕ ZoneFault) → number first ≡ found
        → AreAt (first ∷ stops) one two
    two-by earlier list has (Err fault) is = two-refused earlier fault (sym (at-refusal number first stops fault is) ∙ list) has
    two-by earlier list has (Ok zone) is = by_hole (zone == 0) refl
      where
        by_hole : (hole : Bool) → (zone == 0) ≡ hole → AreAt (first ∷ stops) one two
        by_hole true hole = are-later first stops one two (rest earlier (sym (at-hole number first stops zone is (eqb-true zone 0 hole)) ∙ list) has)
        by_hole false hole =
            let some : zone ≢ 0 = λ e. let t = eq-eqb zone 0 e in cc in
            two-head earlier zone is some (sym (at-zone number first stops zone is some) ∙ list) has

  pub two-met : (stops : List Stop) → AllPairs Before stops → (one two : Visit) (earlier later : List (Result Visit ZoneFault)) → met_at number stops ≡ earlier ++ (Ok two ∷ later)
      → In (Ok one) earlier → AreAt stops one two
  two-met [] order one two earlier later list has = absurd (none-after earlier later (Ok two) list)
  two-met (first ∷ stops) order one two earlier later list has =
      two-by first stops one two later order (λ earlier' list' has'. two-met stops (pairs-tail Before first stops order) one two earlier' later list' has') earlier list has _ refl

-- ---- on a sound volume

module _ (super : Super) (parts : Parts) (sound : Sound super parts) (number : ℕ) (named : Named super parts number) (zones : has_zones (parts.node number) ≡ true) where
  points : (at : Pointer) (zone : ℕ) → IsPointer super.kind at → pointer super parts number at ≡ zone → zone ≢ 0 → PointsTo super parts number at zone
  points at zone is same some = record { kind = zones; place = is; is = same; some = some }

  inside-by : (at : Pointer) → IsPointer super.kind at → (hole : Bool) → (pointer super parts number at == 0) ≡ hole → inside super (pointer super parts number at) ≡ Ok (pointer super parts number at)
  inside-by at is true hole = subst (λ n. inside super n ≡ Ok n) (sym (eqb-true (pointer super parts number at) 0 hole)) (inside-hole super)
  inside-by at is false hole =
      let some : pointer super parts number at ≢ 0 = λ e. let t = eq-eqb (pointer super parts number at) 0 e in cc in
      let range = sound.zone_range number at (pointer super parts number at) (record { named = named; to = points at (pointer super parts number at) is refl some }) in
      inside-zone super (pointer super parts number at) some range.0 range.1

  -- no number of a pointer is refused
  given : (top : ℕ) (trail : List ℕ) → IsPointer super.kind (record { top = top; trail = trail })
      → follow_at super parts.zone (slice_index (parts.node number).zones top) trail ≡ Ok (follow super.kind parts.zone (slice_index (parts.node number).zones top) trail)
  unfolding follow_at follow
  given top [] is = inside-by (record { top = top; trail = [] }) is _ refl
  given top (index ∷ before) is =
      let outer : IsPointer super.kind (record { top = top; trail = before }) = record {
        ten = is.ten;
        deep = omega (arith, is.deep);
        within = λ k d below. is.within (suc k) d (omega (arith, below));
      } in
      rw (given top before outer) (inside-by (record { top = top; trail = index ∷ before }) is _ refl)

  pointer-of : (stop : Stop) → In stop (All super parts number) → IsPointer super.kind (stop_pointer (numbers_in_zone super.kind) stop)
  pointer-of stop has = stop_has_pointer super.kind stop (per_some super.kind) (stop-is super parts number stop has)

  -- no zone is refused
  pub none-refused : (fault : ZoneFault) → In (Err fault) (met_at (stop_number super parts (parts.node number)) (All super parts number)) → ⊥
  none-refused fault has =
      let at = refused-met (stop_number super parts (parts.node number)) (All super parts number) fault has in
      let pointer' : Pointer = stop_pointer (numbers_in_zone super.kind) at.stop in
      let ok = given pointer'.top pointer'.trail (pointer-of at.stop at.has) in
      let bad = at.is in
      cc

  pub record IsPointed (visit : Visit) : Type 0 where
    pub at : Pointer
    pub to : PointsTo super parts number at visit.zone
    pub indirect : visit.indirect ≡ nat_lt (length at.trail) (at.top - 6)

  pointed-at : (visit : Visit) → IsAt (stop_number super parts (parts.node number)) (All super parts number) visit → IsPointed visit
  pointed-at visit at = record {
    at = stop_pointer (numbers_in_zone super.kind) at.stop;
    to = points (stop_pointer (numbers_in_zone super.kind) at.stop) visit.zone (pointer-of at.stop at.has)
        (pointer-is super parts number (stop_pointer (numbers_in_zone super.kind) at.stop) visit.zone at.is) at.some;
    indirect = at.indirect ∙ sym (stop-short super.kind at.stop (stop-is super parts number at.stop at.has));
  }

  -- a pointer refers to each zone that is met
  pub pointed : (visit : Visit) → In (Ok visit) (met_at (stop_number super parts (parts.node number)) (All super parts number)) → IsPointed visit
  pointed visit has = pointed-at visit (zone-met (stop_number super parts (parts.node number)) (All super parts number) visit has)

  -- no zone is met twice
  pub once-met : (one two : Visit) (earlier later : List (Result Visit ZoneFault)) → met_at (stop_number super parts (parts.node number)) (All super parts number) ≡ earlier ++ (Ok two ∷ later)
      → In (Ok one) earlier → one.zone ≡ two.zone → ⊥
  unfolding pointed-at
  once-met one two earlier later list has same =
      let are = two-met (stop_number super parts (parts.node number)) (All super parts number) (order_of_stops super.kind) one two earlier later list has in
      let first = pointed-at one are.first in
      let second = pointed-at two are.second in
      let both = sound.once number number first.at second.at one.zone
      (record { named = named; to = first.to }) (record { named = named; to = subst (PointsTo super parts number second.at) (sym same) second.to }) in
      are.apart (same_stop super.kind are.first.stop are.second.stop (per_some super.kind) (stop-is super parts number are.first.stop are.first.has) (stop-is super parts number are.second.stop are.second.has) both.1)
