-- The zones of an inode, stop by stop.
use Rattle.std.proofs.Common.{◌≡◌, ◌≢◌, ◌==◌, nat_lt, ℕ, zero, suc, Bool, true, false, List, [], ◌∷◌, Result, Ok, Err, refl, sym, ◌∙◌, ap, subst, inl, inr, arith, eq-eqb}
use Rattle.std.specs.Prelude.{Contains}
use Rattle.std.proofs.lemmas.Bool.{eqb-true, ne_eqb}
use Rattle.lilo_model.specs.MinixParts.{ZoneFault}
use Rattle.lilo_model.specs.MinixWalk.{Visit, Stop, met_then, met_at}
use Rattle.lilo_model.specs.MinixSurvey.{Met, Refers, Surveyable, with_zones}
use Rattle.minix_sound_laws.proofs.Lists.{In, ext-in}
use Rattle.minix_sound_laws.proofs.Walk.{zones-extend}
use Rattle.minix_sound_laws.proofs.Good.{AllGood, good-ext, owner-none, zone-passes}

-- ---- members

pub contains-in : {X : Type 0} (xs : List X) (x : X) → Contains xs x → In x xs
contains-in [] x (k, inside, is) = absurd (omega arith)
contains-in (y ∷ ys) x (zero, inside, is) = inl is
contains-in (y ∷ ys) x (suc k, inside, is) = inr (contains-in ys x (k, omega arith, is))

pub in-contains : {X : Type 0} (xs : List X) (x : X) → In x xs → Contains xs x
in-contains [] x has = absurd has
in-contains (y ∷ ys) x (inl same) = (0, omega arith, same)
in-contains (y ∷ ys) x (inr has) = let rest = in-contains ys x has in (suc rest.0, let low = rest.1 in omega (arith, low), rest.2)

-- ---- what is met at a stop

-- the visit of a zone
abbrev pub visit_at : Stop → ℕ → Visit
visit_at stop zone = record { zone = zone; index = stop.index; indirect = nat_lt 0 stop.level }

module _ (number : Stop → Result ℕ ZoneFault) where
  pub at-hole : (stop : Stop) (stops : List Stop) (zone : ℕ) → number stop ≡ Ok zone → zone ≡ 0 → met_at number (stop ∷ stops) ≡ met_at number stops
  at-hole stop stops zone is hole = let h : (zone == 0) ≡ true = eq-eqb zone 0 hole in ap (λ r. met_then stop r (met_at number stops)) is ∙ rw h refl

  pub at-zone : (stop : Stop) (stops : List Stop) (zone : ℕ) → number stop ≡ Ok zone → zone ≢ 0 → met_at number (stop ∷ stops) ≡ Ok (visit_at stop zone) ∷ met_at number stops
  at-zone stop stops zone is some = ap (λ r. met_then stop r (met_at number stops)) is ∙ rw (ne_eqb zone 0 some) refl

  pub at-refusal : (stop : Stop) (stops : List Stop) (fault : ZoneFault) → number stop ≡ Err fault → met_at number (stop ∷ stops) ≡ Err fault ∷ []
  at-refusal stop stops fault is = ap (λ r. met_then stop r (met_at number stops)) is

-- ---- zones that pass

module _ (volume : Surveyable) (inode : ℕ) where
  -- a zone passes after what was met
  pub record IsClear (base : List Met) (found : Result Visit ZoneFault) : Type 0 where
    pub visit : Visit
    pub is : found ≡ Ok visit
    pub marked : volume.parts.has_zone visit.zone ≡ true
    pub new : (other : ℕ) (earlier : Visit) → In (Refers other (Ok earlier)) base → earlier.zone ≡ visit.zone → ⊥

  abbrev pub AreClear : List Met → List (Result Visit ZoneFault) → Type 0
  AreClear base [] = Unit {0}
  AreClear base (found ∷ rest) = IsClear base found × AreClear (Refers inode found ∷ base) rest

  pub zones-clear : (rest : List (Result Visit ZoneFault)) (base : List Met) → AllGood volume (with_zones inode rest base) → AreClear base rest
  zones-clear [] base good = tt
  zones-clear (found ∷ rest) base good =
      let next : List Met = Refers inode found ∷ base in
      let here : AllGood volume (Refers inode found ∷ base) = good-ext volume (with_zones inode rest next) next (zones-extend volume inode rest next) good in
      let passes = zone-passes volume base inode found here.1 in (
        record {
          visit = passes.visit;
          is = passes.is;
          marked = passes.marked;
          new = λ other earlier has same. owner-none base passes.visit.zone other earlier passes.new has same;
        },
        zones-clear rest next good,
      )

  pub zones-in : (rest : List (Result Visit ZoneFault)) (base : List Met) (found : Result Visit ZoneFault) → In found rest → In (Refers inode found) (with_zones inode rest base)
  zones-in [] base found has = absurd has
  zones-in (first ∷ rest) base found (inl same) =
      ext-in (with_zones inode rest (Refers inode first ∷ base)) (Refers inode first ∷ base) (zones-extend volume inode rest (Refers inode first ∷ base)) (Refers inode found) (inl (ap (Refers inode) same))
  zones-in (first ∷ rest) base found (inr has) = zones-in rest (Refers inode first ∷ base) found has

  module _ (number : Stop → Result ℕ ZoneFault) where
    -- a zone at a stop
    pub record ZoneAt (base : List Met) (found : List (Result Visit ZoneFault)) (stop : Stop) (zone : ℕ) : Type 0 where
      pub visit : Visit
      pub indirect : visit.indirect ≡ nat_lt 0 stop.level
      pub has : In (Ok visit) found
      pub same : visit.zone ≡ zone
      pub marked : volume.parts.has_zone zone ≡ true
      pub new : (other : ℕ) (earlier : Visit) → In (Refers other (Ok earlier)) base → earlier.zone ≡ zone → ⊥

    pub record GoodStop (base : List Met) (found : List (Result Visit ZoneFault)) (stop : Stop) : Type 0 where
      pub zone : ℕ
      pub is : number stop ≡ Ok zone
      pub some : zone ≢ 0 → ZoneAt base found stop zone

    -- what is left of the first stop
    record Turn (base : List Met) (stop : Stop) (stops : List Stop) : Type 0 where
      pub zone : ℕ
      pub is : number stop ≡ Ok zone
      pub here : zone ≢ 0 → ZoneAt base (met_at number (stop ∷ stops)) stop zone
      pub next : List Met
      pub later : AreClear next (met_at number stops)
      pub keeps : (other : ℕ) (earlier : Visit) → In (Refers other (Ok earlier)) base → In (Refers other (Ok earlier)) next
      pub itself : zone ≢ 0 → In (Refers inode (Ok (visit_at stop zone))) next
      pub all : (found : Result Visit ZoneFault) → In found (met_at number stops) → In found (met_at number (stop ∷ stops))

    turn-zone : (base : List Met) (stop : Stop) (stops : List Stop) (zone : ℕ) → number stop ≡ Ok zone → AreClear base (met_at number (stop ∷ stops))
        → (hole : Bool) → (zone == 0) ≡ hole → Turn base stop stops
    turn-zone base stop stops zone is clear true hole =
        let none : zone ≡ 0 = eqb-true zone 0 hole in
        let list = at-hole number stop stops zone is none in
        record {
          zone = zone;
          is = is;
          here = λ some. absurd (some none);
          next = base;
          later = subst (AreClear base) list clear;
          keeps = λ other earlier has. has;
          itself = λ some. absurd (some none);
          all = λ found has. subst (In found) (sym list) has;
        }
    turn-zone base stop stops zone is clear false hole =
        let some : zone ≢ 0 = λ e. let t = eq-eqb zone 0 e in cc in
        let list = at-zone number stop stops zone is some in
        let clear' : AreClear base (Ok (visit_at stop zone) ∷ met_at number stops) = subst (AreClear base) list clear in
        let first = clear'.0 in
        let same : visit_at stop zone ≡ first.visit = let e = first.is in cc in
        let zone_same : first.visit.zone ≡ zone = ap (λ (v : Visit). v.zone) (sym same) in
        record {
          zone = zone;
          is = is;
          here = λ some'. record {
            visit = visit_at stop zone;
            indirect = refl;
            has = subst (In (Ok (visit_at stop zone))) (sym list) (inl refl);
            same = refl;
            marked = subst (λ z. volume.parts.has_zone z ≡ true) zone_same first.marked;
            new = λ other earlier has e. first.new other earlier has (e ∙ sym zone_same);
          };
          next = Refers inode (Ok (visit_at stop zone)) ∷ base;
          later = clear'.1;
          keeps = λ other earlier has. inr has;
          itself = λ some'. inl refl;
          all = λ found has. subst (In found) (sym list) (inr has);
        }

    turn-by : (base : List Met) (stop : Stop) (stops : List Stop) (found : Result ℕ ZoneFault) → number stop ≡ found → AreClear base (met_at number (stop ∷ stops)) → Turn base stop stops
    turn-by base stop stops (Ok zone) is clear = turn-zone base stop stops zone is clear _ refl
    turn-by base stop stops (Err fault) is clear =
        let clear' : AreClear base (Err fault ∷ []) = subst (AreClear base) (at-refusal number stop stops fault is) clear in
        let e = clear'.0.is in cc

    turn : (base : List Met) (stop : Stop) (stops : List Stop) → AreClear base (met_at number (stop ∷ stops)) → Turn base stop stops
    turn base stop stops clear = turn-by base stop stops _ refl clear

    pub good-stop : (stops : List Stop) (base : List Met) → AreClear base (met_at number stops) → (stop : Stop) → In stop stops → GoodStop base (met_at number stops) stop
    good-stop [] base clear stop has = absurd has
    good-stop (first ∷ stops) base clear stop (inl same) =
        let one = turn base first stops clear in
        record {
          zone = one.zone;
          is = ap number (sym same) ∙ one.is;
          some = λ some. subst (λ s. ZoneAt base (met_at number (first ∷ stops)) s one.zone) same (one.here some);
        }
    good-stop (first ∷ stops) base clear stop (inr has) =
        let one = turn base first stops clear in
        let rest = good-stop stops one.next one.later stop has in
        record {
          zone = rest.zone;
          is = rest.is;
          some = λ some. let there = rest.some some in record {
            visit = there.visit;
            indirect = there.indirect;
            has = one.all (Ok there.visit) there.has;
            same = there.same;
            marked = there.marked;
            new = λ other earlier has' e. there.new other earlier (one.keeps other earlier has') e;
          };
        }

    ok-same : (found : Result ℕ ZoneFault) (zone other : ℕ) → found ≡ Ok zone → found ≡ Ok other → zone ≡ other
    ok-same found zone other one two = cc

    apart-from : (first : Stop) (stops : List Stop) (base : List Met) → AreClear base (met_at number (first ∷ stops)) → (stop : Stop) → In stop stops → (zone : ℕ)
        → number first ≡ Ok zone → number stop ≡ Ok zone → zone ≢ 0 → ⊥
    apart-from first stops base clear stop has zone is is' some =
        let one = turn base first stops clear in
        let rest = good-stop stops one.next one.later stop has in
        let same : one.zone ≡ zone = ok-same (number first) one.zone zone one.is is in
        let same' : rest.zone ≡ zone = ok-same (number stop) rest.zone zone rest.is is' in
        (rest.some (λ e. some (sym same' ∙ e))).new inode (visit_at first one.zone) (one.itself (λ e. some (sym same ∙ e))) (same ∙ sym same')

    -- no two stops have one zone
    pub stops-apart : (stops : List Stop) (base : List Met) → AreClear base (met_at number stops) → (stop other : Stop) → In stop stops → In other stops → stop ≢ other → (zone : ℕ)
        → number stop ≡ Ok zone → number other ≡ Ok zone → zone ≢ 0 → ⊥
    stops-apart [] base clear stop other has has' apart zone is is' some = has
    stops-apart (first ∷ stops) base clear stop other (inl same) (inl same') apart zone is is' some = apart (sym same ∙ same')
    stops-apart (first ∷ stops) base clear stop other (inl same) (inr has') apart zone is is' some =
        apart-from first stops base clear other has' zone (ap number same ∙ is) is' some
    stops-apart (first ∷ stops) base clear stop other (inr has) (inl same') apart zone is is' some =
        apart-from first stops base clear stop has zone (ap number same' ∙ is') is some
    stops-apart (first ∷ stops) base clear stop other (inr has) (inr has') apart zone is is' some =
        let one = turn base first stops clear in
        stops-apart stops one.next one.later stop other has has' apart zone is is' some
