-- The zones that a file gets are of those that were chosen.
use Rattle.std.proofs.Common.{◌≡◌, ◌≢◌, ◌<◌, ◌==◌, ℕ, zero, suc, Bool, true, false, List, [], ◌∷◌, length, drop, All, refl, sym, ap, ◌∙◌, subst, arith}
use Rattle.std.specs.Prelude.{slice_index}
use Rattle.std.proofs.lemmas.Bool.{eq-eqb}
use Rattle.lilo_model.specs.MinixLayout.{Kind}
use Rattle.minix_steps.specs.Numbers.{has_number}
use Rattle.minix_choice_laws.specs.Choice.{file_of}
use Rattle.minix_choice_laws.specs.Sources.{Source, Block, Indirect, zone_from}
use Rattle.minix_choice_laws.proofs.Given.{past_end}
use Rattle.minix_choice.specs.Suits.{IsFileOf}
use Rattle.write_model.specs.Choice.{Choice}
use Rattle.write_model.specs.FileZones.{given, count_made}

-- a number is one of some
pub record IsOf (zones : List ℕ) (zone : ℕ) : Type 0 where
  pub at : ℕ
  pub inside : at < length zones
  pub is : slice_index zones at ≡ zone

later : (first : ℕ) (zones : List ℕ) (zone : ℕ) → IsOf zones zone → IsOf (first ∷ zones) zone
later first zones zone of = record { at = suc of.at; inside = omega (arith, of.inside); is = of.is }

given_of : (made : List Bool) (zones : List ℕ) (i : ℕ) → slice_index (given made zones) i ≢ 0 → IsOf zones (slice_index (given made zones) i)
given_of [] zones i some = absurd (some (past_end [] i (omega arith)))
given_of (false ∷ made) zones zero some = absurd (some refl)
given_of (false ∷ made) zones (suc i) some = given_of made zones i some
given_of (true ∷ made) [] zero some = absurd (some refl)
given_of (true ∷ made) [] (suc i) some = given_of made [] i some
given_of (true ∷ made) (zone ∷ zones) zero some = record { at = 0; inside = omega arith; is = refl }
given_of (true ∷ made) (zone ∷ zones) (suc i) some = later zone zones (slice_index (given made zones) i) (given_of made zones i some)

dropped : (n : ℕ) (zones : List ℕ) (zone : ℕ) → IsOf (drop n zones) zone → IsOf zones zone
dropped zero zones zone of = of
dropped (suc n) [] zone of = of
dropped (suc n) (first ∷ zones) zone of = later first zones zone (dropped n zones zone of)

-- each zone of the file is
pub file_zone : (kind : Kind) (made : List Bool) (choice : Choice) → IsFileOf kind made choice → (source : Source) → zone_from (file_of choice) source ≢ 0 → IsOf choice.zones (zone_from (file_of choice) source)
file_zone kind made choice file (Block index) some =
    let P : List ℕ → Type 0 = λ blocks. slice_index blocks index ≢ 0 → IsOf choice.zones (slice_index blocks index) in
    subst P (sym file.blocks_are) (given_of made choice.zones index) some
file_zone kind made choice file (Indirect place) some =
    let P : List ℕ → Type 0 = λ indirect. slice_index indirect place ≢ 0 → IsOf choice.zones (slice_index indirect place) in
    subst P (sym file.indirect_are)
    (λ some'. dropped (count_made made) choice.zones _ (given_of _ (drop (count_made made) choice.zones) place some')) some

-- ---- what holds of all of some

pub of_all : (P : ℕ → Type 0) (zones : List ℕ) (zone : ℕ) → All P zones → IsOf zones zone → P zone
of_all P zones zone all of = subst P of.is (all of.at 0 of.inside)

pub of_each : (P : ℕ → Type 0) (zones : List ℕ) (zone : ℕ) → ((i : ℕ) → i < length zones → P (slice_index zones i)) → IsOf zones zone → P zone
of_each P zones zone each of = subst P of.is (each of.at of.inside)

pub has_one : (zones : List ℕ) (zone : ℕ) → IsOf zones zone → has_number zones zone ≡ true
unfolding has_number
has_one [] zone of = absurd (let i = of.inside in omega (arith, i))
has_one (first ∷ zones) zone of = by (has_one zones zone) (zone == first) refl of.at refl
  where
    by : (IsOf zones zone → has_number zones zone ≡ true) → (same : Bool) → (zone == first) ≡ same → (at : ℕ) → of.at ≡ at → has_number (first ∷ zones) zone ≡ true
    by rest true is at e = rw is refl
    by rest false is zero e =
        let here : slice_index (first ∷ zones) 0 ≡ zone = ap (slice_index (first ∷ zones)) (sym e) ∙ of.is in
        let t = eq-eqb zone first (sym here) in
        absurd (cc)
    by rest false is (suc at) e =
        let there : slice_index (first ∷ zones) (suc at) ≡ zone = ap (slice_index (first ∷ zones)) (sym e) ∙ of.is in
        let inside = of.inside in
        rw is (rest (record { at = at; inside = omega (arith, inside, e); is = there }))
