-- What is begun and planned is what the model's checks answer, on the image that settling left.
use Rattle.std.proofs.Common.{◌≡◌, ℕ, Bool, true, false, List, Option, Result, Ok, Err, refl, sym, ◌∙◌}
use Rattle.std.proofs.lemmas.Bool.{false≢true}
use Rattle.std.specs.Prelude.{IsErr}
use Rattle.lilo_model.specs.Apart.{apart_checks}
use Rattle.lilo_model.specs.Checks.{◌>>=◌, require, with_fault}
use Rattle.lilo_model.specs.Disks.{Image, Machine, DiskSector}
use Rattle.lilo_model.specs.Mapped.{mapped_sectors}
use Rattle.lilo_model.specs.Meant.{default_place}
use Rattle.lilo_model.specs.MinixNames.{names_in}
use Rattle.lilo_model.specs.MinixParts.{parts_of}
use Rattle.lilo_model.specs.MinixSurvey.{Met, survey}
use Rattle.lilo_model.specs.MinixWalk.{visits}
use Rattle.lilo_model.specs.Plan.{Plan, plan_names}
use Rattle.lilo_model.specs.PlanRefusal as plans
use Rattle.lilo_model.specs.PlanRefusal.{plan_at, own_places_check}
use Rattle.lilo_model.specs.Settled as model
use Rattle.lilo_model.specs.Settled.{is_foreign, own_names}
use Rattle.map_plan.specs.Skipped as skips
use Rattle.install_apart.specs.Apart.{device_checks}
use Rattle.install_laws.specs.InstallVerdict.{Answer, Begun, InstallRefusal, NotSound, NotApart, BadName, NoLink, NoPlan, NoRoom, install_room, is_clear, may_settle}
use Rattle.install_order.specs.Begins.{IsBegun}
use Rattle.install_order.specs.Checks.{IsExamined, begin_checks}
use Rattle.install_order.specs.Faults.{Refuses}
use Rattle.install_order.specs.Plans.{map_checks, plan_checks, wish_of}
use Rattle.install_order.specs.declared.examination.Examined.{Examined}
use Rattle.install_order.specs.declared.fault.InstallFault.{InstallFault}
use Rattle.install_room.specs.Room.{room_for}
use Rattle.install_run.proofs.PreviewLemmas.{first_refuses, later_refuses, same_skipped, same_clear}
use Rattle.install_run.specs.Answers.{IsSettledFrom, settled_answer, settled_report}

-- where a chain of checks passes, its first ones don't refuse
first_pass : {R : Type 0} (met : Result (List Met) R) (apart : Result (Unit {0}) R) (names : Result model.OwnNames R) (may : model.OwnNames → Result (Unit {0}) R)
    (more : List Met → model.OwnNames → Result Answer R) (answer : Answer)
    → (met >>= λ m. apart >>= λ a. names >>= λ n. may n >>= λ b. more m n) ≡ Ok answer
    → IsErr (met >>= λ m. apart >>= λ a. names >>= λ n. may n >>= λ b. Ok n) → ⊥
first_pass (Err why) apart names may more answer is refused = cc
first_pass (Ok met) (Err why) names may more answer is refused = cc
first_pass (Ok met) (Ok apart) (Err why) may more answer is refused = cc
first_pass {R} (Ok met) (Ok apart) (Ok names) may more answer is refused = by (may names) is refused
  where
    by : (done : Result (Unit {0}) R) → (done >>= λ b. more met names) ≡ Ok answer → IsErr (done >>= λ b. Ok names) → ⊥
    by (Err why) passes refuses = cc
    by (Ok done) passes refuses = let is : false ≡ true = refuses in false≢true is

-- a check that comes first refuses all, and else what refuses the others does
again_refuses : {A B : Type 0} (fault : InstallFault) (first : Result (Unit {0}) InstallRefusal) (one : Unit {0} → Result A InstallRefusal) (other : Unit {0} → Result B InstallRefusal)
    → Refuses fault (first >>= one) → (Refuses fault (one tt) → Refuses fault (other tt)) → Refuses fault (first >>= other)
again_refuses fault (Ok done) one other is later = later is
again_refuses fault (Err why) one other is later = is

again_passes : {A : Type 0} (first : Result (Unit {0}) InstallRefusal) (next : Unit {0} → Result A InstallRefusal) (value : A) → (first >>= next) ≡ Ok value
    → (first ≡ Ok tt) × (next tt ≡ Ok value)
again_passes (Ok done) next value is = (refl, is)
again_passes (Err why) next value is = cc

module _ (image : Image) (machine : Machine) (settled : Image) (begun : Begun) (time : ℕ) where
  -- the checks from the plan on
  abbrev pub Planned : List Met → model.OwnNames → Result Answer InstallRefusal
  Planned met names =
      with_fault NoPlan (plan_at settled machine begun.volume begun.span begun.config time)
      >>= λ plan. with_fault NoRoom (install_room image machine settled time begun names plan)
      >>= λ places. with_fault NoPlan (own_places_check begun.config machine places)
      >>= λ c. Ok (settled_report image machine settled begun met plan)

  -- those after settling
  abbrev pub Again : Result (Unit {0}) InstallRefusal
  Again = with_fault NotApart (device_checks settled machine begun.volume begun.config begun.boot)

  abbrev pub Rest : List Met → model.OwnNames → Result Answer InstallRefusal
  Rest met names = Again >>= λ a. Planned met names

  abbrev pub First : Result Answer InstallRefusal
  First =
      with_fault NotSound (survey begun.volume.layout (parts_of begun.volume image))
      >>= λ met. with_fault NotApart (apart_checks image machine begun.volume begun.config begun.boot)
      >>= λ a. with_fault BadName (own_names (names_in begun.volume image) begun.config begun.boot (is_foreign (image begun.span.disk begun.span.start)))
      >>= λ names. require (may_settle image machine begun.volume (visits begun.volume.layout (parts_of begun.volume image)) begun.span names.map) NoLink
      >>= λ b. Rest met names

  pub all-is : settled_answer image machine settled begun time ≡ First
  unfolding settled_answer
  all-is = refl

  -- what passes all checks passes the first ones
  pub passes_begun : (answer : Answer) → settled_answer image machine settled begun time ≡ Ok answer
      → IsErr (begin_checks image machine begun.volume begun.config begun.boot begun.span) → ⊥
  unfolding begin_checks
  passes_begun answer is =
      first_pass (with_fault NotSound (survey begun.volume.layout (parts_of begun.volume image)))
      (with_fault NotApart (apart_checks image machine begun.volume begun.config begun.boot))
      (with_fault BadName (own_names (names_in begun.volume image) begun.config begun.boot (is_foreign (image begun.span.disk begun.span.start))))
      (λ names. require (may_settle image machine begun.volume (visits begun.volume.layout (parts_of begun.volume image)) begun.span names.map) NoLink) Rest answer
      (sym all-is ∙ is)

  -- so names were settled
  pub passes_settled : (answer : Answer) → settled_answer image machine settled begun time ≡ Ok answer → IsSettledFrom image machine begun settled
      → (found : Examined) × IsBegun image machine begun found settled
  passes_settled answer is from = by (begin_checks image machine begun.volume begun.config begun.boot begun.span) refl
    where
      by : (checks : Result model.OwnNames InstallRefusal) → begin_checks image machine begun.volume begun.config begun.boot begun.span ≡ checks
          → (found : Examined) × IsBegun image machine begun found settled
      by (Ok names) passes = from names passes
      by (Err refusal) refuses =
          let refused : IsErr (begin_checks image machine begun.volume begun.config begun.boot begun.span) = rw refuses refl in
          absurd (passes_begun answer is refused)

  -- what refuses to begin refuses it
  pub begin_refused : (fault : InstallFault) → Refuses fault (begin_checks image machine begun.volume begun.config begun.boot begun.span)
      → Refuses fault (settled_answer image machine settled begun time)
  unfolding begin_checks
  begin_refused fault is =
      rw all-is
      (first_refuses fault (with_fault NotSound (survey begun.volume.layout (parts_of begun.volume image)))
      (with_fault NotApart (apart_checks image machine begun.volume begun.config begun.boot))
      (with_fault BadName (own_names (names_in begun.volume image) begun.config begun.boot (is_foreign (image begun.span.disk begun.span.start))))
      (λ names. require (may_settle image machine begun.volume (visits begun.volume.layout (parts_of begun.volume image)) begun.span names.map) NoLink) Rest is)

  module _ (found : Examined) (ex : IsExamined image machine begun.volume begun.config begun.boot begun.span found) where
    rest-is : settled_answer image machine settled begun time ≡ Rest ex.met ex.names
    rest-is = all-is ∙ rw (ex.surveyed, ex.apart, ex.are, ex.may) refl

    abbrev Checks : Result (List DiskSector) InstallRefusal
    Checks = plan_checks settled machine begun.volume begun.config begun.boot begun.span (mapped_sectors image machine begun.span) ex.names false time

    -- what refuses a plan does
    pub plan_refused : (fault : InstallFault) → Refuses fault Checks → Refuses fault (settled_answer image machine settled begun time)
    unfolding plan_checks map_checks install_room
    plan_refused fault is =
        rw rest-is
        (again_refuses fault Again (λ a. map_checks settled machine begun.volume begun.config begun.span (mapped_sectors image machine begun.span) ex.names false time)
        (λ a. Planned ex.met ex.names) is
        (later_refuses fault (with_fault NoPlan (plan_at settled machine begun.volume begun.span begun.config time))
        (λ plan. with_fault NoRoom (room_for begun.volume (parts_of begun.volume settled) (mapped_sectors image machine begun.span) ex.names (wish_of machine begun.config false time plan)))
        (λ places. with_fault NoPlan (own_places_check begun.config machine places))
        (settled_report image machine settled begun ex.met)))

    own-of : (places : List DiskSector) (given : Result (Unit {0}) plans.PlanFault) → (with_fault NoPlan given >>= λ c. Ok places) ≡ Ok places → given ≡ Ok tt
    own-of places (Ok done) is = refl
    own-of places (Err why) is = cc

    -- a plan that passes is reported
    pub plan_passes : (plan : Plan) (places : List DiskSector) → plan_at settled machine begun.volume begun.span begun.config time ≡ Ok plan
        → room_for begun.volume (parts_of begun.volume settled) (mapped_sectors image machine begun.span) ex.names (wish_of machine begun.config false time plan) ≡ Ok places
        → Checks ≡ Ok places → settled_answer image machine settled begun time ≡ Ok (settled_report image machine settled begun ex.met plan)
    unfolding plan_checks map_checks install_room
    plan_passes plan places map room passes =
        let both = again_passes Again (λ a. map_checks settled machine begun.volume begun.config begun.span (mapped_sectors image machine begun.span) ex.names false time) places passes in
        let own : own_places_check begun.config machine places ≡ Ok tt = own-of places (own_places_check begun.config machine places) (rw (map, room) at both.1) in
        rest-is ∙ rw (both.0, map, room, own) refl

    pub report_is : (plan : Plan) (skipped : List (List ℕ)) (clear : Option Bool) → plan.config ≡ begun.config → skipped ≡ skips.skipped_paths settled machine begun.volume begun.config.sections
        → clear ≡ found.clear
        → settled_report image machine settled begun ex.met plan
        ≡ record { skipped = skipped; clear = clear; names = plan_names plan; default = default_place plan.config.default_name (plan_names plan) }
    report_is plan skipped clear config skips-is clear-is =
        let one = skips-is ∙ same_skipped settled machine begun.volume begun.config.sections in
        let two = clear-is ∙ (ex.clear ∙ same_clear (is_foreign (image begun.span.disk begun.span.start)) (is_clear begun.volume image ex.met machine begun.span)) in
        rw (one, two, config) refl
