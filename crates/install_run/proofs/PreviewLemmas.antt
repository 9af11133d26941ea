-- What is looked at and planned is what the model's checks answer.
use Rattle.std.proofs.Common.{◌≡◌, ℕ, Bool, true, false, List, [], ◌∷◌, ◌++◌, Option, None, Some, Result, Ok, Err, refl, ◌∙◌, ap}
use Rattle.std.specs.Prelude.{if◌then◌else◌}
use Rattle.std.specs.List.{flat_map}
use Rattle.lilo_model.specs.Apart.{apart_checks}
use Rattle.lilo_model.specs.Checks.{◌>>=◌, require, with_fault}
use Rattle.lilo_model.specs.Conf.{ConfSection}
use Rattle.lilo_model.specs.Disks.{Image, Machine, DiskSector}
use Rattle.lilo_model.specs.Mapped.{mapped_sectors}
use Rattle.lilo_model.specs.Meant.{default_place}
use Rattle.lilo_model.specs.MinixNames.{names_in}
use Rattle.lilo_model.specs.MinixParts.{Volume, parts_of}
use Rattle.lilo_model.specs.MinixSurvey.{Met, survey}
use Rattle.lilo_model.specs.MinixWalk.{visits}
use Rattle.lilo_model.specs.Plan.{MappedSection, Plan, plan_names}
use Rattle.lilo_model.specs.Planned.{mapped_section}
use Rattle.lilo_model.specs.PlanRefusal as plans
use Rattle.lilo_model.specs.PlanRefusal.{plan_at, own_places_check}
use Rattle.lilo_model.specs.Settled as model
use Rattle.lilo_model.specs.Settled.{is_foreign, own_names}
use Rattle.map_plan.specs.Skipped as skips
use Rattle.present_map.specs.Clear.{clear_answer}
use Rattle.install_laws.specs.InstallVerdict.{Answer, Begun, InstallRefusal, NotSound, NotApart, BadName, NoLink, NoPlan, NoRoom, answer_of, install_checks, is_clear, may_settle, skipped_path, test_room}
use Rattle.install_order.specs.Checks.{IsExamined, begin_checks}
use Rattle.install_order.specs.Faults.{Refuses}
use Rattle.install_order.specs.Plans.{map_checks, plan_checks, wish_of}
use Rattle.install_order.specs.declared.examination.Examined.{Examined}
use Rattle.install_order.specs.declared.fault.InstallFault.{InstallFault}
use Rattle.install_order.proofs.RefuseLemmas.{stopped}
use Rattle.install_room.specs.Room.{room_for}
use Rattle.install_run.specs.Previews.{preview_answer}

-- ---- refusals

-- the first checks refuse what all of them do
pub first_refuses : (fault : InstallFault) (met : Result (List Met) InstallRefusal) (apart : Result (Unit {0}) InstallRefusal) (names : Result model.OwnNames InstallRefusal)
    (may : model.OwnNames → Result (Unit {0}) InstallRefusal) (more : List Met → model.OwnNames → Result Answer InstallRefusal)
    → Refuses fault (met >>= λ m. apart >>= λ a. names >>= λ n. may n >>= λ b. Ok n)
    → Refuses fault (met >>= λ m. apart >>= λ a. names >>= λ n. may n >>= λ b. more m n)
first_refuses fault (Err why) apart names may more is = is
first_refuses fault (Ok met) (Err why) names may more is = is
first_refuses fault (Ok met) (Ok apart) (Err why) may more is = is
first_refuses fault (Ok met) (Ok apart) (Ok names) may more is = by (may names) is
  where
    by : (done : Result (Unit {0}) InstallRefusal) → Refuses fault (done >>= λ b. Ok names) → Refuses fault (done >>= λ b. more met names)
    by (Err why) same = same
    by (Ok done) same = stopped fault (more met names) same

-- so do the later ones, whatever is answered in the end
pub later_refuses : (fault : InstallFault) (plan : Result Plan InstallRefusal) (room : Plan → Result (List DiskSector) InstallRefusal) (own : List DiskSector → Result (Unit {0}) InstallRefusal)
    (answer : Plan → Answer) → Refuses fault (plan >>= λ p. room p >>= λ r. own r >>= λ c. Ok r) → Refuses fault (plan >>= λ p. room p >>= λ r. own r >>= λ c. Ok (answer p))
later_refuses fault (Err why) room own answer is = is
later_refuses fault (Ok plan) room own answer is = by (room plan) is
  where
    by-own : (places : List DiskSector) (done : Result (Unit {0}) InstallRefusal) → Refuses fault (done >>= λ c. Ok places) → Refuses fault (done >>= λ c. Ok (answer plan))
    by-own places (Err why) same = same
    by-own places (Ok done) same = same

    by : (given : Result (List DiskSector) InstallRefusal) → Refuses fault (given >>= λ r. own r >>= λ c. Ok r) → Refuses fault (given >>= λ r. own r >>= λ c. Ok (answer plan))
    by (Err why) same = same
    by (Ok places) same = by-own places (own places) same

-- ---- what is omitted

same-path : (section : ConfSection) (mapped : List MappedSection) → skips.skipped_path section mapped ≡ skipped_path section mapped
same-path section [] = refl
same-path section (mapped ∷ others) = refl

pub same_skipped : (image : Image) (machine : Machine) (volume : Volume) (sections : List ConfSection)
    → skips.skipped_paths image machine volume sections ≡ flat_map (λ section. skipped_path section (mapped_section image machine volume section)) sections
same_skipped image machine volume [] = refl
same_skipped image machine volume (section ∷ sections) =
    ap (λ (paths : List (List ℕ)). paths ++ skips.skipped_paths image machine volume sections) (same-path section (mapped_section image machine volume section))
    ∙ ap (λ (paths : List (List ℕ)). skipped_path section (mapped_section image machine volume section) ++ paths) (same_skipped image machine volume sections)

pub same_clear : (foreign clear : Bool) → clear_answer foreign clear ≡ (if foreign then None else Some clear)
same_clear true clear = refl
same_clear false clear = refl

-- ---- the whole

module _ (image : Image) (machine : Machine) (begun : Begun) (time : ℕ) where
  -- the checks from the plan on
  abbrev Rest : List Met → model.OwnNames → Result Answer InstallRefusal
  Rest met names =
      with_fault NoPlan (plan_at image machine begun.volume begun.span begun.config time)
      >>= λ plan. with_fault NoRoom (test_room image machine time begun names plan)
      >>= λ places. with_fault NoPlan (own_places_check begun.config machine places)
      >>= λ c. Ok (answer_of image machine begun met plan)

  abbrev First : Result Answer InstallRefusal
  First =
      with_fault NotSound (survey begun.volume.layout (parts_of begun.volume image))
      >>= λ met. with_fault NotApart (apart_checks image machine begun.volume begun.config begun.boot)
      >>= λ a. with_fault BadName (own_names (names_in begun.volume image) begun.config begun.boot (is_foreign (image begun.span.disk begun.span.start)))
      >>= λ names. require (may_settle image machine begun.volume (visits begun.volume.layout (parts_of begun.volume image)) begun.span names.map) NoLink
      >>= λ b. Rest met names

  all-is : preview_answer image machine begun time ≡ First
  unfolding install_checks survey
  all-is = refl

  pub look_refused : (fault : InstallFault) → Refuses fault (begin_checks image machine begun.volume begun.config begun.boot begun.span) → Refuses fault (preview_answer image machine begun time)
  unfolding begin_checks
  look_refused fault is =
      rw all-is
      (first_refuses fault (with_fault NotSound (survey begun.volume.layout (parts_of begun.volume image)))
      (with_fault NotApart (apart_checks image machine begun.volume begun.config begun.boot))
      (with_fault BadName (own_names (names_in begun.volume image) begun.config begun.boot (is_foreign (image begun.span.disk begun.span.start))))
      (λ names. require (may_settle image machine begun.volume (visits begun.volume.layout (parts_of begun.volume image)) begun.span names.map) NoLink) Rest is)

  module _ (found : Examined) (ex : IsExamined image machine begun.volume begun.config begun.boot begun.span found) where
    rest-is : preview_answer image machine begun time ≡ Rest ex.met ex.names
    rest-is = all-is ∙ rw (ex.surveyed, ex.apart, ex.are, ex.may) refl

    abbrev Checks : Result (List DiskSector) InstallRefusal
    Checks = plan_checks image machine begun.volume begun.config begun.boot begun.span (mapped_sectors image machine begun.span) ex.names true time

    pub plan_refused : (fault : InstallFault) → Refuses fault Checks → Refuses fault (preview_answer image machine begun time)
    unfolding plan_checks map_checks test_room
    plan_refused fault is =
        rw rest-is
        (later_refuses fault (with_fault NoPlan (plan_at image machine begun.volume begun.span begun.config time))
        (λ plan. with_fault NoRoom (room_for begun.volume (parts_of begun.volume image) (mapped_sectors image machine begun.span) ex.names (wish_of machine begun.config true time plan)))
        (λ places. with_fault NoPlan (own_places_check begun.config machine places))
        (answer_of image machine begun ex.met) is)

    own-of : (places : List DiskSector) (given : Result (Unit {0}) plans.PlanFault) → (with_fault NoPlan given >>= λ c. Ok places) ≡ Ok places → given ≡ Ok tt
    own-of places (Ok done) is = refl
    own-of places (Err why) is = cc

    pub plan_passes : (plan : Plan) (places : List DiskSector) → plan_at image machine begun.volume begun.span begun.config time ≡ Ok plan
        → room_for begun.volume (parts_of begun.volume image) (mapped_sectors image machine begun.span) ex.names (wish_of machine begun.config true time plan) ≡ Ok places
        → Checks ≡ Ok places → preview_answer image machine begun time ≡ Ok (answer_of image machine begun ex.met plan)
    unfolding plan_checks map_checks test_room
    plan_passes plan places map room passes =
        let own : own_places_check begun.config machine places ≡ Ok tt = own-of places (own_places_check begun.config machine places) (rw (map, room) at passes) in
        rest-is ∙ rw (map, room, own) refl

    -- what is answered
    pub answer_is : (plan : Plan) (skipped : List (List ℕ)) (clear : Option Bool) → plan.config ≡ begun.config → skipped ≡ skips.skipped_paths image machine begun.volume begun.config.sections
        → clear ≡ found.clear
        → answer_of image machine begun ex.met plan
        ≡ record { skipped = skipped; clear = clear; names = plan_names plan; default = default_place plan.config.default_name (plan_names plan) }
    unfolding answer_of
    answer_is plan skipped clear config skips-is clear-is =
        let one = skips-is ∙ same_skipped image machine begun.volume begun.config.sections in
        let two = clear-is ∙ (ex.clear ∙ same_clear (is_foreign (image begun.span.disk begun.span.start)) (is_clear begun.volume image ex.met machine begun.span)) in
        rw (one, two, config) refl
