-- What an installation answers is the model's answer, by the image at its entry.
use Rattle.std.proofs.Common.{◌≡◌, ℕ, List, [], ◌∷◌, Result, Ok, Err, refl, sym, ◌∙◌}
use Rattle.std.specs.Prelude.{flat_map}
use Rattle.std.specs.List.{AllByRecursion}
use Rattle.boot_laws.proofs.Checks.{bind-same, told-given}
use Rattle.lilo_model.specs.Apart.{Apart, apart_checks}
use Rattle.lilo_model.specs.Checks.{◌>>=◌, require, with_fault}
use Rattle.lilo_model.specs.Conf.{ConfSection}
use Rattle.lilo_model.specs.Disks.{Image, Machine, DiskSector}
use Rattle.lilo_model.specs.MinixNames.{names_in}
use Rattle.lilo_model.specs.MinixParts.{parts_of}
use Rattle.lilo_model.specs.MinixSurvey.{Met, survey}
use Rattle.lilo_model.specs.MinixWalk.{visits}
use Rattle.lilo_model.specs.Plan.{Plan}
use Rattle.lilo_model.specs.Planned.{mapped_section}
use Rattle.lilo_model.specs.PlanRefusal.{plan_at, own_places_check}
use Rattle.lilo_model.specs.Settled as model
use Rattle.lilo_model.specs.Settled.{is_foreign, own_names}
use Rattle.install_join_laws.specs.Plans.{MapsAsIn}
use Rattle.install_join_laws.proofs.Stays.{kept_devices_law}
use Rattle.install_join_laws.proofs.Surveyed.{begun_plans_law}
use Rattle.install_laws.specs.InstallVerdict.{Answer, Begun, InstallRefusal, NotSound, NotApart, BadName, NoLink, NoPlan, NoRoom, answer_of, install_checks, install_room, may_settle, skipped_path}
use Rattle.install_order.specs.Begins.{IsBegun}
use Rattle.install_order.specs.Checks.{begin_checks}
use Rattle.install_order.specs.declared.examination.Examined.{Examined}
use Rattle.install_run.specs.Answers.{IsSettledFrom, settled_answer, settled_report}
use Rattle.install_run.specs.Entry.{EntryAnswerLaw}
use Rattle.install_run.specs.Keeps.{IsSteady}
use Rattle.install_run.proofs.AnswerLemmas.{Rest, all-is}

-- ---- chains of checks

-- what is reported of a plan that passes is the same where reports are
report_same : {R : Type 0} → (r : Result Plan R) (room : Plan → Result (List DiskSector) R) (own : List DiskSector → Result (Unit {0}) R) (one other : Plan → Answer)
    → ((plan : Plan) → one plan ≡ other plan)
    → (r >>= λ plan. room plan >>= λ places. own places >>= λ c. Ok (one plan)) ≡ (r >>= λ plan. room plan >>= λ places. own places >>= λ c. Ok (other plan))
report_same (Ok plan) room own one other same = rw (same plan) refl
report_same (Err why) room own one other same = refl

-- sections that map what they mapped are omitted as they were
skipped_same : (one other : ConfSection → List Rattle.lilo_model.specs.Plan.MappedSection) (sections : List ConfSection) → AllByRecursion (λ section. one section ≡ other section) sections
    → flat_map (λ section. skipped_path section (one section)) sections ≡ flat_map (λ section. skipped_path section (other section)) sections
skipped_same one other [] all = refl
skipped_same one other (section ∷ sections) (first, rest) = rw (first, skipped_same one other sections rest) refl

module _ (image : Image) (machine : Machine) (settled : Image) (begun : Begun) (time : ℕ) (from : IsSettledFrom image machine begun settled)
    (steady : IsSteady image settled machine begun) where
  -- the checks from the plan on, by the image at the entry
  abbrev EntryRest : List Met → model.OwnNames → Result Answer InstallRefusal
  EntryRest met names =
      with_fault NoPlan (plan_at image machine begun.volume begun.span begun.config time)
      >>= λ plan. with_fault NoRoom (install_room image machine settled time begun names plan)
      >>= λ places. with_fault NoPlan (own_places_check begun.config machine places)
      >>= λ c. Ok (answer_of image machine begun met plan)

  abbrev Checks : Result Answer InstallRefusal
  Checks = install_checks image machine (visits begun.volume.layout (parts_of begun.volume image)) (install_room image machine settled time begun) time begun

  entry-is :
      Checks
      ≡ (with_fault NotSound (survey begun.volume.layout (parts_of begun.volume image))
      >>= λ met. with_fault NotApart (apart_checks image machine begun.volume begun.config begun.boot)
      >>= λ a. with_fault BadName (own_names (names_in begun.volume image) begun.config begun.boot (is_foreign (image begun.span.disk begun.span.start)))
      >>= λ names. require (may_settle image machine begun.volume (visits begun.volume.layout (parts_of begun.volume image)) begun.span names.map) NoLink
      >>= λ b. EntryRest met names)
  unfolding install_checks survey
  entry-is = refl

  -- once it began they pass or refuse as they do on what settling leaves
  module _ (found : Examined) (is : IsBegun image machine begun found settled) (apart : Apart image machine begun.volume begun.config begun.boot) where
    both : (plan_at settled machine begun.volume begun.span begun.config time ≡ plan_at image machine begun.volume begun.span begun.config time)
        × AllByRecursion (MapsAsIn image settled machine begun.volume) begun.config.sections
    both = begun_plans_law image settled machine begun found time is steady.devices apart (steady.paths is.names is.are)

    reported : (met : List Met) (plan : Plan) → settled_report image machine settled begun met plan ≡ answer_of image machine begun met plan
    unfolding answer_of
    reported met plan =
        rw (skipped_same (mapped_section settled machine begun.volume) (mapped_section image machine begun.volume) begun.config.sections both.1) refl

    rest-same : (met : List Met) (names : model.OwnNames) → Rest image machine settled begun time met names ≡ EntryRest met names
    rest-same met names =
        rw (kept_devices_law image settled machine begun.volume begun.config begun.boot steady.devices apart, both.0)
        (report_same (with_fault NoPlan (plan_at image machine begun.volume begun.span begun.config time))
        (λ plan. with_fault NoRoom (install_room image machine settled time begun names plan)) (λ places. with_fault NoPlan (own_places_check begun.config machine places))
        (settled_report image machine settled begun met) (answer_of image machine begun met) (reported met))

  -- it began where the checks up to settling pass
  passes : (met : List Met) (names : model.OwnNames) → with_fault NotSound (survey begun.volume.layout (parts_of begun.volume image)) ≡ Ok met
      → with_fault NotApart (apart_checks image machine begun.volume begun.config begun.boot) ≡ Ok tt
      → with_fault BadName (own_names (names_in begun.volume image) begun.config begun.boot (is_foreign (image begun.span.disk begun.span.start))) ≡ Ok names
      → require (may_settle image machine begun.volume (visits begun.volume.layout (parts_of begun.volume image)) begun.span names.map) NoLink ≡ Ok tt
      → begin_checks image machine begun.volume begun.config begun.boot begun.span ≡ Ok names
  unfolding begin_checks
  passes met names met-is apart-is own-is may-is = rw (met-is, apart-is, own-is, may-is) refl

  pub entry_answer : settled_answer image machine settled begun time ≡ Checks
  entry_answer =
      all-is image machine settled begun time
      ∙ (bind-same (with_fault NotSound (survey begun.volume.layout (parts_of begun.volume image))) _ _ (λ met met-is.
      bind-same (with_fault NotApart (apart_checks image machine begun.volume begun.config begun.boot)) _ _ (λ a apart-is.
      bind-same (with_fault BadName (own_names (names_in begun.volume image) begun.config begun.boot (is_foreign (image begun.span.disk begun.span.start)))) _ _ (λ names own-is.
      bind-same (require (may_settle image machine begun.volume (visits begun.volume.layout (parts_of begun.volume image)) begun.span names.map) NoLink) _ _ (λ b may-is.
      let began = from names (passes met names met-is apart-is own-is may-is) in
      rest-same began.0 began.1 (told-given NotApart _ tt apart-is) met names))))
      ∙ sym entry-is)

pub entry_answer_law : EntryAnswerLaw
entry_answer_law image machine settled begun time from steady = entry_answer image machine settled begun time from steady
