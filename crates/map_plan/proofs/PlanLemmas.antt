-- A plan by its stages.
use Rattle.std.proofs.Common.{◌≡◌, ℕ, List, Option, Some, None, Result, Ok, refl, sym, ap, subst, ◌∙◌}
use Rattle.std.specs.Prelude.{All, IfSome}
use Rattle.std.specs.Option.{option_map}
use Rattle.std.proofs.lemmas.List.Elements.{All-weaker}
use Rattle.disk_trait.specs.Past.{Past, Told, now_of}
use Rattle.lilo_model.specs.Checks.{◌>>=◌}
use Rattle.lilo_model.specs.Disks.{Image, Machine, Span}
use Rattle.lilo_model.specs.Conf.{Config}
use Rattle.lilo_model.specs.MinixParts.{Volume}
use Rattle.lilo_model.specs.MinixNames.{IsSound}
use Rattle.lilo_model.specs.Plan.{Plan}
use Rattle.lilo_model.specs.PlanRefusal as model
use Rattle.lilo_model.specs.PlanRefusal.{held_checks, address_checks, plan_at, each_passes, if_there, disk_check, message_check, mapped_check, mapped_file_check, mapped_address_check}
use Rattle.lilo_model.specs.ConfOptions as options
use Rattle.map_plan.specs.declared.fault.PlanFault.{PlanFault}
use Rattle.map_plan.specs.declared.section.PlannedSection.{PlannedSection}
use Rattle.map_plan.specs.Named.{LiesOnDisk, SectionLiesOnDisk}
use Rattle.map_plan.specs.Sections.{planned_view, IsPlannedIn}
use Rattle.map_plan.specs.View.{Refuses}
use Rattle.map_plan.specs.Whole.{files_planned}
use Rattle.map_plan.proofs.SoundLemmas.{refused_first}
use Rattle.map_plan.proofs.PlannedLemmas.{all_unmapped, sections-planned, section-on, optional-on, files-parts}
use Rattle.map_plan.proofs.WholeLemmas.{plan_law}

module _ (machine : Machine) (volume : Volume) (boot : Span) (config : Config) (time : ℕ) where
  -- what comes after the files
  abbrev behind : Image → Plan → Result Plan model.PlanFault
  behind image plan =
      held_checks image machine volume boot plan >>= λ a. address_checks machine plan >>= λ b. Ok plan

  abbrev pub AreFiles : Image → Plan → Type 0
  AreFiles image plan = files_planned image machine volume config time ≡ Ok plan

  by-files : (image : Image) (plan : Plan) → IsSound volume image → AreFiles image plan → plan_at image machine volume boot config time ≡ behind image plan
  by-files image plan sound is =
      plan_law image machine volume boot config time sound ∙ ap (λ (files : Result Plan model.PlanFault). files >>= behind image) is

  pub files-refuse : (past : Option Past) (fault : PlanFault)
      → Told past (λ now. IsSound volume now → Refuses fault (files_planned now machine volume config time))
      → Told past (λ now. IsSound volume now → Refuses fault (plan_at now machine volume boot config time))
  files-refuse None fault refused = tt
  files-refuse (Some past) fault refused = λ sound.
      subst (Refuses fault) (sym (plan_law (now_of past) machine volume boot config time sound))
      (refused_first fault (files_planned (now_of past) machine volume config time) (behind (now_of past)) (refused sound))

  module _ (plan : Plan) where
    pub held-refuse : (past : Option Past) (fault : PlanFault)
        → Told past (λ now. IsSound volume now → AreFiles now plan)
        → Told past (λ now. IsSound volume now → AreFiles now plan → Refuses fault (held_checks now machine volume boot plan))
        → Told past (λ now. IsSound volume now → Refuses fault (plan_at now machine volume boot config time))
    held-refuse None fault files refused = tt
    held-refuse (Some past) fault files refused = λ sound.
        subst (Refuses fault) (sym (by-files (now_of past) plan sound (files sound)))
        (refused_first fault (held_checks (now_of past) machine volume boot plan) (λ a. address_checks machine plan >>= λ b. Ok plan) (refused sound (files sound)))

    abbrev pub Held : Option Past → Type 0
    Held past = Told past (λ now. IsSound volume now → AreFiles now plan → held_checks now machine volume boot plan ≡ Ok tt)

    pub places-refuse : (past : Option Past) (fault : PlanFault)
        → Told past (λ now. IsSound volume now → AreFiles now plan) → Held past
        → Told past (λ now. IsSound volume now → AreFiles now plan → Refuses fault (address_checks machine plan))
        → Told past (λ now. IsSound volume now → Refuses fault (plan_at now machine volume boot config time))
    places-refuse None fault files held refused = tt
    places-refuse (Some past) fault files held refused = λ sound.
        subst (Refuses fault)
        (sym (by-files (now_of past) plan sound (files sound)
        ∙ ap (λ (held : Result (Unit {0}) model.PlanFault). held >>= λ a. address_checks machine plan >>= λ b. Ok plan) (held sound (files sound))))
        (refused_first fault (address_checks machine plan) (λ b. Ok plan) (refused sound (files sound)))

    pub plan-made : (past : Option Past)
        → Told past (λ now. IsSound volume now → AreFiles now plan) → Held past
        → Told past (λ now. IsSound volume now → AreFiles now plan → address_checks machine plan ≡ Ok tt)
        → Told past (λ now. IsSound volume now → plan_at now machine volume boot config time ≡ Ok plan)
    plan-made None files held made = tt
    plan-made (Some past) files held made = λ sound.
        by-files (now_of past) plan sound (files sound)
        ∙ ap (λ (held : Result (Unit {0}) model.PlanFault). held >>= λ a. address_checks machine plan >>= λ b. Ok plan) (held sound (files sound))
        ∙ ap (λ (made : Result (Unit {0}) model.PlanFault). made >>= λ b. Ok plan) (made sound (files sound))

  -- ---- what is known of the sections of a plan's files

  module _ (image : Image) (plan : Plan) (sections : List PlannedSection) (is : AreFiles image plan) (same : plan.sections ≡ Rattle.std.specs.Prelude.map planned_view sections) where
    pub all-planned : All (λ planned. IsPlannedIn image machine volume (planned_view planned)) sections
    all-planned =
        let parts = files-parts image machine volume config time plan is in
        all_unmapped (IsPlannedIn image machine volume) planned_view sections
        (subst (All (IsPlannedIn image machine volume)) same (sections-planned image machine volume config.sections plan.sections parts.sections))

    pub all-on : All (λ planned. SectionLiesOnDisk volume.span.disk (planned_view planned)) sections
    all-on =
        All-weaker (λ planned. IsPlannedIn image machine volume (planned_view planned)) (λ planned. SectionLiesOnDisk volume.span.disk (planned_view planned))
        (λ planned. section-on image machine volume (planned_view planned)) sections all-planned

  pub message-on : (image : Image) (plan : Plan) → AreFiles image plan → IfSome plan.message (LiesOnDisk volume.span.disk)
  message-on image plan is =
      let parts = files-parts image machine volume config time plan is in
      optional-on volume (Rattle.lilo_model.specs.MinixParts.parts_of volume image) config.message plan.message parts.message

-- ---- what is held, and the addresses, by their parts

module _ (image : Image) (machine : Machine) (volume : Volume) (boot : Span) (plan : Plan) where
  abbrev message-part : Result (Unit {0}) model.PlanFault
  message-part = if_there message_check plan.message

  abbrev sections-part : Result (Unit {0}) model.PlanFault
  sections-part = each_passes (mapped_check image volume boot) plan.sections

  pub disks-refuse : (fault : PlanFault) → Refuses fault (each_passes (disk_check machine) plan.config.disks) → Refuses fault (held_checks image machine volume boot plan)
  unfolding held_checks
  disks-refuse fault refused = refused_first fault (each_passes (disk_check machine) plan.config.disks) (λ a. message-part >>= λ b. sections-part) refused

  pub message-refuse : (fault : PlanFault) → each_passes (disk_check machine) plan.config.disks ≡ Ok tt → Refuses fault (if_there message_check plan.message)
      → Refuses fault (held_checks image machine volume boot plan)
  unfolding held_checks
  message-refuse fault disks refused = rw disks (refused_first fault message-part (λ b. sections-part) refused)

  pub held-by : each_passes (disk_check machine) plan.config.disks ≡ Ok tt → if_there message_check plan.message ≡ Ok tt
      → held_checks image machine volume boot plan ≡ each_passes (mapped_check image volume boot) plan.sections
  unfolding held_checks
  held-by disks message = rw (disks, message) refl

module _ (machine : Machine) (plan : Plan) where
  pub address-by : if_there (mapped_file_check plan.config machine options.Message) plan.message ≡ Ok tt
      → address_checks machine plan ≡ each_passes (mapped_address_check plan.config machine) plan.sections
  unfolding address_checks
  address-by message = rw message refl

  pub address-first : address_checks machine plan
      ≡ (if_there (mapped_file_check plan.config machine options.Message) plan.message >>= λ a. each_passes (mapped_address_check plan.config machine) plan.sections)
  unfolding address_checks
  address-first = refl
