-- The files of a configuration, one after the other.
use Rattle.std.proofs.Common.{◌≡◌, ℕ, List, Option, Some, None, Result, Ok, refl, sym, ap, subst, ◌∙◌}
use Rattle.disk_trait.specs.Past.{Past, Told, now_of}
use Rattle.lilo_model.specs.Checks.{◌>>=◌}
use Rattle.lilo_model.specs.Disks.{Image, Machine}
use Rattle.lilo_model.specs.Conf.{Config}
use Rattle.lilo_model.specs.MinixParts.{Volume, parts_of}
use Rattle.lilo_model.specs.MinixNames.{IsSound}
use Rattle.lilo_model.specs.Plan.{MappedFile, MappedSection, Plan, plan_names}
use Rattle.lilo_model.specs.PlanRefusal as model
use Rattle.lilo_model.specs.PlanRefusal.{default_check, left_check}
use Rattle.map_plan.specs.declared.fault.PlanFault.{PlanFault}
use Rattle.map_plan.specs.Files.{optional_planned}
use Rattle.map_plan.specs.Names.{names_of, default_among}
use Rattle.map_plan.specs.Sections.{sections_planned}
use Rattle.map_plan.specs.Starts.{code_planned}
use Rattle.map_plan.specs.View.{Refuses}
use Rattle.map_plan.specs.Whole.{files_planned}
use Rattle.map_plan.proofs.SoundLemmas.{refused_first}

module _ (machine : Machine) (volume : Volume) (config : Config) (time : ℕ) where
  abbrev plan_with : List ℕ → Option MappedFile → List MappedSection → Plan
  plan_with code message sections = record { config = config; time = time; code = code; message = message; sections = sections }

  abbrev after_sections : List ℕ → Option MappedFile → List MappedSection → Result Plan model.PlanFault
  after_sections code message sections =
      default_check (plan_with code message sections) >>= λ a. left_check sections >>= λ b. Ok (plan_with code message sections)

  abbrev after_message : Image → List ℕ → Option MappedFile → Result Plan model.PlanFault
  after_message now code message = sections_planned now machine volume config.sections >>= after_sections code message

  abbrev after_code : Image → List ℕ → Result Plan model.PlanFault
  after_code now code = optional_planned volume (parts_of volume now) config.message >>= after_message now code

  by-parts : (now : Image) → files_planned now machine volume config time ≡ (code_planned volume (parts_of volume now) config.install >>= after_code now)
  unfolding files_planned
  by-parts now = refl

  pub code-refuses : (past : Option Past) (fault : PlanFault)
      → Told past (λ now. IsSound volume now → Refuses fault (code_planned volume (parts_of volume now) config.install))
      → Told past (λ now. IsSound volume now → Refuses fault (files_planned now machine volume config time))
  code-refuses None fault refused = tt
  code-refuses (Some past) fault refused = λ sound.
      subst (Refuses fault) (sym (by-parts (now_of past)))
      (refused_first fault (code_planned volume (parts_of volume (now_of past)) config.install) (after_code (now_of past)) (refused sound))

  module _ (code : List ℕ) where
    abbrev pub HasCode : Option Past → Type 0
    HasCode past = Told past (λ now. IsSound volume now → code_planned volume (parts_of volume now) config.install ≡ Ok code)

    by-code : (now : Image) → code_planned volume (parts_of volume now) config.install ≡ Ok code → files_planned now machine volume config time ≡ after_code now code
    by-code now is = by-parts now ∙ ap (λ (code : Result (List ℕ) model.PlanFault). code >>= after_code now) is

    pub message-refuses : (past : Option Past) (fault : PlanFault) → HasCode past
        → Told past (λ now. IsSound volume now → Refuses fault (optional_planned volume (parts_of volume now) config.message))
        → Told past (λ now. IsSound volume now → Refuses fault (files_planned now machine volume config time))
    message-refuses None fault one refused = tt
    message-refuses (Some past) fault one refused = λ sound.
        subst (Refuses fault) (sym (by-code (now_of past) (one sound)))
        (refused_first fault (optional_planned volume (parts_of volume (now_of past)) config.message) (after_message (now_of past) code) (refused sound))

    module _ (message : Option MappedFile) where
      abbrev pub HasMessage : Option Past → Type 0
      HasMessage past = Told past (λ now. IsSound volume now → optional_planned volume (parts_of volume now) config.message ≡ Ok message)

      by-message : (now : Image) → code_planned volume (parts_of volume now) config.install ≡ Ok code → optional_planned volume (parts_of volume now) config.message ≡ Ok message
          → files_planned now machine volume config time ≡ after_message now code message
      by-message now is and = by-code now is ∙ ap (λ (message : Result (Option MappedFile) model.PlanFault). message >>= after_message now code) and

      pub sections-refuse : (past : Option Past) (fault : PlanFault) → HasCode past → HasMessage past
          → Told past (λ now. IsSound volume now → Refuses fault (sections_planned now machine volume config.sections))
          → Told past (λ now. IsSound volume now → Refuses fault (files_planned now machine volume config time))
      sections-refuse None fault one two refused = tt
      sections-refuse (Some past) fault one two refused = λ sound.
          subst (Refuses fault) (sym (by-message (now_of past) (one sound) (two sound)))
          (refused_first fault (sections_planned (now_of past) machine volume config.sections) (after_sections code message) (refused sound))

      module _ (sections : List MappedSection) where
        abbrev pub HasSections : Option Past → Type 0
        HasSections past = Told past (λ now. IsSound volume now → sections_planned now machine volume config.sections ≡ Ok sections)

        by-sections : (now : Image) → code_planned volume (parts_of volume now) config.install ≡ Ok code → optional_planned volume (parts_of volume now) config.message ≡ Ok message
            → sections_planned now machine volume config.sections ≡ Ok sections
            → files_planned now machine volume config time ≡ after_sections code message sections
        by-sections now is and made = by-message now is and ∙ ap (λ (sections : Result (List MappedSection) model.PlanFault). sections >>= after_sections code message) made

        default-is : default_check (plan_with code message sections) ≡ default_among config.default_name (names_of sections)
        unfolding plan_names
        default-is = refl

        pub default-refuses : (past : Option Past) (fault : PlanFault) → HasCode past → HasMessage past → HasSections past
            → Refuses fault (default_among config.default_name (names_of sections))
            → Told past (λ now. IsSound volume now → Refuses fault (files_planned now machine volume config time))
        default-refuses None fault one two three refused = tt
        default-refuses (Some past) fault one two three refused = λ sound.
            subst (Refuses fault) (sym (by-sections (now_of past) (one sound) (two sound) (three sound)))
            (refused_first fault (default_check (plan_with code message sections)) (λ a. left_check sections >>= λ b. Ok (plan_with code message sections))
            (subst (Refuses fault) (sym default-is) refused))

        pub left-refuses : (past : Option Past) (fault : PlanFault) → HasCode past → HasMessage past → HasSections past
            → default_among config.default_name (names_of sections) ≡ Ok tt → Refuses fault (left_check sections)
            → Told past (λ now. IsSound volume now → Refuses fault (files_planned now machine volume config time))
        left-refuses None fault one two three default refused = tt
        left-refuses (Some past) fault one two three default refused = λ sound.
            subst (Refuses fault)
            (sym (by-sections (now_of past) (one sound) (two sound) (three sound)
            ∙ ap (λ (default : Result (Unit {0}) model.PlanFault). default >>= λ a. left_check sections >>= λ b. Ok (plan_with code message sections)) (default-is ∙ default)))
            (refused_first fault (left_check sections) (λ b. Ok (plan_with code message sections)) refused)

        pub files-made : (past : Option Past) → HasCode past → HasMessage past → HasSections past
            → default_among config.default_name (names_of sections) ≡ Ok tt → left_check sections ≡ Ok tt
            → Told past (λ now. IsSound volume now → files_planned now machine volume config time ≡ Ok (plan_with code message sections))
        files-made None one two three default some = tt
        files-made (Some past) one two three default some = λ sound.
            by-sections (now_of past) (one sound) (two sound) (three sound)
            ∙ ap (λ (default : Result (Unit {0}) model.PlanFault). default >>= λ a. left_check sections >>= λ b. Ok (plan_with code message sections)) (default-is ∙ default)
            ∙ ap (λ (left : Result (Unit {0}) model.PlanFault). left >>= λ b. Ok (plan_with code message sections)) some
