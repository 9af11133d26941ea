-- A plan is its files, where what is held of them and their addresses are accepted.
use Rattle.std.proofs.Common.{◌≡◌, ℕ, List, Option, Result, Ok, Err, refl}
use Rattle.std.specs.Prelude.{flat_map}
use Rattle.lilo_model.specs.Checks.{◌>>=◌}
use Rattle.lilo_model.specs.Conf.{Config}
use Rattle.lilo_model.specs.MinixParts.{parts_of}
use Rattle.lilo_model.specs.Plan.{MappedFile, MappedSection, Plan}
use Rattle.lilo_model.specs.Planned.{mapped_section, code_in, optional_file, planned}
use Rattle.lilo_model.specs.PlanRefusal.{PlanFault, default_check, left_check, file_checks, held_checks, address_checks, plan_at}
use Rattle.map_plan.specs.Files.{passed, optional_planned}
use Rattle.map_plan.specs.Sections.{sections_planned}
use Rattle.map_plan.specs.Starts.{code_planned}
use Rattle.map_plan.specs.Whole.{files_planned, PlanLaw}
use Rattle.map_plan.proofs.FileLemmas.{optional_plan_law}
use Rattle.map_plan.proofs.SectionLemmas.{section_plans_law}
use Rattle.map_plan.proofs.StartLemmas.{code_plan_law}

module _ (config : Config) (time : ℕ) where
  abbrev plan_with : List ℕ → Option MappedFile → List MappedSection → Plan
  plan_with code message sections = record { config = config; time = time; code = code; message = message; sections = sections }

  -- the default and the sections that are left
  ends : (plan : Plan) (sections : List MappedSection) (next : Plan → Result Plan PlanFault)
      → ((default_check plan >>= λ d. left_check sections) >>= λ a. next plan)
      ≡ ((default_check plan >>= λ a. left_check sections >>= λ b. Ok plan) >>= next)
  ends plan sections next = by (default_check plan) (left_check sections)
    where
      by : (default left : Result (Unit {0}) PlanFault)
          → ((default >>= λ d. left) >>= λ a. next plan) ≡ ((default >>= λ a. left >>= λ b. Ok plan) >>= next)
      by (Ok a) (Ok b) = refl
      by (Ok a) (Err fault) = refl
      by (Err fault) left = refl

  all : (code : Result (List ℕ) PlanFault) (message : Result (Option MappedFile) PlanFault) (sections : Result (List MappedSection) PlanFault)
      (code-is : List ℕ) (message-is : Option MappedFile) (sections-is : List MappedSection) (next : Plan → Result Plan PlanFault)
      → ((found : List ℕ) → code ≡ Ok found → code-is ≡ found) → ((found : Option MappedFile) → message ≡ Ok found → message-is ≡ found)
      → ((found : List MappedSection) → sections ≡ Ok found → sections-is ≡ found)
      → ((passed code >>= λ a. passed message >>= λ b. passed sections >>= λ c. default_check (plan_with code-is message-is sections-is) >>= λ d. left_check sections-is)
      >>= λ a. next (plan_with code-is message-is sections-is))
      ≡ ((code >>= λ code. message >>= λ message. sections >>= λ sections. default_check (plan_with code message sections)
      >>= λ a. left_check sections >>= λ b. Ok (plan_with code message sections)) >>= next)
  all (Ok code) (Ok message) (Ok sections) code-is message-is sections-is next one two three =
      rw (one code refl, two message refl, three sections refl) (ends (plan_with code message sections) sections next)
  all (Ok code) (Ok message) (Err fault) code-is message-is sections-is next one two three = refl
  all (Ok code) (Err fault) sections code-is message-is sections-is next one two three = refl
  all (Err fault) message sections code-is message-is sections-is next one two three = refl

pub plan_law : PlanLaw
unfolding plan_at file_checks files_planned planned
plan_law image machine volume boot config time sound =
    let code = code_plan_law volume image config.install sound in
    let message = optional_plan_law volume (parts_of volume image) config.message in
    let sections = section_plans_law image machine volume config.sections in
    let plan = plan_with config time (code_in volume (parts_of volume image) config.install) (optional_file volume (parts_of volume image) config.message)
    (flat_map (mapped_section image machine volume) config.sections) in
    rw (code.check, message.check, sections.check)
    (all config time (code_planned volume (parts_of volume image) config.install) (optional_planned volume (parts_of volume image) config.message)
    (sections_planned image machine volume config.sections) _ _ _
    (λ plan. held_checks image machine volume boot plan >>= λ a. address_checks machine plan >>= λ b. Ok plan)
    code.code message.mapped sections.mapped)
