-- The first refusal is that of the files.
use Rattle.std.proofs.Common.{◌≡◌, ℕ, List, Ok, Err, rules, sym, subst, length, ap, ◌∙◌, arith}
use Rattle.std.specs.Option.{option_map}
use Rattle.lilo_model.specs.MinixParts.{parts_of}
use Rattle.lilo_model.specs.PlanRefusal.{left_check}
use Rattle.lilo_conf.specs.declared.section.Section.{Section}
use Rattle.lilo_conf.specs.View.{config_view, section_view, sections_view}
use Rattle.minix_zones.specs.Volume.{volume_view, past_of, faults_of, SameVolume}
use Rattle.file_runs.specs.Mapped.{file_view}
use Rattle.map_plan.specs.declared.section.PlannedSection.{PlannedSection}
use Rattle.map_plan.specs.Files.{optional_planned}
use Rattle.map_plan.specs.Names.{names_of, default_among}
use Rattle.map_plan.specs.Sections.{sections_planned, planned_views}
use Rattle.map_plan.specs.Skipped.{skipped_paths}
use Rattle.map_plan.specs.Sound.{machine_for, OnSound}
use Rattle.map_plan.specs.View.{Refuses}
use Rattle.map_plan.specs.Whole.{code_view}
use Rattle.map_plan.proofs.SoundLemmas.{sound_back}
use Rattle.map_plan.proofs.SkippedLemmas.{few-lawful, length-view}
use Rattle.map_plan.proofs.FilesLemmas.{code-refuses, message-refuses, sections-refuse, default-refuses, left-refuses, files-made}
use Rattle.map_plan.proofs.files.find_files.Goals as goal

pub returns-in_err-code-clause-files : goal.returns-in_err-code-clause-files
returns-in_err-code-clause-files g c time =
    let given : c.from_residual.result ≡ Err (c.in_err-code.field-0.0) = search rules in
    rw given
    (code-refuses (machine_for c.args.volume.now) (volume_view c.args.volume.now) (config_view c.args.config.now) time (past_of c.args.volume.now)
    (c.in_err-code.field-0.0) c.in_err-code.ensures.code)

pub returns-in_err-message-clause-files : goal.returns-in_err-message-clause-files
returns-in_err-message-clause-files g c time =
    let given : c.from_residual-in_err-message.result ≡ Err (c.in_err-message.field-0.0) = search rules in
    let refused = sound_back c.args.volume.now c.map_code.new.volume
    (λ volume now machine. Refuses (c.in_err-message.field-0.0) (optional_planned volume (parts_of volume now) c.args.config.now.message))
    c.map_code.ensures.same c.in_err-message.ensures.file in
    rw given
    (message-refuses (machine_for c.args.volume.now) (volume_view c.args.volume.now) (config_view c.args.config.now) time (code_view c.in_ok-code.code)
    (past_of c.args.volume.now) (c.in_err-message.field-0.0) c.in_ok-code.ensures.code refused)

pub returns-in_err-found-clause-files : goal.returns-in_err-found-clause-files
returns-in_err-found-clause-files g c time =
    let given : c.from_residual-in_err-found.result ≡ Err (c.in_err-found.field-0.0) = search rules in
    let both : SameVolume c.args.volume.now c.map_optional.new.volume = search rules in
    let message = sound_back c.args.volume.now c.map_code.new.volume
    (λ volume now machine. optional_planned volume (parts_of volume now) c.args.config.now.message ≡ Ok (option_map file_view c.in_ok-message.message))
    c.map_code.ensures.same c.in_ok-message.ensures.file in
    let refused = sound_back c.args.volume.now c.map_optional.new.volume
    (λ volume now machine. Refuses (c.in_err-found.field-0.0) (sections_planned now machine volume (sections_view c.items.result.now)))
    both c.in_err-found.ensures.sections in
    let all = subst (λ (sections : List Section). OnSound c.args.volume.now (λ now machine. Refuses (c.in_err-found.field-0.0) (sections_planned now machine (volume_view c.args.volume.now) (sections_view sections))))
    c.items.ensures refused in
    rw given
    (sections-refuse (machine_for c.args.volume.now) (volume_view c.args.volume.now) (config_view c.args.config.now) time (code_view c.in_ok-code.code)
    (option_map file_view c.in_ok-message.message) (past_of c.args.volume.now) (c.in_err-found.field-0.0) c.in_ok-code.ensures.code message all)

pub returns-in_err-check_default-clause-files : goal.returns-in_err-check_default-clause-files
returns-in_err-check_default-clause-files g c time =
    let given : c.from_residual-in_err-check_default.result ≡ Err (c.in_err-check_default.field-0.0) = search rules in
    let both : SameVolume c.args.volume.now c.map_optional.new.volume = search rules in
    let message = sound_back c.args.volume.now c.map_code.new.volume
    (λ volume now machine. optional_planned volume (parts_of volume now) c.args.config.now.message ≡ Ok (option_map file_view c.in_ok-message.message))
    c.map_code.ensures.same c.in_ok-message.ensures.file in
    let found = sound_back c.args.volume.now c.map_optional.new.volume
    (λ volume now machine. sections_planned now machine volume (sections_view c.items.result.now) ≡ Ok (planned_views c.in_ok-found.found.planned.items))
    both c.in_ok-found.ensures.sections in
    let sections = subst (λ (sections : List Section). OnSound c.args.volume.now (λ now machine. sections_planned now machine (volume_view c.args.volume.now) (sections_view sections)
    ≡ Ok (planned_views c.in_ok-found.found.planned.items)))
    c.items.ensures found in
    let names : c.in_ok-names.names ≡ names_of (planned_views c.in_ok-found.found.planned.items) =
    c.in_ok-names.ensures ∙ ap (λ (items : List PlannedSection). names_of (planned_views items)) c.deref.ensures.value in
    rw given
    (default-refuses (machine_for c.args.volume.now) (volume_view c.args.volume.now) (config_view c.args.config.now) time (code_view c.in_ok-code.code)
    (option_map file_view c.in_ok-message.message) (planned_views c.in_ok-found.found.planned.items) (past_of c.args.volume.now) (c.in_err-check_default.field-0.0)
    c.in_ok-code.ensures.code message sections
    (subst (λ (names : List (List ℕ)). Refuses (c.in_err-check_default.field-0.0) (default_among c.args.config.now.default_name names)) names c.in_err-check_default.ensures.default))

pub returns-in_err-check_left-clause-files : goal.returns-in_err-check_left-clause-files
returns-in_err-check_left-clause-files g c time =
    let given : c.from_residual-in_err-check_left.result ≡ Err (c.in_err-check_left.field-0.0) = search rules in
    let both : SameVolume c.args.volume.now c.map_optional.new.volume = search rules in
    let message = sound_back c.args.volume.now c.map_code.new.volume
    (λ volume now machine. optional_planned volume (parts_of volume now) c.args.config.now.message ≡ Ok (option_map file_view c.in_ok-message.message))
    c.map_code.ensures.same c.in_ok-message.ensures.file in
    let found = sound_back c.args.volume.now c.map_optional.new.volume
    (λ volume now machine. sections_planned now machine volume (sections_view c.items.result.now) ≡ Ok (planned_views c.in_ok-found.found.planned.items))
    both c.in_ok-found.ensures.sections in
    let sections = subst (λ (sections : List Section). OnSound c.args.volume.now (λ now machine. sections_planned now machine (volume_view c.args.volume.now) (sections_view sections)
    ≡ Ok (planned_views c.in_ok-found.found.planned.items)))
    c.items.ensures found in
    let names : c.in_ok-names.names ≡ names_of (planned_views c.in_ok-found.found.planned.items) =
    c.in_ok-names.ensures ∙ ap (λ (items : List PlannedSection). names_of (planned_views items)) c.deref.ensures.value in
    let default = subst (λ (names : List (List ℕ)). default_among c.args.config.now.default_name names ≡ Ok tt) names c.in_ok-check_default.ensures.default in
    rw given
    (left-refuses (machine_for c.args.volume.now) (volume_view c.args.volume.now) (config_view c.args.config.now) time (code_view c.in_ok-code.code)
    (option_map file_view c.in_ok-message.message) (planned_views c.in_ok-found.found.planned.items) (past_of c.args.volume.now) (c.in_err-check_left.field-0.0)
    c.in_ok-code.ensures.code message sections default
    (subst (λ (items : List PlannedSection). Refuses (c.in_err-check_left.field-0.0) (left_check (planned_views items))) c.deref-2.ensures.value c.in_err-check_left.ensures.left))

pub returns-clause-files : goal.returns-clause-files
returns-clause-files g c time =
    let both : SameVolume c.args.volume.now c.map_optional.new.volume = search rules in
    let message = sound_back c.args.volume.now c.map_code.new.volume
    (λ volume now machine. optional_planned volume (parts_of volume now) c.args.config.now.message ≡ Ok (option_map file_view c.in_ok-message.message))
    c.map_code.ensures.same c.in_ok-message.ensures.file in
    let found = sound_back c.args.volume.now c.map_optional.new.volume
    (λ volume now machine. sections_planned now machine volume (sections_view c.items.result.now) ≡ Ok (planned_views c.in_ok-found.found.planned.items))
    both c.in_ok-found.ensures.sections in
    let sections = subst (λ (sections : List Section). OnSound c.args.volume.now (λ now machine. sections_planned now machine (volume_view c.args.volume.now) (sections_view sections)
    ≡ Ok (planned_views c.in_ok-found.found.planned.items)))
    c.items.ensures found in
    let names : c.in_ok-names.names ≡ names_of (planned_views c.in_ok-found.found.planned.items) =
    c.in_ok-names.ensures ∙ ap (λ (items : List PlannedSection). names_of (planned_views items)) c.deref.ensures.value in
    let default = subst (λ (names : List (List ℕ)). default_among c.args.config.now.default_name names ≡ Ok tt) names c.in_ok-check_default.ensures.default in
    files-made (machine_for c.args.volume.now) (volume_view c.args.volume.now) (config_view c.args.config.now) time (code_view c.in_ok-code.code)
    (option_map file_view c.in_ok-message.message) (planned_views c.in_ok-found.found.planned.items) (past_of c.args.volume.now)
    c.in_ok-code.ensures.code message sections default
    (subst (λ (items : List PlannedSection). left_check (planned_views items) ≡ Ok tt) c.deref-2.ensures.value c.in_ok-check_left.ensures.left)

pub returns-clause-names : goal.returns-clause-names
returns-clause-names g c = c.in_ok-names.ensures ∙ ap (λ (items : List PlannedSection). names_of (planned_views items)) c.deref.ensures.value

pub returns-in_err-check_default-clause-cause : goal.returns-in_err-check_default-clause-cause
returns-in_err-check_default-clause-cause g c =
    let given : c.from_residual-in_err-check_default.result ≡ Err (c.in_err-check_default.field-0.0) = search rules in
    rw given (c.in_err-check_default.ensures.cause (faults_of c.args.volume.now) (faults_of c.map_sections.new.volume))

pub returns-in_err-check_left-clause-cause : goal.returns-in_err-check_left-clause-cause
returns-in_err-check_left-clause-cause g c =
    let given : c.from_residual-in_err-check_left.result ≡ Err (c.in_err-check_left.field-0.0) = search rules in
    rw given (c.in_err-check_left.ensures.cause (faults_of c.args.volume.now) (faults_of c.map_sections.new.volume))

pub returns-clause-skipped : goal.returns-clause-skipped
returns-clause-skipped g c =
    let both : SameVolume c.args.volume.now c.map_optional.new.volume = search rules in
    let found = sound_back c.args.volume.now c.map_optional.new.volume
    (λ volume now machine. c.in_ok-found.found.skipped.items ≡ skipped_paths now machine volume (sections_view c.items.result.now))
    both c.in_ok-found.ensures.skipped in
    subst (λ (skipped : List (List ℕ)). OnSound c.args.volume.now (λ now machine. skipped ≡ skipped_paths now machine (volume_view c.args.volume.now) (sections_view c.args.config.now.sections)))
    (sym c.new.ensures)
    (subst (λ (sections : List Section). OnSound c.args.volume.now (λ now machine. c.in_ok-found.found.skipped.items
    ≡ skipped_paths now machine (volume_view c.args.volume.now) (sections_view sections)))
    c.items.ensures found)

pub returns-clause-few : goal.returns-clause-few
returns-clause-few g c =
    let given = ap (λ (sections : List Section). length sections) c.items.ensures in
    let same = length-view section_view c.args.config.now.sections in
    let few = few-lawful (config_view c.args.config.now) c.requires.lawful in
    omega (arith, c.in_ok-found.ensures.few, given, same, few)
