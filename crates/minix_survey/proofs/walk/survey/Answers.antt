-- What a survey answers says whether the volume is sound.
use Rattle.std.proofs.Common.{ℕ, subst}
use Rattle.std.specs.Prelude.{IfErr}
use Rattle.minix_layout.specs.View.{super_view}
use Rattle.lilo_model.specs.MinixParts.{parts_of}
use Rattle.minix_zones.specs.Volume.{volume_view, past_of, faults_of}
use Rattle.minix_zones.proofs.SameLemmas.{told_back}
use Rattle.minix_sound_laws.proofs.Law.{has-numbers}
use Rattle.minix_survey.specs.Sound.{SaysSound}
use Rattle.minix_survey.specs.Step.{Finds}
use Rattle.minix_survey.proofs.SoundLemmas.{says-sound}
use Rattle.minix_survey.specs.View.{HasSurveyCause}
use Rattle.minix_survey.proofs.StepLemmas.{told_one, same_then}
use Rattle.minix_survey.proofs.walk.survey.Goals as goal

pub returns-clause-found : goal.returns-clause-found
returns-clause-found g c =
    told_back c.args.volume.now c.hold_sectors.new.self (λ volume now. Finds c.survey_root.result volume.layout (parts_of volume now))
    c.hold_sectors.ensures.same c.survey_root.ensures.found

pub returns-clause-sound : goal.returns-clause-sound
returns-clause-sound g c =
    let old = c.args.volume.now in
    told_one
    {A = λ now. Finds c.survey_root.result (super_view old.layout) (parts_of (volume_view old) now)}
    {B = λ now. SaysSound c.survey_root.result (super_view old.layout) (parts_of (volume_view old) now)}
    (past_of old)
    (λ now finds. says-sound (super_view old.layout) (parts_of (volume_view old) now)
    (has-numbers (volume_view old) now _ old.whole.passes) c.survey_root.result finds)
    (told_back old c.hold_sectors.new.self (λ volume now. Finds c.survey_root.result volume.layout (parts_of volume now))
    c.hold_sectors.ensures.same c.survey_root.ensures.found)

pub returns-clause-cause : goal.returns-clause-cause
returns-clause-cause g c =
    subst (λ (n : ℕ). IfErr c.survey_root.result (HasSurveyCause n (faults_of c.survey_root.new.volume))) c.hold_sectors.ensures.faults
    c.survey_root.ensures.cause

pub returns-clause-same : goal.returns-clause-same
returns-clause-same g c =
    same_then c.args.volume.now c.hold_sectors.new.self c.survey_root.new.volume c.hold_sectors.ensures.same c.survey_root.ensures.same
