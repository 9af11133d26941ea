-- The survey, then the choice.
use Rattle.disk_trait.proofs.ToldLemmas.{told_both}
use Rattle.disk_trait.proofs.MomentLemmas.{told_now}
use Rattle.disk_trait.specs.Past.{Image}
use Rattle.std.proofs.Common.{◌∷◌, []}
use Rattle.lilo_model.specs.MinixNames.{IsSound}
use Rattle.lilo_model.specs.MinixParts as model
use Rattle.minix_zones.specs.Volume.{volume_view, past_of}
use Rattle.minix_zones.proofs.SameLemmas.{told_back}
use Rattle.ldisk_model.specs.FileVerdict.{made_check}
use Rattle.ldisk_files.specs.Answer.{Answers}
use Rattle.ldisk_files.specs.Made.{making_view}
use Rattle.ldisk_files.proofs.MakeLemmas.{told-mid, sound-mid, at-back}
use Rattle.ldisk_files.proofs.NameLemmas.{answers-surveyed}
use Rattle.std.proofs.lemmas.Result.{IfOk-weaker}
use Rattle.ldisk_files.specs.Answer.{IsSurveyed}
use Rattle.ldisk_files.proofs.room.choose_at.Goals as goal

pub returns-clause-answers : goal.returns-clause-answers
returns-clause-answers g c =
    let old = c.args.volume.now in
    let mid = c.check_sound.new.volume in
    told_both (past_of old) _ _ _
    (λ now is gives. answers-surveyed (volume_view old) now (made_check (making_view c.args.making.now) c.args.path.now) c.choose_new.result is (gives is.sound))
    c.in_ok-check_sound.ensures.sound
    (told_back old mid (λ (volume : model.Volume) (now : Image). IsSound volume now → Answers (made_check (making_view c.args.making.now) c.args.path.now volume now) c.choose_new.result)
    c.in_ok-check_sound.ensures.same c.choose_new.ensures.answers)

pub returns-clause-may : goal.returns-clause-may
returns-clause-may g c =
    let old = c.args.volume.now in
    let mid = c.check_sound.new.volume in
    let same = c.in_ok-check_sound.ensures.same in
    IfOk-weaker c.choose_new.result _ _
    (λ ready may told.
    at-back old mid same c.args.path.now (making_view c.args.making.now) ready.chosen (ready.block ∷ [])
    (may (told-mid old mid same told) (sound-mid old mid same (told_now (past_of old) (λ now. IsSurveyed (volume_view old) now) c.in_ok-check_sound.ensures.sound told).sound)))
    c.choose_new.ensures.may
