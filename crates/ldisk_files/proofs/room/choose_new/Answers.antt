-- The place of the name, then the choice.
use Rattle.disk_trait.proofs.ToldLemmas.{told_both}
use Rattle.disk_trait.specs.Past.{Image}
use Rattle.std.proofs.Common.{ℕ, List, ◌∷◌}
use Rattle.lilo_model.specs.MinixNames.{IsSound}
use Rattle.lilo_model.specs.MinixParts as model
use Rattle.minix_zones.specs.Volume.{volume_view, past_of}
use Rattle.minix_zones.proofs.SameLemmas.{told_back}
use Rattle.ldisk_model.specs.FileVerdict.{room_check}
use Rattle.ldisk_files.specs.Answer.{Answers}
use Rattle.ldisk_files.specs.Made.{IsNewPlace, making_view}
use Rattle.ldisk_files.proofs.MakeLemmas.{new-place, new-answers}
use Rattle.std.proofs.lemmas.Result.{IfOk-weaker}
use Rattle.std.proofs.Common.{[]}
use Rattle.ldisk_files.proofs.MakeLemmas.{may-at}
use Rattle.ldisk_files.proofs.room.choose_new.Goals as goal

pub returns-clause-answers : goal.returns-clause-answers
returns-clause-answers g c =
    let old = c.args.volume.now in
    let mid = c.find_new.new.volume in
    let place = c.in_ok-place.place in
    let making = making_view c.args.making.now in
    told_both (past_of old) _ _ _
    (λ now found gives sound. let at = found sound in
    new-answers (volume_view old) now c.args.path.now making place at c.choose_named.result (gives sound at.ends.above (new-place (volume_view old) now c.args.path.now place at)))
    c.in_ok-place.ensures.found
    (told_back old mid (λ (volume : model.Volume) (now : Image). IsSound volume now → (outer : List (List ℕ)) → IsNewPlace volume now outer place
    → Answers (room_check making volume now (place.name.now ∷ outer)) c.choose_named.result)
    c.in_ok-place.ensures.same c.choose_named.ensures.answers)

pub returns-clause-may : goal.returns-clause-may
returns-clause-may g c =
    IfOk-weaker c.choose_named.result _ _
    (λ ready named.
    may-at c.args.volume.now c.find_new.new.volume c.in_ok-place.ensures.same c.args.path.now (making_view c.args.making.now) c.in_ok-place.place ready.chosen (ready.block ∷ [])
    c.in_ok-place.ensures.found named)
    c.choose_named.ensures.may
