-- Its length, then the choice.
use Rattle.std.proofs.Common.{◌≡◌, ℕ, List, ◌∷◌, [], Ok, Err, rules}
use Rattle.disk_trait.proofs.MomentLemmas.{told_now}
use Rattle.disk_trait.specs.Past.{Image}
use Rattle.lilo_model.specs.MinixNames.{IsSound}
use Rattle.lilo_model.specs.MinixParts as model
use Rattle.minix_zones.specs.Volume.{volume_view, past_of}
use Rattle.minix_zones.proofs.SameLemmas.{told_back}
use Rattle.ldisk_model.specs.FileVerdict.{room_check}
use Rattle.ldisk_files.specs.Answer.{Answers}
use Rattle.ldisk_files.specs.Made.{Fits, GivesLength, IsNewPlace, making_view}
use Rattle.ldisk_files.specs.declared.room.Ready.{Ready}
use Rattle.ldisk_files.proofs.MakeLemmas.{told-mid, sound-mid, place-mid}
use Rattle.ldisk_files.proofs.NamedLemmas.{named-back, told-refused, told-all}
use Rattle.std.proofs.lemmas.Result.{IfOk-weaker}
use Rattle.std.proofs.Common.{subst}
use Rattle.minix_create.specs.Chosen.{Suits}
use Rattle.minix_layout.specs.declared.superblock.Super.{Super}
use Rattle.disk_trait.specs.declared.disks.Span.{Span}
use Rattle.ldisk_files.proofs.room.choose_named.Goals as goal

pub returns-in_err-length-clause-answers : goal.returns-in_err-length-clause-answers
returns-in_err-length-clause-answers g c =
    let given : c.from_residual.result ≡ Err (c.in_err-length.field-0.0) = search rules in
    rw given
    (told-refused (past_of c.args.volume.now) (volume_view c.args.volume.now) c.args.place.now c.args.making.now Ready (c.in_err-length.field-0.0) c.in_err-length.ensures.may)

pub returns-clause-answers : goal.returns-clause-answers
returns-clause-answers g c =
    let old = c.args.volume.now in
    let place = c.args.place.now in
    told-all (past_of old) (volume_view old) place c.args.making.now Ready c.in_ok-length.length c.choose_ready.result c.in_ok-length.ensures.may
    (told_back old c.length_in.new.volume (λ (volume : model.Volume) (now : Image). IsSound volume now → (outer : List (List ℕ)) → IsNewPlace volume now outer place → Fits (making_view c.args.making.now) outer place
    → Answers (room_check (making_view c.args.making.now) volume now (place.name.now ∷ outer)) c.choose_ready.result) c.in_ok-length.ensures.same c.choose_ready.ensures.answers)

pub returns-clause-may : goal.returns-clause-may
returns-clause-may g c =
    let old = c.args.volume.now in
    let mid = c.length_in.new.volume in
    let same = c.in_ok-length.ensures.same in
    let place = c.args.place.now in
    let making = making_view c.args.making.now in
    IfOk-weaker c.choose_ready.result _ _
    (λ ready may told sound outer new.
    named-back old mid same outer place.name.now making ready.chosen (ready.block ∷ [])
    (may (told-mid old mid same told) (sound-mid old mid same sound) outer (place-mid old mid same outer place new)
    (told_now (past_of old) (λ now. IsSound (volume_view old) now → (outer : List (List ℕ)) (name : List ℕ) → GivesLength (volume_view old) now outer place.directory.inode name making (Ok c.in_ok-length.length))
    c.in_ok-length.ensures.may told sound outer place.name.now new.there)))
    c.choose_ready.ensures.may

pub returns-clause-suits : goal.returns-clause-suits
returns-clause-suits g c =
    let old = c.args.volume.now in
    let mid = c.length_in.new.volume in
    let same = c.in_ok-length.ensures.same in
    IfOk-weaker c.choose_ready.result _ _
    (λ ready is. record {
      suits = subst (λ (layout : Super). Suits layout old.span ready.chosen) same.same_layout (subst (λ (span : Span). Suits mid.layout span ready.chosen) same.same_span is.suits);
      one = is.one;
    })
    c.choose_ready.ensures.suits
