-- What may be made, from one step of the checks to the next.
use Rattle.std.proofs.Common.{◌≡◌, ◌≤◌, ℕ, List, [], ◌∷◌, Some, Result, Ok, Err, sym, ◌∙◌, ap, subst}
use Rattle.std.specs.Prelude.{OnOk, IfErr}
use Rattle.disk_trait.specs.declared.disks.Disks.{Ghosts}
use Rattle.disk_trait.specs.Past.{Image, Told}
use Rattle.disk_trait.specs.Moments.{IsTold, now, IsQuiet}
use Rattle.disk_trait.proofs.MomentLemmas.{told_now}
use Rattle.lilo_model.specs.Checks.{◌>>=◌}
use Rattle.lilo_model.specs.MinixNames.{reached, names_in, IsSound}
use Rattle.lilo_model.specs.MinixParts as model
use Rattle.lilo_model.specs.MinixParts.{parts_of}
use Rattle.lilo_model.specs.NamePlaces.{name_path, plain_path}
use Rattle.minix_create.specs.declared.chosen.Chosen.{Chosen}
use Rattle.minix_names.specs.declared.place.NamePlace.{NamePlace}
use Rattle.minix_zones.specs.Volume.{volume_view, past_of, faults_of, SameVolume}
use Rattle.minix_zones.specs.declared.volume.Volume.{Volume}
use Rattle.minix_zones.proofs.SameLemmas.{same_view}
use Rattle.ldisk_model.specs.FileVerdict.{Making, FileRefusal, sound_check, new_check, room_check, made_check, thing_made}
use Rattle.ldisk_files.specs.Answer.{Answers, HasFileCause}
use Rattle.ldisk_files.specs.Left.{ChangesName, LeavesOn}
use Rattle.ldisk_files.specs.Made.{GivesNew, IsNewAt, IsNewPlace, MayMake, MayMakeSome, MayMakeNamed, MayMakeAt, IsSoundNow}
use Rattle.ldisk_files.specs.declared.fault.FileFault.{FileFault}
use Rattle.ldisk_files.proofs.MadeLemmas.{may-as}
use Rattle.ldisk_files.proofs.PathLemmas.{HasPassed, told-back, leaves-on, answers-on}
use Rattle.ldisk_files.proofs.PlaceLemmas.{pass-new}
use Rattle.ldisk_files.proofs.RoomLemmas.{answers-first}

-- ---- the place of a new name

-- its path is the name in the directory
pub new-place : (volume : model.Volume) (image : Image) (text : List ℕ) (place : NamePlace) (at : IsNewAt volume image text place) → IsNewPlace volume image at.ends.above place
new-place volume image text place at = record {
  there = at.ends.there;
  free = ap (λ (p : List (List ℕ)). reached volume.layout (parts_of volume image) (plain_path p)) (sym at.ends.is) ∙ at.free;
}

-- the checks are those of the room there
pub new-answers : {B : Type 0} (volume : model.Volume) (image : Image) (text : List ℕ) (making : Making) (place : NamePlace) (at : IsNewAt volume image text place) (result : Result B FileFault)
    → Answers (room_check making volume image (place.name.now ∷ at.ends.above)) result → Answers (made_check making text volume image) result
new-answers {B} volume image text making place at result answers =
    subst (λ (check : Result (List (List ℕ)) FileRefusal). Answers {B = B} check result)
    (ap (room_check making volume image) (sym at.ends.is) ∙ sym (ap (λ (given : Result (List (List ℕ)) FileRefusal). given >>= λ new. room_check making volume image new) (pass-new volume image text place at)))
    answers

pub new-refused : (B : Type 0) (volume : model.Volume) (image : Image) (text : List ℕ) (making : Making) (fault : FileFault) → GivesNew volume image text (Err fault)
    → Answers {B = B} (made_check making text volume image) (Err fault)
new-refused B volume image text making fault refuses = answers-first NamePlace B (new_check text volume image) (λ new. room_check making volume image new) fault refuses

module _ {D : Type 0} {disks : Ghosts D} (old mid : Volume D disks) (same : SameVolume old mid) where
  held-same : now (past_of mid) ≡ now (past_of old)
  held-same = ap now same.same_disks.same_past

  pub told-mid : IsTold (past_of old) → IsTold (past_of mid)
  told-mid told = subst IsTold (sym same.same_disks.same_past) told

  pub sound-mid : IsSoundNow old → IsSoundNow mid
  sound-mid sound = subst (λ (v : model.Volume). IsSound v (now (past_of mid))) (sym (same_view old mid same)) (subst (λ (i : Image). IsSound (volume_view old) i) (sym held-same) sound)

  pub place-mid : (outer : List (List ℕ)) (place : NamePlace) → IsNewPlace (volume_view old) (now (past_of old)) outer place → IsNewPlace (volume_view mid) (now (past_of mid)) outer place
  place-mid outer place new = subst (λ (v : model.Volume). IsNewPlace v (now (past_of mid)) outer place) (sym (same_view old mid same))
      (subst (λ (i : Image). IsNewPlace (volume_view old) i outer place) (sym held-same) new)

  pub may-back : (outer : List (List ℕ)) (making : Making) (chosen : Chosen) (blocks : List (List ℕ)) → MayMake mid outer making chosen blocks → MayMake old outer making chosen blocks
  may-back outer making chosen blocks = may-as old mid (same_view old mid same) held-same chosen outer making blocks

  pub may-forth : (outer : List (List ℕ)) (making : Making) (chosen : Chosen) (blocks : List (List ℕ)) → MayMake old outer making chosen blocks → MayMake mid outer making chosen blocks
  may-forth outer making chosen blocks = may-as mid old (sym (same_view old mid same)) (sym held-same) chosen outer making blocks

  -- what may be made by the name may be made at the text's path
  pub may-at : (text : List ℕ) (making : Making) (place : NamePlace) (chosen : Chosen) (blocks : List (List ℕ))
      → Told (past_of old) (λ now. IsSound (volume_view old) now → GivesNew (volume_view old) now text (Ok place))
      → (IsTold (past_of mid) → IsSoundNow mid → (outer : List (List ℕ)) → IsNewPlace (volume_view mid) (now (past_of mid)) outer place → MayMakeNamed mid outer place.name.now making chosen blocks)
      → IsTold (past_of old) → IsSoundNow old → MayMakeAt old text making chosen blocks
  may-at text making place chosen blocks found named told sound =
      let at : IsNewAt (volume_view old) (now (past_of old)) text place = told_now (past_of old) (λ now. IsSound (volume_view old) now → GivesNew (volume_view old) now text (Ok place)) found told sound in
      let new = new-place (volume_view old) (now (past_of old)) text place at in
      let by = named (told-mid told) (sound-mid sound) at.ends.above (place-mid at.ends.above place new) in
      record {
        outer = at.ends.above;
        is = at.is ∙ ap Ok (at.ends.is ∙ ap (λ (name : List ℕ). name ∷ at.ends.above) (sym by.named));
        may = may-back at.ends.above making chosen blocks by.may;
      }

  pub at-back : (text : List ℕ) (making : Making) (chosen : Chosen) (blocks : List (List ℕ)) → MayMakeAt mid text making chosen blocks → MayMakeAt old text making chosen blocks
  at-back text making chosen blocks at = record {
    outer = at.outer;
    is = subst (λ (v : model.Volume). name_path (names_in v (now (past_of old))) text ≡ Ok (chosen.name ∷ at.outer)) (same_view old mid same)
        (subst (λ (i : Image). name_path (names_in (volume_view mid) i) text ≡ Ok (chosen.name ∷ at.outer)) held-same at.is);
    may = may-back at.outer making chosen blocks at.may;
  }

  -- ---- it is made

  module _ {R : Type 0} (text : List ℕ) (making : Making) (chosen : Chosen) (blocks : List (List ℕ)) (ready : R)
      (may : IsTold (past_of old) → MayMakeAt old text making chosen blocks)
      (answers : Told (past_of old) (λ now. Answers {B = R} (sound_check (made_check making text) (volume_view old) now) (Ok ready))) where
    passed-by : IsTold (past_of old) → HasPassed (volume_view old) (now (past_of old)) text (made_check making text)
    passed-by told = record {
      path = chosen.name ∷ (may told).outer;
      is = (may told).is;
      passes = told_now (past_of old) (λ now. Answers {B = R} (sound_check (made_check making text) (volume_view old) now) (Ok ready)) answers told;
    }

    pub may-some : IsTold (past_of mid) → MayMakeSome mid chosen blocks
    may-some told =
        let at = may (told-back old mid same told) in
        record { outer = at.outer; making = making; may = may-forth at.outer making chosen blocks at.may }

    module _ (later : faults_of old ≤ faults_of mid) (new : Volume D disks) (result : Result (Unit {0}) FileFault)
        (changes : (made : Making) (outer : List (List ℕ)) → (IsTold (past_of mid) → MayMake mid outer made chosen blocks) → ChangesName mid new (chosen.name ∷ outer) (Some (thing_made made)) result)
        (quiet : OnOk result (IsQuiet (past_of new))) (cause : IfErr result (HasFileCause (faults_of mid) (faults_of new))) where
      at-path : (told : IsTold (past_of old)) → ChangesName mid new (passed-by told).path (Some (thing_made making)) result
      unfolding passed-by
      at-path told = changes making (may told).outer (λ t. may-forth (may told).outer making chosen blocks (may told).may)

      at-none : (IsTold (past_of old) → ⊥) → ChangesName mid new (chosen.name ∷ []) (Some (thing_made making)) result
      at-none none = changes making [] (λ told. absurd (none (told-back old mid same told)))

      pub made-on : LeavesOn old new text (Some (thing_made making)) result
      made-on = leaves-on old mid same text (Some (thing_made making)) (made_check making text) passed-by later new result at-path (chosen.name ∷ []) at-none quiet cause

      pub made-answer : Told (past_of old) (λ now. Answers (sound_check (made_check making text) (volume_view old) now) result)
      made-answer = answers-on old mid same text (Some (thing_made making)) (made_check making text) passed-by later new result at-path (chosen.name ∷ []) at-none quiet cause
