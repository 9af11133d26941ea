-- A name that may be removed, by what was found at it.
use Rattle.std.proofs.Common.{◌≡◌, ℕ, Bool, true, false, List, ◌∷◌, bytes_eq, Option, Some, None, Result, Ok, Err, IsErr, refl, sym, ◌∙◌, ap, subst}
use Rattle.std.specs.Prelude.{option_map, IfSome}
use Rattle.disk_trait.specs.Past.{Past, Told}
use Rattle.disk_trait.proofs.ToldLemmas.{told_all, told_three}
use Rattle.lilo_model.specs.Checks.{◌>>=◌, require}
use Rattle.lilo_model.specs.Disks.{Image}
use Rattle.lilo_model.specs.MinixEntries.{here_name, above_name, is_dots}
use Rattle.lilo_model.specs.MinixLayout.{Super}
use Rattle.lilo_model.specs.MinixNames.{lookup, then_lookup, reached, thing, names, names_in, IsSound, Sound}
use Rattle.lilo_model.specs.MinixParts.{Parts, Volume, parts_of, is_directory, is_file, is_link}
use Rattle.lilo_model.specs.MinixSurvey.{survey}
use Rattle.lilo_model.specs.NamePlaces.{plain_path, name_path}
use Rattle.minix_layout.specs.View.{inode_view}
use Rattle.minix_names.specs.Places.{GivesPlace, GivesPath, GivesThere, LeadsToDirectory}
use Rattle.minix_names.specs.declared.place.NamePlace.{NamePlace}
use Rattle.minix_remove_laws.specs.Held.{held_name, is_removable}
use Rattle.minix_survey.specs.Sound.{SaysSound}
use Rattle.minix_survey.specs.Step.{Finds}
use Rattle.minix_survey.specs.declared.findings.Findings.{Findings}
use Rattle.minix_survey.specs.declared.survey_fault.SurveyFault.{SurveyFault}
use Rattle.minix_tree.specs.declared.stat.Stat.{Stat}
use Rattle.minix_tree.specs.declared.tree_fault.TreeFault.{TreeFault}
use Rattle.disk_trait.specs.declared.disks.Disks.{Ghosts}
use Rattle.minix_tree.specs.View.{IsNode}
use Rattle.minix_zones.specs.Volume.{volume_view, past_of, SameVolume}
use Rattle.minix_zones.specs.declared.volume.Volume as held
use Rattle.minix_zones.proofs.SameLemmas.{told_back}
use Rattle.ldisk_model.specs.Laid.{IsLaid}
use Rattle.ldisk_files.specs.Answer.{Refuses, IsSurveyed, IsRemovable, GivesName, GivesChecked, GivesSurveyed, Answers, is_found_removable, tree_fault, survey_answer}
use Rattle.ldisk_model.specs.FileVerdict.{FileRefusal, NotSound, NoPlace, NoFile, checked_status, sound_check, gone_check, is_removable_thing}
use Rattle.ldisk_files.specs.declared.fault.FileFault.{FileFault}
use Rattle.ldisk_files.specs.declared.fault.FileFault.TheVariants.{Refused}
use Rattle.ldisk_files.proofs.RefuseLemmas.{answers-then, tree-refuses, survey-refuses}

-- ---- names

module _ (super : Super) (parts : Parts) where
  thing-removable : (number : ℕ) → is_removable_thing (Some (thing super parts number)) ≡ is_removable (parts.node number)
  unfolding thing
  thing-removable number = by (is_file (parts.node number)) (is_link (parts.node number)) (is_directory (parts.node number)) refl refl refl
    where
      by : (a b c : Bool) → is_file (parts.node number) ≡ a → is_link (parts.node number) ≡ b → is_directory (parts.node number) ≡ c
          → is_removable_thing (Some (thing super parts number)) ≡ is_removable (parts.node number)
      by true b c file link directory = rw file refl
      by false true c file link directory = rw (file, link) refl
      by false false true file link directory = rw (file, link, directory) refl
      by false false false file link directory = rw (file, link, directory) refl

  lookup-dots : (name : List ℕ) (directory : ℕ) → is_dots name ≡ true → lookup super parts name directory ≡ None
  unfolding lookup
  lookup-dots name directory dots = by (is_directory (parts.node directory)) refl
    where
      by : (is : Bool) → is_directory (parts.node directory) ≡ is → lookup super parts name directory ≡ None
      by true is = rw (is, dots) refl
      by false is = rw is refl

  dots-nowhere : (name : List ℕ) (above : List (List ℕ)) → is_dots name ≡ true → reached super parts (name ∷ above) ≡ None
  unfolding reached
  dots-nowhere name above dots = by (reached super parts above) refl
    where
      by : (found : Option ℕ) → reached super parts above ≡ found → then_lookup super parts name (reached super parts above) ≡ None
      by None is = rw is refl
      by (Some directory) is = rw is (lookup-dots name directory dots)

  -- what a directory holds by a name that is neither `.` nor `..`
  pub held-is : (directory : ℕ) (name : List ℕ) (above : List (List ℕ)) → reached super parts above ≡ Some directory → is_directory (parts.node directory) ≡ true
      → is_dots name ≡ false → reached super parts (name ∷ above) ≡ held_name super parts directory name
  unfolding reached lookup
  held-is directory name above leads is plain = ap (then_lookup super parts name) leads ∙ rw (is, plain) refl

plain-is : (name : List ℕ) (above : List (List ℕ)) → is_dots name ≡ false → plain_path (name ∷ above) ≡ name ∷ above
unfolding is_dots
plain-is name above plain = by (bytes_eq here_name name) (bytes_eq above_name name) refl refl
  where
    by : (a b : Bool) → bytes_eq here_name name ≡ a → bytes_eq above_name name ≡ b → plain_path (name ∷ above) ≡ name ∷ above
    by true b here up = absurd (let no = rw here at plain in cc)
    by false true here up = absurd (let no = rw (here, up) at plain in cc)
    by false false here up = rw (here, up) refl

module _ (volume : Volume) (image : Image) where
  there-is : (path : List (List ℕ)) (number : ℕ) → reached volume.layout (parts_of volume image) path ≡ Some number
      → is_removable_thing (names_in volume image path) ≡ is_removable ((parts_of volume image).node number)
  unfolding names_in names
  there-is path number leads = ap (λ (found : Option ℕ). is_removable_thing (option_map (thing volume.layout (parts_of volume image)) found)) leads ∙ thing-removable volume.layout (parts_of volume image) number

  nothing-is : (path : List (List ℕ)) → reached volume.layout (parts_of volume image) path ≡ None → is_removable_thing (names_in volume image path) ≡ false
  unfolding names_in names
  nothing-is path leads = ap (λ (found : Option ℕ). is_removable_thing (option_map (thing volume.layout (parts_of volume image)) found)) leads

  -- a name that may go leads to an inode
  pub record IsHeld (path : List (List ℕ)) (name : List ℕ) : Type 0 where
    pub number : ℕ
    pub leads : reached volume.layout (parts_of volume image) path ≡ Some number
    pub removable : is_removable ((parts_of volume image).node number) ≡ true
    pub plain : is_dots name ≡ false

  pub held-by : (path : List (List ℕ)) (directory : ℕ) (name : List ℕ) → IsRemovable volume image path directory name → IsHeld path name
  held-by path directory name is = by (reached volume.layout (parts_of volume image) path) (is_dots name) refl refl
    where
      by : (found : Option ℕ) (dots : Bool) → reached volume.layout (parts_of volume image) path ≡ found → is_dots name ≡ dots → IsHeld path name
      by None dots leads says = absurd (let no = sym (nothing-is path leads) ∙ is.kind in cc)
      by (Some number) true leads says =
          absurd (let none : reached volume.layout (parts_of volume image) path ≡ None = ap (reached volume.layout (parts_of volume image)) is.ends.is ∙ dots-nowhere volume.layout (parts_of volume image) name is.ends.above says in
          let no = sym leads ∙ none in cc)
      by (Some number) false leads says = record { number = number; leads = leads; removable = sym (there-is path number leads) ∙ is.kind; plain = says }

  -- ---- the checks of a name

  refuse-kind : (text : List ℕ) (path : List (List ℕ)) → name_path (names_in volume image) text ≡ Ok path → is_removable_thing (names_in volume image path) ≡ false
      → checked_status (gone_check text volume image) ≡ 3
  refuse-kind text path is kind = rw (is, kind) refl

  pass-kind : (text : List ℕ) (path : List (List ℕ)) → name_path (names_in volume image) text ≡ Ok path → is_removable_thing (names_in volume image path) ≡ true
      → gone_check text volume image ≡ Ok path
  pass-kind text path is kind = rw (is, kind) refl

  pub no-place : (text : List ℕ) (fault : TreeFault) → GivesPlace volume.layout (parts_of volume image) (Err fault) (name_path (names_in volume image) text)
      → GivesName volume image text (Err (tree_fault fault))
  no-place text fault refuses =
      answers-then NamePlace (tree_fault fault) NoPlace (λ why. refl) (name_path (names_in volume image) text)
      (λ gone. require (is_removable_thing (names_in volume image gone)) NoFile >>= λ kind. Ok gone) (tree-refuses fault (name_path (names_in volume image) text) refuses)

  module _ (text : List ℕ) (place : NamePlace) (at : GivesPath volume.layout (parts_of volume image) (name_path (names_in volume image) text) place) where
    pub dots-refused : is_dots place.name.now ≡ true → GivesName volume image text (Err Refused)
    dots-refused dots =
        refuse-kind text at.path at.is (nothing-is at.path
        (ap (reached volume.layout (parts_of volume image)) at.ends.is ∙ dots-nowhere volume.layout (parts_of volume image) place.name.now at.ends.above dots))

    module _ (plain : is_dots place.name.now ≡ false) where
      leads-by : (found : Option ℕ) → reached volume.layout (parts_of volume image) (plain_path (place.name.now ∷ at.ends.above)) ≡ found → reached volume.layout (parts_of volume image) at.path ≡ found
      leads-by found leads = ap (reached volume.layout (parts_of volume image)) (at.ends.is ∙ sym (plain-is place.name.now at.ends.above plain)) ∙ leads

      pub found-removable : IsSound volume image → (found : Option Stat) → GivesThere volume.layout (parts_of volume image) (place.name.now ∷ at.ends.above) (Ok found)
          → IfSome found (λ stat. inode_view stat.node ≡ (parts_of volume image).node stat.inode) → is_found_removable found ≡ true → GivesName volume image text (Ok place)
      found-removable sound None there node removable = cc
      found-removable sound (Some stat) there node removable = record {
        path = at.path;
        is = at.is;
        removable = record {
          sound = sound;
          ends = at.ends;
          kind = there-is at.path stat.inode (leads-by (Some stat.inode) there) ∙ (ap is_removable (sym node) ∙ removable);
        };
      }

      pub found-other : (found : Option Stat) → GivesThere volume.layout (parts_of volume image) (place.name.now ∷ at.ends.above) (Ok found)
          → IfSome found (λ stat. inode_view stat.node ≡ (parts_of volume image).node stat.inode) → is_found_removable found ≡ false → GivesName volume image text (Err Refused)
      found-other None there node other = refuse-kind text at.path at.is (nothing-is at.path (leads-by None there))
      found-other (Some stat) there node other =
          refuse-kind text at.path at.is (there-is at.path stat.inode (leads-by (Some stat.inode) there) ∙ (ap is_removable (sym node) ∙ other))

  -- ---- the survey

  not-ok : {A F : Type 0} (given : Result A F) (value : A) → given ≡ Ok value → IsErr given → ⊥
  not-ok (Ok other) value is refused = cc
  not-ok (Err fault) value is refused = cc

  is-sound : IsLaid volume image → Sound volume.layout (parts_of volume image) → IsSound volume image
  unfolding IsSound
  is-sound laid parts = record { super = laid.super; whole = laid.whole; parts = parts }

  pub surveyed : (found : Findings) → IsLaid volume image → SaysSound (Ok found) volume.layout (parts_of volume image) → Finds (Ok found) volume.layout (parts_of volume image)
      → GivesSurveyed volume image (Ok tt)
  surveyed found laid says finds = record {
    passes = λ refused. not-ok (survey volume.layout (parts_of volume image)) _ finds.0 refused;
    sound = is-sound laid says.0;
  }

  -- once it was surveyed the other checks decide
  pub after-survey : {A : Type 0} (check : Volume → Image → Result A FileRefusal) → IsSurveyed volume image → sound_check check volume image ≡ check volume image
  after-survey check is = by (survey volume.layout (parts_of volume image)) refl
    where
      by : (given : Result _ _) → survey volume.layout (parts_of volume image) ≡ given → sound_check check volume image ≡ check volume image
      by (Ok met) says = rw says refl
      by (Err fault) says = absurd (is.passes (rw says refl))

  pub not-surveyed : {A : Type 0} (B : Type 0) (check : Volume → Image → Result A FileRefusal) (fault : FileFault) → Refuses fault (survey volume.layout (parts_of volume image))
      → Answers {B = B} (sound_check check volume image) (Err fault)
  not-surveyed B check fault refuses = answers-then B fault NotSound (λ why. refl) (survey volume.layout (parts_of volume image)) (λ met. check volume image) refuses

  pub answers-surveyed : {A B : Type 0} (check : Volume → Image → Result A FileRefusal) (result : Result B FileFault) → IsSurveyed volume image → Answers (check volume image) result
      → Answers (sound_check check volume image) result
  answers-surveyed {A} {B} check result is answers = subst (λ (given : Result A FileRefusal). Answers {B = B} given result) (sym (after-survey check is)) answers

  pub checked : (text : List ℕ) (result : Result NamePlace FileFault) → IsSurveyed volume image → GivesName volume image text result → GivesChecked volume image text result
  checked text (Ok place) is gives =
      (gives, ap checked_status (after-survey (gone_check text) is ∙ pass-kind text gives.path gives.is gives.removable.kind))
  checked text (Err fault) is refuses = answers-surveyed {B = NamePlace} (gone_check text) (Err fault) is refuses

  pub survey-answered : (result : Result Findings SurveyFault) → IsLaid volume image → SaysSound result volume.layout (parts_of volume image) → Finds result volume.layout (parts_of volume image)
      → GivesSurveyed volume image (survey_answer result)
  survey-answered (Ok found) laid says finds = surveyed found laid says finds
  survey-answered (Err fault) laid says finds = survey-refuses fault (survey volume.layout (parts_of volume image)) finds

-- ---- where it is told

module _ (past : Option Past) (volume : Volume) (text : List ℕ) (place : NamePlace) (plain : is_dots place.name.now ≡ false) (found : Option Stat)
    (at : Told past (λ now. IsSound volume now → GivesPlace volume.layout (parts_of volume now) (Ok place) (name_path (names_in volume now) text)))
    (there : Told past (λ now. IsSound volume now → (above : List (List ℕ)) → LeadsToDirectory volume.layout (parts_of volume now) above place.directory.inode
    → GivesThere volume.layout (parts_of volume now) (place.name.now ∷ above) (Ok found)))
    (node : IfSome found (λ stat. Told past (λ now. inode_view stat.node ≡ (parts_of volume now).node stat.inode))) where
  node-told : Told past (λ now. IfSome found (λ stat. inode_view stat.node ≡ (parts_of volume now).node stat.inode))
  node-told = by found node
    where
      by : (found : Option Stat) → IfSome found (λ stat. Told past (λ now. inode_view stat.node ≡ (parts_of volume now).node stat.inode))
          → Told past (λ now. IfSome found (λ stat. inode_view stat.node ≡ (parts_of volume now).node stat.inode))
      by None node = told_all past (λ now. IfSome {T = Stat} None (λ stat. inode_view stat.node ≡ (parts_of volume now).node stat.inode)) (λ now. tt)
      by (Some stat) node = node

  pub told-removable : is_found_removable found ≡ true → Told past (λ now. IsSound volume now → GivesName volume now text (Ok place))
  told-removable removable = told_three past _ _ _ (λ now. IsSound volume now → GivesName volume now text (Ok place))
      (λ now at there node sound. let path = at sound in found-removable volume now text place path plain sound found (there sound path.ends.above path.ends.there) node removable) at there node-told

  pub told-other : is_found_removable found ≡ false → Told past (λ now. IsSound volume now → GivesName volume now text (Err Refused))
  told-other other = told_three past _ _ _ (λ now. IsSound volume now → GivesName volume now text (Err Refused))
      (λ now at there node sound. let path = at sound in found-other volume now text place path plain found (there sound path.ends.above path.ends.there) node other) at there node-told

-- what was found is the inode at its number on the volume as it was before a call that left it alone
pub node-back : {D : Type 0} {disks : Ghosts D} (old new : held.Volume D disks) (found : Option Stat) → SameVolume old new → IfSome found (IsNode new)
    → IfSome found (λ stat. Told (past_of old) (λ now. inode_view stat.node ≡ (parts_of (volume_view old) now).node stat.inode))
node-back old new None same node = tt
node-back old new (Some stat) same node = told_back old new (λ (volume : Volume) (now : Image). inode_view stat.node ≡ (parts_of volume now).node stat.inode) same node
