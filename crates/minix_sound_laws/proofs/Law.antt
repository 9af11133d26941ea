-- A survey is Ok exactly where the volume is sound.
use Rattle.std.proofs.Common.{◌≡◌, ◌≤◌, nat_le, ℕ, ◌==◌, Bool, true, false, List, Option, None, Some, Result, Ok, Err, refl, subst}
use Rattle.std.specs.Prelude.{slice_index}
use Rattle.std.proofs.lemmas.Bool.{leb-true}
use Rattle.lilo_model.specs.Bytes.{number16}
use Rattle.lilo_model.specs.Checks.{◌>>=◌, require}
use Rattle.lilo_model.specs.Disks.{Image}
use Rattle.lilo_model.specs.MinixLayout.{Kind, Super, LayoutFault, is_v1, kind_of, super_of, super_checks, super_in, super_at, super_sector, v1_inode, inode_of}
use Rattle.lilo_model.specs.MinixParts.{Volume, sector_of, parts_of}
use Rattle.lilo_model.specs.MinixSurvey.{Met, SurveyFault, Surveyable, surveyable, judged, survey_walk, survey_of, survey}
use Rattle.minix_sound_laws.specs.Laws.{HasNumbers, SoundLaw, ImageLaw}
use Rattle.minix_sound_laws.proofs.Walk.{walk-grows}
use Rattle.minix_sound_laws.proofs.OkSound.{sound}
use Rattle.minix_sound_laws.proofs.SoundOk.{judged-ok}

ok-of : (first : Result (Unit {0}) SurveyFault) (all met : List Met) → (first >>= λ a. Ok all) ≡ Ok met → (first ≡ Ok tt) × (all ≡ met)
ok-of (Ok done) all met given = (refl, cc)
ok-of (Err fault) all met given = cc

-- a survey that is Ok found nothing wrong, and answers what it met
pub survey-ok : (volume : Surveyable) (met : List Met) → survey_of volume ≡ Ok met → (judged volume (survey_walk volume) ≡ Ok tt) × (survey_walk volume ≡ met)
unfolding survey_of
survey-ok volume met given = ok-of (judged volume (survey_walk volume)) (survey_walk volume) met given

ok-survey : (volume : Surveyable) → judged volume (survey_walk volume) ≡ Ok tt → survey_of volume ≡ Ok (survey_walk volume)
unfolding survey_of
ok-survey volume good = rw good refl

pub sound_law : SoundLaw
unfolding survey
sound_law super parts numbers = record {
  sound = λ met given. sound super parts numbers (survey_walk (surveyable super parts)) (walk-grows (surveyable super parts)) (survey-ok (surveyable super parts) met given).0;
  ok = λ is. (
    survey_walk (surveyable super parts),
    ok-survey (surveyable super parts) (judged-ok super parts is (survey_walk (surveyable super parts)) (walk-grows (surveyable super parts)).fits),
  );
}

-- ---- of an image

some-by : (some : Bool) (rest : Result (Unit {0}) LayoutFault) (fault : LayoutFault) → (require some fault >>= λ a. rest) ≡ Ok tt → some ≡ true
some-by true rest fault given = refl
some-by false rest fault given = cc

pub some-inodes : (super : Super) (sectors : ℕ) → super_checks super sectors ≡ Ok tt → 1 ≤ super.inodes
unfolding super_checks
some-inodes super sectors given = leb-true 1 super.inodes (some-by (nat_le 1 super.inodes) _ _ given)

-- in version 1 an inode has nine numbers, and the tenth is 0
v1-nine : (bytes : List ℕ) → slice_index (v1_inode bytes).zones 9 ≡ 0
unfolding v1_inode
v1-nine bytes = refl

nine-by : (kind : Kind) (bytes : List ℕ) → is_v1 kind ≡ true → slice_index (inode_of kind bytes).zones 9 ≡ 0
unfolding inode_of
nine-by kind bytes is = rw is (v1-nine bytes)

-- a volume whose superblock passes its checks has the numbers that the law wants
pub has-numbers : (volume : Volume) (image : Image) (sectors : ℕ) → super_checks volume.layout sectors ≡ Ok tt → HasNumbers volume.layout (parts_of volume image)
unfolding parts_of
has-numbers volume image sectors passes = record {
  some = some-inodes volume.layout sectors passes;
  nine = λ is number. nine-by volume.layout.kind _ is;
}

checks-by : (passes : Result (Unit {0}) LayoutFault) (all super : Super) → (passes >>= λ b. Ok all) ≡ Ok super → (passes ≡ Ok tt) × (all ≡ super)
checks-by (Ok done) all super given = (refl, cc)
checks-by (Err fault) all super given = cc

size-by : (whole : Bool) (fault : LayoutFault) (rest : Result Super LayoutFault) (super : Super) → (require whole fault >>= λ a. rest) ≡ Ok super → rest ≡ Ok super
size-by true fault rest super given = given
size-by false fault rest super given = cc

in-passes : (kind : Option Kind) (bytes : List ℕ) (sectors : ℕ) (super : Super) → super_in kind bytes sectors ≡ Ok super → super_checks super sectors ≡ Ok tt
unfolding super_in
in-passes None bytes sectors super given = cc
in-passes (Some kind) bytes sectors super given =
    let both = checks-by (super_checks (super_of kind bytes) sectors) (super_of kind bytes) super (size-by (number16 bytes 10 == 0) _ _ super given) in
    subst (λ s. super_checks s sectors ≡ Ok tt) both.1 both.0

at-passes : (bytes : List ℕ) (sectors : ℕ) (super : Super) → super_at bytes sectors ≡ Ok super → super_checks super sectors ≡ Ok tt
unfolding super_at
at-passes bytes sectors super given = in-passes (kind_of (number16 bytes 16)) bytes sectors super given

pub image_law : ImageLaw
image_law volume image given =
    sound_law volume.layout (parts_of volume image) (has-numbers volume image volume.span.count (at-passes (sector_of volume image super_sector) volume.span.count volume.layout given))
