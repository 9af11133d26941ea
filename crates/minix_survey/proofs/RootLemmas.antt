-- The root, and the answer of a survey.
use Rattle.std.proofs.Common.{◌≡◌, ◌≤◌, ℕ, suc, ◌-◌, nat_le, Bool, true, false, List, [], ◌∷◌, Result, Ok, Err, refl, sym, ◌∙◌, ap, subst, arith}
use Rattle.std.proofs.lemmas.Bool.Decides.{nat_tests}
use Rattle.lilo_model.specs.Checks.{◌>>=◌, require}
use Rattle.lilo_model.specs.MinixFind.{Zone, NotDirectory}
use Rattle.lilo_model.specs.MinixLayout.{Super, BadSize, Inodes, FileSize, is_size, super_checks}
use Rattle.lilo_model.specs.MinixParts.{Parts, Layout, is_directory}
use Rattle.lilo_model.specs.MinixNames.{depth_limit}
use Rattle.lilo_model.specs.MinixSurvey as model
use Rattle.lilo_model.specs.MinixSurvey.{Surveyable, Met, SurveyFault as Refusal, UnmarkedInode, Tree, Reaches, surveyable, root_spot, judge, judged, survey, survey_of, survey_walk, with_all}
use Rattle.minix_survey.specs.declared.findings.Findings.{Findings}
use Rattle.minix_survey.specs.declared.spot.Spot.{Spot}
use Rattle.minix_survey.specs.declared.survey_fault.SurveyFault.{SurveyFault}
use Rattle.minix_survey.specs.declared.tables.Tables.{Tables}
use Rattle.minix_survey.specs.Findings.{AreFindings}
use Rattle.minix_survey.specs.Step.{Answers, Finds, all_from}
use Rattle.minix_survey.specs.View.{Refuses, spot_view}
use Rattle.minix_survey.proofs.RefusedLemmas.{bad-after_reach}
use Rattle.minix_survey.proofs.StepLemmas.{refuses_kept}

-- the root, as the code comes to it
abbrev pub root_at : Spot
root_at = record { inode = 1; above = 1; level = 0 }

module _ (super : Super) (parts : Parts) where
  -- the survey is refused as what is met is
  pub survey-refused : (fault : Refusal) → judged (surveyable super parts) (survey_walk (surveyable super parts)) ≡ Err fault → survey super parts ≡ Err fault
  unfolding survey survey_of
  survey-refused fault bad = ap (λ (r : Result (Unit {0}) Refusal). r >>= λ a. Ok (survey_walk (surveyable super parts))) bad

  pub survey-good : judged (surveyable super parts) (survey_walk (surveyable super parts)) ≡ Ok tt → survey super parts ≡ Ok (survey_walk (surveyable super parts))
  unfolding survey survey_of
  survey-good good = ap (λ (r : Result (Unit {0}) Refusal). r >>= λ a. Ok (survey_walk (surveyable super parts))) good

  pub survey-answers : (fault : SurveyFault) → Refuses fault (judged (surveyable super parts) (survey_walk (surveyable super parts))) → Refuses fault (survey super parts)
  survey-answers fault refused = refuses_kept fault (judged (surveyable super parts) (survey_walk (surveyable super parts))) (survey super parts) survey-refused refused

  -- what is met from the root on
  pub walk-as : with_all (surveyable super parts) 65 root_spot [] ≡ survey_walk (surveyable super parts)
  unfolding survey_walk
  walk-as = refl

  walk-by : (spot : Spot) → spot_view spot ≡ root_spot → all_from spot (surveyable super parts) [] ≡ survey_walk (surveyable super parts)
  walk-by spot is =
      let level : spot.level ≡ 0 = ap (λ (s : model.Spot). s.level) is in
      let left : 65 - spot.level ≡ 65 = omega (arith, level) in
      ap (λ n. with_all (surveyable super parts) n (spot_view spot) []) left ∙ ap (λ (s : model.Spot). with_all (surveyable super parts) 65 s []) is ∙ walk-as

  -- what was met from the root on is the answer
  pub found-by : (spot : Spot) (tables : Tables) (found : Findings) → spot_view spot ≡ root_spot
      → Answers (Ok tt) tables (surveyable super parts) (all_from spot (surveyable super parts) []) → found ≡ tables.found → Finds (Ok found) super parts
  found-by spot tables found is answers same =
      let all = subst (λ (m : List Met). Answers (Ok tt) tables (surveyable super parts) m) (walk-by spot is) answers in
      (survey-good all.0, subst (λ (f : Findings). AreFindings f (survey_walk (surveyable super parts))) (sym same) all.1.found)

  pub refused-by : (spot : Spot) (tables : Tables) (fault : SurveyFault) → spot_view spot ≡ root_spot
      → Answers (Err fault) tables (surveyable super parts) (all_from spot (surveyable super parts) []) → Finds (Err fault) super parts
  refused-by spot tables fault is answers =
      survey-answers fault (subst (λ (m : List Met). Answers (Err fault) tables (surveyable super parts) m) (walk-by spot is) answers)

  -- a root that is refused
  root-bad : (fault : Refusal) → judged (surveyable super parts) (Reaches root_spot ∷ []) ≡ Err fault → survey super parts ≡ Err fault
  unfolding survey_walk
  root-bad fault bad = survey-refused fault (bad-after_reach (surveyable super parts) fault (suc depth_limit) root_spot [] bad)

  pub root-unmarked : parts.has_inode 1 ≡ false → survey super parts ≡ Err (UnmarkedInode 1)
  unfolding judged judge
  root-unmarked off = root-bad (UnmarkedInode 1) (rw off refl)

  pub root-sized : parts.has_inode 1 ≡ true → is_size super.kind (parts.node 1).size ≡ false → survey super parts ≡ Err (Tree (Zone (Layout (BadSize FileSize))))
  unfolding judged judge
  root-sized on size = root-bad (Tree (Zone (Layout (BadSize FileSize)))) (rw (on, size) refl)

  pub root-plain : parts.has_inode 1 ≡ true → is_size super.kind (parts.node 1).size ≡ true → is_directory (parts.node 1) ≡ false → survey super parts ≡ Err (Tree (NotDirectory 0))
  unfolding judged judge
  root-plain on size plain = root-bad (Tree (NotDirectory 0)) (rw (on, size, plain) refl)

-- a superblock that passed its checks has an inode
first-passed : {F : Type 0} (test : Bool) (fault : F) (rest : Result (Unit {0}) F) → (require test fault >>= λ a. rest) ≡ Ok tt → test ≡ true
first-passed true fault rest all = refl
first-passed false fault rest all = cc

pub some-inode : (super : Super) (sectors : ℕ) → super_checks super sectors ≡ Ok tt → 1 ≤ super.inodes
unfolding super_checks
some-inode super sectors passes =
    let one : nat_le 1 super.inodes ≡ true = first-passed (nat_le 1 super.inodes) (BadSize Inodes) _ passes in
    grind (arith, nat_tests)

-- before anything was met nothing is refused
pub none-judged : (volume : Surveyable) → judged volume [] ≡ Ok tt
unfolding judged
none-judged volume = refl
