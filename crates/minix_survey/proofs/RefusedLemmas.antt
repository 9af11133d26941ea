-- What is met after a refusal changes nothing: the first refusal is the answer.
use Rattle.std.proofs.Common.{◌≡◌, ℕ, zero, suc, ◌+◌, Bool, true, false, List, [], ◌∷◌, Result, Ok, Err, refl}
use Rattle.lilo_model.specs.Checks.{◌>>=◌}
use Rattle.lilo_model.specs.MinixParts.{ZoneFault}
use Rattle.lilo_model.specs.MinixEntries.{Entry}
use Rattle.lilo_model.specs.MinixNames.{entry}
use Rattle.lilo_model.specs.MinixWalk.{Visit}
use Rattle.lilo_model.specs.MinixSurvey.{Surveyable, Spot, Met, Refers, Reaches, Stands, Ends, SurveyFault, judge, judged, with_zones, zones_of, with_inode, spot_below, entry_then, is_known, with_entry, with_entries, with_directory, has_entries, places_of, with_all}
use Rattle.minix_survey.specs.Step.{more_entries}

module _ (volume : Surveyable) (fault : SurveyFault) where
  -- what was met is refused
  abbrev pub Bad : List Met → Type 0
  Bad met = judged volume met ≡ Err fault

  pub bad-more : (next : Met) (met : List Met) → Bad met → Bad (next ∷ met)
  unfolding judged
  bad-more next met bad = rw bad refl

  pub bad-zones : (inode : ℕ) (found : List (Result Visit ZoneFault)) (met : List Met) → Bad met → Bad (with_zones inode found met)
  bad-zones inode [] met bad = bad
  bad-zones inode (first ∷ others) met bad = bad-zones inode others (Refers inode first ∷ met) (bad-more (Refers inode first) met bad)

  pub bad-inode : (spot : Spot) (met : List Met) → Bad met → Bad (with_inode volume spot met)
  unfolding with_inode
  bad-inode spot met bad = bad-zones spot.inode (zones_of volume spot.inode) (Reaches spot ∷ met) (bad-more (Reaches spot) met bad)

  module _ (visit : Spot → List Met → List Met) (keeps : (spot : Spot) (met : List Met) → Bad met → Bad (visit spot met)) (directory : Spot) where
    bad-then : (place : ℕ) (what : Entry) (free known : Bool) (met : List Met) → Bad met → Bad (entry_then visit directory place what free known met)
    bad-then place what true known met bad = bad
    bad-then place what false true met bad = bad-more (Stands directory place what) met bad
    bad-then place what false false met bad =
        keeps (spot_below directory what.inode) (Stands directory place what ∷ met) (bad-more (Stands directory place what) met bad)

    pub bad-entry : (place : ℕ) (what : Entry) (met : List Met) → Bad met → Bad (with_entry visit directory place what met)
    bad-entry place what met bad = bad-then place what _ (is_known what met) met bad

    pub bad-entries : (at : ℕ → Entry) (count : ℕ) (met : List Met) → Bad met → Bad (with_entries visit directory at count met)
    bad-entries at zero met bad = bad
    bad-entries at (suc place) met bad =
        bad-entry place (at place) (with_entries visit directory at place met) (bad-entries at place met bad)

    pub bad-more_entries : (at : ℕ → Entry) (start count : ℕ) (met : List Met) → Bad met → Bad (more_entries visit directory at start count met)
    bad-more_entries at start zero met bad = bad
    bad-more_entries at start (suc count) met bad =
        bad-entry (start + count) (at (start + count)) (more_entries visit directory at start count met) (bad-more_entries at start count met bad)

    bad-directory_if : (has : Bool) (met : List Met) → Bad met → Bad (with_directory visit volume directory has met)
    bad-directory_if false met bad = bad
    bad-directory_if true met bad =
        bad-more
        (Ends directory (places_of volume directory.inode))
        (with_entries visit directory (entry volume.super volume.parts directory.inode) (places_of volume directory.inode) met)
        (bad-entries (entry volume.super volume.parts directory.inode) (places_of volume directory.inode) met bad)

    pub bad-directory : (has : Bool) (met : List Met) → Bad met → Bad (with_directory visit volume directory has met)
    bad-directory has met bad = bad-directory_if has met bad

  pub bad-all : (left : ℕ) (spot : Spot) (met : List Met) → Bad met → Bad (with_all volume left spot met)
  bad-all zero spot met bad = bad-inode spot met bad
  bad-all (suc left) spot met bad =
      bad-directory (with_all volume left) (bad-all left) spot (has_entries volume spot.inode) (with_inode volume spot met) (bad-inode spot met bad)

  -- and so is what comes after an inode, and after its zones
  pub bad-after_zones : (left : ℕ) (spot : Spot) (met : List Met) → Bad (with_inode volume spot met) → Bad (with_all volume left spot met)
  bad-after_zones zero spot met bad = bad
  bad-after_zones (suc left) spot met bad = bad-directory (with_all volume left) (bad-all left) spot (has_entries volume spot.inode) (with_inode volume spot met) bad

  pub bad-after_reach : (left : ℕ) (spot : Spot) (met : List Met) → Bad (Reaches spot ∷ met) → Bad (with_all volume left spot met)
  unfolding with_inode
  bad-after_reach left spot met bad = bad-after_zones left spot met (bad-zones spot.inode (zones_of volume spot.inode) (Reaches spot ∷ met) bad)
