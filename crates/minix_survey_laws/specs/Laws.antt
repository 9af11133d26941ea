-- The facts of a survey hold on sound volumes, and on no others.
use Rattle.std.specs.Prelude.{◌≡◌, ◌≢◌, ◌≤◌, ℕ, suc, Bool, true, List, length, Some}
use Rattle.lilo_model.specs.MinixLayout.{Super}
use Rattle.lilo_model.specs.MinixParts.{Parts}
use Rattle.lilo_model.specs.MinixNames.{reached, Named, Sound}
use Rattle.minix_survey_laws.specs.Survey.{IsSeenDirectory, NamesIn, NamesAt, EntryPlace, AreApart, AllName, SurveyFacts, Surveyed, AreFound}
use Rattle.minix_survey_laws.specs.Count.{IsCount, JudgesNext, AreAllJudged, HasNames}

-- where they hold, the volume is sound
abbrev pub SurveyLaw : Type 0
SurveyLaw = (super : Super) (parts : Parts) (seen : ℕ → Bool) (level : ℕ → ℕ) → Surveyed super parts seen level → Sound super parts

-- what has a name was seen
abbrev pub NamedLaw : Type 0
NamedLaw =
    (super : Super) (parts : Parts) (seen : ℕ → Bool) (level : ℕ → ℕ) (number : ℕ)
    → Surveyed super parts seen level → Named super parts number → seen number ≡ true

-- what was seen has a name, where each inode but the root was seen by an entry
abbrev pub SeenLaw : Type 0
SeenLaw =
    (super : Super) (parts : Parts) (seen : ℕ → Bool) (level : ℕ → ℕ) (number : ℕ)
    → Surveyed super parts seen level → AreFound super parts seen → seen number ≡ true → Named super parts number

-- ---- on a sound volume

-- nothing is seen but what has a name
abbrev pub AreNamed : Super → Parts → (ℕ → Bool) → Type 0
AreNamed super parts seen = (number : ℕ) → seen number ≡ true → Named super parts number

-- the level of a directory is the number of components of a path to it
abbrev pub AreLevels : Super → Parts → (ℕ → Bool) → (ℕ → ℕ) → Type 0
AreLevels super parts seen level =
    (directory : ℕ) (path : List (List ℕ)) → IsSeenDirectory parts seen directory → reached super parts path ≡ Some directory → level directory ≡ length path

-- what a survey meets where it has seen nothing but what has a name
pub record MeetsFacts (super : Super) (parts : Parts) (seen : ℕ → Bool) : Type 0 where
  -- the facts hold, of levels that there are
  pub facts : (level : ℕ → ℕ) → AreLevels super parts seen level → SurveyFacts super parts seen level
  pub levels : (level : ℕ → ℕ) × AreLevels super parts seen level
  -- and what it sees by an entry has a name too
  pub entries : (directory place inode : ℕ) → NamesAt super parts seen directory place inode → Named super parts inode

-- at each moment of a survey nothing is to refuse
abbrev pub FactsLaw : Type 0
FactsLaw = (super : Super) (parts : Parts) (seen : ℕ → Bool) → Sound super parts → AreNamed super parts seen → MeetsFacts super parts seen

-- and where it has seen all that has a name it is done
abbrev pub SurveyedLaw : Type 0
SurveyedLaw =
    (super : Super) (parts : Parts) (seen : ℕ → Bool) → Sound super parts → AreNamed super parts seen
    → ((number : ℕ) → Named super parts number → seen number ≡ true)
    → (level : ℕ → ℕ) × Surveyed super parts seen level × AreFound super parts seen

-- ---- counts of names

-- what one more place does to the count of an inode's names
pub record CountsNext (super : Super) (parts : Parts) (judged next : ℕ → ℕ) (directory inode count : ℕ) : Type 0 where
  pub named : NamesIn super parts directory (judged directory) inode → IsCount super parts next inode (suc count)
  pub other : (NamesIn super parts directory (judged directory) inode → ⊥) → IsCount super parts next inode count

-- a count begins at 0 and goes on place by place
pub record AreCounts (super : Super) (parts : Parts) : Type 0 where
  pub none : (judged : ℕ → ℕ) (inode : ℕ) → ((directory : ℕ) → judged directory ≡ 0) → IsCount super parts judged inode 0
  pub next : (judged next : ℕ → ℕ) (directory inode count : ℕ) → IsCount super parts judged inode count
      → JudgesNext judged next directory → CountsNext super parts judged next directory inode count

-- on any volume
abbrev pub CountLaw : Type 0
CountLaw = (super : Super) (parts : Parts) → AreCounts super parts

-- at the end no list of places is longer
abbrev pub LinksLaw : Type 0
LinksLaw =
    (super : Super) (parts : Parts) (seen : ℕ → Bool) (judged : ℕ → ℕ) (inode count : ℕ) (all : List EntryPlace)
    → AreAllJudged super parts seen judged → IsCount super parts judged inode count → AreApart all → AllName super parts seen inode all
    → length all ≤ count

-- and where a survey is done the count is that of the inode's names
abbrev pub NamesLaw : Type 0
NamesLaw =
    (super : Super) (parts : Parts) (seen : ℕ → Bool) (level judged : ℕ → ℕ) (inode count : ℕ)
    → Surveyed super parts seen level → AreFound super parts seen → AreAllJudged super parts seen judged → inode ≢ 1 → IsCount super parts judged inode count
    → HasNames super parts inode count
