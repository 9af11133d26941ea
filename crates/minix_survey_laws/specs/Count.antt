-- The names of an inode, counted place by place.
use Rattle.std.specs.Prelude.{◌≡◌, ◌≢◌, ◌<◌, ◌≤◌, ℕ, suc, Bool, List, length}
use Rattle.lilo_model.specs.MinixLayout.{Super}
use Rattle.lilo_model.specs.MinixParts.{Parts}
use Rattle.lilo_model.specs.MinixEntries.{places}
use Rattle.lilo_model.specs.MinixNames.{AllLead, AreDistinct}
use Rattle.minix_survey_laws.specs.Survey.{IsSeenDirectory, NamesIn, EntryPlace, Each, AreApart}

-- of each directory the first places were judged, so many as a function says; an inode is named at one of them
pub record IsJudged (super : Super) (parts : Parts) (judged : ℕ → ℕ) (inode : ℕ) (at : EntryPlace) : Type 0 where
  pub below : at.place < judged at.directory
  pub by : NamesIn super parts at.directory at.place inode

-- an inode is named at so many of them
pub record IsCount (super : Super) (parts : Parts) (judged : ℕ → ℕ) (inode count : ℕ) : Type 0 where
  pub all : List EntryPlace
  pub apart : AreApart all
  pub each : Each (IsJudged super parts judged inode) all
  pub is : length all ≡ count
  -- at no more
  pub most : (others : List EntryPlace) → AreApart others → Each (IsJudged super parts judged inode) others → length others ≤ count

-- the next place of a directory was judged
pub record JudgesNext (judged next : ℕ → ℕ) (directory : ℕ) : Type 0 where
  pub here : next directory ≡ suc (judged directory)
  pub elsewhere : (other : ℕ) → other ≢ directory → next other ≡ judged other

-- all places of the directories that were seen were judged, and no others
pub record AreAllJudged (super : Super) (parts : Parts) (seen : ℕ → Bool) (judged : ℕ → ℕ) : Type 0 where
  pub all : (directory : ℕ) → IsSeenDirectory parts seen directory → places super.kind (parts.node directory).size ≤ judged directory
  pub only : (directory place : ℕ) → place < judged directory → IsSeenDirectory parts seen directory

-- an inode has so many names
pub record HasNames (super : Super) (parts : Parts) (inode count : ℕ) : Type 0 where
  pub paths : List (List (List ℕ))
  pub distinct : AreDistinct paths
  pub lead : AllLead super parts inode paths
  pub is : length paths ≡ count
  -- and no more
  pub most : (others : List (List (List ℕ))) → AreDistinct others → AllLead super parts inode others → length others ≤ count
