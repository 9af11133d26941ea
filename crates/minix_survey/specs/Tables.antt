-- What a survey's tables have, and when that is what was met.
use Rattle.std.specs.Prelude.{◌≡◌, ◌≢◌, ℕ, ◌==◌, ◌&&◌, ◌||◌, Bool, List, bytes_eq, nat_eq}
use Rattle.std.specs.Global.{Vec}
use Rattle.std.specs.HashSet.{contains, contains_by}
use Rattle.lilo_model.specs.MinixSurvey as model
use Rattle.minix_survey.specs.declared.tables.Tables.{Tables}
use Rattle.minix_survey.specs.Findings.{AreFindings, names_in}

-- an inode was reached
abbrev pub reached_in : Tables → ℕ → Bool
reached_in tables inode = contains nat_eq tables.reached inode

-- the test of a name in a directory
abbrev pub is_name : ℕ → List ℕ → ℕ × Vec ℕ → Bool
is_name directory name key = nat_eq key.0 directory && bytes_eq key.1.items name

-- a name is in a directory
abbrev pub entry_in : Tables → ℕ → List ℕ → Bool
entry_in tables directory name = contains_by (is_name directory name) tables.entries

-- a call put one more name into a directory
pub record Enters (old new : Tables) (directory : ℕ) (name : List ℕ) : Type 0 where
  pub entries : (other : ℕ) (text : List ℕ) → entry_in new other text ≡ (((directory == other) && bytes_eq name text) || entry_in old other text)
  pub reached : new.reached ≡ old.reached
  pub found : new.found ≡ old.found

-- tables have what was met
pub record Tells (tables : Tables) (met : List model.Met) : Type 0 where
  pub reached : (inode : ℕ) → reached_in tables inode ≡ model.was_reached met inode
  pub entries : (directory : ℕ) (name : List ℕ) → entry_in tables directory name ≡ model.has_name met directory name
  pub found : AreFindings tables.found met

-- a call gave an inode so many names
pub record Renames (old new : Tables) (inode count : ℕ) : Type 0 where
  pub here : names_in new.found inode ≡ count
  pub others : (other : ℕ) → other ≢ inode → names_in new.found other ≡ names_in old.found other
  pub owners : new.found.owners ≡ old.found.owners
  pub reached : new.reached ≡ old.reached
  pub entries : new.entries ≡ old.entries
