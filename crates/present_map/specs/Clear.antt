-- What a survey found of a volume, for the test of Clear.
use Rattle.std.specs.Prelude.{◌≡◌, ◌≤◌, ℕ, Bool, true, List, Option, None, Some, Ok, if◌then◌else◌}
use Rattle.lilo_model.specs.Disks.{Image}
use Rattle.lilo_model.specs.MinixLayout.{Super, is_size}
use Rattle.lilo_model.specs.MinixParts.{Volume, Parts, parts_of}
use Rattle.lilo_model.specs.MinixSurvey.{Met, survey}
use Rattle.minix_survey.specs.declared.findings.Findings.{Findings}
use Rattle.minix_survey.specs.Findings.{AreFindings}

-- what a survey met on a volume, and what it found
pub record IsFound (volume : Volume) (image : Image) (findings : Findings) (met : List Met) : Type 0 where
  pub surveyed : survey volume.layout (parts_of volume image) ≡ Ok met
  pub found : AreFindings findings met

-- an inode is there, of a size that is read
pub record IsThere (super : Super) (parts : Parts) (number : ℕ) : Type 0 where
  pub some : 1 ≤ number
  pub few : number ≤ super.inodes
  pub size : is_size super.kind (parts.node number).size ≡ true

-- what is answered of a map: nothing where its boot sector is another system's
abbrev pub clear_answer : Bool → Bool → Option Bool
clear_answer foreign clear = if foreign then None else Some clear
