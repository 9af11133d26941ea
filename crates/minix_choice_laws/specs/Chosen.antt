-- Zones that were chosen for a new file may be its zones.
use Rattle.std.specs.Prelude.{◌≢◌, ◌≤◌, ◌<◌, ℕ, Bool, List, length, slice_index}
use Rattle.lilo_model.specs.MinixLayout.{Kind, reach}
use Rattle.write_model.specs.FileZones.{given}
use Rattle.write_model.specs.Choice.{indirect_zones, file_need}
use Rattle.minix_choice_laws.specs.FillLaws.{MayBeFile}
use Rattle.minix_choice_laws.specs.Sources.{FileZones}

-- zones in rising order
pub record AreRising (zones : List ℕ) : Type 0 where
  pub some : (i : ℕ) → i < length zones → slice_index zones i ≢ 0
  pub rise : (i j : ℕ) → i < j → j < length zones → slice_index zones i < slice_index zones j

-- the zones that a file's blocks and its indirect zones get of some that were found
abbrev pub chosen_zones : Kind → List Bool → List ℕ → FileZones
chosen_zones kind blocks zones = record { blocks = given blocks zones; indirect = indirect_zones kind blocks zones }

-- they may be the file's
abbrev pub ChosenLaw : Type 0
ChosenLaw =
    (kind : Kind) (blocks : List Bool) (zones : List ℕ)
    → length blocks ≤ reach kind → file_need kind blocks ≤ length zones → AreRising zones
    → MayBeFile kind (chosen_zones kind blocks zones)
