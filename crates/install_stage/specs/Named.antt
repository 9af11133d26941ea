-- Names of a volume once a file is made (a rule of this project's own). A path is a list of components, the last one first.
use Rattle.std.specs.Prelude.{◌≡◌, ◌⊎◌, ℕ, List, ◌∷◌, Option, Some, Result, OnOk}
use Rattle.disk_trait.specs.declared.disks.Disks.{Ghosts}
use Rattle.disk_trait.specs.Moments.{IsTold, now, LeavesOnly}
use Rattle.lilo_model.specs.Disks.{Image}
use Rattle.lilo_model.specs.MinixNames.{Thing, names_in, IsSound}
use Rattle.lilo_model.specs.MinixParts as model
use Rattle.lilo_model.specs.NamePlaces.{with_name}
use Rattle.minix_create.specs.Chosen.{thing_with}
use Rattle.minix_create.specs.Linked.{Creates}
use Rattle.minix_create.specs.declared.chosen.Chosen.{Chosen}
use Rattle.minix_change_laws.specs.Tree.{HasTreeWith}
use Rattle.minix_choice.specs.declared.write_fault.WriteFault.{WriteFault}
use Rattle.minix_zones.specs.Volume.{volume_view, past_of}
use Rattle.minix_zones.specs.declared.volume.Volume.{Volume}

-- in an image Names are those of another one, with some thing at a path
abbrev pub HasNamesBut : model.Volume → Image → Image → List (List ℕ) → Option Thing → Type 0
HasNamesBut volume old image path what = (name : List (List ℕ)) → names_in volume image name ≡ with_name path what (names_in volume old) name

-- so they are where the tree is that one's but for what the path leads to
abbrev pub NamesLaw : Type 0
NamesLaw =
    (volume : model.Volume) (old image : Image) (path : List (List ℕ)) (found : Option ℕ) (what : Option Thing)
    → HasTreeWith volume old image path found what → HasNamesBut volume old image path what

-- in an image the volume is sound, and Names are those of another one, or these with some thing at a path
pub record HasOldOrNew (volume : model.Volume) (old : Image) (path : List (List ℕ)) (what : Option Thing) (image : Image) : Type 0 where
  pub sound : IsSound volume image
  pub names : ((name : List (List ℕ)) → names_in volume image name ≡ names_in volume old name) ⊎ HasNamesBut volume old image path what

-- What a stop leaves of a file that is made, at any moment, is sound, with Names as before or with the whole file at its path;
-- once it is done it is there.
pub record NamesFile {D : Type 0} {disks : Ghosts D} (start volume : Volume D disks) (outer : List (List ℕ)) (chosen : Chosen) (given : ℕ → List ℕ)
    (result : Result (Unit {0}) WriteFault) : Type 0 where
  pub any_moment : LeavesOnly (past_of start) (past_of volume)
      (HasOldOrNew (volume_view start) (now (past_of start)) (chosen.name ∷ outer) (Some (thing_with chosen given)))
  pub done : IsTold (past_of start) → OnOk result (HasNamesBut (volume_view start) (now (past_of start)) (now (past_of volume)) (chosen.name ∷ outer)
      (Some (thing_with chosen given)))

-- so it is of each that is made, or refused
abbrev pub NamesFiles : {D : Type 0} {disks : Ghosts D} → Volume D disks → Volume D disks → Chosen → Type 0
NamesFiles start volume chosen =
    (outer : List (List ℕ)) (given : ℕ → List ℕ) (result : Result (Unit {0}) WriteFault) → Creates start volume outer chosen given result
    → NamesFile start volume outer chosen given result
