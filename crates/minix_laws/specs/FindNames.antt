-- On a sound volume Find is a function of Names.
use Rattle.std.specs.Prelude.{ℕ, Bool, List}
use Rattle.lilo_model.specs.Disks.{Image}
use Rattle.lilo_model.specs.MinixParts.{Volume, parts_of}
use Rattle.lilo_model.specs.MinixFind.{find_path}
use Rattle.lilo_model.specs.MinixNames.{names_in, IsSound}
use Rattle.lilo_model.specs.MinixFindNames.{path_of, AgreesOn}

-- for each text, followed to its end or up to a last link
abbrev pub FindLaw : Type 0
FindLaw =
    (volume : Volume) (image : Image) → IsSound volume image → (follows_last : Bool) (text : List ℕ)
    → AgreesOn volume.layout (parts_of volume image)
    (find_path volume.layout (parts_of volume image) follows_last text)
    (path_of (names_in volume image) follows_last text)
