-- The test of Clear that an installation makes is Clear.
use Rattle.std.specs.Prelude.{◌≡◌, ◌↔◌, true, List, Ok}
use Rattle.lilo_model.specs.Disks.{Image, Machine, Span}
use Rattle.lilo_model.specs.MinixParts.{Volume, parts_of}
use Rattle.lilo_model.specs.MinixSurvey.{Met, survey}
use Rattle.lilo_model.specs.Clear.{Clear}
use Rattle.minix_sound_laws.specs.Laws.{HasNumbers}
use Rattle.install_laws.specs.InstallVerdict.{is_clear}

-- by what a survey of the volume met, the test passes exactly where the map is Clear
abbrev pub ClearTestLaw : Type 0
ClearTestLaw =
    (volume : Volume) (image : Image) (machine : Machine) (span : Span) (met : List Met)
    → HasNumbers volume.layout (parts_of volume image)
    → survey volume.layout (parts_of volume image) ≡ Ok met
    → (is_clear volume image met machine span ≡ true) ↔ Clear volume image machine span
