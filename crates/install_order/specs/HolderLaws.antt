-- The tests by which an installation settles, by the model's definitions.
use Rattle.std.specs.Prelude.{◌≡◌, ◌↔◌, ℕ, true, List}
use Rattle.lilo_model.specs.Disks.{Image, Machine, Span}
use Rattle.lilo_model.specs.MinixNames.{IsSound}
use Rattle.lilo_model.specs.MinixParts.{Volume, parts_of}
use Rattle.lilo_model.specs.MinixWalk.{visits}
use Rattle.lilo_model.specs.Settled.{Holds, Finishes}
use Rattle.minix_sound_laws.specs.Laws.{HasNumbers}
use Rattle.install_laws.specs.InstallVerdict.{is_holder, is_to_finish}

-- the file at a path is found to hold the table of a boot sector exactly where it Holds it
abbrev pub HolderLaw : Type 0
HolderLaw =
    (volume : Volume) (image : Image) (machine : Machine) (span : Span) (path : List (List ℕ))
    → HasNumbers volume.layout (parts_of volume image) → IsSound volume image
    → (is_holder image machine volume (visits volume.layout (parts_of volume image)) span path ≡ true) ↔ Holds image machine volume span path

-- a rename is finished exactly where the Holder is `map~` alone
abbrev pub FinishLaw : Type 0
FinishLaw =
    (volume : Volume) (image : Image) (machine : Machine) (span : Span) (path : List (List ℕ))
    → HasNumbers volume.layout (parts_of volume image) → IsSound volume image
    → Finishes image machine volume span path (is_to_finish image machine volume (visits volume.layout (parts_of volume image)) span path)
