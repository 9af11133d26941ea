-- What an installation answers, by the image at its entry (this project's own).
use Rattle.std.specs.Prelude.{◌≡◌, ℕ}
use Rattle.lilo_model.specs.Disks.{Image, Machine}
use Rattle.lilo_model.specs.MinixParts.{parts_of}
use Rattle.lilo_model.specs.MinixWalk.{visits}
use Rattle.install_laws.specs.InstallVerdict.{Begun, install_checks, install_room}
use Rattle.install_order.specs.Begins.{IsBegun}
use Rattle.install_order.specs.declared.examination.Examined.{Examined}
use Rattle.install_run.specs.Answers.{IsSettledFrom, settled_answer}
use Rattle.install_run.specs.Keeps.{DevicesLieOutside, DevicesStay, IsSteady}

-- Where nothing that is read rests on what settling changes, the checks after it pass or refuse by what it leaves as they do by the image at
-- the entry: so the answer is the model's, by that image. The room is that of what settling leaves.
abbrev pub EntryAnswerLaw : Type 0
EntryAnswerLaw =
    (image : Image) (machine : Machine) (settled : Image) (begun : Begun) (time : ℕ)
    → IsSettledFrom image machine begun settled → IsSteady image settled machine begun
    → settled_answer image machine settled begun time
    ≡ install_checks image machine (visits begun.volume.layout (parts_of begun.volume image)) (install_room image machine settled time begun) time begun

-- Devices that lie where tables outside the volume say stay there as names are settled.
abbrev pub DevicesStayLaw : Type 0
DevicesStayLaw =
    (image : Image) (machine : Machine) (settled : Image) (begun : Begun) (found : Examined)
    → IsBegun image machine begun found settled → DevicesLieOutside image machine begun → DevicesStay image settled machine begun
