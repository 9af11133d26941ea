-- What is read step by step is what the model reads.
use Rattle.std.specs.Prelude.{◌≡◌, ℕ, List, Option, Result}
use Rattle.lilo_model.specs.Checks.{◌>>=◌, with_fault}
use Rattle.lilo_model.specs.Devices.{Device}
use Rattle.lilo_model.specs.Disks.{Image, Machine, DiskSector}
use Rattle.lilo_model.specs.Plan.{Plan}
use Rattle.lilo_model.specs.Settled.{OwnNames}
use Rattle.write_model.specs.Wish as rooms
use Rattle.install_laws.specs.InstallVerdict as model
use Rattle.install_laws.specs.InstallVerdict.{Reading, install_answer, test_text, test_verdict, verdict_by}
use Rattle.install_begin.specs.Begin.{answer_on, begun_at, test_on}

-- the model's answer is that of what was read, whatever room there is
abbrev pub AnswerLaw : Type 0
AnswerLaw =
    (image : Image) (machine : Machine) (root : Option Device) (path : List ℕ)
    (room : model.Begun → OwnNames → Plan → Result (List DiskSector) rooms.Refusal) (time : ℕ)
    → install_answer image machine root path room time
    ≡ (with_fault Reading (begun_at image machine root path) >>= answer_on room image machine time)

-- so its verdict of a test is
abbrev pub TestLaw : Type 0
TestLaw = (image : Image) (machine : Machine) (root : Option Device) (path : List ℕ) (time : ℕ)
    → test_verdict image machine root path time
    ≡ verdict_by test_text (with_fault Reading (begun_at image machine root path) >>= test_on image machine time)
