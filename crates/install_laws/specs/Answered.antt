-- What an installation's answer says, and what a refusal says.
use Rattle.std.specs.Prelude.{◌≡◌, ◌≤◌, ℕ, true, List, Option, Result, Ok, Err}
use Rattle.lilo_model.specs.Disks.{Image, Machine, DiskSector}
use Rattle.lilo_model.specs.Devices.{Device}
use Rattle.lilo_model.specs.MinixLayout.{Inode}
use Rattle.lilo_model.specs.MinixParts.{ZoneFault, parts_of}
use Rattle.lilo_model.specs.MinixNames.{names_in}
use Rattle.lilo_model.specs.MinixWalk.{Visit}
use Rattle.lilo_model.specs.MinixSurvey.{Met, survey_of}
use Rattle.lilo_model.specs.Apart.{Apart}
use Rattle.lilo_model.specs.Settled.{OwnNames, is_foreign, own_names}
use Rattle.lilo_model.specs.Plan.{Plan}
use Rattle.lilo_model.specs.Planned.{planned}
use Rattle.lilo_model.specs.PlanRefusal.{plan_at, own_places_check}
use Rattle.write_model.specs.Wish.{Refusal}
use Rattle.install_laws.specs.InstallVerdict.{InstallRefusal, Begun, Answer, may_settle, answer_of, install_checks, install_answer, install_status}

-- each check passed: the volume was surveyed, the configuration is apart, its own names may be replaced and settled, all
-- that it maps is accepted, there is room, and the map's own places are accepted too
pub record IsAnswered (image : Image) (machine : Machine) (walk : Inode → List (Result Visit ZoneFault))
    (room : OwnNames → Plan → Result (List DiskSector) Refusal) (time : ℕ) (begun : Begun)
    (answer : Answer) : Type 0 where
  pub met : List Met
  pub surveyed : survey_of (record { super = begun.volume.layout; parts = parts_of begun.volume image; walk = walk }) ≡ Ok met
  pub apart : Apart image machine begun.volume begun.config begun.boot
  pub names : OwnNames
  pub named : own_names (names_in begun.volume image) begun.config begun.boot (is_foreign (image begun.span.disk begun.span.start)) ≡ Ok names
  pub settles : may_settle image machine begun.volume walk begun.span names.map ≡ true
  pub plan : plan_at image machine begun.volume begun.span begun.config time ≡ Ok (planned image machine begun.volume begun.config time)
  pub places : List DiskSector
  pub chosen : room names (planned image machine begun.volume begun.config time) ≡ Ok places
  pub own : own_places_check begun.config machine places ≡ Ok tt
  pub is : answer ≡ answer_of image machine begun met (planned image machine begun.volume begun.config time)

-- an installation that is answered passed each of its checks
abbrev pub AnsweredLaw : Type 0
AnsweredLaw =
    (image : Image) (machine : Machine) (walk : Inode → List (Result Visit ZoneFault))
    (room : OwnNames → Plan → Result (List DiskSector) Refusal) (time : ℕ) (begun : Begun) (answer : Answer)
    → install_checks image machine walk room time begun ≡ Ok answer
    → IsAnswered image machine walk room time begun answer

-- one that is refused has a status from 2 to 5
abbrev pub RefusedLaw : Type 0
RefusedLaw =
    (image : Image) (machine : Machine) (root : Option Device) (path : List ℕ)
    (room : Begun → OwnNames → Plan → Result (List DiskSector) Refusal) (time : ℕ) (refusal : InstallRefusal)
    → install_answer image machine root path room time ≡ Err refusal
    → (2 ≤ install_status refusal) × (install_status refusal ≤ 5)
