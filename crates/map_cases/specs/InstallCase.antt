-- What an installation and `-t` answer on disks that are data: the same checks, by a walk from number to number, so that
-- cases compute. (This project's own.)
use Rattle.std.specs.Prelude.{ℕ, List, ◌++◌, Option, Result}
use Rattle.lilo_model.specs.Checks.{◌>>=◌, with_fault}
use Rattle.lilo_model.specs.Disks.{Machine, DiskSector}
use Rattle.lilo_model.specs.Devices.{Device}
use Rattle.lilo_model.specs.MinixParts.{parts_of}
use Rattle.lilo_model.specs.MinixNames.{names_in}
use Rattle.lilo_model.specs.Settled.{OwnNames, is_foreign, own_names}
use Rattle.lilo_model.specs.Plan.{Plan}
use Rattle.lilo_model.specs.Planned.{planned}
use Rattle.lilo_model.specs.ConfVerdict.{conf_path}
use Rattle.lilo_model.specs.Verdict.{Verdict}
use Rattle.write_model.specs.Wish.{Refusal}
use Rattle.model_cases.specs.Sparse.{Patch, disks_of}
use Rattle.model_cases.specs.Surveys.{walk_of}
use Rattle.install_laws.specs.InstallVerdict.{InstallRefusal, Reading, BadName, NoRoom, Begun, Answer, begun_by, install_checks, install_room, test_room}
use Rattle.install_laws.specs.InstallVerdict.{answer_text, test_text, verdict_by}

-- what is answered, by the device that is named for the volume, the path of the configuration, and the places of the map
-- or why there is no room
abbrev pub case_answer : List Patch → Machine → Option Device → Option (List ℕ) → Result (List DiskSector) Refusal → Result Answer InstallRefusal
case_answer patches machine root path room = do
  begun ← with_fault Reading (begun_by (disks_of patches) machine root (conf_path path))
  install_checks (disks_of patches) machine (walk_of begun.volume.layout (parts_of begun.volume (disks_of patches)).zone) (λ names plan. room) 0 begun

-- the verdicts of an installation and of `-t` for an answer
abbrev pub both_verdicts : Result Answer InstallRefusal → Verdict × Verdict
both_verdicts answer = (verdict_by answer_text answer, verdict_by test_text answer)

-- the room for what is planned
abbrev pub case_room : List Patch → Machine → Option Device → Option (List ℕ) → (Begun → OwnNames → Plan → Result (List DiskSector) Refusal)
    → Result (List DiskSector) InstallRefusal
case_room patches machine root path room = do
  begun ← with_fault Reading (begun_by (disks_of patches) machine root (conf_path path))
  names ← with_fault BadName (own_names (names_in begun.volume (disks_of patches)) begun.config begun.boot
      (is_foreign (disks_of patches begun.span.disk begun.span.start)))
  with_fault NoRoom (room begun names (planned (disks_of patches) machine begun.volume begun.config 0))

-- that of an installation whose settling changes the disks so, and that of `-t`
abbrev pub settled_room : List Patch → List Patch → Machine → Option Device → Option (List ℕ) → Result (List DiskSector) InstallRefusal
settled_room patches settling machine root path =
    case_room patches machine root path (install_room (disks_of patches) machine (disks_of (patches ++ settling)) 0)

abbrev pub looked_room : List Patch → Machine → Option Device → Option (List ℕ) → Result (List DiskSector) InstallRefusal
looked_room patches machine root path = case_room patches machine root path (test_room (disks_of patches) machine 0)
