-- What an installation and `-t` begin with, step by step, and what `-t` answers by it. (This project's own.)
use Rattle.std.specs.Prelude.{ℕ, List, Option, Some, Result, Ok}
use Rattle.lilo_model.specs.Checks.{◌>>=◌, with_fault}
use Rattle.lilo_model.specs.Conf.{Config, conf_at}
use Rattle.lilo_model.specs.ConfVerdict.{volume_refusal, conf_file, place_at}
use Rattle.lilo_model.specs.Devices.{Device}
use Rattle.lilo_model.specs.Disks.{Image, Machine, Span, DiskSector}
use Rattle.lilo_model.specs.MinixParts.{Volume, parts_of, volume_at}
use Rattle.lilo_model.specs.MinixWalk.{visits}
use Rattle.lilo_model.specs.Plan.{Plan}
use Rattle.lilo_model.specs.Refusal as refusals
use Rattle.lilo_model.specs.Refusal.{Refusal}
use Rattle.lilo_model.specs.Settled.{OwnNames}
use Rattle.lilo_model.specs.VolumeSearch.{Located, volume_place}
use Rattle.write_model.specs.Wish as rooms
use Rattle.install_laws.specs.InstallVerdict as model
use Rattle.install_laws.specs.InstallVerdict.{Answer, InstallRefusal, Reading, boot_device, install_checks, test_room}

-- a configuration with its boot device
pub record Named : Type 0 where
  pub config : Config
  pub boot : Device

-- where the volume lies, the configuration, and where its boot device lies
pub record Begun : Type 0 where
  pub volume : Span
  pub named : Named
  pub span : Span

-- a configuration, with the volume's device in it where it names none to boot
abbrev pub named_by : Config → Device → Named
named_by config device = record {
  config = record config { boot = Some (boot_device config device) };
  boot = boot_device config device;
}

-- what a text says, by the volume's device
abbrev pub named_in : List ℕ → Device → Result Named Refusal
named_in text device = with_fault refusals.Config (conf_at text) >>= λ config. Ok (named_by config device)

-- the configuration of a part
unfoldable pub named_conf : Image → Machine → Option Device → List ℕ → Result Named Refusal
named_conf image machine root path = do
  file ← conf_file image machine root path
  named_in file.text file.device

-- where the boot device of a configuration lies
abbrev pub placed_by : Image → Machine → Span → Named → Result Begun Refusal
placed_by image machine volume named = do
  span ← with_fault refusals.Device (place_at image machine named.boot)
  Ok (record { volume = volume; named = named; span = span })

-- with the configuration where its boot device lies, where the volume lies here
unfoldable pub begun_on : Image → Machine → Option Device → List ℕ → Located → Result Begun Refusal
begun_on image machine root path place = do
  named ← named_conf image machine root path
  placed_by image machine place.span named

-- the same where the volume is looked for
unfoldable pub begun_at : Image → Machine → Option Device → List ℕ → Result Begun Refusal
begun_at image machine root path = do
  place ← with_fault volume_refusal (volume_place image machine root)
  begun_on image machine root path place

-- the same with a volume's superblock
abbrev pub begun_with : Begun → Volume → model.Begun
begun_with begun volume = record { volume = volume; config = begun.named.config; boot = begun.named.boot; span = begun.span }

-- what is answered then, by the room that there is for what is planned
abbrev pub answer_on : (model.Begun → OwnNames → Plan → Result (List DiskSector) rooms.Refusal) → Image → Machine → ℕ → Begun → Result Answer InstallRefusal
answer_on room image machine time begun = do
  volume ← with_fault (λ fault. Reading refusals.Layout) (volume_at image begun.volume)
  install_checks image machine (visits volume.layout (parts_of volume image)) (room (begun_with begun volume)) time (begun_with begun volume)

-- what `-t` answers
unfoldable pub test_on : Image → Machine → ℕ → Begun → Result Answer InstallRefusal
test_on image machine time begun = answer_on (test_room image machine time) image machine time begun
