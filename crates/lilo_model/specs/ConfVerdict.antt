-- What a part of a run reads before its own work: the volume, the file of its configuration, what that says, and the
-- device that is to boot. Then what `-q` without a device prints. One list of checks, in order, of which the first
-- refusal decides. (This project's own.)
use Rattle.std.specs.Prelude.{ℕ, List, codes, unwrap_or, Option, None, Some, Result, Ok, Err}
use Rattle.lilo_model.specs.Checks.{◌>>=◌, with_fault}
use Rattle.lilo_model.specs.Conf.{conf_at}
use Rattle.lilo_model.specs.Devices.{Device}
use Rattle.lilo_model.specs.Disks.{Image, Machine, Span}
use Rattle.lilo_model.specs.MinixFind as find
use Rattle.lilo_model.specs.MinixFind.{TreeFault, file_at}
use Rattle.lilo_model.specs.MinixParts.{parts_of, volume_at}
use Rattle.lilo_model.specs.Partitions.{device_fault, span_of}
use Rattle.lilo_model.specs.Refusal as refusals
use Rattle.lilo_model.specs.Refusal.{DeviceFault, Refusal}
use Rattle.lilo_model.specs.Verdict.{Verdict, verdict_of, names_text}
use Rattle.lilo_model.specs.VolumeSearch as search
use Rattle.lilo_model.specs.VolumeSearch.{Located, VolumeFault, volume_place}

-- how a missing volume is reported
abbrev pub volume_refusal : VolumeFault → Refusal
volume_refusal search.NoVolume = refusals.NoVolume
volume_refusal (search.Place fault) = refusals.Device fault

-- how a path that is refused is reported
abbrev pub path_refusal : List ℕ → TreeFault → Refusal
path_refusal path (find.NotFound position) = refusals.Missing path
path_refusal path (find.Zone fault) = refusals.Layout
path_refusal path fault = refusals.BadPath path

-- the bytes of the file of a path, on the volume that lies here
unfoldable pub file_on : Image → Span → List ℕ → Result (List ℕ) Refusal
file_on image span path = do
  volume ← with_fault (λ fault. refusals.Layout) (volume_at image span)
  with_fault (path_refusal path) (file_at volume.layout (parts_of volume image) path)

-- the text of a configuration, and the device of the volume that has it
pub record ConfFile : Type 0 where
  pub device : Device
  pub text : List ℕ

-- the configuration's file of a part, by the device that is named for the volume, and the path
unfoldable pub conf_file : Image → Machine → Option Device → List ℕ → Result ConfFile Refusal
conf_file image machine root path = do
  place ← with_fault volume_refusal (volume_place image machine root)
  text ← file_on image place.span path
  Ok (record { device = place.device; text = text })

-- the path of a part's configuration
abbrev pub conf_path : Option (List ℕ) → List ℕ
conf_path config = unwrap_or config (codes "/etc/lilo.conf")

-- the device that a part's configuration boots: the volume's, where it names none
unfoldable pub conf_device : Image → Machine → Option Device → List ℕ → Result Device Refusal
conf_device image machine root path = do
  file ← conf_file image machine root path
  config ← with_fault refusals.Config (conf_at file.text)
  Ok (unwrap_or config.boot file.device)

-- where a device lies, as commands report it
unfoldable pub place_at : Image → Machine → Device → Result Span DeviceFault
place_at image machine device = with_fault device_fault (span_of image machine device)

-- what `-q` without a device prints
unfoldable pub conf_names_text : Image → Machine → Option Device → List ℕ → Result (List ℕ) Refusal
conf_names_text image machine root path = do
  device ← conf_device image machine root path
  names_text image machine (place_at image machine device)

-- its verdict
unfoldable pub conf_query_verdict : Image → Machine → Option Device → List ℕ → Verdict
conf_query_verdict image machine root path = verdict_of (conf_names_text image machine root path)
