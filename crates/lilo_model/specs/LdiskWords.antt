-- The commands of `ldisk` that only read a volume, and which arguments are paths of one (this project's own; the grammar
-- of all commands is ldisk_model's).
use Rattle.std.specs.Prelude.{ℕ, ◌==◌, Bool, not, ◌&&◌, List}
use Rattle.std.specs.List.{list_any}
use Rattle.lilo_model.specs.Devices.{Device}
use Rattle.lilo_model.specs.Words.{is_path}

-- what a command that only reads does
pub data Command : Type 0 where
  -- `get`: it prints the file at a path
  Get : (device : Device) (path : List ℕ) → Command
  -- `ls`: it lists the directory at a path
  Ls : (device : Device) (path : List ℕ) → Command

-- the device of a command
abbrev pub device_of : Command → Device
device_of (Get device path) = device
device_of (Ls device path) = device

-- whether an argument is a path of a volume: it begins with `/`, and has no zero byte
unfoldable pub is_volume_path : List ℕ → Bool
is_volume_path word = is_path word && not (list_any (λ byte. byte == 0) word)
