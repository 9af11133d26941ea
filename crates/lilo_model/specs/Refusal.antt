-- The exit status and the line of each refusal of `lilo` that a command can meet (this project's own).
use Rattle.std.specs.Prelude.{ℕ, List, ◌++◌, codes}
use Rattle.lilo_model.specs.ConfRefusal.{ConfRefusal, config_line}
use Rattle.lilo_model.specs.Reason.{Reason, reason_text}

-- why a device has no span
pub data DeviceFault : Type 0 where
  -- its disk is absent
  NoDisk : DeviceFault
  -- its disk has no partition of that number
  NoPartition : DeviceFault
  -- the partition table of its disk is refused
  BadTable : DeviceFault

-- why a command is refused
pub data Refusal : Type 0 where
  -- of a device
  Device : DeviceFault → Refusal
  -- of a boot sector that isn't of this format
  NotOurs : Refusal
  -- of a boot, or of what a map's sectors say
  Boot : Reason → Refusal
  -- no device has a volume
  NoVolume : Refusal
  -- the volume's superblock is refused, or a zone or an inode on the way to a file
  Layout : Refusal
  -- there is no file of this path
  Missing : (path : List ℕ) → Refusal
  -- this path leads to no regular file, or can't be followed
  BadPath : (path : List ℕ) → Refusal
  -- of a configuration's text
  Config : ConfRefusal → Refusal

-- the text of a device's refusal
abbrev pub device_text : DeviceFault → List ℕ
device_text NoDisk = codes "no disk"
device_text NoPartition = codes "no partition"
device_text BadTable = codes "table"

-- the exit status
abbrev pub refusal_status : Refusal → ℕ
refusal_status (Device fault) = 3
refusal_status NotOurs = 6
refusal_status (Boot reason) = 7
refusal_status NoVolume = 3
refusal_status Layout = 3
refusal_status (Missing path) = 3
refusal_status (BadPath path) = 3
refusal_status (Config refusal) = 2

-- what is printed
unfoldable pub refusal_line : Refusal → List ℕ
refusal_line (Device fault) = codes "lilo: volume: " ++ device_text fault ++ codes "\n"
refusal_line NotOurs = codes "lilo: not ours\n"
refusal_line (Boot reason) = codes "lilo: boot: " ++ reason_text reason ++ codes "\n"
refusal_line NoVolume = codes "lilo: volume: no volume\n"
refusal_line Layout = codes "lilo: volume: layout\n"
refusal_line (Missing path) = codes "lilo: volume: missing " ++ path ++ codes "\n"
refusal_line (BadPath path) = codes "lilo: volume: path " ++ path ++ codes "\n"
refusal_line (Config refusal) = codes "lilo: config: " ++ config_line refusal ++ codes "\n"
