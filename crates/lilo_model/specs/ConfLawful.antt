-- What holds of each configuration that a lilo.conf may say (this project's own), once for all that take one.
use Rattle.std.specs.Prelude.{◌≡◌, ◌≢◌, ◌≤◌, ◌+◌, ℕ, List, [], ◌∷◌, length, flat_map, IsTrue, IsSome, IfSome, AllPairs, All, Option, None, Some}
use Rattle.lilo_model.specs.Devices.{Device, IsDevice, device_name}
use Rattle.lilo_model.specs.ConfValues.{name_limit, names_limit, is_path, is_name, is_text, is_shown}
use Rattle.lilo_model.specs.Conf.{Unsaid, DiskSection, ConfSection, Config, conf_limit, has_name}

-- the names of a section, label first
unfoldable pub names_of_section : ConfSection → List (List ℕ)
names_of_section section = section.label ∷ other section.alias
  where
    other : Option (List ℕ) → List (List ℕ)
    other None = []
    other (Some name) = name ∷ []

-- the names of a configuration, in order
unfoldable pub names_of_config : Config → List (List ℕ)
names_of_config config = flat_map names_of_section config.sections

-- a text that may be where a path is
pub record IsPath (text : List ℕ) : Type 0 where
  pub path : IsTrue (is_path text)
  pub size : length text ≤ conf_limit

-- a text that may be on a command line
pub record IsLineText (text : List ℕ) : Type 0 where
  pub plain : IsTrue (is_text text)
  pub size : length text ≤ conf_limit

-- a name of an entry
pub record IsEntryName (text : List ℕ) : Type 0 where
  pub name : IsTrue (is_name text)
  pub size : length text ≤ name_limit

-- a section of a kernel has what may be there
pub record IsImageSection (section : ConfSection) : Type 0 where
  pub path : IsPath section.path
  pub initrd : IfSome section.initrd IsPath
  pub append : IfSome section.append IsLineText
  pub literal : IfSome section.literal IsLineText
  pub root : IfSome section.root (λ root. root ≤ 65535)
  pub vga : IfSome section.vga (λ vga. vga ≤ 65535)
  pub table : section.table ≡ None

-- a section of another system, whose device is this one, has what may be there
pub record IsOtherSection (section : ConfSection) (device : Device) : Type 0 where
  pub named : IsDevice device
  pub name : section.path ≡ device_name device
  pub table : IfSome section.table IsDevice
  pub initrd : section.initrd ≡ None
  pub append : section.append ≡ None
  pub literal : section.literal ≡ None
  pub root : section.root ≡ None
  pub vga : section.vga ≡ None
  pub mount : section.mount ≡ Unsaid

-- what a section has by its kind
abbrev pub IsOfKind : ConfSection → Option Device → Type 0
IsOfKind section None = IsImageSection section
IsOfKind section (Some device) = IsOtherSection section device

-- a section that may be in a configuration
pub record IsLawfulSection (section : ConfSection) : Type 0 where
  pub kind : IsOfKind section section.other
  pub label : IsEntryName section.label
  pub alias : IfSome section.alias IsEntryName
  pub password : IfSome section.password (λ text. IsTrue (is_shown 31 text))
  pub fallback : IfSome section.fallback (λ text. IsTrue (is_shown 255 text))
  -- it hasn't both a lock and a fallback
  pub lock : IsTrue section.lock → section.fallback ≡ None
  -- it isn't restricted without a password
  pub restricted : IsTrue section.restricted → IsSome section.password

-- what may be said of a disk
pub record IsLawfulDisk (disk : DiskSection) : Type 0 where
  pub device : IsDevice disk.device
  pub whole : disk.device.partition ≡ 0
  pub bios : IfSome disk.bios (λ number. number ≡ 128 + disk.device.disk)
  pub sectors : IfSome disk.sectors (λ number. (1 ≤ number) × (number ≤ 63))
  pub heads : IfSome disk.heads (λ number. (1 ≤ number) × (number ≤ 255))

-- a configuration that may be carried out
pub record IsLawful (config : Config) : Type 0 where
  pub boot : IfSome config.boot IsDevice
  pub map : IsPath config.map
  pub install : IfSome config.install IsPath
  pub backup : IfSome config.backup IsPath
  pub force_backup : IfSome config.force_backup IsPath
  pub message : IfSome config.message IsPath
  pub delay : config.delay ≤ 65534
  pub timeout : IfSome config.timeout (λ timeout. timeout ≤ 65534)
  -- it hasn't both backups
  pub one_backup : IsSome config.backup → config.force_backup ≡ None
  pub disks : All IsLawfulDisk config.disks
  -- no two of what is said of disks speak of one
  pub disks_apart : AllPairs (λ one other. one.device.disk ≢ other.device.disk) config.disks
  pub some : 1 ≤ length config.sections
  pub sections : All IsLawfulSection config.sections
  pub few_names : length (names_of_config config) ≤ names_limit
  -- no name appears twice
  pub names_apart : AllPairs (λ one other. one ≢ other) (names_of_config config)
  pub default_name : IfSome config.default_name (λ name. IsTrue (has_name name (names_of_config config)))
