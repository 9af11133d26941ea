-- The options of lilo.conf(5) that are distinguished, over several releases of LILO: their names and sense are
-- that page's. Which of them are taken, which are refused by name, what values they may have and where they may
-- be is this project's own profile.
use Rattle.std.specs.Prelude.{ℕ, ◌==◌, Bool, true, false, List, [], ◌∷◌, codes, find, bytes_eq, unwrap_or, Option, None, Some}

pub data Opt : Type 0 where
  Boot : Opt
  Map : Opt
  Install : Opt
  Backup : Opt
  ForceBackup : Opt
  Message : Opt
  Compact : Opt
  Linear : Opt
  Lba32 : Opt
  Prompt : Opt
  Nowarn : Opt
  IgnoreTable : Opt
  FixTable : Opt
  Default : Opt
  Delay : Opt
  Timeout : Opt
  Verbose : Opt
  Disk : Opt
  Bios : Opt
  Sectors : Opt
  Heads : Opt
  Cylinders : Opt
  Image : Opt
  OtherDevice : Opt
  Label : Opt
  Alias : Opt
  Initrd : Opt
  Root : Opt
  ReadOnly : Opt
  ReadWrite : Opt
  Append : Opt
  Literal : Opt
  Vga : Opt
  Password : Opt
  Restricted : Opt
  Optional : Opt
  Lock : Opt
  Fallback : Opt
  Table : Opt
  Loader : Opt
  Serial : Opt
  Keytable : Opt
  Change : Opt
  ChangeRules : Opt
  Ramdisk : Opt
  Disktab : Opt
  SingleKey : Opt
  Bitmap : Opt
  BmpColors : Opt
  BmpTable : Opt
  BmpTimer : Opt
  Unsafe : Opt
  Range : Opt
  Partition : Opt
  MapDrive : Opt
  -- a word that is no option
  Other : Opt

-- the name of an option, and what is printed for a word that is none
unfoldable pub opt_name : Opt → List ℕ
opt_name Boot = codes "boot"
opt_name Map = codes "map"
opt_name Install = codes "install"
opt_name Backup = codes "backup"
opt_name ForceBackup = codes "force-backup"
opt_name Message = codes "message"
opt_name Compact = codes "compact"
opt_name Linear = codes "linear"
opt_name Lba32 = codes "lba32"
opt_name Prompt = codes "prompt"
opt_name Nowarn = codes "nowarn"
opt_name IgnoreTable = codes "ignore-table"
opt_name FixTable = codes "fix-table"
opt_name Default = codes "default"
opt_name Delay = codes "delay"
opt_name Timeout = codes "timeout"
opt_name Verbose = codes "verbose"
opt_name Disk = codes "disk"
opt_name Bios = codes "bios"
opt_name Sectors = codes "sectors"
opt_name Heads = codes "heads"
opt_name Cylinders = codes "cylinders"
opt_name Image = codes "image"
opt_name OtherDevice = codes "other"
opt_name Label = codes "label"
opt_name Alias = codes "alias"
opt_name Initrd = codes "initrd"
opt_name Root = codes "root"
opt_name ReadOnly = codes "read-only"
opt_name ReadWrite = codes "read-write"
opt_name Append = codes "append"
opt_name Literal = codes "literal"
opt_name Vga = codes "vga"
opt_name Password = codes "password"
opt_name Restricted = codes "restricted"
opt_name Optional = codes "optional"
opt_name Lock = codes "lock"
opt_name Fallback = codes "fallback"
opt_name Table = codes "table"
opt_name Loader = codes "loader"
opt_name Serial = codes "serial"
opt_name Keytable = codes "keytable"
opt_name Change = codes "change"
opt_name ChangeRules = codes "change-rules"
opt_name Ramdisk = codes "ramdisk"
opt_name Disktab = codes "disktab"
opt_name SingleKey = codes "single-key"
opt_name Bitmap = codes "bitmap"
opt_name BmpColors = codes "bmp-colors"
opt_name BmpTable = codes "bmp-table"
opt_name BmpTimer = codes "bmp-timer"
opt_name Unsafe = codes "unsafe"
opt_name Range = codes "range"
opt_name Partition = codes "partition"
opt_name MapDrive = codes "map-drive"
opt_name Other = codes "text"

-- all options
unfoldable pub all_options : List Opt
all_options =
    Boot ∷ Map ∷ Install ∷ Backup ∷ ForceBackup ∷ Message ∷ Compact ∷
    Linear ∷ Lba32 ∷ Prompt ∷ Nowarn ∷ IgnoreTable ∷ FixTable ∷ Default ∷
    Delay ∷ Timeout ∷ Verbose ∷ Disk ∷ Bios ∷ Sectors ∷ Heads ∷
    Cylinders ∷ Image ∷ OtherDevice ∷ Label ∷ Alias ∷ Initrd ∷ Root ∷
    ReadOnly ∷ ReadWrite ∷ Append ∷ Literal ∷ Vga ∷ Password ∷ Restricted ∷
    Optional ∷ Lock ∷ Fallback ∷ Table ∷ Loader ∷ Serial ∷ Keytable ∷
    Change ∷ ChangeRules ∷ Ramdisk ∷ Disktab ∷ SingleKey ∷ Bitmap ∷ BmpColors ∷
    BmpTable ∷ BmpTimer ∷ Unsafe ∷ Range ∷ Partition ∷ MapDrive ∷ []

-- the option of a name
unfoldable pub option_at : List ℕ → Opt
option_at word = unwrap_or (find (λ option. bytes_eq word (opt_name option)) all_options) Other

-- the place of an option among all, counted from 0
unfoldable pub opt_number : Opt → ℕ
opt_number Boot = 0
opt_number Map = 1
opt_number Install = 2
opt_number Backup = 3
opt_number ForceBackup = 4
opt_number Message = 5
opt_number Compact = 6
opt_number Linear = 7
opt_number Lba32 = 8
opt_number Prompt = 9
opt_number Nowarn = 10
opt_number IgnoreTable = 11
opt_number FixTable = 12
opt_number Default = 13
opt_number Delay = 14
opt_number Timeout = 15
opt_number Verbose = 16
opt_number Disk = 17
opt_number Bios = 18
opt_number Sectors = 19
opt_number Heads = 20
opt_number Cylinders = 21
opt_number Image = 22
opt_number OtherDevice = 23
opt_number Label = 24
opt_number Alias = 25
opt_number Initrd = 26
opt_number Root = 27
opt_number ReadOnly = 28
opt_number ReadWrite = 29
opt_number Append = 30
opt_number Literal = 31
opt_number Vga = 32
opt_number Password = 33
opt_number Restricted = 34
opt_number Optional = 35
opt_number Lock = 36
opt_number Fallback = 37
opt_number Table = 38
opt_number Loader = 39
opt_number Serial = 40
opt_number Keytable = 41
opt_number Change = 42
opt_number ChangeRules = 43
opt_number Ramdisk = 44
opt_number Disktab = 45
opt_number SingleKey = 46
opt_number Bitmap = 47
opt_number BmpColors = 48
opt_number BmpTable = 49
opt_number BmpTimer = 50
opt_number Unsafe = 51
opt_number Range = 52
opt_number Partition = 53
opt_number MapDrive = 54
opt_number Other = 55

-- whether two options are the same
abbrev pub same_option : Opt → Opt → Bool
same_option one other = opt_number one == opt_number other

-- what an option takes after an equals sign
pub data Takes : Type 0 where
  -- it takes no value
  Nothing : Takes
  ADevice : Takes
  AWholeDisk : Takes
  APath : Takes
  AName : Takes
  ANumber : (low : ℕ) → (high : ℕ) → Takes
  -- the number that a BIOS gives to the disk of its group
  ABios : Takes
  -- a device, or the hexadecimal number of one
  ARoot : Takes
  AText : Takes
  AVideo : Takes
  -- a text that can be typed at the prompt, up to so many bytes
  AShown : (most : ℕ) → Takes
  -- it is an option of LILO that isn't taken here
  LeftOut : Takes
  -- it is no option
  Unknown : Takes

unfoldable pub takes_of : Opt → Takes
takes_of Boot = ADevice
takes_of Map = APath
takes_of Install = APath
takes_of Backup = APath
takes_of ForceBackup = APath
takes_of Message = APath
takes_of Compact = Nothing
takes_of Linear = Nothing
takes_of Lba32 = Nothing
takes_of Prompt = Nothing
takes_of Nowarn = Nothing
takes_of IgnoreTable = Nothing
takes_of FixTable = Nothing
takes_of Default = AName
takes_of Delay = ANumber 0 65534
takes_of Timeout = ANumber 0 65534
takes_of Verbose = ANumber 0 65535
takes_of Disk = AWholeDisk
takes_of Bios = ABios
takes_of Sectors = ANumber 1 63
takes_of Heads = ANumber 1 255
takes_of Cylinders = ANumber 1 65535
takes_of Image = APath
takes_of OtherDevice = ADevice
takes_of Label = AName
takes_of Alias = AName
takes_of Initrd = APath
takes_of Root = ARoot
takes_of ReadOnly = Nothing
takes_of ReadWrite = Nothing
takes_of Append = AText
takes_of Literal = AText
takes_of Vga = AVideo
takes_of Password = AShown 31
takes_of Restricted = Nothing
takes_of Optional = Nothing
takes_of Lock = Nothing
takes_of Fallback = AShown 255
takes_of Table = ADevice
takes_of Loader = APath
takes_of Serial = LeftOut
takes_of Keytable = LeftOut
takes_of Change = LeftOut
takes_of ChangeRules = LeftOut
takes_of Ramdisk = LeftOut
takes_of Disktab = LeftOut
takes_of SingleKey = LeftOut
takes_of Bitmap = LeftOut
takes_of BmpColors = LeftOut
takes_of BmpTable = LeftOut
takes_of BmpTimer = LeftOut
takes_of Unsafe = LeftOut
takes_of Range = LeftOut
takes_of Partition = LeftOut
takes_of MapDrive = LeftOut
takes_of Other = Unknown

-- where options are: in the part before all sections, in an image's section, or in another system's
pub data Part : Type 0 where
  GlobalPart : Part
  ImagePart : Part
  OtherPart : Part

-- where an option may be that belongs to a part
pub record Places : Type 0 where
  pub in_global : Bool
  pub in_image : Bool
  pub in_other : Bool

unfoldable pub places_of : Opt → Places
places_of Boot = record { in_global = true; in_image = false; in_other = false }
places_of Map = record { in_global = true; in_image = false; in_other = false }
places_of Install = record { in_global = true; in_image = false; in_other = false }
places_of Backup = record { in_global = true; in_image = false; in_other = false }
places_of ForceBackup = record { in_global = true; in_image = false; in_other = false }
places_of Message = record { in_global = true; in_image = false; in_other = false }
places_of Compact = record { in_global = true; in_image = false; in_other = false }
places_of Linear = record { in_global = true; in_image = false; in_other = false }
places_of Lba32 = record { in_global = true; in_image = false; in_other = false }
places_of Prompt = record { in_global = true; in_image = false; in_other = false }
places_of Nowarn = record { in_global = true; in_image = false; in_other = false }
places_of IgnoreTable = record { in_global = true; in_image = false; in_other = false }
places_of FixTable = record { in_global = true; in_image = false; in_other = false }
places_of Default = record { in_global = true; in_image = false; in_other = false }
places_of Delay = record { in_global = true; in_image = false; in_other = false }
places_of Timeout = record { in_global = true; in_image = false; in_other = false }
places_of Verbose = record { in_global = true; in_image = false; in_other = false }
places_of Disk = record { in_global = true; in_image = false; in_other = false }
places_of Label = record { in_global = false; in_image = true; in_other = true }
places_of Alias = record { in_global = false; in_image = true; in_other = true }
places_of Initrd = record { in_global = true; in_image = true; in_other = false }
places_of Root = record { in_global = true; in_image = true; in_other = false }
places_of ReadOnly = record { in_global = true; in_image = true; in_other = false }
places_of ReadWrite = record { in_global = true; in_image = true; in_other = false }
places_of Append = record { in_global = true; in_image = true; in_other = false }
places_of Literal = record { in_global = false; in_image = true; in_other = false }
places_of Vga = record { in_global = true; in_image = true; in_other = false }
places_of Password = record { in_global = true; in_image = true; in_other = true }
places_of Restricted = record { in_global = true; in_image = true; in_other = true }
places_of Optional = record { in_global = true; in_image = true; in_other = true }
places_of Lock = record { in_global = true; in_image = true; in_other = true }
places_of Fallback = record { in_global = true; in_image = true; in_other = true }
places_of Table = record { in_global = false; in_image = false; in_other = true }
places_of Loader = record { in_global = false; in_image = false; in_other = true }
places_of _ = record { in_global = false; in_image = false; in_other = false }

-- whether an option may be in a part
unfoldable pub stands_in : Part → Opt → Bool
stands_in GlobalPart option = (places_of option).in_global
stands_in ImagePart option = (places_of option).in_image
stands_in OtherPart option = (places_of option).in_other

-- whether an option opens a section
unfoldable pub opens : Opt → Bool
opens Image = true
opens OtherDevice = true
opens _ = false

-- whether an option says something of the disk of its group
unfoldable pub is_of_disk : Opt → Bool
is_of_disk Bios = true
is_of_disk Sectors = true
is_of_disk Heads = true
is_of_disk Cylinders = true
is_of_disk _ = false

-- whether an option is a name of a section
unfoldable pub is_of_name : Opt → Bool
is_of_name Label = true
is_of_name Alias = true
is_of_name Default = true
is_of_name _ = false

-- the option that one excludes
unfoldable pub excluded_by : Opt → Option Opt
excluded_by Linear = Some Lba32
excluded_by Lba32 = Some Linear
excluded_by ReadOnly = Some ReadWrite
excluded_by ReadWrite = Some ReadOnly
excluded_by Backup = Some ForceBackup
excluded_by ForceBackup = Some Backup
excluded_by _ = None
