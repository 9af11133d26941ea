-- lilo.conf: what a configuration says, or the first thing that refuses it. The names and the sense of the options
-- are those of lilo.conf(5); the ranges, the order of refusals and what is in effect where a section and the
-- global part both speak is this project's own.
use Rattle.std.specs.Prelude.{◌≡◌, ◌≤◌, ℕ, ◌+◌, ◌==◌, nat_lt, nat_le, min, max, Bool, true, false, not, ◌&&◌, ◌||◌, if◌then◌else◌, List, [], ◌∷◌, ◌++◌, length}
use Rattle.std.specs.Prelude.{map, flat_map, filter_map, bytes_eq, codes, unwrap_or, is_some, is_none, Option, None, Some, Result, Ok, Err}
use Rattle.std.specs.List.{list_any, list_all, take_while}
use Rattle.std.specs.Option.{option_map, option_and_then}
use Rattle.lilo_model.specs.Checks.{◌>>=◌, require, no_fault}
use Rattle.lilo_model.specs.Slots.{Mode, ChsMode, LinearMode, Lba32Mode}
use Rattle.lilo_model.specs.VideoMode.{video_mode}
use Rattle.lilo_model.specs.Devices.{Device, device_at}
use Rattle.lilo_model.specs.ConfOptions as options
use Rattle.lilo_model.specs.ConfOptions.{Opt, Part, GlobalPart, ImagePart, OtherPart, opens, is_of_disk, same_option, stands_in}
use Rattle.lilo_model.specs.ConfValues.{name_limit, names_limit, is_name, last_part, number_between, root_at}
use Rattle.lilo_model.specs.ConfRefusal as reasons
use Rattle.lilo_model.specs.ConfRefusal.{ConfReason, ConfRefusal}
use Rattle.lilo_model.specs.ConfSettings.{Setting, text_settings}
use Rattle.lilo_model.specs.ConfJudge.{given_text, setting_of, has_option, part_kind, settings_refusal}

-- how a kernel is to mount its root
pub data Mount : Type 0 where
  Unsaid : Mount
  ReadOnlyMount : Mount
  ReadWriteMount : Mount

-- what is said of a disk
pub record DiskSection : Type 0 where
  pub device : Device
  pub bios : Option ℕ
  pub sectors : Option ℕ
  pub heads : Option ℕ
  pub line : ℕ

-- a section: a kernel's, or another system's
pub record ConfSection : Type 0 where
  -- the device of another system
  pub other : Option Device
  -- the path of a kernel, or the name of that device as it is written
  pub path : List ℕ
  pub label : List ℕ
  pub alias : Option (List ℕ)
  pub initrd : Option (List ℕ)
  pub root : Option ℕ
  pub mount : Mount
  pub append : Option (List ℕ)
  pub literal : Option (List ℕ)
  pub vga : Option ℕ
  pub password : Option (List ℕ)
  pub restricted : Bool
  pub optional : Bool
  pub lock : Bool
  pub fallback : Option (List ℕ)
  pub table : Option Device
  pub line : ℕ

-- what a configuration says
pub record Config : Type 0 where
  pub boot : Option Device
  pub map : List ℕ
  pub install : Option (List ℕ)
  pub backup : Option (List ℕ)
  pub force_backup : Option (List ℕ)
  pub compact : Bool
  pub mode : Mode
  pub default_name : Option (List ℕ)
  pub delay : ℕ
  pub timeout : Option ℕ
  pub prompt : Bool
  pub message : Option (List ℕ)
  pub disks : List DiskSection
  pub sections : List ConfSection

-- settings cut at those that open sections
pub record ConfParts : Type 0 where
  -- those before all sections
  pub front : List Setting
  -- those of each section, the one that opens it at their start
  pub sections : List (List Setting)

-- the parts with one more setting before them
unfoldable pub with_front : Setting → ConfParts → ConfParts
with_front setting parts =
    if opens setting.option
    then record { front = []; sections = (setting ∷ parts.front) ∷ parts.sections }
    else record { front = setting ∷ parts.front; sections = parts.sections }

-- the parts of settings
unfoldable pub parts_of : List Setting → ConfParts
parts_of [] = record { front = []; sections = [] }
parts_of (setting ∷ settings) = with_front setting (parts_of settings)

-- the value of an option among settings
unfoldable pub value_of : Opt → List Setting → Option (List ℕ)
value_of option settings = option_and_then (λ setting. given_text setting.given) (setting_of option settings)

-- the line of an option among settings, or 0
unfoldable pub line_of : Opt → List Setting → ℕ
line_of option settings = unwrap_or (option_map (λ setting. setting.line) (setting_of option settings)) 0

-- the value that is in effect in a section: its own, or else the global one where the option may be there
unfoldable pub effect_value : Opt → List Setting → List Setting → Option (List ℕ)
effect_value option front section = own (value_of option section)
  where
    own : Option (List ℕ) → Option (List ℕ)
    own (Some text) = Some text
    own None = if stands_in (part_kind section) option then value_of option front else None

-- whether an option without a value is in effect in a section
unfoldable pub effect_flag : Opt → List Setting → List Setting → Bool
effect_flag option front section =
    has_option option section || (stands_in (part_kind section) option && has_option option front)

-- the option that opens a section, its line and its text
unfoldable pub opener_of : List Setting → Opt
opener_of [] = options.Other
opener_of (setting ∷ _) = setting.option

unfoldable pub opening_line : List Setting → ℕ
opening_line [] = 0
opening_line (setting ∷ _) = setting.line

unfoldable pub section_path : List Setting → List ℕ
section_path [] = []
section_path (setting ∷ _) = unwrap_or (given_text setting.given) []

-- the name of a section: its label, or else the last part of its path
unfoldable pub section_label : List Setting → List ℕ
section_label section = unwrap_or (value_of options.Label section) (last_part (section_path section))

-- what is wrong with a name that is taken from a path
unfoldable pub label_reason : List Setting → Option ConfReason
label_reason section =
    if is_some (value_of options.Label section) then None else
    if not (is_name (last_part (section_path section))) then Some reasons.BadValue else
    if nat_lt name_limit (length (last_part (section_path section))) then Some reasons.NameTooLong else
    None

-- the line of a fallback that a lock excludes: that of the later one where both are the section's own
unfoldable pub excludes_line : List Setting → ℕ
excludes_line section =
    if has_option options.Lock section && has_option options.Fallback section
    then max (line_of options.Lock section) (line_of options.Fallback section)
    else opening_line section

-- whether a section has both a lock and a fallback in effect
unfoldable pub is_locked_fallback : List Setting → List Setting → Bool
is_locked_fallback front section =
    effect_flag options.Lock front section && is_some (effect_value options.Fallback front section)

-- whether a section is restricted and has no password
unfoldable pub is_open_restricted : List Setting → List Setting → Bool
is_open_restricted front section =
    effect_flag options.Restricted front section && is_none (effect_value options.Password front section)

-- why a section is refused as a whole
unfoldable pub section_refusal : List Setting → List Setting → Option ConfRefusal
section_refusal front section = named (label_reason section)
  where
    named : Option ConfReason → Option ConfRefusal
    named (Some reason) =
        Some (record { reason = reason; option = opener_of section; line = opening_line section })
    named None =
        if is_locked_fallback front section
        then Some (record { reason = reasons.Excludes options.Lock; option = options.Fallback; line = excludes_line section })
        else if is_open_restricted front section
        then Some (record { reason = reasons.Needs options.Password; option = options.Restricted; line = opening_line section })
        else None

-- the first refusal of sections as wholes
unfoldable pub sections_refusal : List Setting → List (List Setting) → Option ConfRefusal
sections_refusal front [] = None
sections_refusal front (section ∷ sections) =
    elim (section_refusal front section) [
      | Some refusal ↦ Some refusal
      | None ↦ sections_refusal front sections
    ]

-- whether a name is among names
abbrev pub has_name : List ℕ → List (List ℕ) → Bool
has_name name names = list_any (λ other. bytes_eq other name) names

-- the names of a section, label first
unfoldable pub section_names : List Setting → List (List ℕ)
section_names section = section_label section ∷ alias (value_of options.Alias section)
  where
    alias : Option (List ℕ) → List (List ℕ)
    alias None = []
    alias (Some name) = name ∷ []

-- why there are too many names, by their number once those of a section are among them
unfoldable pub many_refusal : ℕ → List Setting → Option ConfRefusal
many_refusal count section =
    if nat_lt names_limit count
    then Some (record { reason = reasons.TooManyNames; option = opener_of section; line = opening_line section })
    else None

-- why the names of a section are refused after others
unfoldable pub names_reason : List (List ℕ) → List Setting → Option ConfRefusal
names_reason names section =
    if has_name (section_label section) names
    then Some (record { reason = reasons.RepeatedName; option = options.Label; line = opening_line section })
    else alias (value_of options.Alias section)
  where
    alias : Option (List ℕ) → Option ConfRefusal
    alias None = many_refusal (length names + 1) section
    alias (Some name) =
        if has_name name (names ++ section_label section ∷ [])
        then Some (record { reason = reasons.RepeatedName; option = options.Alias; line = opening_line section })
        else many_refusal (length names + 2) section

-- the names of sections after others, or the first refusal of them
unfoldable pub names_from : List (List ℕ) → List (List Setting) → Result (List (List ℕ)) ConfRefusal
names_from names [] = Ok names
names_from names (section ∷ sections) =
    elim (names_reason names section) [
      | Some refusal ↦ Err refusal
      | None ↦ names_from (names ++ section_names section) sections
    ]

-- why a configuration with these names is refused as a whole
unfoldable pub default_refusal : List Setting → List (List ℕ) → Option ConfRefusal
default_refusal front [] = Some (record { reason = reasons.NoImages; option = options.Image; line = 0 })
default_refusal front (name ∷ names) = known (value_of options.Default front)
  where
    known : Option (List ℕ) → Option ConfRefusal
    known None = None
    known (Some wanted) =
        if has_name wanted (name ∷ names) then None
        else Some (record { reason = reasons.NoDefault; option = options.Default; line = line_of options.Default front })

-- how a kernel is to mount its root, by a part, or else by another way
unfoldable pub mount_of : List Setting → Mount → Mount
mount_of settings other =
    if has_option options.ReadOnly settings then ReadOnlyMount else
    if has_option options.ReadWrite settings then ReadWriteMount else
    other

-- the same in effect in a section
unfoldable pub effect_mount : List Setting → List Setting → Mount
effect_mount front section =
    mount_of section (if stands_in (part_kind section) options.ReadOnly then mount_of front Unsaid else Unsaid)

-- the device of another system's section
unfoldable pub section_device : List Setting → Option Device
section_device section = by (part_kind section)
  where
    by : Part → Option Device
    by OtherPart = device_at (section_path section)
    by ImagePart = None
    by GlobalPart = None

-- what a section says
unfoldable pub section_of : List Setting → List Setting → ConfSection
section_of front section = record {
  other = section_device section;
  path = section_path section;
  label = section_label section;
  alias = value_of options.Alias section;
  initrd = effect_value options.Initrd front section;
  root = option_and_then root_at (effect_value options.Root front section);
  mount = effect_mount front section;
  append = effect_value options.Append front section;
  literal = value_of options.Literal section;
  vga = option_and_then video_mode (effect_value options.Vga front section);
  password = effect_value options.Password front section;
  restricted = effect_flag options.Restricted front section;
  optional = effect_flag options.Optional front section;
  lock = effect_flag options.Lock front section;
  fallback = effect_value options.Fallback front section;
  table = option_and_then device_at (value_of options.Table section);
  line = opening_line section;
}

-- the number of an option among settings, which is at most so great
unfoldable pub number_of : ℕ → Opt → List Setting → Option ℕ
number_of most option settings = option_and_then (number_between 0 most) (value_of option settings)

-- what is said of a disk by a `disk` and the settings after it
unfoldable pub disk_of : Setting → List Setting → Option DiskSection
disk_of setting settings = option_map told (option_and_then device_at (given_text setting.given))
  where
    details : List Setting
    details = take_while (λ detail. is_of_disk detail.option) settings

    told : Device → DiskSection
    told device = record {
      device = device;
      bios = number_of 255 options.Bios details;
      sectors = number_of 255 options.Sectors details;
      heads = number_of 255 options.Heads details;
      line = setting.line;
    }

-- what is said of disks
unfoldable pub disks_of : List Setting → List DiskSection
disks_of [] = []
disks_of (setting ∷ settings) = here (same_option setting.option options.Disk) ++ disks_of settings
  where
    found : Option DiskSection → List DiskSection
    found None = []
    found (Some disk) = disk ∷ []

    here : Bool → List DiskSection
    here true = found (disk_of setting settings)
    here false = []

-- how slots are to say where sectors lie
unfoldable pub mode_of : List Setting → Mode
mode_of front =
    if has_option options.Lba32 front then Lba32Mode else
    if has_option options.Linear front then LinearMode else
    ChsMode

-- what the parts say
unfoldable pub config_of : ConfParts → Config
config_of parts = record {
  boot = option_and_then device_at (value_of options.Boot parts.front);
  map = unwrap_or (value_of options.Map parts.front) (codes "/boot/map");
  install = value_of options.Install parts.front;
  backup = value_of options.Backup parts.front;
  force_backup = value_of options.ForceBackup parts.front;
  compact = has_option options.Compact parts.front;
  mode = mode_of parts.front;
  default_name = value_of options.Default parts.front;
  delay = unwrap_or (number_of 65535 options.Delay parts.front) 0;
  timeout = number_of 65535 options.Timeout parts.front;
  prompt = has_option options.Prompt parts.front;
  message = value_of options.Message parts.front;
  disks = disks_of parts.front;
  sections = map (section_of parts.front) parts.sections;
}

-- the parts of a configuration, once none of its settings is refused at its place
unfoldable pub whole_of : ConfParts → Result Config ConfRefusal
whole_of parts =
    no_fault (sections_refusal parts.front parts.sections)
    >>= λ _. names_from [] parts.sections
    >>= λ names. no_fault (default_refusal parts.front names)
    >>= λ _. Ok (config_of parts)

-- the most bytes of a configuration
abbrev pub conf_limit : ℕ
conf_limit = 65536

-- the refusal of a text with too many bytes
abbrev pub too_long : ℕ → ConfRefusal
too_long size = record { reason = reasons.TooLong (min size 4294967295); option = options.Other; line = 0 }

-- what a text says, or the first thing that refuses it
unfoldable pub conf_at : List ℕ → Result Config ConfRefusal
conf_at text =
    require (nat_le (length text) conf_limit) (too_long (length text))
    >>= λ _. no_fault (settings_refusal [] (text_settings text).settings)
    >>= λ _. no_fault (text_settings text).refusal
    >>= λ _. whole_of (parts_of (text_settings text).settings)
