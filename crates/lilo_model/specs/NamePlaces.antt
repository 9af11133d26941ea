-- Where the names are that an installation makes, replaces or takes away: those that a configured path ends with, and
-- the same with `~` (a rule of this project's own). A path is a list of components, the last one first.
use Rattle.std.specs.Prelude.{ℕ, ◌-◌, ◌/◌, ◌%◌, Bool, true, false, ◌&&◌, if◌then◌else◌, List, [], ◌∷◌, ◌++◌, length, take, bytes_eq, codes, unwrap_or, is_some}
use Rattle.std.specs.Prelude.{Option, None, Some, Result, Ok, Err}
use Rattle.lilo_model.specs.Bytes.{hex_byte}
use Rattle.lilo_model.specs.Checks.{◌>>=◌, require}
use Rattle.lilo_model.specs.Devices.{Device, device_number}
use Rattle.lilo_model.specs.ConfOptions as options
use Rattle.lilo_model.specs.ConfOptions.{Opt}
use Rattle.lilo_model.specs.Conf.{Config}
use Rattle.lilo_model.specs.MinixEntries.{here_name, above_name}
use Rattle.lilo_model.specs.MinixFind.{Component, TreeFault, NotFile, NotDirectory, components}
use Rattle.lilo_model.specs.MinixNames.{Thing}
use Rattle.lilo_model.specs.MinixFindNames.{Names, leads_to_directory, path_above, path_of}

-- a text before a last component, and that component
pub record NameSplit : Type 0 where
  pub before : List ℕ
  pub name : List ℕ

-- a text cut before the last of its components, if it has one; slashes at its end don't count
abbrev pub split_at_last : List ℕ → List Component → Option NameSplit
split_at_last text [] = None
split_at_last text (component ∷ []) =
    Some (record {
      before = take (length text - length component.name - length component.rest) text;
      name = component.name;
    })
split_at_last text (component ∷ (next ∷ others)) = split_at_last text (next ∷ others)

-- a name in the directory that the text before it leads to
abbrev pub placed_name : Names → Option NameSplit → Result (List (List ℕ)) TreeFault
placed_name names None = Err NotFile
placed_name names (Some split) = do
  directory ← path_of names true split.before
  there ← require (leads_to_directory (names directory)) (NotDirectory (length (components split.before)))
  Ok (split.name ∷ directory)

-- where the name is that a path ends with, whether or not there is anything: the last component isn't followed. A path
-- without a component counts as that of no regular file.
unfoldable pub name_path : Names → List ℕ → Result (List (List ℕ)) TreeFault
name_path names text = placed_name names (split_at_last text (components text))

-- a name's path, with `~` at the name's end
abbrev pub with_tilde : List (List ℕ) → List (List ℕ)
with_tilde [] = []
with_tilde (name ∷ directory) = (name ++ codes "~") ∷ directory

-- the path of what is at a name: `.` and `..` are there, as directories
abbrev pub plain_path : List (List ℕ) → List (List ℕ)
plain_path [] = []
plain_path (name ∷ directory) =
    if bytes_eq here_name name then directory else
    if bytes_eq above_name name then path_above directory else
    (name ∷ directory)

-- whether two paths are the same
abbrev pub same_path : List (List ℕ) → List (List ℕ) → Bool
same_path [] [] = true
same_path [] (name ∷ path) = false
same_path (name ∷ path) [] = false
same_path (name ∷ path) (other ∷ others) = bytes_eq name other && same_path path others

-- Names without one
abbrev pub without_name : List (List ℕ) → Names → Names
without_name gone names path = if same_path gone path then None else names path

-- Names with what is given at a path, or with nothing there
abbrev pub with_name : List (List ℕ) → Option Thing → Names → Names
with_name at thing names path = if same_path at path then thing else names path

-- ---- a backup

-- the path of a device's backup where the configuration names none: `/boot/boot.` and the device's number in four
-- hexadecimal digits
unfoldable pub default_backup : Device → List ℕ
default_backup device =
    codes "/boot/boot." ++ hex_byte (device_number device / 256) ++ hex_byte (device_number device % 256)

-- the path of the backup of a device that is to boot
unfoldable pub backup_path : Config → Device → List ℕ
backup_path config device = unwrap_or config.force_backup (unwrap_or config.backup (default_backup device))

-- the option that names it; a path by default counts as `backup=`
abbrev pub backup_option : Config → Opt
backup_option config = if is_some config.force_backup then options.ForceBackup else options.Backup
