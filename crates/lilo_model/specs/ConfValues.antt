-- The values of options in lilo.conf. What a value means is lilo.conf(5)'s; the ranges are this project's own.
use Rattle.std.specs.Prelude.{ℕ, ◌+◌, ◌-◌, ◌==◌, drop, nat_le, nat_lt, nat_eq, Bool, true, false, not, ◌&&◌, ◌||◌, if◌then◌else◌, List, [], ◌∷◌, length, codes}
use Rattle.std.specs.Prelude.{is_some, Option, None, Some}
use Rattle.std.specs.List.{list_all, starts_with, suffix_len}
use Rattle.std.specs.Option.{option_map, option_and_then}
use Rattle.lilo_model.specs.Bytes.{is_between}
use Rattle.lilo_model.specs.VideoMode.{written_number, video_mode}
use Rattle.lilo_model.specs.Devices.{Device, device_at, device_number}
use Rattle.lilo_model.specs.ConfOptions.{Takes, Nothing, ADevice, AWholeDisk, APath, AName, ANumber, ABios, ARoot, AText, AVideo, AShown, LeftOut, Unknown}

-- the most bytes of a name, and the most names
abbrev pub name_limit : ℕ
name_limit = 15

abbrev pub names_limit : ℕ
names_limit = 19

-- whether a text is a path: it begins with a slash and has no zero byte
unfoldable pub is_path : List ℕ → Bool
is_path text = starts_with nat_eq text (codes "/") && list_all (λ byte. not (byte == 0)) text

-- whether a text is a name: it has bytes, all of them printable and no space
unfoldable pub is_name : List ℕ → Bool
is_name text = not (length text == 0) && list_all (is_between 33 126) text

-- whether a text may be on a command line
unfoldable pub is_text : List ℕ → Bool
is_text text = list_all (λ byte. nat_le 32 byte && not (byte == 127)) text

-- whether a text can be typed, and has a byte and at most so many
unfoldable pub is_shown : ℕ → List ℕ → Bool
is_shown most text = is_between 1 most (length text) && list_all (is_between 32 126) text

-- the number that a text writes, where it is one from one to another
unfoldable pub number_between : ℕ → ℕ → List ℕ → Option ℕ
number_between low high text =
    option_and_then (λ number. if is_between low high number then Some number else None) (written_number text)

-- the disk that a text names as a whole
unfoldable pub whole_disk_at : List ℕ → Option ℕ
whole_disk_at text =
    option_and_then (λ device. if device.partition == 0 then Some device.disk else None) (device_at text)

-- the number of a device that a text names, or writes in hexadecimal
unfoldable pub root_at : List ℕ → Option ℕ
root_at text = known (device_at text)
  where
    known : Option Device → Option ℕ
    known (Some device) = Some (device_number device)
    known None = if starts_with nat_eq text (codes "0x") then number_between 0 65535 text else None

-- whether a text is a value of what an option takes, the disk of its group being this one
unfoldable pub is_value : Takes → ℕ → List ℕ → Bool
is_value Nothing disk text = false
is_value ADevice disk text = is_some (device_at text)
is_value AWholeDisk disk text = is_some (whole_disk_at text)
is_value APath disk text = is_path text
is_value AName disk text = is_name text
is_value (ANumber low high) disk text = is_some (number_between low high text)
is_value ABios disk text = is_some (number_between (128 + disk) (128 + disk) text)
is_value ARoot disk text = is_some (root_at text)
is_value AText disk text = is_text text
is_value AVideo disk text = is_some (video_mode text)
is_value (AShown most) disk text = is_shown most text
is_value LeftOut disk text = false
is_value Unknown disk text = false

-- how many bytes of a path come after its last slash, all where it has none
unfoldable pub last_length : List ℕ → ℕ
last_length path = suffix_len (λ byte. not (byte == 47)) path

-- the part of a path after its last slash
unfoldable pub last_part : List ℕ → List ℕ
last_part path = drop (length path - last_length path) path
