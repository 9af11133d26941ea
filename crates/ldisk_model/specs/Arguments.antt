-- The arguments of a command line of `ldisk`, and what they ask for (this project's own grammar).
--
--     run  = "make" image sectors { part } | "mkfs" image device kind inodes | "ln" image device path target
--          | ("put" | "get" | "ls" | "rm" | "mkdir") image device path | "reclaim" image device
--     part = start ":" count ":" type
--
-- An image is any argument, and so is a target. A device is one that has a name. A path begins with `/` and has no zero
-- byte. A kind is v1-14, v1-30, v2-14 or v2-30: the version, and the bytes of a name. Sectors (1 to 4,294,967,295),
-- inodes (1 to 65,535), starts and counts (up to 4,294,967,295) are decimal digits, zeros before them allowed; a type is
-- two hexadecimal digits. There are four parts at most.
use Rattle.std.specs.Prelude.{◌≡◌, ◌↔◌, ◌≤◌, ℕ, ◌==◌, nat_lt, nat_le, Bool, ◌&&◌, if◌then◌else◌, IsTrue, List, [], ◌∷◌, ◌++◌, length, bytes_eq, codes, Option}
use Rattle.std.specs.Prelude.{None, Some}
use Rattle.std.specs.List.{position_or_len, before_first, after_first}
use Rattle.std.specs.Option.{option_and_then}
use Rattle.std.specs.Str.Parse.{IsNumeral, digits_value}
use Rattle.lilo_model.specs.Bytes.{is_between}
use Rattle.lilo_model.specs.Devices.{Device, device_at}
use Rattle.lilo_model.specs.LdiskWords.{is_volume_path}
use Rattle.lilo_model.specs.MinixLayout.{Kind, V1Short, V1Long, V2Short, V2Long}
use Rattle.lilo_model.specs.VideoMode.{numeral_value}

-- a partition that is asked for
pub record PartWish : Type 0 where
  -- its first sector
  pub start : ℕ
  -- how many sectors it has
  pub count : ℕ
  -- its type
  pub kind : ℕ

-- what `ldisk` does
pub data Command : Type 0 where
  -- `make`: it writes a partition table
  Make : (parts : List PartWish) → Command
  -- `mkfs`: it makes an empty volume, with so many inodes
  Mkfs : (device : Device) (kind : Kind) (inodes : ℕ) → Command
  -- `put`: it stores a file
  Put : (device : Device) (path : List ℕ) → Command
  -- `get`: it prints a file
  Get : (device : Device) (path : List ℕ) → Command
  -- `ls`: it lists a directory
  Ls : (device : Device) (path : List ℕ) → Command
  -- `rm`: it removes a file or a link
  Rm : (device : Device) (path : List ℕ) → Command
  -- `mkdir`: it makes a directory
  Mkdir : (device : Device) (path : List ℕ) → Command
  -- `ln`: it makes a symbolic link
  Ln : (device : Device) (path target : List ℕ) → Command
  -- `reclaim`: it frees what is marked without a use
  Reclaim : (device : Device) → Command

-- what is asked for
pub record Asked : Type 0 where
  -- the file that holds the disk
  pub image : List ℕ
  -- how many sectors a new image has, 0 where none is made
  pub sectors : ℕ
  pub command : Command

-- a command on an image that is there
abbrev pub asked_of : List ℕ → Command → Asked
asked_of image command = record { image = image; sectors = 0; command = command }

-- a new image with partitions
abbrev pub asked_new : List ℕ → ℕ → List PartWish → Asked
asked_new image sectors parts = record { image = image; sectors = sectors; command = Make parts }

-- the argument that names a kind of volume
abbrev pub kind_name : Kind → List ℕ
kind_name V1Short = codes "v1-14"
kind_name V1Long = codes "v1-30"
kind_name V2Short = codes "v2-14"
kind_name V2Long = codes "v2-30"

-- ---- the grammar

-- digits of a radix that write a number
pub record IsWritten (radix : ℕ) (digits : List ℕ) (number : ℕ) : Type 0 where
  pub numeral : IsNumeral radix digits
  pub value : digits_value radix digits ≡ number

-- a number in decimal digits that lies in a range
pub record IsDecimal (low high : ℕ) (digits : List ℕ) (number : ℕ) : Type 0 where
  pub written : IsWritten 10 digits number
  pub from : low ≤ number
  pub to : number ≤ high

-- START:COUNT:TYPE
pub record IsPart (word : List ℕ) (part : PartWish) : Type 0 where
  pub start : List ℕ
  pub count : List ℕ
  pub kind : List ℕ
  pub spelled : word ≡ start ++ 58 ∷ (count ++ 58 ∷ kind)
  pub starts : IsDecimal 0 4294967295 start part.start
  pub counts : IsDecimal 0 4294967295 count part.count
  pub two : length kind ≡ 2
  pub kinds : IsWritten 16 kind part.kind

-- arguments that are parts, each of them one
pub data AreParts : List (List ℕ) → List PartWish → Type 0 where
  none : AreParts [] []
  more :
      (word : List ℕ) (part : PartWish) (words : List (List ℕ)) (parts : List PartWish)
      → IsPart word part → AreParts words parts → AreParts (word ∷ words) (part ∷ parts)

-- an argument, and the command that it is of a path on a device
pub data IsPathWord : List ℕ → (Device → List ℕ → Command) → Type 0 where
  put : IsPathWord (codes "put") Put
  get : IsPathWord (codes "get") Get
  ls : IsPathWord (codes "ls") Ls
  rm : IsPathWord (codes "rm") Rm
  mkdir : IsPathWord (codes "mkdir") Mkdir

-- arguments that ask for something
pub data IsAsked : List (List ℕ) → Asked → Type 0 where
  make :
      (image digits : List ℕ) (sectors : ℕ) (words : List (List ℕ)) (parts : List PartWish)
      → IsDecimal 1 4294967295 digits sectors → length words ≤ 4 → AreParts words parts
      → IsAsked (codes "make" ∷ image ∷ digits ∷ words) (asked_new image sectors parts)
  mkfs :
      (image name digits : List ℕ) (device : Device) (kind : Kind) (inodes : ℕ) → device_at name ≡ Some device
      → IsDecimal 1 65535 digits inodes
      → IsAsked (codes "mkfs" ∷ image ∷ name ∷ kind_name kind ∷ digits ∷ []) (asked_of image (Mkfs device kind inodes))
  ln :
      (image name path target : List ℕ) (device : Device) → device_at name ≡ Some device
      → IsTrue (is_volume_path path)
      → IsAsked (codes "ln" ∷ image ∷ name ∷ path ∷ target ∷ []) (asked_of image (Ln device path target))
  on_path :
      (word image name path : List ℕ) (device : Device) (command : Device → List ℕ → Command)
      → IsPathWord word command → device_at name ≡ Some device → IsTrue (is_volume_path path)
      → IsAsked (word ∷ image ∷ name ∷ path ∷ []) (asked_of image (command device path))
  reclaim :
      (image name : List ℕ) (device : Device) → device_at name ≡ Some device
      → IsAsked (codes "reclaim" ∷ image ∷ name ∷ []) (asked_of image (Reclaim device))

-- ---- what arguments ask for

-- a number that lies in a range
abbrev pub within : ℕ → ℕ → ℕ → Option ℕ
within low high number = if is_between low high number then Some number else None

-- the number in a range that decimal digits write
unfoldable pub decimal_at : ℕ → ℕ → List ℕ → Option ℕ
decimal_at low high digits = option_and_then (within low high) (numeral_value 10 digits)

-- the type that two hexadecimal digits write
unfoldable pub type_at : List ℕ → Option ℕ
type_at (high ∷ (low ∷ [])) = numeral_value 16 (high ∷ (low ∷ []))
type_at _ = None

abbrev pub is_colon : ℕ → Bool
is_colon byte = byte == 58

-- a text up to its first colon, and what comes after that
pub record Halves : Type 0 where
  pub before : List ℕ
  pub after : List ℕ

unfoldable pub halves_of : List ℕ → Option Halves
halves_of word =
    if nat_lt (position_or_len is_colon word) (length word)
    then Some (record { before = before_first is_colon word; after = after_first is_colon word })
    else None

-- a part from its three texts
abbrev pub part_with : Option ℕ → Option ℕ → Option ℕ → Option PartWish
part_with (Some start) (Some count) (Some kind) = Some (record { start = start; count = count; kind = kind })
part_with _ _ _ = None

unfoldable pub part_of : List ℕ → List ℕ → List ℕ → Option PartWish
part_of start count kind = part_with (decimal_at 0 4294967295 start) (decimal_at 0 4294967295 count) (type_at kind)

-- the part that an argument is
unfoldable pub part_at : List ℕ → Option PartWish
part_at word =
    option_and_then (λ first. option_and_then (λ second. part_of first.before second.before second.after)
    (halves_of first.after)) (halves_of word)

-- a part before others
abbrev pub onto_parts : Option PartWish → Option (List PartWish) → Option (List PartWish)
onto_parts (Some part) (Some parts) = Some (part ∷ parts)
onto_parts _ _ = None

-- the parts that arguments are
unfoldable pub parts_at : List (List ℕ) → Option (List PartWish)
parts_at [] = Some []
parts_at (word ∷ words) = onto_parts (part_at word) (parts_at words)

-- the kind that an argument names
unfoldable pub kind_at : List ℕ → Option Kind
kind_at word =
    if bytes_eq word (codes "v1-14") then Some V1Short else
    if bytes_eq word (codes "v1-30") then Some V1Long else
    if bytes_eq word (codes "v2-14") then Some V2Short else
    if bytes_eq word (codes "v2-30") then Some V2Long else
    None

-- a new image, where it has sectors and parts
abbrev pub new_with : List ℕ → Option ℕ → Option (List PartWish) → Option Asked
new_with image (Some sectors) (Some parts) = Some (asked_new image sectors parts)
new_with image _ _ = None

-- what comes after `make` and the image
unfoldable pub make_at : List ℕ → List (List ℕ) → Option Asked
make_at image [] = None
make_at image (digits ∷ words) =
    if nat_le (length words) 4 then new_with image (decimal_at 1 4294967295 digits) (parts_at words) else None

-- the command of a device alone that an argument names
unfoldable pub device_command : List ℕ → Device → Option Command
device_command word device = if bytes_eq word (codes "reclaim") then Some (Reclaim device) else None

-- the command of a path on a device that an argument names
unfoldable pub path_command : List ℕ → Device → List ℕ → Option Command
path_command word device path =
    if bytes_eq word (codes "put") then Some (Put device path) else
    if bytes_eq word (codes "get") then Some (Get device path) else
    if bytes_eq word (codes "ls") then Some (Ls device path) else
    if bytes_eq word (codes "rm") then Some (Rm device path) else
    if bytes_eq word (codes "mkdir") then Some (Mkdir device path) else
    None

-- the same, where the path is one
unfoldable pub on_path_at : List ℕ → Device → List ℕ → Option Command
on_path_at word device path = if is_volume_path path then path_command word device path else None

-- a volume that is made
abbrev pub mkfs_with : Device → Option Kind → Option ℕ → Option Command
mkfs_with device (Some kind) (Some inodes) = Some (Mkfs device kind inodes)
mkfs_with device _ _ = None

-- a command that has two arguments after its device
unfoldable pub pair_command : List ℕ → Device → List ℕ → List ℕ → Option Command
pair_command word device first second =
    if bytes_eq word (codes "mkfs") then mkfs_with device (kind_at first) (decimal_at 1 65535 second) else
    if bytes_eq word (codes "ln") && is_volume_path first then Some (Ln device first second) else
    None

-- a command by the number of its arguments
unfoldable pub command_at : List ℕ → List (List ℕ) → Option Command
command_at word (name ∷ []) = option_and_then (λ device. device_command word device) (device_at name)
command_at word (name ∷ (path ∷ [])) = option_and_then (λ device. on_path_at word device path) (device_at name)
command_at word (name ∷ (first ∷ (second ∷ []))) =
    option_and_then (λ device. pair_command word device first second) (device_at name)
command_at word _ = None

-- what arguments ask for, if they are of the grammar
unfoldable pub asked_at : List (List ℕ) → Option Asked
asked_at (word ∷ (image ∷ words)) =
    if bytes_eq word (codes "make") then make_at image words else
    option_and_then (λ command. Some (asked_of image command)) (command_at word words)
asked_at _ = None

-- arguments ask for this exactly where the grammar says so
abbrev pub AskedLaw : Type 0
AskedLaw = (words : List (List ℕ)) (asked : Asked) → (asked_at words ≡ Some asked) ↔ IsAsked words asked
