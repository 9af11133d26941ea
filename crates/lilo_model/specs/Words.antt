-- The arguments of a command line of `lilo`, and what they ask for (this project's own grammar).
--
--     run     = part { "--then" part }
--     part    = { "-C" path | "--root" device | "-v" } command
--     command = (nothing) | "-t" | "-q" [device] | "-R" { word } | "-u" device | "boot" device ["--dump"]
--
-- An option appears at most once in a part. A path begins with `/`. The arguments of `-R` run to `--then` or the end,
-- and have bytes of 0x20 to 0x7E alone, at least one each.
use Rattle.std.specs.Prelude.{◌≡◌, ◌<◌, ℕ, ◌+◌, ◌==◌, nat_lt, Bool, true, false, not, ◌&&◌, ◌||◌, if◌then◌else◌, IsTrue, All, List, [], ◌∷◌, ◌++◌, length, take}
use Rattle.std.specs.Prelude.{drop, bytes_eq, is_none, codes, Option, None, Some, Result, Ok, Err, slice_get, unwrap_or}
use Rattle.std.specs.List.{list_all, position_from, slice_split}
use Rattle.lilo_model.specs.Bytes.{is_between}
use Rattle.lilo_model.specs.Checks.{◌>>=◌, with_fault}
use Rattle.lilo_model.specs.Devices.{Device, device_at}
use Rattle.lilo_model.specs.LineWords.{is_empty_list}

-- ---- what is asked for

-- what a part does
pub data Command : Type 0 where
  -- no argument: it installs
  Install : Command
  -- `-t`: it reports what an installation would do
  Test : Command
  -- `-q`: it lists the names in the map of a device, or else of the configuration's
  Query : Option Device → Command
  -- `-R`: it sets the words of a line, or clears them where there are none
  SetLine : List (List ℕ) → Command
  -- `-u`: it restores the boot sector of a device
  Restore : Device → Command
  -- `boot`: it boots a device, and with `--dump` reports the memory
  Boot : Device → Bool → Command

-- what a part asks for
pub record Part : Type 0 where
  -- the path after `-C`
  pub config : Option (List ℕ)
  -- the device after `--root`
  pub root : Option Device
  -- `-v`
  pub verbose : Bool
  pub command : Command

-- a part without an argument
abbrev pub bare_part : Part
bare_part = record { config = None; root = None; verbose = false; command = Install }

abbrev pub with_config : Part → List ℕ → Part
with_config part path = record part { config = Some path }

abbrev pub with_root : Part → Device → Part
with_root part device = record part { root = Some device }

abbrev pub with_verbose : Part → Part
with_verbose part = record part { verbose = true }

abbrev pub with_command : Part → Command → Part
with_command part command = record part { command = command }

-- whether an argument is a path
abbrev pub is_path : List ℕ → Bool
is_path [] = false
is_path (byte ∷ bytes) = byte == 47

-- whether an argument may come after `-R`
abbrev pub is_line_word : List ℕ → Bool
is_line_word word = not (is_empty_list word) && list_all (λ byte. is_between 0x20 0x7e byte) word

-- whether an argument is the one between two parts
abbrev pub is_then : List ℕ → Bool
is_then word = bytes_eq word (codes "--then")

-- ---- the grammar

-- arguments that are a command
pub data IsCommand : List (List ℕ) → Command → Type 0 where
  install : IsCommand [] Install
  test : IsCommand (codes "-t" ∷ []) Test
  query : IsCommand (codes "-q" ∷ []) (Query None)
  query_device :
      (name : List ℕ) (device : Device) → device_at name ≡ Some device
      → IsCommand (codes "-q" ∷ name ∷ []) (Query (Some device))
  set_line : (words : List (List ℕ)) → IsTrue (list_all is_line_word words) → IsCommand (codes "-R" ∷ words) (SetLine words)
  restore :
      (name : List ℕ) (device : Device) → device_at name ≡ Some device
      → IsCommand (codes "-u" ∷ name ∷ []) (Restore device)
  boot :
      (name : List ℕ) (device : Device) → device_at name ≡ Some device
      → IsCommand (codes "boot" ∷ name ∷ []) (Boot device false)
  boot_dump :
      (name : List ℕ) (device : Device) → device_at name ≡ Some device
      → IsCommand (codes "boot" ∷ name ∷ codes "--dump" ∷ []) (Boot device true)

-- arguments that make a whole part of one that has some options already
pub data IsPartBehind : Part → List (List ℕ) → Part → Type 0 where
  at_command :
      (part : Part) (words : List (List ℕ)) (command : Command) → IsCommand words command
      → IsPartBehind part words (with_command part command)
  at_config :
      (part : Part) (path : List ℕ) (words : List (List ℕ)) (whole : Part)
      → part.config ≡ None → IsTrue (is_path path) → IsPartBehind (with_config part path) words whole
      → IsPartBehind part (codes "-C" ∷ path ∷ words) whole
  at_root :
      (part : Part) (name : List ℕ) (device : Device) (words : List (List ℕ)) (whole : Part)
      → part.root ≡ None → device_at name ≡ Some device → IsPartBehind (with_root part device) words whole
      → IsPartBehind part (codes "--root" ∷ name ∷ words) whole
  at_verbose :
      (part : Part) (words : List (List ℕ)) (whole : Part)
      → part.verbose ≡ false → IsPartBehind (with_verbose part) words whole
      → IsPartBehind part (codes "-v" ∷ words) whole

-- arguments that are a part: none of them is `--then`
pub record IsPart (words : List (List ℕ)) (part : Part) : Type 0 where
  pub spelled : IsPartBehind bare_part words part
  pub whole : All (λ word. is_then word ≡ false) words

-- arguments that are a run: parts with a `--then` between each two
pub data IsRun : List (List ℕ) → List Part → Type 0 where
  one : (words : List (List ℕ)) (part : Part) → IsPart words part → IsRun words (part ∷ [])
  more :
      (words : List (List ℕ)) (part : Part) (rest : List (List ℕ)) (parts : List Part)
      → IsPart words part → IsRun rest parts → IsRun (words ++ codes "--then" ∷ rest) (part ∷ parts)

-- arguments that some run begins with
abbrev pub Begins : List (List ℕ) → Type 0
Begins words = (rest : List (List ℕ)) × (parts : List Part) × IsRun (words ++ rest) parts

-- The first argument that isn't allowed where it is: those before it begin some run, and with it they begin none.
abbrev pub IsFirstWrong : List (List ℕ) → ℕ → Type 0
IsFirstWrong words place =
    (place < length words) × Begins (take place words) × (Begins (take (place + 1) words) → ⊥)

-- All the arguments are allowed where they are, and more must follow.
abbrev pub IsUnfinished : List (List ℕ) → Type 0
IsUnfinished words = Begins words × ((parts : List Part) → IsRun words parts → ⊥)

-- ---- the run that arguments are, or the place of the first that is wrong: arguments are numbered from `at` on

-- a value after which nothing comes
abbrev pub ended : ℕ → List (List ℕ) → Command → Result Command ℕ
ended at [] command = Ok command
ended at (word ∷ words) command = Err at

-- the device that the first of the arguments names, which has to be there
abbrev pub device_or : ℕ → Option Device → Result Device ℕ
device_or at None = Err at
device_or at (Some device) = Ok device

abbrev pub named_from : ℕ → List (List ℕ) → Result Device ℕ
named_from at [] = Err at
named_from at (name ∷ words) = device_or at (device_at name)

-- after `-q`
abbrev pub query_from : ℕ → List (List ℕ) → Result Command ℕ
query_from at [] = Ok (Query None)
query_from at (name ∷ words) =
    named_from at (name ∷ words) >>= λ device. ended (at + 1) words (Query (Some device))

-- after `-R`
abbrev pub line_or : List (List ℕ) → Option ℕ → Result Command ℕ
line_or words None = Ok (SetLine words)
line_or words (Some place) = Err place

abbrev pub line_from : ℕ → List (List ℕ) → Result Command ℕ
line_from at words = line_or words (position_from (λ word. not (is_line_word word)) at words)

-- after `-u`
abbrev pub restore_from : ℕ → List (List ℕ) → Result Command ℕ
restore_from at words = named_from at words >>= λ device. ended (at + 1) (drop 1 words) (Restore device)

-- after `boot` and its device
abbrev pub dump_from : ℕ → List (List ℕ) → Device → Result Command ℕ
dump_from at [] device = Ok (Boot device false)
dump_from at (word ∷ words) device =
    if bytes_eq word (codes "--dump") then ended (at + 1) words (Boot device true) else Err at

-- after `boot`
abbrev pub boot_from : ℕ → List (List ℕ) → Result Command ℕ
boot_from at words = named_from at words >>= λ device. dump_from (at + 1) (drop 1 words) device

-- a command
unfoldable pub command_from : ℕ → List (List ℕ) → Result Command ℕ
command_from at [] = Ok Install
command_from at (word ∷ words) =
    if bytes_eq word (codes "-t") then ended (at + 1) words Test else
    if bytes_eq word (codes "-q") then query_from (at + 1) words else
    if bytes_eq word (codes "-R") then line_from (at + 1) words else
    if bytes_eq word (codes "-u") then restore_from (at + 1) words else
    if bytes_eq word (codes "boot") then boot_from (at + 1) words else
    Err at

-- whether an argument is an option that a part doesn't have yet
abbrev pub is_config : Part → List ℕ → Bool
is_config part word = bytes_eq word (codes "-C") && is_none part.config

abbrev pub is_root : Part → List ℕ → Bool
is_root part word = bytes_eq word (codes "--root") && is_none part.root

abbrev pub is_verbose : Part → List ℕ → Bool
is_verbose part word = bytes_eq word (codes "-v") && not part.verbose

-- the part after whose options a command comes
abbrev pub commanded : ℕ → Part → List (List ℕ) → Result Part ℕ
commanded at part words = command_from at words >>= λ command. Ok (with_command part command)

-- the path that the first of the arguments is, which has to be there
abbrev pub path_from : ℕ → List (List ℕ) → Result (List ℕ) ℕ
path_from at [] = Err at
path_from at (path ∷ words) = if is_path path then Ok path else Err at

-- a whole part, where some options are read already
unfoldable pub part_from : ℕ → Part → List (List ℕ) → Result Part ℕ
part_from at part [] = commanded at part []
part_from at part (word ∷ []) =
    if is_config part word || is_root part word then Err (at + 1) else
    if is_verbose part word then commanded (at + 1) (with_verbose part) [] else
    commanded at part (word ∷ [])
part_from at part (word ∷ (value ∷ words)) =
    if is_config part word then path_from (at + 1) (value ∷ words) >>= (λ path. part_from (at + 2) (with_config part path) words) else
    if is_root part word then named_from (at + 1) (value ∷ words) >>= (λ device. part_from (at + 2) (with_root part device) words) else
    if is_verbose part word then part_from (at + 1) (with_verbose part) (value ∷ words) else
    commanded at part (word ∷ (value ∷ words))

-- the parts that some lists of arguments are, which were one list with a `--then` between each two
unfoldable pub parts_from : ℕ → List (List (List ℕ)) → Result (List Part) ℕ
parts_from at [] = Ok []
parts_from at (words ∷ others) = do
  part ← part_from at bare_part words
  parts ← parts_from (at + length words + 1) others
  Ok (part ∷ parts)

-- the parts of a run, cut at each `--then`
unfoldable pub run_from : ℕ → List (List ℕ) → Result (List Part) ℕ
run_from at words = parts_from at (slice_split is_then words)

-- a place among arguments, or none after the last
abbrev pub place_in : List (List ℕ) → ℕ → Option ℕ
place_in words place = if nat_lt place (length words) then Some place else None

-- the parts that arguments ask for, or else the first argument that isn't allowed where it is, or none at the end
unfoldable pub run_at : List (List ℕ) → Result (List Part) (Option ℕ)
run_at words = with_fault (place_in words) (run_from 0 words)

-- ---- what is printed of arguments that are no run

-- the argument that isn't allowed where it is
abbrev pub wrong_word : List (List ℕ) → Option ℕ → List ℕ
wrong_word words None = codes "(end)"
wrong_word words (Some place) = unwrap_or (slice_get words place) []

-- the line that reports it, or nothing where the arguments are a run
abbrev pub usage_of : List (List ℕ) → Result (List Part) (Option ℕ) → List ℕ
usage_of words (Ok parts) = []
usage_of words (Err wrong) = codes "lilo: usage: " ++ wrong_word words wrong ++ codes "\n"

unfoldable pub usage_text : List (List ℕ) → List ℕ
usage_text words = usage_of words (run_at words)
