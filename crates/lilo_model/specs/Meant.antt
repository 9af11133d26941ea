-- Meant: what a boot does as a configuration and its files say, by definitions that mention no sector. A configuration makes
-- a menu, and a menu a boot. (This project's own; texts and options follow LILO's manners, a kernel in memory the
-- Linux/x86 boot protocol, and where another system's boot sector is put the IBM PC.)
use Rattle.std.specs.Prelude.{ℕ, zero, suc, ◌/◌, ◌%◌, ◌==◌, true, if◌then◌else◌, List, [], ◌∷◌, ◌++◌, map, flat_map, position, slice_get, codes, Option, Some}
use Rattle.std.specs.Prelude.{None, option_map, option_and_then, unwrap_or, bytes_eq, Result, Ok, Err}
use Rattle.std.specs.Result.{result_ok}
use Rattle.std.specs.Option.{option_or}
use Rattle.lilo_model.specs.Bytes.{part_of, hex_digit}
use Rattle.lilo_model.specs.Devices.{Device}
use Rattle.lilo_model.specs.Conf.{Config, ConfSection, Mount, Unsaid, ReadOnlyMount, ReadWriteMount}
use Rattle.lilo_model.specs.ConfLawful.{names_of_section}
use Rattle.lilo_model.specs.MinixNames.{Thing, File, Link, Directory, Other}
use Rattle.lilo_model.specs.MinixFindNames.{Names, path_of}
use Rattle.lilo_model.specs.LineSector.{line_capacity}
use Rattle.lilo_model.specs.DefaultLine.{DefaultLine}
use Rattle.lilo_model.specs.Prompt.{Key, Settings, ListedEntry, Picked, Decision}
use Rattle.lilo_model.specs.Choice.{choice}
use Rattle.lilo_model.specs.Header.{SetupFault}
use Rattle.lilo_model.specs.Place.{Written, Loading, spaced_words, command_line, place}
use Rattle.lilo_model.specs.Reason as reasons
use Rattle.lilo_model.specs.Reason.{Idle}
use Rattle.lilo_model.specs.Boot.{Boot, Outcome, Loaded, Handed, Refused, boot_address, table_address}

-- ---- a menu: what can be chosen, and what each choice starts

-- what an entry starts
pub data Target : Type 0 where
  -- a kernel with its initrd, the middle of its command line, and the video mode that its section gives
  Kernel : (bytes : List ℕ) (initrd : Option (List ℕ)) (middle : List ℕ) (video : Option ℕ) → Target
  -- another system: its boot sector, and the sector of the partition table that goes with it
  System : (sector : List ℕ) (table : Option (List ℕ)) → Target

-- an entry, as the prompt lists it, and what it starts
pub record MenuEntry : Type 0 where
  pub listed : ListedEntry
  pub target : Target

pub record Menu : Type 0 where
  pub settings : Settings
  pub message : Option (List ℕ)
  pub entries : List MenuEntry

-- what is placed of another system: its sector, and the bytes of the partition table, where there is one
abbrev pub system_written : List ℕ → Option (List ℕ) → List Written
system_written sector None = record { address = boot_address; bytes = sector } ∷ []
system_written sector (Some table) =
    record { address = table_address; bytes = part_of table 446 64 }
    ∷ (record { address = boot_address; bytes = sector } ∷ [])

-- how a choice ends: the outcome, what is shown after `Loading`, and what is placed
pub record Start : Type 0 where
  pub outcome : Outcome
  pub shown : List ℕ
  pub written : List Written

-- a kernel that is placed, or the refusal of that
abbrev pub kernel_start : Result Loading SetupFault → Start
kernel_start (Ok loading) = record { outcome = Loaded loading.layout; shown = []; written = loading.written }
kernel_start (Err fault) = record { outcome = Refused (reasons.Header fault); shown = codes "Error\n"; written = [] }

-- what a choice of an entry starts in a memory of some bytes
unfoldable pub started : Target → List ℕ → Picked → ℕ → Start
started (Kernel bytes initrd middle video) name picked memory =
    kernel_start
    (place bytes initrd (command_line picked.automatic name middle picked.words) (option_or picked.vga video) memory)
started (System sector table) name picked memory =
    record { outcome = Handed; shown = []; written = system_written sector table }

-- the boot that a choice and what it starts make
abbrev pub started_boot : List ℕ → Decision → Start → Boot
started_boot name decision start = record {
  outcome = start.outcome;
  shown = codes "LILO\n" ++ decision.shown ++ codes "Loading " ++ name ++ codes "\n" ++ start.shown;
  line = Some decision.line;
  written = start.written;
  left = decision.left;
}

-- the boot that a decision makes: of a chosen entry, or of none
abbrev pub decided : Menu → DefaultLine → Decision → ℕ → Option Picked → Option MenuEntry → Boot
decided menu line decision memory (Some picked) (Some entry) =
    started_boot entry.listed.name decision (started entry.target entry.listed.name picked memory)
decided menu line decision memory _ _ = record {
  outcome = Refused Idle;
  shown = codes "LILO\n" ++ decision.shown;
  line = Some line;
  written = [];
  left = decision.left;
}

-- the entry that was picked
abbrev pub menu_pick : List MenuEntry → Option Picked → Option MenuEntry
menu_pick entries picked = option_and_then (λ one. slice_get entries one.entry) picked

-- what the prompt decides
unfoldable pub menu_decision : Menu → DefaultLine → List Key → Decision
menu_decision menu line keys =
    choice menu.settings (map (λ entry. entry.listed) menu.entries) line menu.message keys

-- what a boot by a menu does, with a default line, these keys and a memory of some bytes
unfoldable pub menu_boot : Menu → DefaultLine → List Key → ℕ → Boot
menu_boot menu line keys memory =
    decided
    menu
    line
    (menu_decision menu line keys)
    memory
    (menu_decision menu line keys).picked
    (menu_pick menu.entries (menu_decision menu line keys).picked)

-- ---- the menu of a configuration

-- the bytes of what has a name, where it is a regular file
abbrev pub bytes_of : Thing → Option (List ℕ)
bytes_of (File bytes) = Some bytes
bytes_of (Link text) = None
bytes_of Directory = None
bytes_of Other = None

-- the bytes of the regular file that a path leads to
unfoldable pub file_of : Names → List ℕ → Option (List ℕ)
file_of names text = option_and_then bytes_of (option_and_then names (result_ok (path_of names true text)))

-- bytes, where there are any
abbrev pub some_bytes : List ℕ → Option (List ℕ)
some_bytes [] = None
some_bytes (byte ∷ bytes) = Some (byte ∷ bytes)

-- the bytes of a file that is configured, there, and not empty
abbrev pub filled_file : Names → Option (List ℕ) → Option (List ℕ)
filled_file names path = option_and_then some_bytes (option_and_then (file_of names) path)

-- a number in hexadecimal, in lower case without leading zeros; it has at most so many digits
abbrev pub hex_digits : ℕ → ℕ → List ℕ
hex_digits zero number = []
hex_digits (suc more) number =
    if number / 16 == 0 then hex_digit number ∷ [] else hex_digits more (number / 16) ++ (hex_digit (number % 16) ∷ [])

-- how the root is mounted
abbrev pub mount_text : Mount → List ℕ
mount_text Unsaid = []
mount_text ReadOnlyMount = codes " ro"
mount_text ReadWriteMount = codes " rw"

-- the device of the root
abbrev pub root_text : Option ℕ → List ℕ
root_text None = []
root_text (Some number) = codes " root=" ++ hex_digits 4 number

-- the middle of a section's command line: the literal text alone, or else mount, root and append
abbrev pub middle_by : ConfSection → Option (List ℕ) → List ℕ
middle_by section (Some literal) = spaced_words literal
middle_by section None =
    mount_text section.mount ++ root_text section.root ++ spaced_words (unwrap_or section.append [])

unfoldable pub middle_text : ConfSection → List ℕ
middle_text section = middle_by section section.literal

-- a kernel, where its file is there
abbrev pub kernel_target : ConfSection → Names → Option (List ℕ) → Option Target
kernel_target section names None = None
kernel_target section names (Some bytes) =
    Some (Kernel bytes (filled_file names section.initrd) (middle_text section) section.vga)

-- what a section starts, unless it is a kernel that isn't there
abbrev pub target_by : ConfSection → Names → (Device → List ℕ) → Option Device → Option Target
target_by section names devices (Some device) = Some (System (devices device) (option_map devices section.table))
target_by section names devices None = kernel_target section names (file_of names section.path)

unfoldable pub target_of : ConfSection → Names → (Device → List ℕ) → Option Target
target_of section names devices = target_by section names devices section.other

-- an entry of a section
abbrev pub menu_entry : ConfSection → Target → List ℕ → MenuEntry
menu_entry section target name = record {
  listed = record {
    name = name;
    password = section.password;
    restricted = section.restricted;
    lock = section.lock;
    fallback = section.fallback;
  };
  target = target;
}

-- the entries of a section, none where its kernel isn't there
abbrev pub entries_by : ConfSection → Option Target → List MenuEntry
entries_by section None = []
entries_by section (Some target) = map (menu_entry section target) (names_of_section section)

-- the entries of a configuration, in its order
unfoldable pub menu_entries : Config → Names → (Device → List ℕ) → List MenuEntry
menu_entries config names devices =
    flat_map (λ section. entries_by section (target_of section names devices)) config.sections

-- the entry that is chosen without words: that of the default name, or the first
abbrev pub default_place : Option (List ℕ) → List (List ℕ) → ℕ
default_place None names = 0
default_place (Some name) names = unwrap_or (position (λ other. bytes_eq other name) names) 0

-- the names of entries
abbrev pub entry_names : List MenuEntry → List (List ℕ)
entry_names entries = map (λ entry. entry.listed.name) entries

-- the menu
unfoldable pub menu_of : Config → Names → (Device → List ℕ) → Menu
menu_of config names devices = record {
  settings = record {
    prompt = config.prompt;
    delay = config.delay;
    timeout = config.timeout;
    default_entry = default_place config.default_name (entry_names (menu_entries config names devices));
    capacity = line_capacity;
  };
  message = filled_file names config.message;
  entries = menu_entries config names devices;
}

-- Meant: what a boot does as a configuration says, by the Names of its files, the first sectors of the devices
-- that it names, a default line, keys, and a memory of some bytes
unfoldable pub meant : Config → Names → (Device → List ℕ) → DefaultLine → List Key → ℕ → Boot
meant config names devices line keys memory = menu_boot (menu_of config names devices) line keys memory
