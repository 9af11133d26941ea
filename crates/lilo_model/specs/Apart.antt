-- Apart: what a configuration names may be installed and mapped without one thing being another. One list of checks, in
-- the order of the options, of which the first that fails names its option. They speak of a sound volume. (A rule of
-- this project's own.)
use Rattle.std.specs.Prelude.{◌≡◌, ℕ, ◌+◌, ◌==◌, nat_le, nat_lt, Bool, true, false, not, ◌&&◌, ◌||◌, List, [], ◌∷◌, ◌++◌, flat_map, is_none, option_to_list}
use Rattle.std.specs.Prelude.{Option, Some, None, Result, Ok, Err}
use Rattle.std.specs.List.{list_any, list_all}
use Rattle.lilo_model.specs.Checks.{◌>>=◌, require}
use Rattle.lilo_model.specs.Disks.{Image, Machine, Span}
use Rattle.lilo_model.specs.Devices.{Device}
use Rattle.lilo_model.specs.Partitions.{TableFault, span_of}
use Rattle.lilo_model.specs.ConfOptions as options
use Rattle.lilo_model.specs.ConfOptions.{Opt}
use Rattle.lilo_model.specs.Conf.{Config, ConfSection}
use Rattle.lilo_model.specs.MinixParts.{Volume, parts_of}
use Rattle.lilo_model.specs.MinixNames.{File, reached, names_in}
use Rattle.lilo_model.specs.MinixFind.{TreeFault, find_in}
use Rattle.lilo_model.specs.MinixFindNames.{Names, path_of}
use Rattle.lilo_model.specs.NamePlaces.{name_path, with_tilde, plain_path, same_path, with_name, backup_path, backup_option}

-- ---- devices

-- whether a span's first sector isn't one of a volume's past its block 0
abbrev pub is_apart_span : Volume → Span → Bool
is_apart_span volume span =
    not (span.disk == volume.span.disk)
    || nat_lt span.start (volume.span.start + 2)
    || nat_le (volume.span.start + volume.span.count) span.start

-- the same of a device; one without a place is refused elsewhere
abbrev pub is_apart_place : Volume → Result Span TableFault → Bool
is_apart_place volume (Ok span) = is_apart_span volume span
is_apart_place volume (Err fault) = true

abbrev pub is_apart_device : Image → Machine → Volume → Device → Bool
is_apart_device image machine volume device = is_apart_place volume (span_of image machine device)

-- the devices of the sections, by what names them
abbrev pub other_devices : Config → List Device
other_devices config = flat_map (λ section. option_to_list section.other) config.sections

abbrev pub table_devices : Config → List Device
table_devices config = flat_map (λ section. option_to_list section.table) config.sections

-- ---- names

-- the name that a path ends with and that with `~`, none where its directory is refused
abbrev pub name_pair : Result (List (List ℕ)) TreeFault → List (List (List ℕ))
name_pair (Ok path) = path ∷ (with_tilde path ∷ [])
name_pair (Err fault) = []

unfoldable pub names_pair : Names → List ℕ → List (List (List ℕ))
names_pair names text = name_pair (name_path names text)

-- whether two lists have no path in common
abbrev pub are_apart_paths : List (List (List ℕ)) → List (List (List ℕ)) → Bool
are_apart_paths paths others = list_all (λ path. not (list_any (same_path path) others)) paths

-- the names whose files must not be mapped: those that the installation replaces or takes away
abbrev pub guarded_names : Names → Config → List (List (List ℕ))
guarded_names names config =
    names_pair names config.map ++ flat_map (names_pair names) (option_to_list config.force_backup)

-- ---- paths that are read or mapped

-- whether what a name leads to is what a path leads to
abbrev pub is_same_inode : Option ℕ → Result ℕ TreeFault → Bool
is_same_inode (Some number) (Ok other) = number == other
is_same_inode (Some number) (Err fault) = false
is_same_inode None found = false

-- whether a walk over Names ends at a path
abbrev pub ends_at : List (List ℕ) → Result (List (List ℕ)) TreeFault → Bool
ends_at name (Ok path) = same_path name path
ends_at name (Err fault) = false

-- whether nothing is at a name, and a path leads there once a file is
abbrev pub leads_to_absent : Names → List ℕ → List (List ℕ) → Bool
leads_to_absent names text name =
    is_none (names (plain_path name)) && ends_at name (path_of (with_name name (Some (File [])) names) true text)

-- whether a path leads neither to the inode of what is at a name nor, where nothing is there, to that name
unfoldable pub is_apart_path : Image → Volume → List ℕ → List (List ℕ) → Bool
is_apart_path image volume text name =
    not (is_same_inode (reached volume.layout (parts_of volume image) (plain_path name)) (find_in image volume text))
    && not (leads_to_absent (names_in volume image) text name)

-- the same of several paths and names
abbrev pub are_apart_files : Image → Volume → List (List (List ℕ)) → List (List ℕ) → Bool
are_apart_files image volume names texts = list_all (λ text. list_all (is_apart_path image volume text) names) texts

-- the paths of the sections' kernels
abbrev pub kernel_path : ConfSection → Option Device → List (List ℕ)
kernel_path section None = section.path ∷ []
kernel_path section (Some device) = []

abbrev pub kernel_paths : Config → List (List ℕ)
kernel_paths config = flat_map (λ section. kernel_path section section.other) config.sections

abbrev pub initrd_paths : Config → List (List ℕ)
initrd_paths config = flat_map (λ section. option_to_list section.initrd) config.sections

-- ---- the list of checks

-- the backup's names are none of the map's
abbrev pub has_apart_backup : Names → Config → Device → Bool
has_apart_backup names config boot =
    are_apart_paths (names_pair names config.map) (names_pair names (backup_path config boot))

-- some paths lead to no guarded name
abbrev pub has_apart_files : Image → Volume → Config → List (List ℕ) → Bool
has_apart_files image volume config texts =
    are_apart_files image volume (guarded_names (names_in volume image) config) texts

-- the first option of a configuration that isn't apart, for the device that is to boot
unfoldable pub apart_checks : Image → Machine → Volume → Config → Device → Result (Unit {0}) Opt
apart_checks image machine volume config boot = do
  a ← require (is_apart_device image machine volume boot) options.Boot
  b ← require (list_all (is_apart_device image machine volume) (other_devices config)) options.OtherDevice
  c ← require (list_all (is_apart_device image machine volume) (table_devices config)) options.Table
  d ← require (has_apart_backup (names_in volume image) config boot) (backup_option config)
  e ← require (has_apart_files image volume config (option_to_list config.install)) options.Install
  f ← require (has_apart_files image volume config (option_to_list config.message)) options.Message
  g ← require (has_apart_files image volume config (kernel_paths config)) options.Image
  require (has_apart_files image volume config (initrd_paths config)) options.Initrd

-- Apart: none of them fails
abbrev pub Apart : Image → Machine → Volume → Config → Device → Type 0
Apart image machine volume config boot = apart_checks image machine volume config boot ≡ Ok tt
