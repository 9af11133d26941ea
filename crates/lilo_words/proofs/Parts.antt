-- Which arguments are a part, and how far those that are none can be followed.
use Rattle.std.proofs.Common.{◌≡◌, ℕ, suc, ◌+◌, List, [], ◌∷◌, ◌++◌, take, Bool, true, false, refl, arith}
use Rattle.std.specs.Prelude.{Some, None, Option, Ok, Err, Result, bytes_eq, not, is_none, codes, ◌&&◌, ◌||◌}
use Rattle.lilo_model.specs.Devices.{Device, device_at}
use Rattle.lilo_model.specs.Words.{Command, Part, IsCommand, IsPartBehind, Install, install, test, query, query_device, set_line, restore, boot, boot_dump, at_command, at_config, at_root, at_verbose, with_config, with_root, with_verbose, with_command, is_path, is_config, is_root, is_verbose, command_from, commanded, part_from}
use Rattle.lilo_words.proofs.Commands.{same, first_device, some_device, free_one, Stuck, JudgedCommand, judged_command, command_from-IsCommand}

abbrev pub CanPart : Part → List (List ℕ) → Type 0
CanPart part words = (whole : Part) × IsPartBehind part words whole

abbrev pub JudgedPart : ℕ → Part → List (List ℕ) → Result Part ℕ → Type 0
JudgedPart at part words (Ok whole) = IsPartBehind part words whole
JudgedPart at part words (Err wrong) =
    (place : ℕ) × (wrong ≡ at + place)
    × Stuck (CanPart part) (λ words. part_from at part words ≡ Err wrong) words place

abbrev Judged : ℕ → Part → List (List ℕ) → Type 0
Judged at part words = JudgedPart at part words (part_from at part words)

-- ---- the parts of a test

pub and_first : (a b : Bool) → (a && b) ≡ true → a ≡ true
and_first true b both = refl
and_first false b both = both

pub and_second : (a b : Bool) → (a && b) ≡ true → b ≡ true
and_second true b both = both
and_second false b both = cc

pub none_there : {X : Type 0} (o : Option X) → is_none o ≡ true → o ≡ None
none_there None e = refl
none_there (Some x) e = cc

pub not_set : (b : Bool) → not b ≡ true → b ≡ false
not_set true e = cc
not_set false e = refl

-- the path that begins a continuation
root_path : List ℕ
root_path = codes "/"

-- ---- where a command is

pub not_option : (at : ℕ) (part : Part) (word : List ℕ) (words : List (List ℕ))
    → is_config part word ≡ false → is_root part word ≡ false → is_verbose part word ≡ false
    → part_from at part (word ∷ words) ≡ commanded at part (word ∷ words)
unfolding part_from
not_option at part word [] a b c = rw (a, b, c) refl
not_option at part word (value ∷ words) a b c = rw (a, b, c) refl

commanded_by : (at : ℕ) (part : Part) (word : List ℕ) (words : List (List ℕ)) (read : Result Command ℕ)
    → command_from at (word ∷ words) ≡ read
    → ((others : List (List ℕ)) → part_from at part (word ∷ others) ≡ commanded at part (word ∷ others))
    → JudgedCommand at (word ∷ words) read → Judged at part (word ∷ words)
commanded_by at part word words (Ok command) e goes judged =
    rw (goes words, e) (at_command part (word ∷ words) command judged)
commanded_by at part word words (Err wrong) e goes judged =
    let stuck = judged.2 in
    rw (goes words, e) (
      judged.0,
      judged.1,
      record {
        within = stuck.within;
        rest = stuck.rest;
        can = (with_command part stuck.can.0, at_command part (take judged.0 (word ∷ words) ++ stuck.rest) stuck.can.0 stuck.can.1);
        free = stuck.free;
        fails = λ less others. rw (goes (take judged.0 words ++ others), stuck.fails less others) refl;
      },
    )

at_a_command : (at : ℕ) (part : Part) (word : List ℕ) (words : List (List ℕ))
    → is_config part word ≡ false → is_root part word ≡ false → is_verbose part word ≡ false
    → Judged at part (word ∷ words)
at_a_command at part word words a b c =
    commanded_by at part word words (command_from at (word ∷ words)) refl
    (λ others. not_option at part word others a b c) (judged_command at (word ∷ words))

-- ---- `-C`

config_from : (at : ℕ) (part : Part) (path : List ℕ) (words : List (List ℕ))
    → part.config ≡ None → is_path path ≡ true
    → part_from at part (codes "-C" ∷ path ∷ words) ≡ part_from (at + 2) (with_config part path) words
unfolding part_from
config_from at part path words none is = rw (none, is) refl

config_behind : (at : ℕ) (part : Part) (path : List ℕ) (words : List (List ℕ)) (read : Result Part ℕ)
    → part.config ≡ None → is_path path ≡ true
    → JudgedPart (at + 2) (with_config part path) words read
    → JudgedPart at part (codes "-C" ∷ path ∷ words) read
config_behind at part path words (Ok whole) none is judged = at_config part path words whole none is judged
config_behind at part path words (Err wrong) none is judged =
    let stuck = judged.2 in (
      suc (suc judged.0),
      omega (arith, judged.1),
      record {
        within = omega (arith, stuck.within);
        rest = stuck.rest;
        can = (stuck.can.0, at_config part path (take judged.0 words ++ stuck.rest) stuck.can.0 none is stuck.can.1);
        free = stuck.free;
        fails = λ less others.
            rw (config_from at part path (take (suc judged.0) words ++ others) none is)
            (stuck.fails (omega arith) others);
      },
    )

no_path : (at : ℕ) (part : Part) (value : List ℕ) (words : List (List ℕ))
    → part.config ≡ None → is_path value ≡ false → part_from at part (codes "-C" ∷ value ∷ words) ≡ Err (at + 1)
unfolding part_from
no_path at part value words none isnt = rw (none, isnt) refl

-- `-C` alone can go on with a path
bare_config : (part : Part) → part.config ≡ None → CanPart part (codes "-C" ∷ root_path ∷ [])
unfolding root_path
bare_config part none = (
  with_command (with_config part root_path) Install,
  at_config part root_path [] (with_command (with_config part root_path) Install) none refl (at_command (with_config part root_path) [] Install install),
)

config_by : (at : ℕ) (part : Part) (value : List ℕ) (words : List (List ℕ)) (path : Bool)
    → is_path value ≡ path → part.config ≡ None → Judged (at + 2) (with_config part value) words
    → Judged at part (codes "-C" ∷ value ∷ words)
config_by at part value words true is none judged =
    rw (config_from at part value words none is)
    (config_behind at part value words (part_from (at + 2) (with_config part value) words) none is judged)
config_by at part value words false isnt none judged =
    rw (no_path at part value words none isnt) (
      1,
      refl,
      record {
        within = omega arith;
        rest = root_path ∷ [];
        can = bare_config part none;
        free = free_one root_path (unfold root_path in refl);
        fails = λ less others. no_path at part value others none isnt;
      },
    )

-- ---- `--root`

root_from : (at : ℕ) (part : Part) (name : List ℕ) (device : Device) (words : List (List ℕ))
    → part.root ≡ None → device_at name ≡ Some device
    → part_from at part (codes "--root" ∷ name ∷ words) ≡ part_from (at + 2) (with_root part device) words
unfolding part_from
root_from at part name device words none e = rw (none, e) refl

root_behind : (at : ℕ) (part : Part) (name : List ℕ) (device : Device) (words : List (List ℕ)) (read : Result Part ℕ)
    → part.root ≡ None → device_at name ≡ Some device
    → JudgedPart (at + 2) (with_root part device) words read
    → JudgedPart at part (codes "--root" ∷ name ∷ words) read
root_behind at part name device words (Ok whole) none e judged = at_root part name device words whole none e judged
root_behind at part name device words (Err wrong) none e judged =
    let stuck = judged.2 in (
      suc (suc judged.0),
      omega (arith, judged.1),
      record {
        within = omega (arith, stuck.within);
        rest = stuck.rest;
        can = (stuck.can.0, at_root part name device (take judged.0 words ++ stuck.rest) stuck.can.0 none e stuck.can.1);
        free = stuck.free;
        fails = λ less others.
            rw (root_from at part name device (take (suc judged.0) words ++ others) none e)
            (stuck.fails (omega arith) others);
      },
    )

no_device : (at : ℕ) (part : Part) (value : List ℕ) (words : List (List ℕ))
    → part.root ≡ None → device_at value ≡ None → part_from at part (codes "--root" ∷ value ∷ words) ≡ Err (at + 1)
unfolding part_from
no_device at part value words none e = rw (none, e) refl

-- `--root` alone can go on with a device
bare_root : (part : Part) → part.root ≡ None → CanPart part (codes "--root" ∷ codes "/dev/hda" ∷ [])
bare_root part none = (
  with_command (with_root part first_device) Install,
  at_root part (codes "/dev/hda") first_device [] (with_command (with_root part first_device) Install) none some_device
      (at_command (with_root part first_device) [] Install install),
)

root_by : (at : ℕ) (part : Part) (value : List ℕ) (words : List (List ℕ)) (device : Option Device)
    → device_at value ≡ device → part.root ≡ None
    → ((found : Device) → Judged (at + 2) (with_root part found) words)
    → Judged at part (codes "--root" ∷ value ∷ words)
root_by at part value words (Some device) e none judged =
    rw (root_from at part value device words none e)
    (root_behind at part value device words (part_from (at + 2) (with_root part device) words) none e (judged device))
root_by at part value words None e none judged =
    rw (no_device at part value words none e) (
      1,
      refl,
      record {
        within = omega arith;
        rest = codes "/dev/hda" ∷ [];
        can = bare_root part none;
        free = free_one (codes "/dev/hda") refl;
        fails = λ less others. no_device at part value others none e;
      },
    )

-- ---- `-v`

pub verbose_from : (at : ℕ) (part : Part) (words : List (List ℕ)) → part.verbose ≡ false
    → part_from at part (codes "-v" ∷ words) ≡ part_from (at + 1) (with_verbose part) words
unfolding part_from
verbose_from at part [] unset = rw unset refl
verbose_from at part (value ∷ words) unset = rw unset refl

verbose_behind : (at : ℕ) (part : Part) (words : List (List ℕ)) (read : Result Part ℕ)
    → part.verbose ≡ false → JudgedPart (at + 1) (with_verbose part) words read
    → JudgedPart at part (codes "-v" ∷ words) read
verbose_behind at part words (Ok whole) unset judged = at_verbose part words whole unset judged
verbose_behind at part words (Err wrong) unset judged =
    let stuck = judged.2 in (
      suc judged.0,
      omega (arith, judged.1),
      record {
        within = omega (arith, stuck.within);
        rest = stuck.rest;
        can = (stuck.can.0, at_verbose part (take judged.0 words ++ stuck.rest) stuck.can.0 unset stuck.can.1);
        free = stuck.free;
        fails = λ less others.
            rw (verbose_from at part (take (suc judged.0) words ++ others) unset)
            (stuck.fails (omega arith) others);
      },
    )

at_verbose_word : (at : ℕ) (part : Part) (words : List (List ℕ)) → part.verbose ≡ false
    → Judged (at + 1) (with_verbose part) words → Judged at part (codes "-v" ∷ words)
at_verbose_word at part words unset judged =
    rw (verbose_from at part words unset)
    (verbose_behind at part words (part_from (at + 1) (with_verbose part) words) unset judged)

-- ---- an option without its value at the end

no_value : (at : ℕ) (part : Part) (word : List ℕ) → (is_config part word || is_root part word) ≡ true
    → part_from at part (word ∷ []) ≡ Err (at + 1)
unfolding part_from
no_value at part word is = rw is refl

nothing_behind : (at : ℕ) (part : Part) → Judged at part []
unfolding part_from command_from
nothing_behind at part = at_command part [] Install install

-- ---- all arguments, by what the first of them is

by_verbose : (at : ℕ) (part : Part) (word : List ℕ) (words : List (List ℕ)) (verbose : Bool)
    → is_verbose part word ≡ verbose → is_config part word ≡ false → is_root part word ≡ false
    → Judged (at + 1) (with_verbose part) words → Judged at part (word ∷ words)
by_verbose at part word words true is a b judged =
    rw (same word (codes "-v") (and_first (bytes_eq word (codes "-v")) (not part.verbose) is))
    (at_verbose_word at part words (not_set part.verbose (and_second (bytes_eq word (codes "-v")) (not part.verbose) is)) judged)
by_verbose at part word words false isnt a b judged = at_a_command at part word words a b isnt

by_root : (at : ℕ) (part : Part) (word value : List ℕ) (words : List (List ℕ)) (root : Bool)
    → is_root part word ≡ root → is_config part word ≡ false
    → ((found : Device) → Judged (at + 2) (with_root part found) words)
    → Judged (at + 1) (with_verbose part) (value ∷ words)
    → Judged at part (word ∷ value ∷ words)
by_root at part word value words true is a judged unused =
    rw (same word (codes "--root") (and_first (bytes_eq word (codes "--root")) (is_none part.root) is))
    (root_by at part value words (device_at value) refl
    (none_there part.root (and_second (bytes_eq word (codes "--root")) (is_none part.root) is)) judged)
by_root at part word value words false isnt a unused judged =
    by_verbose at part word (value ∷ words) (is_verbose part word) refl a isnt judged

by_config : (at : ℕ) (part : Part) (word value : List ℕ) (words : List (List ℕ)) (config : Bool)
    → is_config part word ≡ config
    → Judged (at + 2) (with_config part value) words
    → ((found : Device) → Judged (at + 2) (with_root part found) words)
    → Judged (at + 1) (with_verbose part) (value ∷ words)
    → Judged at part (word ∷ value ∷ words)
by_config at part word value words true is judged unused other =
    rw (same word (codes "-C") (and_first (bytes_eq word (codes "-C")) (is_none part.config) is))
    (config_by at part value words (is_path value) refl
    (none_there part.config (and_second (bytes_eq word (codes "-C")) (is_none part.config) is)) judged)
by_config at part word value words false isnt unused root verbose =
    by_root at part word value words (is_root part word) refl isnt root verbose

last_root : (at : ℕ) (part : Part) (word : List ℕ) (root : Bool)
    → is_root part word ≡ root → is_config part word ≡ false → Judged at part (word ∷ [])
last_root at part word true is a =
    let none = none_there part.root (and_second (bytes_eq word (codes "--root")) (is_none part.root) is) in
    let named = same word (codes "--root") (and_first (bytes_eq word (codes "--root")) (is_none part.root) is) in
    rw (no_value at part word (rw (a, is) refl)) (
      1,
      refl,
      record {
        within = omega arith;
        rest = codes "/dev/hda" ∷ [];
        can = rw named (bare_root part none);
        free = free_one (codes "/dev/hda") refl;
        fails = λ less others. absurd (omega arith);
      },
    )
last_root at part word false isnt a =
    by_verbose at part word [] (is_verbose part word) refl a isnt (nothing_behind (at + 1) (with_verbose part))

last_config : (at : ℕ) (part : Part) (word : List ℕ) (config : Bool)
    → is_config part word ≡ config → Judged at part (word ∷ [])
last_config at part word true is =
    let none = none_there part.config (and_second (bytes_eq word (codes "-C")) (is_none part.config) is) in
    let named = same word (codes "-C") (and_first (bytes_eq word (codes "-C")) (is_none part.config) is) in
    rw (no_value at part word (rw is refl)) (
      1,
      refl,
      record {
        within = omega arith;
        rest = root_path ∷ [];
        can = rw named (bare_config part none);
        free = free_one root_path (unfold root_path in refl);
        fails = λ less others. absurd (omega arith);
      },
    )
last_config at part word false isnt = last_root at part word (is_root part word) refl isnt

-- what a reading of a part says of the arguments
pub judged_part : (at : ℕ) (part : Part) (words : List (List ℕ)) → JudgedPart at part words (part_from at part words)
judged_part at part [] = nothing_behind at part
judged_part at part (word ∷ []) = last_config at part word (is_config part word) refl
judged_part at part (word ∷ (value ∷ words)) =
    by_config at part word value words (is_config part word) refl
    (judged_part (at + 2) (with_config part value) words)
    (λ found. judged_part (at + 2) (with_root part found) words)
    (judged_part (at + 1) (with_verbose part) (value ∷ words))

-- ---- a part is read

at_command_read : (at : ℕ) (part : Part) (words : List (List ℕ)) (command : Command) → IsCommand words command
    → part_from at part words ≡ commanded at part words
unfolding part_from
at_command_read at part _ _ install = refl
at_command_read at part _ _ test = refl
at_command_read at part _ _ query = refl
at_command_read at part _ _ (query_device name device e) = refl
at_command_read at part _ _ (set_line words all) = not_option at part (codes "-R") words refl refl refl
at_command_read at part _ _ (restore name device e) = refl
at_command_read at part _ _ (boot name device e) = refl
at_command_read at part _ _ (boot_dump name device e) = refl

pub part_from-IsPartBehind : (at : ℕ) (part : Part) (words : List (List ℕ)) (whole : Part)
    → IsPartBehind part words whole → part_from at part words ≡ Ok whole
part_from-IsPartBehind at _ _ _ (at_command part words command is) =
    rw (at_command_read at part words command is, command_from-IsCommand at words command is) refl
part_from-IsPartBehind at _ _ _ (at_config part path words whole none is behind) =
    rw (config_from at part path words none is) (part_from-IsPartBehind (at + 2) (with_config part path) words whole behind)
part_from-IsPartBehind at _ _ _ (at_root part name device words whole none e behind) =
    rw (root_from at part name device words none e) (part_from-IsPartBehind (at + 2) (with_root part device) words whole behind)
part_from-IsPartBehind at _ _ _ (at_verbose part words whole unset behind) =
    rw (verbose_from at part words unset) (part_from-IsPartBehind (at + 1) (with_verbose part) words whole behind)
