-- Which arguments are a command, and how far those that are none can be followed.
use Rattle.std.proofs.Common.{◌≡◌, ◌<◌, ◌≤◌, ℕ, suc, ◌+◌, List, [], ◌∷◌, ◌++◌, length, take, Bool, true, false, refl, arith, append-nil}
use Rattle.std.specs.Prelude.{Some, None, Option, Ok, Err, Result, All, bytes_eq, not, codes}
use Rattle.std.specs.List.{list_all, position_from}
use Rattle.std.proofs.lemmas.Slice.Eq.{bytes_eq-Decides}
use Rattle.std.proofs.lemmas.List.Elements.{All-nil, All-cons}
use Rattle.lilo_model.specs.Devices.{Device, device_at, named_devices, devices_of, device_name, disk_name, partition_name, last_partition}
use Rattle.lilo_model.specs.Words.{Command, IsCommand, Install, Test, Query, SetLine, Restore, Boot, install, test, query, query_device, set_line, restore, boot, boot_dump, is_line_word, is_then, command_from, ended}

-- the argument that a test found
pub same : (word text : List ℕ) → bytes_eq word text ≡ true → word ≡ text
same word text e = (bytes_eq-Decides word text).0 e

differs_by : (word text : List ℕ) (is : Bool) → bytes_eq word text ≡ is → (word ≡ text → ⊥) → bytes_eq word text ≡ false
differs_by word text true e differs = absurd (differs (same word text e))
differs_by word text false e differs = e

-- an argument that is another
pub differs : (word text : List ℕ) → (word ≡ text → ⊥) → bytes_eq word text ≡ false
differs word text other = differs_by word text (bytes_eq word text) refl other

-- a device that has a name
pub first_device : Device
first_device = record { disk = 0; partition = 0 }

pub some_device : device_at (codes "/dev/hda") ≡ Some first_device
unfolding first_device device_at named_devices devices_of device_name disk_name partition_name last_partition
some_device = refl

abbrev pub IsFree : List (List ℕ) → Type 0
IsFree words = All (λ word. is_then word ≡ false) words

pub free_none : IsFree []
free_none = All-nil (λ word. is_then word ≡ false)

pub free_one : (word : List ℕ) → is_then word ≡ false → IsFree (word ∷ [])
free_one word e = All-cons (λ word. is_then word ≡ false) word [] e free_none

-- How far arguments go whose reading fails at one of them, or after the last: those before it can go on, and with it
-- the reading fails whatever follows.
pub record Stuck (Can Fails : List (List ℕ) → Type 0) (words : List (List ℕ)) (place : ℕ) : Type 0 where
  pub within : place ≤ length words
  pub rest : List (List ℕ)
  pub can : Can (take place words ++ rest)
  pub free : IsFree rest
  pub fails : place < length words → (others : List (List ℕ)) → Fails (take (suc place) words ++ others)

abbrev pub CanCommand : List (List ℕ) → Type 0
CanCommand words = (command : Command) × IsCommand words command

abbrev pub JudgedCommand : ℕ → List (List ℕ) → Result Command ℕ → Type 0
JudgedCommand at words (Ok command) = IsCommand words command
JudgedCommand at words (Err wrong) =
    (place : ℕ) × (wrong ≡ at + place) × Stuck CanCommand (λ words. command_from at words ≡ Err wrong) words place

after_test : (at : ℕ) (words : List (List ℕ)) → JudgedCommand at (codes "-t" ∷ words) (ended (at + 1) words Test)
unfolding command_from
after_test at [] = test
after_test at (word ∷ words) =
    (1, refl, record { within = omega arith; rest = []; can = (Test, test); free = free_none; fails = λ less others. refl })

query_by : (at : ℕ) (name : List ℕ) (words : List (List ℕ)) (device : Option Device) → device_at name ≡ device
    → JudgedCommand at (codes "-q" ∷ name ∷ words) (command_from at (codes "-q" ∷ name ∷ words))
unfolding command_from
query_by at name words None e =
    rw e (1, refl, record { within = omega arith; rest = []; can = (Query None, query); free = free_none; fails = λ less others. rw e refl })
query_by at name [] (Some device) e = rw e (query_device name device e)
query_by at name (word ∷ words) (Some device) e =
    rw e (2, omega arith, record { within = omega arith; rest = []; can = (Query (Some device), query_device name device e); free = free_none; fails = λ less others. rw e refl })

after_query : (at : ℕ) (words : List (List ℕ)) → JudgedCommand at (codes "-q" ∷ words) (command_from at (codes "-q" ∷ words))
unfolding command_from
after_query at [] = query
after_query at (name ∷ words) = query_by at name words (device_at name) refl

-- The first element that a test refuses, if there is one: those before it pass, and it is refused whatever follows.
abbrev FirstRefused : (List ℕ → Bool) → ℕ → List (List ℕ) → Option ℕ → Type 0
FirstRefused pass at words None = list_all pass words ≡ true
FirstRefused pass at words (Some wrong) =
    (place : ℕ) × (wrong ≡ at + place) × (place < length words) × (list_all pass (take place words) ≡ true)
    × ((others : List (List ℕ)) → position_from (λ word. not (pass word)) at (take (suc place) words ++ others) ≡ Some wrong)

refused_behind : (pass : List ℕ → Bool) (at : ℕ) (word : List ℕ) (words : List (List ℕ)) (found : Option ℕ)
    → pass word ≡ true → position_from (λ word. not (pass word)) (at + 1) words ≡ found
    → FirstRefused pass (at + 1) words found
    → FirstRefused pass at (word ∷ words) (position_from (λ word. not (pass word)) at (word ∷ words))
refused_behind pass at word words None good e behind = rw (good, e, good) behind
refused_behind pass at word words (Some wrong) good e behind =
    rw (good, e)
    (suc behind.0, omega (arith, behind.1), omega (arith, behind.2), rw good behind.3, λ others. rw good (behind.4 others))

refused_by : (pass : List ℕ → Bool) (at : ℕ) (word : List ℕ) (words : List (List ℕ)) (good : Bool)
    → pass word ≡ good
    → FirstRefused pass (at + 1) words (position_from (λ word. not (pass word)) (at + 1) words)
    → FirstRefused pass at (word ∷ words) (position_from (λ word. not (pass word)) at (word ∷ words))
refused_by pass at word words true good behind =
    refused_behind pass at word words (position_from (λ word. not (pass word)) (at + 1) words) good refl behind
refused_by pass at word words false bad behind =
    rw bad (0, omega arith, omega arith, refl, λ others. rw bad refl)

first_refused : (pass : List ℕ → Bool) (at : ℕ) (words : List (List ℕ))
    → FirstRefused pass at words (position_from (λ word. not (pass word)) at words)
first_refused pass at [] = refl
first_refused pass at (word ∷ words) =
    refused_by pass at word words (pass word) refl (first_refused pass (at + 1) words)

none_refused : (pass : List ℕ → Bool) (at : ℕ) (words : List (List ℕ)) → list_all pass words ≡ true
    → position_from (λ word. not (pass word)) at words ≡ None
none_refused pass at [] all = refl
none_refused pass at (word ∷ words) all =
    let here : pass word ≡ true = grind arith in
    let behind : list_all pass words ≡ true = grind arith in
    rw here (none_refused pass (at + 1) words behind)

line_by : (at : ℕ) (words : List (List ℕ)) (found : Option ℕ)
    → position_from (λ word. not (is_line_word word)) (at + 1) words ≡ found → FirstRefused is_line_word (at + 1) words found
    → JudgedCommand at (codes "-R" ∷ words) (command_from at (codes "-R" ∷ words))
unfolding command_from
line_by at words None e found = rw e (set_line words found)
line_by at words (Some wrong) e found =
    rw e (
      suc found.0,
      omega (arith, found.1),
      record {
        within = omega (arith, found.2);
        rest = [];
        can = (SetLine (take found.0 words ++ []), set_line (take found.0 words ++ []) (rw append-nil found.3));
        free = free_none;
        fails = λ less others. rw (found.4 others) refl;
      },
    )

after_line : (at : ℕ) (words : List (List ℕ)) → JudgedCommand at (codes "-R" ∷ words) (command_from at (codes "-R" ∷ words))
after_line at words =
    line_by at words (position_from (λ word. not (is_line_word word)) (at + 1) words) refl (first_refused is_line_word (at + 1) words)

restore_by : (at : ℕ) (name : List ℕ) (words : List (List ℕ)) (device : Option Device) → device_at name ≡ device
    → JudgedCommand at (codes "-u" ∷ name ∷ words) (command_from at (codes "-u" ∷ name ∷ words))
unfolding command_from
restore_by at name words None e =
    rw e (
      1,
      refl,
      record {
        within = omega arith;
        rest = codes "/dev/hda" ∷ [];
        can = (Restore first_device, restore (codes "/dev/hda") first_device some_device);
        free = free_one (codes "/dev/hda") refl;
        fails = λ less others. rw e refl;
      },
    )
restore_by at name [] (Some device) e = rw e (restore name device e)
restore_by at name (word ∷ words) (Some device) e =
    rw e (
      2,
      omega arith,
      record {
        within = omega arith;
        rest = [];
        can = (Restore device, restore name device e);
        free = free_none;
        fails = λ less others. rw e refl;
      },
    )

after_restore : (at : ℕ) (words : List (List ℕ)) → JudgedCommand at (codes "-u" ∷ words) (command_from at (codes "-u" ∷ words))
unfolding command_from
after_restore at [] = (
  1,
  refl,
  record {
    within = omega arith;
    rest = codes "/dev/hda" ∷ [];
    can = (Restore first_device, restore (codes "/dev/hda") first_device some_device);
    free = free_one (codes "/dev/hda") refl;
    fails = λ less others. absurd (omega arith);
  },
)
after_restore at (name ∷ words) = restore_by at name words (device_at name) refl

dump_by : (at : ℕ) (name word : List ℕ) (words : List (List ℕ)) (device : Device) (dump : Bool)
    → device_at name ≡ Some device → bytes_eq word (codes "--dump") ≡ dump
    → JudgedCommand at (codes "boot" ∷ name ∷ word ∷ words) (command_from at (codes "boot" ∷ name ∷ word ∷ words))
unfolding command_from
dump_by at name word [] device true e is =
    rw (same word (codes "--dump") is, e) (boot_dump name device e)
dump_by at name word (other ∷ words) device true e is =
    rw (same word (codes "--dump") is, e) (
      3,
      omega arith,
      record {
        within = omega arith;
        rest = [];
        can = (Boot device true, boot_dump name device e);
        free = free_none;
        fails = λ less others. rw e refl;
      },
    )
dump_by at name word words device false e isnt =
    rw (e, isnt) (
      2,
      omega arith,
      record {
        within = omega arith;
        rest = [];
        can = (Boot device false, boot name device e);
        free = free_none;
        fails = λ less others. rw (e, isnt) refl;
      },
    )

boot_by : (at : ℕ) (name : List ℕ) (words : List (List ℕ)) (device : Option Device) → device_at name ≡ device
    → JudgedCommand at (codes "boot" ∷ name ∷ words) (command_from at (codes "boot" ∷ name ∷ words))
unfolding command_from
boot_by at name words None e =
    rw e (
      1,
      refl,
      record {
        within = omega arith;
        rest = codes "/dev/hda" ∷ [];
        can = (Boot first_device false, boot (codes "/dev/hda") first_device some_device);
        free = free_one (codes "/dev/hda") refl;
        fails = λ less others. rw e refl;
      },
    )
boot_by at name [] (Some device) e = rw e (boot name device e)
boot_by at name (word ∷ words) (Some device) e = dump_by at name word words device (bytes_eq word (codes "--dump")) e refl

after_boot : (at : ℕ) (words : List (List ℕ)) → JudgedCommand at (codes "boot" ∷ words) (command_from at (codes "boot" ∷ words))
unfolding command_from
after_boot at [] = (
  1,
  refl,
  record {
    within = omega arith;
    rest = codes "/dev/hda" ∷ [];
    can = (Boot first_device false, boot (codes "/dev/hda") first_device some_device);
    free = free_one (codes "/dev/hda") refl;
    fails = λ less others. absurd (omega arith);
  },
)
after_boot at (name ∷ words) = boot_by at name words (device_at name) refl

-- an argument that no command begins with
pub no_command : (at : ℕ) (word : List ℕ) (words : List (List ℕ))
    → bytes_eq word (codes "-t") ≡ false → bytes_eq word (codes "-q") ≡ false → bytes_eq word (codes "-R") ≡ false
    → bytes_eq word (codes "-u") ≡ false → bytes_eq word (codes "boot") ≡ false → command_from at (word ∷ words) ≡ Err at
unfolding command_from
no_command at word words a b c d e = rw (a, b, c, d, e) refl

Judged : ℕ → List ℕ → List (List ℕ) → Type 0
Judged at word words = JudgedCommand at (word ∷ words) (command_from at (word ∷ words))

by_boot : (at : ℕ) (word : List ℕ) (words : List (List ℕ)) (boot : Bool) → bytes_eq word (codes "boot") ≡ boot
    → bytes_eq word (codes "-t") ≡ false → bytes_eq word (codes "-q") ≡ false → bytes_eq word (codes "-R") ≡ false
    → bytes_eq word (codes "-u") ≡ false → Judged at word words
unfolding Judged
by_boot at word words true is a b c d = rw (same word (codes "boot") is) (after_boot at words)
by_boot at word words false isnt a b c d =
    rw (no_command at word words a b c d isnt) (
      0,
      omega arith,
      record {
        within = omega arith;
        rest = [];
        can = (Install, install);
        free = free_none;
        fails = λ less others. no_command at word others a b c d isnt;
      },
    )

by_restore : (at : ℕ) (word : List ℕ) (words : List (List ℕ)) (restore : Bool) → bytes_eq word (codes "-u") ≡ restore
    → bytes_eq word (codes "-t") ≡ false → bytes_eq word (codes "-q") ≡ false → bytes_eq word (codes "-R") ≡ false
    → Judged at word words
unfolding Judged
by_restore at word words true is a b c = rw (same word (codes "-u") is) (after_restore at words)
by_restore at word words false isnt a b c = by_boot at word words (bytes_eq word (codes "boot")) refl a b c isnt

by_line : (at : ℕ) (word : List ℕ) (words : List (List ℕ)) (line : Bool) → bytes_eq word (codes "-R") ≡ line
    → bytes_eq word (codes "-t") ≡ false → bytes_eq word (codes "-q") ≡ false → Judged at word words
unfolding Judged
by_line at word words true is a b = rw (same word (codes "-R") is) (after_line at words)
by_line at word words false isnt a b = by_restore at word words (bytes_eq word (codes "-u")) refl a b isnt

by_query : (at : ℕ) (word : List ℕ) (words : List (List ℕ)) (query : Bool) → bytes_eq word (codes "-q") ≡ query
    → bytes_eq word (codes "-t") ≡ false → Judged at word words
unfolding Judged
by_query at word words true is a = rw (same word (codes "-q") is) (after_query at words)
by_query at word words false isnt a = by_line at word words (bytes_eq word (codes "-R")) refl a isnt

by_test : (at : ℕ) (word : List ℕ) (words : List (List ℕ)) (test : Bool) → bytes_eq word (codes "-t") ≡ test → Judged at word words
unfolding Judged command_from
by_test at word words true is = rw (same word (codes "-t") is) (after_test at words)
by_test at word words false isnt = by_query at word words (bytes_eq word (codes "-q")) refl isnt

-- what a reading of a command says of the arguments
pub judged_command : (at : ℕ) (words : List (List ℕ)) → JudgedCommand at words (command_from at words)
unfolding Judged command_from
judged_command at [] = install
judged_command at (word ∷ words) = by_test at word words (bytes_eq word (codes "-t")) refl

-- a command is read
pub command_from-IsCommand : (at : ℕ) (words : List (List ℕ)) (command : Command) → IsCommand words command
    → command_from at words ≡ Ok command
unfolding command_from
command_from-IsCommand at _ _ install = refl
command_from-IsCommand at _ _ test = refl
command_from-IsCommand at _ _ query = refl
command_from-IsCommand at _ _ (query_device name device e) = rw e refl
command_from-IsCommand at _ _ (set_line words all) = rw (none_refused is_line_word (at + 1) words all) refl
command_from-IsCommand at _ _ (restore name device e) = rw e refl
command_from-IsCommand at _ _ (boot name device e) = rw e refl
command_from-IsCommand at _ _ (boot_dump name device e) = rw e refl
