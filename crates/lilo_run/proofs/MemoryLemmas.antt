-- Runs of which no part boots.
use Rattle.std.proofs.Common.{◌≡◌, ℕ, Bool, true, false, ◌||◌, List, [], ◌∷◌, Option, Some, None, Result, Ok, Err, refl}
use Rattle.lilo_model.specs.ConfVerdict.{conf_path, place_at}
use Rattle.lilo_model.specs.Prompt.{Key}
use Rattle.lilo_model.specs.Disks.{Image, Machine, Span}
use Rattle.lilo_model.specs.Refusal.{DeviceFault}
use Rattle.lilo_model.specs.Devices.{Device}
use Rattle.lilo_model.specs.Words as words
use Rattle.lilo_model.specs.Words.{Command, Part, run_at}
use Rattle.lilo_run.specs.Verdict.{Left, query_effect, report_effect, boot_effect, install_effect, test_effect, line_effect, restore_effect, conf_query_effect, command_effect, part_effect, parts_effects, words_effects, effects_of, image_after, first_left, later_lefts, run_left, is_boot, has_boot, run_boots}
use Rattle.lilo_run.proofs.RunLemmas.{no_boot_first}

boot_boots :
    (now : Image) (machine : Machine) (memory : ℕ) (dump : Bool) (place : Result Span DeviceFault) (keys : List Key)
    → (boot_effect now machine memory dump place keys).boots ≡ true
unfolding boot_effect report_effect
boot_boots now machine memory dump (Ok span) keys = refl
boot_boots now machine memory dump (Err fault) keys = refl

-- a command's effect says whether it boots
pub boots_by :
    (now : Image) (machine : Machine) (memory time : ℕ) (root : Option Device) (path : List ℕ) (command : Command) (left : Left) (keys : List Key)
    → (command_effect now machine memory time root path command left keys).boots ≡ is_boot command
unfolding command_effect query_effect conf_query_effect install_effect test_effect line_effect restore_effect
boots_by now machine memory time root path words.Install left keys = refl
boots_by now machine memory time root path words.Test left keys = refl
boots_by now machine memory time root path (words.Query None) left keys = refl
boots_by now machine memory time root path (words.Query (Some device)) left keys = refl
boots_by now machine memory time root path (words.SetLine line) left keys = refl
boots_by now machine memory time root path (words.Restore device) left keys = refl
boots_by now machine memory time root path (words.Boot device dump) left keys = boot_boots now machine memory dump (place_at now machine device) keys

-- one that doesn't boot takes no key, and is the same in a memory of any size
record IsKeyless (now : Image) (machine : Machine) (memory other time : ℕ) (root : Option Device) (path : List ℕ) (command : Command) (found : Left) (keys : List Key) : Type 0 where
  pub same : command_effect now machine memory time root path command found keys ≡ command_effect now machine other time root path command found keys
  pub left : (command_effect now machine memory time root path command found keys).left ≡ keys

keyless :
    (now : Image) (machine : Machine) (memory other time : ℕ) (root : Option Device) (path : List ℕ) (command : Command) (found : Left) (keys : List Key) → is_boot command ≡ false
    → IsKeyless now machine memory other time root path command found keys
unfolding command_effect
keyless now machine memory other time root path words.Install found keys none = record { same = refl; left = refl }
keyless now machine memory other time root path words.Test found keys none = record { same = refl; left = refl }
keyless now machine memory other time root path (words.Query device) found keys none = record { same = refl; left = refl }
keyless now machine memory other time root path (words.SetLine line) found keys none = record { same = refl; left = refl }
keyless now machine memory other time root path (words.Restore device) found keys none = record { same = refl; left = refl }
keyless now machine memory other time root path (words.Boot device dump) found keys none = absurd cc

parts_same :
    (machine : Machine) (memory other time : ℕ) (now : Image) (parts : List Part) (lefts : List Left) (keys : List Key) → has_boot parts ≡ false
    → parts_effects (part_effect machine memory time) now parts lefts keys ≡ parts_effects (part_effect machine other time) now parts lefts keys
parts_same machine memory other time now [] lefts keys none = refl
parts_same machine memory other time now (part ∷ parts) lefts keys none =
    let both = no_boot_first part parts none in
    let found = first_left now lefts in
    let first = (keyless now machine memory other time part.root (conf_path part.config) part.command found keys both.0).same in
    let effect = part_effect machine other time now part found keys in
    let rest = parts_same machine memory other time (image_after effect now) parts (later_lefts lefts) effect.left both.1 in
    rw (first, rest) refl

words_same :
    (machine : Machine) (memory other time : ℕ) (now : Image) (words : List (List ℕ)) (lefts : List Left) (keys : List Key) (run : Result (List Part) (Option ℕ)) → run_boots run ≡ false
    → words_effects (part_effect machine memory time) now words lefts keys run ≡ words_effects (part_effect machine other time) now words lefts keys run
words_same machine memory other time now words lefts keys (Ok parts) none = parts_same machine memory other time now parts lefts keys none
words_same machine memory other time now words lefts keys (Err wrong) none = refl

-- what arguments do is the same in a memory of any size
pub same_in_any_memory :
    (now : Image) (machine : Machine) (memory other time : ℕ) (words : List (List ℕ)) (lefts : List Left) (keys : List Key) → run_boots (run_at words) ≡ false
    → effects_of now machine memory time words lefts keys ≡ effects_of now machine other time words lefts keys
unfolding effects_of
same_in_any_memory now machine memory other time words lefts keys none = words_same machine memory other time now words lefts keys (run_at words) none

parts_left :
    (machine : Machine) (memory time : ℕ) (now : Image) (parts : List Part) (lefts : List Left) (keys : List Key) → has_boot parts ≡ false
    → run_left keys (parts_effects (part_effect machine memory time) now parts lefts keys) ≡ keys
parts_left machine memory time now [] lefts keys none = refl
parts_left machine memory time now (part ∷ parts) lefts keys none =
    let both = no_boot_first part parts none in
    let found = first_left now lefts in
    let first = (keyless now machine memory memory time part.root (conf_path part.config) part.command found keys both.0).left in
    let rest = parts_left machine memory time (image_after (part_effect machine memory time now part found keys) now) parts (later_lefts lefts) keys both.1 in
    rw first rest

words_left :
    (machine : Machine) (memory time : ℕ) (now : Image) (words : List (List ℕ)) (lefts : List Left) (keys : List Key) (run : Result (List Part) (Option ℕ)) → run_boots run ≡ false
    → run_left keys (words_effects (part_effect machine memory time) now words lefts keys run) ≡ keys
words_left machine memory time now words lefts keys (Ok parts) none = parts_left machine memory time now parts lefts keys none
words_left machine memory time now words lefts keys (Err wrong) none = refl

-- without a boot all keys are left
pub all_are_left :
    (now : Image) (machine : Machine) (memory time : ℕ) (words : List (List ℕ)) (lefts : List Left) (keys : List Key) → run_boots (run_at words) ≡ false
    → run_left keys (effects_of now machine memory time words lefts keys) ≡ keys
unfolding effects_of
all_are_left now machine memory time words lefts keys none = words_left machine memory time now words lefts keys (run_at words) none

first_by : (first rest : Bool) → first ≡ true → (first || rest) ≡ true
first_by true rest is = refl
first_by false rest is = absurd cc

rest_by : (first rest : Bool) → first ≡ false → (first || rest) ≡ rest
rest_by true rest is = absurd cc
rest_by false rest is = refl

-- a run whose first part boots
pub boots_first : (part : Part) (parts all : List Part) → all ≡ part ∷ parts → is_boot part.command ≡ true → has_boot all ≡ true
unfolding has_boot
boots_first part parts all is boots = rw is (first_by (is_boot part.command) (has_boot parts) boots)

-- one whose first part doesn't boots where the others do
pub boots_later : (part : Part) (parts all : List Part) → all ≡ part ∷ parts → is_boot part.command ≡ false → has_boot all ≡ has_boot parts
unfolding has_boot
boots_later part parts all is none = rw is (rest_by (is_boot part.command) (has_boot parts) none)

pub none_boots : has_boot [] ≡ false
unfolding has_boot
none_boots = refl
