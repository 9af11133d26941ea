-- What is read of arguments from one place to before another.
use Rattle.std.proofs.Common.{◌≡◌, ◌<◌, ◌≤◌, inl, inr, ℕ, ◌+◌, List, ◌∷◌, length, true, false, refl, arith}
use Rattle.std.specs.Prelude.{Some, None, Option, Ok, Err, Result, ◌==◌, if◌then◌else◌, slice_get, slice_range, not, bytes_eq, codes}
use Rattle.std.specs.List.{position_from}
use Rattle.std.proofs.lemmas.Bool.{cases_lt, ne_eqb, eq-eqb}
use Rattle.lilo_model.specs.Checks.{seen}
use Rattle.lilo_model.specs.Devices as devices
use Rattle.lilo_model.specs.Words as model
use Rattle.lilo_model.specs.Words.{ended, device_or, named_from, command_from, line_from, query_from, restore_from, dump_from, boot_from, is_line_word, path_from}
use Rattle.lilo_words.specs.declared.part.Command.{Command}
use Rattle.lilo_words.specs.View.{command_view}
use Rattle.lilo_words.proofs.Ranges.{range_empty, range_word, range_some, range_rest}

-- a command after which nothing may come
pub ended_seen : (words : List (List ℕ)) (command : Command) (at end : ℕ) (read : Result Command ℕ) → at ≤ end → end ≤ length words
    → read ≡ (if at == end then Ok command else Err at)
    → seen {F = ℕ} {G = ℕ} (command_view words) (λ place. place) read ≡ ended at (slice_range words at end) (command_view words command)
ended_seen words command at end read before within e =
    elim (cases_lt at end) [
      | inl less ↦ rw (e, ne_eqb at end (λ same. omega arith), range_some words at end less within) refl
      | inr past ↦ (let same : at ≡ end = omega arith in rw (e, eq-eqb at end same, range_empty words at end past) refl)
    ]

pub named_from-word : (words : List (List ℕ)) (at end : ℕ) (name : List ℕ) (device : Option devices.Device) → at < end → end ≤ length words
    → slice_get words at ≡ Some name → devices.device_at name ≡ device → named_from at (slice_range words at end) ≡ device_or at device
named_from-word words at end name device less within e found = rw (range_word words at end name less within e, found) refl

pub query_from-named : (words : List (List ℕ)) (at end : ℕ) (device : devices.Device) → at < end → end ≤ length words
    → Ok device ≡ named_from at (slice_range words at end)
    → query_from at (slice_range words at end) ≡ ended (at + 1) (slice_range words (at + 1) end) (model.Query (Some device))
query_from-named words at end device less within e =
    rw (range_some words at end less within, ← rw (range_some words at end less within) at e) refl

pub restore_from-named : (words : List (List ℕ)) (at end : ℕ) (device : devices.Device) → at < end → end ≤ length words
    → Ok device ≡ named_from at (slice_range words at end)
    → restore_from at (slice_range words at end) ≡ ended (at + 1) (slice_range words (at + 1) end) (model.Restore device)
restore_from-named words at end device less within e = rw (← e, range_rest words at end less within) refl

pub boot_from-named : (words : List (List ℕ)) (at end : ℕ) (device : devices.Device) → at < end → end ≤ length words
    → Ok device ≡ named_from at (slice_range words at end)
    → boot_from at (slice_range words at end) ≡ dump_from (at + 1) (slice_range words (at + 1) end) device
boot_from-named words at end device less within e = rw (← e, range_rest words at end less within) refl

pub dump_from-other : (words : List (List ℕ)) (at end : ℕ) (word : List ℕ) (device : devices.Device) → at < end → end ≤ length words
    → slice_get words at ≡ Some word → bytes_eq word (codes "--dump") ≡ false
    → dump_from at (slice_range words at end) device ≡ Err at
dump_from-other words at end word device less within e isnt = rw (range_word words at end word less within e, isnt) refl

pub dump_from-dump : (words : List (List ℕ)) (at end : ℕ) (word : List ℕ) (device : devices.Device) → at < end → end ≤ length words
    → slice_get words at ≡ Some word → bytes_eq word (codes "--dump") ≡ true
    → dump_from at (slice_range words at end) device ≡ ended (at + 1) (slice_range words (at + 1) end) (model.Boot device true)
dump_from-dump words at end word device less within e is = rw (range_word words at end word less within e, is) refl

-- words of a line, one after another
abbrev pub bad_from : ℕ → List (List ℕ) → Option ℕ
bad_from at words = position_from (λ word. not (is_line_word word)) at words

pub bad_from-good : (words : List (List ℕ)) (at end : ℕ) (word : List ℕ) → at < end → end ≤ length words
    → slice_get words at ≡ Some word → is_line_word word ≡ true
    → bad_from at (slice_range words at end) ≡ bad_from (at + 1) (slice_range words (at + 1) end)
bad_from-good words at end word less within e good = rw (range_word words at end word less within e, good) refl

pub bad_from-bad : (words : List (List ℕ)) (at end : ℕ) (word : List ℕ) → at < end → end ≤ length words
    → slice_get words at ≡ Some word → is_line_word word ≡ false
    → bad_from at (slice_range words at end) ≡ Some at
bad_from-bad words at end word less within e bad = rw (range_word words at end word less within e, bad) refl

pub bad_from-end : (words : List (List ℕ)) (at end : ℕ) → end ≤ at → bad_from at (slice_range words at end) ≡ None
bad_from-end words at end past = rw (range_empty words at end past) refl

pub path_from-word : (words : List (List ℕ)) (at end : ℕ) (word : List ℕ) → at < end → end ≤ length words
    → slice_get words at ≡ Some word
    → path_from at (slice_range words at end) ≡ (if model.is_path word then Ok word else Err at)
path_from-word words at end word less within e = rw (range_word words at end word less within e) refl

-- the first argument of a command
pub command_from-word : (words : List (List ℕ)) (at end : ℕ) (word : List ℕ) → at < end → end ≤ length words
    → slice_get words at ≡ Some word
    → command_from at (slice_range words at end) ≡ command_from at (word ∷ slice_range words (at + 1) end)
command_from-word words at end word less within e = rw (range_word words at end word less within e) refl

pub command_from-none : (words : List (List ℕ)) (at end : ℕ) → end ≤ at → command_from at (slice_range words at end) ≡ Ok model.Install
unfolding command_from
command_from-none words at end past = rw (range_empty words at end past) refl

pub command_from-test : (at : ℕ) (word : List ℕ) (rest : List (List ℕ)) → word ≡ codes "-t"
    → command_from at (word ∷ rest) ≡ ended (at + 1) rest model.Test
unfolding command_from
command_from-test at word rest is = rw is refl

pub command_from-query : (at : ℕ) (word : List ℕ) (rest : List (List ℕ)) → word ≡ codes "-q"
    → command_from at (word ∷ rest) ≡ query_from (at + 1) rest
unfolding command_from
command_from-query at word rest is = rw is refl

pub command_from-line : (at : ℕ) (word : List ℕ) (rest : List (List ℕ)) → word ≡ codes "-R"
    → command_from at (word ∷ rest) ≡ line_from (at + 1) rest
unfolding command_from
command_from-line at word rest is = rw is refl

pub command_from-restore : (at : ℕ) (word : List ℕ) (rest : List (List ℕ)) → word ≡ codes "-u"
    → command_from at (word ∷ rest) ≡ restore_from (at + 1) rest
unfolding command_from
command_from-restore at word rest is = rw is refl

pub command_from-boot : (at : ℕ) (word : List ℕ) (rest : List (List ℕ)) → word ≡ codes "boot"
    → command_from at (word ∷ rest) ≡ boot_from (at + 1) rest
unfolding command_from
command_from-boot at word rest is = rw is refl
