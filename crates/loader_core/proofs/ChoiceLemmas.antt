-- What a choice from a good map comes to, whatever its message is.
use Rattle.std.proofs.Common.{◌≡◌, ℕ, zero, suc, Bool, true, false, if◌then◌else◌, refl, sym, ap, List, [], ◌∷◌, length, map, zip, slice_get, Option, None, Some, option_map, Result, Ok, Err, arith}
use Rattle.lilo_model.specs.Checks.{◌>>=◌, each}
use Rattle.std.specs.Result.{result_ok}
use Rattle.std.proofs.lemmas.Slice.Eq.{bytes_eq-Decides}
use Rattle.lilo_model.specs.Disks.{Image, Machine, DiskSector}
use Rattle.lilo_model.specs.BootSector as maps
use Rattle.lilo_model.specs.BootSector.{BootSector}
use Rattle.lilo_model.specs.Slots as slots
use Rattle.lilo_model.specs.Slots.{place_at}
use Rattle.lilo_model.specs.Table.{Descriptor, password_flag, table_at}
use Rattle.lilo_model.specs.LineSector.{line_at, line_bytes, is_same_line}
use Rattle.lilo_model.specs.DefaultLine.{DefaultLine, Empty, Once, Kept, line_text}
use Rattle.lilo_model.specs.Prompt.{ListedEntry}
use Rattle.lilo_model.specs.Boot.{MapSectors, GoodMap, slot_bytes_at, optional_at, extra_slot, entries_of, map_sectors, present_line, password_at, good_map, settings_of, listed_entry, listed_entries, line_written, image_with_line}
use Rattle.prompt_core.specs.declared.entry.Choice as prompts_choice
use Rattle.prompt_core.specs.declared.entry.Settings as prompts
use Rattle.prompt_core.specs.Decided.{plain_entry, plain_setup, line_by}
use Rattle.prompt_core.specs.View.{settings_view, entries_view, setup_of}
use Rattle.prompt_core.specs.Steps.{Chosen}
use Rattle.loader_core.specs.Map.{prompt_entry}
use Rattle.loader_core.specs.Report.{line_write, image_with, chosen_line, present_write}

-- ---- a good map

ok_value : {X F : Type 0} (first second : X) → (let found : Result X F = Ok first in found ≡ Ok second) → first ≡ second
ok_value first second same = cc

-- the sectors of a map, by what is read for each of its entries
extras_by :
    (line : List ℕ) (table : Result (List Descriptor) maps.MapFault) (extras : Result (List (Option (List ℕ))) slots.AddressFault)
    (sectors : MapSectors)
    → (extras >>= λ found. Ok (record { line = line; table = table; extras = found })) ≡ Ok sectors
    → (sectors.table ≡ table) × (extras ≡ Ok sectors.extras) × (line ≡ sectors.line)
extras_by line table (Ok extras) sectors same =
    let read : MapSectors = record { line = line; table = table; extras = extras } in
    let whole = ok_value {F = slots.AddressFault} read sectors same in
    (ap (λ sectors. sectors.table) (sym whole), ap (λ sectors. Ok sectors.extras) whole, ap (λ sectors. sectors.line) whole)
extras_by line table (Err fault) sectors same = absurd (let differs : ⊥ = cc in differs)

table_by :
    (line : Result (List ℕ) slots.AddressFault) (table : Result (List (List ℕ)) slots.AddressFault)
    (judge : List (List ℕ) → Result (List Descriptor) maps.MapFault)
    (extras : Result (List Descriptor) maps.MapFault → Result (List (Option (List ℕ))) slots.AddressFault)
    (sectors : MapSectors)
    → (line >>= λ line. table >>= λ table. extras (judge table) >>= λ found. Ok (record { line = line; table = judge table; extras = found })) ≡ Ok sectors
    → (extras sectors.table ≡ Ok sectors.extras) × (line ≡ Ok sectors.line)
table_by (Ok line) (Ok table) judge extras sectors same =
    let (judged, read, is) = extras_by line (judge table) (extras (judge table)) sectors same in
    (rw judged read, ap Ok is)
table_by (Ok line) (Err fault) judge extras sectors same = absurd (let differs : ⊥ = cc in differs)
table_by (Err fault) table judge extras sectors same = absurd (let differs : ⊥ = cc in differs)

-- the extra sectors of a map are read by its table, and its line's sector by that slot
sectors_read :
    (image : Image) (machine : Machine) (boot : BootSector) (sectors : MapSectors)
    → map_sectors image machine boot ≡ Ok sectors
    → (each (map (λ entry. optional_at image machine (extra_slot password_flag entry)) (entries_of sectors.table)) ≡ Ok sectors.extras)
    × (slot_bytes_at image machine boot.line ≡ Ok sectors.line)
unfolding map_sectors
sectors_read image machine boot sectors same =
    table_by (slot_bytes_at image machine boot.line) (each (map (slot_bytes_at image machine) boot.table))
    (λ table. table_at boot.names table)
    (λ table. each (map (λ entry. optional_at image machine (extra_slot password_flag entry)) (entries_of table)))
    sectors same

-- a good map by its sectors
record IsGoodFrom (sectors : MapSectors) (good : GoodMap) : Type 0 where
  pub line : line_at sectors.line ≡ Ok good.line
  pub table : sectors.table ≡ Ok good.entries
  pub passwords : each (map password_at sectors.extras) ≡ Ok good.passwords

good_by :
    (line : Result DefaultLine maps.MapFault) (entries : Result (List Descriptor) maps.MapFault)
    (passwords : Result (List (Option (List ℕ))) maps.MapFault) (good : GoodMap)
    → (line >>= λ line. entries >>= λ entries. passwords >>= λ passwords. Ok (record { line = line; entries = entries; passwords = passwords })) ≡ Ok good
    → (line ≡ Ok good.line) × (entries ≡ Ok good.entries) × (passwords ≡ Ok good.passwords)
good_by (Ok line) (Ok entries) (Ok passwords) good same =
    let read : GoodMap = record { line = line; entries = entries; passwords = passwords } in
    let whole = ok_value {F = maps.MapFault} read good same in
    (ap (λ good. Ok good.line) whole, ap (λ good. Ok good.entries) whole, ap (λ good. Ok good.passwords) whole)
good_by (Ok line) (Ok entries) (Err fault) good same = absurd (let differs : ⊥ = cc in differs)
good_by (Ok line) (Err fault) passwords good same = absurd (let differs : ⊥ = cc in differs)
good_by (Err fault) entries passwords good same = absurd (let differs : ⊥ = cc in differs)

good_from : (sectors : MapSectors) (good : GoodMap) → good_map sectors ≡ Ok good → IsGoodFrom sectors good
unfolding good_map
good_from sectors good same =
    let (line, table, passwords) = good_by (line_at sectors.line) sectors.table (each (map password_at sectors.extras)) good same in
    record { line = line; table = table; passwords = passwords }

-- the line of a good map is the one on the disks
pub line_stands :
    (image : Image) (machine : Machine) (boot : BootSector) (sectors : MapSectors) (good : GoodMap)
    → map_sectors image machine boot ≡ Ok sectors → good_map sectors ≡ Ok good
    → present_line image machine boot ≡ Some good.line
unfolding present_line
line_stands image machine boot sectors good found judged =
    let read = (sectors_read image machine boot sectors found).1 in
    let from = good_from sectors good judged in
    rw (read, from.line) refl

-- ---- the list that is chosen from

pairs_plain :
    (image : Image) (machine : Machine) (pairs : List (Descriptor × Option (List ℕ)))
    → map plain_entry (map (listed_entry image machine) pairs) ≡ map prompt_entry pairs
pairs_plain image machine [] = refl
pairs_plain image machine ((entry, password) ∷ pairs) =
    ap (λ others. prompt_entry (entry, password) ∷ others) (pairs_plain image machine pairs)

-- as far as the prompt is given it
pub listed_plain :
    (image : Image) (machine : Machine) (good : GoodMap)
    → map plain_entry (listed_entries image machine good) ≡ map prompt_entry (zip good.entries good.passwords)
unfolding listed_entries
listed_plain image machine good = pairs_plain image machine (zip good.entries good.passwords)

-- what a prompt is made of, as the model has it
pub prompt_setup :
    (image : Image) (machine : Machine) (boot : BootSector) (good : GoodMap) (settings : prompts.Settings) (choices : List prompts_choice.Choice) (line : DefaultLine)
    → settings_view settings ≡ settings_of boot → good.line ≡ line
    → entries_view choices ≡ map prompt_entry (zip good.entries good.passwords)
    → setup_of settings choices (line_text line) ≡ plain_setup (settings_of boot) (listed_entries image machine good) good.line
prompt_setup image machine boot good settings choices line settings_are line_is list =
    let plain = listed_plain image machine good in
    rw (settings_are, list, plain, line_is) refl

-- an entry that is in it, with its password
pub record IsListed (image : Image) (machine : Machine) (entry : Descriptor) (found : Option ListedEntry) : Type 0 where
  pub password : Option (List ℕ)
  pub is : found ≡ Some (listed_entry image machine (entry, password))

pair_listed :
    (image : Image) (machine : Machine) (entries : List Descriptor) (passwords : List (Option (List ℕ))) (at : ℕ) (entry : Descriptor)
    → length passwords ≡ length entries → slice_get entries at ≡ Some entry
    → IsListed image machine entry (slice_get (map (listed_entry image machine) (zip entries passwords)) at)
pair_listed image machine [] passwords at entry long is = let h : ⊥ = cc in absurd h
pair_listed image machine (first ∷ entries) [] at entry long is = absurd (omega arith)
pair_listed image machine (first ∷ entries) (password ∷ passwords) zero entry long is =
    let same : first ≡ entry = cc in
    record { password = password; is = ap (λ e. Some (listed_entry image machine (e, password))) same }
pair_listed image machine (first ∷ entries) (password ∷ passwords) (suc at) entry long is =
    pair_listed image machine entries passwords at entry (omega arith) is

pub entry_listed :
    (image : Image) (machine : Machine) (good : GoodMap) (at : ℕ) (entry : Descriptor)
    → length good.passwords ≡ length good.entries → slice_get good.entries at ≡ Some entry
    → IsListed image machine entry (slice_get (listed_entries image machine good) at)
unfolding listed_entries
entry_listed image machine good at entry long is = pair_listed image machine good.entries good.passwords at entry long is

-- ---- the default line

-- the line after a choice of an entry
pub line_chosen :
    (image : Image) (machine : Machine) (entry : Descriptor) (password : Option (List ℕ)) (line : DefaultLine) (chosen : Chosen)
    → line_by line chosen (Some (listed_entry image machine (entry, password)))
    ≡ chosen_line image machine entry line chosen.picked.lock chosen.lock_line
line_chosen image machine entry password line chosen = refl

-- a line is the same as itself
pub same_line : (line : DefaultLine) → is_same_line line line ≡ true
unfolding is_same_line
same_line Empty = refl
same_line (Once text) = (bytes_eq-Decides text text).1 refl
same_line (Kept text) = (bytes_eq-Decides text text).1 refl

-- nothing is written where the line stays
pub write_none : (machine : Machine) (slot : slots.Slot) (line : DefaultLine) → line_write machine slot line line ≡ None
write_none machine slot line = let same = same_line line in rw same refl

-- the line that is there, or is not, stays
pub present_none : (machine : Machine) (slot : slots.Slot) (line : Option DefaultLine) → present_write machine slot line line ≡ None
present_none machine slot None = refl
present_none machine slot (Some line) = write_none machine slot line

-- the image in which the line is a new one is the one once that is written
line_image :
    (image : Image) (new : DefaultLine) (same : Bool) (found : Result DiskSector slots.AddressFault)
    → line_written image new same found
    ≡ image_with image (if same then None else option_map (λ place. record { place = place; bytes = line_bytes new }) (result_ok found))
line_image image new true found = refl
line_image image new false (Ok place) = refl
line_image image new false (Err fault) = refl

pub image_same :
    (image : Image) (machine : Machine) (boot : BootSector) (line new : DefaultLine)
    → image_with_line image machine boot line new ≡ image_with image (line_write machine boot.line line new)
unfolding image_with_line
image_same image machine boot line new = line_image image new (is_same_line line new) (place_at machine boot.line 0)
