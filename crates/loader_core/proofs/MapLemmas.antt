-- The steps of reading a map.
use Rattle.std.proofs.Common.{◌≡◌, ◌∙◌, ℕ, Bool, true, false, refl, sym, ap, List, [], ◌∷◌, ◌++◌, length, map, zip, append_assoc, length-append, Option, None, Some, option_map, Result, Ok, Err, if◌then◌else◌, arith}
use Rattle.std.specs.Prelude.{IsErr}
use Rattle.std.specs.Option.{option_and_then}
use Rattle.std.specs.Result.{result_ok}
use Rattle.std.proofs.lemmas.List.{append-nil, map-append}
use Rattle.lilo_model.specs.Checks.{◌>>=◌, with_fault, seen, each}
use Rattle.lilo_model.specs.Disks.{Image, Machine, DiskSector, bytes_at}
use Rattle.lilo_model.specs.Slots as slots
use Rattle.lilo_model.specs.BootSector as maps
use Rattle.lilo_model.specs.BootSector.{BootSector}
use Rattle.lilo_model.specs.Slots.{place_at}
use Rattle.lilo_model.specs.Table as tables
use Rattle.lilo_model.specs.Table.{fallback_flag, table_at}
use Rattle.lilo_model.specs.Options as texts
use Rattle.lilo_model.specs.Options.{options_at, extra_at}
use Rattle.lilo_model.specs.Choice.{filled_text}
use Rattle.lilo_model.specs.Reason.{NotFound, map_reason}
use Rattle.lilo_model.specs.Reason as reasons
use Rattle.lilo_model.specs.Boot.{MapSectors, slot_bytes_at, optional_at, extra_slot, entries_of, map_sectors, password_at, middle_of, fallback_of}
use Rattle.bios_model.specs.Machine.{sector_bytes_at}
use Rattle.boot_map.specs.View.{table_view, extra_view, map_fault_view}
use Rattle.boot_map.specs.declared.extra.Extra.{Extra}
use Rattle.boot_map.specs.declared.table.Table.{Table}
use Rattle.boot_map.specs.declared.map_fault.MapFault.{MapFault}
use Rattle.prompt_core.specs.declared.entry.Choice.{Choice}
use Rattle.prompt_core.specs.View.{choice_view}
use Rattle.section_loader.specs.declared.reason.Reason.{Reason}
use Rattle.section_loader.specs.declared.reason.Reason.TheVariants as variants
use Rattle.section_loader.specs.declared.reason.Halt.{Halt}
use Rattle.section_loader.specs.declared.reason.Halt.TheVariants.{Device, Refused}
use Rattle.section_loader.specs.View.{reason_view}
use Rattle.section_loader.specs.File.{ReadsOne}
use Rattle.loader_core.specs.declared.map.Choices.{Choices}
use Rattle.loader_core.specs.declared.map.Texts.{Texts}
use Rattle.loader_core.specs.Map.{ReadsThere, ReadsExtra, password_sector, prompt_entry, JudgesChoice, IsChoice, Adds, ListsAs, JudgesList, AreChoices, ReadsChoices, IsReadMap, ReadsMap, IsBecause, AreTexts, ReadsTexts, JudgesTexts}

-- ---- passwords

-- a password's sector, as it was read
abbrev pub Extras : Type 0
Extras = Result (List (Option (List ℕ))) slots.AddressFault

-- some sectors, and those after them
abbrev pub behind : List (Option (List ℕ)) → Extras → Extras
behind front rest = rest >>= λ extras. Ok (front ++ extras)

-- one sector, and those after it
abbrev pub cons : Result (Option (List ℕ)) slots.AddressFault → Extras → Extras
cons first rest = first >>= λ extra. rest >>= λ extras. Ok (extra ∷ extras)

-- what was read of some entries' passwords, of which these are left, and the list that was made of it
pub record IsSoFar (good : Bool) (choices : List Choice) (all left : List tables.Descriptor) (whole rest : Extras) : Type 0 where
  pub front : List tables.Descriptor
  pub split : all ≡ front ++ left
  pub extras : List (Option (List ℕ))
  pub is : whole ≡ behind extras rest
  pub judged : JudgesList good choices front (each (map password_at extras))

so_far-start : (all : List tables.Descriptor) (whole : Extras) → IsSoFar true [] all all whole whole
so_far-start all (Ok extras) = record { front = []; split = refl; extras = []; is = refl; judged = record { passwords = []; is = refl; lists = record { long = refl; list = refl } } }
so_far-start all (Err fault) = record { front = []; split = refl; extras = []; is = refl; judged = record { passwords = []; is = refl; lists = record { long = refl; list = refl } } }

pub so_far-begun :
    (choices : List Choice) → choices ≡ [] → (all : List tables.Descriptor) (whole : Extras) → IsSoFar true choices all all whole whole
so_far-begun choices none all whole = rw none (so_far-start all whole)

behind-cons :
    (front : List (Option (List ℕ))) (extra : Option (List ℕ)) (rest : Extras)
    → behind front (cons (Ok extra) rest) ≡ behind (front ++ extra ∷ []) rest
behind-cons front extra (Ok extras) = ap Ok (sym (append_assoc front (extra ∷ []) extras))
behind-cons front extra (Err fault) = refl

each-push-by :
    {A F : Type 0} (first : A) (checks : Result (List A) F) (check : Result A F)
    → ((checks >>= λ values. check >>= λ value. Ok (values ++ value ∷ [])) >>= λ values. Ok (first ∷ values))
    ≡ (checks >>= λ values. check >>= λ value. Ok (first ∷ (values ++ value ∷ [])))
each-push-by first (Ok values) (Ok value) = refl
each-push-by first (Ok values) (Err fault) = refl
each-push-by first (Err fault) check = refl

each-push-cons :
    {A F : Type 0} (first : A) (checks : Result (List A) F) (check : Result A F)
    → (checks >>= λ values. check >>= λ value. Ok (first ∷ (values ++ value ∷ [])))
    ≡ ((checks >>= λ values. Ok (first ∷ values)) >>= λ values. check >>= λ value. Ok (values ++ value ∷ []))
each-push-cons first (Ok values) check = refl
each-push-cons first (Err fault) check = refl

each-push :
    {A F : Type 0} (checks : List (Result A F)) (check : Result A F)
    → each (checks ++ check ∷ []) ≡ (each checks >>= λ values. check >>= λ value. Ok (values ++ value ∷ []))
each-push [] (Ok value) = refl
each-push [] (Err fault) = refl
each-push (Err fault ∷ checks) check = refl
each-push (Ok first ∷ checks) check = rw (each-push checks check) (each-push-by first (each checks) check ∙ each-push-cons first (each checks) check)

zip-push :
    {A B : Type 0} (xs : List A) (ys : List B) (x : A) (y : B) → length ys ≡ length xs
    → zip (xs ++ x ∷ []) (ys ++ y ∷ []) ≡ zip xs ys ++ (x, y) ∷ []
zip-push [] [] x y long = refl
zip-push [] (other ∷ ys) x y long = absurd (omega arith)
zip-push (first ∷ xs) [] x y long = absurd (omega arith)
zip-push (first ∷ xs) (other ∷ ys) x y long = ap (λ pairs. (first, other) ∷ pairs) (zip-push xs ys x y (omega arith))

-- one entry more in a list
lists-push :
    (choices : List Choice) (front : List tables.Descriptor) (passwords : List (Option (List ℕ))) (choice : Choice) (entry : tables.Descriptor) (password : Option (List ℕ))
    → ListsAs choices front passwords → choice_view choice ≡ prompt_entry (entry, password)
    → ListsAs (choices ++ choice ∷ []) (front ++ entry ∷ []) (passwords ++ password ∷ [])
lists-push choices front passwords choice entry password far here =
    let long = far.long in
    record {
      long = rw (length-append, length-append) (omega (arith, long));
      list =
          map-append choice_view choices (choice ∷ [])
          ∙ ap (λ l. l ++ choice_view choice ∷ []) far.list ∙ ap (λ c. map prompt_entry (zip front passwords) ++ c ∷ []) here
          ∙ sym (map-append prompt_entry (zip front passwords) ((entry, password) ∷ []))
          ∙ ap (map prompt_entry) (sym (zip-push front passwords entry password long));
    }

judged-push :
    (good : Bool) (choices : List Choice) (front : List tables.Descriptor) (texts : Result (List (Option (List ℕ))) maps.MapFault) (choice : Choice) (entry : tables.Descriptor) (text : Result (Option (List ℕ)) maps.MapFault)
    → JudgesList good choices front texts → JudgesChoice (Some choice) entry text
    → JudgesList good (choices ++ choice ∷ []) (front ++ entry ∷ []) (texts >>= λ values. text >>= λ value. Ok (values ++ value ∷ []))
judged-push true choices front texts choice entry text far here =
    rw (far.is, here.0)
    (record {
      passwords = far.passwords ++ (choice_view choice).password ∷ [];
      is = refl;
      lists = lists-push choices front far.passwords choice entry (choice_view choice).password far.lists here.1;
    })
judged-push false choices front texts choice entry text far here = rw far refl

judged-bad :
    (good : Bool) (choices : List Choice) (front : List tables.Descriptor) (texts : Result (List (Option (List ℕ))) maps.MapFault) (text : Result (Option (List ℕ)) maps.MapFault)
    → JudgesList good choices front texts → text ≡ Err (maps.BadTable 255)
    → (let joined : Result (List (Option (List ℕ))) maps.MapFault = texts >>= λ values. text >>= λ value. Ok (values ++ value ∷ []) in joined) ≡ Err (maps.BadTable 255)
judged-bad true choices front texts text far here = rw (far.is, here) refl
judged-bad false choices front texts text far here = rw far refl

judged-next :
    (old new : Choices) (choice : Option Choice) (front : List tables.Descriptor) (texts : Result (List (Option (List ℕ))) maps.MapFault) (entry : tables.Descriptor) (text : Result (Option (List ℕ)) maps.MapFault)
    → Adds old choice new → JudgesList old.are_good old.list.items front texts → JudgesChoice choice entry text
    → JudgesList new.are_good new.list.items (front ++ entry ∷ []) (texts >>= λ values. text >>= λ value. Ok (values ++ value ∷ []))
judged-next old new None front texts entry text adds far here =
    rw adds.0 (judged-bad old.are_good old.list.items front texts text far here)
judged-next old new (Some choice) front texts entry text adds far here =
    rw (adds.0, adds.1) (judged-push old.are_good old.list.items front texts choice entry text far here)

pub so_far-next :
    (old new : Choices) (choice : Option Choice) (all left : List tables.Descriptor) (entry : tables.Descriptor)
    (first : Result (Option (List ℕ)) slots.AddressFault) (whole rest : Extras)
    → Adds old choice new → IsSoFar old.are_good old.list.items all (entry ∷ left) whole (cons first rest) → IsChoice choice entry first
    → IsSoFar new.are_good new.list.items all left whole rest
so_far-next old new choice all left entry first whole rest adds far here = record {
  front = far.front ++ entry ∷ [];
  split = far.split ∙ sym (append_assoc far.front (entry ∷ []) left);
  extras = far.extras ++ here.extra ∷ [];
  is = far.is ∙ ap (λ found. behind far.extras (cons found rest)) here.is ∙ behind-cons far.extras here.extra rest;
  judged =
      rw (map-append, each-push)
      (judged-next old new choice far.front (each (map password_at far.extras)) entry (password_at here.extra) adds far.judged here.judged);
}

lost-by :
    (front : List (Option (List ℕ))) (first : Result (Option (List ℕ)) slots.AddressFault) (rest : Extras)
    → IsErr first → IsErr (behind front (cons first rest))
lost-by front (Ok extra) rest lost = absurd (let h : ⊥ = cc in h)
lost-by front (Err fault) rest lost = refl

pub so_far-lost :
    (good : Bool) (choices : List Choice) (all left : List tables.Descriptor) (first : Result (Option (List ℕ)) slots.AddressFault) (whole rest : Extras)
    → IsSoFar good choices all left whole (cons first rest) → IsErr first → IsErr whole
so_far-lost good choices all left first whole rest far lost = rw far.is (lost-by far.extras first rest lost)

pub so_far-end : (choices : Choices) (all : List tables.Descriptor) (whole : Extras) → IsSoFar choices.are_good choices.list.items all [] whole (Ok []) → AreChoices choices all whole
so_far-end choices all whole far =
    let same : all ≡ far.front = far.split ∙ append-nil far.front in
    record {
      extras = far.extras;
      is = far.is ∙ ap Ok (append-nil far.extras);
      judged = rw same far.judged;
    }

-- a text beside a password that passes its limit
refused-by : {A F : Type 0} (test : Bool) (value : A) (fault told : F) → Err told ≡ (if test then Ok value else Err fault) → told ≡ fault
refused-by true value fault told same = cc
refused-by false value fault told same = cc

pub extra_refused : (bytes : List ℕ) (fault : maps.MapFault) → Err fault ≡ extra_at bytes → extra_at bytes ≡ Err (maps.BadTable 255)
unfolding extra_at
extra_refused bytes fault same = sym same ∙ ap Err (refused-by _ _ _ fault same)

-- ---- the sectors

pub not_found : (reason : Reason) → reason_view reason ≡ NotFound → reason ≡ variants.NotFound
not_found variants.NotFound same = refl
not_found variants.NotBootable same = cc
not_found (variants.BadTable entry) same = cc
not_found variants.BadLine same = cc
not_found (variants.BadSlot place) same = cc
not_found (variants.ChainTooLong chain) same = cc
not_found (variants.ShortChain sectors) same = cc
not_found (variants.Header fault) same = cc
not_found variants.Idle same = cc

-- the sectors of a map, by those of its line, its table and its passwords
abbrev sectors_by :
    Result (List ℕ) slots.AddressFault → Result (List (List ℕ)) slots.AddressFault → ℕ
    → (Result (List tables.Descriptor) maps.MapFault → Extras) → Result MapSectors slots.AddressFault
sectors_by line table names extras =
    line >>= λ line. table >>= λ sectors. extras (table_at names sectors) >>= λ extras.
    Ok (record { line = line; table = table_at names sectors; extras = extras })

bytes_lost :
    (now : Image) (found : Result DiskSector slots.AddressFault) → IsErr found → IsErr (found >>= λ place. Ok (bytes_at now place))
bytes_lost now (Ok place) lost = absurd (let h : ⊥ = cc in h)
bytes_lost now (Err fault) lost = refl

pub slot_lost :
    (now : Image) (machine : Machine) (slot : slots.Slot) → IsErr (place_at machine slot 0) → IsErr (slot_bytes_at now machine slot)
unfolding slot_bytes_at
slot_lost now machine slot lost = bytes_lost now (place_at machine slot 0) lost

line_lost :
    (line : Result (List ℕ) slots.AddressFault) (table : Result (List (List ℕ)) slots.AddressFault) (names : ℕ)
    (extras : Result (List tables.Descriptor) maps.MapFault → Extras)
    → IsErr line → IsErr (sectors_by line table names extras)
line_lost (Ok line) table names extras lost = absurd (let h : ⊥ = cc in h)
line_lost (Err fault) table names extras lost = refl

table_lost :
    (line : Result (List ℕ) slots.AddressFault) (table : Result (List (List ℕ)) slots.AddressFault) (names : ℕ)
    (extras : Result (List tables.Descriptor) maps.MapFault → Extras)
    → IsErr table → IsErr (sectors_by line table names extras)
table_lost (Err fault) table names extras lost = refl
table_lost (Ok line) (Ok sectors) names extras lost = absurd (let h : ⊥ = cc in h)
table_lost (Ok line) (Err fault) names extras lost = refl

extras_lost-by :
    (line : List ℕ) (table : Result (List tables.Descriptor) maps.MapFault) (extras : Extras)
    → IsErr extras → IsErr (extras >>= λ extras. Ok (let sectors : MapSectors = record { line = line; table = table; extras = extras } in sectors))
extras_lost-by line table (Ok extras) lost = absurd (let h : ⊥ = cc in h)
extras_lost-by line table (Err fault) lost = refl

extras_lost :
    (line : Result (List ℕ) slots.AddressFault) (sectors : List (List ℕ)) (names : ℕ)
    (extras : Result (List tables.Descriptor) maps.MapFault → Extras)
    → IsErr (extras (table_at names sectors)) → IsErr (sectors_by line (Ok sectors) names extras)
extras_lost (Err fault) sectors names extras lost = refl
extras_lost (Ok line) sectors names extras lost = extras_lost-by line (table_at names sectors) (extras (table_at names sectors)) lost

-- the sectors of the passwords in a table
abbrev pub table_extras : Image → Machine → Result (List tables.Descriptor) maps.MapFault → Extras
table_extras now machine table = each (map (password_sector now machine) (entries_of table))

-- a map whose line can't be read
pub line_halts :
    (now : Image) (machine : Machine) (boot : BootSector) (bytes : List ℕ) (halt : Halt)
    → ReadsOne now machine boot.line (Err halt) bytes → ReadsMap (Err halt) (map_sectors now machine boot)
unfolding map_sectors
line_halts now machine boot bytes Device read = tt
line_halts now machine boot bytes (Refused reason) (lost, is) = (
  line_lost (slot_bytes_at now machine boot.line) (each (map (slot_bytes_at now machine) boot.table)) boot.names (table_extras now machine)
      (slot_lost now machine boot.line lost),
  not_found reason is,
)

-- a map whose table can't be read
pub table_halts :
    (now : Image) (machine : Machine) (boot : BootSector) (bytes : List (List ℕ)) (halt : Halt)
    → ReadsThere (Err halt) bytes (each (map (slot_bytes_at now machine) boot.table)) → ReadsMap (Err halt) (map_sectors now machine boot)
unfolding map_sectors
table_halts now machine boot bytes Device read = tt
table_halts now machine boot bytes (Refused reason) (lost, is) =
    (table_lost (slot_bytes_at now machine boot.line) (each (map (slot_bytes_at now machine) boot.table)) boot.names (table_extras now machine) lost, is)

-- a map whose passwords can't be read
pub extras_halt :
    (now : Image) (machine : Machine) (boot : BootSector) (bytes : List (List ℕ)) (table : Result Table MapFault) (halt : Halt)
    → seen table_view map_fault_view table ≡ table_at boot.names bytes
    → each (map (slot_bytes_at now machine) boot.table) ≡ Ok bytes
    → ReadsChoices (Err halt) (entries_of (seen table_view map_fault_view table)) (table_extras now machine (seen table_view map_fault_view table))
    → ReadsMap (Err halt) (map_sectors now machine boot)
unfolding map_sectors
extras_halt now machine boot bytes table Device judged there read = tt
extras_halt now machine boot bytes table (Refused reason) judged there (lost, is) =
    (rw there (extras_lost (slot_bytes_at now machine boot.line) bytes boot.names (table_extras now machine) (rw judged at lost)), is)

map_there :
    (line : Result (List ℕ) slots.AddressFault) (table : Result (List (List ℕ)) slots.AddressFault) (names : ℕ)
    (extras : Result (List tables.Descriptor) maps.MapFault → Extras) (bytes : List ℕ) (sectors : List (List ℕ)) (texts : List (Option (List ℕ)))
    → line ≡ Ok bytes → table ≡ Ok sectors → extras (table_at names sectors) ≡ Ok texts
    → sectors_by line table names extras ≡ Ok (record { line = bytes; table = table_at names sectors; extras = texts })
map_there line table names extras bytes sectors texts line_is table_is extras_is = rw (line_is, table_is) (rw extras_is refl)

-- a map that was read
pub map_reads :
    (now : Image) (machine : Machine) (boot : BootSector) (line : List ℕ) (bytes : List (List ℕ)) (table : Result Table MapFault) (choices : Choices)
    → seen table_view map_fault_view table ≡ table_at boot.names bytes
    → sector_bytes_at now machine boot.line 0 ≡ Ok line
    → each (map (slot_bytes_at now machine) boot.table) ≡ Ok bytes
    → AreChoices choices (entries_of (seen table_view map_fault_view table)) (table_extras now machine (seen table_view map_fault_view table))
    → IsReadMap (record { line = line; table = table; choices = choices }) (map_sectors now machine boot)
unfolding map_sectors slot_bytes_at
map_reads now machine boot line bytes table choices judged line_there table_there extras = record {
  sectors = record { line = line; table = table_at boot.names bytes; extras = extras.extras };
  is =
      map_there (slot_bytes_at now machine boot.line) (each (map (slot_bytes_at now machine) boot.table)) boot.names (table_extras now machine)
      line bytes extras.extras line_there table_there (rw judged at extras.is);
  stands = record { line = refl; table = sym judged; extras = rw (sym judged) extras.judged };
}

-- ---- an entry's texts

-- an extra sector in which a length passes its limit
refused_extra :
    (bytes : Option (List ℕ)) (found : Option (Result texts.Extra maps.MapFault)) (fault : maps.MapFault)
    → found ≡ Some (Err fault) → found ≡ option_map extra_at bytes → password_at bytes ≡ Err (maps.BadTable 255)
refused_extra None found fault is said = let h : ⊥ = cc in absurd h
refused_extra (Some bytes) found fault is said =
    let same : Err fault ≡ extra_at bytes = cc in
    rw (extra_refused bytes fault same) refl

pub choice_refused :
    (bytes : Option (List ℕ)) (extra : Option (Result Extra MapFault)) (fault : maps.MapFault)
    → option_map (seen extra_view map_fault_view) extra ≡ Some (Err fault) → option_map (seen extra_view map_fault_view) extra ≡ option_map extra_at bytes
    → password_at bytes ≡ Err (maps.BadTable 255)
choice_refused bytes extra fault is said = refused_extra bytes (option_map (seen extra_view map_fault_view) extra) fault is said

optional_by :
    (now : Image) (machine : Machine) (slot : slots.Slot) (found : Result (List ℕ) slots.AddressFault) → slot_bytes_at now machine slot ≡ found
    → (bytes : Option (List ℕ)) → (found >>= λ bytes. Ok (Some bytes)) ≡ Ok bytes
    → option_and_then (λ bytes. option_map (λ extra. extra.fallback) (result_ok (extra_at bytes))) (result_ok (slot_bytes_at now machine slot))
    ≡ option_and_then (λ bytes. option_map (λ extra. extra.fallback) (result_ok (extra_at bytes))) bytes
optional_by now machine slot (Ok found) at bytes is = let same : Some found ≡ bytes = cc in rw (at, ← same) refl
optional_by now machine slot (Err fault) at bytes is = let h : ⊥ = cc in absurd h

-- an extra sector that was read, where a flag asks for it
optional_found :
    (now : Image) (machine : Machine) (slot : Option slots.Slot) (bytes : Option (List ℕ)) → optional_at now machine slot ≡ Ok bytes
    → option_and_then (λ slot. option_and_then (λ bytes. option_map (λ extra. extra.fallback) (result_ok (extra_at bytes))) (result_ok (slot_bytes_at now machine slot))) slot
    ≡ option_and_then (λ bytes. option_map (λ extra. extra.fallback) (result_ok (extra_at bytes))) bytes
optional_found now machine None bytes is = let none : None ≡ bytes = cc in rw (← none) refl
optional_found now machine (Some slot) bytes is = optional_by now machine slot (slot_bytes_at now machine slot) refl bytes is

texts_some :
    (found : Texts) (options : Result (List ℕ) maps.MapFault) (extra : Option (Result texts.Extra maps.MapFault)) (bytes : List ℕ)
    (said : Result texts.Extra maps.MapFault) → extra_at bytes ≡ said → extra ≡ option_map extra_at (Some bytes) → JudgesTexts (Ok found) options extra
    → AreTexts found
    (with_fault map_reason options >>= λ middle. with_fault map_reason (password_at (Some bytes)) >>= λ password. Ok middle)
    (option_and_then (λ bytes. option_map (λ extra. extra.fallback) (result_ok (extra_at bytes))) (Some bytes))
texts_some found options extra bytes (Ok texts) at is judged =
    let same : found.fallback.items ≡ texts.fallback = rw (is, at) at judged.1 in
    rw (judged.0, at) (record { middle_is = refl; fallback_is = ap (λ text. filled_text (Some text)) same })
texts_some found options extra bytes (Err fault) at is judged = absurd (rw (is, at) at judged.1)

refused_some :
    (reason : Reason) (middle : List ℕ) (bytes : List ℕ) (said : Result texts.Extra maps.MapFault) → extra_at bytes ≡ said
    → JudgesTexts (Err (Refused reason)) (Ok middle) (Some said)
    → IsBecause reason (with_fault map_reason (password_at (Some bytes)) >>= λ password. Ok middle)
refused_some reason middle bytes (Ok texts) at judged = absurd judged.1
refused_some reason middle bytes (Err fault) at judged =
    rw at (record { why = map_reason fault; is = refl; because = judged.2 ∙ ap map_reason judged.1 })

texts_refused :
    (reason : Reason) (options : Result (List ℕ) maps.MapFault) (extra : Option (Result texts.Extra maps.MapFault)) (bytes : Option (List ℕ))
    → extra ≡ option_map extra_at bytes → JudgesTexts (Err (Refused reason)) options extra
    → IsBecause reason (with_fault map_reason options >>= λ middle. with_fault map_reason (password_at bytes) >>= λ password. Ok middle)
texts_refused reason (Err fault) extra bytes is judged =
    record { why = map_reason fault; is = refl; because = judged.2 ∙ ap map_reason judged.1 }
texts_refused reason (Ok middle) extra None is judged = absurd (rw is at judged).1
texts_refused reason (Ok middle) extra (Some bytes) is judged = refused_some reason middle bytes (extra_at bytes) refl (rw is at judged)

-- the texts of an entry, by its sectors that were read
texts_by :
    (result : Result Texts Halt) (options : Result (List ℕ) maps.MapFault) (extra : Option (Result texts.Extra maps.MapFault)) (bytes : Option (List ℕ))
    → extra ≡ option_map extra_at bytes → JudgesTexts result options extra
    → ReadsTexts result
    (with_fault map_reason options >>= λ middle. with_fault map_reason (password_at bytes) >>= λ password. Ok middle)
    (option_and_then (λ bytes. option_map (λ extra. extra.fallback) (result_ok (extra_at bytes))) bytes)
texts_by (Ok found) options extra None is judged =
    let none : found.fallback.items ≡ [] = rw is at judged.1 in
    rw judged.0 (record { middle_is = refl; fallback_is = ap (λ text. filled_text (Some text)) none })
texts_by (Ok found) options extra (Some bytes) is judged = texts_some found options extra bytes (extra_at bytes) refl is judged
texts_by (Err Device) options extra bytes is judged = absurd judged
texts_by (Err (Refused reason)) options extra bytes is judged = texts_refused reason options extra bytes is judged

middle_by :
    (options_slot : Result (List ℕ) slots.AddressFault) (extra_found : Result (Option (List ℕ)) slots.AddressFault) (sector : List ℕ) (bytes : Option (List ℕ))
    → options_slot ≡ Ok sector → extra_found ≡ Ok bytes
    → (with_fault (λ fault. NotFound) options_slot >>= λ options. with_fault (λ fault. NotFound) extra_found >>= λ extra. with_fault map_reason (options_at options) >>= λ middle. with_fault map_reason (password_at extra) >>= λ password. Ok middle)
    ≡ (with_fault map_reason (options_at sector) >>= λ middle. with_fault map_reason (password_at bytes) >>= λ password. Ok middle)
middle_by options_slot extra_found sector bytes options_is extra_is = rw (options_is, extra_is) refl

slot_there :
    (now : Image) (machine : Machine) (slot : slots.Slot) (bytes : List ℕ) → sector_bytes_at now machine slot 0 ≡ Ok bytes → slot_bytes_at now machine slot ≡ Ok bytes
unfolding slot_bytes_at
slot_there now machine slot bytes is = is

pub texts_read :
    (now : Image) (machine : Machine) (entry : tables.Descriptor) (result : Result Texts Halt) (sector : List ℕ) (options : Result (List ℕ) maps.MapFault) (extra : Option (Result texts.Extra maps.MapFault))
    (bytes : Option (List ℕ))
    → sector_bytes_at now machine entry.options 0 ≡ Ok sector → optional_at now machine (extra_slot fallback_flag entry) ≡ Ok bytes
    → options ≡ options_at sector → extra ≡ option_map extra_at bytes → JudgesTexts result options extra
    → ReadsTexts result (middle_of now machine entry) (fallback_of now machine entry)
unfolding middle_of
texts_read now machine entry result sector options extra bytes options_there extra_there options_is extra_is judged =
    rw (middle_by (slot_bytes_at now machine entry.options) (optional_at now machine (extra_slot fallback_flag entry)) sector bytes (slot_there now machine entry.options sector options_there) extra_there, optional_found now machine (extra_slot fallback_flag entry) bytes extra_there, ← options_is)
    (texts_by result options extra bytes extra_is judged)

-- or whose sectors weren't there
options_lost :
    (options : Result (List ℕ) slots.AddressFault) (next : List ℕ → Result (List ℕ) reasons.Reason) → IsErr options
    → (with_fault (λ fault. NotFound) options >>= next) ≡ Err NotFound
options_lost (Ok options) next lost = absurd (let h : ⊥ = cc in h)
options_lost (Err fault) next lost = refl

pub options_halt :
    (now : Image) (machine : Machine) (entry : tables.Descriptor) (bytes : List ℕ) (fallback : Option (List ℕ)) (halt : Halt)
    → ReadsOne now machine entry.options (Err halt) bytes → ReadsTexts (Err halt) (middle_of now machine entry) fallback
unfolding middle_of
options_halt now machine entry bytes fallback Device read = tt
options_halt now machine entry bytes fallback (Refused reason) (lost, is) = record {
  why = NotFound;
  is = options_lost (slot_bytes_at now machine entry.options) _ (slot_lost now machine entry.options lost);
  because = is;
}

extra_lost :
    {A : Type 0} (options : Result (List ℕ) slots.AddressFault) (sector : List ℕ) (extra : Result A slots.AddressFault) (next : List ℕ → A → Result (List ℕ) reasons.Reason)
    → options ≡ Ok sector → IsErr extra
    → (with_fault (λ fault. NotFound) options >>= λ options. with_fault (λ fault. NotFound) extra >>= next options) ≡ Err NotFound
extra_lost options sector (Ok extra) next there lost = absurd (let h : ⊥ = cc in h)
extra_lost options sector (Err fault) next there lost = rw there refl

pub extra_halt :
    (now : Image) (machine : Machine) (entry : tables.Descriptor) (sector : List ℕ) (fallback : Option (List ℕ)) (halt : Halt)
    → sector_bytes_at now machine entry.options 0 ≡ Ok sector → ReadsExtra (Err halt) (optional_at now machine (extra_slot fallback_flag entry))
    → ReadsTexts (Err halt) (middle_of now machine entry) fallback
unfolding middle_of
extra_halt now machine entry sector fallback Device there read = tt
extra_halt now machine entry sector fallback (Refused reason) there (lost, is) = record {
  why = NotFound;
  is = extra_lost (slot_bytes_at now machine entry.options) sector (optional_at now machine (extra_slot fallback_flag entry)) _ (slot_there now machine entry.options sector there) lost;
  because = ap reason_view is;
}
