-- The line that a boot gives is one that its sector can say.
use Rattle.std.proofs.Common.{◌≡◌, ◌≢◌, ◌⊎◌, ℕ, zero, suc, ◌-◌, ◌≤◌, ◌==◌, Bool, true, false, not, ◌&&◌, ◌||◌, if◌then◌else◌, List, [], ◌∷◌, ◌++◌, map, drop, length, codes, Option, None, Some, option_map, Result, Ok, Err, refl, sym, ap, subst, ◌∙◌, arith, inl, inr, eq-eqb, length-take, length-take-le, length-drop}
use Rattle.std.specs.Prelude.{nat_lt, nat_le, IfSome, slice_get, zip, bytes_eq, option_and_then}
use Rattle.std.specs.List.{AllByRecursion, before_first, prefix_len}
use Rattle.std.specs.Result.{result_ok}
use Rattle.std.proofs.lemmas.Bool.{and_parts, leb-true, ltb-true}
use Rattle.lilo_model.specs.Bytes.{part_of, number16, is_zero}
use Rattle.lilo_model.specs.BootSector.{MapFault, BadLine, BootSector, boot_at}
use Rattle.lilo_model.specs.Checks.{◌>>=◌}
use Rattle.lilo_model.specs.Choice.{Setup}
use Rattle.lilo_model.specs.DefaultLine.{DefaultLine, Empty, Once, Kept, line_text}
use Rattle.lilo_model.specs.Disks.{Image, Machine, DiskSector, bytes_at}
use Rattle.lilo_model.specs.LineSector.{is_line, line_of, line_at}
use Rattle.lilo_model.specs.Options.{Extra, extra_at}
use Rattle.lilo_model.specs.Prompt.{Key, ListedEntry}
use Rattle.lilo_model.specs.Slots as slots
use Rattle.lilo_model.specs.Slots.{Slot, sector_at, place_at}
use Rattle.lilo_model.specs.Table.{Descriptor, fallback_flag, entry_name, is_printable, is_name, is_entry, entry_bytes, descriptor_of, repeats, breaks, or_else, first_below, descriptors_of, table_or_fault, table_at}
use Rattle.lilo_model.specs.Boot.{slot_bytes_at, extra_slot, present_line, listed_entry, listed_entries, settings_of, message_of, decision_at, whole_boot}
use Rattle.boot_laws.proofs.Maps.{good_map-table}
use Rattle.map_again_laws.specs.Fits.{IsLine}
use Rattle.map_again_laws.proofs.Texts.{line_again}
use Rattle.session_model.specs.Keeps.{IsWhole}
use Rattle.session_model.specs.Site.{Site}
use Rattle.session_model.specs.State.{line_by, line_in}
use Rattle.session_laws.specs.Given.{GivenLineLaw}
use Rattle.session_laws.proofs.BootLines.{Decides, decides, line-read, table-read, good-line}
use Rattle.session_laws.proofs.ShortLines.{EntryFits, choice-fits}

-- ---- a line that was read

fits-by : (n : ℕ) (text : List ℕ) (zero one : Bool) → n ≤ 255 → length text ≡ n → (if zero then n == 0 else not (n == 0)) ≡ true
    → IsLine (if zero then Empty else if one then Once text else Kept text)
fits-by n text true one few long some = tt
fits-by n text false one few long some = by one
  where
    other : n ≢ 0
    other e = let t = eq-eqb n 0 e in absurd cc

    by : (one : Bool) → IsLine (if one then Once text else Kept text)
    by true = (omega (arith, other, long), omega (arith, few, long))
    by false = (omega (arith, other, long), omega (arith, few, long))

-- what a sector of 512 bytes says is one that a sector can hold
said-fits : (bytes : List ℕ) (line : DefaultLine) → length bytes ≡ 512 → line_at bytes ≡ Ok line → IsLine line
unfolding line_at is_line line_of
said-fits bytes line long is = by (is_line bytes) refl
  where
    by : (test : Bool) → is_line bytes ≡ test → IsLine line
    by false absent = let never : ◌≡◌ {A = Result DefaultLine MapFault} (Err BadLine) (Ok line) = rw absent at is in absurd cc
    by true there =
        let says : ◌≡◌ {A = Result DefaultLine MapFault} (Ok (line_of bytes)) (Ok line) = rw there at is in
        let same : line_of bytes ≡ line = cc in
        let parts = and_parts (bytes_eq (part_of bytes 0 4) (codes "LINE") && nat_le (number16 bytes 4) 2 && nat_le (number16 bytes 6) 255) (if number16 bytes 4 == 0 then number16 bytes 6 == 0 else not (number16 bytes 6 == 0)) there in
        let few : number16 bytes 6 ≤ 255 = leb-true (number16 bytes 6) 255 (and_parts (bytes_eq (part_of bytes 0 4) (codes "LINE") && nat_le (number16 bytes 4) 2) (nat_le (number16 bytes 6) 255) parts.0).1 in
        let size : length (part_of bytes 8 (number16 bytes 6)) ≡ number16 bytes 6 = length-take-le (number16 bytes 6) (drop 8 bytes) (omega (arith, few, long, length-drop 8 bytes)) in
        subst IsLine same (fits-by (number16 bytes 6) (part_of bytes 8 (number16 bytes 6)) (number16 bytes 4 == 0) (number16 bytes 4 == 1) few size parts.1)

-- the text of a line that fits is no longer than a line may be
text-fits : (line : DefaultLine) → IsLine line → length (line_text line) ≤ 255
text-fits Empty is = omega arith
text-fits (Once text) is = is.1
text-fits (Kept text) is = is.1

-- a sector that was read is whole
there-long : (site : Site) (image : Image) → IsWhole site image → (slot : Slot) (bytes : List ℕ) → slot_bytes_at image site.machine slot ≡ Ok bytes → length bytes ≡ 512
unfolding slot_bytes_at place_at
there-long site image whole slot bytes is = by (sector_at (site.machine.geometry_of slot.disk) slot 0) refl
  where
    by-size : (sector : ℕ) (test : Bool) → nat_lt sector (site.machine.size_of slot.disk) ≡ test
        → ((if test then Ok (record { disk = slot.disk; sector = sector }) else Err slots.NotFound) >>= λ (place : DiskSector). Ok (bytes_at image place)) ≡ Ok bytes → length bytes ≡ 512
    by-size sector false out is = absurd cc
    by-size sector true inside is =
        let same : image slot.disk sector ≡ bytes = cc in
        ap length (sym same) ∙ whole slot.disk sector (ltb-true sector (site.machine.size_of slot.disk) inside)

    by : (found : Result ℕ slots.AddressFault) → sector_at (site.machine.geometry_of slot.disk) slot 0 ≡ found → length bytes ≡ 512
    by (Err fault) at = let never : ◌≡◌ {A = Result (List ℕ) slots.AddressFault} (Err fault) (Ok bytes) = rw at at is in absurd cc
    by (Ok sector) there = by-size sector (nat_lt sector (site.machine.size_of slot.disk)) refl (rw there at is)

-- ---- the entries

abbrev NameFits : Descriptor → Type 0
NameFits entry = (1 ≤ length entry.name) × (length entry.name ≤ 255)

before-least : (p : ℕ → Bool) (bytes : List ℕ) → length (before_first p bytes) ≤ length bytes
before-least p bytes = omega (arith, length-take (prefix_len (λ byte. not (p byte)) bytes) bytes)

-- a name of the table has a byte, and at most 15 of them
name-fits : (bytes : List ℕ) → is_name bytes ≡ true → (1 ≤ length (entry_name bytes)) × (length (entry_name bytes) ≤ 255)
unfolding is_name entry_name
name-fits bytes is =
    let name = entry_name bytes in
    let parts = and_parts (not (length name == 0) && is_printable name) (is_zero (part_of bytes (length name) (16 - length name))) is in
    let some = (and_parts (not (length name == 0)) (is_printable name) parts.0).0 in
    let other : length name ≢ 0 = λ e. let t = eq-eqb (length name) 0 e in absurd cc in
    (omega (arith, other), omega (arith, before-least (λ byte. byte == 0) (part_of bytes 0 15), length-take 15 (drop 0 bytes)))

entry-named : (sectors : List (List ℕ)) (number : ℕ) → breaks sectors number ≡ false → NameFits (descriptor_of (entry_bytes sectors number))
unfolding breaks is_entry descriptor_of
entry-named sectors number whole = name-fits (entry_bytes sectors number) (first whole)
  where
    first : (not (is_entry (entry_bytes sectors number)) || repeats sectors number) ≡ false → is_name (entry_bytes sectors number) ≡ true
    first whole = by (is_name (entry_bytes sectors number)) refl
      where
        by : (test : Bool) → is_name (entry_bytes sectors number) ≡ test → is_name (entry_bytes sectors number) ≡ true
        by true is = is
        by false is = let never : true ≡ false = rw is at whole in absurd cc

all-append : (front back : List Descriptor) → AllByRecursion NameFits front → AllByRecursion NameFits back → AllByRecursion NameFits (front ++ back)
all-append [] back one two = two
all-append (entry ∷ front) back one two = (one.0, all-append front back one.1 two)

none-both : (one other : Option ℕ) → or_else one other ≡ None → (one ≡ None) × (other ≡ None)
none-both None other is = (refl, is)
none-both (Some n) other is = absurd cc

not-broken : (sectors : List (List ℕ)) (number : ℕ) (test : Bool) → (if test then Some number else None) ≡ None → test ≡ false
not-broken sectors number true is = absurd cc
not-broken sectors number false is = refl

all-named : (sectors : List (List ℕ)) (count : ℕ) → first_below (breaks sectors) count ≡ None → AllByRecursion NameFits (descriptors_of sectors count)
all-named sectors zero none = tt
all-named sectors (suc count) none =
    let both = none-both (first_below (breaks sectors) count) (if breaks sectors count then Some count else None) none in
    all-append (descriptors_of sectors count) (descriptor_of (entry_bytes sectors count) ∷ []) (all-named sectors count both.0)
    (entry-named sectors count (not-broken sectors count (breaks sectors count) both.1), tt)

-- the entries of a table have names
table-named : (names : ℕ) (sectors : List (List ℕ)) (entries : List Descriptor) → table_at names sectors ≡ Ok entries → AllByRecursion NameFits entries
unfolding table_at
table-named names sectors entries is = by (first_below (breaks sectors) names) refl is
  where
    by : (found : Option ℕ) → first_below (breaks sectors) names ≡ found → table_or_fault found names sectors ≡ Ok entries → AllByRecursion NameFits entries
    by None none is =
        let same : descriptors_of sectors names ≡ entries = cc in
        subst (AllByRecursion NameFits) same (all-named sectors names none)
    by (Some entry) some is = absurd cc

-- ---- as the prompt lists them

extra-fits : (bytes : List ℕ) (extra : Extra) → extra_at bytes ≡ Ok extra → length extra.fallback ≤ 255
unfolding extra_at
extra-fits bytes extra is = by (nat_le (number16 bytes 0) 255 && nat_le (number16 bytes 2) 31) refl
  where
    by : (test : Bool) → (nat_le (number16 bytes 0) 255 && nat_le (number16 bytes 2) 31) ≡ test → length extra.fallback ≤ 255
    by false absent = let never : ◌≡◌ {A = Result Extra MapFault} (Err (Rattle.lilo_model.specs.BootSector.BadTable 255)) (Ok extra) = rw absent at is in absurd cc
    by true there =
        let says : ◌≡◌ {A = Result Extra MapFault} (Ok (record { fallback = part_of bytes 4 (number16 bytes 0); password = part_of bytes 480 (number16 bytes 2) })) (Ok extra) = rw there at is in
        let same : ◌≡◌ {A = Extra} (record { fallback = part_of bytes 4 (number16 bytes 0); password = part_of bytes 480 (number16 bytes 2) }) extra = cc in
        let few : number16 bytes 0 ≤ 255 = leb-true (number16 bytes 0) 255 (and_parts (nat_le (number16 bytes 0) 255) (nat_le (number16 bytes 2) 31) there).0 in
        let short : length (part_of bytes 4 (number16 bytes 0)) ≤ 255 = omega (arith, few, length-take (number16 bytes 0) (drop 4 bytes)) in
        subst (λ (extra : Extra). length extra.fallback ≤ 255) same short

abbrev Short : Option (List ℕ) → Type 0
Short text = IfSome text (λ text. length text ≤ 255)

fallback-read : (found : Result Extra MapFault) → ((extra : Extra) → found ≡ Ok extra → length extra.fallback ≤ 255) → Short (option_map (λ extra. extra.fallback) (result_ok found))
fallback-read (Err fault) short = tt
fallback-read (Ok extra) short = short extra refl

fallback-bytes : (found : Result (List ℕ) slots.AddressFault) → Short (option_and_then (λ bytes. option_map (λ extra. extra.fallback) (result_ok (extra_at bytes))) (result_ok found))
fallback-bytes (Err fault) = tt
fallback-bytes (Ok bytes) = fallback-read (extra_at bytes) (λ extra is. extra-fits bytes extra is)

fallback-slot : (image : Image) (machine : Machine) (slot : Option Slot)
    → Short (option_and_then (λ slot. option_and_then (λ bytes. option_map (λ extra. extra.fallback) (result_ok (extra_at bytes))) (result_ok (slot_bytes_at image machine slot))) slot)
fallback-slot image machine None = tt
fallback-slot image machine (Some slot) = fallback-bytes (slot_bytes_at image machine slot)

listed-fits : (image : Image) (machine : Machine) (entries : List Descriptor) (passwords : List (Option (List ℕ))) → AllByRecursion NameFits entries
    → (place : ℕ) (entry : ListedEntry) → slice_get (map (listed_entry image machine) (zip entries passwords)) place ≡ Some entry → EntryFits entry
listed-fits image machine [] passwords all place entry is = absurd cc
listed-fits image machine (one ∷ entries) [] all place entry is = absurd cc
listed-fits image machine (one ∷ entries) (password ∷ passwords) all zero entry is =
    let same : listed_entry image machine (one, password) ≡ entry = cc in
    subst EntryFits same (record { some = all.0.0; name = all.0.1; fallback = fallback-slot image machine (extra_slot fallback_flag one) })
listed-fits image machine (one ∷ entries) (password ∷ passwords) all (suc place) entry is = listed-fits image machine entries passwords all.1 place entry is

-- ---- the law

module _ (site : Site) (image : Image) (keys : List Key) (memory : ℕ) (whole : IsWhole site image) where
  present-by : (read : Result BootSector MapFault) (line : DefaultLine) → line_by image site.machine read ≡ Some line → IsLine line
  unfolding present_line
  present-by (Err fault) line is = absurd cc
  present-by (Ok boot) line is = by (slot_bytes_at image site.machine boot.line) refl is
    where
      said : (bytes : List ℕ) (found : Result DefaultLine MapFault) → length bytes ≡ 512 → line_at bytes ≡ found → result_ok found ≡ Some line → IsLine line
      said bytes (Err fault) long at is = absurd cc
      said bytes (Ok other) long there is = let same : other ≡ line = cc in said-fits bytes line long (there ∙ ap Ok same)

      by : (found : Result (List ℕ) slots.AddressFault) → slot_bytes_at image site.machine boot.line ≡ found → option_and_then (λ bytes. result_ok (line_at bytes)) (result_ok found) ≡ Some line → IsLine line
      by (Err fault) at is = absurd cc
      by (Ok bytes) there is = said bytes (line_at bytes) (there-long site image whole boot.line bytes there) refl is

  decided-fits : (decided : Decides site image keys memory) → IsLine (decision_at image site.machine decided.boot decided.chooses.good (message_of image site.machine decided.boot) keys).line
  unfolding decision_at settings_of listed_entries
  decided-fits decided =
      let chooses = decided.chooses in
      let good = chooses.good in
      let read = line-read image site.machine decided.boot chooses.sectors chooses.read in
      let long = there-long site image whole decided.boot.line chooses.sectors.line read in
      let fits : IsLine good.line = said-fits chooses.sectors.line good.line long (good-line chooses.sectors good chooses.is) in
      let table = table-read image site.machine decided.boot chooses.sectors chooses.read in
      let named = table-named decided.boot.names table.0 good.entries (sym table.1 ∙ good_map-table chooses.sectors good chooses.is) in
      let setup : Setup = record { settings = settings_of decided.boot; entries = listed_entries image site.machine good; line = good.line } in
      choice-fits setup (omega arith) (listed-fits image site.machine good.entries good.passwords named) (text-fits good.line fits) keys fits

  pub given-fits : (line : DefaultLine) → (whole_boot image site.machine site.boot keys memory).line ≡ Some line → IsLine line
  unfolding line_in
  given-fits line is = by (decides site image keys memory)
    where
      by : ((whole_boot image site.machine site.boot keys memory).line ≡ line_in site image) ⊎ Decides site image keys memory → IsLine line
      by (inl same) = present-by (boot_at (image site.boot.disk site.boot.start)) line (sym same ∙ is)
      by (inr decided) =
          let new = (decision_at image site.machine decided.boot decided.chooses.good (message_of image site.machine decided.boot) keys).line in
          let found : ◌≡◌ {A = Option DefaultLine} (Some new) (Some line) = sym decided.chooses.line_is ∙ is in
          let same : new ≡ line = cc in
          subst IsLine same (decided-fits decided)

pub given_line_law : GivenLineLaw
given_line_law site image keys memory line whole is boot says = line_again line (given-fits site image keys memory whole line is)
