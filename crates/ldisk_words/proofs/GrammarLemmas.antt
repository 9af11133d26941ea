-- Arguments ask for something exactly where the grammar says so.
use Rattle.std.proofs.Common.{◌≡◌, ℕ, suc, ◌+◌, ◌<◌, Bool, true, false, List, [], ◌∷◌, ◌++◌, length, get_or, take, drop, refl, sym, ◌∙◌, ap, subst, arith}
use Rattle.std.specs.Prelude.{Option, None, Some, nat_lt, nat_le, bytes_eq, codes}
use Rattle.std.specs.Option.{option_and_then}
use Rattle.std.specs.List.{position_or_len, before_first, after_first}
use Rattle.std.specs.Str.Parse.{AllDigits}
use Rattle.std.proofs.Math.ListN.{get_or-append}
use Rattle.std.proofs.Math.Seq.{take-append_seam}
use Rattle.std.proofs.lemmas.Bool.{le-leb, leb-true, lt-ltb, ltb-true, eqb-true, ne_eqb}
use Rattle.std.proofs.lemmas.List.{length-append}
use Rattle.std.proofs.lemmas.List.Sums.{split_at_first, passes_at_first, position_or_len_is}
use Rattle.std.proofs.lemmas.Option.{same_Some}
use Rattle.std.proofs.lemmas.Slice.Eq.{bytes_eq-Decides}
use Rattle.std.proofs.lemmas.Str.Parse.{digit_at}
use Rattle.lilo_model.specs.Devices.{Device, device_at}
use Rattle.lilo_model.specs.LdiskWords.{is_volume_path}
use Rattle.lilo_model.specs.MinixLayout.{Kind, V1Short, V1Long, V2Short, V2Long}
use Rattle.ldisk_model.specs.Arguments.{PartWish, Command, Mkfs, Ln, Put, Get, Ls, Rm, Mkdir, Reclaim, Asked, asked_of, asked_new, kind_name, IsDecimal, IsWritten, IsPart, AreParts, IsPathWord, IsAsked, AskedLaw}
use Rattle.ldisk_model.specs.Arguments.{is_colon, Halves, halves_of, decimal_at, type_at, part_with, part_of, part_at, onto_parts, parts_at, kind_at, new_with, make_at, device_command, path_command, on_path_at, mkfs_with, pair_command, command_at, asked_at}
use Rattle.ldisk_model.specs.Arguments as grammar
use Rattle.ldisk_words.proofs.NumberLemmas.{decimal_read, decimal_written, type_read, type_written}

-- ---- parts

same_halves : (one other : Halves) → Some one ≡ Some other → one ≡ other
same_halves one other is = same_Some one other is

halves_read : (word : List ℕ) (halves : Halves) → halves_of word ≡ Some halves → word ≡ halves.before ++ 58 ∷ halves.after
unfolding halves_of
halves_read word halves is = by (nat_lt (position_or_len is_colon word) (length word)) refl
  where
    by : (cut : Bool) → nat_lt (position_or_len is_colon word) (length word) ≡ cut → word ≡ halves.before ++ 58 ∷ halves.after
    by true e =
        let below = ltb-true (position_or_len is_colon word) (length word) e in
        let same : record { before = before_first is_colon word; after = after_first is_colon word } ≡ halves = same_halves _ halves (rw e at is) in
        let colon : get_or word (position_or_len is_colon word) 0 ≡ 58 = eqb-true _ 58 (passes_at_first is_colon word 0 below) in
        split_at_first is_colon word 0 below ∙ ap (λ c. before_first is_colon word ++ c ∷ after_first is_colon word) colon
        ∙ ap (λ (h : Halves). h.before ++ 58 ∷ h.after) same
    by false e = absurd (let none = rw e at is in cc)

drop_seam : (start rest : List ℕ) → drop (suc (length start)) (start ++ 58 ∷ rest) ≡ rest
drop_seam [] rest = refl
drop_seam (c ∷ start) rest = drop_seam start rest

digit_no_colon : (digits : List ℕ) (i : ℕ) → AllDigits 10 digits → i < length digits → is_colon (get_or digits i 0) ≡ false
digit_no_colon digits i all below =
    let range = digit_at digits i all below in
    ne_eqb (get_or digits i 0) 58 (λ is. omega (arith, range, is))

halves_written : (start rest : List ℕ) → AllDigits 10 start → halves_of (start ++ 58 ∷ rest) ≡ Some (record { before = start; after = rest })
unfolding halves_of
halves_written start rest all =
    let word : List ℕ = start ++ 58 ∷ rest in
    let long : length word ≡ length start + suc (length rest) = length-append start (58 ∷ rest) in
    let at : position_or_len is_colon word ≡ length start =
    position_or_len_is is_colon word (length start) 0 (omega (arith, long))
    (λ k below. ap is_colon (get_or-append start (58 ∷ rest) 0 k below) ∙ digit_no_colon start k all below)
    (λ below. ap is_colon (seam start rest)) in
    let fits : nat_lt (length start) (length word) ≡ true = lt-ltb (length start) (length word) (omega (arith, long)) in
    let before : take (length start) word ≡ start = take-append_seam start (58 ∷ rest) in
    let next : length start + 1 ≡ suc (length start) = omega arith in
    let after : drop (length start + 1) word ≡ rest = ap (λ n. drop n word) next ∙ drop_seam start rest in
    rw (at, fits, before, after) refl
  where
    seam : (start rest : List ℕ) → get_or (start ++ 58 ∷ rest) (length start) 0 ≡ 58
    seam [] rest = refl
    seam (c ∷ start) rest = seam start rest

part_texts : (start count kind : List ℕ) (part : PartWish) → part_of start count kind ≡ Some part
    → IsDecimal 0 4294967295 start part.start × IsDecimal 0 4294967295 count part.count × ((length kind ≡ 2) × IsWritten 16 kind part.kind)
unfolding part_of
part_texts start count kind part is =
    by (decimal_at 0 4294967295 start) (decimal_at 0 4294967295 count) (type_at kind) refl refl refl is
  where
    by : (a b c : Option ℕ) → decimal_at 0 4294967295 start ≡ a → decimal_at 0 4294967295 count ≡ b → type_at kind ≡ c → part_with a b c ≡ Some part
        → IsDecimal 0 4294967295 start part.start × IsDecimal 0 4294967295 count part.count × ((length kind ≡ 2) × IsWritten 16 kind part.kind)
    by None b c e f g found = absurd cc
    by (Some a) None c e f g found = absurd cc
    by (Some a) (Some b) None e f g found = absurd cc
    by (Some a) (Some b) (Some c) e f g found =
        let same : record { start = a; count = b; kind = c } ≡ part = same_Some _ part found in (
          decimal_read 0 4294967295 start part.start (e ∙ ap (λ (p : PartWish). Some p.start) same),
          decimal_read 0 4294967295 count part.count (f ∙ ap (λ (p : PartWish). Some p.count) same),
          type_read kind part.kind (g ∙ ap (λ (p : PartWish). Some p.kind) same),
        )

part_read : (word : List ℕ) (part : PartWish) → part_at word ≡ Some part → IsPart word part
unfolding part_at
part_read word part is = outer (halves_of word) refl is
  where
    inner : (first : Halves) (second : Option Halves) → halves_of word ≡ Some first → halves_of first.after ≡ second
        → option_and_then (λ second. part_of first.before second.before second.after) second ≡ Some part → IsPart word part
    inner first None e f found = absurd cc
    inner first (Some second) e f found =
        let texts = part_texts first.before second.before second.after part found in
        record {
          start = first.before;
          count = second.before;
          kind = second.after;
          spelled = halves_read word first e ∙ ap (λ rest. first.before ++ 58 ∷ rest) (halves_read first.after second f);
          starts = texts.0;
          counts = texts.1;
          two = texts.2.0;
          kinds = texts.2.1;
        }

    outer : (first : Option Halves) → halves_of word ≡ first
        → option_and_then (λ first. option_and_then (λ second. part_of first.before second.before second.after) (halves_of first.after)) first ≡ Some part → IsPart word part
    outer None e found = absurd cc
    outer (Some first) e found = inner first (halves_of first.after) e refl found

part_written : (word : List ℕ) (part : PartWish) → IsPart word part → part_at word ≡ Some part
unfolding part_at part_of
part_written word part is =
    let one = halves_written is.start (is.count ++ 58 ∷ is.kind) is.starts.written.numeral.1 in
    let two = halves_written is.count is.kind is.counts.written.numeral.1 in
    let a = decimal_written 0 4294967295 is.start part.start is.starts in
    let b = decimal_written 0 4294967295 is.count part.count is.counts in
    let c = type_written is.kind part.kind is.two is.kinds in
    rw (is.spelled, one, two, a, b, c) refl

parts_by : (word : List ℕ) (words : List (List ℕ)) (parts : List PartWish) (first : Option PartWish) (others : Option (List PartWish))
    → part_at word ≡ first → parts_at words ≡ others → onto_parts first others ≡ Some parts
    → ((rest : List PartWish) → parts_at words ≡ Some rest → AreParts words rest) → AreParts (word ∷ words) parts
parts_by word words parts None others e f found are = absurd cc
parts_by word words parts (Some first) None e f found are = absurd cc
parts_by word words parts (Some first) (Some rest) e f found are =
    subst (AreParts (word ∷ words)) (same_Some (first ∷ rest) parts found) (grammar.more word first words rest (part_read word first e) (are rest f))

parts_read : (words : List (List ℕ)) (parts : List PartWish) → parts_at words ≡ Some parts → AreParts words parts
unfolding parts_at
parts_read [] parts is = subst (AreParts []) (same_Some [] parts is) grammar.none
parts_read (word ∷ words) parts is = parts_by word words parts (part_at word) (parts_at words) refl refl is (parts_read words)

parts_written : (words : List (List ℕ)) (parts : List PartWish) → AreParts words parts → parts_at words ≡ Some parts
unfolding parts_at
parts_written words parts grammar.none = refl
parts_written words parts (grammar.more word part rest others is are) =
    rw (part_written word part is, parts_written rest others are) refl

-- ---- commands

same : (word text : List ℕ) → bytes_eq word text ≡ true → word ≡ text
same word text e = (bytes_eq-Decides word text).0 e

path_read : (word path : List ℕ) (device : Device) (command : Command) → path_command word device path ≡ Some command
    → (of : Device → List ℕ → Command) × IsPathWord word of × (of device path ≡ command)
unfolding path_command
path_read word path device command is =
    by (bytes_eq word (codes "put")) (bytes_eq word (codes "get")) (bytes_eq word (codes "ls")) (bytes_eq word (codes "rm")) (bytes_eq word (codes "mkdir")) refl refl refl refl refl
  where
    by : (a b c d e : Bool) → bytes_eq word (codes "put") ≡ a → bytes_eq word (codes "get") ≡ b → bytes_eq word (codes "ls") ≡ c → bytes_eq word (codes "rm") ≡ d → bytes_eq word (codes "mkdir") ≡ e
        → (of : Device → List ℕ → Command) × IsPathWord word of × (of device path ≡ command)
    by true b c d e p q r s t = (Put, subst (λ w. IsPathWord w Put) (sym (same word (codes "put") p)) grammar.put, same_Some _ command (rw p at is))
    by false true c d e p q r s t = (Get, subst (λ w. IsPathWord w Get) (sym (same word (codes "get") q)) grammar.get, same_Some _ command (rw (p, q) at is))
    by false false true d e p q r s t = (Ls, subst (λ w. IsPathWord w Ls) (sym (same word (codes "ls") r)) grammar.ls, same_Some _ command (rw (p, q, r) at is))
    by false false false true e p q r s t = (Rm, subst (λ w. IsPathWord w Rm) (sym (same word (codes "rm") s)) grammar.rm, same_Some _ command (rw (p, q, r, s) at is))
    by false false false false true p q r s t = (Mkdir, subst (λ w. IsPathWord w Mkdir) (sym (same word (codes "mkdir") t)) grammar.mkdir, same_Some _ command (rw (p, q, r, s, t) at is))
    by false false false false false p q r s t = absurd (let none = rw (p, q, r, s, t) at is in cc)

path_written : (word path : List ℕ) (device : Device) (of : Device → List ℕ → Command) → IsPathWord word of
    → (path_command word device path ≡ Some (of device path)) × (bytes_eq word (codes "make") ≡ false)
unfolding path_command
path_written word path device of grammar.put = (refl, refl)
path_written word path device of grammar.get = (refl, refl)
path_written word path device of grammar.ls = (refl, refl)
path_written word path device of grammar.rm = (refl, refl)
path_written word path device of grammar.mkdir = (refl, refl)

kind_read : (word : List ℕ) (kind : Kind) → kind_at word ≡ Some kind → word ≡ kind_name kind
unfolding kind_at
kind_read word kind is = by (bytes_eq word (codes "v1-14")) (bytes_eq word (codes "v1-30")) (bytes_eq word (codes "v2-14")) (bytes_eq word (codes "v2-30")) refl refl refl refl
  where
    by : (a b c d : Bool) → bytes_eq word (codes "v1-14") ≡ a → bytes_eq word (codes "v1-30") ≡ b → bytes_eq word (codes "v2-14") ≡ c → bytes_eq word (codes "v2-30") ≡ d → word ≡ kind_name kind
    by true b c d p q r s = same word (codes "v1-14") p ∙ ap kind_name (same_Some V1Short kind (rw p at is))
    by false true c d p q r s = same word (codes "v1-30") q ∙ ap kind_name (same_Some V1Long kind (rw (p, q) at is))
    by false false true d p q r s = same word (codes "v2-14") r ∙ ap kind_name (same_Some V2Short kind (rw (p, q, r) at is))
    by false false false true p q r s = same word (codes "v2-30") s ∙ ap kind_name (same_Some V2Long kind (rw (p, q, r, s) at is))
    by false false false false p q r s = absurd (let none = rw (p, q, r, s) at is in cc)

kind_written : (kind : Kind) → kind_at (kind_name kind) ≡ Some kind
unfolding kind_at
kind_written V1Short = refl
kind_written V1Long = refl
kind_written V2Short = refl
kind_written V2Long = refl

-- ---- from what is read to the grammar

three_read : (word image name : List ℕ) (device : Device) (asked : Asked) → device_at name ≡ Some device
    → option_and_then (λ command. Some (asked_of image command)) (device_command word device) ≡ Some asked
    → IsAsked (word ∷ image ∷ name ∷ []) asked
unfolding device_command
three_read word image name device asked named is = by (bytes_eq word (codes "reclaim")) refl
  where
    by : (reclaim : Bool) → bytes_eq word (codes "reclaim") ≡ reclaim → IsAsked (word ∷ image ∷ name ∷ []) asked
    by true e =
        rw (same word (codes "reclaim") e, ← same_Some (asked_of image (Reclaim device)) asked (rw e at is))
        (grammar.reclaim image name device named)
    by false e = absurd (let none = rw e at is in cc)

four_read : (word image name path : List ℕ) (device : Device) (asked : Asked) → device_at name ≡ Some device
    → option_and_then (λ command. Some (asked_of image command)) (on_path_at word device path) ≡ Some asked
    → IsAsked (word ∷ image ∷ name ∷ path ∷ []) asked
unfolding on_path_at
four_read word image name path device asked named is = by (is_volume_path path) refl
  where
    found : is_volume_path path ≡ true → (command : Option Command) → path_command word device path ≡ command
        → option_and_then (λ command. Some (asked_of image command)) command ≡ Some asked → IsAsked (word ∷ image ∷ name ∷ path ∷ []) asked
    found good None e f = absurd cc
    found good (Some command) e f =
        let read = path_read word path device command e in
        subst (IsAsked (word ∷ image ∷ name ∷ path ∷ [])) (ap (asked_of image) read.2 ∙ same_Some (asked_of image command) asked f)
        (grammar.on_path word image name path device read.0 read.1 named good)

    by : (good : Bool) → is_volume_path path ≡ good → IsAsked (word ∷ image ∷ name ∷ path ∷ []) asked
    by true e = found e (path_command word device path) refl (rw e at is)
    by false e = absurd (let none = rw e at is in cc)

five_read : (word image name first second : List ℕ) (device : Device) (asked : Asked) → device_at name ≡ Some device
    → option_and_then (λ command. Some (asked_of image command)) (pair_command word device first second) ≡ Some asked
    → IsAsked (word ∷ image ∷ name ∷ first ∷ second ∷ []) asked
unfolding pair_command
five_read word image name first second device asked named is =
    by (bytes_eq word (codes "mkfs")) (bytes_eq word (codes "ln")) (is_volume_path first) refl refl refl
  where
    made : bytes_eq word (codes "mkfs") ≡ true → (kind : Option Kind) (inodes : Option ℕ) → kind_at first ≡ kind → decimal_at 1 65535 second ≡ inodes
        → option_and_then (λ command. Some (asked_of image command)) (mkfs_with device kind inodes) ≡ Some asked
        → IsAsked (word ∷ image ∷ name ∷ first ∷ second ∷ []) asked
    made is None inodes e f found = absurd cc
    made is (Some kind) None e f found = absurd cc
    made is (Some kind) (Some inodes) e f found =
        rw (same word (codes "mkfs") is, kind_read first kind e, ← same_Some (asked_of image (Mkfs device kind inodes)) asked found)
        (grammar.mkfs image name second device kind inodes named (decimal_read 1 65535 second inodes f))

    by : (a b c : Bool) → bytes_eq word (codes "mkfs") ≡ a → bytes_eq word (codes "ln") ≡ b → is_volume_path first ≡ c
        → IsAsked (word ∷ image ∷ name ∷ first ∷ second ∷ []) asked
    by true b c p q r = made p (kind_at first) (decimal_at 1 65535 second) refl refl (rw p at is)
    by false true true p q r =
        rw (same word (codes "ln") q, ← same_Some (asked_of image (Ln device first second)) asked (rw (p, q, r) at is))
        (grammar.ln image name first second device named r)
    by false false c p q r = absurd (let none = rw (p, q) at is in cc)
    by false true false p q r = absurd (let none = rw (p, q, r) at is in cc)

make_read : (image : List ℕ) (words : List (List ℕ)) (asked : Asked) → make_at image words ≡ Some asked → IsAsked (codes "make" ∷ image ∷ words) asked
unfolding make_at
make_read image [] asked is = absurd cc
make_read image (digits ∷ words) asked is = by (nat_le (length words) 4) refl
  where
    found : nat_le (length words) 4 ≡ true → (sectors : Option ℕ) (parts : Option (List PartWish)) → decimal_at 1 4294967295 digits ≡ sectors
        → parts_at words ≡ parts → new_with image sectors parts ≡ Some asked → IsAsked (codes "make" ∷ image ∷ digits ∷ words) asked
    found few None parts e f g = absurd cc
    found few (Some sectors) None e f g = absurd cc
    found few (Some sectors) (Some parts) e f g =
        rw (← same_Some (asked_new image sectors parts) asked g)
        (grammar.make image digits sectors words parts (decimal_read 1 4294967295 digits sectors e) (leb-true (length words) 4 few) (parts_read words parts f))

    by : (few : Bool) → nat_le (length words) 4 ≡ few → IsAsked (codes "make" ∷ image ∷ digits ∷ words) asked
    by true e = found e (decimal_at 1 4294967295 digits) (parts_at words) refl refl (rw e at is)
    by false e = absurd (let none = rw e at is in cc)

command_read : (word image : List ℕ) (words : List (List ℕ)) (asked : Asked)
    → option_and_then (λ command. Some (asked_of image command)) (command_at word words) ≡ Some asked → IsAsked (word ∷ image ∷ words) asked
unfolding command_at
command_read word image [] asked is = absurd cc
command_read word image (name ∷ []) asked is = by (device_at name) refl is
  where
    by : (device : Option Device) → device_at name ≡ device
        → option_and_then (λ command. Some (asked_of image command)) (option_and_then (λ device. device_command word device) device) ≡ Some asked
        → IsAsked (word ∷ image ∷ name ∷ []) asked
    by None e found = absurd cc
    by (Some device) e found = three_read word image name device asked e found
command_read word image (name ∷ (path ∷ [])) asked is = by (device_at name) refl is
  where
    by : (device : Option Device) → device_at name ≡ device
        → option_and_then (λ command. Some (asked_of image command)) (option_and_then (λ device. on_path_at word device path) device) ≡ Some asked
        → IsAsked (word ∷ image ∷ name ∷ path ∷ []) asked
    by None e found = absurd cc
    by (Some device) e found = four_read word image name path device asked e found
command_read word image (name ∷ (first ∷ (second ∷ []))) asked is = by (device_at name) refl is
  where
    by : (device : Option Device) → device_at name ≡ device
        → option_and_then (λ command. Some (asked_of image command)) (option_and_then (λ device. pair_command word device first second) device) ≡ Some asked
        → IsAsked (word ∷ image ∷ name ∷ first ∷ second ∷ []) asked
    by None e found = absurd cc
    by (Some device) e found = five_read word image name first second device asked e found
command_read word image (a ∷ (b ∷ (c ∷ (d ∷ words)))) asked is = absurd cc

asked_read : (words : List (List ℕ)) (asked : Asked) → asked_at words ≡ Some asked → IsAsked words asked
unfolding asked_at
asked_read [] asked is = absurd cc
asked_read (word ∷ []) asked is = absurd cc
asked_read (word ∷ (image ∷ words)) asked is = by (bytes_eq word (codes "make")) refl
  where
    by : (make : Bool) → bytes_eq word (codes "make") ≡ make → IsAsked (word ∷ image ∷ words) asked
    by true e = rw (same word (codes "make") e) (make_read image words asked (rw e at is))
    by false e = command_read word image words asked (rw e at is)

-- ---- from the grammar to what is read

asked_written : (words : List (List ℕ)) (asked : Asked) → IsAsked words asked → asked_at words ≡ Some asked
unfolding asked_at make_at command_at device_command on_path_at pair_command
asked_written words asked (grammar.make image digits sectors rest parts number few are) =
    rw (le-leb (length rest) 4 few, decimal_written 1 4294967295 digits sectors number, parts_written rest parts are) refl
asked_written words asked (grammar.mkfs image name digits device kind inodes named number) =
    rw (named, kind_written kind, decimal_written 1 65535 digits inodes number) refl
asked_written words asked (grammar.ln image name path target device named good) = rw (named, good) refl
asked_written words asked (grammar.on_path word image name path device of is named good) =
    let read = path_written word path device of is in
    rw (read.1, named, good, read.0) refl
asked_written words asked (grammar.reclaim image name device named) = rw named refl

pub asked_law : AskedLaw
asked_law words asked = (asked_read words asked, asked_written words asked)
