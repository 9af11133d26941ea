-- Entries that are listed one after another.
use Rattle.std.proofs.Common.{◌≡◌, ◌≢◌, ◌∙◌, ℕ, false, List, [], ◌∷◌, map, Ok, Err, refl, sym, ap}
use Rattle.std.proofs.lemmas.Bool.{ne_eqb}
use Rattle.lilo_model.specs.Verdict.{Verdict}
use Rattle.lilo_model.specs.MinixLayout.{Super}
use Rattle.lilo_model.specs.MinixParts.{Parts}
use Rattle.lilo_model.specs.MinixEntries.{PlacedEntry, entry_with, is_dots}
use Rattle.lilo_model.specs.LdiskVerdict.{silent, piece_verdict, then_piece, has_line, named_node, entry_text, entry_line}
use Rattle.minix_tree.specs.Directory.{without_place}
use Rattle.ldisk_run.specs.Listing.{lines_behind}
use Rattle.ldisk_run.specs.Pieces.{Held, Adds}
use Rattle.ldisk_run.specs.Run.{Halts, Does}
use Rattle.ldisk_run.specs.declared.halt.Halt.{Halt}
use Rattle.ldisk_run.proofs.AddsLemmas.{adds_nothing, does_same, does_piece, does_ended, piece_halted}
use Rattle.ldisk_run.proofs.HaltLemmas.{halts_behind}
use Rattle.ldisk_run.proofs.ListingLemmas.{lines_first, lines_none, lines_on}

-- ---- one entry

-- the inode of an entry that has a line is refused
pub entry_halted :
    (super : Super) (parts : Parts) (inode : ℕ) (name : List ℕ) (halt : Halt) (a : Held) → inode ≢ 0 → is_dots name ≡ false
    → Halts halt (named_node super parts inode)
    → Does (piece_verdict (entry_text super parts (entry_with inode name))) (Err halt) a a
unfolding entry_text has_line
entry_halted super parts inode name halt a used plain halts =
    let other = ne_eqb inode 0 used in
    piece_halted halt (entry_text super parts (entry_with inode name)) a
    (rw (other, plain) (halts_behind halt (named_node super parts inode) (λ node. Ok (entry_line node name)) halts))

-- ---- some entries

-- the entries before those that are left were added
abbrev pub Listed : Super → Parts → Held → Held → List PlacedEntry → List PlacedEntry → Type 0
Listed super parts a b rest all =
    (so_far : Verdict) × (so_far.status ≡ 0) × Adds a so_far.text b
    × (lines_behind super parts so_far (map without_place rest) ≡ lines_behind super parts (silent 0) (map without_place all))

pub listed_none : (super : Super) (parts : Parts) (a : Held) (all : List PlacedEntry) → Listed super parts a a all all
listed_none super parts a all = (silent 0, refl, adds_nothing a, refl)

first_left :
    (super : Super) (parts : Parts) (v : Verdict) (entry : PlacedEntry) (rest behind : List PlacedEntry) → rest ≡ entry ∷ behind
    → lines_behind super parts v (map without_place rest)
    ≡ lines_behind super parts (then_piece v (entry_text super parts (without_place entry))) (map without_place behind)
first_left super parts v entry rest behind is =
    ap (λ l. lines_behind super parts v (map without_place l)) is
    ∙ lines_first super parts v (without_place entry) (map without_place behind)

pub listed_more :
    (super : Super) (parts : Parts) (a b c : Held) (entry : PlacedEntry) (rest behind all : List PlacedEntry)
    → rest ≡ entry ∷ behind → Listed super parts a b rest all
    → Does (piece_verdict (entry_text super parts (without_place entry))) (Ok tt) b c
    → Listed super parts a c behind all
listed_more super parts a b c entry rest behind all is (so_far, fine, added, left) done =
    let text = entry_text super parts (without_place entry) in
    let more = does_piece so_far text (Ok tt) a b c fine added done in
    (then_piece so_far text, more.0, more.1, sym (first_left super parts so_far entry rest behind is) ∙ left)

pub listed_ended :
    (super : Super) (parts : Parts) (a b c : Held) (entry : PlacedEntry) (rest behind all : List PlacedEntry) (halt : Halt)
    → rest ≡ entry ∷ behind → Listed super parts a b rest all
    → Does (piece_verdict (entry_text super parts (without_place entry))) (Err halt) b c
    → Does (lines_behind super parts (silent 0) (map without_place all)) (Err halt) a c
listed_ended super parts a b c entry rest behind all halt is (so_far, fine, added, left) done =
    let text = entry_text super parts (without_place entry) in
    let more = does_piece so_far text (Err halt) a b c fine added done in
    does_same _ _ (Err halt) a c (sym (first_left super parts so_far entry rest behind is) ∙ left)
    (does_ended (then_piece so_far text) (lines_behind super parts (then_piece so_far text) (map without_place behind)) halt a c
    (lines_on super parts (then_piece so_far text) (map without_place behind)) more)

pub listed_all :
    (super : Super) (parts : Parts) (a b : Held) (rest all : List PlacedEntry) → rest ≡ [] → Listed super parts a b rest all
    → Does (lines_behind super parts (silent 0) (map without_place all)) (Ok tt) a b
listed_all super parts a b rest all none (so_far, fine, added, left) =
    does_same so_far _ (Ok tt) a b
    (sym (ap (λ l. lines_behind super parts so_far (map without_place l)) none ∙ lines_none super parts so_far) ∙ left) (fine, added)
