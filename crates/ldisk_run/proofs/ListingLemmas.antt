-- A directory's listing, block by block, is the one of its places.
use Rattle.std.proofs.Common.{◌≡◌, ◌<◌, ◌≤◌, ◌+◌, ◌*◌, ◌-◌, ◌/◌, ◌%◌, ◌==◌, min, ◌∙◌, ℕ, zero, suc, Bool, true, false, List, [], ◌∷◌, map, Result, Ok, Err, refl, sym, ap, arith, append-nil, append_assoc}
use Rattle.std.proofs.lemmas.Bool.{eqb-true}
use Rattle.lilo_model.specs.Verdict.{Verdict, verdict_behind}
use Rattle.lilo_model.specs.MinixLayout.{Kind, V1Short, V1Long, V2Short, V2Long, Super, Inode}
use Rattle.lilo_model.specs.MinixParts.{Parts, ZoneFault, block_at}
use Rattle.lilo_model.specs.MinixFind.{Zone}
use Rattle.lilo_model.specs.MinixEntries.{Entry, entry_in, entry_at, entries_per_block, places}
use Rattle.lilo_model.specs.LdiskVerdict.{silent, piece_verdict, then_piece, printed, has_line, entry_text, place_text, listing_verdict, Refusal, NoPath}
use Rattle.minix_tree.specs.Directory.{places_in, directory_blocks, without_place, block_entries}
use Rattle.minix_tree.specs.Placed.{placed_from}
use Rattle.ldisk_run.specs.Listing.{lines_behind, block_verdict}
use Rattle.ldisk_run.proofs.AddsLemmas.{GoesOn, goes_nowhere, goes_more, goes_twice, piece_behind, printed_more, printed_to}

-- ---- texts before a verdict's

shift_by :
    {F : Type 0} (text : List ℕ) (v : Verdict) (piece : Result (List ℕ) F) (fine : Bool) → v.status == 0 ≡ fine
    → then_piece (verdict_behind text v) piece ≡ verdict_behind text (then_piece v piece)
unfolding then_piece
shift_by text v piece true is = rw is (ap (λ t. record { status = (piece_verdict piece).status; text = t }) (append_assoc text v.text (piece_verdict piece).text))
shift_by text v piece false is = rw is refl

piece_shift :
    {F : Type 0} (text : List ℕ) (v : Verdict) (piece : Result (List ℕ) F)
    → then_piece (verdict_behind text v) piece ≡ verdict_behind text (then_piece v piece)
piece_shift text v piece = shift_by text v piece (v.status == 0) refl

lines_shift :
    (super : Super) (parts : Parts) (text : List ℕ) (v : Verdict) (entries : List Entry)
    → lines_behind super parts (verdict_behind text v) entries ≡ verdict_behind text (lines_behind super parts v entries)
unfolding lines_behind
lines_shift super parts text v [] = refl
lines_shift super parts text v (entry ∷ entries) =
    ap (λ w. lines_behind super parts w entries) (piece_shift text v (entry_text super parts entry))
    ∙ lines_shift super parts text (then_piece v (entry_text super parts entry)) entries

-- the first of some entries
pub lines_first :
    (super : Super) (parts : Parts) (v : Verdict) (entry : Entry) (entries : List Entry)
    → lines_behind super parts v (entry ∷ entries) ≡ lines_behind super parts (then_piece v (entry_text super parts entry)) entries
unfolding lines_behind
lines_first super parts v entry entries = refl

pub lines_none : (super : Super) (parts : Parts) (v : Verdict) → lines_behind super parts v [] ≡ v
unfolding lines_behind
lines_none super parts v = refl

-- entries go on what was printed before them
pub lines_on : (super : Super) (parts : Parts) (v : Verdict) (entries : List Entry) → GoesOn v (lines_behind super parts v entries)
unfolding lines_behind
lines_on super parts v [] = goes_nowhere v
lines_on super parts v (entry ∷ entries) =
    goes_twice v (then_piece v (entry_text super parts entry)) (lines_behind super parts (then_piece v (entry_text super parts entry)) entries)
    (goes_more v (entry_text super parts entry))
    (lines_on super parts (then_piece v (entry_text super parts entry)) entries)

-- ---- a block

nothing_by : (v : Verdict) (fine : Bool) → v.status == 0 ≡ fine → then_piece {F = Refusal} v (Ok []) ≡ v
unfolding then_piece
nothing_by v true is = let none = eqb-true v.status 0 is in rw (is, append-nil v.text, ← none) refl
nothing_by v false is = rw is refl

-- no text after others
piece_nothing : (v : Verdict) → then_piece {F = Refusal} v (Ok []) ≡ v
piece_nothing v = nothing_by v (v.status == 0) refl

div_place : (kind : Kind) (index place : ℕ) → place < entries_per_block kind → (entries_per_block kind * index + place) / entries_per_block kind ≡ index
div_place V1Short index place below = omega arith
div_place V1Long index place below = omega arith
div_place V2Short index place below = omega arith
div_place V2Long index place below = omega arith

mod_place : (kind : Kind) (index place : ℕ) → place < entries_per_block kind → (entries_per_block kind * index + place) % entries_per_block kind ≡ place
mod_place V1Short index place below = omega arith
mod_place V1Long index place below = omega arith
mod_place V2Short index place below = omega arith
mod_place V2Long index place below = omega arith

-- the text at a place of a block that was read
text_at :
    (super : Super) (parts : Parts) (inode : Inode) (index place : ℕ) (block : List ℕ)
    → block_at super parts inode index ≡ Ok block → place < entries_per_block super.kind
    → place_text super parts inode (entries_per_block super.kind * index + place) ≡ entry_text super parts (entry_in super.kind block place)
unfolding place_text entry_at
text_at super parts inode index place block read below =
    rw (div_place super.kind index place below, mod_place super.kind index place below, read) refl

free_by :
    (super : Super) (parts : Parts) (entry : Entry) → entry.inode == 0 ≡ true → entry_text super parts entry ≡ Ok []
unfolding entry_text has_line
free_by super parts entry free = rw free refl

lines_free :
    (super : Super) (parts : Parts) (v : Verdict) (block : List ℕ) (place count : ℕ)
    → (entry_in super.kind block place).inode == 0 ≡ true
    → lines_behind super parts v (map without_place (placed_from super.kind block place (suc count)))
    ≡ lines_behind super parts (then_piece v (entry_text super parts (entry_in super.kind block place))) (map without_place (placed_from super.kind block (place + 1) count))
unfolding placed_from
lines_free super parts v block place count free =
    rw (free, free_by super parts (entry_in super.kind block place) free, piece_nothing v) refl

lines_used :
    (super : Super) (parts : Parts) (v : Verdict) (block : List ℕ) (place count : ℕ)
    → (entry_in super.kind block place).inode == 0 ≡ false
    → lines_behind super parts v (map without_place (placed_from super.kind block place (suc count)))
    ≡ lines_behind super parts (then_piece v (entry_text super parts (entry_in super.kind block place))) (map without_place (placed_from super.kind block (place + 1) count))
unfolding placed_from lines_behind
lines_used super parts v block place count used = rw used refl

lines_place :
    (super : Super) (parts : Parts) (v : Verdict) (block : List ℕ) (place count : ℕ) (free : Bool)
    → (entry_in super.kind block place).inode == 0 ≡ free
    → lines_behind super parts v (map without_place (placed_from super.kind block place (suc count)))
    ≡ lines_behind super parts (then_piece v (entry_text super parts (entry_in super.kind block place))) (map without_place (placed_from super.kind block (place + 1) count))
lines_place super parts v block place count true free = lines_free super parts v block place count free
lines_place super parts v block place count false used = lines_used super parts v block place count used

none_placed : (super : Super) (parts : Parts) (v : Verdict) (block : List ℕ) (place : ℕ) → lines_behind super parts v (map without_place (placed_from super.kind block place 0)) ≡ v
unfolding placed_from lines_behind
none_placed super parts v block place = refl

-- the entries of a block that was read
block_lines :
    (super : Super) (parts : Parts) (inode : Inode) (index : ℕ) (block : List ℕ) (count place : ℕ)
    → block_at super parts inode index ≡ Ok block → place + count ≤ entries_per_block super.kind
    → lines_behind super parts (printed (place_text super parts inode) (entries_per_block super.kind * index + place))
    (map without_place (placed_from super.kind block place count))
    ≡ printed (place_text super parts inode) (entries_per_block super.kind * index + (place + count))
block_lines super parts inode index block zero place read fits =
    none_placed super parts (printed (place_text super parts inode) (entries_per_block super.kind * index + place)) block place
    ∙ ap (printed (place_text super parts inode)) (omega arith)
block_lines super parts inode index block (suc count) place read fits =
    let P = place_text super parts inode in
    let n = entries_per_block super.kind * index + place in
    let rest = map without_place (placed_from super.kind block (place + 1) count) in
    lines_place super parts (printed P n) block place count ((entry_in super.kind block place).inode == 0) refl
    ∙ ap (λ text. lines_behind super parts (then_piece (printed P n) text) rest) (sym (text_at super parts inode index place block read (omega arith)))
    ∙ ap (λ v. lines_behind super parts v rest) (sym (printed_more P n) ∙ ap (printed P) (omega arith))
    ∙ block_lines super parts inode index block count (place + 1) read (omega arith)
    ∙ ap (printed P) (omega arith)

-- ---- after the blocks before it

fine_shift : (v : Verdict) → v.status ≡ 0 → verdict_behind v.text (silent 0) ≡ v
fine_shift v fine = rw (append-nil v.text, ← fine) refl

read_block :
    (super : Super) (parts : Parts) (inode : Inode) (index count : ℕ) (block : List ℕ)
    → block_at super parts inode index ≡ Ok block → count ≤ entries_per_block super.kind
    → (printed (place_text super parts inode) (entries_per_block super.kind * index)).status ≡ 0
    → verdict_behind (printed (place_text super parts inode) (entries_per_block super.kind * index)).text
    (lines_behind super parts (silent 0) (map without_place (placed_from super.kind block 0 count)))
    ≡ printed (place_text super parts inode) (entries_per_block super.kind * index + count)
read_block super parts inode index count block read few fine =
    let P = place_text super parts inode in
    let start = entries_per_block super.kind * index in
    let entries = map without_place (placed_from super.kind block 0 count) in
    sym (lines_shift super parts (printed P start).text (silent 0) entries)
    ∙ ap (λ v. lines_behind super parts v entries) (fine_shift (printed P start) fine ∙ ap (printed P) (omega arith))
    ∙ block_lines super parts inode index block count 0 read (omega arith)
    ∙ ap (printed P) (omega arith)

refused_text :
    (super : Super) (parts : Parts) (inode : Inode) (index : ℕ) (fault : ZoneFault)
    → block_at super parts inode index ≡ Err fault → 0 < entries_per_block super.kind
    → place_text super parts inode (entries_per_block super.kind * index + 0) ≡ Err (NoPath (Zone fault))
unfolding place_text entry_at
refused_text super parts inode index fault refused some =
    rw (div_place super.kind index 0 some, refused) refl

refused_block :
    (super : Super) (parts : Parts) (inode : Inode) (index count : ℕ) (fault : ZoneFault)
    → block_at super parts inode index ≡ Err fault → suc count ≤ entries_per_block super.kind
    → (printed (place_text super parts inode) (entries_per_block super.kind * index)).status ≡ 0
    → verdict_behind (printed (place_text super parts inode) (entries_per_block super.kind * index)).text (silent 3)
    ≡ printed (place_text super parts inode) (entries_per_block super.kind * index + suc count)
refused_block super parts inode index count fault refused few fine =
    let P = place_text super parts inode in
    let start = entries_per_block super.kind * index in
    let first : P start ≡ Err (NoPath (Zone fault)) = ap P (omega arith) ∙ refused_text super parts inode index fault refused (omega arith) in
    let one : verdict_behind (printed P start).text (silent 3) ≡ printed P (suc start) =
    sym (printed_more P start ∙ piece_behind (printed P start) (P start) fine ∙ ap (λ piece. verdict_behind (printed P start).text (piece_verdict piece)) first) in
    let three : (printed P (suc start)).status ≡ 3 = sym (ap (λ v. v.status) one) in
    let on = printed_to P (suc start) (start + suc count) (omega arith) in
    one ∙ sym (on.stuck (λ none. absurd (omega (arith, three, none))))

block_by :
    (super : Super) (parts : Parts) (inode : Inode) (index count : ℕ) (found : Result (List ℕ) ZoneFault)
    → places_in super.kind inode.size index ≡ count → block_at super parts inode index ≡ found
    → count ≤ entries_per_block super.kind
    → (printed (place_text super parts inode) (entries_per_block super.kind * index)).status ≡ 0
    → verdict_behind (printed (place_text super parts inode) (entries_per_block super.kind * index)).text (block_verdict super parts inode index)
    ≡ printed (place_text super parts inode) (entries_per_block super.kind * index + count)
unfolding block_verdict block_entries lines_behind
block_by super parts inode index zero found none is few fine =
    rw none
    (fine_shift (printed (place_text super parts inode) (entries_per_block super.kind * index)) fine
    ∙ ap (printed (place_text super parts inode)) (omega arith))
block_by super parts inode index (suc count) (Ok block) some is few fine =
    rw (some, is) (read_block super parts inode index (suc count) block is few fine)
block_by super parts inode index (suc count) (Err fault) some is few fine =
    rw (some, is) (refused_block super parts inode index count fault is few fine)

few_places : (kind : Kind) (size index : ℕ) → places_in kind size index ≤ entries_per_block kind
few_places kind size index = omega arith

-- what is printed of a block goes after what was printed of those before it
pub block_printed :
    (super : Super) (parts : Parts) (inode : Inode) (index : ℕ)
    → (printed (place_text super parts inode) (entries_per_block super.kind * index)).status ≡ 0
    → verdict_behind (printed (place_text super parts inode) (entries_per_block super.kind * index)).text (block_verdict super parts inode index)
    ≡ printed (place_text super parts inode) (entries_per_block super.kind * index + places_in super.kind inode.size index)
block_printed super parts inode index fine =
    block_by super parts inode index (places_in super.kind inode.size index) (block_at super parts inode index) refl refl
    (few_places super.kind inode.size index) fine

-- ---- how many places the first blocks have

next_places : (kind : Kind) (all index : ℕ) → index < (all + (entries_per_block kind - 1)) / entries_per_block kind
    → entries_per_block kind * index + min (entries_per_block kind) (all - entries_per_block kind * index) ≡ min (entries_per_block kind * (index + 1)) all
next_places V1Short all index below = omega arith
next_places V1Long all index below = omega arith
next_places V2Short all index below = omega arith
next_places V2Long all index below = omega arith

first_places : (kind : Kind) (all index : ℕ) → index < (all + (entries_per_block kind - 1)) / entries_per_block kind
    → min (entries_per_block kind * index) all ≡ entries_per_block kind * index
first_places V1Short all index below = omega arith
first_places V1Long all index below = omega arith
first_places V2Short all index below = omega arith
first_places V2Long all index below = omega arith

last_places : (kind : Kind) (all : ℕ) → min (entries_per_block kind * ((all + (entries_per_block kind - 1)) / entries_per_block kind)) all ≡ all
last_places V1Short all = omega arith
last_places V1Long all = omega arith
last_places V2Short all = omega arith
last_places V2Long all = omega arith

-- what is printed of the first blocks
abbrev pub blocks_printed : Super → Parts → Inode → ℕ → Verdict
blocks_printed super parts inode index =
    printed (place_text super parts inode) (min (entries_per_block super.kind * index) (places super.kind inode.size))

pub blocks_more :
    (super : Super) (parts : Parts) (inode : Inode) (index : ℕ) → index < directory_blocks super.kind inode.size
    → (blocks_printed super parts inode index).status ≡ 0
    → verdict_behind (blocks_printed super parts inode index).text (block_verdict super parts inode index) ≡ blocks_printed super parts inode (index + 1)
blocks_more super parts inode index below fine =
    let P = place_text super parts inode in
    let all = places super.kind inode.size in
    let first = first_places super.kind all index below in
    let here : printed P (min (entries_per_block super.kind * index) all) ≡ printed P (entries_per_block super.kind * index) = ap (printed P) first in
    ap (λ v. verdict_behind v.text (block_verdict super parts inode index)) here
    ∙ block_printed super parts inode index (sym (ap (λ v. v.status) here) ∙ fine)
    ∙ ap (printed P) (next_places super.kind all index below)

pub blocks_none : (super : Super) (parts : Parts) (inode : Inode) → blocks_printed super parts inode 0 ≡ silent 0
unfolding printed
blocks_none super parts inode = let e : min (entries_per_block super.kind * 0) (places super.kind inode.size) ≡ 0 = omega arith in rw e refl

pub blocks_all :
    (super : Super) (parts : Parts) (inode : Inode)
    → blocks_printed super parts inode (directory_blocks super.kind inode.size) ≡ listing_verdict super parts inode
unfolding listing_verdict
blocks_all super parts inode = ap (printed (place_text super parts inode)) (last_places super.kind (places super.kind inode.size))

-- the listing goes on that of its first blocks
pub blocks_on :
    (super : Super) (parts : Parts) (inode : Inode) (index : ℕ) → GoesOn (blocks_printed super parts inode index) (listing_verdict super parts inode)
unfolding listing_verdict
blocks_on super parts inode index =
    printed_to (place_text super parts inode) (min (entries_per_block super.kind * index) (places super.kind inode.size)) (places super.kind inode.size) (omega arith)
