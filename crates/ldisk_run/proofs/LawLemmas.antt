-- What `ls` prints are the lines of a directory's entries.
use Rattle.std.proofs.Common.{◌≡◌, ◌==◌, ◌∙◌, ℕ, zero, suc, Bool, true, false, List, [], ◌∷◌, ◌++◌, Result, Ok, Err, refl, sym, ap, arith, append-nil}
use Rattle.std.specs.Prelude.{nat_le}
use Rattle.std.proofs.lemmas.Bool.{eqb-true}
use Rattle.std.proofs.lemmas.List.Concat.{flat_map-append}
use Rattle.lilo_model.specs.Checks.{◌>>=◌}
use Rattle.lilo_model.specs.Verdict.{Verdict}
use Rattle.lilo_model.specs.MinixLayout.{Super, Inode, is_size}
use Rattle.lilo_model.specs.MinixParts.{Parts, ZoneFault}
use Rattle.lilo_model.specs.MinixEntries.{Entry, entry_at, entries_at, entries_below, unless_free, places}
use Rattle.lilo_model.specs.LdiskVerdict.{Refusal, checked, piece_verdict, then_piece, printed, has_line, entry_line, named_node, entry_text, place_text, directory_found, listing_verdict, ls_verdict}
use Rattle.ldisk_run.specs.Laws.{line_of, lines_of, ListingLaw}
use Rattle.ldisk_run.proofs.AddsLemmas.{piece_behind}

-- the inode that an entry names is its own
node_by :
    (super : Super) (parts : Parts) (number : ℕ) (there sized : Bool) (node : Inode) → nat_le number super.inodes ≡ there
    → is_size super.kind (parts.node number).size ≡ sized → named_node super parts number ≡ Ok node → node ≡ parts.node number
unfolding named_node
node_by super parts number true true node there sized is = let read = rw (there, sized) at is in cc
node_by super parts number true false node there sized is = absurd (let read = rw (there, sized) at is in cc)
node_by super parts number false sized node there size is = absurd (let read = rw there at is in cc)

text_by :
    (super : Super) (parts : Parts) (entry : Entry) (found : Result Inode Refusal) (text : List ℕ)
    → named_node super parts entry.inode ≡ found → (found >>= λ inode. Ok (entry_line inode entry.name)) ≡ Ok text
    → text ≡ entry_line (parts.node entry.inode) entry.name
text_by super parts entry (Ok node) text found is =
    let own = node_by super parts entry.inode (nat_le entry.inode super.inodes) (is_size super.kind (parts.node entry.inode).size) node refl refl found in
    let line : entry_line node entry.name ≡ text = cc in
    sym line ∙ ap (λ inode. entry_line inode entry.name) own
text_by super parts entry (Err fault) text found is = absurd cc

-- the text of an entry is its line
entry_by :
    (super : Super) (parts : Parts) (entry : Entry) (lined : Bool) (text : List ℕ) → has_line entry ≡ lined
    → entry_text super parts entry ≡ Ok text → text ≡ line_of parts entry
unfolding entry_text
entry_by super parts entry true text lined is =
    let read = rw lined at is in
    rw lined (text_by super parts entry (named_node super parts entry.inode) text refl read)
entry_by super parts entry false text lined is =
    let read = rw lined at is in
    let none : [] ≡ text = cc in
    rw lined (sym none)

used_entry : (entry : Entry) → entry.inode == 0 ≡ false → unless_free entry ≡ entry ∷ []
used_entry entry used = rw used refl

free_by : (parts : Parts) (entry : Entry) (free : Bool) → entry.inode == 0 ≡ free → lines_of parts (unless_free entry) ≡ line_of parts entry
unfolding has_line
free_by parts entry true free = rw free refl
free_by parts entry false used = ap (lines_of parts) (used_entry entry used) ∙ append-nil (line_of parts entry)

-- ---- all entries

abbrev Lists : Super → Parts → Inode → ℕ → Type 0
Lists super parts directory count =
    (entries : List Entry) × (entries_below (entry_at super parts directory) count ≡ Ok entries)
    × ((printed (place_text super parts directory) count).text ≡ lines_of parts entries)

place_by :
    (super : Super) (parts : Parts) (directory : Inode) (place : ℕ) (found : Result Entry ZoneFault) (piece : Result (List ℕ) Refusal)
    → entry_at super parts directory place ≡ found → place_text super parts directory place ≡ piece
    → (piece_verdict piece).status ≡ 0
    → (entry : Entry) × (entry_at super parts directory place ≡ Ok entry) × (entry_text super parts entry ≡ Ok (piece_verdict piece).text)
unfolding place_text
place_by super parts directory place (Ok entry) (Ok text) found is fine = (entry, found, rw found at is)
place_by super parts directory place (Err fault) (Ok text) found is fine = absurd (let read = rw found at is in cc)
place_by super parts directory place found (Err fault) read is fine = absurd (omega (arith, fine))

before_fine : {F : Type 0} (before : Verdict) (piece : Result (List ℕ) F) (fine : Bool) → before.status == 0 ≡ fine
    → (then_piece before piece).status ≡ 0 → before.status ≡ 0
unfolding then_piece
before_fine before piece true is none = eqb-true before.status 0 is
before_fine before piece false is none = rw is at none

below_more :
    (found : ℕ → Result Entry ZoneFault) (count : ℕ) (entries : List Entry) (entry : Entry) → entries_below found count ≡ Ok entries
    → found count ≡ Ok entry → entries_below found (suc count) ≡ Ok (entries ++ unless_free entry)
below_more found count entries entry below here = rw (below, here) refl

lists : (super : Super) (parts : Parts) (directory : Inode) (count : ℕ) → (printed (place_text super parts directory) count).status ≡ 0 → Lists super parts directory count
unfolding printed
lists super parts directory zero fine = ([], refl, refl)
lists super parts directory (suc count) fine =
    let P = place_text super parts directory in
    let before = printed P count in
    let early = before_fine before (P count) (before.status == 0) refl fine in
    let behind = piece_behind before (P count) early in
    let here : (piece_verdict (P count)).status ≡ 0 = sym (ap (λ v. v.status) behind) ∙ fine in
    let (entries, below, text) = lists super parts directory count early in
    let (entry, read, told) = place_by super parts directory count (entry_at super parts directory count) (P count) refl refl here in
    let line = entry_by super parts entry (has_line entry) (piece_verdict (P count)).text refl told in (
      entries ++ unless_free entry,
      below_more (entry_at super parts directory) count entries entry below read,
      ap (λ v. v.text) behind ∙ ap (λ l. l ++ (piece_verdict (P count)).text) text
          ∙ ap (λ l. lines_of parts entries ++ l) (line ∙ sym (free_by parts entry (entry.inode == 0) refl))
          ∙ sym (flat_map-append (line_of parts) entries (unless_free entry)),
    )

found_by :
    (super : Super) (parts : Parts) (path : List ℕ) (found : Result Inode Refusal) → directory_found super parts path ≡ found
    → (checked found (listing_verdict super parts)).status ≡ 0
    → (directory : Inode) × (entries : List Entry) × (directory_found super parts path ≡ Ok directory)
    × (entries_at super parts directory ≡ Ok entries) × ((checked found (listing_verdict super parts)).text ≡ lines_of parts entries)
unfolding listing_verdict entries_at
found_by super parts path (Ok directory) found fine =
    let (entries, below, text) = lists super parts directory (places super.kind directory.size) fine in
    (directory, entries, found, below, text)
found_by super parts path (Err fault) found fine = absurd (omega (arith, fine))

pub listing_law : ListingLaw
unfolding ls_verdict
listing_law super parts path fine = found_by super parts path (directory_found super parts path) refl fine
