-- What is seen of a directory, entry by entry and block by block.
use Rattle.std.proofs.Common.{◌≡◌, ◌≢◌, ◌≤◌, ◌<◌, ◌+◌, ◌*◌, ◌-◌, ◌==◌, ℕ, zero, suc, Bool, true, false, not, ◌&&◌, ◌||◌, if◌then◌else◌, List, [], ◌∷◌, ◌++◌, length, min, Option, None, Some, Result, Ok, Err, bytes_eq, is_some, mul_comm, refl, sym, subst, ap, ◌∙◌, arith, append_assoc, append-nil, add-zero, add-suc, length-append}
use Rattle.std.specs.List.{list_any}
use Rattle.std.proofs.lemmas.Bool.{ne_eqb}
use Rattle.std.proofs.lemmas.List.Folds.{list_any-append}
use Rattle.disk_trait.specs.Past.{Past, Told, now_of}
use Rattle.lilo_model.specs.Checks.{◌>>=◌}
use Rattle.lilo_model.specs.MinixLayout.{Kind, Super, Inode}
use Rattle.lilo_model.specs.MinixParts as volumes
use Rattle.lilo_model.specs.MinixParts.{Parts, Volume, ZoneFault, parts_of, block_at}
use Rattle.lilo_model.specs.MinixEntries.{Entry, PlacedEntry, placed_entry, entry_in, entry_at, entries_per_block, places}
use Rattle.minix_tree.specs.Directory.{places_in, directory_blocks}
use Rattle.minix_tree.specs.Found.{places_before}
use Rattle.minix_tree.proofs.FindLemmas.{entry_of_block, entry_refused, round, all_before}
use Rattle.minix_zones.specs.View as zones
use Rattle.minix_layout.specs.View.{layout_fault_view}
use Rattle.minix_zones.specs.declared.zone_fault.ZoneFault as faults
use Rattle.minix_zones.specs.declared.zone_fault.ZoneFault.TheVariants as variants
use Rattle.write_model.specs.Wish.{Promise}
use Rattle.write_model.specs.Places.{entries_to, all_entries, is_named, has_name, is_promised, first_free}
use Rattle.minix_choice.specs.declared.directory.Seen.{Seen}
use Rattle.minix_choice.specs.Directory.{first_entries, Sees, SeesTo, Looks}

-- ---- one more entry

-- a place, where an entry there is free
abbrev free_here : (ℕ → Bool) → ℕ → Entry → Option ℕ
free_here promised place entry = if (entry.inode == 0) && not (promised place) then Some place else None

abbrev or_else : Option ℕ → Option ℕ → Option ℕ
or_else (Some place) other = Some place
or_else None other = other

free_by : (promised : ℕ → Bool) (place : ℕ) (free : Bool) (rest : Option ℕ) (other : Option ℕ)
    → or_else (if free then Some place else rest) other ≡ (if free then Some place else or_else rest other)
free_by promised place true rest other = refl
free_by promised place false rest other = refl

first_free-append : (promised : ℕ → Bool) (place : ℕ) (entries : List Entry) (entry : Entry)
    → first_free promised place (entries ++ (entry ∷ [])) ≡ or_else (first_free promised place entries) (free_here promised (place + length entries) entry)
first_free-append promised place [] entry =
    let e : place + 0 ≡ place = omega arith in
    rw e refl
first_free-append promised place (first ∷ entries) entry =
    let e : place + suc (length entries) ≡ suc place + length entries = omega arith in
    rw (e, first_free-append promised (suc place) entries entry)
    (sym (free_by promised place ((first.inode == 0) && not (promised place)) (first_free promised (suc place) entries) (free_here promised (suc place + length entries) entry)))

or_none : (a b : Bool) → (a || (b || false)) ≡ (a || b)
or_none true b = refl
or_none false true = refl
or_none false false = refl

has_name-append : (name : List ℕ) (entries : List Entry) (entry : Entry)
    → has_name name (entries ++ (entry ∷ [])) ≡ (has_name name entries || is_named name entry)
unfolding has_name
has_name-append name entries entry =
    list_any-append (is_named name) entries (entry ∷ []) ∙ or_none (list_any (is_named name) entries) (is_named name entry)

-- what is seen with one more entry
abbrev pub seen_with : (ℕ → Bool) → List ℕ → ℕ → Entry → Seen → Seen
seen_with promised name place entry seen =
    record { named = seen.named || is_named name entry; free = or_else seen.free (free_here promised place entry) }

pub sees_more : (directory : ℕ) (name : List ℕ) (promises : List Promise) (entries : List Entry) (place : ℕ) (entry : Entry) (old new : Seen)
    → length entries ≡ place → Sees directory name promises entries old
    → new ≡ seen_with (is_promised promises directory) name place entry old
    → Sees directory name promises (entries ++ (entry ∷ [])) new
sees_more directory name promises entries place entry old new many sees is = record {
  named = rw (is, sees.named) (sym (has_name-append name entries entry));
  free =
      let e : place ≡ 0 + length entries = omega (arith, many) in
      rw (is, sees.free, e) (sym (first_free-append (is_promised promises directory) 0 entries entry));
}

-- nothing is seen of no entries
pub sees_none : (directory : ℕ) (name : List ℕ) (promises : List Promise) → Sees directory name promises [] (record { named = false; free = None })
unfolding has_name
sees_none directory name promises = record { named = refl; free = refl }

-- ---- the entries of a block

pub entries_more : (at : ℕ → Result Entry ZoneFault) (place : ℕ) (entries : List Entry) (entry : Entry)
    → entries_to at place ≡ Ok entries → at place ≡ Ok entry → entries_to at (suc place) ≡ Ok (entries ++ (entry ∷ []))
entries_more at place entries entry before is = rw (before, is) refl

-- the number of what was read
abbrev length_in : Result (List Entry) ZoneFault → ℕ
length_in (Ok entries) = length entries
length_in (Err fault) = 0

many_by : (at : ℕ → Result Entry ZoneFault) (place : ℕ) (before : Result (List Entry) ZoneFault) (here : Result Entry ZoneFault) (entries : List Entry)
    → ((found : List Entry) → before ≡ Ok found → length found ≡ place)
    → (before >>= λ found. here >>= λ entry. Ok (found ++ (entry ∷ []))) ≡ Ok entries → length entries ≡ suc place
many_by at place (Err fault) here entries so_far is = cc
many_by at place (Ok found) (Err fault) entries so_far is = cc
many_by at place (Ok found) (Ok entry) entries so_far is =
    let many : length found ≡ place = so_far found refl in
    let L : Result (List Entry) ZoneFault → ℕ = length_in in
    sym (ap L is) ∙ length-append found (entry ∷ []) ∙ (omega (arith, many))

pub entries_many : (at : ℕ → Result Entry ZoneFault) (place : ℕ) (entries : List Entry) → entries_to at place ≡ Ok entries → length entries ≡ place
entries_many at zero [] is = refl
entries_many at zero (entry ∷ entries) is = cc
entries_many at (suc place) entries is =
    many_by at place (entries_to at place) (at place) entries (λ found. entries_many at place found) is

block_part : (super : Super) (parts : Parts) (inode : Inode) (index : ℕ) (block : List ℕ) (count : ℕ) (entries : List Entry)
    → block_at super parts inode index ≡ Ok block → count ≤ entries_per_block super.kind
    → entries_to (entry_at super parts inode) (entries_per_block super.kind * index) ≡ Ok entries
    → entries_to (entry_at super parts inode) (entries_per_block super.kind * index + count) ≡ Ok (entries ++ first_entries super.kind block count)
block_part super parts inode index block zero entries read few before = rw (add-zero, append-nil) before
block_part super parts inode index block (suc count) entries read few before =
    let small : count < entries_per_block super.kind = omega arith in
    let so_far = block_part super parts inode index block count entries read (omega arith) before in
    let C : List Entry → Result (List Entry) ZoneFault = λ all. Ok all in
    rw add-suc
    (entries_more (entry_at super parts inode) (entries_per_block super.kind * index + count) (entries ++ first_entries super.kind block count) (entry_in super.kind block count)
    so_far (entry_of_block super parts inode index count block read small)
    ∙ ap C (append_assoc entries (first_entries super.kind block count) (entry_in super.kind block count ∷ [])))

-- ---- block by block

-- so many blocks were looked at
pub sees_block : (super : Super) (parts : Parts) (inode : Inode) (directory : ℕ) (name : List ℕ) (promises : List Promise) (index count first : ℕ) (block : List ℕ) (old new : Seen)
    → index < directory_blocks super.kind inode.size → count ≡ places_in super.kind inode.size index → first ≡ entries_per_block super.kind * index
    → block_at super parts inode index ≡ Ok block
    → SeesTo super parts inode directory name promises (places_before super.kind inode.size index) old
    → ((entries : List Entry) → length entries ≡ first → Sees directory name promises entries old → Sees directory name promises (entries ++ first_entries super.kind block count) new)
    → SeesTo super parts inode directory name promises (places_before super.kind inode.size (index + 1)) new
sees_block super parts inode directory name promises index count first block old new below is begins read before step =
    let at = round super.kind inode.size index below in
    let F : ℕ → Result (List Entry) ZoneFault = λ n. entries_to (entry_at super parts inode) n in
    let C : ℕ → Result (List Entry) ZoneFault = λ n. Ok (before.0 ++ first_entries super.kind block n) in
    let here : F (entries_per_block super.kind * index) ≡ Ok before.0 = sym (ap F at.here) ∙ before.1 in
    let many : length before.0 ≡ first = entries_many (entry_at super parts inode) (entries_per_block super.kind * index) before.0 here ∙ sym begins in (
      before.0 ++ first_entries super.kind block count,
      ap F at.next ∙ block_part super parts inode index block (places_in super.kind inode.size index) before.0 read at.few here ∙ sym (ap C is),
      step before.0 many before.2,
    )

refuse_more : (at : ℕ → Result Entry ZoneFault) (fault : ZoneFault) (place more : ℕ) → entries_to at place ≡ Err fault → entries_to at (place + more) ≡ Err fault
refuse_more at fault place zero refused = rw add-zero refused
refuse_more at fault place (suc more) refused = rw (add-suc, refuse_more at fault place more refused) refl

-- a block was refused
pub block_refused : (super : Super) (parts : Parts) (inode : Inode) (index : ℕ) (entries : List Entry) (fault : ZoneFault)
    → index < directory_blocks super.kind inode.size → block_at super parts inode index ≡ Err fault
    → entries_to (entry_at super parts inode) (places_before super.kind inode.size index) ≡ Ok entries
    → all_entries super parts inode ≡ Err fault
unfolding all_entries
block_refused super parts inode index entries fault below refused before =
    let at = round super.kind inode.size index below in
    let F : ℕ → Result (List Entry) ZoneFault = λ n. entries_to (entry_at super parts inode) n in
    let G : ℕ → Result Entry ZoneFault = λ n. entry_at super parts inode n in
    let here : F (entries_per_block super.kind * index) ≡ Ok entries = sym (ap F at.here) ∙ before in
    let some : 0 < entries_per_block super.kind = omega (arith, at.some, at.few) in
    let zero_is : entries_per_block super.kind * index + 0 ≡ entries_per_block super.kind * index = omega arith in
    let bad : entry_at super parts inode (entries_per_block super.kind * index) ≡ Err fault = sym (ap G zero_is) ∙ entry_refused super parts inode index 0 fault refused some in
    let first : F (suc (entries_per_block super.kind * index)) ≡ Err fault = rw (here, bad) refl in
    let e : places super.kind inode.size ≡ suc (entries_per_block super.kind * index) + (places super.kind inode.size - suc (entries_per_block super.kind * index)) = omega (arith, at.next, at.some, at.here) in
    ap F e ∙ refuse_more (entry_at super parts inode) fault (suc (entries_per_block super.kind * index)) (places super.kind inode.size - suc (entries_per_block super.kind * index)) first

-- ---- where disks report their past

abbrev pub SeesNow : Option Past → Volume → Inode → ℕ → List ℕ → List Promise → ℕ → Seen → Type 0
SeesNow past volume inode directory name promises index seen =
    Told past (λ now. SeesTo volume.layout (parts_of volume now) inode directory name promises (places_before volume.layout.kind inode.size index) seen)

pub sees_at_first : (past : Option Past) (volume : Volume) (inode : Inode) (directory : ℕ) (name : List ℕ) (promises : List Promise)
    → SeesNow past volume inode directory name promises 0 (record { named = false; free = None })
sees_at_first None volume inode directory name promises = tt
sees_at_first (Some past) volume inode directory name promises =
    let e : places_before volume.layout.kind inode.size 0 ≡ 0 = omega arith in
    rw e ([], refl, sees_none directory name promises)

pub sees_next : (past : Option Past) (volume : Volume) (inode : Inode) (directory : ℕ) (name : List ℕ) (promises : List Promise) (index count first : ℕ) (block : List ℕ) (old new : Seen)
    → index < directory_blocks volume.layout.kind inode.size → count ≡ places_in volume.layout.kind inode.size index → first ≡ entries_per_block volume.layout.kind * index
    → Told past (λ now. block_at volume.layout (parts_of volume now) inode index ≡ Ok block)
    → SeesNow past volume inode directory name promises index old
    → ((entries : List Entry) → length entries ≡ first → Sees directory name promises entries old → Sees directory name promises (entries ++ first_entries volume.layout.kind block count) new)
    → SeesNow past volume inode directory name promises (index + 1) new
sees_next None volume inode directory name promises index count first block old new below is begins read before step = tt
sees_next (Some past) volume inode directory name promises index count first block old new below is begins read before step =
    sees_block volume.layout (parts_of volume (now_of past)) inode directory name promises index count first block old new below is begins read before step

pub sees_whole : (past : Option Past) (volume : Volume) (inode : Inode) (directory : ℕ) (name : List ℕ) (promises : List Promise) (index : ℕ) (seen : Seen)
    → index ≡ directory_blocks volume.layout.kind inode.size → SeesNow past volume inode directory name promises index seen
    → Told past (λ now. Looks directory name promises (Ok seen) (all_entries volume.layout (parts_of volume now) inode))
unfolding all_entries
sees_whole None volume inode directory name promises index seen all sees = tt
sees_whole (Some past) volume inode directory name promises index seen all sees =
    let P : ℕ → Type 0 = λ n. SeesTo volume.layout (parts_of volume (now_of past)) inode directory name promises n seen in
    let e : places_before volume.layout.kind inode.size index ≡ places volume.layout.kind inode.size = ap (places_before volume.layout.kind inode.size) all ∙ all_before volume.layout.kind inode.size in
    subst P e sees

refused_whole : (super : Super) (parts : Parts) (inode : Inode) (index : ℕ) (entries : List Entry) (fault : faults.ZoneFault)
    → index < directory_blocks super.kind inode.size
    → zones.Refuses fault (block_at super parts inode index)
    → entries_to (entry_at super parts inode) (places_before super.kind inode.size index) ≡ Ok entries
    → zones.Refuses fault (all_entries super parts inode)
refused_whole super parts inode index entries (variants.Layout fault) below refused before = block_refused super parts inode index entries (volumes.Layout (layout_fault_view fault)) below refused before
refused_whole super parts inode index entries (variants.ZoneOutside zone) below refused before = block_refused super parts inode index entries (volumes.ZoneOutside zone) below refused before
refused_whole super parts inode index entries variants.Device below refused before = tt

pub sees_refused : (past : Option Past) (volume : Volume) (inode : Inode) (directory : ℕ) (name : List ℕ) (promises : List Promise) (index : ℕ) (seen : Seen) (fault : faults.ZoneFault)
    → index < directory_blocks volume.layout.kind inode.size
    → Told past (λ now. zones.Refuses fault (block_at volume.layout (parts_of volume now) inode index))
    → SeesNow past volume inode directory name promises index seen
    → Told past (λ now. Looks directory name promises (Err fault) (all_entries volume.layout (parts_of volume now) inode))
sees_refused None volume inode directory name promises index seen fault below refused sees = tt
sees_refused (Some past) volume inode directory name promises index seen fault below refused sees =
    refused_whole volume.layout (parts_of volume (now_of past)) inode index sees.0 fault below refused sees.1

-- ---- an entry that was read

or_true : (a : Bool) → true ≡ (a || true)
or_true true = refl
or_true false = refl

or_nothing : (a : Bool) → a ≡ (a || false)
or_nothing true = refl
or_nothing false = refl

else_none : (free : Option ℕ) → free ≡ or_else free None
else_none None = refl
else_none (Some place) = refl

-- what is seen with an entry that is used
used_by : (promised : ℕ → Bool) (name : List ℕ) (place : ℕ) (entry : Entry) (old : Seen) (same : Bool) → (entry.inode == 0) ≡ false
    → bytes_eq entry.name name ≡ same → seen_with promised name place entry old ≡ record { named = old.named || same; free = old.free }
used_by promised name place entry old same used is = rw (used, is, sym (else_none old.free)) refl

-- and with a free one
free_by_test : (promised : ℕ → Bool) (name : List ℕ) (place : ℕ) (entry : Entry) (old : Seen) (taken : Bool) → (entry.inode == 0) ≡ true
    → promised place ≡ taken
    → seen_with promised name place entry old ≡ record { named = old.named; free = or_else old.free (if not taken then Some place else None) }
free_by_test promised name place entry old taken free is = rw (free, is, sym (or_nothing old.named)) refl

entry_used : (kind : Kind) (block : List ℕ) (at : ℕ) (placed : PlacedEntry) → placed ≡ placed_entry kind block at → placed.inode ≢ 0
    → ((entry_in kind block at).inode == 0) ≡ false
entry_used kind block at placed is some =
    let I : PlacedEntry → ℕ = λ e. e.inode in
    ne_eqb ((entry_in kind block at).inode) 0 (λ zero. some (ap I is ∙ zero))

pub saw_name : (kind : Kind) (block : List ℕ) (at : ℕ) (placed : PlacedEntry) (directory : ℕ) (name : List ℕ) (promises : List Promise) (place : ℕ) (old : Seen)
    → placed ≡ placed_entry kind block at → placed.inode ≢ 0 → bytes_eq placed.name name ≡ true
    → (entries : List Entry) → length entries ≡ place → Sees directory name promises entries old
    → Sees directory name promises (entries ++ (entry_in kind block at ∷ [])) (record { named = true; free = old.free })
saw_name kind block at placed directory name promises place old is some same entries many sees =
    let N : PlacedEntry → Bool = λ e. bytes_eq e.name name in
    let named : bytes_eq (entry_in kind block at).name name ≡ true = sym (ap N is) ∙ same in
    let R : Bool → Seen = λ b. record { named = b; free = old.free } in
    sees_more directory name promises entries place (entry_in kind block at) old (record { named = true; free = old.free }) many sees
    (ap R (or_true old.named) ∙ sym (used_by (is_promised promises directory) name place (entry_in kind block at) old true (entry_used kind block at placed is some) named))

pub saw_other : (kind : Kind) (block : List ℕ) (at : ℕ) (placed : PlacedEntry) (directory : ℕ) (name : List ℕ) (promises : List Promise) (place : ℕ) (old : Seen)
    → placed ≡ placed_entry kind block at → placed.inode ≢ 0 → bytes_eq placed.name name ≡ false
    → (entries : List Entry) → length entries ≡ place → Sees directory name promises entries old
    → Sees directory name promises (entries ++ (entry_in kind block at ∷ [])) old
saw_other kind block at placed directory name promises place old is some other entries many sees =
    let N : PlacedEntry → Bool = λ e. bytes_eq e.name name in
    let named : bytes_eq (entry_in kind block at).name name ≡ false = sym (ap N is) ∙ other in
    let R : Bool → Seen = λ b. record { named = b; free = old.free } in
    sees_more directory name promises entries place (entry_in kind block at) old old many sees
    (ap R (or_nothing old.named) ∙ sym (used_by (is_promised promises directory) name place (entry_in kind block at) old false (entry_used kind block at placed is some) named))

pub saw_free : (kind : Kind) (block : List ℕ) (at : ℕ) (placed : PlacedEntry) (directory : ℕ) (name : List ℕ) (promises : List Promise) (place : ℕ) (old new : Seen) (taken : Bool)
    → placed ≡ placed_entry kind block at → placed.inode ≡ 0 → is_promised promises directory place ≡ taken
    → new.named ≡ old.named → new.free ≡ or_else old.free (if not taken then Some place else None)
    → (entries : List Entry) → length entries ≡ place → Sees directory name promises entries old
    → Sees directory name promises (entries ++ (entry_in kind block at ∷ [])) new
saw_free kind block at placed directory name promises place old new taken is none promised same free entries many sees =
    let I : PlacedEntry → ℕ = λ e. e.inode in
    let zero_is : (entry_in kind block at).inode ≡ 0 = sym (ap I is) ∙ none in
    let test : ((entry_in kind block at).inode == 0) ≡ true = rw zero_is refl in
    let N : Bool → Seen = λ b. record { named = b; free = new.free } in
    let F : Option ℕ → Seen = λ f. record { named = old.named; free = f } in
    sees_more directory name promises entries place (entry_in kind block at) old new many sees
    (ap N same ∙ ap F free ∙ sym (free_by_test (is_promised promises directory) name place (entry_in kind block at) old taken test promised))

-- the first free place, where none was found
pub first_is : (free : Option ℕ) (place : ℕ) → is_some free ≡ false → Some place ≡ or_else free (if not false then Some place else None)
first_is None place none = refl
first_is (Some found) place none = cc

pub taken_stays : (free : Option ℕ) (place : ℕ) → is_some free ≡ false → free ≡ or_else free (if not true then Some place else None)
taken_stays None place none = refl
taken_stays (Some found) place none = cc

pub found_stays : (free other : Option ℕ) → is_some free ≡ true → free ≡ or_else free other
found_stays None other some = cc
found_stays (Some found) other some = refl

-- ---- one more entry of a block

first_many : (kind : Kind) (block : List ℕ) (count : ℕ) → length (first_entries kind block count) ≡ count
first_many kind block zero = refl
first_many kind block (suc count) =
    length-append (first_entries kind block count) (entry_in kind block count ∷ []) ∙ (omega (arith, first_many kind block count))

pub sees_one_more : (kind : Kind) (block : List ℕ) (directory : ℕ) (name : List ℕ) (promises : List Promise) (first at : ℕ) (start old new : Seen)
    → ((entries : List Entry) → length entries ≡ first → Sees directory name promises entries start → Sees directory name promises (entries ++ first_entries kind block at) old)
    → ((entries : List Entry) → length entries ≡ first + at → Sees directory name promises entries old → Sees directory name promises (entries ++ (entry_in kind block at ∷ [])) new)
    → (entries : List Entry) → length entries ≡ first → Sees directory name promises entries start → Sees directory name promises (entries ++ first_entries kind block (at + 1)) new
sees_one_more kind block directory name promises first at start old new before step entries many sees =
    let so_many : length (entries ++ first_entries kind block at) ≡ first + at = omega (arith, length-append entries (first_entries kind block at), first_many kind block at, many) in
    let e : suc at ≡ at + 1 = omega arith in
    let P : List Entry → Type 0 = λ all. Sees directory name promises all new in
    let F : ℕ → List Entry = λ n. entries ++ first_entries kind block n in
    subst P (append_assoc entries (first_entries kind block at) (entry_in kind block at ∷ []) ∙ ap F e)
    (step (entries ++ first_entries kind block at) so_many (before entries many sees))

-- ---- the numbers of a block

pub block_begins : (kind : Kind) (index per : ℕ) → per ≡ entries_per_block kind → index * per ≡ entries_per_block kind * index
block_begins kind index per is = rw is (mul_comm index (entries_per_block kind))

pub block_count : (kind : Kind) (size index per all count : ℕ) → per ≡ entries_per_block kind → all ≡ places kind size
    → count ≡ min per (all - index * per) → count ≡ places_in kind size index
block_count kind size index per all count is is' counted =
    rw (counted, is, is', mul_comm index (entries_per_block kind)) refl
