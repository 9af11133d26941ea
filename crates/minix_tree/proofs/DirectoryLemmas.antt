-- The entries of a directory are those of its blocks.
use Rattle.std.proofs.Common.{◌≡◌, ◌≢◌, ◌≤◌, ◌<◌, ◌+◌, ◌-◌, ◌*◌, ◌==◌, ℕ, zero, suc, List, [], ◌++◌, Result, Ok, Err, Bool, true, false, map, add-zero, add-suc, append_assoc, append-nil, refl, sym, ◌∙◌, ap, arith}
use Rattle.lilo_model.specs.Checks.{◌>>=◌}
use Rattle.lilo_model.specs.MinixLayout.{Kind, Super, Inode}
use Rattle.lilo_model.specs.MinixParts.{Parts, ZoneFault, block_at}
use Rattle.lilo_model.specs.MinixEntries.{Entry, entry_in, entries_per_block, entry_at, unless_free, entries_below, entries_at}
use Rattle.minix_tree.specs.Placed.{placed_from}
use Rattle.minix_tree.specs.Directory.{places_in, directory_blocks, without_place, first_entries, block_entries, entries_before}
use Rattle.minix_tree.specs.Found.{places_before}
use Rattle.minix_tree.specs.Laws.{DirectoryLaw}
use Rattle.minix_tree.proofs.EntryLemmas.{placed-free, placed-used}
use Rattle.minix_tree.proofs.FindLemmas.{round, all_before, entry_of_block, entry_refused}

-- ---- a block

-- the entries from a place on, wherever they are
abbrev plain : Kind → List ℕ → ℕ → ℕ → List Entry
plain kind block place count = map without_place (placed_from kind block place count)

front_by : (test : Bool) (kind : Kind) (block : List ℕ) (place count : ℕ) → ((entry_in kind block place).inode == 0) ≡ test
    → plain kind block place (suc count) ≡ unless_free (entry_in kind block place) ++ plain kind block (place + 1) count
front_by true kind block place count is = rw (placed-free kind block place count is, is) refl
front_by false kind block place count is = rw (placed-used kind block place count is, is) refl

front : (kind : Kind) (block : List ℕ) (place count : ℕ)
    → plain kind block place (suc count) ≡ unless_free (entry_in kind block place) ++ plain kind block (place + 1) count
front kind block place count = front_by ((entry_in kind block place).inode == 0) kind block place count refl

nothing : (kind : Kind) (block : List ℕ) (place : ℕ) → plain kind block place 0 ≡ []
unfolding placed_from
nothing kind block place = refl

back : (kind : Kind) (block : List ℕ) (place count last : ℕ) → last ≡ place + count
    → plain kind block place (suc count) ≡ plain kind block place count ++ unless_free (entry_in kind block last)
back kind block place zero last is =
    let U : ℕ → List Entry = λ n. unless_free (entry_in kind block n) in
    let e : place ≡ last = omega arith in
    front kind block place 0 ∙ rw (nothing kind block (place + 1), nothing kind block place) (append-nil (U place) ∙ ap U e)
back kind block place (suc count) last is =
    let e : last ≡ place + 1 + count = omega arith in
    let U : List Entry = unless_free (entry_in kind block place) in
    let L : List Entry = unless_free (entry_in kind block last) in
    let A : List Entry → List Entry = λ xs. U ++ xs in
    let B : List Entry → List Entry = λ xs. xs ++ L in
    front kind block place (suc count) ∙ ap A (back kind block (place + 1) count last e)
    ∙ sym (append_assoc U (plain kind block (place + 1) count) L) ∙ ap B (sym (front kind block place count))

-- ---- a directory

part : (super : Super) (parts : Parts) (inode : Inode) (index : ℕ) (block : List ℕ) (before : List Entry) (count : ℕ)
    → block_at super parts inode index ≡ Ok block → count ≤ entries_per_block super.kind
    → entries_below (entry_at super parts inode) (entries_per_block super.kind * index) ≡ Ok before
    → entries_below (entry_at super parts inode) (entries_per_block super.kind * index + count) ≡ Ok (before ++ plain super.kind block 0 count)
part super parts inode index block before zero read few so =
    let K : List Entry → Result (List Entry) ZoneFault = λ es. Ok es in
    rw (add-zero, nothing super.kind block 0) (so ∙ ap K (sym (append-nil before)))
part super parts inode index block before (suc count) read few so =
    let small : count < entries_per_block super.kind = omega arith in
    let K : List Entry → Result (List Entry) ZoneFault = λ es. Ok es in
    let A : List Entry → List Entry = λ es. before ++ es in
    let zero_is : count ≡ 0 + count = omega arith in
    rw (add-suc, part super parts inode index block before count read (omega arith) so, entry_of_block super parts inode index count block read small)
    (ap K (append_assoc before (plain super.kind block 0 count) (unless_free (entry_in super.kind block count)) ∙ ap A (sym (back super.kind block 0 count count zero_is))))

refuse_more : (at : ℕ → Result Entry ZoneFault) (fault : ZoneFault) (place more : ℕ) → entries_below at place ≡ Err fault
    → entries_below at (place + more) ≡ Err fault
refuse_more at fault place zero refused = rw add-zero refused
refuse_more at fault place (suc more) refused = rw (add-suc, refuse_more at fault place more refused) refl

first_is : (super : Super) (parts : Parts) (inode : Inode) (index count : ℕ) → count ≢ 0
    → first_entries super parts inode index count ≡ (block_at super parts inode index >>= λ block. Ok (plain super.kind block 0 count))
first_is super parts inode index zero some = absurd (some refl)
first_is super parts inode index (suc count) some = refl

-- as far as a block
abbrev below : Super → Parts → Inode → ℕ → Result (List Entry) ZoneFault
below super parts inode index = entries_below (entry_at super parts inode) (places_before super.kind inode.size index)

step_by : (super : Super) (parts : Parts) (inode : Inode) (index : ℕ) (before : List Entry) (read : Result (List ℕ) ZoneFault)
    → index < directory_blocks super.kind inode.size → below super parts inode index ≡ Ok before → block_at super parts inode index ≡ read
    → below super parts inode (index + 1) ≡ (read >>= λ block. Ok (before ++ plain super.kind block 0 (places_in super.kind inode.size index)))
step_by super parts inode index before (Ok block) there so is =
    let at = round super.kind inode.size index there in
    let F : ℕ → Result (List Entry) ZoneFault = λ n. entries_below (entry_at super parts inode) n in
    ap F at.next ∙ part super parts inode index block before (places_in super.kind inode.size index) is at.few (sym (ap F at.here) ∙ so)
step_by super parts inode index before (Err fault) there so is =
    let at = round super.kind inode.size index there in
    let F : ℕ → Result (List Entry) ZoneFault = λ n. entries_below (entry_at super parts inode) n in
    let G : ℕ → Result Entry ZoneFault = λ n. entry_at super parts inode n in
    let here : F (entries_per_block super.kind * index) ≡ Ok before = sym (ap F at.here) ∙ so in
    let zero_is : entries_per_block super.kind * index + 0 ≡ entries_per_block super.kind * index = omega arith in
    let some : 0 < entries_per_block super.kind = omega (arith, at.some, at.few) in
    let bad : entry_at super parts inode (entries_per_block super.kind * index) ≡ Err fault = sym (ap G zero_is) ∙ entry_refused super parts inode index 0 fault is some in
    let first : F (suc (entries_per_block super.kind * index)) ≡ Err fault = rw (here, bad) refl in
    let e : places_before super.kind inode.size (index + 1) ≡ suc (entries_per_block super.kind * index) + (places_in super.kind inode.size index - 1) = omega (arith, at.next, at.some) in
    ap F e ∙ refuse_more (entry_at super parts inode) fault (suc (entries_per_block super.kind * index)) (places_in super.kind inode.size index - 1) first

-- the entries of a block, by what was read
here_by : (super : Super) (parts : Parts) (inode : Inode) (index : ℕ) (before : List Entry) (read : Result (List ℕ) ZoneFault)
    → index < directory_blocks super.kind inode.size → block_at super parts inode index ≡ read
    → (block_entries super parts inode index >>= λ here. Ok (before ++ here))
    ≡ (read >>= λ block. Ok (before ++ plain super.kind block 0 (places_in super.kind inode.size index)))
unfolding block_entries
here_by super parts inode index before (Ok block) there is =
    let at = round super.kind inode.size index there in
    let some : places_in super.kind inode.size index ≢ 0 = λ none. absurd (omega (arith, at.some, none)) in
    rw (first_is super parts inode index (places_in super.kind inode.size index) some, is) refl
here_by super parts inode index before (Err fault) there is =
    let at = round super.kind inode.size index there in
    let some : places_in super.kind inode.size index ≢ 0 = λ none. absurd (omega (arith, at.some, none)) in
    rw (first_is super parts inode index (places_in super.kind inode.size index) some, is) refl

next_by : (super : Super) (parts : Parts) (inode : Inode) (index : ℕ) (so : Result (List Entry) ZoneFault)
    → index < directory_blocks super.kind inode.size → below super parts inode index ≡ so
    → below super parts inode (index + 1) ≡ (so >>= λ before. block_entries super parts inode index >>= λ here. Ok (before ++ here))
next_by super parts inode index (Ok before) there is =
    step_by super parts inode index before (block_at super parts inode index) there is refl
    ∙ sym (here_by super parts inode index before (block_at super parts inode index) there refl)
next_by super parts inode index (Err fault) there is =
    let F : ℕ → Result (List Entry) ZoneFault = λ n. entries_below (entry_at super parts inode) n in
    let at = round super.kind inode.size index there in
    let e : places_before super.kind inode.size (index + 1) ≡ places_before super.kind inode.size index + places_in super.kind inode.size index = omega (arith, at.here, at.next) in
    ap F e ∙ refuse_more (entry_at super parts inode) fault (places_before super.kind inode.size index) (places_in super.kind inode.size index) is

as_far : (super : Super) (parts : Parts) (inode : Inode) (index : ℕ) → index ≤ directory_blocks super.kind inode.size
    → below super parts inode index ≡ entries_before super parts inode index
as_far super parts inode zero there =
    let e : places_before super.kind inode.size 0 ≡ 0 = omega arith in
    rw e refl
as_far super parts inode (suc index) there =
    let N : ℕ → Result (List Entry) ZoneFault = λ n. below super parts inode n in
    let e : suc index ≡ index + 1 = omega arith in
    let T : Result (List Entry) ZoneFault → Result (List Entry) ZoneFault = λ so. so >>= λ before. block_entries super parts inode index >>= λ here. Ok (before ++ here) in
    ap N e ∙ next_by super parts inode index (below super parts inode index) (omega arith) refl ∙ ap T (as_far super parts inode index (omega arith))

pub directory_law : DirectoryLaw
unfolding entries_at
directory_law super parts inode =
    let F : ℕ → Result (List Entry) ZoneFault = λ n. entries_below (entry_at super parts inode) n in
    sym (ap F (all_before super.kind inode.size)) ∙ as_far super parts inode (directory_blocks super.kind inode.size) (omega arith)
