-- What `get` prints are the bytes of a file.
use Rattle.std.proofs.Common.{◌≡◌, ◌≢◌, ◌<◌, ◌≤◌, ◌+◌, ◌*◌, ◌-◌, ◌==◌, ◌↔◌, min, ◌∙◌, ℕ, zero, suc, nat_le, nat_lt, Bool, true, false, ◌&&◌, ◌||◌, List, [], ◌∷◌, ◌++◌, length, take, slice_index, Result, Ok, Err, refl, sym, ap, subst, arith, length-append}
use Rattle.std.proofs.Math.Seq.{take-append-add}
use Rattle.std.proofs.lemmas.Bool.{eq-eqb}
use Rattle.std.proofs.lemmas.Bool.Decides.{nat_tests}
use Rattle.std.proofs.lemmas.List.{length-replicate, take_all, take_min}
use Rattle.lilo_model.specs.Checks.{◌>>=◌, with_fault}
use Rattle.lilo_model.specs.Verdict.{Verdict}
use Rattle.lilo_model.specs.MinixLayout.{Super, Inode}
use Rattle.lilo_model.specs.MinixParts.{Parts, ZoneFault, is_file, number_below, block_pointer, inside, follow_at, zone_at, zone_bytes, block_at, blocks_at, blocks_for, content_at}
use Rattle.lilo_model.specs.MinixFind.{TreeFault, Zone, find, bytes_in_block, first_of_block, file_block, file_at}
use Rattle.lilo_model.specs.LdiskVerdict.{silent, then_piece, printed, file_found, file_verdict, get_verdict}
use Rattle.ldisk_run.specs.Laws.{HasWholeZones, ContentLaw}
use Rattle.ldisk_run.proofs.AddsLemmas.{piece_behind, piece_stuck}

-- ---- the zone of a block

-- a zone's number is 0, or that of a data zone
abbrev MayFollow : Super → ℕ → Type 0
MayFollow super zone = zone ≢ 0 → (super.first ≤ zone) × (zone < super.zones)

tested_inside :
    (super : Super) (zone : ℕ) → (zone == 0 || (nat_le super.first zone && nat_lt zone super.zones)) ≡ true → MayFollow super zone
tested_inside super zone is some = (grind (arith, nat_tests), grind (arith, nat_tests))

inside_by :
    (super : Super) (number zone : ℕ) (test : Bool) → (number == 0 || (nat_le super.first number && nat_lt number super.zones)) ≡ test
    → inside super number ≡ Ok zone → MayFollow super zone
unfolding inside
inside_by super number zone true is found =
    let same : number ≡ zone = let read = rw is at found in cc in
    subst (MayFollow super) same (tested_inside super number is)
inside_by super number zone false is found = absurd (let read = rw is at found in cc)

inside_follows : (super : Super) (number zone : ℕ) → inside super number ≡ Ok zone → MayFollow super zone
inside_follows super number zone found = inside_by super number zone _ refl found

below_follows :
    (super : Super) (bytes_of : ℕ → List ℕ) (index zone : ℕ) (above : Result ℕ ZoneFault)
    → (above >>= λ number. inside super (number_below super.kind bytes_of number index)) ≡ Ok zone → MayFollow super zone
below_follows super bytes_of index zone (Ok number) found =
    inside_follows super (number_below super.kind bytes_of number index) zone found
below_follows super bytes_of index zone (Err fault) found = absurd cc

trail_follows :
    (super : Super) (bytes_of : ℕ → List ℕ) (top : ℕ) (trail : List ℕ) (zone : ℕ)
    → follow_at super bytes_of top trail ≡ Ok zone → MayFollow super zone
unfolding follow_at
trail_follows super bytes_of top [] zone found = inside_follows super top zone found
trail_follows super bytes_of top (index ∷ before) zone found =
    below_follows super bytes_of index zone (follow_at super bytes_of top before) found

-- so is that of a block
zone_follows :
    (super : Super) (parts : Parts) (inode : Inode) (index zone : ℕ) → zone_at super parts inode index ≡ Ok zone → MayFollow super zone
unfolding zone_at
zone_follows super parts inode index zone found =
    let pointer = block_pointer super.kind index in
    trail_follows super parts.zone (slice_index inode.zones pointer.top) pointer.trail zone found

-- ---- a block

zone_by :
    (super : Super) (parts : Parts) (zone : ℕ) (hole : Bool) → HasWholeZones super parts → MayFollow super zone
    → zone == 0 ≡ hole → length (zone_bytes parts zone) ≡ 1024
zone_by super parts zone true whole may is = rw is (length-replicate {A = ℕ} 1024 0)
zone_by super parts zone false whole may is =
    let some : zone ≢ 0 = λ none. let is_none = eq-eqb zone 0 none in cc in
    let (from, below) = may some in
    rw is (whole zone from below)

block_by :
    (super : Super) (parts : Parts) (found : Result ℕ ZoneFault) (block : List ℕ) → HasWholeZones super parts
    → ((zone : ℕ) → found ≡ Ok zone → MayFollow super zone)
    → (found >>= λ zone. Ok (zone_bytes parts zone)) ≡ Ok block → length block ≡ 1024
block_by super parts (Ok zone) block whole may is =
    let same : block ≡ zone_bytes parts zone = cc in
    ap length same ∙ zone_by super parts zone (zone == 0) whole (may zone refl) refl
block_by super parts (Err fault) block whole may is = absurd cc

-- a block has 1024 bytes
block_whole :
    (super : Super) (parts : Parts) (inode : Inode) (index : ℕ) (block : List ℕ) → HasWholeZones super parts
    → block_at super parts inode index ≡ Ok block → length block ≡ 1024
unfolding block_at
block_whole super parts inode index block whole read =
    block_by super parts (zone_at super parts inode index) block whole (zone_follows super parts inode index) read

first_by :
    (super : Super) (parts : Parts) (inode : Inode) (index count : ℕ) → count ≢ 0
    → first_of_block super parts inode index count ≡ (with_fault Zone (block_at super parts inode index) >>= λ block. Ok (take count block))
first_by super parts inode index zero some = absurd (some refl)
first_by super parts inode index (suc count) some = refl

-- a block that the file has bytes in
piece_by :
    (super : Super) (parts : Parts) (inode : Inode) (index : ℕ) → is_file inode ≡ true → 1024 * index < inode.size
    → file_block super parts inode index
    ≡ (with_fault Zone (block_at super parts inode index) >>= λ block. Ok (take (bytes_in_block inode.size index) block))
unfolding file_block
piece_by super parts inode index file within =
    rw file (first_by super parts inode index (bytes_in_block inode.size index) (omega (arith, within)))

-- ---- blocks

-- the file's bytes in a block go after those before it
text_more :
    (size count : ℕ) (bytes block : List ℕ) → length bytes ≡ 1024 * count → length block ≡ 1024 → 1024 * count < size
    → take size bytes ++ take (bytes_in_block size count) block ≡ take size (bytes ++ block)
text_more size count bytes block long whole within =
    let left = size - 1024 * count in
    let all : take size bytes ≡ bytes = take_all size bytes (omega (arith, long, within)) in
    let few : min 1024 left ≡ min left (length block) = omega (arith, whole) in
    let last : take (min 1024 left) block ≡ take left block = ap (λ (n : ℕ). take n block) few ∙ take_min left block in
    let split : length bytes + left ≡ size = omega (arith, long, within) in
    ap (λ l. l ++ take (min 1024 left) block) all
    ∙ ap (λ l. bytes ++ l) last
    ∙ sym (take-append-add bytes block left)
    ∙ ap (λ (n : ℕ). take n (bytes ++ block)) split

-- what the first blocks of a file print, by their bytes
abbrev Prints : ℕ → ℕ → Result (List ℕ) ZoneFault → Verdict → Type 0
Prints size count (Ok bytes) v = (length bytes ≡ 1024 * count) × (v ≡ record { status = 0; text = take size bytes })
Prints size count (Err fault) v = v.status ≢ 0

prints_more :
    (size count : ℕ) (before here : Result (List ℕ) ZoneFault) (v : Verdict) → 1024 * count < size
    → ((block : List ℕ) → here ≡ Ok block → length block ≡ 1024) → Prints size count before v
    → Prints size (suc count) (before >>= λ bytes. here >>= λ block. Ok (bytes ++ block))
    (then_piece v (with_fault Zone here >>= λ block. Ok (take (bytes_in_block size count) block)))
prints_more size count (Ok bytes) (Ok block) v within whole (long, is) =
    let text = take (bytes_in_block size count) block in
    let fine : v.status ≡ 0 = ap (λ w. w.status) is in
    let full = whole block refl in (
      length-append bytes block ∙ omega (arith, long, full),
      piece_behind {F = TreeFault} v (Ok text) fine
          ∙ ap (λ l. record { status = 0; text = l }) (ap (λ w. w.text ++ text) is ∙ text_more size count bytes block long full within),
    )
prints_more size count (Ok bytes) (Err fault) v within whole (long, is) =
    let fine : v.status ≡ 0 = ap (λ w. w.status) is in
    let three = ap (λ w. w.status) (piece_behind v (Err (Zone fault)) fine) in
    λ none. omega (arith, three, none)
prints_more size count (Err fault) here v within whole ended =
    rw (piece_stuck v (with_fault Zone here >>= λ block. Ok (take (bytes_in_block size count) block)) ended) ended

prints :
    (super : Super) (parts : Parts) (inode : Inode) (count : ℕ) → HasWholeZones super parts → is_file inode ≡ true → count ≤ blocks_for inode.size
    → Prints inode.size count (blocks_at (block_at super parts inode) count) (printed (file_block super parts inode) count)
unfolding printed
prints super parts inode zero whole file within = (refl, ap (λ l. record { status = 0; text = l }) (sym (take_all inode.size [] (omega arith))))
prints super parts inode (suc count) whole file within =
    let inside : 1024 * count < inode.size = omega (arith, within) in
    let B = block_at super parts inode in
    rw (piece_by super parts inode count file inside)
    (prints_more inode.size count (blocks_at B count) (B count) (printed (file_block super parts inode) count) inside
    (λ block read. block_whole super parts inode count block whole read)
    (prints super parts inode count whole file (omega (arith, within))))

-- ---- the file

-- a verdict prints these bytes exactly where they were found
abbrev PrintsExactly : {F : Type 0} → Verdict → Result (List ℕ) F → List ℕ → Type 0
PrintsExactly v found bytes = (v ≡ record { status = 0; text = bytes }) ↔ (found ≡ Ok bytes)

refused_exactly : {F : Type 0} (v : Verdict) (fault : F) (bytes : List ℕ) → v.status ≢ 0 → PrintsExactly v (Err fault) bytes
refused_exactly v fault bytes ended = (λ is. absurd (ended (ap (λ w. w.status) is)), λ is. absurd cc)

bytes_exactly :
    (size count : ℕ) (held : Result (List ℕ) ZoneFault) (v : Verdict) (bytes : List ℕ) → Prints size count held v
    → PrintsExactly v (with_fault Zone (held >>= λ all. Ok (take size all))) bytes
bytes_exactly size count (Ok all) v bytes (long, is) = (
  λ given. let same : take size all ≡ bytes = ap (λ w. w.text) (sym is ∙ given) in rw same refl,
  λ given. let same : take size all ≡ bytes = cc in is ∙ ap (λ l. record { status = 0; text = l }) same,
)
bytes_exactly size count (Err fault) v bytes ended = refused_exactly v (Zone fault) bytes ended

file_exactly :
    (super : Super) (parts : Parts) (inode : Inode) (bytes : List ℕ) → HasWholeZones super parts → is_file inode ≡ true
    → PrintsExactly (file_verdict super parts inode) (with_fault Zone (content_at super parts inode)) bytes
unfolding file_verdict content_at
file_exactly super parts inode bytes whole file =
    bytes_exactly inode.size (blocks_for inode.size) (blocks_at (block_at super parts inode) (blocks_for inode.size))
    (printed (file_block super parts inode) (blocks_for inode.size)) bytes
    (prints super parts inode (blocks_for inode.size) whole file (omega arith))

-- ---- the path

kind_exactly :
    (super : Super) (parts : Parts) (path bytes : List ℕ) (number : ℕ) (file : Bool) → HasWholeZones super parts
    → find super parts path ≡ Ok number → is_file (parts.node number) ≡ file
    → PrintsExactly (get_verdict super parts path) (file_at super parts path) bytes
unfolding get_verdict file_found file_at
kind_exactly super parts path bytes number true whole found is =
    rw (found, is) (file_exactly super parts (parts.node number) bytes whole is)
kind_exactly super parts path bytes number false whole found is =
    rw (found, is) (refused_exactly (silent 3) _ bytes (omega arith))

path_exactly :
    (super : Super) (parts : Parts) (path bytes : List ℕ) (found : Result ℕ TreeFault) → HasWholeZones super parts
    → find super parts path ≡ found → PrintsExactly (get_verdict super parts path) (file_at super parts path) bytes
unfolding get_verdict file_found file_at
path_exactly super parts path bytes (Ok number) whole found =
    kind_exactly super parts path bytes number (is_file (parts.node number)) whole found refl
path_exactly super parts path bytes (Err fault) whole found =
    rw found (refused_exactly (silent 3) fault bytes (omega arith))

pub content_law : ContentLaw
content_law super parts path bytes whole = path_exactly super parts path bytes (find super parts path) whole refl
