-- What a block of a directory or a file has, where disks report their past.
use Rattle.std.proofs.Common.{◌≡◌, ◌≢◌, ℕ, zero, suc, List, [], Option, None, Some, Result, Ok, Err, true, false, map, take, refl, sym, ◌∙◌, ap, subst}
use Rattle.disk_trait.specs.Past.{Past, Told, now_of}
use Rattle.lilo_model.specs.Checks.{◌>>=◌, with_fault}
use Rattle.lilo_model.specs.MinixLayout.{Super, Inode}
use Rattle.lilo_model.specs.MinixParts as parts
use Rattle.lilo_model.specs.MinixParts.{Volume, Parts, parts_of, block_at, is_file}
use Rattle.lilo_model.specs.MinixEntries.{Entry}
use Rattle.lilo_model.specs.MinixFind as model
use Rattle.lilo_model.specs.MinixFind.{Zone, NotFile, bytes_in_block, first_of_block, file_block}
use Rattle.minix_zones.specs.View as zones
use Rattle.minix_zones.specs.declared.zone_fault.ZoneFault.{ZoneFault}
use Rattle.minix_zones.specs.declared.zone_fault.ZoneFault.TheVariants as faults
use Rattle.minix_tree.specs.Placed.{placed_from}
use Rattle.minix_tree.specs.Directory.{places_in, without_place, first_entries, block_entries}
use Rattle.minix_tree.specs.View.{RefusesZone}

-- a refusal of a zone refuses what comes after
pub refused_before : {A B : Type 0} (fault : ZoneFault) (found : Result A parts.ZoneFault) (next : A → Result B parts.ZoneFault)
    → zones.Refuses fault found → RefusesZone fault (with_fault Zone (found >>= next))
refused_before (faults.Layout fault) found next refused = rw refused refl
refused_before (faults.ZoneOutside zone) found next refused = rw refused refl
refused_before faults.Device found next refused = tt

pub zone_refused : {A B : Type 0} (fault : ZoneFault) (found : Result A parts.ZoneFault) (next : A → Result B parts.ZoneFault)
    → zones.Refuses fault found → zones.Refuses fault (found >>= next)
zone_refused (faults.Layout fault) found next refused = rw refused refl
zone_refused (faults.ZoneOutside zone) found next refused = rw refused refl
zone_refused faults.Device found next refused = tt

refused_first : {A B : Type 0} (fault : ZoneFault) (found : Result A parts.ZoneFault) (next : A → Result B model.TreeFault)
    → zones.Refuses fault found → RefusesZone fault (with_fault Zone found >>= next)
refused_first (faults.Layout fault) found next refused = rw refused refl
refused_first (faults.ZoneOutside zone) found next refused = rw refused refl
refused_first faults.Device found next refused = tt

-- ---- directories

entries_of : (super : Super) (parts : Parts) (inode : Inode) (index count : ℕ) (bytes : List ℕ)
    → count ≢ 0 → block_at super parts inode index ≡ Ok bytes
    → first_entries super parts inode index count ≡ Ok (map without_place (placed_from super.kind bytes 0 count))
entries_of super parts inode index zero bytes some read = absurd (some refl)
entries_of super parts inode index (suc count) bytes some read = rw read refl

refused_of : (super : Super) (parts : Parts) (inode : Inode) (index count : ℕ) (fault : ZoneFault)
    → count ≢ 0 → zones.Refuses fault (block_at super parts inode index)
    → RefusesZone fault (with_fault Zone (first_entries super parts inode index count))
refused_of super parts inode index zero fault some refused = absurd (some refl)
refused_of super parts inode index (suc count) fault some refused =
    refused_before fault (block_at super parts inode index) (λ block. Ok (map without_place (placed_from super.kind block 0 (suc count)))) refused

-- none are wanted
pub no_entries : (past : Option Past) (volume : Volume) (inode : Inode) (index : ℕ) (bytes : List ℕ)
    → places_in volume.layout.kind inode.size index ≡ 0
    → Told past (λ now. with_fault Zone (block_entries volume.layout (parts_of volume now) inode index)
    ≡ Ok (map without_place (placed_from volume.layout.kind bytes 0 0)))
unfolding block_entries placed_from
no_entries None volume inode index bytes none = tt
no_entries (Some past) volume inode index bytes none =
    let P : ℕ → Result (List Entry) model.TreeFault = λ count. with_fault Zone (first_entries volume.layout (parts_of volume (now_of past)) inode index count) in
    ap P none

-- the block was read
pub entries_read : (past : Option Past) (volume : Volume) (inode : Inode) (index count : ℕ) (bytes : List ℕ)
    → count ≡ places_in volume.layout.kind inode.size index → count ≢ 0
    → Told past (λ now. block_at volume.layout (parts_of volume now) inode index ≡ Ok bytes)
    → Told past (λ now. with_fault Zone (block_entries volume.layout (parts_of volume now) inode index)
    ≡ Ok (map without_place (placed_from volume.layout.kind bytes 0 count)))
unfolding block_entries
entries_read None volume inode index count bytes is some read = tt
entries_read (Some past) volume inode index count bytes is some read =
    let P : ℕ → Result (List Entry) model.TreeFault = λ n. with_fault Zone (first_entries volume.layout (parts_of volume (now_of past)) inode index n) in
    let W : Result (List Entry) parts.ZoneFault → Result (List Entry) model.TreeFault = λ r. with_fault Zone r in
    ap P (sym is) ∙ ap W (entries_of volume.layout (parts_of volume (now_of past)) inode index count bytes some read)

-- the block was refused
pub entries_refused : (past : Option Past) (volume : Volume) (inode : Inode) (index count : ℕ) (fault : ZoneFault)
    → count ≡ places_in volume.layout.kind inode.size index → count ≢ 0
    → Told past (λ now. zones.Refuses fault (block_at volume.layout (parts_of volume now) inode index))
    → Told past (λ now. RefusesZone fault (with_fault Zone (block_entries volume.layout (parts_of volume now) inode index)))
unfolding block_entries
entries_refused None volume inode index count fault is some refused = tt
entries_refused (Some past) volume inode index count fault is some refused =
    let P : ℕ → Type 0 = λ n. RefusesZone fault (with_fault Zone (first_entries volume.layout (parts_of volume (now_of past)) inode index n)) in
    subst P is (refused_of volume.layout (parts_of volume (now_of past)) inode index count fault some refused)

-- ---- files

-- an inode that is no regular file
pub no_file : (past : Option Past) (volume : Volume) (inode : Inode) (index : ℕ) → is_file inode ≡ false
    → Told past (λ now. file_block volume.layout (parts_of volume now) inode index ≡ Err NotFile)
unfolding file_block
no_file None volume inode index is = tt
no_file (Some past) volume inode index is = rw is refl

file_of : (super : Super) (parts : Parts) (inode : Inode) (index : ℕ) → is_file inode ≡ true
    → file_block super parts inode index ≡ first_of_block super parts inode index (bytes_in_block inode.size index)
unfolding file_block
file_of super parts inode index is = rw is refl

bytes_of : (super : Super) (parts : Parts) (inode : Inode) (index count : ℕ) (bytes : List ℕ)
    → count ≢ 0 → block_at super parts inode index ≡ Ok bytes
    → first_of_block super parts inode index count ≡ Ok (take count bytes)
bytes_of super parts inode index zero bytes some read = absurd (some refl)
bytes_of super parts inode index (suc count) bytes some read = rw read refl

no_bytes_of : (super : Super) (parts : Parts) (inode : Inode) (index count : ℕ) (fault : ZoneFault)
    → count ≢ 0 → zones.Refuses fault (block_at super parts inode index)
    → RefusesZone fault (first_of_block super parts inode index count)
no_bytes_of super parts inode index zero fault some refused = absurd (some refl)
no_bytes_of super parts inode index (suc count) fault some refused =
    refused_first fault (block_at super parts inode index) (λ block. Ok (take (suc count) block)) refused

-- none of its bytes are in a block
pub no_bytes : (past : Option Past) (volume : Volume) (inode : Inode) (index : ℕ)
    → is_file inode ≡ true → bytes_in_block inode.size index ≡ 0
    → Told past (λ now. file_block volume.layout (parts_of volume now) inode index ≡ Ok [])
no_bytes None volume inode index is none = tt
no_bytes (Some past) volume inode index is none =
    let P : ℕ → Result (List ℕ) model.TreeFault = λ count. first_of_block volume.layout (parts_of volume (now_of past)) inode index count in
    file_of volume.layout (parts_of volume (now_of past)) inode index is ∙ ap P none

-- the block was read
pub bytes_read : (past : Option Past) (volume : Volume) (inode : Inode) (index count : ℕ) (bytes : List ℕ)
    → is_file inode ≡ true → count ≡ bytes_in_block inode.size index → count ≢ 0
    → Told past (λ now. block_at volume.layout (parts_of volume now) inode index ≡ Ok bytes)
    → Told past (λ now. file_block volume.layout (parts_of volume now) inode index ≡ Ok (take count bytes))
bytes_read None volume inode index count bytes file is some read = tt
bytes_read (Some past) volume inode index count bytes file is some read =
    let P : ℕ → Result (List ℕ) model.TreeFault = λ n. first_of_block volume.layout (parts_of volume (now_of past)) inode index n in
    file_of volume.layout (parts_of volume (now_of past)) inode index file ∙ ap P (sym is)
    ∙ bytes_of volume.layout (parts_of volume (now_of past)) inode index count bytes some read

-- the block was refused
pub bytes_refused : (past : Option Past) (volume : Volume) (inode : Inode) (index count : ℕ) (fault : ZoneFault)
    → is_file inode ≡ true → count ≡ bytes_in_block inode.size index → count ≢ 0
    → Told past (λ now. zones.Refuses fault (block_at volume.layout (parts_of volume now) inode index))
    → Told past (λ now. RefusesZone fault (file_block volume.layout (parts_of volume now) inode index))
bytes_refused None volume inode index count fault file is some refused = tt
bytes_refused (Some past) volume inode index count fault file is some refused =
    let P : ℕ → Result (List ℕ) model.TreeFault = λ n. first_of_block volume.layout (parts_of volume (now_of past)) inode index n in
    let R : Result (List ℕ) model.TreeFault → Type 0 = λ r. RefusesZone fault r in
    subst R (ap P is ∙ sym (file_of volume.layout (parts_of volume (now_of past)) inode index file))
    (no_bytes_of volume.layout (parts_of volume (now_of past)) inode index count fault some refused)
