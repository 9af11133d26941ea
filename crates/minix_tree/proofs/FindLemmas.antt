-- The first entry of a name in a directory, block by block.
use Rattle.std.proofs.Common.{◌≡◌, ◌≢◌, ◌≤◌, ◌<◌, ◌+◌, ◌*◌, ◌-◌, ◌/◌, ◌%◌, ◌==◌, ℕ, zero, suc, List, Option, None, Some, Result, Ok, Err, Bool, true, false, bytes_eq, add-zero, add-suc, refl, sym, ◌∙◌, ap, arith}
use Rattle.std.proofs.lemmas.Bool.{ne_eqb}
use Rattle.disk_trait.specs.Past.{Past, Told, now_of}
use Rattle.lilo_model.specs.Checks.{◌>>=◌, with_fault}
use Rattle.lilo_model.specs.MinixLayout.{Kind, V1Short, V1Long, V2Short, V2Long, Super, Inode}
use Rattle.lilo_model.specs.MinixParts as volumes
use Rattle.lilo_model.specs.MinixParts.{Volume, Parts, parts_of, block_at}
use Rattle.lilo_model.specs.MinixEntries.{Entry, PlacedEntry, placed_entry, entry_in, named_inode, entries_per_block, places, entry_at, or_later, find_below, find_entry}
use Rattle.lilo_model.specs.MinixFind as model
use Rattle.lilo_model.specs.MinixFind.{Zone}
use Rattle.minix_tree.specs.Directory.{places_in, directory_blocks}
use Rattle.minix_tree.specs.Found.{or_here, found_among, found_in, places_before}
use Rattle.minix_tree.specs.declared.tree_fault.TreeFault.{TreeFault}
use Rattle.minix_zones.specs.View as zones
use Rattle.minix_zones.specs.declared.zone_fault.ZoneFault.{ZoneFault}
use Rattle.minix_tree.specs.View.{Refuses, RefusesZone}
use Rattle.minix_tree.proofs.ReadLemmas.{refused_before}
use Rattle.minix_tree.proofs.RefuseLemmas.{refused_ok}

-- ---- in a block

-- what was found among fewer places is found among more
found_more : (kind : Kind) (block name : List ℕ) (inode place more : ℕ) → found_among kind block name place ≡ Some inode
    → found_among kind block name (place + more) ≡ Some inode
found_more kind block name inode place zero found = rw add-zero found
found_more kind block name inode place (suc more) found =
    rw (add-suc, found_more kind block name inode place more found) refl

found_at_last : (kind : Kind) (block name : List ℕ) (inode place count : ℕ) → place < count
    → found_among kind block name place ≡ None → named_inode name (entry_in kind block place) ≡ Some inode
    → found_among kind block name count ≡ Some inode
found_at_last kind block name inode place count below none here =
    let e : count ≡ suc place + (count - suc place) = omega arith in
    let found : found_among kind block name (suc place) ≡ Some inode = rw none here in
    ap (found_among kind block name) e ∙ found_more kind block name inode (suc place) (count - suc place) found

-- the entry at a place has the name
named_of : (kind : Kind) (block name : List ℕ) (place : ℕ) (entry : PlacedEntry) → entry ≡ placed_entry kind block place
    → entry.inode ≢ 0 → bytes_eq entry.name name ≡ true → named_inode name (entry_in kind block place) ≡ Some entry.inode
named_of kind block name place entry is some same =
    let I : PlacedEntry → ℕ = λ e. e.inode in
    let S : PlacedEntry → Option ℕ = λ e. Some e.inode in
    let N : PlacedEntry → Bool = λ e. bytes_eq e.name name in
    let used : ((entry_in kind block place).inode == 0) ≡ false = ne_eqb ((entry_in kind block place).inode) 0 (λ zero. some (ap I is ∙ zero)) in
    let named : bytes_eq (entry_in kind block place).name name ≡ true = sym (ap N is) ∙ same in
    rw (used, named) (ap S (sym is))

pub found_here : (kind : Kind) (block name : List ℕ) (place count : ℕ) (entry : PlacedEntry) → place < count
    → found_among kind block name place ≡ None → entry ≡ placed_entry kind block place
    → entry.inode ≢ 0 → bytes_eq entry.name name ≡ true → Some entry.inode ≡ found_among kind block name count
found_here kind block name place count entry below none is some same =
    sym (found_at_last kind block name entry.inode place count below none (named_of kind block name place entry is some same))

-- ---- in a directory

-- what was found or refused at fewer places is so at more
find_more : (at : ℕ → Result Entry volumes.ZoneFault) (name : List ℕ) (inode place more : ℕ) → find_below at name place ≡ Ok (Some inode)
    → find_below at name (place + more) ≡ Ok (Some inode)
find_more at name inode place zero found = rw add-zero found
find_more at name inode place (suc more) found = rw (add-suc, find_more at name inode place more found) refl

refuse_more : (at : ℕ → Result Entry volumes.ZoneFault) (name : List ℕ) (fault : volumes.ZoneFault) (place more : ℕ) → find_below at name place ≡ Err fault
    → find_below at name (place + more) ≡ Err fault
refuse_more at name fault place zero refused = rw add-zero refused
refuse_more at name fault place (suc more) refused = rw (add-suc, refuse_more at name fault place more refused) refl

-- a place by its block
position : (kind : Kind) (index place : ℕ) → place < entries_per_block kind
    → ((entries_per_block kind * index + place) / entries_per_block kind ≡ index) × ((entries_per_block kind * index + place) % entries_per_block kind ≡ place)
position V1Short index place below = (omega arith, omega arith)
position V1Long index place below = (omega arith, omega arith)
position V2Short index place below = (omega arith, omega arith)
position V2Long index place below = (omega arith, omega arith)

-- the entry at a place of a block that was read
pub entry_of_block : (super : Super) (parts : Parts) (inode : Inode) (index place : ℕ) (block : List ℕ)
    → block_at super parts inode index ≡ Ok block → place < entries_per_block super.kind
    → entry_at super parts inode (entries_per_block super.kind * index + place) ≡ Ok (entry_in super.kind block place)
unfolding entry_at
entry_of_block super parts inode index place block read below =
    let at = position super.kind index place below in
    rw (at.0, at.1, read) refl

pub entry_refused : (super : Super) (parts : Parts) (inode : Inode) (index place : ℕ) (fault : volumes.ZoneFault)
    → block_at super parts inode index ≡ Err fault → place < entries_per_block super.kind
    → entry_at super parts inode (entries_per_block super.kind * index + place) ≡ Err fault
unfolding entry_at
entry_refused super parts inode index place fault refused below =
    let at = position super.kind index place below in
    rw (at.0, refused) refl

-- what comes after what was found
step_by : (kind : Kind) (at : ℕ → Result Entry volumes.ZoneFault) (name block : List ℕ) (whole place : ℕ) (before : Option ℕ)
    → at whole ≡ Ok (entry_in kind block place)
    → or_later at name whole before ≡ Ok (or_here kind block name place before)
step_by kind at name block whole place None is = rw is refl
step_by kind at name block whole place (Some inode) is = refl

-- as far as a place of a block that was read
find_part : (super : Super) (parts : Parts) (inode : Inode) (name : List ℕ) (index : ℕ) (block : List ℕ) (count : ℕ)
    → block_at super parts inode index ≡ Ok block → count ≤ entries_per_block super.kind
    → find_below (entry_at super parts inode) name (entries_per_block super.kind * index) ≡ Ok None
    → find_below (entry_at super parts inode) name (entries_per_block super.kind * index + count) ≡ Ok (found_among super.kind block name count)
find_part super parts inode name index block zero read below none = rw add-zero none
find_part super parts inode name index block (suc count) read below none =
    let small : count < entries_per_block super.kind = omega arith in
    rw (add-suc, find_part super parts inode name index block count read (omega arith) none)
    (step_by super.kind (entry_at super parts inode) name block (entries_per_block super.kind * index + count) count (found_among super.kind block name count)
    (entry_of_block super parts inode index count block read small))

-- the numbers of places round a block
pub record Round (kind : Kind) (size index : ℕ) : Type 0 where
  pub here : places_before kind size index ≡ entries_per_block kind * index
  pub next : places_before kind size (index + 1) ≡ entries_per_block kind * index + places_in kind size index
  pub some : 1 ≤ places_in kind size index
  pub few : places_in kind size index ≤ entries_per_block kind

pub round : (kind : Kind) (size index : ℕ) → index < directory_blocks kind size → Round kind size index
round V1Short size index below = record { here = omega arith; next = omega arith; some = omega arith; few = omega arith }
round V1Long size index below = record { here = omega arith; next = omega arith; some = omega arith; few = omega arith }
round V2Short size index below = record { here = omega arith; next = omega arith; some = omega arith; few = omega arith }
round V2Long size index below = record { here = omega arith; next = omega arith; some = omega arith; few = omega arith }

pub all_before : (kind : Kind) (size : ℕ) → places_before kind size (directory_blocks kind size) ≡ places kind size
all_before V1Short size = omega arith
all_before V1Long size = omega arith
all_before V2Short size = omega arith
all_before V2Long size = omega arith

-- as far as a block
abbrev find_before : Super → Parts → Inode → List ℕ → ℕ → Result (Option ℕ) volumes.ZoneFault
find_before super parts inode name index = find_below (entry_at super parts inode) name (places_before super.kind inode.size index)

block_by : (super : Super) (parts : Parts) (inode : Inode) (name : List ℕ) (index : ℕ) (read : Result (List ℕ) volumes.ZoneFault)
    → block_at super parts inode index ≡ read → index < directory_blocks super.kind inode.size
    → find_before super parts inode name index ≡ Ok None
    → find_before super parts inode name (index + 1)
    ≡ (read >>= λ block. Ok (found_among super.kind block name (places_in super.kind inode.size index)))
block_by super parts inode name index (Ok block) is below none =
    let at = round super.kind inode.size index below in
    let F : ℕ → Result (Option ℕ) volumes.ZoneFault = λ n. find_below (entry_at super parts inode) name n in
    ap F at.next ∙ find_part super parts inode name index block (places_in super.kind inode.size index) is at.few (sym (ap F at.here) ∙ none)
block_by super parts inode name index (Err fault) is below none =
    let at = round super.kind inode.size index below in
    let F : ℕ → Result (Option ℕ) volumes.ZoneFault = λ n. find_below (entry_at super parts inode) name n in
    let none_here : F (entries_per_block super.kind * index) ≡ Ok None = sym (ap F at.here) ∙ none in
    let zero_is : entries_per_block super.kind * index + 0 ≡ entries_per_block super.kind * index = omega arith in
    let G : ℕ → Result Entry volumes.ZoneFault = λ n. entry_at super parts inode n in
    let some : 0 < entries_per_block super.kind = omega (arith, at.some, at.few) in
    let bad : entry_at super parts inode (entries_per_block super.kind * index) ≡ Err fault = sym (ap G zero_is) ∙ entry_refused super parts inode index 0 fault is some in
    let first : F (suc (entries_per_block super.kind * index)) ≡ Err fault = rw (none_here, bad) refl in
    let e : places_before super.kind inode.size (index + 1) ≡ suc (entries_per_block super.kind * index) + (places_in super.kind inode.size index - 1) = omega (arith, at.next, at.some) in
    ap F e ∙ refuse_more (entry_at super parts inode) name fault (suc (entries_per_block super.kind * index)) (places_in super.kind inode.size index - 1) first

next_block : (super : Super) (parts : Parts) (inode : Inode) (name : List ℕ) (index : ℕ) → index < directory_blocks super.kind inode.size
    → find_before super parts inode name index ≡ Ok None
    → find_before super parts inode name (index + 1) ≡ found_in super parts inode name index
unfolding found_in
next_block super parts inode name index below none = block_by super parts inode name index (block_at super parts inode index) refl below none

-- what was found or refused in a block is so in the directory
whole_by : (super : Super) (parts : Parts) (inode : Inode) (name : List ℕ) (index inode_found : ℕ)
    → find_before super parts inode name index ≡ Ok (Some inode_found) → find_entry super parts inode name ≡ Ok (Some inode_found)
unfolding find_entry
whole_by super parts inode name index inode_found found =
    let e : places super.kind inode.size ≡ places_before super.kind inode.size index + (places super.kind inode.size - places_before super.kind inode.size index) = omega arith in
    let F : ℕ → Result (Option ℕ) volumes.ZoneFault = λ n. find_below (entry_at super parts inode) name n in
    ap F e ∙ find_more (entry_at super parts inode) name inode_found (places_before super.kind inode.size index) (places super.kind inode.size - places_before super.kind inode.size index) found

refused_by : (super : Super) (parts : Parts) (inode : Inode) (name : List ℕ) (index : ℕ) (fault : volumes.ZoneFault)
    → find_before super parts inode name index ≡ Err fault → find_entry super parts inode name ≡ Err fault
unfolding find_entry
refused_by super parts inode name index fault refused =
    let e : places super.kind inode.size ≡ places_before super.kind inode.size index + (places super.kind inode.size - places_before super.kind inode.size index) = omega arith in
    let F : ℕ → Result (Option ℕ) volumes.ZoneFault = λ n. find_below (entry_at super parts inode) name n in
    ap F e ∙ refuse_more (entry_at super parts inode) name fault (places_before super.kind inode.size index) (places super.kind inode.size - places_before super.kind inode.size index) refused

-- a fault after Zone is one
without_zone : {A : Type 0} (found : Result A volumes.ZoneFault) (value : A) → with_fault Zone found ≡ Ok value → found ≡ Ok value
without_zone (Ok found) value is = cc
without_zone (Err fault) value is = cc

-- ---- where disks report their past

pub found_refused : (past : Option Past) (volume : Volume) (inode : Inode) (name : List ℕ) (index : ℕ) (fault : ZoneFault)
    → Told past (λ now. zones.Refuses fault (block_at volume.layout (parts_of volume now) inode index))
    → Told past (λ now. RefusesZone fault (with_fault Zone (found_in volume.layout (parts_of volume now) inode name index)))
unfolding found_in
found_refused None volume inode name index fault refused = tt
found_refused (Some past) volume inode name index fault refused =
    refused_before fault (block_at volume.layout (parts_of volume (now_of past)) inode index)
    (λ block. Ok (found_among volume.layout.kind block name (places_in volume.layout.kind inode.size index))) refused

pub found_read : (past : Option Past) (volume : Volume) (inode : Inode) (name : List ℕ) (index count : ℕ) (block : List ℕ) (found : Option ℕ)
    → Told past (λ now. block_at volume.layout (parts_of volume now) inode index ≡ Ok block)
    → count ≡ places_in volume.layout.kind inode.size index → found ≡ found_among volume.layout.kind block name count
    → Told past (λ now. with_fault Zone (found_in volume.layout (parts_of volume now) inode name index) ≡ Ok found)
unfolding found_in
found_read None volume inode name index count block found read is here = tt
found_read (Some past) volume inode name index count block found read is here =
    let K : Option ℕ → Result (Option ℕ) model.TreeFault = λ o. Ok o in
    let C : ℕ → Option ℕ = λ n. found_among volume.layout.kind block name n in
    rw read (ap K (sym (here ∙ ap C is)))

abbrev NoneBefore : Option Past → Volume → Inode → List ℕ → ℕ → Type 0
NoneBefore past volume inode name index = Told past (λ now. find_before volume.layout (parts_of volume now) inode name index ≡ Ok None)

pub none_yet : (past : Option Past) (volume : Volume) (inode : Inode) (name : List ℕ)
    → Told past (λ now. find_below (entry_at volume.layout (parts_of volume now) inode) name (places_before volume.layout.kind inode.size 0) ≡ Ok None)
none_yet None volume inode name = tt
none_yet (Some past) volume inode name =
    let e : places_before volume.layout.kind inode.size 0 ≡ 0 = omega arith in
    rw e refl

pub none_here : (past : Option Past) (volume : Volume) (inode : Inode) (name : List ℕ) (index : ℕ) → index < directory_blocks volume.layout.kind inode.size
    → NoneBefore past volume inode name index
    → Told past (λ now. with_fault Zone (found_in volume.layout (parts_of volume now) inode name index) ≡ Ok None)
    → Told past (λ now. find_below (entry_at volume.layout (parts_of volume now) inode) name (places_before volume.layout.kind inode.size (index + 1)) ≡ Ok None)
none_here None volume inode name index below none here = tt
none_here (Some past) volume inode name index below none here =
    next_block volume.layout (parts_of volume (now_of past)) inode name index below none
    ∙ without_zone (found_in volume.layout (parts_of volume (now_of past)) inode name index) None here

pub some_here : (past : Option Past) (volume : Volume) (inode : Inode) (name : List ℕ) (index found : ℕ) → index < directory_blocks volume.layout.kind inode.size
    → NoneBefore past volume inode name index
    → Told past (λ now. with_fault Zone (found_in volume.layout (parts_of volume now) inode name index) ≡ Ok (Some found))
    → Told past (λ now. with_fault Zone (find_entry volume.layout (parts_of volume now) inode name) ≡ Ok (Some found))
some_here None volume inode name index found below none here = tt
some_here (Some past) volume inode name index found below none here =
    let at : find_before volume.layout (parts_of volume (now_of past)) inode name (index + 1) ≡ Ok (Some found) =
    next_block volume.layout (parts_of volume (now_of past)) inode name index below none
    ∙ without_zone (found_in volume.layout (parts_of volume (now_of past)) inode name index) (Some found) here in
    rw (whole_by volume.layout (parts_of volume (now_of past)) inode name (index + 1) found at) refl

refused_here_by : (super : Super) (parts : Parts) (inode : Inode) (name : List ℕ) (index : ℕ) (fault : TreeFault) (found : Result (Option ℕ) volumes.ZoneFault)
    → find_before super parts inode name (index + 1) ≡ found
    → Refuses fault (with_fault Zone found) → Refuses fault (with_fault Zone (find_entry super parts inode name))
refused_here_by super parts inode name index fault (Ok found) is refused = refused_ok fault found (with_fault Zone (find_entry super parts inode name)) refused
refused_here_by super parts inode name index fault (Err why) is refused = rw (refused_by super parts inode name (index + 1) why is) refused

pub refused_here : (past : Option Past) (volume : Volume) (inode : Inode) (name : List ℕ) (index : ℕ) (fault : TreeFault) → index < directory_blocks volume.layout.kind inode.size
    → NoneBefore past volume inode name index
    → Told past (λ now. Refuses fault (with_fault Zone (found_in volume.layout (parts_of volume now) inode name index)))
    → Told past (λ now. Refuses fault (with_fault Zone (find_entry volume.layout (parts_of volume now) inode name)))
refused_here None volume inode name index fault below none here = tt
refused_here (Some past) volume inode name index fault below none here =
    refused_here_by volume.layout (parts_of volume (now_of past)) inode name index fault (found_in volume.layout (parts_of volume (now_of past)) inode name index)
    (next_block volume.layout (parts_of volume (now_of past)) inode name index below none) here

pub none_at_all : (past : Option Past) (volume : Volume) (inode : Inode) (name : List ℕ)
    → NoneBefore past volume inode name (directory_blocks volume.layout.kind inode.size)
    → Told past (λ now. with_fault Zone (find_entry volume.layout (parts_of volume now) inode name) ≡ Ok None)
unfolding find_entry
none_at_all None volume inode name none = tt
none_at_all (Some past) volume inode name none =
    let F : ℕ → Result (Option ℕ) volumes.ZoneFault = λ n. find_below (entry_at volume.layout (parts_of volume (now_of past)) inode) name n in
    let all : F (places volume.layout.kind inode.size) ≡ Ok None = sym (ap F (all_before volume.layout.kind inode.size)) ∙ none in
    rw all refl
