-- The bytes of a file, block by block.
use Rattle.std.proofs.Common.{◌≡◌, ◌<◌, ◌-◌, ◌+◌, ℕ, zero, suc, List, ◌++◌, Option, None, Some, Result, Ok, Err, Bool, true, false, take, add-zero, add-suc, refl, sym, ◌∙◌, ap, arith}
use Rattle.disk_trait.specs.Past.{Past, Told, now_of}
use Rattle.lilo_model.specs.Checks.{◌>>=◌, require, with_fault}
use Rattle.lilo_model.specs.MinixLayout.{Inode}
use Rattle.lilo_model.specs.MinixParts as volumes
use Rattle.lilo_model.specs.MinixParts.{Volume, Parts, parts_of, is_file, block_at, blocks_at, blocks_for, content_at}
use Rattle.lilo_model.specs.MinixFind as model
use Rattle.lilo_model.specs.MinixFind.{NotFile, Zone, find, file_at}
use Rattle.minix_tree.specs.File.{block_behind}
use Rattle.minix_tree.specs.declared.tree_fault.TreeFault.{TreeFault}
use Rattle.minix_tree.specs.View.{Refuses}
use Rattle.minix_tree.proofs.RefuseLemmas.{refused_ok, refused_then}

-- ---- blocks

-- a refusal is that of more blocks
refuse_more : (at : ℕ → Result (List ℕ) volumes.ZoneFault) (fault : volumes.ZoneFault) (index more : ℕ) → blocks_at at index ≡ Err fault
    → blocks_at at (index + more) ≡ Err fault
refuse_more at fault index zero refused = rw add-zero refused
refuse_more at fault index (suc more) refused = rw (add-suc, refuse_more at fault index more refused) refl

refused_by : (at : ℕ → Result (List ℕ) volumes.ZoneFault) (index count : ℕ) (before : List ℕ) (fault : TreeFault) (here : Result (List ℕ) volumes.ZoneFault)
    → index < count → blocks_at at index ≡ Ok before → (at index >>= λ block. Ok (before ++ block)) ≡ here
    → Refuses fault (with_fault Zone here) → Refuses fault (with_fault Zone (blocks_at at count))
refused_by at index count before fault (Ok block) below so is refused = refused_ok fault block (with_fault Zone (blocks_at at count)) refused
refused_by at index count before fault (Err why) below so is refused =
    let e : count ≡ suc index + (count - suc index) = omega arith in
    let first : blocks_at at (suc index) ≡ Err why = rw so is in
    let B : ℕ → Result (List ℕ) volumes.ZoneFault = λ n. blocks_at at n in
    rw (ap B e ∙ refuse_more at why (suc index) (count - suc index) first) refused

pub blocks_refused : (past : Option Past) (volume : Volume) (inode : Inode) (index count : ℕ) (before : List ℕ) (fault : TreeFault) → index < count
    → Told past (λ now. blocks_at (block_at volume.layout (parts_of volume now) inode) index ≡ Ok before)
    → Told past (λ now. Refuses fault (with_fault Zone (block_behind volume.layout (parts_of volume now) inode index before)))
    → Told past (λ now. Refuses fault (with_fault Zone (blocks_at (block_at volume.layout (parts_of volume now) inode) count)))
blocks_refused None volume inode index count before fault below so refused = tt
blocks_refused (Some past) volume inode index count before fault below so refused =
    refused_by (block_at volume.layout (parts_of volume (now_of past)) inode) index count before fault
    (block_behind volume.layout (parts_of volume (now_of past)) inode index before) below so refl refused

-- ---- the content

zone_then : {A B : Type 0} (fault : TreeFault) (found : Result A volumes.ZoneFault) (next : A → Result B volumes.ZoneFault)
    → Refuses fault (with_fault Zone found) → Refuses fault (with_fault Zone (found >>= next))
zone_then fault (Ok value) next refused = refused_ok fault value (with_fault Zone (next value)) refused
zone_then fault (Err why) next refused = refused_then fault (with_fault Zone (Err why)) (λ value. with_fault Zone (next value)) refused

zone_ok : {A B : Type 0} (found : Result A volumes.ZoneFault) (value : A) (next : A → B) → with_fault Zone found ≡ Ok value
    → with_fault Zone (found >>= λ v. Ok (next v)) ≡ Ok (next value)
zone_ok (Ok found) value next is = cc
zone_ok (Err why) value next is = cc

pub content_refused : (past : Option Past) (volume : Volume) (inode : Inode) (fault : TreeFault)
    → Told past (λ now. Refuses fault (with_fault Zone (blocks_at (block_at volume.layout (parts_of volume now) inode) (blocks_for inode.size))))
    → Told past (λ now. Refuses fault (with_fault Zone (content_at volume.layout (parts_of volume now) inode)))
unfolding content_at
content_refused None volume inode fault refused = tt
content_refused (Some past) volume inode fault refused =
    zone_then fault (blocks_at (block_at volume.layout (parts_of volume (now_of past)) inode) (blocks_for inode.size)) (λ bytes. Ok (take inode.size bytes)) refused

pub content_read : (past : Option Past) (volume : Volume) (inode : Inode) (bytes text : List ℕ)
    → Told past (λ now. with_fault Zone (blocks_at (block_at volume.layout (parts_of volume now) inode) (blocks_for inode.size)) ≡ Ok bytes)
    → text ≡ take inode.size bytes
    → Told past (λ now. with_fault Zone (content_at volume.layout (parts_of volume now) inode) ≡ Ok text)
unfolding content_at
content_read None volume inode bytes text read is = tt
content_read (Some past) volume inode bytes text read is =
    let K : List ℕ → Result (List ℕ) model.TreeFault = λ b. Ok b in
    zone_ok (blocks_at (block_at volume.layout (parts_of volume (now_of past)) inode) (blocks_for inode.size)) bytes (λ b. take inode.size b) read ∙ ap K (sym is)

-- ---- by a path

pub path_refused : (past : Option Past) (volume : Volume) (path : List ℕ) (fault : TreeFault)
    → Told past (λ now. Refuses fault (find volume.layout (parts_of volume now) path))
    → Told past (λ now. Refuses fault (file_at volume.layout (parts_of volume now) path))
unfolding file_at
path_refused None volume path fault refused = tt
path_refused (Some past) volume path fault refused =
    refused_then fault (find volume.layout (parts_of volume (now_of past)) path)
    (λ inode. require (is_file ((parts_of volume (now_of past)).node inode)) NotFile
    >>= λ a. with_fault Zone (content_at volume.layout (parts_of volume (now_of past)) ((parts_of volume (now_of past)).node inode))) refused

pub no_file_there : (past : Option Past) (volume : Volume) (path : List ℕ) (inode : ℕ) (node : Inode)
    → Told past (λ now. find volume.layout (parts_of volume now) path ≡ Ok inode)
    → Told past (λ now. node ≡ (parts_of volume now).node inode) → is_file node ≡ false
    → Told past (λ now. file_at volume.layout (parts_of volume now) path ≡ Err NotFile)
unfolding file_at
no_file_there None volume path inode node found is file = tt
no_file_there (Some past) volume path inode node found is file =
    let F : Inode → Bool = λ n. is_file n in
    let here : is_file ((parts_of volume (now_of past)).node inode) ≡ false = sym (ap F is) ∙ file in
    rw (found, here) refl

pub file_there : (past : Option Past) (volume : Volume) (path : List ℕ) (inode : ℕ) (node : Inode)
    → Told past (λ now. find volume.layout (parts_of volume now) path ≡ Ok inode)
    → Told past (λ now. node ≡ (parts_of volume now).node inode) → is_file node ≡ true
    → Told past (λ now. file_at volume.layout (parts_of volume now) path ≡ with_fault Zone (content_at volume.layout (parts_of volume now) node))
unfolding file_at
file_there None volume path inode node found is file = tt
file_there (Some past) volume path inode node found is file =
    let F : Inode → Bool = λ n. is_file n in
    let C : Inode → Result (List ℕ) model.TreeFault = λ n. with_fault Zone (content_at volume.layout (parts_of volume (now_of past)) n) in
    let here : is_file ((parts_of volume (now_of past)).node inode) ≡ true = sym (ap F is) ∙ file in
    rw (found, here) (ap C (sym is))
