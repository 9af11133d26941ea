-- A component in a directory, and the walk along components.
use Rattle.std.proofs.Common.{◌≡◌, ◌≤◌, ◌<◌, ℕ, List, Option, None, Some, Result, Ok, Err, Bool, true, false, nat_le, refl, sym, ◌∙◌, ap, subst, arith}
use Rattle.std.proofs.lemmas.Bool.Decides.{nat_tests}
use Rattle.disk_trait.specs.Past.{Past, Image, Told, now_of}
use Rattle.lilo_model.specs.Checks.{◌>>=◌, require, with_fault}
use Rattle.lilo_model.specs.MinixLayout.{Super, Inode}
use Rattle.lilo_model.specs.MinixParts.{Volume, Parts, parts_of, is_directory}
use Rattle.lilo_model.specs.MinixEntries.{find_entry}
use Rattle.lilo_model.specs.MinixFind as model
use Rattle.lilo_model.specs.MinixFind.{Component, Walked, Ends, Meets, NotFound, NotDirectory, BadEntry, Zone, found_at, readable, child, components, is_last, walk}
use Rattle.minix_tree.specs.declared.tree_fault.TreeFault.{TreeFault}
use Rattle.minix_tree.specs.View.{Refuses}
use Rattle.minix_tree.proofs.RefuseLemmas.{refused_then}

-- ---- a component

-- what comes after the entry that was found
abbrev behind : Super → Parts → ℕ → ℕ → Option ℕ → Result ℕ model.TreeFault
behind super parts directory position found =
    found_at position found >>= λ inode. require (nat_le inode super.inodes) (BadEntry directory) >>= λ b. readable super parts inode

child_is : (super : Super) (parts : Parts) (directory position : ℕ) (name : List ℕ) (node : Inode)
    → node ≡ parts.node directory → is_directory node ≡ true
    → child super parts directory position name ≡ (with_fault Zone (find_entry super parts node name) >>= behind super parts directory position)
unfolding child
child_is super parts directory position name node is kind =
    let K : Inode → Bool = λ n. is_directory n in
    let here : is_directory (parts.node directory) ≡ true = sym (ap K is) ∙ kind in
    let F : Inode → Result ℕ model.TreeFault = λ n. with_fault Zone (find_entry super parts n name) >>= behind super parts directory position in
    rw here (ap F (sym is))

pub no_directory : (past : Option Past) (volume : Volume) (directory position : ℕ) (name : List ℕ) (node : Inode)
    → Told past (λ now. node ≡ (parts_of volume now).node directory) → is_directory node ≡ false
    → Told past (λ now. child volume.layout (parts_of volume now) directory position name ≡ Err (NotDirectory position))
unfolding child
no_directory None volume directory position name node is kind = tt
no_directory (Some past) volume directory position name node is kind =
    let K : Inode → Bool = λ n. is_directory n in
    let here : is_directory ((parts_of volume (now_of past)).node directory) ≡ false = sym (ap K is) ∙ kind in
    rw here refl

pub entry_refused : (past : Option Past) (volume : Volume) (directory position : ℕ) (name : List ℕ) (node : Inode) (fault : TreeFault)
    → Told past (λ now. node ≡ (parts_of volume now).node directory) → is_directory node ≡ true
    → Told past (λ now. Refuses fault (with_fault Zone (find_entry volume.layout (parts_of volume now) node name)))
    → Told past (λ now. Refuses fault (child volume.layout (parts_of volume now) directory position name))
entry_refused None volume directory position name node fault is kind refused = tt
entry_refused (Some past) volume directory position name node fault is kind refused =
    let R : Result ℕ model.TreeFault → Type 0 = λ r. Refuses fault r in
    subst R (sym (child_is volume.layout (parts_of volume (now_of past)) directory position name node is kind))
    (refused_then fault (with_fault Zone (find_entry volume.layout (parts_of volume (now_of past)) node name)) (behind volume.layout (parts_of volume (now_of past)) directory position) refused)

pub no_entry : (past : Option Past) (volume : Volume) (directory position : ℕ) (name : List ℕ) (node : Inode)
    → Told past (λ now. node ≡ (parts_of volume now).node directory) → is_directory node ≡ true
    → Told past (λ now. with_fault Zone (find_entry volume.layout (parts_of volume now) node name) ≡ Ok None)
    → Told past (λ now. child volume.layout (parts_of volume now) directory position name ≡ Err (NotFound position))
no_entry None volume directory position name node is kind none = tt
no_entry (Some past) volume directory position name node is kind none =
    child_is volume.layout (parts_of volume (now_of past)) directory position name node is kind ∙ rw none refl

pub bad_entry : (past : Option Past) (volume : Volume) (directory position : ℕ) (name : List ℕ) (node : Inode) (inode : ℕ)
    → Told past (λ now. node ≡ (parts_of volume now).node directory) → is_directory node ≡ true
    → Told past (λ now. with_fault Zone (find_entry volume.layout (parts_of volume now) node name) ≡ Ok (Some inode))
    → volume.layout.inodes < inode
    → Told past (λ now. child volume.layout (parts_of volume now) directory position name ≡ Err (BadEntry directory))
bad_entry None volume directory position name node inode is kind found above = tt
bad_entry (Some past) volume directory position name node inode is kind found above =
    let bad : nat_le inode volume.layout.inodes ≡ false = grind (arith, nat_tests) in
    child_is volume.layout (parts_of volume (now_of past)) directory position name node is kind ∙ rw (found, bad) refl

pub good_entry : (past : Option Past) (volume : Volume) (directory position : ℕ) (name : List ℕ) (node : Inode) (inode : ℕ)
    → Told past (λ now. node ≡ (parts_of volume now).node directory) → is_directory node ≡ true
    → Told past (λ now. with_fault Zone (find_entry volume.layout (parts_of volume now) node name) ≡ Ok (Some inode))
    → inode ≤ volume.layout.inodes
    → Told past (λ now. child volume.layout (parts_of volume now) directory position name ≡ readable volume.layout (parts_of volume now) inode)
good_entry None volume directory position name node inode is kind found there = tt
good_entry (Some past) volume directory position name node inode is kind found there =
    let good : nat_le inode volume.layout.inodes ≡ true = grind (arith, nat_tests) in
    child_is volume.layout (parts_of volume (now_of past)) directory position name node is kind ∙ rw (found, good) refl

-- a fact on one of two equal values is one on the other
pub told_same : {A : Type 0} (past : Option Past) (P : A → Type 0) (one other : Image → A)
    → Told past (λ now. one now ≡ other now) → Told past (λ now. P (other now)) → Told past (λ now. P (one now))
told_same None P one other same fact = tt
told_same (Some past) P one other same fact = subst P (sym same) fact

-- ---- the walk

-- the walk from a directory along the components of a text
abbrev pub walk_of : Volume → Bool → ℕ → ℕ → List ℕ → Image → Result Walked model.TreeFault
walk_of volume follows directory position text now = walk volume.layout (parts_of volume now) follows directory position (components text)
