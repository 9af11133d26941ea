-- What is chosen, step by step.
use Rattle.std.proofs.Common.{◌≡◌, ◌≤◌, ◌<◌, ◌-◌, ℕ, Bool, true, false, not, ◌||◌, nat_le, List, length, Option, None, Some, Result, Ok, Err, refl, sym, ap, ◌∙◌, subst, arith}
use Rattle.std.specs.Prelude.{IfOk, IfSome}
use Rattle.std.proofs.lemmas.Bool.Decides.{nat_tests}
use Rattle.disk_trait.specs.Past.{Past, Told, now_of}
use Rattle.lilo_model.specs.Checks.{◌>>=◌, require, with_fault}
use Rattle.lilo_model.specs.MinixLayout.{Kind, Super, Inode, BadSize, FileSize, is_size, name_size, entry_size}
use Rattle.lilo_model.specs.MinixParts as volumes
use Rattle.lilo_model.specs.MinixParts.{Parts, Volume, parts_of}
use Rattle.lilo_model.specs.MinixEntries.{Entry, places}
use Rattle.lilo_model.specs.MinixFind as finds
use Rattle.lilo_model.specs.MinixFind.{readable}
use Rattle.minix_steps.specs.Free.{lowest_inode}
use Rattle.minix_steps.specs.Numbers.{has_number}
use Rattle.minix_steps.specs.declared.bit_fault.BitFault.{BitFault}
use Rattle.minix_zones.specs.View as zones
use Rattle.minix_zones.specs.declared.zone_fault.ZoneFault as faults
use Rattle.minix_zones.specs.declared.zone_fault.ZoneFault.TheVariants as variants
use Rattle.minix_tree.specs.View as trees
use Rattle.minix_tree.specs.declared.tree_fault.TreeFault as treefaults
use Rattle.minix_tree.specs.declared.tree_fault.TreeFault.TheVariants as treevariants
use Rattle.write_model.specs.Wish.{Taken, Promise, Refusal, NameTooLong, Exists, NoInode, NoSpace, Tree}
use Rattle.write_model.specs.Places.{all_entries, has_name, is_overlooked, is_promised, first_free, first_from, within, or_behind, most_places}
use Rattle.write_model.specs.Choice.{in_zone, name_check, free_inode}
use Rattle.minix_choice.specs.declared.directory.Seen.{Seen}
use Rattle.minix_choice.specs.Directory.{Looks}
use Rattle.minix_choice.specs.Chosen.{free_for, spot_for, at_place}
use Rattle.minix_choice.specs.declared.write_fault.WriteFault as writes
use Rattle.minix_choice.specs.declared.write_fault.WriteFault.TheVariants as writevariants
use Rattle.minix_choice.specs.View.{zone_refusal, tree_refusal, Refuses}

-- ---- the inode

same_inode : (super : Super) (parts : Parts) (numbers : List ℕ) → lowest_inode super parts numbers ≡ free_inode super parts (has_number numbers)
unfolding lowest_inode free_inode
same_inode super parts numbers = refl

-- what is found is the definition's
pub inode_told : (result : Result (Option ℕ) BitFault) (past : Option Past) (volume : Volume) (numbers : List ℕ)
    → IfOk result (λ found. Told past (λ now. found ≡ lowest_inode volume.layout (parts_of volume now) numbers))
    → IfOk result (λ found. Told past (λ now. found ≡ free_inode volume.layout (parts_of volume now) (has_number numbers)))
inode_told (Err fault) past volume numbers told = tt
inode_told (Ok found) None volume numbers told = tt
inode_told (Ok found) (Some past) volume numbers told = told ∙ same_inode volume.layout (parts_of volume (now_of past)) numbers

-- ---- refusals

zone_then : {A B C : Type 0} (fault : faults.ZoneFault) (found : Result A volumes.ZoneFault) (next : A → Result B Refusal) (last : B → Result C Refusal)
    → zones.Refuses fault found → Refuses (zone_refusal fault) ((in_zone found >>= next) >>= last)
zone_then (variants.Layout fault) found next last refused = rw refused refl
zone_then (variants.ZoneOutside zone) found next last refused = rw refused refl
zone_then variants.Device found next last refused = tt

tree_then : {B C : Type 0} (test : Bool) (fault' : volumes.ZoneFault) (number : ℕ) (fault : treefaults.TreeFault) (next : ℕ → Result B Refusal) (last : B → Result C Refusal)
    → trees.Refuses fault (require test (finds.Zone fault') >>= λ a. Ok number)
    → Refuses (tree_refusal fault) ((with_fault Tree (require test (finds.Zone fault') >>= λ a. Ok number) >>= next) >>= last)
tree_then true fault' number (treevariants.NotFound position) next last refused = absurd (cc)
tree_then true fault' number (treevariants.NotDirectory position) next last refused = absurd (cc)
tree_then true fault' number treevariants.NotFile next last refused = absurd (cc)
tree_then true fault' number treevariants.TooManyLinks next last refused = absurd (cc)
tree_then true fault' number (treevariants.BadEntry directory) next last refused = absurd (cc)
tree_then true fault' number treevariants.PathTooLong next last refused = absurd (cc)
tree_then true fault' number (treevariants.Zone (variants.Layout fault)) next last refused = absurd (cc)
tree_then true fault' number (treevariants.Zone (variants.ZoneOutside zone)) next last refused = absurd (cc)
tree_then true fault' number (treevariants.Zone variants.Device) next last refused = tt
tree_then true fault' number treevariants.Memory next last refused = tt
tree_then false fault' number (treevariants.NotFound position) next last refused = absurd (cc)
tree_then false fault' number (treevariants.NotDirectory position) next last refused = absurd (cc)
tree_then false fault' number treevariants.NotFile next last refused = absurd (cc)
tree_then false fault' number treevariants.TooManyLinks next last refused = absurd (cc)
tree_then false fault' number (treevariants.BadEntry directory) next last refused = absurd (cc)
tree_then false fault' number treevariants.PathTooLong next last refused = absurd (cc)
tree_then false fault' number (treevariants.Zone (variants.Layout fault)) next last refused = cc
tree_then false fault' number (treevariants.Zone (variants.ZoneOutside zone)) next last refused = cc
tree_then false fault' number (treevariants.Zone variants.Device) next last refused = tt
tree_then false fault' number treevariants.Memory next last refused = tt

-- ---- the name

-- the checks of a name, by what each of them comes to
abbrev free_by : Bool → Result ℕ finds.TreeFault → Result (List Entry) volumes.ZoneFault → (List Entry → Bool) → (List Entry → Option ℕ) → Result (Option ℕ) Refusal
free_by short read found test free =
    (require short NameTooLong
    >>= λ a. with_fault Tree read
    >>= λ b. in_zone found
    >>= λ entries. require (test entries) Exists
    >>= λ c. Ok entries)
    >>= λ entries. Ok (free entries)

abbrev may_have : Taken → ℕ → List ℕ → List Entry → Bool
may_have taken directory name entries = not (has_name name entries) || is_overlooked taken.overlooked directory name

free_for_is : (super : Super) (parts : Parts) (taken : Taken) (directory : ℕ) (name : List ℕ)
    → free_for super parts taken directory name
    ≡ free_by (nat_le (length name) (name_size super.kind)) (readable super parts directory) (all_entries super parts (parts.node directory)) (may_have taken directory name) (first_free (is_promised taken.promises directory) 0)
unfolding free_for name_check
free_for_is super parts taken directory name = refl

pub long_test : (kind : Kind) (size bound len : ℕ) → size ≡ entry_size kind → bound ≡ size - 2 → bound < len → nat_le len (name_size kind) ≡ false
long_test kind size bound len is is' long =
    let far : name_size kind < len = omega (arith, is, is', long) in
    grind (arith, nat_tests)

pub short_test : (kind : Kind) (size bound len : ℕ) → size ≡ entry_size kind → bound ≡ size - 2 → len ≤ bound → nat_le len (name_size kind) ≡ true
short_test kind size bound len is is' short =
    let near : len ≤ name_size kind = omega (arith, is, is', short) in
    grind (arith, nat_tests)

pub name_long : (past : Option Past) (volume : Volume) (taken : Taken) (directory : ℕ) (name : List ℕ) → nat_le (length name) (name_size volume.layout.kind) ≡ false
    → Told past (λ now. free_for volume.layout (parts_of volume now) taken directory name ≡ Err NameTooLong)
name_long None volume taken directory name long = tt
name_long (Some past) volume taken directory name long =
    free_for_is volume.layout (parts_of volume (now_of past)) taken directory name ∙ rw long refl

stat_bad_by : (super : Super) (parts : Parts) (taken : Taken) (directory : ℕ) (name : List ℕ) (fault : treefaults.TreeFault)
    → nat_le (length name) (name_size super.kind) ≡ true → trees.Refuses fault (readable super parts directory)
    → Refuses (tree_refusal fault) (free_for super parts taken directory name)
stat_bad_by super parts taken directory name fault short refused =
    rw (free_for_is super parts taken directory name, short)
    (tree_then (is_size super.kind (parts.node directory).size) (volumes.Layout (BadSize FileSize)) directory fault _ _ refused)

pub stat_bad : (past : Option Past) (volume : Volume) (taken : Taken) (directory : ℕ) (name : List ℕ) (fault : treefaults.TreeFault)
    → nat_le (length name) (name_size volume.layout.kind) ≡ true
    → Told past (λ now. trees.Refuses fault (readable volume.layout (parts_of volume now) directory))
    → Told past (λ now. Refuses (tree_refusal fault) (free_for volume.layout (parts_of volume now) taken directory name))
stat_bad None volume taken directory name fault short refused = tt
stat_bad (Some past) volume taken directory name fault short refused =
    stat_bad_by volume.layout (parts_of volume (now_of past)) taken directory name fault short refused

look_bad_by : (super : Super) (parts : Parts) (taken : Taken) (directory number : ℕ) (name : List ℕ) (node : Inode) (fault : faults.ZoneFault)
    → nat_le (length name) (name_size super.kind) ≡ true → readable super parts directory ≡ Ok number → node ≡ parts.node directory
    → zones.Refuses fault (all_entries super parts node)
    → Refuses (zone_refusal fault) (free_for super parts taken directory name)
look_bad_by super parts taken directory number name node fault short read is refused =
    let R : Inode → Type 0 = λ n. zones.Refuses fault (all_entries super parts n) in
    rw (free_for_is super parts taken directory name, short, read)
    (zone_then fault (all_entries super parts (parts.node directory)) _ _ (subst R is refused))

-- what is known of the directory's inode
pub record IsDirectory (super : Super) (parts : Parts) (directory : ℕ) (node : Inode) : Type 0 where
  pub read : readable super parts directory ≡ Ok directory
  pub stands : node ≡ parts.node directory

pub known : (past : Option Past) (volume : Volume) (directory number : ℕ) (node : Inode) → number ≡ directory
    → Told past (λ now. readable volume.layout (parts_of volume now) directory ≡ Ok number)
    → Told past (λ now. node ≡ (parts_of volume now).node number)
    → Told past (λ now. IsDirectory volume.layout (parts_of volume now) directory node)
known None volume directory number node is read node_is = tt
known (Some past) volume directory number node is read node_is =
    let K : ℕ → Result ℕ finds.TreeFault = λ n. Ok n in
    record { read = read ∙ ap K is; stands = node_is ∙ ap (parts_of volume (now_of past)).node is }

pub look_bad : (past : Option Past) (volume : Volume) (taken : Taken) (directory : ℕ) (name : List ℕ) (node : Inode) (promises : List Promise) (fault : faults.ZoneFault)
    → nat_le (length name) (name_size volume.layout.kind) ≡ true
    → Told past (λ now. IsDirectory volume.layout (parts_of volume now) directory node)
    → Told past (λ now. Looks directory name promises (Err fault) (all_entries volume.layout (parts_of volume now) node))
    → Told past (λ now. Refuses (zone_refusal fault) (free_for volume.layout (parts_of volume now) taken directory name))
look_bad None volume taken directory name node promises fault short is refused = tt
look_bad (Some past) volume taken directory name node promises fault short is refused =
    look_bad_by volume.layout (parts_of volume (now_of past)) taken directory directory name node fault short is.read is.stands refused

exists_by : (super : Super) (parts : Parts) (taken : Taken) (directory : ℕ) (name : List ℕ) (node : Inode) (entries : List Entry)
    → nat_le (length name) (name_size super.kind) ≡ true → IsDirectory super parts directory node → all_entries super parts node ≡ Ok entries
    → has_name name entries ≡ true → is_overlooked taken.overlooked directory name ≡ false
    → free_for super parts taken directory name ≡ Err Exists
exists_by super parts taken directory name node entries short is read named looked =
    let A : Inode → Result (List Entry) volumes.ZoneFault = λ n. all_entries super parts n in
    let here : all_entries super parts (parts.node directory) ≡ Ok entries = sym (ap A is.stands) ∙ read in
    free_for_is super parts taken directory name ∙ rw (short, is.read, here, named, looked) refl

pub name_exists : (past : Option Past) (volume : Volume) (taken : Taken) (directory : ℕ) (name : List ℕ) (node : Inode) (seen : Seen)
    → nat_le (length name) (name_size volume.layout.kind) ≡ true
    → Told past (λ now. IsDirectory volume.layout (parts_of volume now) directory node)
    → Told past (λ now. Looks directory name taken.promises (Ok seen) (all_entries volume.layout (parts_of volume now) node))
    → seen.named ≡ true → is_overlooked taken.overlooked directory name ≡ false
    → Told past (λ now. free_for volume.layout (parts_of volume now) taken directory name ≡ Err Exists)
name_exists None volume taken directory name node seen short is looks named looked = tt
name_exists (Some past) volume taken directory name node seen short is looks named looked =
    exists_by volume.layout (parts_of volume (now_of past)) taken directory name node looks.0 short is looks.1 (sym looks.2.named ∙ named) looked

passes_by : (named looked : Bool) → (named ≡ true → looked ≡ true) → (not named || looked) ≡ true
passes_by true looked passes = passes refl
passes_by false looked passes = refl

free_is_by : (super : Super) (parts : Parts) (taken : Taken) (directory : ℕ) (name : List ℕ) (node : Inode) (entries : List Entry)
    → nat_le (length name) (name_size super.kind) ≡ true → IsDirectory super parts directory node → all_entries super parts node ≡ Ok entries
    → may_have taken directory name entries ≡ true
    → free_for super parts taken directory name ≡ Ok (first_free (is_promised taken.promises directory) 0 entries)
free_is_by super parts taken directory name node entries short is read may =
    let A : Inode → Result (List Entry) volumes.ZoneFault = λ n. all_entries super parts n in
    let here : all_entries super parts (parts.node directory) ≡ Ok entries = sym (ap A is.stands) ∙ read in
    free_for_is super parts taken directory name ∙ rw (short, is.read, here, may) refl

pub free_is : (past : Option Past) (volume : Volume) (taken : Taken) (directory : ℕ) (name : List ℕ) (node : Inode) (seen : Seen)
    → nat_le (length name) (name_size volume.layout.kind) ≡ true
    → Told past (λ now. IsDirectory volume.layout (parts_of volume now) directory node)
    → Told past (λ now. Looks directory name taken.promises (Ok seen) (all_entries volume.layout (parts_of volume now) node))
    → (seen.named ≡ true → is_overlooked taken.overlooked directory name ≡ true)
    → Told past (λ now. free_for volume.layout (parts_of volume now) taken directory name ≡ Ok seen.free)
free_is None volume taken directory name node seen short is looks passes = tt
free_is (Some past) volume taken directory name node seen short is looks passes =
    let K : Option ℕ → Result (Option ℕ) Refusal = λ o. Ok o in
    free_is_by volume.layout (parts_of volume (now_of past)) taken directory name node looks.0 short is looks.1
    (passes_by (has_name name looks.0) (is_overlooked taken.overlooked directory name) (λ named. passes (looks.2.named ∙ named)))
    ∙ ap K (sym looks.2.free)

-- ---- inode and place

pub refused_then : {A B : Type 0} (fault : writes.WriteFault) (found : Result A Refusal) (next : A → Result B Refusal) → Refuses fault found → Refuses fault (found >>= next)
refused_then (writevariants.NoSpace need short) found next refused = rw refused refl
refused_then writevariants.NoInode found next refused = rw refused refl
refused_then writevariants.NameTooLong found next refused = rw refused refl
refused_then writevariants.Exists found next refused = rw refused refl
refused_then writevariants.Links found next refused = refused
refused_then (writevariants.Tree (treevariants.NotFound position)) found next refused = refused
refused_then (writevariants.Tree (treevariants.NotDirectory position)) found next refused = refused
refused_then (writevariants.Tree treevariants.NotFile) found next refused = refused
refused_then (writevariants.Tree treevariants.TooManyLinks) found next refused = refused
refused_then (writevariants.Tree (treevariants.BadEntry directory)) found next refused = refused
refused_then (writevariants.Tree treevariants.PathTooLong) found next refused = refused
refused_then (writevariants.Tree (treevariants.Zone (variants.Layout fault))) found next refused = rw refused refl
refused_then (writevariants.Tree (treevariants.Zone (variants.ZoneOutside zone))) found next refused = rw refused refl
refused_then (writevariants.Tree (treevariants.Zone variants.Device)) found next refused = refused
refused_then (writevariants.Tree treevariants.Memory) found next refused = refused
refused_then writevariants.Device found next refused = tt
refused_then writevariants.Memory found next refused = tt

pub spot_refused : (past : Option Past) (volume : Volume) (taken : Taken) (directory : ℕ) (name : List ℕ) (fault : writes.WriteFault)
    → Told past (λ now. Refuses fault (free_for volume.layout (parts_of volume now) taken directory name))
    → Told past (λ now. Refuses fault (spot_for volume.layout (parts_of volume now) taken directory name))
unfolding spot_for
spot_refused None volume taken directory name fault refused = tt
spot_refused (Some past) volume taken directory name fault refused =
    refused_then fault (free_for volume.layout (parts_of volume (now_of past)) taken directory name) _ refused

pub no_inode : (past : Option Past) (volume : Volume) (taken : Taken) (directory : ℕ) (name : List ℕ) (free : Option ℕ)
    → Told past (λ now. free_for volume.layout (parts_of volume now) taken directory name ≡ Ok free)
    → Told past (λ now. None ≡ free_inode volume.layout (parts_of volume now) taken.has_inode)
    → Told past (λ now. spot_for volume.layout (parts_of volume now) taken directory name ≡ Err NoInode)
unfolding spot_for
no_inode None volume taken directory name free is none = tt
no_inode (Some past) volume taken directory name free is none = rw (is, sym none) refl

-- the place of a directory of a size
abbrev pub place_of : Kind → Taken → ℕ → ℕ → Option ℕ → Option ℕ
place_of kind taken directory size free = or_behind kind taken.promises directory size free

pub place_is : (kind : Kind) (taken : Taken) (directory size has most : ℕ) (free place : Option ℕ) → has ≡ places kind size → most ≡ most_places kind
    → (free ≡ None → place ≡ within most (first_from (is_promised taken.promises directory) has (length taken.promises)))
    → IfSome free (λ found. place ≡ Some found) → place ≡ place_of kind taken directory size free
place_is kind taken directory size has most None place is is' none some = none refl ∙ rw (is, is') refl
place_is kind taken directory size has most (Some found) place is is' none some = some

pub no_place : (past : Option Past) (volume : Volume) (taken : Taken) (directory inode : ℕ) (name : List ℕ) (free : Option ℕ) (node : Inode)
    → Told past (λ now. free_for volume.layout (parts_of volume now) taken directory name ≡ Ok free)
    → Told past (λ now. Some inode ≡ free_inode volume.layout (parts_of volume now) taken.has_inode)
    → Told past (λ now. node ≡ (parts_of volume now).node directory)
    → None ≡ place_of volume.layout.kind taken directory node.size free
    → Told past (λ now. spot_for volume.layout (parts_of volume now) taken directory name ≡ Err (NoSpace 1 0))
unfolding spot_for
no_place None volume taken directory inode name free node is found stands none = tt
no_place (Some past) volume taken directory inode name free node is found stands none =
    let S : Inode → Option ℕ = λ n. place_of volume.layout.kind taken directory n.size free in
    rw (is, sym found, sym (none ∙ ap S stands)) refl

pub spot_is : (past : Option Past) (volume : Volume) (taken : Taken) (directory inode place : ℕ) (name : List ℕ) (free : Option ℕ) (node : Inode)
    → Told past (λ now. free_for volume.layout (parts_of volume now) taken directory name ≡ Ok free)
    → Told past (λ now. Some inode ≡ free_inode volume.layout (parts_of volume now) taken.has_inode)
    → Told past (λ now. node ≡ (parts_of volume now).node directory)
    → Some place ≡ place_of volume.layout.kind taken directory node.size free
    → Told past (λ now. spot_for volume.layout (parts_of volume now) taken directory name ≡ Ok (at_place inode place))
unfolding spot_for
spot_is None volume taken directory inode place name free node is found stands there = tt
spot_is (Some past) volume taken directory inode place name free node is found stands there =
    let S : Inode → Option ℕ = λ n. place_of volume.layout.kind taken directory n.size free in
    rw (is, sym found, sym (there ∙ ap S stands)) refl
