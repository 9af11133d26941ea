-- What a text leads to, through links.
use Rattle.std.proofs.Common.{◌≡◌, ◌≢◌, ◌≤◌, ◌<◌, ◌-◌, ◌+◌, ℕ, zero, suc, List, ◌++◌, Option, None, Some, Result, Ok, Err, Bool, true, false, if◌then◌else◌, nat_le, length, refl, sym, ◌∙◌, ap, subst, arith}
use Rattle.std.proofs.lemmas.Bool.Decides.{nat_tests}
use Rattle.disk_trait.specs.Past.{Past, Image, Told, now_of}
use Rattle.lilo_model.specs.Checks.{◌>>=◌, require, with_fault}
use Rattle.lilo_model.specs.MinixLayout.{Super, Inode}
use Rattle.lilo_model.specs.MinixParts.{Volume, Parts, parts_of, content_at}
use Rattle.lilo_model.specs.MinixFind as model
use Rattle.lilo_model.specs.MinixFind.{Walked, Ends, Meets, NotFound, PathTooLong, Zone, begins_with_slash, components, walk, readable, text_limit, link_limit, end_of, through_link, find_through, find_path}
use Rattle.minix_tree.specs.LinkText.{LinkText, text_with, link_text}
use Rattle.minix_tree.specs.declared.tree_fault.TreeFault.{TreeFault}
use Rattle.minix_tree.specs.View.{Refuses}
use Rattle.minix_tree.proofs.RefuseLemmas.{refused_then}

-- ---- through a link

-- where a text is walked from
abbrev pub from : ℕ → LinkText → ℕ
from directory next = if next.from_root then 1 else directory

through_by : (parts : Parts) (directory : ℕ) (rest : List ℕ) (find : ℕ → List ℕ → Result ℕ model.TreeFault) (few : Bool) (text : Result (List ℕ) model.TreeFault)
    → (require few PathTooLong >>= λ a. text >>= λ t. find (if begins_with_slash t then 1 else directory) (t ++ rest))
    ≡ ((require few PathTooLong >>= λ a. text >>= λ t. Ok (text_with rest t)) >>= λ next. find (from directory next) next.text)
through_by parts directory rest find true (Ok text) = refl
through_by parts directory rest find true (Err fault) = refl
through_by parts directory rest find false text = refl

through_is : (super : Super) (parts : Parts) (find : ℕ → List ℕ → Result ℕ model.TreeFault) (directory link : ℕ) (rest : List ℕ)
    → through_link super parts find (Meets directory link rest)
    ≡ (link_text super parts (parts.node link) rest >>= λ next. find (from directory next) next.text)
through_is super parts find directory link rest =
    through_by parts directory rest find (nat_le ((parts.node link).size + length rest) text_limit) (with_fault Zone (content_at super parts (parts.node link)))

-- ---- a text

abbrev pub through : Volume → Bool → ℕ → ℕ → List ℕ → Image → Result ℕ model.TreeFault
through volume follows links directory text now = find_through volume.layout (parts_of volume now) follows links directory text

abbrev pub walked : Volume → Bool → ℕ → List ℕ → Image → Result Walked model.TreeFault
walked volume follows directory text now = walk volume.layout (parts_of volume now) follows directory 0 (components text)

walk_refused_in : (super : Super) (parts : Parts) (follows : Bool) (links directory : ℕ) (text : List ℕ) (fault : TreeFault)
    → Refuses fault (walk super parts follows directory 0 (components text))
    → Refuses fault (find_through super parts follows links directory text)
walk_refused_in super parts follows zero directory text fault refused =
    refused_then fault (walk super parts follows directory 0 (components text)) end_of refused
walk_refused_in super parts follows (suc more) directory text fault refused =
    refused_then fault (walk super parts follows directory 0 (components text)) (through_link super parts (find_through super parts follows more)) refused

pub walk_refused : (past : Option Past) (volume : Volume) (follows : Bool) (links directory : ℕ) (text : List ℕ) (fault : TreeFault)
    → Told past (λ now. Refuses fault (walked volume follows directory text now))
    → Told past (λ now. Refuses fault (through volume follows links directory text now))
walk_refused None volume follows links directory text fault refused = tt
walk_refused (Some past) volume follows links directory text fault refused =
    walk_refused_in volume.layout (parts_of volume (now_of past)) follows links directory text fault refused

walk_ends_in : (super : Super) (parts : Parts) (follows : Bool) (links directory : ℕ) (text : List ℕ) (inode : ℕ)
    → walk super parts follows directory 0 (components text) ≡ Ok (Ends inode)
    → find_through super parts follows links directory text ≡ Ok inode
walk_ends_in super parts follows zero directory text inode ends = rw ends refl
walk_ends_in super parts follows (suc more) directory text inode ends = rw ends refl

pub walk_ends : (past : Option Past) (volume : Volume) (follows : Bool) (links directory : ℕ) (text : List ℕ) (inode : ℕ)
    → Told past (λ now. walked volume follows directory text now ≡ Ok (Ends inode))
    → Told past (λ now. through volume follows links directory text now ≡ Ok inode)
walk_ends None volume follows links directory text inode ends = tt
walk_ends (Some past) volume follows links directory text inode ends =
    walk_ends_in volume.layout (parts_of volume (now_of past)) follows links directory text inode ends

-- after a link that was met
meets_in : (super : Super) (parts : Parts) (follows : Bool) (links directory : ℕ) (text : List ℕ) (holder link : ℕ) (node : Inode) (rest : List ℕ)
    → links ≢ 0 → walk super parts follows directory 0 (components text) ≡ Ok (Meets holder link rest) → node ≡ parts.node link
    → find_through super parts follows links directory text
    ≡ (link_text super parts node rest >>= λ next. find_through super parts follows (links - 1) (from holder next) next.text)
meets_in super parts follows zero directory text holder link node rest some meets is = absurd (some refl)
meets_in super parts follows (suc more) directory text holder link node rest some meets is =
    let e : suc more - 1 ≡ more = omega arith in
    let F : Inode → ℕ → Result ℕ model.TreeFault = λ n m. link_text super parts n rest >>= λ next. find_through super parts follows m (from holder next) next.text in
    let T : Result Walked model.TreeFault → Result ℕ model.TreeFault = λ w. w >>= through_link super parts (find_through super parts follows more) in
    let I : Inode → Result ℕ model.TreeFault = λ n. F n more in
    let M : ℕ → Result ℕ model.TreeFault = λ m. F node m in
    ap T meets ∙ through_is super parts (find_through super parts follows more) holder link rest ∙ ap I (sym is) ∙ ap M (sym e)

pub text_refused : (past : Option Past) (volume : Volume) (follows : Bool) (links directory : ℕ) (text : List ℕ) (holder link : ℕ) (node : Inode) (rest : List ℕ) (fault : TreeFault)
    → links ≢ 0 → Told past (λ now. walked volume follows directory text now ≡ Ok (Meets holder link rest))
    → Told past (λ now. node ≡ (parts_of volume now).node link)
    → Told past (λ now. Refuses fault (link_text volume.layout (parts_of volume now) node rest))
    → Told past (λ now. Refuses fault (through volume follows links directory text now))
text_refused None volume follows links directory text holder link node rest fault some meets is refused = tt
text_refused (Some past) volume follows links directory text holder link node rest fault some meets is refused =
    let R : Result ℕ model.TreeFault → Type 0 = λ r. Refuses fault r in
    subst R (sym (meets_in volume.layout (parts_of volume (now_of past)) follows links directory text holder link node rest some meets is))
    (refused_then fault (link_text volume.layout (parts_of volume (now_of past)) node rest)
    (λ next. find_through volume.layout (parts_of volume (now_of past)) follows (links - 1) (from holder next) next.text) refused)

pub goes_on : (past : Option Past) (volume : Volume) (follows : Bool) (links directory : ℕ) (text : List ℕ) (holder link : ℕ) (node : Inode) (rest : List ℕ) (next : LinkText) (start : ℕ)
    → links ≢ 0 → Told past (λ now. walked volume follows directory text now ≡ Ok (Meets holder link rest))
    → Told past (λ now. node ≡ (parts_of volume now).node link)
    → Told past (λ now. link_text volume.layout (parts_of volume now) node rest ≡ Ok next)
    → start ≡ from holder next
    → Told past (λ now. through volume follows links directory text now ≡ through volume follows (links - 1) start next.text now)
goes_on None volume follows links directory text holder link node rest next start some meets is read at = tt
goes_on (Some past) volume follows links directory text holder link node rest next start some meets is read at =
    let S : ℕ → Result ℕ model.TreeFault = λ s. through volume follows (links - 1) s next.text (now_of past) in
    meets_in volume.layout (parts_of volume (now_of past)) follows links directory text holder link node rest some meets is ∙ rw read (ap S (sym at))

-- ---- a path

pub no_slash : (past : Option Past) (volume : Volume) (follows : Bool) (path : List ℕ) → begins_with_slash path ≡ false
    → Told past (λ now. find_path volume.layout (parts_of volume now) follows path ≡ Err (NotFound 0))
unfolding find_path
no_slash None volume follows path none = tt
no_slash (Some past) volume follows path none = rw none refl

pub too_long : (past : Option Past) (volume : Volume) (follows : Bool) (path : List ℕ) → begins_with_slash path ≡ true → 1024 < length path
    → Told past (λ now. find_path volume.layout (parts_of volume now) follows path ≡ Err PathTooLong)
unfolding find_path
too_long None volume follows path slash long = tt
too_long (Some past) volume follows path slash long =
    let few : nat_le (length path) 1024 ≡ false = grind (arith, nat_tests) in
    rw (slash, few) refl

path_is : (super : Super) (parts : Parts) (follows : Bool) (path : List ℕ) → begins_with_slash path ≡ true → length path ≤ 1024
    → find_path super parts follows path ≡ (readable super parts 1 >>= λ root. find_through super parts follows link_limit 1 path)
unfolding find_path
path_is super parts follows path slash short =
    let few : nat_le (length path) 1024 ≡ true = grind (arith, nat_tests) in
    rw (slash, few) refl

pub no_root : (past : Option Past) (volume : Volume) (follows : Bool) (path : List ℕ) (fault : TreeFault) → begins_with_slash path ≡ true → length path ≤ 1024
    → Told past (λ now. Refuses fault (readable volume.layout (parts_of volume now) 1))
    → Told past (λ now. Refuses fault (find_path volume.layout (parts_of volume now) follows path))
no_root None volume follows path fault slash short refused = tt
no_root (Some past) volume follows path fault slash short refused =
    let R : Result ℕ model.TreeFault → Type 0 = λ r. Refuses fault r in
    subst R (sym (path_is volume.layout (parts_of volume (now_of past)) follows path slash short))
    (refused_then fault (readable volume.layout (parts_of volume (now_of past)) 1) (λ root. find_through volume.layout (parts_of volume (now_of past)) follows link_limit 1 path) refused)

pub from_root : (past : Option Past) (volume : Volume) (follows : Bool) (path : List ℕ) (root : ℕ) → begins_with_slash path ≡ true → length path ≤ 1024
    → Told past (λ now. readable volume.layout (parts_of volume now) 1 ≡ Ok root) → root ≡ 1
    → Told past (λ now. find_path volume.layout (parts_of volume now) follows path ≡ through volume follows 8 root path now)
from_root None volume follows path root slash short good one = tt
from_root (Some past) volume follows path root slash short good one =
    let T : ℕ → Result ℕ model.TreeFault = λ start. through volume follows 8 start path (now_of past) in
    path_is volume.layout (parts_of volume (now_of past)) follows path slash short ∙ rw good (ap T (sym one))
