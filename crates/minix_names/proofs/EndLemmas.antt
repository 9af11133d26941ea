-- Where the walk of a path ends, through links.
use Rattle.std.proofs.Common.{◌≡◌, ◌≢◌, ◌≤◌, ◌<◌, ◌-◌, ◌+◌, ℕ, zero, suc, List, Option, None, Some, Result, Ok, Err, true, false, nat_le, length, take, ◌++◌, refl, sym, ◌∙◌, ap, subst, arith}
use Rattle.std.proofs.lemmas.Bool.Decides.{nat_tests}
use Rattle.disk_trait.specs.Past.{Past, Image, Told, now_of}
use Rattle.lilo_model.specs.Checks.{◌>>=◌}
use Rattle.lilo_model.specs.MinixLayout.{Super, Inode}
use Rattle.lilo_model.specs.MinixParts.{Volume, Parts, parts_of}
use Rattle.lilo_model.specs.MinixFind as model
use Rattle.lilo_model.specs.MinixFind.{NotFound, TooManyLinks, PathTooLong, begins_with_slash, components, readable, link_limit}
use Rattle.minix_tree.specs.LinkText.{LinkText, link_text}
use Rattle.minix_tree.specs.declared.tree_fault.TreeFault.{TreeFault}
use Rattle.minix_tree.specs.View.{Refuses}
use Rattle.minix_tree.proofs.RefuseLemmas.{refused_then}
use Rattle.minix_names.specs.Ends.{PathEnd, At, Misses, TextEnd, Ends, Meets, Lacks, text_end, last_end, start_of, end_through, ends_through, path_end}

-- ---- a text

abbrev pub through : Volume → ℕ → ℕ → List ℕ → Image → Result PathEnd model.TreeFault
through volume links directory text now = ends_through volume.layout (parts_of volume now) links directory text

-- from a place of the text on
abbrev pub walked_from : Volume → ℕ → ℕ → List ℕ → Image → Result TextEnd model.TreeFault
walked_from volume directory position text now = text_end volume.layout (parts_of volume now) directory position (components text)

abbrev pub walked : Volume → ℕ → List ℕ → Image → Result TextEnd model.TreeFault
walked volume directory text now = walked_from volume directory 0 text now

refused_in : (super : Super) (parts : Parts) (links directory : ℕ) (text : List ℕ) (fault : TreeFault)
    → Refuses fault (text_end super parts directory 0 (components text))
    → Refuses fault (ends_through super parts links directory text)
refused_in super parts zero directory text fault refused =
    refused_then fault (text_end super parts directory 0 (components text)) last_end refused
refused_in super parts (suc more) directory text fault refused =
    refused_then fault (text_end super parts directory 0 (components text)) (end_through super parts (ends_through super parts more)) refused

pub walk_refused : (past : Option Past) (volume : Volume) (links directory : ℕ) (text : List ℕ) (fault : TreeFault)
    → Told past (λ now. Refuses fault (walked volume directory text now))
    → Told past (λ now. Refuses fault (through volume links directory text now))
walk_refused None volume links directory text fault refused = tt
walk_refused (Some past) volume links directory text fault refused =
    refused_in volume.layout (parts_of volume (now_of past)) links directory text fault refused

ends_in : (super : Super) (parts : Parts) (links directory : ℕ) (text : List ℕ) (inode : ℕ)
    → text_end super parts directory 0 (components text) ≡ Ok (Ends inode)
    → ends_through super parts links directory text ≡ Ok (At inode)
ends_in super parts zero directory text inode ends = rw ends refl
ends_in super parts (suc more) directory text inode ends = rw ends refl

pub walk_ends : (past : Option Past) (volume : Volume) (links directory : ℕ) (text : List ℕ) (inode : ℕ)
    → Told past (λ now. walked volume directory text now ≡ Ok (Ends inode))
    → Told past (λ now. through volume links directory text now ≡ Ok (At inode))
walk_ends None volume links directory text inode ends = tt
walk_ends (Some past) volume links directory text inode ends =
    ends_in volume.layout (parts_of volume (now_of past)) links directory text inode ends

lacks_in : (super : Super) (parts : Parts) (links directory : ℕ) (text : List ℕ) (holder : ℕ) (name : List ℕ)
    → text_end super parts directory 0 (components text) ≡ Ok (Lacks holder name)
    → ends_through super parts links directory text ≡ Ok (Misses holder name)
lacks_in super parts zero directory text holder name lacks = rw lacks refl
lacks_in super parts (suc more) directory text holder name lacks = rw lacks refl

-- a name was written at the start
pub written-first : (name written before : List ℕ) → take (0 + length name) written ≡ take 0 before ++ name → take (length name) written ≡ name
written-first name written before is =
    let e : length name ≡ 0 + length name = omega arith in
    ap (λ (n : ℕ). take n written) e ∙ is

-- the name that is missed was written
pub walk_lacks : (past : Option Past) (volume : Volume) (links directory : ℕ) (text : List ℕ) (holder : ℕ) (name written : List ℕ)
    → Told past (λ now. walked volume directory text now ≡ Ok (Lacks holder name)) → written ≡ name
    → Told past (λ now. through volume links directory text now ≡ Ok (Misses holder written))
walk_lacks None volume links directory text holder name written lacks same = tt
walk_lacks (Some past) volume links directory text holder name written lacks same =
    lacks_in volume.layout (parts_of volume (now_of past)) links directory text holder name lacks
    ∙ ap (λ (name : List ℕ). Ok (Misses holder name)) (sym same)

-- a link that is one too many
pub walk_meets : (past : Option Past) (volume : Volume) (directory : ℕ) (text : List ℕ) (holder link : ℕ) (rest : List ℕ) (links : ℕ) → links ≡ 0
    → Told past (λ now. walked volume directory text now ≡ Ok (Meets holder link rest))
    → Told past (λ now. through volume links directory text now ≡ Err TooManyLinks)
walk_meets None volume directory text holder link rest links none meets = tt
walk_meets (Some past) volume directory text holder link rest zero none meets = rw meets refl
walk_meets (Some past) volume directory text holder link rest (suc more) none meets = absurd (omega (arith, none))

-- after a link that was met
meets_in : (super : Super) (parts : Parts) (links directory : ℕ) (text : List ℕ) (holder link : ℕ) (node : Inode) (rest : List ℕ)
    → links ≢ 0 → text_end super parts directory 0 (components text) ≡ Ok (Meets holder link rest) → node ≡ parts.node link
    → ends_through super parts links directory text
    ≡ (link_text super parts node rest >>= λ next. ends_through super parts (links - 1) (start_of holder next) next.text)
meets_in super parts zero directory text holder link node rest some meets is = absurd (some refl)
meets_in super parts (suc more) directory text holder link node rest some meets is =
    let e : suc more - 1 ≡ more = omega arith in
    let F : Inode → ℕ → Result PathEnd model.TreeFault = λ n m. link_text super parts n rest >>= λ next. ends_through super parts m (start_of holder next) next.text in
    let T : Result TextEnd model.TreeFault → Result PathEnd model.TreeFault = λ w. w >>= end_through super parts (ends_through super parts more) in
    let I : Inode → Result PathEnd model.TreeFault = λ n. F n more in
    let M : ℕ → Result PathEnd model.TreeFault = λ m. F node m in
    ap T meets ∙ ap I (sym is) ∙ ap M (sym e)

pub text_refused : (past : Option Past) (volume : Volume) (links directory : ℕ) (text : List ℕ) (holder link : ℕ) (node : Inode) (rest : List ℕ) (fault : TreeFault)
    → links ≢ 0 → Told past (λ now. walked volume directory text now ≡ Ok (Meets holder link rest))
    → Told past (λ now. node ≡ (parts_of volume now).node link)
    → Told past (λ now. Refuses fault (link_text volume.layout (parts_of volume now) node rest))
    → Told past (λ now. Refuses fault (through volume links directory text now))
text_refused None volume links directory text holder link node rest fault some meets is refused = tt
text_refused (Some past) volume links directory text holder link node rest fault some meets is refused =
    let R : Result PathEnd model.TreeFault → Type 0 = λ r. Refuses fault r in
    subst R (sym (meets_in volume.layout (parts_of volume (now_of past)) links directory text holder link node rest some meets is))
    (refused_then fault (link_text volume.layout (parts_of volume (now_of past)) node rest)
    (λ next. ends_through volume.layout (parts_of volume (now_of past)) (links - 1) (start_of holder next) next.text) refused)

pub goes_on : (past : Option Past) (volume : Volume) (links directory : ℕ) (text : List ℕ) (holder link : ℕ) (node : Inode) (rest : List ℕ) (next : LinkText) (start : ℕ)
    → links ≢ 0 → Told past (λ now. walked volume directory text now ≡ Ok (Meets holder link rest))
    → Told past (λ now. node ≡ (parts_of volume now).node link)
    → Told past (λ now. link_text volume.layout (parts_of volume now) node rest ≡ Ok next)
    → start ≡ start_of holder next
    → Told past (λ now. through volume links directory text now ≡ through volume (links - 1) start next.text now)
goes_on None volume links directory text holder link node rest next start some meets is read at = tt
goes_on (Some past) volume links directory text holder link node rest next start some meets is read at =
    let S : ℕ → Result PathEnd model.TreeFault = λ s. through volume (links - 1) s next.text (now_of past) in
    meets_in volume.layout (parts_of volume (now_of past)) links directory text holder link node rest some meets is ∙ rw read (ap S (sym at))

-- ---- a path

pub no_slash : (past : Option Past) (volume : Volume) (path : List ℕ) → begins_with_slash path ≡ false
    → Told past (λ now. path_end volume.layout (parts_of volume now) path ≡ Err (NotFound 0))
unfolding path_end
no_slash None volume path none = tt
no_slash (Some past) volume path none = rw none refl

pub too_long : (past : Option Past) (volume : Volume) (path : List ℕ) → begins_with_slash path ≡ true → 1024 < length path
    → Told past (λ now. path_end volume.layout (parts_of volume now) path ≡ Err PathTooLong)
unfolding path_end
too_long None volume path slash long = tt
too_long (Some past) volume path slash long =
    let few : nat_le (length path) 1024 ≡ false = grind (arith, nat_tests) in
    rw (slash, few) refl

path_is : (super : Super) (parts : Parts) (path : List ℕ) → begins_with_slash path ≡ true → length path ≤ 1024
    → path_end super parts path ≡ (readable super parts 1 >>= λ root. ends_through super parts link_limit 1 path)
unfolding path_end
path_is super parts path slash short =
    let few : nat_le (length path) 1024 ≡ true = grind (arith, nat_tests) in
    rw (slash, few) refl

pub no_root : (past : Option Past) (volume : Volume) (path : List ℕ) (fault : TreeFault) → begins_with_slash path ≡ true → length path ≤ 1024
    → Told past (λ now. Refuses fault (readable volume.layout (parts_of volume now) 1))
    → Told past (λ now. Refuses fault (path_end volume.layout (parts_of volume now) path))
no_root None volume path fault slash short refused = tt
no_root (Some past) volume path fault slash short refused =
    let R : Result PathEnd model.TreeFault → Type 0 = λ r. Refuses fault r in
    subst R (sym (path_is volume.layout (parts_of volume (now_of past)) path slash short))
    (refused_then fault (readable volume.layout (parts_of volume (now_of past)) 1) (λ root. ends_through volume.layout (parts_of volume (now_of past)) link_limit 1 path) refused)

pub from_root : (past : Option Past) (volume : Volume) (path : List ℕ) (root : ℕ) → begins_with_slash path ≡ true → length path ≤ 1024
    → Told past (λ now. readable volume.layout (parts_of volume now) 1 ≡ Ok root) → root ≡ 1
    → Told past (λ now. path_end volume.layout (parts_of volume now) path ≡ through volume 8 root path now)
from_root None volume path root slash short good one = tt
from_root (Some past) volume path root slash short good one =
    let T : ℕ → Result PathEnd model.TreeFault = λ start. through volume 8 start path (now_of past) in
    path_is volume.layout (parts_of volume (now_of past)) path slash short ∙ rw good (ap T (sym one))
