-- One turn of a walk.
use Rattle.std.proofs.Common.{◌≡◌, ◌⊎◌, ◌≤◌, ◌<◌, ◌+◌, ◌-◌, ◌^◌, max, ℕ, zero, suc, Bool, true, false, nat_lt, ◌==◌, List, [], ◌∷◌, Option, None, Some, Result, Ok, Err, refl, sym, ap, ◌∙◌, subst, inl, inr, lit<, arith}
use Rattle.std.proofs.lemmas.Bool.{ne_eqb}
use Rattle.disk_trait.specs.Past.{Past, Told, now_of}
use Rattle.disk_trait.proofs.ToldLemmas.{told_all}
use Rattle.lilo_model.specs.MinixLayout.{Kind, V1Short, V1Long, V2Short, V2Long, Super, Inode, numbers_in_zone}
use Rattle.lilo_model.specs.MinixParts.{Volume, Parts, ZoneFault, parts_of}
use Rattle.lilo_model.specs.MinixParts as model
use Rattle.lilo_model.specs.MinixWalk.{Stop, Visit, begins, met_then, met_at, stop_number}
use Rattle.minix_layout.specs.declared.superblock.Super.{Super as SuperOf}
use Rattle.minix_layout.specs.View.{inode_view, kind_view}
use Rattle.minix_zones.specs.View.{HasZoneCause, Refuses}
use Rattle.minix_zones.specs.Held.{AreHoles}
use Rattle.minix_zones.specs.Walk.{stops_left, rest_of, number_of, HasCome, Refused}
use Rattle.minix_zones.specs.declared.walk.Walk.{Walk}
use Rattle.minix_zones.specs.declared.zone_fault.ZoneFault.{ZoneFault as Fault}
use Rattle.minix_zones.specs.declared.zone_fault.ZoneFault.TheVariants as faults
use Rattle.minix_zones.proofs.WalkLemmas.{per_of, skip_hole, skip_holes, lower_level, lowest_level, next_block, next_below, none_left}

-- the stop that a walk has come to
abbrev pub stop_of : Walk → Stop
stop_of walk = record { index = walk.index; level = walk.level }

-- what is left of a walk that has come to a level of a block
come-rest : (super : Super) (parts : Parts) (old new : Walk) (index level : ℕ) → HasCome old new index level
    → rest_of super parts new ≡ met_at (stop_number super parts (inode_view old.inode)) (stops_left (per_of super) index level old.end)
unfolding rest_of
come-rest super parts old new index level come =
    ap (λ inode. met_at (stop_number super parts (inode_view inode)) (stops_left (per_of super) new.index new.level new.end)) come.same_inode
    ∙ ap (λ n. met_at (stop_number super parts (inode_view old.inode)) (stops_left (per_of super) n new.level new.end)) come.at_index
    ∙ ap (λ n. met_at (stop_number super parts (inode_view old.inode)) (stops_left (per_of super) index n new.end)) come.at_level
    ∙ ap (λ n. met_at (stop_number super parts (inode_view old.inode)) (stops_left (per_of super) index level n)) come.same_end

lower-rest : (super : Super) (parts : Parts) (old new : Walk) → begins (per_of super) old.index old.level ≡ false
    → HasCome old new old.index (old.level - 1) → rest_of super parts old ≡ rest_of super parts new
unfolding rest_of
lower-rest super parts old new none come =
    let lower = lower_level (per_of super) old.index old.level old.end none in
    ap (met_at (stop_number super parts (inode_view old.inode))) lower.1 ∙ sym (come-rest super parts old new old.index (old.level - 1) come)

-- what is left of a walk that goes down where no number leads to its block first
pub descend_rest : (super : Super) (parts : Parts) (old new : Walk) (per : ℕ) → per ≡ per_of super → begins per old.index old.level ≡ false
    → HasCome old new old.index (old.level - 1) → rest_of super parts old ≡ rest_of super parts new
descend_rest super parts old new per is none come =
    lower-rest super parts old new (subst (λ n. begins n old.index old.level ≡ false) is none) come

pub lowest_rest : (super : Super) (parts : Parts) (old new : Walk) (per : ℕ) → per ≡ per_of super → begins per old.index 1 ≡ false
    → HasCome old new old.index 0 → rest_of super parts old ≡ rest_of super parts new
unfolding rest_of
lowest_rest super parts old new per is none come =
    let here = subst (λ n. begins n old.index 1 ≡ false) is none in
    ap (met_at (stop_number super parts (inode_view old.inode))) (lowest_level (per_of super) old.index old.level old.end here)
    ∙ sym (come-rest super parts old new old.index 0 come)

skip-rest : (super : Super) (parts : Parts) (old new : Walk) (blocks : ℕ) → 0 < per_of super → old.index < old.end
    → begins (per_of super) old.index old.level ≡ true → blocks ≡ per_of super ^ old.level → number_of super parts old ≡ Ok 0
    → HasCome old new (old.index + blocks) 3 → rest_of super parts old ≡ rest_of super parts new
unfolding rest_of
skip-rest super parts old new blocks some more begun are hole come =
    let skipped = skip_hole super parts (inode_view old.inode) (per_of super) old.index old.level old.end refl some more begun hole in
    skipped ∙ ap (λ n. met_at (stop_number super parts (inode_view old.inode)) (stops_left (per_of super) (old.index + n) 3 old.end)) (sym are)
    ∙ sym (come-rest super parts old new (old.index + blocks) 3 come)

-- at least one block is passed, which is a hole
at-least-one : (super : Super) (parts : Parts) (inode : Inode) (index count : ℕ) → stop_number super parts inode (record { index = index; level = 0 }) ≡ Ok 0
    → AreHoles super parts inode index count → AreHoles super parts inode index (max count 1)
at-least-one super parts inode index zero hole holes = record {
  hole = λ next from near. let e : index ≡ next = omega arith in subst (λ n. stop_number super parts inode (record { index = n; level = 0 }) ≡ Ok 0) e hole;
  alone = λ next level after near begun. absurd (omega arith);
}
at-least-one super parts inode index (suc count) hole holes =
    let e : suc count ≡ max (suc count) 1 = omega arith in subst (AreHoles super parts inode index) e holes

holes-rest : (super : Super) (parts : Parts) (old new : Walk) (count : ℕ) → old.index < old.end → old.level ≡ 0 → number_of super parts old ≡ Ok 0
    → AreHoles super parts (inode_view old.inode) old.index count → HasCome old new (old.index + max count 1) 3
    → rest_of super parts old ≡ rest_of super parts new
unfolding rest_of
holes-rest super parts old new count more low hole holes come =
    let inode = inode_view old.inode in
    let here : stop_number super parts inode (record { index = old.index; level = 0 }) ≡ Ok 0 =
    subst (λ n. stop_number super parts inode (record { index = old.index; level = n }) ≡ Ok 0) low hole in
    let all = at-least-one super parts inode old.index count here holes in
    let some : 0 < max count 1 = omega arith in
    ap (λ n. met_at (stop_number super parts inode) (stops_left (per_of super) old.index n old.end)) low
    ∙ skip_holes super parts inode old.index (max count 1) old.end some more all
    ∙ sym (come-rest super parts old new (old.index + max count 1) 3 come)

-- a zone is met
met-zone : (stop : Stop) (number : Result ℕ ZoneFault) (zone : ℕ) (others : List (Result Visit ZoneFault)) → number ≡ Ok zone → 0 < zone
    → met_then stop number others ≡ Ok (record { zone = zone; index = stop.index; indirect = nat_lt 0 stop.level }) ∷ others
met-zone stop number zone others is some =
    let no : (zone == 0) ≡ false = ne_eqb zone 0 (λ e. omega arith) in
    ap (λ found. met_then stop found others) is ∙ rw no refl

abbrev visit_of : Walk → ℕ → Result Visit ZoneFault
visit_of walk zone = Ok (record { zone = zone; index = walk.index; indirect = nat_lt 0 walk.level })

visit-by : (super : Super) (parts : Parts) (old new : Walk) (zone : ℕ) → old.index < old.end
    → begins (per_of super) old.index old.level ≡ true → number_of super parts old ≡ Ok zone → 0 < zone
    → (0 < old.level → HasCome old new old.index (old.level - 1)) → (old.level ≡ 0 → HasCome old new (old.index + 1) 3)
    → (0 < old.level) ⊎ (old.level ≡ 0) → rest_of super parts old ≡ visit_of old zone ∷ rest_of super parts new
unfolding rest_of
visit-by super parts old new zone more begun is some below behind (inl high) =
    let number = stop_number super parts (inode_view old.inode) in
    ap (met_at number) (next_below (per_of super) old.index old.level old.end more high begun)
    ∙ met-zone (stop_of old) (number (stop_of old)) zone (met_at number (stops_left (per_of super) old.index (old.level - 1) old.end)) is some
    ∙ ap (λ (rest : List (Result Visit ZoneFault)). visit_of old zone ∷ rest) (sym (come-rest super parts old new old.index (old.level - 1) (below high)))
visit-by super parts old new zone more begun is some below behind (inr low) =
    let number = stop_number super parts (inode_view old.inode) in
    let next : stops_left (per_of super) old.index old.level old.end ≡ stop_of old ∷ stops_left (per_of super) (old.index + 1) 3 old.end =
    subst (λ (n : ℕ). stops_left (per_of super) old.index n old.end ≡ record { index = old.index; level = n } ∷ stops_left (per_of super) (old.index + 1) 3 old.end) (sym low)
    (next_block (per_of super) old.index old.end more) in
    ap (met_at number) next
    ∙ met-zone (stop_of old) (number (stop_of old)) zone (met_at number (stops_left (per_of super) (old.index + 1) 3 old.end)) is some
    ∙ ap (λ (rest : List (Result Visit ZoneFault)). visit_of old zone ∷ rest) (sym (come-rest super parts old new (old.index + 1) 3 (behind low)))

level-cases : (level : ℕ) → (0 < level) ⊎ (level ≡ 0)
level-cases zero = inr refl
level-cases (suc level) = inl (omega arith)

-- the stop that a walk has come to is the first that is left
first-stop : (per index level end : ℕ) → index < end → begins per index level ≡ true
    → (others : List Stop) × (stops_left per index level end ≡ record { index = index; level = level } ∷ others)
first-stop per index zero end more begun = (stops_left per (index + 1) 3 end, next_block per index end more)
first-stop per index (suc level) end more begun =
    (stops_left per index (suc level - 1) end, next_below per index (suc level) end more (omega arith) begun)

refused-rest : (super : Super) (parts : Parts) (old : Walk) (fault : ZoneFault) → old.index < old.end
    → begins (per_of super) old.index old.level ≡ true → number_of super parts old ≡ Err fault → rest_of super parts old ≡ Err fault ∷ []
unfolding rest_of
refused-rest super parts old fault more begun is =
    let number = stop_number super parts (inode_view old.inode) in
    let first = first-stop (per_of super) old.index old.level old.end more begun in
    ap (met_at number) first.1 ∙ ap (λ found. met_then (stop_of old) found (met_at number first.0)) is

refused-by : (super : Super) (parts : Parts) (old : Walk) (fault : Fault) (before now : ℕ) → old.index < old.end
    → begins (per_of super) old.index old.level ≡ true → HasZoneCause before now fault → Refuses fault (number_of super parts old)
    → Refused fault (rest_of super parts old)
refused-by super parts old (faults.Layout fault) before now more begun cause is = cause
refused-by super parts old (faults.ZoneOutside zone) before now more begun cause is =
    refused-rest super parts old (model.ZoneOutside zone) more begun is
refused-by super parts old faults.Device before now more begun cause is = tt

-- ---- the same where the past is known

pub turn_down : (past : Option Past) (volume : Volume) (old new : Walk) (kind : Kind) → volume.layout.kind ≡ kind
    → ((super : Super) (parts : Parts) → super.kind ≡ kind → rest_of super parts old ≡ rest_of super parts new)
    → Told past (λ now. rest_of volume.layout (parts_of volume now) old ≡ rest_of volume.layout (parts_of volume now) new)
turn_down past volume old new kind is rest =
    told_all past (λ now. rest_of volume.layout (parts_of volume now) old ≡ rest_of volume.layout (parts_of volume now) new)
    (λ now. rest volume.layout (parts_of volume now) is)

pub turn_hole : (past : Option Past) (volume : Volume) (old new : Walk) (blocks zone : ℕ) → 0 < per_of volume.layout → old.index < old.end
    → begins (per_of volume.layout) old.index old.level ≡ true → blocks ≡ per_of volume.layout ^ old.level
    → Told past (λ now. number_of volume.layout (parts_of volume now) old ≡ Ok zone) → zone ≡ 0 → HasCome old new (old.index + blocks) 3
    → Told past (λ now. rest_of volume.layout (parts_of volume now) old ≡ rest_of volume.layout (parts_of volume now) new)
turn_hole None volume old new blocks zone some more begun are found hole come = tt
turn_hole (Some past) volume old new blocks zone some more begun are found hole come =
    let none : Result ℕ ZoneFault = Ok 0 in
    let is : number_of volume.layout (parts_of volume (now_of past)) old ≡ none = found ∙ ap (λ n. Ok n) hole in
    skip-rest volume.layout (parts_of volume (now_of past)) old new blocks some more begun are is come

pub turn_holes : (past : Option Past) (volume : Volume) (old new : Walk) (count : ℕ) → old.index < old.end → old.level ≡ 0
    → Told past (λ now. number_of volume.layout (parts_of volume now) old ≡ Ok 0)
    → Told past (λ now. AreHoles volume.layout (parts_of volume now) (inode_view old.inode) old.index count)
    → HasCome old new (old.index + max count 1) 3
    → Told past (λ now. rest_of volume.layout (parts_of volume now) old ≡ rest_of volume.layout (parts_of volume now) new)
turn_holes None volume old new count more low hole holes come = tt
turn_holes (Some past) volume old new count more low hole holes come =
    holes-rest volume.layout (parts_of volume (now_of past)) old new count more low hole holes come

pub turn_zone : (past : Option Past) (volume : Volume) (old new : Walk) (zone : ℕ) → old.index < old.end
    → begins (per_of volume.layout) old.index old.level ≡ true
    → Told past (λ now. number_of volume.layout (parts_of volume now) old ≡ Ok zone) → 0 < zone
    → (0 < old.level → HasCome old new old.index (old.level - 1)) → (old.level ≡ 0 → HasCome old new (old.index + 1) 3)
    → Told past (λ now. rest_of volume.layout (parts_of volume now) old ≡ visit_of old zone ∷ rest_of volume.layout (parts_of volume now) new)
turn_zone None volume old new zone more begun is some below behind = tt
turn_zone (Some past) volume old new zone more begun is some below behind =
    visit-by volume.layout (parts_of volume (now_of past)) old new zone more begun is some below behind (level-cases old.level)

pub turn_refused : (past : Option Past) (volume : Volume) (old : Walk) (fault : Fault) (before now : ℕ) → old.index < old.end
    → begins (per_of volume.layout) old.index old.level ≡ true → HasZoneCause before now fault
    → Told past (λ now. Refuses fault (number_of volume.layout (parts_of volume now) old))
    → Told past (λ now. Refused fault (rest_of volume.layout (parts_of volume now) old))
turn_refused None volume old fault before now more begun cause is = tt
turn_refused (Some past) volume old fault before now more begun cause is =
    refused-by volume.layout (parts_of volume (now_of past)) old fault before now more begun cause is

-- a walk that has ended has nothing left
pub ended_rest : (past : Option Past) (volume : Volume) (old new : Walk) → new.end ≤ new.index
    → Told past (λ now. rest_of volume.layout (parts_of volume now) old ≡ rest_of volume.layout (parts_of volume now) new)
    → Told past (λ now. rest_of volume.layout (parts_of volume now) old ≡ [])
unfolding rest_of
ended_rest None volume old new past-end passed = tt
ended_rest (Some past) volume old new past-end passed =
    passed ∙ ap (met_at (stop_number volume.layout (parts_of volume (now_of past)) (inode_view new.inode))) (none_left (per_of volume.layout) new.index new.level new.end past-end)

-- ---- what the code's tests say

-- an indirect zone has numbers
pub per_some : (kind : Kind) → 0 < numbers_in_zone kind
per_some V1Short = lit< tt
per_some V1Long = lit< tt
per_some V2Short = lit< tt
per_some V2Long = lit< tt

-- what is tested of a superblock is so of the same one
pub begins_of : (layout known : SuperOf) (index level : ℕ) (found tested : Bool) → layout ≡ known
    → found ≡ begins (numbers_in_zone (kind_view layout.kind)) index level → found ≡ tested
    → begins (numbers_in_zone (kind_view known.kind)) index level ≡ tested
begins_of layout known index level found tested same is test =
    sym (ap (λ (s : SuperOf). begins (numbers_in_zone (kind_view s.kind)) index level) same) ∙ sym is ∙ test

pub kind_of : (layout known : SuperOf) → layout ≡ known → kind_view layout.kind ≡ kind_view known.kind
kind_of layout known same = ap (λ (s : SuperOf). kind_view s.kind) same

pub blocks_of : (layout known : SuperOf) (level blocks : ℕ) → layout ≡ known → blocks ≡ numbers_in_zone (kind_view layout.kind) ^ level
    → blocks ≡ numbers_in_zone (kind_view known.kind) ^ level
blocks_of layout known level blocks same is =
    is ∙ ap (λ (s : SuperOf). numbers_in_zone (kind_view s.kind) ^ level) same

-- where a walk has come to, from one with the same fields
pub come_from : (known old new : Walk) (index level : ℕ) → old.inode ≡ known.inode → old.end ≡ known.end → HasCome old new index level
    → HasCome known new index level
come_from known old new index level inode end come = record {
  same_inode = come.same_inode ∙ inode;
  same_end = come.same_end ∙ end;
  at_index = come.at_index;
  at_level = come.at_level;
}
