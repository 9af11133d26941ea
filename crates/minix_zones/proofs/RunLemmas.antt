-- Holes in a row, by the zeros of one zone of numbers.
use Rattle.std.proofs.Common.{◌≡◌, ◌≤◌, ◌<◌, ◌+◌, ◌*◌, ◌-◌, ◌/◌, ◌%◌, ◌^◌, ℕ, zero, suc, Bool, true, false, nat_lt, Result, Ok, Err, Option, Some, None, refl, sym, ap, ◌∙◌, subst, arith}
use Rattle.std.specs.Prelude.{slice_index, IfOk, IfErr}
use Rattle.std.proofs.lemmas.Bool.{ltb-true, ltb-false}
use Rattle.std.proofs.lemmas.Bool.Decides.{nat_tests}
use Rattle.std.proofs.lemmas.Nat.{div-mul-add, mod-mul-add, div-add-mod'}
use Rattle.std.proofs.Math.Nat.{pow-zero, div-one, mul-mod_left}
use Rattle.std.proofs.lemmas.Nat.{mod_below}
use Rattle.disk_trait.specs.Past.{Past, Told, now_of}
use Rattle.disk_trait.specs.declared.disks.Disks.{Ghosts}
use Rattle.lilo_model.specs.Faults.{Rose}
use Rattle.lilo_model.specs.Checks.{◌>>=◌}
use Rattle.lilo_model.specs.MinixLayout.{Super, Inode, numbers_in_zone}
use Rattle.lilo_model.specs.MinixParts.{Volume, Parts, ZoneFault, follow_at, trail_of, inside, number_below, parts_of}
use Rattle.lilo_model.specs.MinixWalk.{Branch, branch_of, place_in_branch, begins, stop_pointer, stop_number}
use Rattle.minix_zones.specs.View.{Refuses}
use Rattle.minix_layout.specs.View.{kind_view}
use Rattle.minix_layout.specs.declared.superblock.Super.{Super as SuperOf}
use Rattle.minix_zones.specs.Held.{AreZeros, AreHoles, FindsHoles}
use Rattle.minix_zones.specs.Volume.{volume_view, past_of, SameVolume}
use Rattle.minix_zones.specs.declared.volume.Volume.{Volume as VolumeOf}
use Rattle.minix_zones.specs.declared.zone_fault.ZoneFault.{ZoneFault as Fault}
use Rattle.minix_zones.specs.declared.zone_fault.ZoneFault.TheVariants as faults
use Rattle.minix_zones.proofs.BranchLemmas.{branch_direct, branch_single, branch_double, branch_triple, first_below, same_branch, one}
use Rattle.minix_zones.proofs.WalkLemmas.{per_of, behind-first}
use Rattle.minix_zones.proofs.SameLemmas.{told_back}
use Rattle.minix_zones.proofs.TurnLemmas.{per_some}
use Rattle.minix_zones.proofs.ZoneLemmas.{follow_at_below}

-- ---- the blocks whose numbers are in one zone

back-by : (per index next : ℕ) (direct single double : Bool) → nat_lt index 7 ≡ direct → nat_lt index (7 + per) ≡ single → nat_lt index (7 + per + per * per) ≡ double
    → (branch_of per index).first ≤ next → next ≤ index → branch_of per next ≡ branch_of per index
back-by per index next true single double d s e from upto =
    let is = branch_direct per index (ltb-true index 7 d) in
    let least : index ≤ next = subst (λ (b : Branch). b.first ≤ next) is from in
    let same : next ≡ index = omega arith in
    ap (branch_of per) same
back-by per index next false true double d s e from upto =
    let below : index < 7 + per = ltb-true index (7 + per) s in
    let is = branch_single per index (ltb-false index 7 d) below in
    let least : 7 ≤ next = subst (λ (b : Branch). b.first ≤ next) is from in
    branch_single per next least (omega arith) ∙ sym is
back-by per index next false false true d s e from upto =
    let below : index < 7 + per + per * per = ltb-true index (7 + per + per * per) e in
    let is = branch_double per index (ltb-false index (7 + per) s) below in
    let least : 7 + per ≤ next = subst (λ (b : Branch). b.first ≤ next) is from in
    branch_double per next least (omega arith) ∙ sym is
back-by per index next false false false d s e from upto =
    let is = branch_triple per index (ltb-false index (7 + per + per * per) e) in
    let least : 7 + per + per * per ≤ next = subst (λ (b : Branch). b.first ≤ next) is from in
    branch_triple per next least ∙ sym is

-- a block between the first one of a branch and another one of it is in that branch
back_branch : (per index next : ℕ) → (branch_of per index).first ≤ next → next ≤ index → branch_of per next ≡ branch_of per index
back_branch per index next =
    back-by per index next (nat_lt index 7) (nat_lt index (7 + per)) (nat_lt index (7 + per + per * per)) refl refl refl

-- the first block whose number is in one zone with that of another one
abbrev row_start : ℕ → ℕ → ℕ
row_start per index = index - place_in_branch per index % per

-- it isn't before the branch
row_from : (per index : ℕ) → (branch_of per index).first ≤ row_start per index
row_from per index =
    let first = first_below per index in
    omega (arith, div-add-mod' (place_in_branch per index) per, first)

row_branch : (per index : ℕ) → branch_of per (row_start per index) ≡ branch_of per index
row_branch per index = back_branch per index (row_start per index) (row_from per index) (omega arith)

row_begins : (per index : ℕ) → 0 < (branch_of per index).depth → begins per (row_start per index) 1 ≡ true
unfolding begins
row_begins per index deep =
    let start = row_start per index in
    let branch = row_branch per index in
    let at : place_in_branch per start ≡ place_in_branch per index / per * per =
    ap (λ (b : Branch). start - b.first) branch ∙ omega (arith, div-add-mod' (place_in_branch per index) per, first_below per index) in
    let whole : place_in_branch per start % per ^ 1 ≡ 0 =
    ap (λ n. place_in_branch per start % n) (one per) ∙ ap (λ n. n % per) at ∙ mul-mod_left (place_in_branch per index / per) per in
    let high : 1 ≤ (branch_of per start).depth = subst (λ (b : Branch). 1 ≤ b.depth) (sym branch) deep in
    grind (arith, nat_tests, whole, high)

-- so is a later one whose number is in that zone
same_row : (per index next : ℕ) → 0 < per → 0 < (branch_of per index).depth → index ≤ next → place_in_branch per index % per + (next - index) < per
    → branch_of per next ≡ branch_of per index
same_row per index next some deep after near =
    same_branch per (row_start per index) 1 next some (row_begins per index deep) (omega arith)
    (omega (arith, one per, row_from per index, first_below per index, div-add-mod' (place_in_branch per index) per))
    ∙ row_branch per index

-- and no other stop than its own comes at it
alone_in_row : (per index next level : ℕ) → 0 < per → 0 < (branch_of per index).depth → index < next → place_in_branch per index % per + (next - index) < per
    → begins per next level ≡ true → level ≡ 0
alone_in_row per index next zero some deep after near begun = refl
alone_in_row per index next (suc level) some deep after near begun =
    absurd (behind-first per (row_start per index) 1 next (suc level) some (row_begins per index deep) (omega arith)
    (omega (arith, one per, row_from per index, first_below per index, div-add-mod' (place_in_branch per index) per))
    begun (omega arith))

-- ---- their numbers

-- no block is passed
pub no_holes : (super : Super) (parts : Parts) (inode : Inode) (index : ℕ) → AreHoles super parts inode index 0
no_holes super parts inode index = record {
  hole = λ next from near. absurd (omega arith);
  alone = λ next level after near begun. absurd (omega arith);
}

module _ (super : Super) (parts : Parts) (inode : Inode) (index top place depth : ℕ)
    (is : branch_of (per_of super) index ≡ record { top = top; first = index - place; depth = depth }) (within : place ≤ index) (deep : 0 < depth) where
  -- what the way down to the zone with the number of a block gives
  abbrev above_of : Result ℕ ZoneFault
  above_of = follow_at super parts.zone (slice_index inode.zones top) (trail_of (per_of super) (depth - 1) (place / per_of super))

  -- a number in the zone with that of the block
  abbrev number_in_row : ℕ → Result ℕ ZoneFault
  number_in_row k = above_of >>= λ above. inside super (number_below super.kind parts.zone above (place % per_of super + k))

  deep-branch : 0 < (branch_of (per_of super) index).depth
  deep-branch = subst (λ (b : Branch). 0 < b.depth) (sym is) deep

  place-is : place_in_branch (per_of super) index ≡ place
  place-is = ap (λ (b : Branch). index - b.first) is ∙ omega arith

  module _ (some : 0 < per_of super) where
    number_there : (next : ℕ) → index ≤ next → place % per_of super + (next - index) < per_of super
        → stop_number super parts inode (record { index = next; level = 0 }) ≡ number_in_row (next - index)
    unfolding stop_pointer
    number_there next after near =
        let per = per_of super in
        let near_branch : place_in_branch per index % per + (next - index) < per = subst (λ n. n % per + (next - index) < per) (sym place-is) near in
        let branch = same_row per index next some deep-branch after near_branch ∙ is in
        let split : next - (index - place) ≡ place / per * per + (place % per + (next - index)) = omega (arith, div-add-mod' place per, within, after) in
        let over : (next - (index - place)) / per ≡ place / per = ap (λ n. n / per) split ∙ div-mul-add (place / per) per (place % per + (next - index)) near in
        let left : (next - (index - place)) % per ≡ place % per + (next - index) = ap (λ n. n % per) split ∙ mod-mul-add (place / per) per (place % per + (next - index)) near in
        let at : (next - (index - place)) / per ^ 0 ≡ next - (index - place) = ap (λ n. (next - (index - place)) / n) (pow-zero per) ∙ div-one (next - (index - place)) in
        let high : depth - 0 ≡ depth = omega arith in
        let top_number = slice_index inode.zones top in
        ap (λ (b : Branch). follow_at super parts.zone (slice_index inode.zones b.top) (trail_of per (b.depth - 0) ((next - b.first) / per ^ 0))) branch
        ∙ ap (λ n. follow_at super parts.zone top_number (trail_of per n ((next - (index - place)) / per ^ 0))) high
        ∙ ap (λ n. follow_at super parts.zone top_number (trail_of per depth n)) at
        ∙ follow_at_below super parts.zone top_number per depth (next - (index - place)) deep
        ∙ ap (λ n. follow_at super parts.zone top_number (trail_of per (depth - 1) n) >>= λ above. inside super (number_below super.kind parts.zone above ((next - (index - place)) % per))) over
        ∙ ap (λ n. above_of >>= λ above. inside super (number_below super.kind parts.zone above n)) left

    zero_number : (above k : ℕ) → above_of ≡ Ok above → number_below super.kind parts.zone above (place % per_of super + k) ≡ 0 → number_in_row k ≡ Ok 0
    unfolding inside
    zero_number above k found nothing =
        ap (λ (at : Result ℕ ZoneFault). at >>= λ above. inside super (number_below super.kind parts.zone above (place % per_of super + k))) found
        ∙ ap (inside super) nothing

    pub row_holes : (above count : ℕ) → above_of ≡ Ok above → AreZeros super.kind parts.zone above (place % per_of super) count
        → place % per_of super + count ≤ per_of super → AreHoles super parts inode index count
    row_holes above count found zeros few = record {
      hole = λ next from near.
          number_there next from (omega arith) ∙ zero_number above (next - index) found (zeros (next - index) (omega arith));
      alone = λ next level after near begun.
          let per = per_of super in
          let near_branch : place_in_branch per index % per + (next - index) < per = subst (λ n. n % per + (next - index) < per) (sym place-is) (omega arith) in
          alone_in_row per index next level some deep-branch after near_branch begun;
    }

    refused-then : (fault : Fault) (found : Result ℕ ZoneFault) (next : ℕ → Result ℕ ZoneFault) → Refuses fault found → Refuses fault (found >>= next)
    refused-then (faults.Layout fault) found next refused = ap (λ (at : Result ℕ ZoneFault). at >>= next) refused
    refused-then (faults.ZoneOutside zone) found next refused = ap (λ (at : Result ℕ ZoneFault). at >>= next) refused
    refused-then faults.Device found next refused = tt

    pub row_refused : (fault : Fault) → place % per_of super < per_of super → Refuses fault above_of
        → Refuses fault (stop_number super parts inode (record { index = index; level = 0 }))
    row_refused fault inside_row refused =
        subst (Refuses fault) (sym (number_there index (omega arith) (omega arith)))
        (refused-then fault above_of (λ above. inside super (number_below super.kind parts.zone above (place % per_of super + (index - index)))) refused)

-- ---- the same where the past is told

pub finds_holes : (past : Option Past) (volume : Volume) (inode : Inode) (index top place depth above per before after : ℕ) (result : Result ℕ Fault)
    → branch_of (per_of volume.layout) index ≡ record { top = top; first = index - place; depth = depth } → place ≤ index → 0 < depth → per ≡ per_of volume.layout
    → Told past (λ now. follow_at volume.layout (parts_of volume now).zone (slice_index inode.zones top) (trail_of (per_of volume.layout) (depth - 1) (place / per)) ≡ Ok above)
    → IfOk result (λ count. Told past (λ now. AreZeros volume.layout.kind (parts_of volume now).zone above (place % per) count))
    → IfOk result (λ count. place % per + count ≤ per_of volume.layout)
    → IfErr result (λ fault. (fault ≡ faults.Device) × Rose before after)
    → Told past (λ now. FindsHoles result volume.layout (parts_of volume now) inode index)
finds_holes None volume inode index top place depth above per before after result is within deep same found zeros few device = tt
finds_holes (Some past) volume inode index top place depth above per before after (Ok count) is within deep same found zeros few device =
    let parts = parts_of volume (now_of past) in
    row_holes volume.layout parts inode index top place depth is within deep (per_some volume.layout.kind) above count
    (subst (λ n. follow_at volume.layout parts.zone (slice_index inode.zones top) (trail_of (per_of volume.layout) (depth - 1) (place / n)) ≡ Ok above) same found)
    (subst (λ n. AreZeros volume.layout.kind parts.zone above (place % n) count) same zeros)
    (subst (λ n. place % n + count ≤ per_of volume.layout) same few)
finds_holes (Some past) volume inode index top place depth above per before after (Err fault) is within deep same found zeros few device =
    subst (λ (f : Fault). Refuses f (stop_number volume.layout (parts_of volume (now_of past)) inode (record { index = index; level = 0 }))) (sym device.0) tt

pub no_holes_told : (past : Option Past) (volume : Volume) (inode : Inode) (index : ℕ)
    → Told past (λ now. AreHoles volume.layout (parts_of volume now) inode index 0)
no_holes_told None volume inode index = tt
no_holes_told (Some past) volume inode index = no_holes volume.layout (parts_of volume (now_of past)) inode index

pub refuses_first : (past : Option Past) (volume : Volume) (inode : Inode) (index top place depth per : ℕ) (fault : Fault)
    → branch_of (per_of volume.layout) index ≡ record { top = top; first = index - place; depth = depth } → place ≤ index → 0 < depth → per ≡ per_of volume.layout
    → Told past (λ now. Refuses fault (follow_at volume.layout (parts_of volume now).zone (slice_index inode.zones top) (trail_of (per_of volume.layout) (depth - 1) (place / per))))
    → Told past (λ now. Refuses fault (stop_number volume.layout (parts_of volume now) inode (record { index = index; level = 0 })))
refuses_first None volume inode index top place depth per fault is within deep same refused = tt
refuses_first (Some past) volume inode index top place depth per fault is within deep same refused =
    let parts = parts_of volume (now_of past) in
    row_refused volume.layout parts inode index top place depth is within deep (per_some volume.layout.kind) fault (mod_below place (per_of volume.layout) (per_some volume.layout.kind))
    (subst (λ n. Refuses fault (follow_at volume.layout parts.zone (slice_index inode.zones top) (trail_of (per_of volume.layout) (depth - 1) (place / n)))) same refused)

-- ---- what the code's tests say

-- what is computed of a superblock is so of the same one
pub branch_at : (layout known : SuperOf) (index : ℕ) (branch : Branch) → layout ≡ known
    → branch_of (numbers_in_zone (kind_view layout.kind)) index ≡ branch → branch_of (numbers_in_zone (kind_view known.kind)) index ≡ branch
branch_at layout known index branch same is = subst (λ (s : SuperOf). branch_of (numbers_in_zone (kind_view s.kind)) index ≡ branch) same is

pub per_at : (layout known : SuperOf) (per : ℕ) → layout ≡ known → per ≡ numbers_in_zone (kind_view layout.kind) → per ≡ numbers_in_zone (kind_view known.kind)
per_at layout known per same is = subst (λ (s : SuperOf). per ≡ numbers_in_zone (kind_view s.kind)) same is

pub few_at : (layout known : SuperOf) (index : ℕ) (result : Result ℕ Fault) → layout ≡ known
    → IfOk result (λ count. index + count ≤ numbers_in_zone (kind_view layout.kind)) → IfOk result (λ count. index + count ≤ numbers_in_zone (kind_view known.kind))
few_at layout known index result same is = subst (λ (s : SuperOf). IfOk result (λ count. index + count ≤ numbers_in_zone (kind_view s.kind))) same is

-- zeros that were found after a call that changed nothing were there before it
pub zeros_back : {D : Type 0} {disks : Ghosts D} (old mid : VolumeOf D disks) (above index : ℕ) (result : Result ℕ Fault) → SameVolume old mid
    → IfOk result (λ count. Told (past_of mid) (λ now. AreZeros (kind_view mid.layout.kind) (parts_of (volume_view mid) now).zone above index count))
    → IfOk result (λ count. Told (past_of old) (λ now. AreZeros (kind_view old.layout.kind) (parts_of (volume_view old) now).zone above index count))
zeros_back old mid above index (Ok count) same told =
    told_back old mid (λ view now. AreZeros view.layout.kind (parts_of view now).zone above index count) same told
zeros_back old mid above index (Err fault) same told = tt
