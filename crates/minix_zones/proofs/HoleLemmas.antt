-- Below a hole there are holes.
use Rattle.std.proofs.Common.{◌≡◌, ◌≤◌, ◌<◌, ◌+◌, ◌-◌, ◌/◌, ◌%◌, ◌^◌, ℕ, zero, suc, true, List, Result, Ok, sym, ap, ◌∙◌, subst, arith}
use Rattle.std.specs.Prelude.{slice_index}
use Rattle.std.proofs.Math.Nat.{pow-zero, div-one}
use Rattle.lilo_model.specs.Checks.{◌>>=◌}
use Rattle.lilo_model.specs.MinixLayout.{Super, Inode, numbers_in_zone}
use Rattle.lilo_model.specs.MinixParts.{Parts, ZoneFault, follow_at, trail_of, inside, number_below}
use Rattle.lilo_model.specs.MinixWalk.{Branch, branch_of, begins, stop_pointer, stop_number}
use Rattle.minix_zones.proofs.QuotientLemmas.{same_quotient, power_quotient, step_quotient}
use Rattle.minix_zones.proofs.BranchLemmas.{same_branch, first_below, begins_within, begins_whole}

-- one number below a hole
below-hole : (super : Super) (bytes_of : ℕ → List ℕ) (index : ℕ) (above : Result ℕ ZoneFault) → above ≡ Ok 0
    → (above >>= λ zone. inside super (number_below super.kind bytes_of zone index)) ≡ Ok 0
unfolding inside
below-hole super bytes_of index above hole =
    ap (λ (found : Result ℕ ZoneFault). found >>= λ zone. inside super (number_below super.kind bytes_of zone index)) hole

-- the numbers some levels below a hole
pub follow_hole : (super : Super) (bytes_of : ℕ → List ℕ) (zone per above more place : ℕ)
    → follow_at super bytes_of zone (trail_of per above (place / per ^ more)) ≡ Ok 0
    → follow_at super bytes_of zone (trail_of per (above + more) place) ≡ Ok 0
unfolding follow_at
follow_hole super bytes_of zone per above zero place hole =
    let at : place / per ^ 0 ≡ place = ap (λ n. place / n) (pow-zero per) ∙ div-one place in
    let deep : above + 0 ≡ above = omega arith in
    rw deep (subst (λ n. follow_at super bytes_of zone (trail_of per above n) ≡ Ok 0) at hole)
follow_hole super bytes_of zone per above (suc more) place hole =
    let deep : above + suc more ≡ suc (above + more) = omega arith in
    let upper = follow_hole super bytes_of zone per above more (place / per)
    (subst (λ n. follow_at super bytes_of zone (trail_of per above n) ≡ Ok 0) (sym (step_quotient per place more)) hole) in
    rw deep (below-hole super bytes_of (place % per) (follow_at super bytes_of zone (trail_of per (above + more) (place / per))) upper)

-- what is at the stops below one that is a hole
pub hole_below : (super : Super) (parts : Parts) (inode : Inode) (per index level next lower : ℕ)
    → per ≡ numbers_in_zone super.kind → 0 < per → begins per index level ≡ true → lower ≤ level → index ≤ next → next < index + per ^ level
    → stop_number super parts inode (record { index = index; level = level }) ≡ Ok 0
    → stop_number super parts inode (record { index = next; level = lower }) ≡ Ok 0
unfolding stop_pointer
hole_below super parts inode per index level next lower is some begun under after near hole =
    let branch = branch_of per index in
    let deep : branch.depth - lower ≡ (branch.depth - level) + (level - lower) = omega (arith, begins_within per index level begun) in
    let first = first_below per index in
    let near_place : next - branch.first < index - branch.first + per ^ level = omega arith in
    let place : (next - branch.first) / per ^ lower / per ^ (level - lower) ≡ (index - branch.first) / per ^ level =
    power_quotient per (next - branch.first) lower level under
    ∙ same_quotient (index - branch.first) (next - branch.first) (per ^ level) (begins_whole per index level begun) (omega arith) near_place in
    let top = slice_index inode.zones branch.top in
    let hole_here : follow_at super parts.zone top (trail_of per (branch.depth - level) ((index - branch.first) / per ^ level)) ≡ Ok 0 =
    subst (λ n. follow_at super parts.zone (slice_index inode.zones (branch_of n index).top) (trail_of n ((branch_of n index).depth - level) ((index - (branch_of n index).first) / n ^ level)) ≡ Ok 0) (sym is) hole in
    let low : follow_at super parts.zone top (trail_of per (branch.depth - lower) ((next - branch.first) / per ^ lower)) ≡ Ok 0 =
    rw deep (follow_hole super parts.zone top per (branch.depth - level) (level - lower) ((next - branch.first) / per ^ lower)
    (subst (λ n. follow_at super parts.zone top (trail_of per (branch.depth - level) n) ≡ Ok 0) (sym place) hole_here)) in
    let low_next : follow_at super parts.zone (slice_index inode.zones (branch_of per next).top) (trail_of per ((branch_of per next).depth - lower) ((next - (branch_of per next).first) / per ^ lower)) ≡ Ok 0 =
    subst (λ (b : Branch). follow_at super parts.zone (slice_index inode.zones b.top) (trail_of per (b.depth - lower) ((next - b.first) / per ^ lower)) ≡ Ok 0)
    (sym (same_branch per index level next some begun after near)) low in
    subst (λ n. follow_at super parts.zone (slice_index inode.zones (branch_of n next).top) (trail_of n ((branch_of n next).depth - lower) ((next - (branch_of n next).first) / n ^ lower)) ≡ Ok 0) is low_next
