use Rattle.std.proofs.Common.{rules, ◌≡◌, ◌-◌, ℕ, suc, Err, sym, ap, subst, refl, arith}
use Rattle.std.specs.Prelude.{slice_index}
use Rattle.lilo_model.specs.MinixLayout.{numbers_in_zone}
use Rattle.lilo_model.specs.MinixWalk.{Branch, branch_of}
use Rattle.minix_layout.specs.View.{kind_view, super_view, inode_view}
use Rattle.minix_layout.specs.declared.superblock.Super.{Super}
use Rattle.minix_steps.specs.Written.{parts_now}
use Rattle.minix_zones.specs.View.{IsInside}
use Rattle.minix_grow.specs.Way.{depth_of, index_above, number_on_way}
use Rattle.minix_grow.proofs.LowestLemmas.{first_number, first_refused, lower_number, lower_refused, data_of, same_self, same_join}
use Rattle.minix_grow.proofs.way.lowest_on_way.Goals as goal

pub returns-in_err-number-clause-refused : goal.returns-in_err-number-clause-refused
returns-in_err-number-clause-refused g c told =
    let old = c.args.volume.now in
    let node = inode_view c.args.node.now in
    let branch : branch_of (numbers_in_zone (kind_view old.layout.kind)) c.args.block ≡ record { top = c.branch_of-branch.result.top; first = c.branch_of-branch.result.first; depth = c.branch_of-branch.result.depth } =
    rw c.layout.ensures.value at c.branch_of-branch.ensures.branch in
    let top : slice_index node.zones c.branch_of-branch.result.top ≡ slice_index node.zones (branch_of (numbers_in_zone (kind_view old.layout.kind)) c.args.block).top = ap (λ (b : Branch). slice_index node.zones b.top) (sym branch) in
    let fault = c.in_err-number.field-0.0 in
    let is : c.from_residual.result ≡ Err fault = search rules in
    let refused = rw c.layout-2.ensures.value at c.in_err-number.ensures.found in
    rw is (first_refused old node c.args.block (slice_index node.zones c.branch_of-branch.result.top) top fault refused)

pub loop-level-init : goal.loop-level-init
loop-level-init g c =
    let old = c.args.volume.now in
    let node = inode_view c.args.node.now in
    let branch : branch_of (numbers_in_zone (kind_view old.layout.kind)) c.args.block ≡ record { top = c.branch_of-branch.result.top; first = c.branch_of-branch.result.first; depth = c.branch_of-branch.result.depth } =
    rw c.layout.ensures.value at c.branch_of-branch.ensures.branch in
    let top : slice_index node.zones c.branch_of-branch.result.top ≡ slice_index node.zones (branch_of (numbers_in_zone (kind_view old.layout.kind)) c.args.block).top = ap (λ (b : Branch). slice_index node.zones b.top) (sym branch) in
    let depth : depth_of (kind_view old.layout.kind) c.args.block ≡ c.branch_of-branch.result.depth = ap (λ (b : Branch). b.depth) branch in
    let N : ℕ → Type 0 = λ l. number_on_way (super_view old.layout) (parts_now old) node c.args.block l ≡ c.in_ok-number.number in
    record {
      low = omega (arith, depth);
      here = λ told. subst N depth (first_number old node c.args.block (slice_index node.zones c.branch_of-branch.result.top) top c.in_ok-number.number (rw c.layout-2.ensures.value at c.in_ok-number.ensures.found));
      inside = rw c.layout-2.ensures.value at c.in_ok-number.ensures.inside;
      over = λ below. absurd (omega (arith, depth, below));
      over_data = λ below. absurd (omega (arith, depth, below));
      none = λ high. refl;
      later = omega arith;
      same = same_self old;
    }

pub returns-in_err-number-2-clause-refused : goal.returns-in_err-number-2-clause-refused
returns-in_err-number-2-clause-refused g c told =
    let old = c.args.volume.now in
    let inv = c.loop-level.invariant in
    let test = c.loop-level-test.true in
    let one : c.loop-level.level ≡ suc (c.loop-level.level - 1) = omega (arith, test) in
    let index : c.index_above.result ≡ index_above (kind_view old.layout.kind) c.args.block (c.loop-level.level - 1) = rw c.layout.ensures.value at c.index_above.ensures.is in
    let fault = c.in_err-number-2.field-0.0 in
    let is : c.from_residual-in_err-number-2.result ≡ Err fault = search rules in
    rw is
    (lower_refused old c.loop-level.volume inv.same (inode_view c.args.node.now) c.args.block c.loop-level.level (c.loop-level.level - 1) c.loop-level.number c.index_above.result one inv.low inv.here index
    fault c.in_err-number-2.ensures.number told)

pub loop-level-preserved : goal.loop-level-preserved
loop-level-preserved g c =
    let old = c.args.volume.now in
    let mid = c.loop-level.volume in
    let node = inode_view c.args.node.now in
    let inv = c.loop-level.invariant in
    let test = c.loop-level-test.true in
    let few = inv.low in
    let one : c.loop-level.level ≡ suc (c.loop-level.level - 1) = omega (arith, test) in
    let index : c.index_above.result ≡ index_above (kind_view old.layout.kind) c.args.block (c.loop-level.level - 1) = rw c.layout.ensures.value at c.index_above.ensures.is in
    let N : ℕ → Type 0 = λ l. number_on_way (super_view old.layout) (parts_now old) node c.args.block l ≡ c.loop-level.number in
    let L : Super → Type 0 = λ l. IsInside l c.in_ok-number-2.number in
    record {
      low = omega (arith, few);
      here = lower_number old mid inv.same node c.args.block c.loop-level.level (c.loop-level.level - 1) c.loop-level.number c.index_above.result one inv.low inv.here index c.in_ok-number-2.number c.in_ok-number-2.ensures.number;
      inside = subst L inv.same.same_layout c.in_ok-number-2.ensures.inside;
      over = λ below told. subst N one (inv.here told);
      over_data = λ below. data_of old.layout c.loop-level.number inv.inside c.if-number-ne0.true;
      none = λ high. absurd (omega (arith, few, high, test));
      later = let a = inv.later in let b = c.number_below.ensures.later in omega (arith, a, b);
      same = same_join old mid c.number_below.new.volume inv.same c.number_below.ensures.same;
    }
