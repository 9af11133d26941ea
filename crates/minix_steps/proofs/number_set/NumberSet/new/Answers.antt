use Rattle.std.proofs.Common.{◌≤◌, ◌*◌, arith}
use Rattle.minix_steps.proofs.SetLemmas.{set_empty}
use Rattle.minix_steps.proofs.number_set.NumberSet.new.Goals as goal

pub returns : goal.returns
returns c =
    let fits : c.args.below ≤ 8 * c.div_ceil.result = omega (arith, c.div_ceil.ensures) in
    set_empty c.in_ok-bytes.bytes.items c.div_ceil.result c.args.below (c.in_ok-bytes.ensures.items_if_clones_equal (λ y is. is)) fits
