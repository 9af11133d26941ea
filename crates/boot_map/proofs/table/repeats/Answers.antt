-- The first earlier entry of the same name, or that there is none.
use Rattle.std.proofs.Common.{refl, sym, ◌∙◌}
use Rattle.lilo_model.specs.Table.{repeats, same_name}
use Rattle.boot_map.proofs.FirstBelow.{first_below-none, first_below-found}
use Rattle.boot_map.proofs.table.repeats.Goals as goal

pub returns-then-same_name : goal.returns-then-same_name
unfolding repeats
returns-then-same_name c =
    let found = first_below-found (same_name c.args.sectors.now c.args.entry) c.loop-other.other c.args.entry
    c.loop-other.invariant (sym c.same_name.ensures ∙ c.if-same_name.true) c.loop-other-test.true in
    rw found refl

pub loop-other-preserved : goal.loop-other-preserved
loop-other-preserved c =
    first_below-none (same_name c.args.sectors.now c.args.entry) c.loop-other.other
    c.loop-other.invariant (sym c.same_name.ensures ∙ c.if-same_name.false)
