-- The names are few.
use Rattle.std.proofs.Common.{◌≡◌, ◌≤◌, length, sym, ap, subst, ◌∙◌, arith}
use Rattle.map_sectors.specs.Map.{plan_view}
use Rattle.lilo_model.specs.Plan.{plan_names}
use Rattle.map_sectors.proofs.NameLemmas.{few-names}
use Rattle.map_sectors.proofs.map.MapPlan.name_count.Goals as goal

pub overflow_cast-items : goal.overflow_cast-items
overflow_cast-items c =
    let same = ap length (c.items.ensures ∙ c.names.ensures) in
    let few = few-names c.args.self.now in
    omega (arith, same, few)

pub returns : goal.returns
returns c machine fits =
    let same : length c.items.result.now ≡ length (plan_names (plan_view c.args.self.now)) = ap length (c.items.ensures ∙ c.names.ensures) in
    c.capped.ensures (subst (λ n. n ≤ 65535) (sym same) (few-names c.args.self.now)) ∙ same
