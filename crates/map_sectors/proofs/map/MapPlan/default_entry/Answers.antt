-- The names are few.
use Rattle.std.proofs.Common.{◌≤◌, ℕ, List, length, sym, subst, ◌∙◌}
use Rattle.map_sectors.proofs.NameLemmas.{few-names}
use Rattle.map_sectors.proofs.map.MapPlan.default_entry.Goals as goal

pub place_of-requires : goal.place_of-requires
place_of-requires c =
    subst (λ (names : List (List ℕ)). length names ≤ 65535) (sym (c.items.ensures ∙ c.names.ensures)) (few-names c.args.self.now)
