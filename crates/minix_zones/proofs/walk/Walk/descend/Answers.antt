-- No stop is passed where a walk goes down.
use Rattle.std.proofs.Common.{◌≡◌, ◌<◌, ◌∙◌, ℕ, false, refl, sym, ap, arith}
use Rattle.lilo_model.specs.MinixLayout.{numbers_in_zone}
use Rattle.lilo_model.specs.MinixWalk.{begins}
use Rattle.minix_layout.specs.View.{kind_view}
use Rattle.minix_zones.proofs.WalkLemmas.{lower_level}
use Rattle.minix_zones.proofs.TurnLemmas.{descend_rest, lowest_rest}
use Rattle.minix_zones.proofs.walk.Walk.descend.Goals as goal

-- where nothing begins, it is above a block
above : (per index level : ℕ) → begins per index level ≡ false → 0 < level
above per index level none = (lower_level per index level 0 none).0

pub lower-requires : goal.lower-requires
lower-requires c = above _ _ _ c.requires.none

pub returns-then-begins-clause-rest : goal.returns-then-begins-clause-rest
returns-then-begins-clause-rest c super parts is =
    descend_rest super parts c.args.self.now c.lower.new.self (numbers_in_zone (kind_view c.args.kind)) (ap numbers_in_zone (sym is)) c.requires.none c.lower.ensures

pub returns-then-begins-clause-lower : goal.returns-then-begins-clause-lower
returns-then-begins-clause-lower c =
    let some = above _ _ _ c.requires.none in
    let at = c.lower.ensures.at_level in
    omega (arith, some, at)

pub returns-else-begins-clause-rest : goal.returns-else-begins-clause-rest
returns-else-begins-clause-rest c super parts is =
    lowest_rest super parts c.args.self.now _ (numbers_in_zone (kind_view c.args.kind)) (ap numbers_in_zone (sym is)) (sym c.begins.ensures ∙ c.if-begins.false)
    (record { same_inode = refl; same_end = refl; at_index = refl; at_level = refl })

pub returns-else-begins-clause-lower : goal.returns-else-begins-clause-lower
returns-else-begins-clause-lower c = above _ _ _ c.requires.none
