use Rattle.std.proofs.Common.{◌≡◌, ℕ, ap, sym, ◌∙◌, arith, List, Result}
use Rattle.lilo_model.specs.MinixLayout.{numbers_in_zone, reach}
use Rattle.lilo_model.specs.MinixWalk.{Stop, Visit, met_at, stop_number, visits}
use Rattle.lilo_model.specs.MinixParts.{ZoneFault}
use Rattle.minix_layout.specs.View.{inode_view}
use Rattle.minix_zones.specs.Walk.{rest_of, stops_left}
use Rattle.minix_zones.proofs.WalkLemmas.{stops_left_by}
use Rattle.minix_zones.proofs.walk.Walk.new.Goals as goal

pub returns : goal.returns
unfolding rest_of visits
returns c super parts same =
    let at : List Stop → List (Result Visit ZoneFault) = λ stops. met_at (stop_number super parts (inode_view c.args.inode.now)) stops in
    let end : ℕ → List Stop = λ count. stops_left (numbers_in_zone super.kind) 0 3 count in
    let e : c.reach.result ≡ reach super.kind = c.reach.ensures ∙ ap reach (sym same) in
    ap (λ count. at (end count)) e ∙ ap at (stops_left_by (numbers_in_zone super.kind) 0 (reach super.kind) (reach super.kind) (omega arith))
