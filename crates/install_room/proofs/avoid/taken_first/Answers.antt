-- The zones are kept out.
use Rattle.std.proofs.Common.{◌≡◌, ◌&&◌, ℕ, nat_lt, ◌∙◌, ap, subst}
use Rattle.minix_steps.specs.Numbers.{has_number}
use Rattle.minix_choice.specs.View.{Promised}
use Rattle.minix_zones.specs.Volume.{volume_view}
use Rattle.install_room.proofs.RoomLemmas.{taken_as_first}
use Rattle.install_room.proofs.avoid.taken_first.Goals as goal

pub returns-clause-taken : goal.returns-clause-taken
returns-clause-taken g c places keeps =
    let first = c.keep_out.new.taken in
    let K : ℕ → Type 0 = λ zones. (zone : ℕ) → has_number first.zones.numbers zone ≡ (nat_lt zone zones && has_number c.args.old.now.met.zones zone) in
    taken_as_first (volume_view c.args.volume.now) places c.args.old.now keeps first
    (subst K (ap (λ (layout : _). layout.zones) c.layout.ensures.value) c.keep_out.ensures.kept)
    (ap (λ (t : Promised). t.inodes.numbers) c.keep_out.ensures.rest ∙ ap (λ (set : _). set.numbers) c.in_ok-taken.ensures.inodes)
    (ap (λ (t : Promised). t.promises) c.keep_out.ensures.rest ∙ c.in_ok-taken.ensures.promises)
    (ap (λ (t : Promised). t.overlooked) c.keep_out.ensures.rest ∙ c.in_ok-taken.ensures.overlooked)
