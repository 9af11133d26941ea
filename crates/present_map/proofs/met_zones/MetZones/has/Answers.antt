-- No zone is past the bound.
use Rattle.std.proofs.Common.{◌≡◌, ◌≤◌, ◌∙◌, ap, sym, Bool, false, arith}
use Rattle.std.specs.Prelude.{nat_lt}
use Rattle.std.proofs.lemmas.Bool.Decides.{nat_tests}
use Rattle.minix_steps.specs.Numbers.{has_number}
use Rattle.present_map.specs.Zones.{Met}
use Rattle.present_map.proofs.NumbersLemmas.{none_above}
use Rattle.present_map.proofs.met_zones.MetZones.has.Goals as goal

pub returns-else-zone-below : goal.returns-else-zone-below
returns-else-zone-below c =
    let held : Met → Bool = λ met. has_number met.zones c.args.zone in
    let past : c.self.inside.zones.below ≤ c.args.zone = omega (arith, c.below.ensures.value, c.if-zone-below.false) in
    let test : nat_lt c.args.zone c.below.result ≡ false = grind (arith, nat_tests, c.if-zone-below.false) in
    test ∙ sym (none_above c.self.inside.zones.numbers c.self.inside.zones.below c.args.zone c.below.ensures.inside past) ∙ ap held c.self.view_is
