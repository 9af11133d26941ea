-- One zone more.
use Rattle.std.proofs.Common.{◌∙◌, ap, List, ℕ}
use Rattle.lilo_model.specs.MinixParts.{Volume}
use Rattle.minix_steps.specs.Numbers.{Numbers, with_number}
use Rattle.slot_lists.specs.Made.{place_view}
use Rattle.present_map.specs.Zones.{Met}
use Rattle.present_map.proofs.ZonesLemmas.{meets_one}
use Rattle.present_map.proofs.met_zones.MetZones.meet.Goals as goal

pub returns-in-Some : goal.returns-in-Some
returns-in-Some c =
    let volume_of : Met → Volume = λ met. met.volume in
    let zones_of : Met → List ℕ = λ met. with_number met.zones c.in-Some.zone in
    let numbers_of : Numbers → List ℕ = λ set. set.numbers in
    meets_one c.args.self.now _ (place_view c.args.place) c.in-Some.zone c.in-Some.ensures.zone (ap volume_of c.self.view_is)
    (ap numbers_of c.add.ensures.added ∙ ap zones_of c.self.view_is)
