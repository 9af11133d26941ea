use Rattle.lilo_model.specs.MinixLayout.{numbers_in_zone}
use Rattle.minix_zones.proofs.PointerLemmas.{stop_for, pointer_has_stop}
use Rattle.minix_zones.proofs.TurnLemmas.{per_some}
use Rattle.minix_zones.proofs.laws.each_pointer_has_a_stop.Goals as goal

pub returns : goal.returns
returns c kind pointer is below =
    let at = pointer_has_stop kind pointer (per_some kind) is below in
    (stop_for (numbers_in_zone kind) pointer, at.0, at.1)
