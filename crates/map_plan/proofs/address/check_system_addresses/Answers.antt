use Rattle.std.proofs.Common.{◌≡◌, Err, rules}
use Rattle.map_plan.proofs.address.check_system_addresses.Goals as goal

pub returns-in_err-check_place-clause-cause : goal.returns-in_err-check_place-clause-cause
returns-in_err-check_place-clause-cause g c =
    let given : c.from_residual.result ≡ Err (c.in_err-check_place.field-0.0) = search rules in
    rw given c.in_err-check_place.ensures.cause
