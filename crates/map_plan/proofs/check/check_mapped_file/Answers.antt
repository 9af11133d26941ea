-- What was counted decides.
use Rattle.std.proofs.Common.{◌≤◌, Some, ap, arith}
use Rattle.sector_address.specs.View.{geometry_view, address_fault_view}
use Rattle.conf_settings.specs.View.{opt_view}
use Rattle.map_plan.proofs.CheckLemmas.{file-few, file-many, file-unnamed}
use Rattle.map_plan.proofs.check.check_mapped_file.Goals as goal

pub returns-then-count-gt-MOST_SLOTS-clause-decided : goal.returns-then-count-gt-MOST_SLOTS-clause-decided
returns-then-count-gt-MOST_SLOTS-clause-decided c config machine size named on =
    ap Some (file-many c.args.naming config machine (geometry_view c.args.naming.geometry) (opt_view c.args.option) size c.args.runs.now named on c.in-Ok.count c.in-Ok.ensures c.if-count-gt-MOST_SLOTS.true)

pub returns-else-count-gt-MOST_SLOTS-clause-decided : goal.returns-else-count-gt-MOST_SLOTS-clause-decided
returns-else-count-gt-MOST_SLOTS-clause-decided c config machine size named on =
    let few : c.in-Ok.count ≤ 4128705 = omega (arith, c.if-count-gt-MOST_SLOTS.false) in
    file-few c.args.naming config machine (geometry_view c.args.naming.geometry) (opt_view c.args.option) size c.args.runs.now named on c.in-Ok.count c.in-Ok.ensures few

pub returns-in-Err-clause-decided : goal.returns-in-Err-clause-decided
returns-in-Err-clause-decided c config machine size named on =
    ap Some (file-unnamed c.args.naming config machine (geometry_view c.args.naming.geometry) (opt_view c.args.option) size c.args.runs.now named on (address_fault_view c.in-Err.fault) c.in-Err.ensures)
