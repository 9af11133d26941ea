-- The device's refusal comes first, then the table's.
use Rattle.std.proofs.Common.{◌≡◌, Ok, Err, rules}
use Rattle.std.specs.Option.{option_map}
use Rattle.mbr_table.specs.View.{device_view}
use Rattle.minix_zones.specs.Volume.{past_of}
use Rattle.slot_lists.specs.Made.{place_view}
use Rattle.map_plan.specs.Devices.{table_planned}
use Rattle.map_plan.specs.Sound.{machine_for}
use Rattle.map_plan.specs.View.{Refuses}
use Rattle.map_plan.proofs.DeviceLemmas.{first-refused, table-refused, system-found}
use Rattle.map_plan.proofs.SoundLemmas.{volume_back}
use Rattle.map_plan.proofs.device.map_system.Goals as goal

pub returns-in_err-first-clause-sectors : goal.returns-in_err-first-clause-sectors
returns-in_err-first-clause-sectors g c =
    let given : c.from_residual.result ≡ Err (c.in_err-first.field-0.0) = search rules in
    rw given
    (first-refused (machine_for c.args.volume.now) (device_view c.args.device) (option_map device_view c.args.table) (past_of c.args.volume.now)
    (c.in_err-first.field-0.0) c.in_err-first.ensures.place)

pub returns-in_err-table-clause-sectors : goal.returns-in_err-table-clause-sectors
returns-in_err-table-clause-sectors g c =
    let given : c.from_residual-in_err-table.result ≡ Err (c.in_err-table.field-0.0) = search rules in
    let refused = volume_back c.args.volume.now c.map_device.new.volume
    (λ volume now machine. Refuses (c.in_err-table.field-0.0) (table_planned now machine (option_map device_view c.args.table)))
    c.map_device.ensures.same c.in_err-table.ensures.place in
    rw given
    (table-refused (machine_for c.args.volume.now) (device_view c.args.device) (option_map device_view c.args.table) (past_of c.args.volume.now)
    (c.in_err-table.field-0.0) (place_view c.in_ok-first.first) c.in_ok-first.ensures.place refused)

pub returns-clause-sectors : goal.returns-clause-sectors
returns-clause-sectors g c =
    let found = volume_back c.args.volume.now c.map_device.new.volume
    (λ volume now machine. table_planned now machine (option_map device_view c.args.table) ≡ Ok (option_map place_view c.in_ok-table.table))
    c.map_device.ensures.same c.in_ok-table.ensures.place in
    system-found (machine_for c.args.volume.now) (device_view c.args.device) (option_map device_view c.args.table) (past_of c.args.volume.now)
    (place_view c.in_ok-first.first) (option_map place_view c.in_ok-table.table) c.in_ok-first.ensures.place found
