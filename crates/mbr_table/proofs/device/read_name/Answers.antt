-- A name is read part by part, and each part has one reading.
use Rattle.std.proofs.Common.{◌≡◌, sym, ap, ◌∙◌, arith}
use Rattle.std.specs.Prelude.{Some}
use Rattle.lilo_model.specs.Devices.{Device, IsDevice, last_partition}
use Rattle.mbr_table.specs.Names.{partition_at}
use Rattle.mbr_table.proofs.NameLemmas.{parts_of, device_name-from_parts, partition_at-rest}
use Rattle.mbr_table.proofs.DeviceLemmas.{device_with, some_not_none, some_number, device_at-none, device_at-device_name}
use Rattle.mbr_table.proofs.device.read_name.Goals as goal

pub returns-then-name-lt8 : goal.returns-then-name-lt8
returns-then-name-lt8 c = sym (device_at-none c.args.name.now (λ device is named.
    let parts = parts_of c.args.name.now device is named in omega (arith, parts.len)))

pub returns-in_err-disk : goal.returns-in_err-disk
returns-in_err-disk c =
    let none = device_at-none c.args.name.now (λ device is named.
    let parts = parts_of c.args.name.now device is named in
    some_not_none device.disk (sym c.in_err-disk.was ∙ c.disk_of.ensures.every device.disk is.disk parts.disk)) in
    search (c.from_residual.ensures, none)

pub returns-in_err-partition : goal.returns-in_err-partition
returns-in_err-partition c =
    let none = device_at-none c.args.name.now (λ device is named.
    let parts = parts_of c.args.name.now device is named in
    let read = c.partition_of.ensures ∙ partition_at-rest c.args.name.now ∙ parts.partition in
    some_not_none device.partition (sym c.in_err-partition.was ∙ read)) in
    search (c.from_residual-in_err-partition.ensures, none)

pub returns-then-partition-last_partition : goal.returns-then-partition-last_partition
returns-then-partition-last_partition c = sym (device_at-none c.args.name.now (λ device is named.
    let parts = parts_of c.args.name.now device is named in
    let disk_read = c.disk_of.ensures.every device.disk is.disk parts.disk in
    let partition_read = c.partition_of.ensures ∙ partition_at-rest c.args.name.now ∙ parts.partition in
    let disk = some_number _ device.disk (sym c.in_ok-disk.was ∙ disk_read) in
    let partition = some_number _ device.partition (sym c.in_ok-partition.was ∙ partition_read) in
    let last : c.last_partition.result ≡ last_partition device.disk = c.last_partition.ensures ∙ ap last_partition disk in
    omega (arith, is.partition)))

pub returns : goal.returns
returns c =
    let device : Device = device_with c.in_ok-disk.disk c.in_ok-partition.partition in
    let found = c.in_ok-disk.ensures.found in
    let is : IsDevice device =
    record { disk = found.0; partition = omega (arith, c.last_partition.ensures) } in
    let partition : partition_at _ ≡ Some c.in_ok-partition.partition =
    sym (partition_at-rest c.args.name.now) ∙ sym c.partition_of.ensures ∙ c.in_ok-partition.was in
    sym (device_at-device_name c.args.name.now device is (device_name-from_parts c.args.name.now device found.1 partition))
