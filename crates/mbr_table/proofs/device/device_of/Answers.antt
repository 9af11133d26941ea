-- What the name was read as is its device.
use Rattle.std.proofs.Common.{refl, sym}
use Rattle.lilo_model.specs.Partitions.{named_device}
use Rattle.mbr_table.specs.View.{device_view}
use Rattle.mbr_table.proofs.DeviceLemmas.{device_at-is}
use Rattle.mbr_table.proofs.device.device_of.Goals as goal

pub returns-in-Some-clause-device : goal.returns-in-Some-clause-device
unfolding named_device
returns-in-Some-clause-device c = rw (← c.in-Some.ensures) refl

pub returns-in-Some-clause-named : goal.returns-in-Some-clause-named
returns-in-Some-clause-named c = (device_at-is c.args.name.now (device_view c.in-Some.device) (sym c.in-Some.ensures)).0

pub returns-in-Some-clause-name : goal.returns-in-Some-clause-name
returns-in-Some-clause-name c = (device_at-is c.args.name.now (device_view c.in-Some.device) (sym c.in-Some.ensures)).1

pub returns-in-None-clause-device : goal.returns-in-None-clause-device
unfolding named_device
returns-in-None-clause-device c = rw (← c.in-None.ensures) refl
