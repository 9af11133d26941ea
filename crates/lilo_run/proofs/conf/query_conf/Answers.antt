use Rattle.mbr_table.specs.View.{device_view}
use Rattle.disk_trait.proofs.ToldLemmas.{told_both}
use Rattle.lilo_run.proofs.ConfLemmas.{conf_listed}
use Rattle.lilo_run.proofs.conf.query_conf.Goals as goal

pub returns-in-Ok-clause-does : goal.returns-in-Ok-clause-does
returns-in-Ok-clause-does g c = let same = c.boot_device.ensures.same in λ memory.
    told_both (g.D.Disks.past c.args.disks.now) _ _ _
    (λ now is does. conf_listed now _ _ c.args.path.now (device_view c.in-Ok.device) _ memory _ _ is does)
    c.in-Ok.ensures.device (rw (same.same_past, same.same_size, same.same_geometry) at (c.query_device.ensures.does memory))
