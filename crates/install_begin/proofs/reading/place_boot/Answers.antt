-- The boot device lies here, or isn't found.
use Rattle.disk_trait.proofs.ToldLemmas.{told_map}
use Rattle.mbr_table.specs.View.{device_view, span_view}
use Rattle.sector_address.specs.Machine.{machine_of}
use Rattle.install_begin.specs.View.{named_view}
use Rattle.install_begin.proofs.BeginLemmas.{some_span, no_span}
use Rattle.install_begin.proofs.reading.place_boot.Goals as goal

pub returns-in-Ok-clause-begun : goal.returns-in-Ok-clause-begun
returns-in-Ok-clause-begun g c =
    λ path. told_map (g.D.Disks.past c.args.disks.now) _ _
    (λ now is. some_span now (machine_of g.D.Disks c.args.disks.now) (span_view c.args.volume) (named_view c.args.config c.args.device) (span_view c.in-Ok.boot) is)
    c.in-Ok.ensures.place

pub returns-in-Err-clause-begun : goal.returns-in-Err-clause-begun
returns-in-Err-clause-begun g c =
    λ path. told_map (g.D.Disks.past c.args.disks.now) _ _
    (λ now refuses. no_span path c.in-Err.fault now (machine_of g.D.Disks c.args.disks.now) (device_view c.args.device) _ refuses)
    c.in-Err.ensures.place
