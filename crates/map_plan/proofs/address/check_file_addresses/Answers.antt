-- A file's sectors lie on the volume's disk.
use Rattle.std.proofs.Common.{◌≡◌, sym, ap, ◌∙◌}
use Rattle.disk_trait.specs.declared.disks.Span.{Span}
use Rattle.sector_address.specs.View.{geometry_view}
use Rattle.slot_lists.specs.Runs.{places_in}
use Rattle.minix_zones.specs.Volume.{geometries_of}
use Rattle.map_plan.specs.Sound.{machine_for}
use Rattle.map_plan.proofs.AddressLemmas.{lies-on}
use Rattle.map_plan.proofs.address.check_file_addresses.Goals as goal

pub returns-clause-decided : goal.returns-clause-decided
returns-clause-decided g c config named on =
    let machine = machine_for c.args.volume.now in
    let same : machine.geometry_of c.args.volume.now.span.disk ≡ geometry_view c.geometry.result =
    ap (λ (span : Span). geometry_view (geometries_of c.args.volume.now span.disk)) (sym c.span.ensures.value) ∙ ap geometry_view (sym c.geometry.ensures) in
    c.check_runs.ensures.decided config machine (record { mode = named.mode; compact = named.compact })
    (lies-on machine c.args.volume.now.span.disk (geometry_view c.geometry.result) (places_in c.args.file.now.runs) same on)
