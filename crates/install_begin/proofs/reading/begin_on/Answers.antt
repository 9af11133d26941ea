-- The configuration is read first, and then its boot device is looked for.
use Rattle.std.specs.Prelude.{option_map}
use Rattle.disk_trait.proofs.ToldLemmas.{told_map, told_both}
use Rattle.mbr_table.specs.View.{device_view}
use Rattle.sector_address.specs.Machine.{machine_of}
use Rattle.install_begin.specs.Begin.{named_conf, begun_on}
use Rattle.install_begin.proofs.BeginLemmas.{refused_later}
use Rattle.install_begin.proofs.reading.begin_on.Goals as goal

pub returns-in-Ok-clause-begun : goal.returns-in-Ok-clause-begun
unfolding begun_on
returns-in-Ok-clause-begun g c =
    let same = c.in-Ok.ensures.same in
    told_both (g.D.Disks.past c.args.disks.now) _ _ _
    (λ now is given. rw is given)
    c.in-Ok.ensures.named (rw (same.same_past, same.same_size, same.same_geometry) at (c.place_boot.ensures.begun c.args.path.now))

pub returns-in-Err-clause-begun : goal.returns-in-Err-clause-begun
unfolding begun_on
returns-in-Err-clause-begun g c =
    told_map (g.D.Disks.past c.args.disks.now) _ _
    (λ now refuses. refused_later c.args.path.now c.in-Err.fault (named_conf now (machine_of g.D.Disks c.args.disks.now) (option_map device_view c.args.root) c.args.path.now) _ refuses)
    c.in-Err.ensures.named
