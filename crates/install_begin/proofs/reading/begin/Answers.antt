-- The volume is looked for first.
use Rattle.std.specs.Prelude.{option_map}
use Rattle.disk_trait.proofs.ToldLemmas.{told_map, told_both}
use Rattle.lilo_model.specs.Checks.{with_fault}
use Rattle.lilo_model.specs.ConfVerdict.{volume_refusal}
use Rattle.lilo_model.specs.VolumeSearch.{volume_place}
use Rattle.mbr_table.specs.View.{device_view}
use Rattle.sector_address.specs.Machine.{machine_of}
use Rattle.install_begin.specs.Begin.{begun_at}
use Rattle.install_begin.proofs.BeginLemmas.{refused_later}
use Rattle.install_begin.proofs.reading.begin.Goals as goal

pub returns-in-Ok-clause-begun : goal.returns-in-Ok-clause-begun
unfolding begun_at
returns-in-Ok-clause-begun g c =
    let same = c.in-Ok.ensures.same in
    told_both (g.D.Disks.past c.args.disks.now) _ _ _
    (λ now is given. rw is given)
    (c.in-Ok.ensures.place c.args.path.now) (rw (same.same_past, same.same_size, same.same_geometry) at c.begin_on.ensures.begun)

pub returns-in-Err-clause-begun : goal.returns-in-Err-clause-begun
unfolding begun_at
returns-in-Err-clause-begun g c =
    told_map (g.D.Disks.past c.args.disks.now) _ _
    (λ now refuses. refused_later c.args.path.now c.in-Err.fault (with_fault volume_refusal (volume_place now (machine_of g.D.Disks c.args.disks.now) (option_map device_view c.args.root))) _ refuses)
    (c.in-Err.ensures.place c.args.path.now)
