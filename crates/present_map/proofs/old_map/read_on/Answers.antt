-- All that was met is what was met from none on.
use Rattle.sector_address.specs.Machine.{machine_of}
use Rattle.minix_layout.specs.View.{super_view}
use Rattle.minix_zones.specs.View.{span_view}
use Rattle.disk_trait.proofs.ToldLemmas.{told_both}
use Rattle.present_map.proofs.OldLemmas.{is_old_map}
use Rattle.present_map.proofs.old_map.read_on.Goals as goal

pub returns-in-Ok-meet_all-clause-map : goal.returns-in-Ok-meet_all-clause-map
returns-in-Ok-meet_all-clause-map g c =
    told_both (g.D.Disks.past c.args.disks.now) _ _ _
    (λ now meets is.
    is_old_map (record { span = span_view c.args.span; layout = super_view c.args.layout }) now (machine_of g.D.Disks c.args.disks.now) (span_view c.args.boot)
    c.in-Ok.met c.meet_all.new.met c.in-Ok-meet_all.foreign c.in-Ok.ensures meets is)
    c.in-Ok-meet_all.ensures.met c.in-Ok-meet_all.ensures.foreign
