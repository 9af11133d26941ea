-- What was found is kept.
use Rattle.mbr_table.specs.View.{span_view}
use Rattle.minix_zones.specs.Volume.{volume_view, past_of}
use Rattle.map_plan.specs.Sound.{machine_for}
use Rattle.map_plan.proofs.SoundLemmas.{told_map}
use Rattle.map_sectors.proofs.FileLemmas.{all-kept}
use Rattle.map_sectors.proofs.ForLemmas.{is-for}
use Rattle.map_sectors.proofs.planning.plan.Goals as goal

pub invariant_of-result : goal.invariant_of-result
invariant_of-result g c = record {
  disk_is = c.disk_of-disk.ensures.few;
  few = c.in-Ok.ensures.few;
  kept = all-kept _ c.in-Ok.files.sections.items c.in-Ok.ensures.fits.sections;
  message_few = c.in-Ok.ensures.fits.few;
  message_runs = c.in-Ok.ensures.fits.runs;
  named = c.in-Ok.ensures.names;
}

pub returns-in-Ok-clause-machine : goal.returns-in-Ok-clause-machine
returns-in-Ok-clause-machine g c =
    told_map (past_of c.args.volume.now) _ _
    (λ now given sound. is-for now (machine_for c.args.volume.now) (volume_view c.args.volume.now) (span_view c.args.boot) _ _ sound c.requires
    c.geometries_of-geometries.ensures c.disk_of-disk.ensures.value c.in-Ok.ensures.fits.sections (given sound))
    c.in-Ok.ensures.plan
