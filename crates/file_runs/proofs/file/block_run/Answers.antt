-- A zone has two sectors.
use Rattle.std.proofs.Common.{◌+◌, map, sym, ap, ◌∙◌}
use Rattle.std.specs.List.{range_with_len}
use Rattle.disk_trait.specs.declared.disks.Span.{Span}
use Rattle.lilo_model.specs.Planned.{sector_in_zone}
use Rattle.minix_zones.specs.View.{span_view, zone_number}
use Rattle.slot_lists.specs.Runs.{stretch_places}
use Rattle.file_runs.proofs.PlacesLemmas.{zone-places}
use Rattle.file_runs.proofs.file.block_run.Goals as goal

pub returns-in-Zone-clause-places : goal.returns-in-Zone-clause-places
returns-in-Zone-clause-places g c =
    let zone = rw c.in-Zone.is at c.requires.zone in
    let span = c.args.volume.now.span in
    ap (λ (span : Span). stretch_places span.disk (span.start + c.where_zone.result) c.args.count) c.span-span.ensures.value
    ∙ ap (λ n. stretch_places span.disk (span.start + n) c.args.count) c.where_zone.ensures
    ∙ zone-places (span_view span) c.in-Zone.zone c.args.count zone.some c.requires.count
    ∙ ap (λ zone. map (sector_in_zone (span_view span) (zone_number zone)) (range_with_len 0 c.args.count)) (sym c.in-Zone.is)
