-- An inode that is there is read, unless the disk fails.
use Rattle.std.proofs.Common.{◌≡◌, not}
use Rattle.lilo_model.specs.MinixFind.{readable}
use Rattle.lilo_model.specs.MinixParts.{parts_of, is_directory}
use Rattle.minix_layout.specs.View.{super_view}
use Rattle.minix_zones.specs.Volume.{volume_view, past_of}
use Rattle.disk_trait.proofs.ToldLemmas.{told_map}
use Rattle.present_map.proofs.ClearLemmas.{readable-there, not_refused}
use Rattle.present_map.proofs.clear.is_no_directory.Goals as goal

pub returns-in-Err-clause-plain : goal.returns-in-Err-clause-plain
returns-in-Err-clause-plain g c =
    let super = super_view c.args.volume.now.layout in
    told_map (past_of c.args.volume.now) _ _
    (λ now refuses there.
    not_refused c.refused.result (λ plain. plain ≡ not (is_directory ((parts_of (volume_view c.args.volume.now) now).node c.args.number)))
    (readable super (parts_of (volume_view c.args.volume.now) now) c.args.number) c.args.number
    (readable-there super (parts_of (volume_view c.args.volume.now) now) c.args.number there)
    (c.refused.ensures.refused _ _ _ c.in-Err.ensures.cause refuses))
    c.in-Err.ensures.found
