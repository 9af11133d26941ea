-- A zone that is owned is judged by its owner.
use Rattle.std.proofs.Common.{◌≤◌, ◌+◌, ◌*◌, ◌&&◌, not, arith}
use Rattle.lilo_model.specs.MinixLayout.{table_start, table_blocks}
use Rattle.lilo_model.specs.MinixParts.{parts_of, is_directory}
use Rattle.minix_survey.specs.Findings.{indirect_in}
use Rattle.minix_zones.specs.Volume.{volume_view, past_of}
use Rattle.install_laws.specs.InstallVerdict.{is_plain_sector}
use Rattle.disk_trait.proofs.ToldLemmas.{told_map}
use Rattle.present_map.proofs.ClearLemmas.{owner_there, plain_owned, if_ok-same}
use Rattle.present_map.proofs.clear.is_plain.Goals as goal
use Rattle.present_map.proofs.clear.is_plain.Goals.{else-zone-ge1-via-then-zone-ge1+else-zone-table_end, else-zone-ge1-via-else-zone-ge1}

pub returns-in-Some-clause-plain : goal.returns-in-Some-clause-plain
returns-in-Some-clause-plain g c =
    let volume = volume_view c.args.volume.now in
    let zone = c.args.zone in
    let number = c.in-Some.number in
    let past : 1 ≤ zone → table_start volume.layout + table_blocks volume.layout ≤ zone = λ some.
    elim c.else-zone-ge1.branch [
      | else-zone-ge1-via-then-zone-ge1+else-zone-table_end w ↦ let end = rw w.layout.ensures.value at w.table_end.ensures in omega (arith, end, w.if-zone-table_end.false)
      | else-zone-ge1-via-else-zone-ge1 w ↦ omega (arith, some, w.if-zone-ge1.false)
    ] in
    told_map (past_of c.args.volume.now) _ _
    (λ now plain met found.
    if_ok-same c.is_plain_of.result (not (is_directory ((parts_of volume now).node number)) && not (indirect_in c.args.findings.now zone))
    (is_plain_sector volume (parts_of volume now) met (2 * zone))
    (plain_owned volume now c.args.findings.now met zone number found c.in-Some.ensures past)
    (plain (owner_there volume now c.args.findings.now met zone number c.args.volume.now.span.count c.args.volume.now.whole found c.in-Some.ensures)))
    c.is_plain_of.ensures.plain
