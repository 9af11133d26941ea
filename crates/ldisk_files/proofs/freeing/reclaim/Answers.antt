-- The volume in the span, then its waste.
use Rattle.std.proofs.Common.{[], None, Err, refl, ap, rules}
use Rattle.minix_zones.specs.View.{span_view}
use Rattle.ldisk_files.specs.Answer.{zone_fault}
use Rattle.ldisk_files.specs.Freed.{FreesWaste, freed_answer}
use Rattle.ldisk_files.proofs.FreedLemmas.{none-freed, waste-freed}
use Rattle.ldisk_files.proofs.PathLemmas.{held-of, laid-told}
use Rattle.ldisk_files.proofs.freeing.reclaim.Goals as goal

pub returns-in-Ok : goal.returns-in-Ok
returns-in-Ok g c =
    let volume = c.in-Ok.volume in
    let same = c.in-Ok.ensures.same in
    let is = c.in-Ok.ensures.volume in
    let span = span_view c.args.span in
    let frees = c.reclaim_on.ensures.frees in
    rw frees.is
    (held-of (λ last. FreesWaste g.D.Disks c.args.disks.now last span (freed_answer frees.answer)) c.reclaim_on.result.volume.disks.now
    (waste-freed g.D.Disks c.args.disks.now span volume c.reclaim_on.result.volume same c.in-Ok.ensures.later is
    (laid-told g.D.Disks c.args.disks.now span [] None volume volume same c.in-Ok.ensures.later (ap span_view c.in-Ok.ensures.span) is
    c.requires.whole c.requires.on_disk volume.whole)
    frees.answer frees.does)
    (search rules))

pub returns-in-Err : goal.returns-in-Err
returns-in-Err g c =
    let span = span_view c.args.span in
    rw c.refused.ensures.told
    (held-of (λ last. FreesWaste g.D.Disks c.args.disks.now last span (Err (zone_fault c.in-Err.fault))) c.in-Err.disks.now
    (none-freed g.D.Disks c.args.disks.now span c.in-Err.disks.now c.in-Err.ensures.same c.in-Err.ensures.later c.in-Err.fault c.in-Err.ensures.volume
    (λ is. c.in-Err.ensures.device (rw is refl)))
    (search rules))
