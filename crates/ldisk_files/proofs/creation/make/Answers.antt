-- The volume in the span, then the path.
use Rattle.std.proofs.Common.{Some, Err, refl, ap, rules}
use Rattle.disk_trait.proofs.ToldLemmas.{told_map}
use Rattle.ldisk_model.specs.FileVerdict.{made_check, thing_made}
use Rattle.ldisk_files.specs.Answer.{IsUnwrittenAt, zone_fault}
use Rattle.ldisk_files.specs.Inode.{ChangesInode}
use Rattle.ldisk_files.specs.Left.{LeavesNames}
use Rattle.ldisk_files.specs.Made.{making_view}
use Rattle.minix_zones.specs.View.{span_view}
use Rattle.ldisk_files.proofs.InodeLemmas.{inode-in}
use Rattle.ldisk_files.proofs.PathLemmas.{held-of, laid-told, answers-at, leaves-at, no-volume, refused-names, unwritten-at, unwritten-span}
use Rattle.ldisk_files.proofs.creation.make.Goals as goal

pub make_path-requires-clause-laid : goal.make_path-requires-clause-laid
make_path-requires-clause-laid g c =
    laid-told g.D.Disks c.args.disks.now (span_view c.args.span) c.args.path.now (Some (thing_made (making_view c.args.making.now))) c.in-Ok.volume c.in-Ok.volume c.in-Ok.ensures.same c.in-Ok.ensures.later
    (ap span_view c.in-Ok.ensures.span) c.in-Ok.ensures.volume c.requires.whole c.requires.on_disk c.in-Ok.volume.whole

pub returns-in-Ok-clause-answers : goal.returns-in-Ok-clause-answers
returns-in-Ok-clause-answers g c =
    answers-at g.D.Disks c.args.disks.now (span_view c.args.span) c.args.path.now (Some (thing_made (making_view c.args.making.now))) c.in-Ok.volume c.make_path.result.volume c.in-Ok.ensures.same c.in-Ok.ensures.later
    (ap span_view c.in-Ok.ensures.span) c.in-Ok.ensures.volume c.make_path.result.result (made_check (making_view c.args.making.now) c.args.path.now) c.make_path.ensures.answers

pub returns-in-Ok-clause-leaves : goal.returns-in-Ok-clause-leaves
returns-in-Ok-clause-leaves g c =
    let what = Some (thing_made (making_view c.args.making.now)) in
    held-of (λ last. LeavesNames g.D.Disks c.args.disks.now last (span_view c.args.span) c.args.path.now what c.make_path.result.result) c.make_path.result.volume.disks.now
    (leaves-at g.D.Disks c.args.disks.now (span_view c.args.span) c.args.path.now what c.in-Ok.volume c.make_path.result.volume c.in-Ok.ensures.same c.in-Ok.ensures.later
    (ap span_view c.in-Ok.ensures.span) c.in-Ok.ensures.volume c.make_path.result.result c.make_path.ensures.leaves)
    (search rules)

pub returns-in-Ok-clause-inode : goal.returns-in-Ok-clause-inode
returns-in-Ok-clause-inode g c =
    let made = making_view c.args.making.now in
    held-of (λ last. ChangesInode g.D.Disks c.args.disks.now last (span_view c.args.span) c.args.path.now (Some (made, c.args.time)) c.make_path.result.result) c.make_path.result.volume.disks.now
    (inode-in g.D.Disks c.args.disks.now (span_view c.args.span) c.args.path.now (Some (made, c.args.time)) c.in-Ok.volume c.make_path.result.volume c.in-Ok.ensures.same c.in-Ok.ensures.volume
    c.make_path.result.result c.make_path.ensures.inode)
    (search rules)

pub returns-in-Err-clause-answers : goal.returns-in-Err-clause-answers
returns-in-Err-clause-answers g c =
    rw c.refused.ensures.told
    (told_map (g.D.Disks.past c.args.disks.now) _ _
    (λ now refuses. no-volume (made_check (making_view c.args.making.now) c.args.path.now) now (span_view c.args.span) c.in-Err.fault refuses) c.in-Err.ensures.volume)

pub returns-in-Err-clause-leaves : goal.returns-in-Err-clause-leaves
returns-in-Err-clause-leaves g c =
    let what = Some (thing_made (making_view c.args.making.now)) in
    rw c.refused.ensures.told
    (held-of (λ last. LeavesNames g.D.Disks c.args.disks.now last (span_view c.args.span) c.args.path.now what (Err (zone_fault c.in-Err.fault))) c.in-Err.disks.now
    (refused-names g.D.Disks c.args.disks.now (span_view c.args.span) c.args.path.now what c.in-Err.disks.now c.in-Err.ensures.same c.in-Err.ensures.later c.in-Err.fault
    (λ is. c.in-Err.ensures.device (rw is refl)))
    (search rules))

pub returns-in-Ok-clause-unwritten : goal.returns-in-Ok-clause-unwritten
returns-in-Ok-clause-unwritten g c =
    let made = making_view c.args.making.now in
    held-of (λ last. IsUnwrittenAt (g.D.Disks.past c.args.disks.now) (g.D.Disks.past last) (span_view c.args.span) (made_check made c.args.path.now)) c.make_path.result.volume.disks.now
    (unwritten-at g.D.Disks c.args.disks.now (span_view c.args.span) c.args.path.now (Some (thing_made made)) c.in-Ok.volume c.make_path.result.volume c.in-Ok.ensures.same c.in-Ok.ensures.later
    (ap span_view c.in-Ok.ensures.span) c.in-Ok.ensures.volume (made_check made c.args.path.now) c.make_path.ensures.unwritten)
    (search rules)

pub returns-in-Err-clause-unwritten : goal.returns-in-Err-clause-unwritten
returns-in-Err-clause-unwritten g c =
    let made = making_view c.args.making.now in
    held-of (λ last. IsUnwrittenAt (g.D.Disks.past c.args.disks.now) (g.D.Disks.past last) (span_view c.args.span) (made_check made c.args.path.now)) c.in-Err.disks.now
    (unwritten-span (g.D.Disks.past c.args.disks.now) (g.D.Disks.past c.in-Err.disks.now) (made_check made c.args.path.now) (span_view c.args.span) c.in-Err.ensures.same.same_past)
    (search rules)
