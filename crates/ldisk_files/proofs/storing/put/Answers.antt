-- The volume in the span, then the path.
use Rattle.std.proofs.Common.{Some, Err, [], refl, ap, rules, List, ℕ}
use Rattle.minix_zones.specs.View.{span_view}
use Rattle.lilo_model.specs.MinixNames.{File}
use Rattle.ldisk_files.specs.Answer.{zone_fault}
use Rattle.ldisk_files.specs.Stored.{OnGiven, Stores, file_answer}
use Rattle.ldisk_files.proofs.PathLemmas.{held-of, laid-told}
use Rattle.ldisk_files.proofs.StoringLemmas.{not-there, stores-at, unread-at, unread-none}
use Rattle.ldisk_files.proofs.storing.put.Goals as goal

pub put_path-requires-clause-laid : goal.put_path-requires-clause-laid
put_path-requires-clause-laid g c =
    laid-told g.D.Disks c.args.disks.now (span_view c.args.span) c.args.path.now (Some (File [])) c.in-Ok.volume c.in-Ok.volume c.in-Ok.ensures.same c.in-Ok.ensures.later
    (ap span_view c.in-Ok.ensures.span) c.in-Ok.ensures.volume c.requires.whole c.requires.on_disk c.in-Ok.volume.whole

pub returns-in-Ok-clause-stores : goal.returns-in-Ok-clause-stores
returns-in-Ok-clause-stores g c =
    let left = g.I.Source.left c.args.source.now in
    held-of (λ last. OnGiven left (λ (given : List ℕ). Stores g.D.Disks c.args.disks.now last (span_view c.args.span) c.args.path.now given c.args.time (file_answer c.put_path.result.result))) c.put_path.result.volume.disks.now
    (stores-at g.D.Disks c.args.disks.now (span_view c.args.span) c.args.path.now left c.in-Ok.volume c.put_path.result.volume c.in-Ok.ensures.same c.in-Ok.ensures.later
    (ap span_view c.in-Ok.ensures.span) c.in-Ok.ensures.volume c.args.time (file_answer c.put_path.result.result) c.put_path.ensures.stores)
    (search rules)

pub returns-in-Ok-clause-unread : goal.returns-in-Ok-clause-unread
returns-in-Ok-clause-unread g c =
    unread-at g.D.Disks c.args.disks.now (span_view c.args.span) c.args.path.now (g.I.Source.left c.args.source.now) c.in-Ok.volume c.put_path.result.volume c.in-Ok.ensures.same c.in-Ok.ensures.later
    (ap span_view c.in-Ok.ensures.span) c.in-Ok.ensures.volume c.args.source.now c.put_path.new.source c.put_path.ensures.unread

pub returns-in-Err-clause-stores : goal.returns-in-Err-clause-stores
returns-in-Err-clause-stores g c =
    let left = g.I.Source.left c.args.source.now in
    rw c.refused.ensures.told
    (held-of (λ last. OnGiven left (λ (given : List ℕ). Stores g.D.Disks c.args.disks.now last (span_view c.args.span) c.args.path.now given c.args.time (Err (zone_fault c.in-Err.fault)))) c.in-Err.disks.now
    (not-there g.D.Disks c.args.disks.now (span_view c.args.span) c.args.path.now left c.args.time c.in-Err.disks.now c.in-Err.ensures.same c.in-Err.ensures.later c.in-Err.fault
    (λ is. c.in-Err.ensures.device (rw is refl)) c.in-Err.ensures.volume)
    (search rules))

pub returns-in-Err-clause-unread : goal.returns-in-Err-clause-unread
returns-in-Err-clause-unread g c = unread-none g.D.Disks c.args.disks.now (span_view c.args.span) c.args.path.now (g.I.Source.left c.args.source.now) c.args.source.now
