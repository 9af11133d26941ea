-- What was answered and written, by the status.
use Rattle.mbr_table.specs.View.{device_view}
use Rattle.ldisk_run.proofs.PutLemmas.{put_known, put_usage, put_source, halt_known, halt_source, put_halted, put_halted_leaves, put_unasked, put_unread, put_answers, put_leaves}
use Rattle.ldisk_run.proofs.put.put.Goals as goal

pub returns-in-Ok-clause-answers : goal.returns-in-Ok-clause-answers
returns-in-Ok-clause-answers g c =
    rw c.put_status.ensures
    (put_answers g.D.Disks c.args.disks.now (device_view c.args.device) c.args.path.now (g.I.Source.left c.args.source.now) c.find_room.new.disks c.put.new.disks c.in-Ok.ensures.same c.in-Ok.ensures.later c.in-Ok.span c.in-Ok.ensures.room
    c.args.time c.put.result c.put.ensures.stores)

pub returns-in-Ok-clause-leaves : goal.returns-in-Ok-clause-leaves
returns-in-Ok-clause-leaves g c =
    rw c.put_status.ensures
    (put_leaves g.D.Disks c.args.disks.now (device_view c.args.device) c.args.path.now (g.I.Source.left c.args.source.now) c.find_room.new.disks c.put.new.disks c.in-Ok.ensures.same c.in-Ok.ensures.later c.in-Ok.span c.in-Ok.ensures.room
    c.args.time c.put.result c.put.ensures.stores)

pub returns-in-Ok-clause-unread : goal.returns-in-Ok-clause-unread
returns-in-Ok-clause-unread g c =
    put_unread g.D.Disks c.args.disks.now (device_view c.args.device) c.args.path.now (g.I.Source.left c.args.source.now) c.find_room.new.disks c.put.new.disks c.in-Ok.ensures.same c.in-Ok.ensures.later c.in-Ok.span c.in-Ok.ensures.room
    c.args.source.now c.put.new.source c.put.ensures.unread

pub returns-in-Ok-clause-known : goal.returns-in-Ok-clause-known
returns-in-Ok-clause-known g c = rw c.put_status.ensures (put_known c.put.result)

pub returns-in-Ok-clause-usage : goal.returns-in-Ok-clause-usage
returns-in-Ok-clause-usage g c = rw c.put_status.ensures (put_usage c.put.result)

pub returns-in-Ok-clause-source : goal.returns-in-Ok-clause-source
returns-in-Ok-clause-source g c = rw c.put_status.ensures (put_source (g.I.Source.faults c.args.source.now) (g.I.Source.faults c.put.new.source) c.put.result c.put.ensures.source)

pub returns-in-Err-clause-answers : goal.returns-in-Err-clause-answers
returns-in-Err-clause-answers g c =
    rw c.status_of.ensures
    (λ sectors. put_halted g.D.Disks c.args.disks.now (device_view c.args.device) c.args.path.now (g.I.Source.left c.args.source.now) c.in-Err.halt c.find_room.new.disks sectors c.in-Err.ensures.room)

pub returns-in-Err-clause-leaves : goal.returns-in-Err-clause-leaves
returns-in-Err-clause-leaves g c =
    rw c.status_of.ensures
    (put_halted_leaves g.D.Disks c.args.disks.now (device_view c.args.device) c.args.path.now (g.I.Source.left c.args.source.now) c.in-Err.halt c.find_room.new.disks c.in-Err.ensures.same c.in-Err.ensures.later c.in-Err.ensures.cause c.args.time)

pub returns-in-Err-clause-unread : goal.returns-in-Err-clause-unread
returns-in-Err-clause-unread g c = put_unasked g.D.Disks c.args.disks.now (device_view c.args.device) c.args.path.now (g.I.Source.left c.args.source.now) c.args.source.now

pub returns-in-Err-clause-known : goal.returns-in-Err-clause-known
returns-in-Err-clause-known g c = rw c.status_of.ensures (halt_known c.in-Err.halt)

pub returns-in-Err-clause-source : goal.returns-in-Err-clause-source
returns-in-Err-clause-source g c = rw c.status_of.ensures (halt_source c.in-Err.halt)
