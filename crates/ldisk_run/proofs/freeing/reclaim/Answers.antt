-- What was answered, printed and freed, by the status.
use Rattle.std.proofs.Common.{◌≡◌, Ok}
use Rattle.disk_trait.proofs.ToldLemmas.{told_map, told_both}
use Rattle.lilo_model.specs.LdiskVerdict.{room_of}
use Rattle.mbr_table.specs.View.{device_view, span_view}
use Rattle.mbr_table.proofs.ToldLemmas.{told_before}
use Rattle.sector_address.specs.Machine.{machine_of}
use Rattle.ldisk_files.specs.Freed.{GivesFreed}
use Rattle.ldisk_model.specs.FileVerdict.{freed_at}
use Rattle.ldisk_run.specs.Pieces.{held_by}
use Rattle.ldisk_run.proofs.FileLemmas.{file_known, file_usage}
use Rattle.ldisk_run.proofs.FreedLemmas.{halted-freed, halted-left, done-freed, freed-left}
use Rattle.ldisk_run.proofs.freeing.reclaim.Goals as goal

pub returns-in-Ok-clause-does : goal.returns-in-Ok-clause-does
returns-in-Ok-clause-does g c =
    let past = g.D.Disks.past c.args.disks.now in
    let machine = machine_of g.D.Disks c.args.disks.now in
    let device = device_view c.args.device in
    let span = span_view c.in-Ok.span in
    let held = held_by g.O.Sink in
    rw c.put_freed.ensures.status
    (λ given sectors. told_both past (λ now. room_of now machine device ≡ Ok span) (λ now. GivesFreed (freed_at now span) c.reclaim.result) _
    (λ now room gives. done-freed given sectors now machine device span room c.reclaim.result (held c.args.out.now) (held c.put_freed.new.out) gives c.put_freed.ensures.adds)
    c.in-Ok.ensures.room
    (told_before past (g.D.Disks.past c.find_room.new.disks) (λ now. GivesFreed (freed_at now span) c.reclaim.result) c.in-Ok.ensures.same.same_past c.reclaim.ensures.answers))

pub returns-in-Ok-clause-known : goal.returns-in-Ok-clause-known
returns-in-Ok-clause-known g c = rw c.put_freed.ensures.status (file_known c.reclaim.result)

pub returns-in-Ok-clause-usage : goal.returns-in-Ok-clause-usage
returns-in-Ok-clause-usage g c = rw c.put_freed.ensures.status (file_usage c.reclaim.result)

pub returns-in-Ok-clause-leaves : goal.returns-in-Ok-clause-leaves
returns-in-Ok-clause-leaves g c =
    rw c.put_freed.ensures.status
    (λ given time sectors. freed-left given time sectors (device_view c.args.device) g.D.Disks c.args.disks.now c.find_room.new.disks c.reclaim.new.disks
    c.in-Ok.ensures.same c.in-Ok.ensures.later c.in-Ok.span c.reclaim.result c.in-Ok.ensures.room c.reclaim.ensures)

pub returns-in-Err-clause-does : goal.returns-in-Err-clause-does
returns-in-Err-clause-does g c =
    let machine = machine_of g.D.Disks c.args.disks.now in
    rw c.status_of.ensures
    (λ given sectors. told_map (g.D.Disks.past c.args.disks.now) _ _
    (λ now halts. halted-freed given sectors now machine (device_view c.args.device) c.in-Err.halt (held_by g.O.Sink c.args.out.now) halts) c.in-Err.ensures.room)

pub returns-in-Err-clause-leaves : goal.returns-in-Err-clause-leaves
returns-in-Err-clause-leaves g c =
    rw c.status_of.ensures
    (λ given time sectors. halted-left given time sectors (device_view c.args.device) g.D.Disks c.args.disks.now c.find_room.new.disks
    c.in-Err.ensures.same c.in-Err.ensures.later c.in-Err.halt c.in-Err.ensures.cause)
