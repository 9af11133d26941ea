-- What was answered and written, by the status.
use Rattle.std.proofs.Common.{◌≡◌, Ok}
use Rattle.disk_trait.proofs.ToldLemmas.{told_map, told_both}
use Rattle.lilo_model.specs.LdiskVerdict.{room_of}
use Rattle.mbr_table.specs.View.{device_view, span_view}
use Rattle.mbr_table.proofs.ToldLemmas.{told_before}
use Rattle.sector_address.specs.Machine.{machine_of}
use Rattle.ldisk_files.specs.Answer.{Answers}
use Rattle.ldisk_model.specs.Arguments.{Mkdir}
use Rattle.ldisk_model.specs.FileVerdict.{NewDirectory, volume_check, made_check, addition}
use Rattle.ldisk_model.specs.Verdict.{command_verdict}
use Rattle.ldisk_run.specs.Left.{AnswersAs}
use Rattle.ldisk_run.specs.Made.{file_status}
use Rattle.ldisk_run.proofs.FileLemmas.{makes_directory, halted_answer, halted_leaves, file_answer, file_leaves}
use Rattle.ldisk_run.proofs.files.mkdir.Goals as goal

pub returns-in-Ok-clause-answers : goal.returns-in-Ok-clause-answers
returns-in-Ok-clause-answers g c =
    let past = g.D.Disks.past c.args.disks.now in
    let machine = machine_of g.D.Disks c.args.disks.now in
    let device = device_view c.args.device in
    let span = span_view c.in-Ok.span in
    let result = c.mkdir.result in
    rw c.file_status.ensures
    (λ given sectors. told_both past (λ now. room_of now machine device ≡ Ok span) (λ now. Answers (volume_check (made_check NewDirectory c.args.path.now) now span) result)
    (λ now. AnswersAs (command_verdict now machine given sectors (Mkdir (device_view c.args.device) c.args.path.now)) (file_status result))
    (λ now room answers. file_answer given (Mkdir (device_view c.args.device) c.args.path.now) (addition (device_view c.args.device) c.args.path.now NewDirectory) (made_check NewDirectory c.args.path.now) (makes_directory given (device_view c.args.device) c.args.path.now) now machine sectors span room result answers) c.in-Ok.ensures.room
    (told_before past (g.D.Disks.past c.find_room.new.disks) (λ now. Answers (volume_check (made_check NewDirectory c.args.path.now) now span) result) c.in-Ok.ensures.same.same_past c.mkdir.ensures.answers))

pub returns-in-Ok-clause-leaves : goal.returns-in-Ok-clause-leaves
returns-in-Ok-clause-leaves g c =
    rw c.file_status.ensures
    (λ given. file_leaves given (Mkdir (device_view c.args.device) c.args.path.now) (addition (device_view c.args.device) c.args.path.now NewDirectory) (made_check NewDirectory c.args.path.now) (makes_directory given (device_view c.args.device) c.args.path.now) g.D.Disks c.args.disks.now c.find_room.new.disks c.mkdir.new.disks c.in-Ok.ensures.same c.in-Ok.ensures.later
    c.in-Ok.span c.mkdir.result c.in-Ok.ensures.room c.mkdir.ensures.leaves c.mkdir.ensures.unwritten c.args.time c.mkdir.ensures.inode)

pub returns-in-Err-clause-answers : goal.returns-in-Err-clause-answers
returns-in-Err-clause-answers g c =
    let machine = machine_of g.D.Disks c.args.disks.now in
    rw c.status_of.ensures
    (λ given sectors. told_map (g.D.Disks.past c.args.disks.now) _ _
    (λ now halts. halted_answer given (Mkdir (device_view c.args.device) c.args.path.now) (addition (device_view c.args.device) c.args.path.now NewDirectory) (made_check NewDirectory c.args.path.now) (makes_directory given (device_view c.args.device) c.args.path.now) now machine sectors c.in-Err.halt halts) c.in-Err.ensures.room)

pub returns-in-Err-clause-leaves : goal.returns-in-Err-clause-leaves
returns-in-Err-clause-leaves g c =
    rw c.status_of.ensures
    (λ given. halted_leaves given (Mkdir (device_view c.args.device) c.args.path.now) (addition (device_view c.args.device) c.args.path.now NewDirectory) (made_check NewDirectory c.args.path.now) (makes_directory given (device_view c.args.device) c.args.path.now) g.D.Disks c.args.disks.now c.find_room.new.disks c.in-Err.ensures.same c.in-Err.ensures.later c.in-Err.halt c.in-Err.ensures.cause c.args.time)
