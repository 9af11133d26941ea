-- What was answered and written, by the status.
use Rattle.disk_trait.proofs.ToldLemmas.{told_map}
use Rattle.sector_address.specs.Machine.{machine_of}
use Rattle.ldisk_model.specs.Arguments.{Mkfs}
use Rattle.ldisk_model.specs.Verdict.{mkfs_check, command_verdict}
use Rattle.ldisk_make.specs.Answer.{Answers}
use Rattle.mbr_table.specs.View.{device_view}
use Rattle.minix_layout.specs.View.{kind_view}
use Rattle.ldisk_run.specs.Left.{AnswersAs}
use Rattle.ldisk_run.specs.Made.{made_status}
use Rattle.ldisk_run.proofs.MadeLemmas.{answered, is_known, is_misplaced, mkfs_leaves}
use Rattle.ldisk_run.proofs.made.mkfs.Goals as goal

pub returns-clause-answers : goal.returns-clause-answers
unfolding command_verdict
returns-clause-answers g c =
    let machine = machine_of g.D.Disks c.args.disks.now in
    let device = device_view c.args.device in
    let kind = kind_view c.args.kind in
    rw c.status_of.ensures
    (λ given sectors. told_map (g.D.Disks.past c.args.disks.now) (λ now. Answers (mkfs_check now machine device kind c.args.inodes) c.mkfs.result)
    (λ now. AnswersAs (command_verdict now machine given sectors (Mkfs device kind c.args.inodes)) (made_status c.mkfs.result))
    (λ now. answered (mkfs_check now machine device kind c.args.inodes) c.mkfs.result) c.mkfs.ensures.status)

pub returns-clause-known : goal.returns-clause-known
returns-clause-known g c = rw c.status_of.ensures (is_known c.mkfs.result)

pub returns-clause-usage : goal.returns-clause-usage
returns-clause-usage g c = rw c.status_of.ensures (λ one. c.mkfs.ensures.never (is_misplaced c.mkfs.result one))

pub returns-clause-leaves : goal.returns-clause-leaves
returns-clause-leaves g c =
    rw c.status_of.ensures
    (λ given sectors. mkfs_leaves g.D.Disks c.args.disks.now c.mkfs.new.disks c.mkfs.result c.mkfs.ensures.refused c.mkfs.ensures.quiet
    c.mkfs.ensures.cause c.mkfs.ensures.goes_on c.args.time given sectors (device_view c.args.device) (kind_view c.args.kind) c.args.inodes
    c.mkfs.ensures.made c.mkfs.ensures.empty c.mkfs.ensures.any_moment c.mkfs.ensures.unwritten c.mkfs.ensures.outside)
