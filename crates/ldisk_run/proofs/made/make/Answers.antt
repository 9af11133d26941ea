-- What was answered and written, by the status.
use Rattle.std.proofs.Common.{map}
use Rattle.disk_trait.proofs.ToldLemmas.{told_all}
use Rattle.sector_address.specs.Machine.{machine_of}
use Rattle.ldisk_model.specs.Arguments.{Make}
use Rattle.ldisk_model.specs.DiskTable.{are_placed}
use Rattle.ldisk_model.specs.Verdict.{make_check, command_verdict}
use Rattle.ldisk_words.specs.View.{part_view}
use Rattle.ldisk_run.specs.Left.{AnswersAs}
use Rattle.ldisk_run.specs.Made.{made_status}
use Rattle.ldisk_run.proofs.MadeLemmas.{answered, is_known, misplaced_as, make_unwritten, make_leaves}
use Rattle.ldisk_run.proofs.made.make.Goals as goal

pub returns-clause-answers : goal.returns-clause-answers
unfolding command_verdict
returns-clause-answers g c =
    let machine = machine_of g.D.Disks c.args.disks.now in
    let parts = map part_view c.args.parts.now in
    rw c.status_of.ensures
    (λ given. told_all (g.D.Disks.past c.args.disks.now) (λ now. AnswersAs (command_verdict now machine given c.args.sectors (Make parts)) (made_status c.make.result))
    (λ now. answered (make_check machine c.args.sectors parts) c.make.result c.make.ensures.status))

pub returns-clause-known : goal.returns-clause-known
returns-clause-known g c = rw c.status_of.ensures (is_known c.make.result)

pub returns-clause-usage : goal.returns-clause-usage
returns-clause-usage g c =
    rw c.status_of.ensures
    (misplaced_as c.make.result (are_placed c.args.sectors (map part_view c.args.parts.now)) c.make.ensures.misplaced)

pub returns-clause-leaves : goal.returns-clause-leaves
returns-clause-leaves g c =
    rw c.status_of.ensures
    (λ time given. make_leaves g.D.Disks c.args.disks.now c.make.new.disks c.make.result c.make.ensures.refused c.make.ensures.quiet
    c.make.ensures.cause c.make.ensures.goes_on time given c.args.sectors (map part_view c.args.parts.now) c.make.ensures.made c.make.ensures.any_moment c.make.ensures.others
    (make_unwritten (machine_of g.D.Disks c.args.disks.now) c.args.sectors (map part_view c.args.parts.now) c.make.result c.make.ensures.misplaced c.make.ensures.no_disk c.make.ensures.refused))
