-- The checks, then the removal.
use Rattle.std.proofs.Common.{None}
use Rattle.ldisk_model.specs.FileVerdict.{gone_check}
use Rattle.minix_zones.specs.Volume.{volume_view, past_of}
use Rattle.ldisk_files.proofs.InodeLemmas.{inode-gone}
use Rattle.ldisk_files.proofs.PathLemmas.{refused-on, may-remove, changed-on, changed-answer, unwritten-removed, unwritten-same}
use Rattle.ldisk_files.proofs.removal.remove_path.Goals as goal

pub remove_name-requires-clause-may : goal.remove_name-requires-clause-may
remove_name-requires-clause-may g c =
    may-remove c.args.volume c.find_checked.new.volume c.in-Ok.ensures.same c.args.path.now c.in-Ok.place c.in-Ok.ensures.found

pub returns-in-Ok-clause-answers : goal.returns-in-Ok-clause-answers
returns-in-Ok-clause-answers g c =
    changed-answer c.args.volume c.find_checked.new.volume c.in-Ok.ensures.same c.args.path.now c.in-Ok.place c.in-Ok.ensures.found c.in-Ok.ensures.later
    c.remove_name.result.volume c.remove_name.result.result c.remove_name.ensures.changes c.remove_name.ensures.quiet c.remove_name.ensures.cause

pub returns-in-Ok-clause-leaves : goal.returns-in-Ok-clause-leaves
returns-in-Ok-clause-leaves g c =
    changed-on c.args.volume c.find_checked.new.volume c.in-Ok.ensures.same c.args.path.now c.in-Ok.place c.in-Ok.ensures.found c.in-Ok.ensures.later
    c.remove_name.result.volume c.remove_name.result.result c.remove_name.ensures.changes c.remove_name.ensures.quiet c.remove_name.ensures.cause

pub returns-in-Err-clause-leaves : goal.returns-in-Err-clause-leaves
returns-in-Err-clause-leaves g c =
    refused-on c.args.volume c.find_checked.new.volume c.in-Err.ensures.same c.in-Err.ensures.later c.args.path.now None c.in-Err.fault c.in-Err.ensures.cause

pub returns-in-Ok-clause-unwritten : goal.returns-in-Ok-clause-unwritten
returns-in-Ok-clause-unwritten g c =
    unwritten-removed c.args.volume c.find_checked.new.volume c.in-Ok.ensures.same c.args.path.now c.in-Ok.place c.in-Ok.ensures.found (past_of c.remove_name.result.volume)

pub returns-in-Err-clause-unwritten : goal.returns-in-Err-clause-unwritten
returns-in-Err-clause-unwritten g c =
    unwritten-same (past_of c.args.volume) (past_of c.find_checked.new.volume) (gone_check c.args.path.now) (volume_view c.args.volume) c.in-Err.ensures.same.same_disks.same_past

pub returns-in-Ok-clause-inode : goal.returns-in-Ok-clause-inode
returns-in-Ok-clause-inode g c =
    inode-gone c.args.volume c.find_checked.new.volume c.in-Ok.ensures.same c.args.path.now c.in-Ok.place c.in-Ok.ensures.found
    c.remove_name.result.volume c.remove_name.result.result c.remove_name.ensures.inode
