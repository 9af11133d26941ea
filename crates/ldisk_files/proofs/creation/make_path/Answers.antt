-- The checks and the choice, then the creation.
use Rattle.std.proofs.Common.{◌∷◌, [], Some}
use Rattle.ldisk_model.specs.FileVerdict.{made_check, thing_made}
use Rattle.minix_zones.specs.Volume.{volume_view, past_of}
use Rattle.ldisk_files.specs.Made.{making_view}
use Rattle.ldisk_files.proofs.InodeLemmas.{inode-at}
use Rattle.ldisk_files.proofs.MakeLemmas.{may-some, made-on, made-answer}
use Rattle.ldisk_files.proofs.PathLemmas.{refused-on, unwritten-passed, unwritten-same}
use Rattle.ldisk_files.proofs.creation.make_path.Goals as goal

pub make_ready-requires-clause-suits : goal.make_ready-requires-clause-suits
make_ready-requires-clause-suits g c = rw (c.in-Ok.ensures.same.same_layout, c.in-Ok.ensures.same.same_span) c.in-Ok.ensures.suits

pub make_ready-requires-clause-may : goal.make_ready-requires-clause-may
make_ready-requires-clause-may g c =
    may-some c.args.volume c.choose_at.new.volume c.in-Ok.ensures.same c.args.path.now (making_view c.args.making.now) c.in-Ok.ready.chosen (c.in-Ok.ready.block ∷ []) c.in-Ok.ready
    c.in-Ok.ensures.may c.in-Ok.ensures.answers

pub returns-in-Ok-clause-answers : goal.returns-in-Ok-clause-answers
returns-in-Ok-clause-answers g c =
    made-answer c.args.volume c.choose_at.new.volume c.in-Ok.ensures.same c.args.path.now (making_view c.args.making.now) c.in-Ok.ready.chosen (c.in-Ok.ready.block ∷ []) c.in-Ok.ready
    c.in-Ok.ensures.may c.in-Ok.ensures.answers c.in-Ok.ensures.later c.make_ready.result.volume c.make_ready.result.result c.make_ready.ensures.changes c.make_ready.ensures.quiet c.make_ready.ensures.cause

pub returns-in-Ok-clause-leaves : goal.returns-in-Ok-clause-leaves
returns-in-Ok-clause-leaves g c =
    made-on c.args.volume c.choose_at.new.volume c.in-Ok.ensures.same c.args.path.now (making_view c.args.making.now) c.in-Ok.ready.chosen (c.in-Ok.ready.block ∷ []) c.in-Ok.ready
    c.in-Ok.ensures.may c.in-Ok.ensures.answers c.in-Ok.ensures.later c.make_ready.result.volume c.make_ready.result.result c.make_ready.ensures.changes c.make_ready.ensures.quiet c.make_ready.ensures.cause

pub returns-in-Ok-clause-inode : goal.returns-in-Ok-clause-inode
returns-in-Ok-clause-inode g c =
    inode-at c.args.volume c.choose_at.new.volume c.in-Ok.ensures.same c.args.path.now (making_view c.args.making.now) c.in-Ok.ready.chosen (c.in-Ok.ready.block ∷ [])
    c.in-Ok.ensures.may c.args.time c.in-Ok.ensures.time c.make_ready.result.volume c.make_ready.result.result c.make_ready.ensures.inode

pub returns-in-Err-clause-leaves : goal.returns-in-Err-clause-leaves
returns-in-Err-clause-leaves g c =
    refused-on c.args.volume c.choose_at.new.volume c.in-Err.ensures.same c.in-Err.ensures.later c.args.path.now (Some (thing_made (making_view c.args.making.now))) c.in-Err.fault c.in-Err.ensures.cause

pub returns-in-Ok-clause-unwritten : goal.returns-in-Ok-clause-unwritten
returns-in-Ok-clause-unwritten g c =
    unwritten-passed (past_of c.args.volume) (past_of c.make_ready.result.volume) (made_check (making_view c.args.making.now) c.args.path.now) (volume_view c.args.volume) c.in-Ok.ensures.answers

pub returns-in-Err-clause-unwritten : goal.returns-in-Err-clause-unwritten
returns-in-Err-clause-unwritten g c =
    unwritten-same (past_of c.args.volume) (past_of c.choose_at.new.volume) (made_check (making_view c.args.making.now) c.args.path.now) (volume_view c.args.volume) c.in-Err.ensures.same.same_disks.same_past
