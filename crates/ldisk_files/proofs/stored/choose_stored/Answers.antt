-- The name, then the bytes and the choice.
use Rattle.minix_zones.specs.Volume.{volume_view, past_of}
use Rattle.ldisk_files.proofs.StoredLemmas.{no-place-stored, read-after, unread-same, takes-stored, may-stored, storable-back}
use Rattle.ldisk_files.proofs.stored.choose_stored.Goals as goal

pub returns-in-Err-clause-takes : goal.returns-in-Err-clause-takes
returns-in-Err-clause-takes g c =
    no-place-stored (past_of c.args.volume.now) (volume_view c.args.volume.now) c.args.path.now (g.I.Source.left c.args.source.now) c.in-Err.fault c.in-Err.ensures.free

pub returns-in-Err-clause-unread : goal.returns-in-Err-clause-unread
returns-in-Err-clause-unread g c = unread-same (past_of c.args.volume.now) (volume_view c.args.volume.now) c.args.path.now c.args.source.now

pub returns-clause-takes : goal.returns-clause-takes
returns-clause-takes g c =
    takes-stored c.args.volume.now c.find_free.new.volume c.in-Ok.ensures.same c.args.path.now c.in-Ok.place c.in-Ok.ensures.free (g.I.Source.left c.args.source.now) c.choose_given.result c.choose_given.ensures.room

pub returns-clause-unread : goal.returns-clause-unread
returns-clause-unread g c =
    read-after (past_of c.args.volume.now) (volume_view c.args.volume.now) c.args.path.now c.in-Ok.place c.args.source.now c.choose_given.new.source c.in-Ok.ensures.free

pub returns-clause-may : goal.returns-clause-may
returns-clause-may g c =
    may-stored c.args.volume.now c.find_free.new.volume c.in-Ok.ensures.same c.args.path.now c.in-Ok.place c.in-Ok.ensures.free c.choose_given.result c.choose_given.ensures.may

pub returns-clause-suits : goal.returns-clause-suits
returns-clause-suits g c = storable-back c.args.volume.now c.find_free.new.volume c.in-Ok.ensures.same c.choose_given.result c.choose_given.ensures.suits
