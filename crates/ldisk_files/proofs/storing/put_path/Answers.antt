-- The checks and the choice, then the file.
use Rattle.std.proofs.Common.{◌≡◌, rules}
use Rattle.ldisk_files.proofs.StoringLemmas.{stored-suits, stored-few, stored-may, not-stored, is-stored}
use Rattle.ldisk_files.proofs.storing.put_path.Goals as goal

pub store_bytes-requires : goal.store_bytes-requires
store_bytes-requires g c =
    let same : c.as_slice.result.now ≡ c.in-Ok.stored.bytes.items = search rules in
    record {
      suits = stored-suits c.args.volume c.choose_stored.new.volume c.in-Ok.ensures.same c.in-Ok.ensures.later c.args.path.now (g.I.Source.left c.args.source.now) c.in-Ok.stored c.in-Ok.ensures.given
          c.in-Ok.ensures.may c.in-Ok.ensures.takes c.as_slice.result.now same c.in-Ok.ensures.suits;
      few = stored-few c.args.volume c.choose_stored.new.volume c.in-Ok.ensures.same c.in-Ok.ensures.later c.args.path.now (g.I.Source.left c.args.source.now) c.in-Ok.stored c.in-Ok.ensures.given
          c.in-Ok.ensures.may c.in-Ok.ensures.takes c.as_slice.result.now same c.in-Ok.ensures.suits;
      may = stored-may c.args.volume c.choose_stored.new.volume c.in-Ok.ensures.same c.in-Ok.ensures.later c.args.path.now (g.I.Source.left c.args.source.now) c.in-Ok.stored c.in-Ok.ensures.given
          c.in-Ok.ensures.may c.in-Ok.ensures.takes c.as_slice.result.now same;
    }

pub returns-in-Ok-clause-stores : goal.returns-in-Ok-clause-stores
returns-in-Ok-clause-stores g c =
    let same : c.as_slice.result.now ≡ c.in-Ok.stored.bytes.items = search rules in
    rw (c.ended_put.ensures.told, c.ended_put.ensures.same)
    (is-stored c.args.volume c.choose_stored.new.volume c.in-Ok.ensures.same c.in-Ok.ensures.later c.args.path.now (g.I.Source.left c.args.source.now) c.in-Ok.stored c.in-Ok.ensures.given
    c.in-Ok.ensures.may c.in-Ok.ensures.takes c.as_slice.result.now same c.args.time c.in-Ok.ensures.time c.store_bytes.result.volume c.store_bytes.result.result c.store_bytes.ensures.changes c.store_bytes.ensures.inode c.store_bytes.ensures.quiet c.store_bytes.ensures.cause)

pub returns-in-Err-clause-stores : goal.returns-in-Err-clause-stores
returns-in-Err-clause-stores g c =
    not-stored c.args.volume c.choose_stored.new.volume c.in-Err.ensures.same c.in-Err.ensures.later c.args.path.now (g.I.Source.left c.args.source.now) c.args.time c.in-Err.fault c.in-Err.ensures.cause c.in-Err.ensures.takes
