-- The bytes, then the choice.
use Rattle.std.proofs.Common.{◌≡◌, ℕ, List, Err, subst, rules}
use Rattle.minix_create.specs.declared.chosen.Chosen.{Chosen}
use Rattle.minix_zones.specs.Volume.{volume_view, past_of}
use Rattle.ldisk_files.specs.Stored.{GivesRoom}
use Rattle.ldisk_files.proofs.StoredLemmas.{read-room, chosen-room}
use Rattle.ldisk_files.proofs.stored.choose_given.Goals as goal

pub returns-in_err-bytes-clause-room : goal.returns-in_err-bytes-clause-room
returns-in_err-bytes-clause-room g c =
    let given : c.from_residual.result ≡ Err (c.in_err-bytes.field-0.0) = search rules in
    rw given
    (read-room (past_of c.args.volume.now) (volume_view c.args.volume.now) c.args.place.now (g.I.Source.left c.args.source.now) (c.in_err-bytes.field-0.0) c.in_err-bytes.ensures.refused)

pub returns-in-Err-clause-room : goal.returns-in-Err-clause-room
returns-in-Err-clause-room g c =
    let same : c.as_slice.result.now ≡ c.in_ok-bytes.bytes.items = search rules in
    chosen-room (past_of c.args.volume.now) (volume_view c.args.volume.now) c.args.place.now (g.I.Source.left c.args.source.now) c.in_ok-bytes.bytes.items c.in_ok-bytes.ensures.given c.in-Err.fault
    (subst (λ (bytes : List ℕ). GivesRoom {B = Chosen} (past_of c.args.volume.now) (volume_view c.args.volume.now) c.args.place.now bytes (Err c.in-Err.fault)) same c.in-Err.ensures.room)
