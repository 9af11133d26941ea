-- The room that the call for it gives.
use Rattle.disk_trait.proofs.ToldLemmas.{told_map}
use Rattle.lilo_model.specs.MinixParts.{parts_of}
use Rattle.minix_zones.specs.Volume.{volume_view, past_of}
use Rattle.install_room.specs.Room.{room_for}
use Rattle.install_order.proofs.RefuseLemmas.{room-refuses}
use Rattle.install_order.proofs.WishedLemmas.{wished_found}
use Rattle.install_order.proofs.planning.find_wished.Goals as goal

pub returns-in-Ok-clause-room : goal.returns-in-Ok-clause-room
returns-in-Ok-clause-room g c =
    told_map (past_of c.args.volume.now) _ _ (λ now gives fits names places is. gives names places is.keeps is.are) c.in-Ok.ensures.room

pub returns-in-Err-clause-room : goal.returns-in-Err-clause-room
returns-in-Err-clause-room g c =
    let volume = c.args.volume.now in
    rw c.write_refusal.ensures.is
    (told_map (past_of volume) _ _ (λ now gives fits names places is.
    room-refuses c.in-Err.fault (room_for (volume_view volume) (parts_of (volume_view volume) now) places names c.args.wish) (gives names places is.keeps is.are))
    c.in-Err.ensures.room)

pub returns-in-Ok-clause-wished : goal.returns-in-Ok-clause-wished
returns-in-Ok-clause-wished g c =
    wished_found c.args.volume.now c.find_room.new.volume c.in-Ok.ensures.same c.args.found.now c.args.wish c.in-Ok.room
    c.in-Ok.ensures.made c.in-Ok.ensures.whole c.in-Ok.ensures.places c.in-Ok.ensures.free c.in-Ok.ensures.avoids
