-- The room, then its places.
use Rattle.std.proofs.Common.{◌≡◌, Err, rules}
use Rattle.disk_trait.proofs.ToldLemmas.{told_map}
use Rattle.lilo_model.specs.MinixParts.{parts_of}
use Rattle.lilo_conf.specs.View.{config_view}
use Rattle.map_plan.specs.Sound.{machine_for}
use Rattle.minix_zones.specs.View.{span_view}
use Rattle.minix_zones.specs.Volume.{volume_view, past_of, faults_of}
use Rattle.install_room.specs.Room.{room_for}
use Rattle.install_order.proofs.PlanLemmas.{of_plan, room_refused, places_refused}
use Rattle.install_order.proofs.planning.place_map.Goals as goal

pub returns-in_err-room-clause-places : goal.returns-in_err-room-clause-places
returns-in_err-room-clause-places g c =
    let volume = c.args.volume.now in
    let fault = c.in_err-room.field-0.0 in
    let is : c.from_residual.result ≡ Err fault = search rules in
    rw is
    (told_map (past_of volume) _ _ (λ now gives fits names places as-found.
    room_refused (machine_for volume) (config_view c.args.plan.now.config) (room_for (volume_view volume) (parts_of (volume_view volume) now) places names c.args.wish) fault (gives fits names places as-found))
    c.in_err-room.ensures.room)

pub check_room-requires : goal.check_room-requires
check_room-requires g c =
    (of_plan (span_view c.args.volume.now.span) c.in_ok-room.room.map.choice.blocks c.args.wish.sectors c.in_ok-room.room c.in_ok-room.ensures.places c.args.plan.now c.requires.disk).disk

pub returns-in-Ok-clause-of_plan : goal.returns-in-Ok-clause-of_plan
returns-in-Ok-clause-of_plan g c =
    of_plan (span_view c.args.volume.now.span) c.in_ok-room.room.map.choice.blocks c.args.wish.sectors c.in_ok-room.room c.in_ok-room.ensures.places c.args.plan.now c.requires.disk

pub returns-in-Ok-clause-places : goal.returns-in-Ok-clause-places
returns-in-Ok-clause-places g c =
    told_map (past_of c.args.volume.now) _ _ (λ now gives fits names places as-found. record {
      is = gives fits names places as-found;
      check = c.in-Ok.ensures.decided (machine_for c.args.volume.now) c.requires.geometries;
    }) c.in_ok-room.ensures.room

pub returns-in-Err-clause-places : goal.returns-in-Err-clause-places
returns-in-Err-clause-places g c =
    let volume = c.args.volume.now in
    told_map (past_of volume) _ _ (λ now gives fits names places as-found.
    places_refused (machine_for volume) (config_view c.args.plan.now.config) (room_for (volume_view volume) (parts_of (volume_view volume) now) places names c.args.wish) c.in_ok-room.room c.in-Err.fault
    (gives fits names places as-found) (c.in-Err.ensures.decided (machine_for volume) c.requires.geometries)) c.in_ok-room.ensures.room

pub returns-in-Err-clause-cause : goal.returns-in-Err-clause-cause
returns-in-Err-clause-cause g c = c.in-Err.ensures.cause (faults_of c.args.volume.now) (faults_of c.find_wished.new.volume)

pub returns-in-Ok-clause-own : goal.returns-in-Ok-clause-own
returns-in-Ok-clause-own g c = c.in-Ok.ensures.decided (machine_for c.args.volume.now) c.requires.geometries
