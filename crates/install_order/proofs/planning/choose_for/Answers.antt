-- The room, its places and the boot sector.
use Rattle.std.proofs.Common.{◌≡◌, ◌≤◌, ℕ, All, not, refl, sym, subst}
use Rattle.std.specs.Prelude.{IfOk}
use Rattle.disk_trait.specs.Past.{Image}
use Rattle.disk_trait.proofs.ToldLemmas.{told_map, told_both}
use Rattle.lilo_model.specs.MinixParts as volumes
use Rattle.lilo_conf.specs.View.{config_view}
use Rattle.map_plan.specs.Sound.{machine_for}
use Rattle.map_sectors.specs.Map.{plan_view}
use Rattle.install_order.proofs.WholeMap.{map_size_law}
use Rattle.minix_layout.specs.View.{kind_view}
use Rattle.minix_zones.specs.View.{span_view}
use Rattle.minix_zones.specs.Volume.{volume_view, past_of, faults_of}
use Rattle.minix_zones.proofs.SameLemmas.{told_back}
use Rattle.write_model.specs.Places.{most_size}
use Rattle.install_room.specs.Room.{SuitRoom}
use Rattle.install_room.specs.declared.room.RoomWish.{RoomWish}
use Rattle.install_order.specs.Stageable.{IsWishedRoom, wish_for}
use Rattle.install_order.proofs.PlanLemmas.{no_places, finished, if_kept, own_places, cause_later}
use Rattle.install_order.proofs.WishedLemmas.{wished_stays}
use Rattle.install_order.proofs.planning.choose_for.Goals as goal

pub returns-in-Err-clause-found : goal.returns-in-Err-clause-found
returns-in-Err-clause-found g c =
    let v = c.args.volume.now in
    let machine = machine_for v in
    let config = config_view c.args.plan.config in
    let span = span_view c.args.boot in
    told_map (past_of v) _ _ (λ now gives sound is.
    let long = c.length-length.ensures machine is.accepted in
    no_places now machine (volume_view v) config span c.args.time c.args.settled c.args.found.now c.args.plan is c.args.forced c.requires.forced c.length-length.result long c.in-Err.fault
    (gives (subst (λ (n : ℕ). n ≤ most_size (kind_view v.layout.kind)) (sym long) (map_size_law now machine (volume_view v) span config c.args.time (plan_view c.args.plan) sound c.requires.lawful is.is))))
    c.in-Err.ensures.places

pub returns-in-Ok-clause-found : goal.returns-in-Ok-clause-found
returns-in-Ok-clause-found g c =
    let v = c.args.volume.now in
    let machine = machine_for v in
    let config = config_view c.args.plan.config in
    let span = span_view c.args.boot in
    let P : volumes.Volume → Image → Type 0 = λ view image. IfOk c.with_present.result (λ choices. choices.present ≡ image c.args.boot.disk c.args.boot.start) in
    told_both (past_of v) _ _ _ (λ now gives present sound is.
    let long = c.length-length.ensures machine is.accepted in
    finished now machine (volume_view v) config span c.args.time c.args.settled c.args.found.now c.args.plan is c.args.forced c.requires.forced c.length-length.result long
    c.in-Ok.room c.with_present.result c.with_present.ensures.kept c.with_present.ensures.fault present
    (own_places machine c.args.plan c.in-Ok.room c.length-length.result long c.in-Ok.ensures.of_plan.count c.in-Ok.ensures.own)
    (gives (subst (λ (n : ℕ). n ≤ most_size (kind_view v.layout.kind)) (sym long) (map_size_law now machine (volume_view v) span config c.args.time (plan_view c.args.plan) sound c.requires.lawful is.is))))
    c.in-Ok.ensures.places (told_back v c.place_map.new.volume P c.in-Ok.ensures.same c.with_present.ensures.present)

pub returns-in-Ok-clause-suits : goal.returns-in-Ok-clause-suits
returns-in-Ok-clause-suits g c =
    if_kept c.with_present.result c.args.plan c.in-Ok.room c.with_present.ensures.kept (λ plan room. SuitRoom c.args.volume.now.layout c.args.volume.now.span room) c.in-Ok.ensures.suits

pub returns-in-Ok-clause-disk : goal.returns-in-Ok-clause-disk
returns-in-Ok-clause-disk g c =
    if_kept c.with_present.result c.args.plan c.in-Ok.room c.with_present.ensures.kept (λ plan room. All (λ place. place.disk ≡ plan.disk) room.places.items) c.in-Ok.ensures.of_plan.disk

pub returns-in-Ok-clause-config : goal.returns-in-Ok-clause-config
returns-in-Ok-clause-config g c =
    if_kept c.with_present.result c.args.plan c.in-Ok.room c.with_present.ensures.kept (λ plan room. plan.config ≡ c.args.plan.config) refl

pub returns-in-Ok-clause-cause : goal.returns-in-Ok-clause-cause
returns-in-Ok-clause-cause g c =
    cause_later c.with_present.result (faults_of c.args.volume.now) (faults_of c.place_map.new.volume) (faults_of c.with_present.new.volume) c.in-Ok.ensures.later c.with_present.ensures.cause

pub returns-in-Ok-clause-volume_disk : goal.returns-in-Ok-clause-volume_disk
returns-in-Ok-clause-volume_disk g c =
    if_kept c.with_present.result c.args.plan c.in-Ok.room c.with_present.ensures.kept (λ plan room. plan.disk ≡ c.args.volume.now.span.disk) c.requires.disk

pub returns-in-Ok-clause-wished : goal.returns-in-Ok-clause-wished
returns-in-Ok-clause-wished g c =
    let mid = c.place_map.new.volume in
    let new = c.with_present.new.volume in
    let room = c.in-Ok.room in
    let W : ℕ → RoomWish = λ sectors. record { forced = c.args.forced; unsettled = not c.args.settled; sectors = sectors; time = c.args.time } in
    let here = subst (λ (sectors : ℕ). IsWishedRoom mid c.args.found.now (W sectors) room) (sym c.in-Ok.ensures.of_plan.count) c.in-Ok.ensures.wished in
    if_kept c.with_present.result c.args.plan room c.with_present.ensures.kept (λ plan room. IsWishedRoom new c.args.found.now (wish_for c.args.forced (not c.args.settled) c.args.time room) room)
    (wished_stays mid new c.with_present.ensures.same c.args.found.now (wish_for c.args.forced (not c.args.settled) c.args.time room) room here)
