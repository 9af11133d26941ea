-- Once its files are staged, an installation means its configuration with the boot sector written.
use Rattle.std.proofs.Common.{◌≡◌, ◌≤◌, ℕ, Bool, true, false, is_some, List, ◌∷◌, length, Option, None, Ok, refl, sym, ◌∙◌, ap, subst, subst₂, arith}
use Rattle.std.specs.Prelude.{IfSome}
use Rattle.std.specs.Option.{option_map}
use Rattle.std.proofs.lemmas.List.{length-map}
use Rattle.disk_trait.specs.declared.disks.Disks.{Ghosts}
use Rattle.disk_trait.specs.declared.disks.Span as spans
use Rattle.disk_trait.specs.Moments.{IsTold, now, IsQuiet}
use Rattle.disk_trait.specs.Past.{Past, with_sector}
use Rattle.lilo_model.specs.Apart.{Apart}
use Rattle.lilo_model.specs.Conf.{Config}
use Rattle.lilo_model.specs.Devices.{Device, IsDevice}
use Rattle.lilo_model.specs.Disks.{Image, Machine, Span, DiskSector, bytes_at}
use Rattle.lilo_model.specs.Mapped.{mapped_sectors}
use Rattle.lilo_model.specs.MinixNames.{names_in, reached}
use Rattle.lilo_model.specs.MinixParts as model
use Rattle.lilo_model.specs.Plan.{Plan, map_size, plan_boot_sector}
use Rattle.lilo_model.specs.Planned as plans
use Rattle.lilo_model.specs.Settled as settles
use Rattle.lilo_model.specs.Settled.{is_foreign}
use Rattle.lilo_conf.specs.View.{config_view}
use Rattle.lilo_conf.specs.declared.config.Config as configs
use Rattle.map_laws.specs.Accepted.{IsAccepted, IsInside}
use Rattle.map_laws.specs.Lies.{MapPlaces, after_line, all_places}
use Rattle.map_sectors.specs.Map.{plan_view}
use Rattle.mbr_table.specs.View.{device_view}
use Rattle.mbr_table.specs.declared.device.Device as devices
use Rattle.minix_zones.specs.View.{span_view}
use Rattle.minix_zones.specs.Volume.{volume_view, past_of}
use Rattle.minix_zones.specs.declared.volume.Volume.{Volume}
use Rattle.slot_lists.specs.Made.{place_view}
use Rattle.install_apart.specs.Apart.{device_checks}
use Rattle.install_join_laws.proofs.Surveyed.{surveyed_apart_law}
use Rattle.install_laws.specs.Headline.{Means}
use Rattle.install_laws.specs.InstallVerdict.{Begun}
use Rattle.install_order.specs.Begins.{AreOwn, IsBegun}
use Rattle.install_order.specs.Stageable.{MayStage, path_made}
use Rattle.install_order.specs.States.{IsStagedFor, StagesFrom, is_forced}
use Rattle.install_order.specs.declared.planned.Planned.{Planned}
use Rattle.install_order.specs.declared.staged.Staged.{Staged}
use Rattle.install_order.specs.declared.surveyed.Surveyed.{Surveyed}
use Rattle.install_order.proofs.DeviceLemmas.{device_inside}
use Rattle.install_order.proofs.ReadyLemmas.{stageable}
use Rattle.install_room.specs.Room.{places_view}
use Rattle.install_stage.specs.Staged.{AreNotReplaced, IsAcceptedPlan, IsStagedRoom}
use Rattle.install_stage.specs.Stages.{StagesRoom, room_zones}
use Rattle.install_stage.proofs.RoomStagedLemmas.{room_staged_law}
use Rattle.install_stage_laws.specs.Staged.{AreFree, IsNewBoot}
use Rattle.install_stage_laws.proofs.Devices.{apart_devices_law}
use Rattle.install_stage_laws.proofs.Staged.{staged_means_law}
use Rattle.install_join_laws.specs.JoinLaws.{InstallationMeansLaw, OfFirst, meant_from}
use Rattle.install_join_laws.specs.Steps.{HasPlanned, IsBegunWith, LiesOnDisks, begun_from, machine_on}
use Rattle.install_join_laws.proofs.Begun.{begun, boot-apart, examined, leaves, may-stage, plan-view-same, told-after}
use Rattle.install_join_laws.proofs.Flushed.{flushed-now, flushed-told, flushed-view}
use Rattle.install_join_laws.proofs.Own.{made-free, not-replaced, own-still}

-- ---- the map's places

-- places that are those of a map
pub record AreMapPlaces (places : List DiskSector) : Type 0 where
  pub at : MapPlaces
  pub are : places ≡ all_places at

-- so are all of which there are enough
five-places : (places : List DiskSector) → 5 ≤ length places → AreMapPlaces places
five-places (line ∷ (one ∷ (two ∷ (three ∷ (zero_place ∷ rest))))) long =
    record { at = record { line = line; one = one; two = two; three = three; zero_place = zero_place; rest = rest }; are = refl }
five-places _ long = absurd (omega (arith, long))

-- a map has that many sectors
five-sectors : (plan : Plan) (machine : Machine) → 5 ≤ map_size plan machine
unfolding map_size
five-sectors plan machine = omega arith

-- ---- what was staged

module _ {D : Type 0} {disks : Ghosts D} (entry : Volume D disks) (config : configs.Config) (boot : spans.Span) (time : ℕ) (surveyed : Surveyed D disks) (planned : Planned D disks)
    (staged : Staged D disks) (is : IsBegunWith entry config boot time surveyed) (has : HasPlanned surveyed planned) (lies : LiesOnDisks entry surveyed) (stages : IsStagedFor planned staged) where
  abbrev View : model.Volume
  View = volume_view entry

  abbrev M : Machine
  M = machine_on entry

  abbrev S : Span
  S = span_view surveyed.boot

  abbrev C : Config
  C = config_view surveyed.config

  abbrev Dev : Device
  Dev = device_view surveyed.device

  abbrev Was : Image
  Was = now (past_of entry)

  abbrev Is : Image
  Is = now (past_of surveyed.volume)

  abbrev From : Begun
  From = begun_from entry surveyed

  abbrev Places : List DiskSector
  Places = places_view planned.room

  -- ---- what was surveyed

  did : IsBegun Was M From surveyed.found Is
  did = begun entry config boot time surveyed is

  pub names : settles.OwnNames
  names = did.names

  pub names-are : AreOwn Was From names
  unfolding names
  names-are = did.are

  abbrev Foreign : Bool
  Foreign = is_foreign (Was S.disk S.start)

  own : settles.own_names (names_in View Is) C Dev Foreign ≡ Ok names
  unfolding names
  own = own-still Was M From surveyed.found Is (examined entry config boot time surveyed is).sound did

  -- each sector is whole still
  whole-now : (place : DiskSector) → IsInside M place → length (bytes_at Is place) ≡ 512
  whole-now place inside =
      let goes-on = (leaves entry config boot time surveyed is).goes_on in
      (goes-on.whole lies.whole).after Is (goes-on.at_now (told-after entry config boot time surveyed is)) place.disk place.sector inside.sector

  -- ---- what was planned

  may : MayStage Is M names (mapped_sectors Was M S) planned
  unfolding names
  may = may-stage entry config boot time surveyed is planned has did.names (mapped_sectors Was M S) did.are (examined entry config boot time surveyed is).old.zones

  forth : (P : model.Volume → spans.Span → configs.Config → ℕ → Type 0) → P (volume_view planned.volume) planned.boot planned.plan.config planned.time → P View surveyed.boot surveyed.config surveyed.time
  forth P p =
      subst (λ (v : model.Volume). P v surveyed.boot surveyed.config surveyed.time) (plan-view-same entry config boot time surveyed is planned has)
      (subst (λ (b : spans.Span). P (volume_view planned.volume) b surveyed.config surveyed.time) has.held.boot_is
      (subst (λ (c : configs.Config). P (volume_view planned.volume) planned.boot c surveyed.time) has.held.config_is
      (subst (λ (t : ℕ). P (volume_view planned.volume) planned.boot planned.plan.config t) has.held.time_is p)))

  devices-apart : device_checks Is M View C Dev ≡ Ok tt
  devices-apart =
      subst (λ (d : devices.Device). device_checks Is M View C (device_view d) ≡ Ok tt) has.held.device_is
      (forth (λ v b c t. device_checks Is M v (config_view c) (device_view planned.device) ≡ Ok tt) may.devices)

  apart : Apart Is M View C Dev
  apart =
      surveyed_apart_law Is M From surveyed.found true
      (record { entry = Was; examined = examined entry config boot time surveyed is; is_settled = λ on. did; is_looked_at = λ off. absurd (clash off) }) devices-apart
    where
      clash : true ≡ false → ⊥
      clash off = cc

  plan-is : plan_view planned.plan ≡ plans.planned Is M View C surveyed.time
  plan-is = forth (λ v b c t. plan_view planned.plan ≡ plans.planned Is M v (config_view c) t) may.plan_is

  accepted : IsAccepted Is M View S C surveyed.time Places
  accepted =
      forth (λ v b c t. IsAccepted Is M v (span_view b) (config_view c) t Places)
      may.accepted

  free : AreFree View Is (room_zones planned.room)
  free = forth (λ v b c t. AreFree v Is (room_zones planned.room)) may.free

  present : planned.present ≡ Is S.disk S.start
  present = forth (λ v b c t. planned.present ≡ Is b.disk b.start) may.present

  pub five : AreMapPlaces Places
  five =
      let some = five-sectors (plan_view planned.plan) M in
      let all = length-map planned.room.places.items place_view in
      let count = may.lies.places_are.count in
      five-places Places (omega (arith, some, all, count))

  abbrev Five : List DiskSector
  Five = all_places five.at

  accepted-plan : IsAcceptedPlan Is M View S C Dev surveyed.time (room_zones planned.room) planned.plan Five
  accepted-plan = record {
    sound = did.sound;
    apart = apart_devices_law Is M View C Dev apart;
    outside = boot-apart entry config boot time surveyed is lies.there;
    whole = whole-now;
    plan_is = plan-is;
    accepted = subst (λ (places : List DiskSector). IsAccepted Is M View S C surveyed.time places) five.are accepted;
    free = free;
  }

  is-device : IsDevice Dev
  is-device = subst (λ (o : Option devices.Device). IfSome (option_map device_view o) IsDevice) is.known.device is.known.lawful.boot

  new-boot : IsNewBoot Is M View S C surveyed.time Five staged.sector
  new-boot = record {
    long = whole-now (record { disk = S.disk; sector = S.start }) (device_inside Was M Dev S is-device lies.there);
    is = subst (λ (places : List DiskSector). staged.sector ≡ plan_boot_sector (plans.planned Is M View C surveyed.time) M places (Is S.disk S.start)) five.are
        (subst₂ (λ (p : Plan) (sector : List ℕ). staged.sector ≡ plan_boot_sector p M Places sector) plan-is present (stages.sector_is M may.lies.plan_is));
  }

  backup : Option (List (List ℕ))
  backup = path_made planned.room.backup names.backup

  none-replaced : AreNotReplaced Is View C backup
  unfolding backup
  none-replaced =
      not-replaced Is M View C Dev Foreign names apart own planned.room.backup names.backup refl
      (λ off.
      subst₂ (λ (v : model.Volume) (p : Option Past). IfSome names.backup (λ path. IfSome planned.room.backup (λ chosen. reached v.layout (model.parts_of v (now p)) path ≡ None)))
      (plan-view-same entry config boot time surveyed is planned has) has.same.same_disks.same_past
      (made-free planned.volume (is_forced planned) names.backup planned.room.backup (ap (λ (c : configs.Config). is_some c.force_backup) has.held.config_is ∙ off) may.makes.backup))

  -- ---- what was staged

  from : StagesFrom planned.volume staged.volume (is_forced planned) planned.present planned.plan planned.room (Ok tt)
  from = stages.stages

  told-plan : IsTold (past_of planned.volume)
  told-plan = subst IsTold (sym has.same.same_disks.same_past) (told-after entry config boot time surveyed is)

  quiet-plan : IsQuiet (past_of planned.volume)
  quiet-plan = subst IsQuiet (sym has.same.same_disks.same_past) is.quiet_after

  pub told-staged : IsTold (past_of staged.volume)
  told-staged = from.goes_on.told told-plan

  calls : StagesRoom from.flushed staged.volume M (is_forced planned) backup planned.present names.map planned.plan planned.room (Ok tt)
  unfolding backup
  calls = from.stages M (path_made planned.room.backup names.backup) names.map (λ t. stageable Is M names (mapped_sectors Was M S) planned has.ready.files may)

  view-flushed : volume_view from.flushed ≡ View
  view-flushed =
      flushed-view planned.volume staged.volume (is_forced planned) planned.present planned.plan planned.room (Ok tt) from told-plan quiet-plan ∙ plan-view-same entry config boot time surveyed is planned has

  now-flushed : now (past_of from.flushed) ≡ Is
  now-flushed =
      flushed-now planned.volume staged.volume (is_forced planned) planned.present planned.plan planned.room (Ok tt) from told-plan quiet-plan
      ∙ ap (λ (p : Option Past). now p) has.same.same_disks.same_past

  to-flushed : (P : model.Volume → Image → Type 0) → P View Is → P (volume_view from.flushed) (now (past_of from.flushed))
  to-flushed P p = subst₂ (λ (v : model.Volume) (i : Image). P v i) (sym view-flushed) (sym now-flushed) p

  -- once they are staged, the new map is there, under its name with `~`
  pub staged-room : IsStagedRoom Is (now (past_of staged.volume)) M View S C Dev surveyed.time (room_zones planned.room) five.at staged.sector names.map
  staged-room =
      subst₂ (λ (v : model.Volume) (i : Image).
      IsStagedRoom i (now (past_of staged.volume)) M v S C Dev surveyed.time (room_zones planned.room) five.at staged.sector names.map) view-flushed now-flushed
      (room_staged_law from.flushed staged.volume planned.plan planned.room M S C Dev surveyed.time five.at staged.sector planned.present (is_forced planned) backup names.map
      (flushed-told planned.volume staged.volume (is_forced planned) planned.present planned.plan planned.room (Ok tt) from told-plan quiet-plan) five.are
      (to-flushed (λ v i. IsAcceptedPlan i M v S C Dev surveyed.time (room_zones planned.room) planned.plan Five) accepted-plan)
      (to-flushed (λ v i. AreNotReplaced i v C backup) none-replaced)
      (to-flushed (λ v i. IsNewBoot i M v S C surveyed.time Five staged.sector) new-boot) calls)

  pub means : Means M S five.at.line (meant_from entry surveyed) (with_sector (now (past_of staged.volume)) S.disk S.start staged.sector)
  means =
      let r = staged-room.is in
      staged_means_law Is (now (past_of staged.volume)) M View S C Dev surveyed.time (room_zones planned.room) five.at staged.sector r.sound r.apart r.outside r.accepted r.map r.boot

  pub first-of : (P : DiskSector → Type 0) → P five.at.line → OfFirst Places P
  first-of P p = record { place = five.at.line; rest = after_line five.at; are = five.are; is = p }

pub installation_means_law : {D : Type 0} (disks : Ghosts D) → InstallationMeansLaw disks
installation_means_law disks entry config boot time surveyed planned staged is has lies stages =
    first-of entry config boot time surveyed planned staged is has lies stages
    (λ place. Means (machine_on entry) (span_view surveyed.boot) place (meant_from entry surveyed) (with_sector (now (past_of staged.volume)) surveyed.boot.disk surveyed.boot.start staged.sector))
    (means entry config boot time surveyed planned staged is has lies stages)
