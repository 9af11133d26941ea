-- What is planned may be staged, where names are settled.
use Rattle.std.proofs.Common.{◌≡◌, ◌≤◌, ◌<◌, ◌+◌, ◌*◌, ◌^◌, ℕ, Bool, true, false, not, is_some, List, length, Option, None, Some, Result, Ok, Err, refl, sym, ◌∙◌, ap, subst, subst₂, arith}
use Rattle.std.specs.Prelude.{All, IfSome}
use Rattle.std.specs.List.{AllByRecursion}
use Rattle.disk_trait.specs.declared.disks.Disks.{Ghosts}
use Rattle.disk_trait.specs.declared.disks.Span as spans
use Rattle.disk_trait.specs.Moments.{IsTold, now}
use Rattle.disk_trait.specs.Past.{Past, Told}
use Rattle.disk_trait.proofs.MomentLemmas.{told_now}
use Rattle.lilo_model.specs.Checks.{with_fault}
use Rattle.lilo_model.specs.ConfLawful.{IsLawful}
use Rattle.lilo_model.specs.ConfOptions.{Opt}
use Rattle.lilo_model.specs.Disks.{Image, Machine, DiskSector}
use Rattle.lilo_model.specs.Mapped.{mapped_sectors}
use Rattle.lilo_model.specs.MinixEntries.{is_dots}
use Rattle.lilo_model.specs.MinixNames.{IsSound}
use Rattle.lilo_model.specs.MinixParts.{Parts, Volume, parts_of, is_directory}
use Rattle.lilo_model.specs.NamePlaces.{with_tilde}
use Rattle.lilo_model.specs.Plan.{Plan}
use Rattle.lilo_model.specs.PlanRefusal.{plan_at}
use Rattle.lilo_model.specs.Planned.{planned}
use Rattle.lilo_model.specs.Settled as model
use Rattle.lilo_conf.specs.View.{config_view}
use Rattle.lilo_conf.specs.declared.config.Config as configs
use Rattle.map_laws.specs.Accepted.{AreSmall, HasVolume, IsAccepted, IsInside}
use Rattle.map_sectors.specs.Map.{plan_view}
use Rattle.mbr_table.specs.View.{device_view}
use Rattle.mbr_table.specs.declared.device.Device as devices
use Rattle.map_sectors.proofs.SmallLemmas.{plan_small}
use Rattle.minix_steps.proofs.BitmapLemmas.{fits}
use Rattle.minix_create.specs.Chosen.{Suits, new_inode}
use Rattle.minix_create.specs.Several.{IsHeldIn}
use Rattle.minix_create.specs.declared.chosen.Chosen.{Chosen}
use Rattle.minix_layout.specs.View.{super_view}
use Rattle.minix_names.specs.Component.{IsFileName}
use Rattle.minix_steps.specs.Written.{parts_now}
use Rattle.minix_zones.specs.View.{span_view}
use Rattle.minix_zones.specs.Volume.{volume_view, past_of, SameVolume}
use Rattle.minix_zones.proofs.SameLemmas.{same_view}
use Rattle.sector_address.specs.Machine.{machine_of}
use Rattle.install_apart.specs.Apart.{device_checks}
use Rattle.install_apart.specs.Own.{AreInside, AreOwnTwins, IsBackupNamed}
use Rattle.install_apart.specs.declared.own.OwnNames.{OwnNames}
use Rattle.install_apart.specs.declared.name.NamePair.{NamePair}
use Rattle.install_stage.specs.BackupStages.{HasOtherName, MayReplace}
use Rattle.install_stage_laws.specs.BeginLaws.{IsNoneOfMap}
use Rattle.install_laws.specs.InstallVerdict.{NotApart, last_name, made_backup, sectors_of_blocks}
use Rattle.install_stage.specs.Within.{AreDataZones, AreFreeZones, IsFreeFile, is_chosen}
use Rattle.install_stage.proofs.Within.{free_promised, zones_data}
use Rattle.install_room.specs.Making.{LieNow, MayMakeBackup, MayMakeRoom}
use Rattle.install_room.specs.Names.{AreNamesOf, backup_of}
use Rattle.install_room.specs.Room.{AreTaken, IsRoomFor, KeepsOut, SuitRoom, places_view}
use Rattle.install_room.specs.declared.room.RoomWish.{RoomWish}
use Rattle.install_room.proofs.FreeLemmas.{moved, told_stays}
use Rattle.install_room.proofs.MakingLemmas.{may_make_room}
use Rattle.install_stage.specs.MapFile.{IsMapRoom}
use Rattle.install_stage.specs.Stages.{MayStageRoom}
use Rattle.install_stage_laws.specs.Staged.{AreFree}
use Rattle.install_order.specs.Answers.{IsKnown, begun_in}
use Rattle.install_order.specs.Plans.{ArePlaced, AreSurveyed, IsBackupPlaced, IsPlanned, IsPlannedFor, devices_again}
use Rattle.install_order.specs.Stageable.{AreWhole, HasFiles, IsReady, IsWishedRoom, LieWhereSound, MayStage, MayStageNow, MayTakeMap, path_made, room_zones, wish_for}
use Rattle.install_order.specs.declared.planned.Planned.{Planned}
use Rattle.install_order.specs.declared.surveyed.Surveyed.{Surveyed}
use Rattle.install_order.proofs.BeginLemmas.{backup-apart, value-is}
use Rattle.install_order.proofs.DeviceLemmas.{device_inside}
use Rattle.install_order.proofs.NamedLemmas.{AreHere, known_surveyed, none_of_map, surveyed_found, surveyed_here, surveyed_placed}
use Rattle.install_order.proofs.PlanLemmas.{sound_now}
use Rattle.install_order.proofs.StageLemmas.{regular, whole-file, backup_file, backup_whole, backup_directory, each-backup, no-directory, zone_below, all_inside, places_of_file, room_avoids, room_zones_free, made_apart, other_names, staged_backup, plan_is, plan_again}

-- a check that passes with another refusal passes
apart-again : (given : Result (Unit {0}) Opt) → with_fault NotApart given ≡ Ok tt → given ≡ Ok tt
apart-again (Ok done) is = refl
apart-again (Err opt) is = cc

-- ---- the files

-- what is planned is for what was surveyed, and its room is the one that was wished
module _ {D : Type 0} {disks : Ghosts D} (s : Surveyed D disks) (planned' : Planned D disks) (held : IsPlannedFor s planned')
    (wished : IsWishedRoom planned'.volume s.found (wish_for (is_some s.config.force_backup) (not s.settled) s.time planned'.room) planned'.room)
    (suits : SuitRoom planned'.volume.layout planned'.volume.span planned'.room) (on : All (λ place. place.disk ≡ planned'.plan.disk) planned'.room.places.items) where
  abbrev Asked : RoomWish
  Asked = wish_for (is_some s.config.force_backup) (not s.settled) s.time planned'.room

  same-wish : Asked ≡ wish_for (is_some planned'.plan.config.force_backup) (not planned'.settled) planned'.time planned'.room
  same-wish = rw (held.config_is, held.settled_is, held.time_is) refl

  module _ (known : IsKnown s) (same : SameVolume s.volume planned'.volume) where
    pub has_files : HasFiles planned'
    has_files = record {
      made = subst₂ (λ (own : OwnNames) (wish : RoomWish). IsRoomFor own wish planned'.room) (sym held.own_is) same-wish wished.made;
      suits = suits;
      map = regular planned'.volume.layout planned'.volume.span s.found.own.map.tilde (512 * length planned'.room.places.items) s.time planned'.room.map suits.map wished.made.map;
      backup = backup_file planned'.volume.layout planned'.volume.span s.time (backup_of (is_some s.config.force_backup) s.found.own.backup) planned'.room.backup suits.backup wished.made.backup;
      disk = on;
      lies = wished.lies ∙ places_of_file (span_view planned'.volume.span) planned'.room.map (length planned'.room.places.items) suits.map.begins;
      holes = wished.whole;
      inside = subst₂ AreInside (sym same.same_layout) (sym held.own_is) known.fits.inside;
      twins = subst AreOwnTwins (sym held.own_is) known.fits.twins;
      called = subst (λ (own : OwnNames). IsFileName own.map.plain.name) (sym held.own_is) known.fits.called;
      backup_called = subst (λ (own : OwnNames). IsBackupNamed own.backup) (sym held.own_is) known.fits.backup_called;
    }

  -- ---- where it is told

  module _ (known : IsKnown s) (same : SameVolume s.volume planned'.volume) (of : planned'.plan.disk ≡ planned'.volume.span.disk) (small : s.time < 2 ^ 32) (lie : LieWhereSound planned'.volume s.found.own)
      (told : IsTold (past_of s.volume)) (is : IsPlanned (now (past_of s.volume)) (machine_of disks s.volume.disks.now) s planned')
      (names : model.OwnNames) (places : List DiskSector) (are : AreSurveyed (now (past_of s.volume)) (machine_of disks s.volume.disks.now) s names places) where
    abbrev Is : Image
    Is = now (past_of s.volume)

    abbrev On : Machine
    On = machine_of disks s.volume.disks.now

    abbrev View : Volume
    View = volume_view planned'.volume

    view-is : View ≡ volume_view s.volume
    view-is = same_view s.volume planned'.volume same

    told-still : IsTold (past_of planned'.volume)
    told-still = told_stays s.volume planned'.volume same told

    -- the names lie there
    names-apart : IfSome names.backup (λ path. IsNoneOfMap names.map path × IsNoneOfMap names.map (with_tilde path))
    names-apart =
        let same-names : are.survey.examined.names ≡ names = value-is are.survey.examined.names names (sym are.survey.examined.are ∙ are.own) in
        subst (λ (n : model.OwnNames). IfSome n.backup (λ path. IsNoneOfMap n.map path × IsNoneOfMap n.map (with_tilde path))) same-names
        (backup-apart are.survey.entry On (begun_in s) s.found are.survey.examined)

    lie-now : LieNow planned'.volume names (is_some s.config.force_backup) s.found.own
    lie-now =
        let sound = moved s.volume planned'.volume same (λ view image. IsSound view image) (sound_now s known told) in
        let found = moved s.volume planned'.volume same (λ view image. AreNamesOf view.layout (parts_of view image) names s.found.own) (surveyed_found Is On s known names places are).are in
        let placed = moved s.volume planned'.volume same (λ view image. ArePlaced view.layout (parts_of view image) names s.found.own) (surveyed_placed Is On s known names places are) in
        let there = lie told-still sound names placed in
        record {
          told = told-still;
          sound = sound;
          are = found;
          map = there.map.tilde;
          backup = there.backup;
          apart = made_apart (super_view planned'.volume.layout) (parts_now planned'.volume) names.map (is_some s.config.force_backup) names.backup names-apart;
        }

    kept : KeepsOut View places s.found.old
    kept = subst (λ (v : Volume). KeepsOut v places s.found.old) (sym view-is) are.keeps

    makes : s.settled ≡ true → MayMakeRoom planned'.volume names (is_some s.config.force_backup) planned'.room
    makes settled =
        may_make_room planned'.volume planned'.room names s.found.own Asked View places wished.made (wished.beside places kept).free (ap not settled) lie-now

    -- what is chosen for each file is free
    map-free : s.settled ≡ true → IsFreeFile planned'.volume planned'.room.map
    map-free settled = record {
      suits = suits.map;
      free = (makes settled).map.free;
      file = no-directory planned'.volume.layout planned'.volume.span s.found.own.map.tilde (512 * length planned'.room.places.items) s.time planned'.room.map suits.map wished.made.map;
    }

    backup-free : s.settled ≡ true → IfSome planned'.room.backup (IsFreeFile planned'.volume)
    backup-free settled =
        by (made_backup (super_view planned'.volume.layout) (parts_now planned'.volume) (is_some s.config.force_backup) names.backup) planned'.room.backup
        suits.backup (makes settled).backup
        (backup_directory planned'.volume.layout planned'.volume.span s.time (backup_of (is_some s.config.force_backup) s.found.own.backup) planned'.room.backup suits.backup wished.made.backup)
      where
        by : (path : Option (List (List ℕ))) (backup : Option Chosen) → IfSome backup (Suits planned'.volume.layout planned'.volume.span) → MayMakeBackup planned'.volume path backup
            → IfSome backup (λ chosen. is_directory (new_inode chosen) ≡ false) → IfSome backup (IsFreeFile planned'.volume)
        by path None suit may file = tt
        by None (Some chosen) suit may file = absurd may
        by (Some path) (Some chosen) suit may file = record { suits = suit; free = may.free; file = file }

    -- its zones are data zones, and none is marked
    backup-data : s.settled ≡ true → IfSome planned'.room.backup (λ chosen. AreDataZones View.layout (is_chosen chosen))
    backup-data settled = each-backup (IsFreeFile planned'.volume) (λ chosen. AreDataZones View.layout (is_chosen chosen)) (zones_data planned'.volume) planned'.room.backup (backup-free settled)

    zones-free : s.settled ≡ true → AreFree View Is (room_zones planned'.room)
    zones-free settled =
        let taken = (wished.beside places kept).free.taken told-still in
        let past-is : parts_now planned'.volume ≡ parts_of View Is = ap (λ (past : Option Past). parts_of View (now past)) same.same_disks.same_past in
        subst (λ (p : Parts). AreFreeZones View.layout p (room_zones planned'.room)) past-is
        (room_zones_free View.layout (parts_now planned'.volume) planned'.room
        (free_promised planned'.volume planned'.room.map (map-free settled) taken.last taken.promised taken.map_held)
        (by taken planned'.room.backup (backup-free settled) taken.backup_held))
      where
        by : (taken : AreTaken planned'.volume planned'.room.backup planned'.room.map) (backup : Option Chosen) → IfSome backup (IsFreeFile planned'.volume) → IfSome backup (IsHeldIn taken.last)
            → IfSome backup (λ chosen. AreFreeZones View.layout (parts_now planned'.volume) (is_chosen chosen))
        by taken None free held = tt
        by taken (Some chosen) free held = free_promised planned'.volume chosen free taken.last taken.promised held

    here : AreHere (super_view planned'.volume.layout) (parts_now planned'.volume) names s.found.own
    here = moved s.volume planned'.volume same (λ view image. AreHere view.layout (parts_of view image) names s.found.own) (surveyed_here Is On s known names places are)

    -- what is at the backup's path may be replaced
    over : IfSome names.backup (MayReplace planned'.volume)
    over = by names.backup s.found.own.backup refl refl here.placed.backup
      where
        by : (path : Option (List (List ℕ))) (pair : Option NamePair) → names.backup ≡ path → s.found.own.backup ≡ pair
            → IsBackupPlaced (super_view planned'.volume.layout) (parts_now planned'.volume) path pair → IfSome path (MayReplace planned'.volume)
        by None pair one two placed = tt
        by (Some path) None one two placed = absurd placed
        by (Some path) (Some pair) one two placed = let is = here.file path pair one two in record { plain = is.plain; file = is.file }

    -- and so may the map
    takes : MayTakeMap (super_view planned'.volume.layout) (parts_now planned'.volume) names.map planned'.own.map.plain
    takes =
        let place = here.placed.map.plain in
        subst (λ (own : OwnNames). MayTakeMap (super_view planned'.volume.layout) (parts_now planned'.volume) names.map own.map.plain) (sym held.own_is)
        (record { place = place; named = subst (λ (name : List ℕ). is_dots name ≡ false) (ap last_name place.is) here.map.plain; former = here.map.file })

    -- the map has neither of the backup's names
    others : s.settled ≡ true → IfSome names.backup (λ path. IfSome planned'.room.backup (λ chosen. HasOtherName path chosen planned'.room.map))
    others settled =
        other_names planned'.volume lie-now.told lie-now.sound names.map s.found.own.map.tilde lie-now.map planned'.room.map (512 * length planned'.room.places.items) s.time wished.made.map
        (is_some s.config.force_backup) names.backup s.found.own.backup planned'.room.backup known.fits.twins.1 lie-now.backup names-apart wished.made.backup (makes settled).names_differ

    -- its files are whole
    whole : AreWhole planned'.room
    whole =
        let each = wished.whole told-still in
        record {
          map = whole-file planned'.volume.layout planned'.volume.span s.found.own.map.tilde (512 * length planned'.room.places.items) s.time planned'.room.map suits.map wished.made.map
              (length planned'.room.places.items) refl each.map;
          backup = backup_whole planned'.volume.layout planned'.volume.span s.time (backup_of (is_some s.config.force_backup) s.found.own.backup) planned'.room.backup suits.backup wished.made.backup each.backup;
        }

    -- the plan's checks accepted the places
    volume-there : HasVolume On View
    volume-there =
        let v = planned'.volume in
        let zones = (fits (super_view v.layout) v.span.count v.whole.passes).zones_fit in
        let on-disk : v.span.start + v.span.count ≤ On.size_of v.span.disk =
        subst (λ (size : ℕ → ℕ). v.span.start + v.span.count ≤ size v.span.disk) same.same_disks.same_size v.on_disk in
        record {
          geometries = λ disk.
              let g = disks.geometry_of s.volume.disks.now disk in
              record { some_head = g.some_heads; most_heads = g.few_heads; some_sector = g.some_sectors; most_sectors = g.few_sectors };
          disk = subst (λ (disk : ℕ). disk ≤ 3) of planned'.plan.disk_is;
          zones = omega (arith, zones, on-disk);
        }

    planned-is : plan_view planned'.plan ≡ planned Is On View (config_view planned'.plan.config) planned'.time
    planned-is =
        let at = plan_is Is On (volume_view s.volume) (span_view s.boot) (config_view s.config) s.time (plan_view planned'.plan) is.chosen.map.is in
        let P : Volume → configs.Config → ℕ → Type 0 = λ view config time. planned Is On view (config_view config) time ≡ plan_view planned'.plan in
        sym (subst (λ (v : Volume). P v planned'.plan.config planned'.time) (sym view-is)
        (subst (λ (c : configs.Config). P (volume_view s.volume) c planned'.time) (sym held.config_is) (subst (P (volume_view s.volume) s.config) (sym held.time_is) at)))

    -- it is what is planned there
    abbrev IsPlanAt : Volume → spans.Span → configs.Config → ℕ → Type 0
    IsPlanAt view boot config time = plan_at Is On view (span_view boot) (config_view config) time ≡ Ok (planned Is On view (config_view config) time)

    plan-at : IsPlanAt View planned'.boot planned'.plan.config planned'.time
    plan-at =
        let at = plan_again Is On (volume_view s.volume) (span_view s.boot) (config_view s.config) s.time (plan_view planned'.plan) is.chosen.map.is in
        subst (λ (v : Volume). IsPlanAt v planned'.boot planned'.plan.config planned'.time) (sym view-is)
        (subst (λ (boot : spans.Span). IsPlanAt (volume_view s.volume) boot planned'.plan.config planned'.time) (sym held.boot_is)
        (subst (λ (c : configs.Config). IsPlanAt (volume_view s.volume) s.boot c planned'.time) (sym held.config_is)
        (subst (IsPlanAt (volume_view s.volume) s.boot s.config) (sym held.time_is) at)))

    accepted : IsAccepted Is On View (span_view planned'.boot) (config_view planned'.plan.config) planned'.time (places_view planned'.room)
    accepted =
        let v = planned'.volume in
        let zones = fits (super_view v.layout) v.span.count v.whole.passes in
        let first = zones.below in
        let places-on = all_inside On (span_view v.span) v.layout.zones planned'.room.map.choice.blocks volume-there.disk volume-there.zones
        (zone_below v.layout v.span planned'.room.map suits.map (omega (arith, first))) (length planned'.room.places.items) in
        record {
          lawful = subst (λ (c : configs.Config). IsLawful (config_view c)) (sym held.config_is) known.lawful;
          has = volume-there;
          devices = device_inside Is On;
          small = subst (λ (plan : Plan). AllByRecursion AreSmall plan.sections) planned-is (plan_small planned'.plan);
          time_fits = rw held.time_is small;
          plan = plan-at;
          inside = subst (AllByRecursion (IsInside On)) (sym wished.lies) places-on;
          own = is.chosen.own.check;
        }

    -- its devices are apart
    devices-apart : s.settled ≡ true → device_checks Is On View (config_view planned'.plan.config) (device_view planned'.device) ≡ Ok tt
    devices-apart settled =
        let again : devices_again false Is On (volume_view s.volume) (config_view s.config) (device_view s.device) ≡ Ok tt =
        subst (λ (b : Bool). devices_again (not b) Is On (volume_view s.volume) (config_view s.config) (device_view s.device) ≡ Ok tt) settled is.devices in
        subst (λ (v : Volume). device_checks Is On v (config_view planned'.plan.config) (device_view planned'.device) ≡ Ok tt) (sym view-is)
        (subst (λ (c : configs.Config). device_checks Is On (volume_view s.volume) (config_view c) (device_view planned'.device) ≡ Ok tt) (sym held.config_is)
        (subst (λ (d : devices.Device). device_checks Is On (volume_view s.volume) (config_view s.config) (device_view d) ≡ Ok tt) (sym held.device_is)
        (apart-again (device_checks Is On (volume_view s.volume) (config_view s.config) (device_view s.device)) again)))

    pub may_stage : s.settled ≡ true → MayStage Is On names places planned'
    may_stage settled = record {
      devices = devices-apart settled;
      makes = subst (λ (c : configs.Config). MayMakeRoom planned'.volume names (is_some c.force_backup) planned'.room) (sym held.config_is) (makes settled);
      whole = whole;
      plan_is = planned-is;
      lies = record { plan_is = is.chosen.map.accepted; places_are = is.chosen.own };
      accepted = accepted;
      free = zones-free settled;
      avoids = room_avoids View places planned'.room ((wished.beside places kept).avoids told-still) (zones_data planned'.volume planned'.room.map (map-free settled)) (backup-data settled);
      over = over;
      apart = none_of_map names.map names.backup names-apart;
      others = others settled;
      takes = takes;
      present = subst (λ (boot : spans.Span). planned'.present ≡ Is boot.disk boot.start) (sym held.boot_is) is.chosen.present;
    }

-- ---- as a call asks for it

module _ {D : Type 0} {disks : Ghosts D} (image : Image) (machine : Machine) (names : model.OwnNames) (places : List DiskSector) (planned' : Planned D disks) (files : HasFiles planned')
    (may : MayStage image machine names places planned') where
  map-room : IsMapRoom planned'.volume machine names.map planned'.room.map planned'.plan planned'.room.places.items
  map-room =
      let v = planned'.volume in
      let count = may.lies.places_are.count in
      record {
        may = may.makes.map;
        solid = may.whole.map.each;
        size = may.whole.map.size ∙ ap (λ (n : ℕ). 512 * n) count;
        lies = may.lies;
        are = files.lies
            ∙ (sym (places_of_file (span_view v.span) planned'.room.map (length planned'.room.places.items) files.suits.map.begins)
            ∙ ap (sectors_of_blocks (span_view v.span) planned'.room.map.choice.blocks) count);
      }

  -- its files may be made one after the other
  pub stageable : MayStageRoom planned'.volume machine (path_made planned'.room.backup names.backup) names.map (is_some planned'.plan.config.force_backup) planned'.plan planned'.room
  stageable = record {
    backup_may =
        staged_backup planned'.volume (is_some planned'.plan.config.force_backup) names.map names.backup planned'.room.backup planned'.room.map
        may.makes.backup may.over may.makes.apart may.others may.apart;
    map_may = map-room;
  }

-- ---- for some names and places

module _ {D : Type 0} {disks : Ghosts D} (s : Surveyed D disks) (planned' : Planned D disks) (known : IsKnown s) (held : IsPlannedFor s planned') (same : SameVolume s.volume planned'.volume) (files : HasFiles planned')
    (may : Told (past_of s.volume) (λ image. (names : model.OwnNames) (places : List DiskSector) → AreSurveyed image (machine_of disks s.volume.disks.now) s names places
    → s.settled ≡ true → MayStage image (machine_of disks s.volume.disks.now) names places planned')) where
  stage-now : IsTold (past_of planned'.volume) → planned'.settled ≡ true → MayStageNow planned'
  stage-now told settled =
      let was = subst IsTold same.same_disks.same_past told in
      let surveyed = known_surveyed s known was in
      let names = (known.known was).examined.names in
      let places = mapped_sectors (known.known was).entry (machine_of disks s.volume.disks.now) (span_view s.boot) in
      let here = told_now (past_of s.volume) (λ image. (names : model.OwnNames) (places : List DiskSector) → AreSurveyed image (machine_of disks s.volume.disks.now) s names places
      → s.settled ≡ true → MayStage image (machine_of disks s.volume.disks.now) names places planned') may was names places surveyed (sym held.settled_is ∙ settled) in
      let machine-is : machine_of disks planned'.volume.disks.now ≡ machine_of disks s.volume.disks.now = rw (same.same_disks.same_size, same.same_disks.same_geometry) refl in
      let may-now = subst₂ (λ (past : Option Past) (machine : Machine). MayStage (now past) machine names places planned') (sym same.same_disks.same_past) (sym machine-is) here in
      record {
        names = names;
        places = places;
        may = may-now;
        room = stageable (now (past_of planned'.volume)) (machine_of disks planned'.volume.disks.now) names places planned' files may-now;
      }

  pub is_ready : IsReady planned'
  is_ready = record { files = files; may = stage-now }
