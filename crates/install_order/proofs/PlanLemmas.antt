-- What is planned, from what the calls below answered.
use Rattle.std.proofs.Common.{◌≡◌, ◌≢◌, ◌≤◌, ◌+◌, ◌*◌, ◌/◌, ℕ, Bool, true, false, not, List, [], ◌∷◌, codes, length, map, is_some, Option, None, Some, Result, Ok, Err, refl, sym, ◌∙◌, ap, subst, All, arith}
use Rattle.std.specs.Prelude.{IfOk, IfErr}
use Rattle.std.specs.Option.{option_map}
use Rattle.std.specs.List.{AllByRecursion, range_with_len}
use Rattle.std.proofs.lemmas.List.Elements.{All-append, All-from_recursion}
use Rattle.std.proofs.lemmas.List.{length-map}
use Rattle.std.proofs.lemmas.List.FromFn.{length-range_with_len}
use Rattle.disk_trait.specs.declared.disks.Disks.{Ghosts}
use Rattle.disk_trait.specs.Moments.{IsTold, now}
use Rattle.disk_trait.specs.Past.{Image, Past, Told}
use Rattle.lilo_model.specs.Checks.{◌>>=◌, with_fault}
use Rattle.lilo_model.specs.Conf.{Config}
use Rattle.lilo_model.specs.Devices.{Device}
use Rattle.lilo_model.specs.Disks.{Machine, Span, DiskSector}
use Rattle.lilo_model.specs.MinixNames.{IsSound}
use Rattle.lilo_model.specs.MinixParts.{Volume, parts_of}
use Rattle.lilo_model.specs.Plan.{map_size}
use Rattle.lilo_model.specs.PlanRefusal as plans
use Rattle.lilo_model.specs.PlanRefusal.{plan_at, own_places_check}
use Rattle.lilo_model.specs.Settled as model
use Rattle.lilo_conf.specs.View.{config_view}
use Rattle.map_plan.specs.View as plan_views
use Rattle.map_sectors.specs.Map.{plan_view}
use Rattle.map_sectors.specs.Places.{AreOwnPlaces}
use Rattle.map_sectors.specs.declared.map.MapPlan.{MapPlan}
use Rattle.mbr_table.specs.View.{device_view}
use Rattle.minix_layout.specs.declared.superblock.Super.{Super}
use Rattle.minix_zones.specs.View.{span_view}
use Rattle.minix_zones.specs.Volume.{volume_view, past_of}
use Rattle.slot_lists.specs.Made.{place_view}
use Rattle.slot_lists.specs.declared.slots.DiskSector as slots
use Rattle.install_apart.specs.Names.{AreTwins}
use Rattle.install_apart.specs.Own.{IsBackupNamed, IsBackupTwins}
use Rattle.install_apart.specs.declared.name.NamePair.{NamePair}
use Rattle.install_apart.proofs.NoZeroLemmas.{no-zero}
use Rattle.install_laws.specs.InstallVerdict.{InstallRefusal, NoPlan, NoRoom, sectors_of_blocks}
use Rattle.install_room.specs.Names.{IsCalled, IsBackupCalled, AreCalled}
use Rattle.install_room.specs.Room.{room_for, places_view}
use Rattle.install_room.specs.declared.room.Room.{Room}
use Rattle.install_room.specs.declared.room.RoomWish.{RoomWish}
use Rattle.minix_names.specs.Component.{IsFileName, HasNoZero}
use Rattle.install_order.specs.Answers.{IsKnown}
use Rattle.install_order.specs.Begins.{FitsVolume}
use Rattle.install_order.specs.Faults.{Refuses, HasInstallCause}
use Rattle.install_order.specs.Plans.{AreChosen, ArePlaced, ArePlaces, AreSurveyed, GivesApartChoices, GivesChoices, GivesPlaces, GivesPlacesOf, GivesRoomOf, IsAsFound, IsMap, IsOfPlan, IsPlanOf, IsPlanned, RefusesChecks, RefusesMap, checks_of, devices_again, map_checks, plan_checks, wish_of}
use Rattle.install_order.specs.declared.examination.Examined.{Examined}
use Rattle.install_order.specs.declared.planned.Planned.{Planned}
use Rattle.install_order.specs.declared.planning.Choices.{Choices}
use Rattle.install_order.specs.declared.fault.InstallFault.{InstallFault}
use Rattle.install_order.specs.declared.fault.InstallFault.TheVariants as faults
use Rattle.install_order.specs.declared.surveyed.Surveyed.{Surveyed}
use Rattle.install_order.proofs.AnswerLemmas.{cause-by}
use Rattle.install_order.proofs.NamedLemmas.{surveyed_found, surveyed_placed}
use Rattle.install_order.proofs.RefuseLemmas.{stopped, refuses-then}

-- ---- names

twin-called : (pair : NamePair) → AreTwins pair → IsFileName pair.plain.name → IsCalled pair.tilde
twin-called pair twins named =
    subst HasNoZero (sym twins.name)
    (All-append (λ byte. byte ≢ 0) pair.plain.name (codes "~") named.plain (no-zero (codes "~") refl))

backup-called : (pair : Option NamePair) → IsBackupTwins pair → IsBackupNamed pair → IsBackupCalled pair
backup-called None twins named = tt
backup-called (Some pair) twins named = (named.plain, twin-called pair twins named)

-- what was found has names without a zero byte
pub are_called : (layout : Super) (forced : Bool) (found : Examined) → FitsVolume layout forced found → AreCalled found.own
are_called layout forced found fits =
    (twin-called found.own.map fits.twins.0 fits.called, backup-called found.own.backup fits.twins.1 fits.backup_called)

-- ---- what is known

-- the volume is sound now
pub sound_now : {D : Type 0} {disks : Ghosts D} (s : Surveyed D disks) → IsKnown s → IsTold (past_of s.volume) → IsSound (volume_view s.volume) (now (past_of s.volume))
sound_now s known told = by s.settled refl
  where
    by : (settled : Bool) → s.settled ≡ settled → IsSound (volume_view s.volume) (now (past_of s.volume))
    by true is = ((known.known told).is_settled is).sound
    by false is =
        let k = known.known told in
        subst (IsSound (volume_view s.volume)) (sym (k.is_looked_at is)) k.examined.sound

pub told-by : (past : Option Past) (P : Image → Type 0) → (IsTold past → P (now past)) → Told past P
unfolding IsTold now
told-by None P f = tt
told-by (Some past) P f = f tt

pub sound_told : {D : Type 0} {disks : Ghosts D} (s : Surveyed D disks) → IsKnown s → Told (past_of s.volume) (λ image. IsSound (volume_view s.volume) image)
sound_told s known = told-by (past_of s.volume) (λ image. IsSound (volume_view s.volume) image) (sound_now s known)

-- ---- refusals

pub decided_refuses : (refusal : Option plans.PlanFault) (given : Result (Unit {0}) plans.PlanFault) → Some given ≡ option_map Err refusal → plan_views.IsRefusal refusal given
decided_refuses None given is = tt
decided_refuses (Some why) given is = by given (Err why) is
  where
    by : (one other : Result (Unit {0}) plans.PlanFault) → Some one ≡ Some other → one ≡ other
    by one other same = cc

refuses-more : {A B C : Type 0} (fault : InstallFault) (one : Result A InstallRefusal) (two : A → Result B InstallRefusal) (more : A → B → Result C InstallRefusal)
    → Refuses fault (one >>= two) → Refuses fault (one >>= λ a. two a >>= λ b. more a b)
refuses-more fault (Ok value) two more is = refuses-then fault (two value) (more value) is
refuses-more fault (Err refusal) two more is = is

-- ---- places

module _ (disk start : ℕ) (rest : ℕ → ℕ) where
  lies-on : (items : List slots.DiskSector) (indexes : List ℕ) → map place_view items ≡ map (λ index. record { disk = disk; sector = start + rest index }) indexes
      → AllByRecursion (λ (place : slots.DiskSector). place.disk ≡ disk) items
  lies-on [] indexes is = tt
  lies-on (item ∷ items) [] is = absurd (by is)
    where
      by : map place_view (item ∷ items) ≡ [] → ⊥
      by is = cc
  lies-on (item ∷ items) (index ∷ indexes) is =
      (ap (λ (place : DiskSector). place.disk) (parts (place_view item) _ (map place_view items) _ is).0, lies-on items indexes (parts (place_view item) _ (map place_view items) _ is).1)
    where
      parts : (one other : DiskSector) (ones others : List DiskSector) → one ∷ ones ≡ other ∷ others → (one ≡ other) × (ones ≡ others)
      parts one other ones others same = (cc, cc)

same-length : (items : List slots.DiskSector) (places : List DiskSector) → map place_view items ≡ places → length items ≡ length places
same-length items places is = sym (length-map items place_view) ∙ ap length is

-- the sectors of a file lie on its volume's disk
module _ (span : Span) (blocks : List ℕ) (sectors : ℕ) (room : Room) (is : places_view room ≡ sectors_of_blocks span blocks sectors) where
  pub on_disk : All (λ place. place.disk ≡ span.disk) room.places.items
  on_disk = All-from_recursion _ room.places.items (lies-on span.disk span.start _ room.places.items (range_with_len 0 sectors) is)

  pub of_plan : (plan : MapPlan) → plan.disk ≡ span.disk → IsOfPlan plan sectors room
  of_plan plan same = record {
    disk = subst (λ (disk : ℕ). All (λ place. place.disk ≡ disk) room.places.items) (sym same) on_disk;
    count = same-length room.places.items _ is ∙ (length-map (range_with_len 0 sectors) _ ∙ length-range_with_len 0 sectors);
  }

-- ---- room and its places

pub room_refused : (machine : Machine) (config : Config) (given : Result (List DiskSector) Rattle.write_model.specs.Wish.Refusal) (fault : InstallFault) → GivesRoomOf given (Err fault) → GivesPlacesOf machine config given (Err fault)
room_refused machine config given fault is = refuses-then fault (with_fault NoRoom given) _ is

pub places_refused : (machine : Machine) (config : Config) (given : Result (List DiskSector) Rattle.write_model.specs.Wish.Refusal) (room : Room) (fault : InstallFault) → given ≡ Ok (places_view room)
    → Refuses fault (with_fault NoPlan (own_places_check config machine (places_view room))) → GivesPlacesOf machine config given (Err fault)
places_refused machine config given room fault is refused = rw is refused

-- each sector of a map has its place, and that can be named
pub own_places : (machine : Machine) (plan : MapPlan) (room : Room) (bytes : ℕ) → bytes ≡ 512 * map_size (plan_view plan) machine → length room.places.items ≡ bytes / 512
    → own_places_check (config_view plan.config) machine (places_view room) ≡ Ok tt → AreOwnPlaces machine plan room.places.items
own_places machine plan room bytes long count check = record { count = omega (arith, long, count); check = check }

-- ---- the whole

module _ (image : Image) (machine : Machine) (volume : Volume) (config : Config) (span : Span) (time : ℕ) (settled : Bool) (found : Examined) where
  pub no_map : (fault : InstallFault) → Refuses fault (with_fault NoPlan (plan_at image machine volume span config time)) → RefusesMap image machine volume config span time settled found fault
  unfolding map_checks
  no_map fault refused = λ names places is. refuses-then fault (with_fault NoPlan (plan_at image machine volume span config time)) _ refused

  module _ (plan : MapPlan) (is_map : IsMap image machine volume config span time plan) (forced : Bool) (asked : forced ≡ is_some config.force_backup)
      (bytes : ℕ) (long : bytes ≡ 512 * map_size (plan_view plan) machine) where
    abbrev pub Wish : RoomWish
    Wish = record { forced = forced; unsettled = not settled; sectors = bytes / 512; time = time }

    wish-is : Wish ≡ wish_of machine config (not settled) time (plan_view plan)
    wish-is =
        let count : bytes / 512 ≡ map_size (plan_view plan) machine = omega (arith, long) in
        ap (λ (f : Bool). record { forced = f; unsettled = not settled; sectors = bytes / 512; time = time }) asked
        ∙ ap (λ (n : ℕ). record { forced = is_some config.force_backup; unsettled = not settled; sectors = n; time = time }) count

    pub no_places : (fault : InstallFault) → GivesPlaces image machine volume config found Wish (Err fault) → RefusesMap image machine volume config span time settled found fault
    unfolding map_checks
    no_places fault gives = λ names places is.
        let at : RoomWish → Type 0 = λ wish. GivesPlacesOf machine config (room_for volume (parts_of volume image) places names wish) (Err fault) in
        rw is_map.is
        (refuses-more fault (with_fault NoRoom (room_for volume (parts_of volume image) places names (wish_of machine config (not settled) time (plan_view plan))))
        (λ room. with_fault NoPlan (own_places_check config machine room)) (λ room c. Ok room)
        (subst at wish-is (gives names places is)))

    pub has_places : (room : Room) → GivesPlaces image machine volume config found Wish (Ok room) → (names : _) (places : List DiskSector) → IsAsFound image volume places names found
        → ArePlaces machine config (room_for volume (parts_of volume image) places names (wish_of machine config (not settled) time (plan_view plan))) room
    has_places room gives = λ names places is.
        subst (λ (wish : RoomWish). ArePlaces machine config (room_for volume (parts_of volume image) places names wish) room) wish-is (gives names places is)

    -- and the boot sector
    pub finished : (room : Room) (result : Result Choices InstallFault) → IfOk result (λ choices. (choices.plan ≡ plan) × (choices.room ≡ room)) → IfErr result (λ fault. fault ≡ faults.Device)
        → IfOk result (λ choices. choices.present ≡ image span.disk span.start) → AreOwnPlaces machine plan room.places.items → GivesPlaces image machine volume config found Wish (Ok room)
        → GivesChoices image machine volume config span time settled found result
    finished room (Ok choices) kept device present own gives = record {
      map = subst (IsMap image machine volume config span time) (sym kept.0) is_map;
      own = subst (λ (p : MapPlan). AreOwnPlaces machine p choices.room.places.items) (sym kept.0) (subst (λ (r : Room). AreOwnPlaces machine plan r.places.items) (sym kept.1) own);
      places = λ names places is.
          subst (λ (p : MapPlan). ArePlaces machine config (room_for volume (parts_of volume image) places names (wish_of machine config (not settled) time (plan_view p))) choices.room) (sym kept.0)
          (subst (ArePlaces machine config (room_for volume (parts_of volume image) places names (wish_of machine config (not settled) time (plan_view plan)))) (sym kept.1)
          (has_places room gives names places is));
      present = present;
    }
    finished room (Err fault) kept device present own gives = λ names places is.
        subst (λ (f : InstallFault). Refuses f (map_checks image machine volume config span places names (not settled) time)) (sym device)
        (stopped faults.Device (map_checks image machine volume config span places names (not settled) time) tt)

-- ---- once the devices are apart still

module _ (image : Image) (machine : Machine) (volume : Volume) (config : Config) (boot : Device) (span : Span) (time : ℕ) (settled : Bool) (found : Examined) where
  pub not_again : (fault : InstallFault) → Refuses fault (devices_again (not settled) image machine volume config boot) → RefusesChecks image machine volume config boot span time settled found fault
  unfolding plan_checks
  not_again fault refused = λ names places is.
      refuses-then fault (devices_again (not settled) image machine volume config boot) (λ a. map_checks image machine volume config span places names (not settled) time) refused

  pub chosen_again : devices_again (not settled) image machine volume config boot ≡ Ok tt → (result : Result Choices InstallFault)
      → GivesChoices image machine volume config span time settled found result → GivesApartChoices image machine volume config boot span time settled found result
  unfolding plan_checks
  chosen_again again (Ok choices) gives = record { devices = again; chosen = gives }
  chosen_again again (Err fault) gives = λ names places is. rw again (gives names places is)

-- ---- for the names that were surveyed

-- the model's checks pass with what was chosen
module _ (image : Image) (machine : Machine) (volume : Volume) (config : Config) (boot : Device) (span : Span) (time : ℕ) (settled : Bool) (found : Examined) (choices : Choices)
    (again : devices_again (not settled) image machine volume config boot ≡ Ok tt) (chosen : AreChosen image machine volume config span time settled found choices) (names : model.OwnNames)
    (places : List DiskSector) (is : IsAsFound image volume places names found) where
  pub checks-pass : plan_checks image machine volume config boot span places names (not settled) time ≡ Ok (places_view choices.room)
  unfolding plan_checks map_checks
  checks-pass = let at = chosen.places names places is in rw (again, chosen.map.is, at.is, at.check) refl

pub plan_of : {D : Type 0} {disks : Ghosts D} (image : Image) (machine : Machine) (s : Surveyed D disks) (known : IsKnown s) (planned : Planned D disks) → IsPlanned image machine s planned
    → planned.own ≡ s.found.own → (names : model.OwnNames) (places : List DiskSector) → AreSurveyed image machine s names places → IsPlanOf image machine s names places planned
plan_of image machine s known planned is own names places are =
    let found = surveyed_found image machine s known names places are in
    record {
      map = is.chosen.map.is;
      room = (is.chosen.places names places found).is;
      passes = checks-pass image machine (volume_view s.volume) (config_view s.config) (device_view s.device) (span_view s.boot) s.time s.settled s.found
          (record { plan = planned.plan; room = planned.room; present = planned.present }) is.devices is.chosen names places found;
      placed = subst (ArePlaced (volume_view s.volume).layout (parts_of (volume_view s.volume) image) names) (sym own) (surveyed_placed image machine s known names places are);
    }

pub refusal_of : {D : Type 0} {disks : Ghosts D} (image : Image) (machine : Machine) (s : Surveyed D disks) (known : IsKnown s) (fault : InstallFault)
    → RefusesChecks image machine (volume_view s.volume) (config_view s.config) (device_view s.device) (span_view s.boot) s.time s.settled s.found fault
    → (names : model.OwnNames) (places : List DiskSector) → AreSurveyed image machine s names places → Refuses fault (checks_of image machine s names places)
refusal_of image machine s known fault refuses names places are = refuses names places (surveyed_found image machine s known names places are)

-- ---- what stays

pub cause_later : {T : Type 0} (result : Result T InstallFault) (before mid after : ℕ) → before ≤ mid → IfErr result (HasInstallCause mid after) → IfErr result (HasInstallCause before after)
cause_later (Ok value) before mid after later cause = tt
cause_later (Err fault) before mid after later cause = cause-by before mid after fault later cause

-- what holds of a map and its room holds of what was chosen with them
pub if_kept : (result : Result Choices InstallFault) (plan : MapPlan) (room : Room) → IfOk result (λ choices. (choices.plan ≡ plan) × (choices.room ≡ room))
    → (P : MapPlan → Room → Type 0) → P plan room → IfOk result (λ choices. P choices.plan choices.room)
if_kept (Ok choices) plan room kept P p = subst (λ (m : MapPlan). P m choices.room) (sym kept.0) (subst (P plan) (sym kept.1) p)
if_kept (Err fault) plan room kept P p = tt
