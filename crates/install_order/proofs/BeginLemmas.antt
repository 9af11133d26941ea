-- What a beginning leaves, from what settling does.
use Rattle.std.proofs.Common.{◌≡◌, ◌&&◌, ◌||◌, ◌↔◌, ℕ, Bool, true, false, not, List, Option, None, Some, Result, Ok, Err, OnOk, refl, sym, ◌∙◌, ap, subst, inr}
use Rattle.std.proofs.lemmas.Bool.{and_parts, false≢true}
use Rattle.std.specs.Prelude.{IfSome, IsErr, is_some}
use Rattle.disk_trait.specs.declared.disks.Disks.{Ghosts}
use Rattle.disk_trait.specs.Moments.{IsTold, now, IsQuiet, LeavesOnly}
use Rattle.disk_trait.specs.NotWritten.{NotWritten}
use Rattle.disk_trait.specs.Past.{Image}
use Rattle.disk_trait.proofs.MomentLemmas.{leaves_weaker}
use Rattle.disk_trait.proofs.NotWrittenLemmas.{not_written_stays}
use Rattle.lilo_model.specs.BootSector.{boot_at}
use Rattle.lilo_model.specs.Clear.{Clear}
use Rattle.lilo_model.specs.Conf.{Config}
use Rattle.lilo_model.specs.Devices.{Device}
use Rattle.lilo_model.specs.Disks.{Machine, DiskSector}
use Rattle.lilo_model.specs.MinixFindNames.{Names}
use Rattle.lilo_model.specs.MinixNames.{names_in}
use Rattle.lilo_model.specs.MinixParts as volumes
use Rattle.lilo_model.specs.MinixParts.{parts_of, ZoneFault}
use Rattle.lilo_model.specs.MinixLayout.{Inode}
use Rattle.lilo_model.specs.MinixWalk.{Visit, visits}
use Rattle.lilo_model.specs.NamePlaces.{with_tilde}
use Rattle.lilo_model.specs.Settled as model
use Rattle.lilo_model.specs.Settled.{PathRefusal, Finishes, Held, is_foreign, own_names, stale_backup, settled}
use Rattle.boot_laws.proofs.Mapped.{same_mapped_law}
use Rattle.minix_sound_laws.proofs.Law.{has-numbers}
use Rattle.minix_choice.specs.declared.write_fault.WriteFault.{WriteFault}
use Rattle.minix_zones.specs.Volume.{volume_view, past_of}
use Rattle.minix_zones.specs.declared.volume.Volume.{Volume}
use Rattle.install_laws.specs.Boots.{HasBootOf}
use Rattle.install_laws.specs.InstallVerdict.{Begun, InstallRefusal, holds_table, is_clear, is_holder, is_to_finish, inode_of, is_of_places}
use Rattle.install_laws.specs.Writes.{IsWritable, IsApartSector}
use Rattle.install_laws.proofs.ClearTest.{clear_test_law}
use Rattle.install_laws.proofs.Writes.{writes_only_law}
use Rattle.install_stage_laws.specs.BeginLaws.{GainsNothing, IsNoneOfMap, WritesNothingElse}
use Rattle.install_stage_laws.proofs.Apart.{apart_backup_law, apart_boot_law, sound-passes}
use Rattle.install_stage_laws.proofs.Spared.{leaves_both, outside_stays_law, spared_law, clear_again_law}
use Rattle.install_order.proofs.Holder.{finish_law}
use Rattle.present_map.specs.Clear.{clear_answer}
use Rattle.present_map.specs.Old.{IsOldMap}
use Rattle.install_settle.specs.Found.{IsApartCopy, is_anything, is_copy_there, is_some_left, left_map}
use Rattle.install_settle.specs.Settles.{finishes, stale_of, SettlesRight, IsSettling, IsSettledIn, Settles}
use Rattle.install_settle.specs.declared.settling.LeftMap.{LeftMap}
use Rattle.install_settle.specs.declared.settling.LeftMap.TheVariants.{Absent}
use Rattle.install_settle.proofs.FoundLemmas.{none-holds}
use Rattle.install_order.specs.Begins.{AreApartNames, HasNothingLeft, LiesThere, IsBeginning, IsBegun, AnswersClear}
use Rattle.install_order.specs.Checks.{IsExamined, begin_checks}
use Rattle.install_order.specs.declared.examination.Examined.{Examined}

abbrev said : {A F : Type 0} → A → Result A F
said value = Ok value

pub value-is : {A F : Type 0} → (found value : A) → said {A = A} {F = F} found ≡ said value → found ≡ value
value-is found value is = cc

-- where the boot sector is this project's own, no backup is made
no-backup : (names : Names) (config : Config) (device : Device) (own : model.OwnNames) → own_names names config device false ≡ Ok own → own.backup ≡ None
unfolding own_names
no-backup names config device own is = by (Rattle.lilo_model.specs.Checks.with_fault (model.refused_path config.map) (model.replaceable_name names true config.map)) is
  where
    by : (map : Result (List (List ℕ)) PathRefusal)
        → Rattle.lilo_model.specs.Checks.◌>>=◌ map (λ map. said (record { map = map; backup = None })) ≡ Ok own → own.backup ≡ None
    by (Ok map) is = sym (ap (λ (o : model.OwnNames). o.backup) (value-is (record { map = map; backup = None }) own is))
    by (Err fault) is = cc

-- ---- what is settled is right

finishes-left : (rename there : Bool) → finishes (left_map rename there) ≡ rename
finishes-left true there = refl
finishes-left false true = refl
finishes-left false false = refl

module _ (image : Image) (machine : Machine) (begun : Begun) (found : Examined) (is : IsExamined image machine begun.volume begun.config begun.boot begun.span found) where
  abbrev forced : Bool
  forced = is_some begun.config.force_backup

  abbrev foreign : Bool
  foreign = is_foreign (image begun.span.disk begun.span.start)

  own-alone : foreign ≡ false → is.names.backup ≡ None
  own-alone own = no-backup (names_in begun.volume image) begun.config begun.boot is.names
      (subst (λ (f : Bool). own_names (names_in begun.volume image) begun.config begun.boot f ≡ Ok is.names) own is.are)

  -- without a backup no copy is removed
  no-copy : foreign ≡ false → found.settling.copy ≡ false
  no-copy own = is.settling.copy ∙ (ap (λ (b : Option (List (List ℕ))). forced && is_copy_there image begun.volume b) (own-alone own) ∙ none forced)
    where
      none : (f : Bool) → (f && false) ≡ false
      none true = refl
      none false = refl

  pub right : SettlesRight image machine begun.volume begun.span is.names.map found.settling
  right = record {
    holder = subst (Finishes image machine begun.volume begun.span is.names.map)
        (sym (ap finishes is.settling.map ∙ finishes-left rename (is_some (inode_of image begun.volume (with_tilde is.names.map)))))
        (finish_law begun.volume image machine begun.span is.names.map (has-numbers begun.volume image begun.volume.span.count (sound-passes begun.volume image is.sound)) is.sound);
    foreign = by foreign refl;
  }
    where
      rename : Bool
      rename = is_to_finish image machine begun.volume (visits begun.volume.layout (parts_of begun.volume image)) begun.span is.names.map

      by : (f : Bool) → foreign ≡ f → found.settling.copy ≡ true → foreign ≡ true
      by true same copy = same
      by false same copy = let none = no-copy same in cc

  -- ---- the checks up to settling pass

  pub checks_pass : begin_checks image machine begun.volume begun.config begun.boot begun.span ≡ Ok is.names
  unfolding begin_checks
  checks_pass = rw (is.surveyed, is.apart, is.are, is.may) refl

  pub none_refused : IsErr (begin_checks image machine begun.volume begun.config begun.boot begun.span) → ⊥
  none_refused refused = false≢true (subst (λ (r : Result model.OwnNames InstallRefusal). IsErr r) checks_pass refused)

  -- ---- where nothing is left

  abbrev Walk : Inode → List (Result Visit ZoneFault)
  Walk = visits begun.volume.layout (parts_of begun.volume image)

  not-finished : (there : Option ℕ) → inode_of image begun.volume (with_tilde is.names.map) ≡ there → is_some there ≡ false
      → is_to_finish image machine begun.volume Walk begun.span is.names.map ≡ false
  unfolding is_holder
  not-finished None same absent =
      ap (λ (h : Bool). h && not (is_holder image machine begun.volume Walk begun.span is.names.map))
      (ap (λ (o : Option ℕ). holds_table image machine begun.volume Walk (boot_at (image begun.span.disk begun.span.start)) o) same
      ∙ none-holds image machine begun.volume Walk (boot_at (image begun.span.disk begun.span.start)))
  not-finished (Some number) same absent = cc

  -- there is nothing to settle
  pub nothing_to_settle : HasNothingLeft image begun → is_anything found.settling ≡ false
  nothing_to_settle none =
      let same : none.names ≡ is.names = value-is none.names is.names (sym none.are ∙ is.are) in
      let absent = subst (λ (n : model.OwnNames). is_some (inode_of image begun.volume (with_tilde n.map)) ≡ false) same none.map in
      let copy = subst (λ (n : model.OwnNames). (forced && is_copy_there image begun.volume n.backup) ≡ false) same none.copy in
      let map-is : found.settling.map ≡ Absent =
      is.settling.map
      ∙ (ap (λ (f : Bool). left_map f (is_some (inode_of image begun.volume (with_tilde is.names.map))))
      (not-finished (inode_of image begun.volume (with_tilde is.names.map)) refl absent)
      ∙ ap (left_map false) absent) in
      ap (λ (m : LeftMap). is_some_left m || found.settling.copy) map-is ∙ (is.settling.copy ∙ copy)

  -- ---- what is known of what may be settled

  pub backup-apart : AreApartNames is.names
  backup-apart = apart_backup_law image machine begun.volume begun.config begun.boot foreign is.names is.apart is.are

  pub apart-copy : IsApartCopy is.names
  apart-copy = by is.names.backup backup-apart
    where
      by : (backup : Option (List (List ℕ))) → IfSome backup (λ backup. IsNoneOfMap is.names.map backup × IsNoneOfMap is.names.map (with_tilde backup))
          → IfSome backup (λ backup. IsNoneOfMap is.names.map (with_tilde backup))
      by None apart = tt
      by (Some backup) apart = apart.1

  -- ---- an image that is left

  module _ (c : Image) (settling : IsSettling begun.volume image is.names forced found.settling c)
      (outside : (d s : ℕ) → IsApartSector begun.volume d s → c d s ≡ image d s)
      (others : found.settling.copy ≡ false → WritesNothingElse begun.volume image c) where
    boot-stays : LiesThere image machine begun → HasBootOf begun.span image c
    boot-stays there = outside begun.span.disk begun.span.start
        (apart_boot_law image machine begun.volume begun.config begun.boot begun.span is.sound is.apart there)

    pub beginning : IsBeginning image machine begun c
    beginning = record {
      sound = λ sound. settling.sound;
      names = inr (record { names = is.names; are = is.are; apart = backup-apart; left = found.settling.map; holder = right.holder; has = settling.has });
      boot = boot-stays;
      held = λ there names are held.
          let same : names ≡ is.names = value-is names is.names (sym are ∙ is.are) in
          subst (λ (n : model.OwnNames). Held c machine begun.volume begun.span n.map) (sym same)
          (settling.held machine begun.span right (boot-stays there) (subst (λ (n : model.OwnNames). Held image machine begun.volume begun.span n.map) same held));
      spared = λ there clear. spared_law begun.volume machine begun.span image c (boot-stays there) (λ own. others (no-copy own)) clear;
    }

  -- ---- once it is settled

  module _ (c : Image) (done : IsSettledIn begun.volume image is.names forced found.settling c) (left : IsBeginning image machine begun c) (gains : GainsNothing begun.volume image c)
      (apart : (d s : ℕ) → IsApartSector begun.volume d s → c d s ≡ image d s) where
    stale-same : (f : Bool) → foreign ≡ f → stale_of forced is.names ≡ stale_backup f (stale_of forced is.names)
    stale-same true same = refl
    stale-same false same = by forced
      where
        by : (asked : Bool) → stale_of asked is.names ≡ None
        by true = own-alone same
        by false = refl

    map-stays : LiesThere image machine begun → Clear begun.volume image machine begun.span → IsOldMap begun.volume c machine begun.span found.old
    map-stays there clear = record {
      foreign = is.old.foreign ∙ sym (ap is_foreign (left.boot there));
      same_volume = is.old.same_volume;
      zones = λ zone. is.old.zones zone ∙ ap (λ (places : List DiskSector). is_of_places begun.volume places zone) (sym (same_mapped_law image c machine begun.span (left.spared there clear)));
    }

    pub begun-is : IsBegun image machine begun found c
    begun-is = record {
      was_sound = is.sound;
      sound = done.sound;
      left = left;
      names = is.names;
      are = is.are;
      settled = record {
        finishes = finishes found.settling.map;
        holder = right.holder;
        is = λ name. done.has name ∙ ap (λ (s : Option (List (List ℕ))). settled (finishes found.settling.map) is.names.map s (names_in begun.volume image) name) (stale-same foreign refl);
      };
      copies = λ copy. (and_parts _ _ (sym is.settling.copy ∙ copy)).0;
      paths = done.paths;
      file = done.file;
      keeps = done.keeps;
      gains = gains;
      outside = apart;
      clear = λ there clear. clear_again_law begun.volume machine begun.span image c clear (left.spared there clear) gains;
      map = map-stays;
    }

-- ---- a run

module _ {D : Type 0} {disks : Ghosts D} (old new : Volume D disks) (machine : Machine) (begun : Begun) (found : Examined) (at : begun.volume ≡ volume_view old)
    (is : IsExamined (now (past_of old)) machine begun.volume begun.config begun.boot begun.span found) (told : IsTold (past_of old))
    (result : Result (Unit {0}) WriteFault) (settles : Settles old new is.names (is_some begun.config.force_backup) found.settling result) where
  abbrev Was : Image
  Was = now (past_of old)

  abbrev Left : Image → Type 0
  Left = IsSettling begun.volume Was is.names (is_some begun.config.force_backup) found.settling

  abbrev Outside : Image → Type 0
  Outside c = (d s : ℕ) → IsApartSector begun.volume d s → c d s ≡ Was d s

  pub outside : (d s : ℕ) → IsApartSector begun.volume d s → NotWritten (past_of old) (past_of new) d s
  outside d s apart = settles.apart told d s (subst (λ v. IsApartSector v d s) at apart)

  others : found.settling.copy ≡ false → (place : DiskSector) → (IsWritable begun.volume Was (λ zone. false) place → ⊥) → NotWritten (past_of old) (past_of new) place.disk place.sector
  others copy place not = settles.others told copy place (λ may. not (subst (λ v. IsWritable v Was (λ zone. false) place) (sym at) may))

  moments : IsQuiet (past_of old) → LeavesOnly (past_of old) (past_of new) Left
  moments quiet = subst (λ v. LeavesOnly (past_of old) (past_of new) (IsSettling v Was is.names (is_some begun.config.force_backup) found.settling)) (sym at) (settles.any_moment quiet)

  pub begins-left : IsQuiet (past_of old) → LeavesOnly (past_of old) (past_of new) (IsBeginning Was machine begun)
  begins-left quiet = by found.settling.copy refl
    where
      stays : LeavesOnly (past_of old) (past_of new) Outside
      stays = outside_stays_law begun.volume (past_of old) (past_of new) quiet outside

      both : LeavesOnly (past_of old) (past_of new) (λ c. Left c × Outside c)
      both = leaves_both (past_of old) (past_of new) Left Outside (moments quiet) stays

      clash : found.settling.copy ≡ true → found.settling.copy ≡ false → ⊥
      clash on off = let both : true ≡ false = sym on ∙ off in cc

      by : (copy : Bool) → found.settling.copy ≡ copy → LeavesOnly (past_of old) (past_of new) (IsBeginning Was machine begun)
      by true same = leaves_weaker (past_of old) (past_of new) _ _ both (λ c two. beginning Was machine begun found is c two.0 two.1 (λ off. absurd (clash same off)))
      by false same = leaves_weaker (past_of old) (past_of new) _ _
          (leaves_both (past_of old) (past_of new) _ (WritesNothingElse begun.volume Was) both (writes_only_law begun.volume (λ zone. false) (past_of old) (past_of new) quiet (others same)))
          (λ c three. beginning Was machine begun found is c three.0.0 three.0.1 (λ off. three.1))

  -- what the disks hold now
  stays-outside : Outside (now (past_of new))
  stays-outside d s apart = (not_written_stays (past_of old) (past_of new) d s (outside d s apart)).0

  pub begins-now : IsBeginning Was machine begun (now (past_of new))
  begins-now = beginning Was machine begun found is (now (past_of new))
      (subst (λ v. IsSettling v Was is.names (is_some begun.config.force_backup) found.settling (now (past_of new))) (sym at) (settles.left told))
      stays-outside
      (λ copy place not. (not_written_stays (past_of old) (past_of new) place.disk place.sector (others copy place not)).0)

  pub begins-done : result ≡ Ok tt → IsBegun Was machine begun found (now (past_of new))
  begins-done ok = begun-is Was machine begun found is (now (past_of new))
      (subst (λ v. IsSettledIn v Was is.names (is_some begun.config.force_backup) found.settling (now (past_of new))) (sym at)
      (subst (λ (r : Result (Unit {0}) WriteFault). OnOk r (IsSettledIn (volume_view old) Was is.names (is_some begun.config.force_backup) found.settling (now (past_of new)))) ok (settles.done told)))
      begins-now
      (subst (λ (v : volumes.Volume). GainsNothing v Was (now (past_of new))) (sym at)
      (subst (λ (r : Result (Unit {0}) WriteFault). OnOk r (GainsNothing (volume_view old) Was (now (past_of new)))) ok (settles.gains told)))
      stays-outside

-- ---- whether the map is Clear

module _ (image : Image) (machine : Machine) (begun : Begun) (found : Examined) (is : IsExamined image machine begun.volume begun.config begun.boot begun.span found) where
  answers-by : (foreign : Bool) → is_foreign (image begun.span.disk begun.span.start) ≡ foreign → (clear : Bool) → ((clear ≡ true) ↔ Clear begun.volume image machine begun.span)
      → AnswersClear image machine begun (clear_answer foreign clear)
  answers-by true same clear test = same
  answers-by false same clear test = (same, test)

  pub answers-clear : AnswersClear image machine begun found.clear
  answers-clear = subst (AnswersClear image machine begun) (sym is.clear)
      (answers-by (is_foreign (image begun.span.disk begun.span.start)) refl (is_clear begun.volume image is.met machine begun.span)
      (clear_test_law begun.volume image machine begun.span is.met (has-numbers begun.volume image begun.volume.span.count (sound-passes begun.volume image is.sound)) is.surveyed))
