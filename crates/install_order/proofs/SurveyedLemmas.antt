-- A value that was looked at, once its names are settled.
use Rattle.std.proofs.Common.{◌≡◌, ◌==◌, ◌⊎◌, ℕ, Bool, true, false, not, List, [], codes, None, Result, Ok, refl, sym, ap, subst, inl, inr}
use Rattle.std.specs.Prelude.{is_some, nat_eq, Option, Some, IfSome}
use Rattle.std.specs.List.{list_all, starts_with}
use Rattle.std.proofs.lemmas.Bool.{and_parts}
use Rattle.disk_trait.specs.declared.disks.Span.{Span}
use Rattle.disk_trait.specs.declared.disks.Disks.{Ghosts}
use Rattle.disk_trait.specs.Moments.{IsTold, now}
use Rattle.disk_trait.specs.Past.{Image, Told}
use Rattle.disk_trait.proofs.MomentLemmas.{told_now, told_or_not}
use Rattle.lilo_model.specs.Conf.{Config}
use Rattle.lilo_model.specs.ConfLawful.{IsLawful, IsPath}
use Rattle.lilo_model.specs.ConfValues.{is_path}
use Rattle.lilo_model.specs.Disks.{Machine}
use Rattle.lilo_model.specs.MinixParts as volumes
use Rattle.lilo_model.specs.Settled as model
use Rattle.lilo_conf.specs.View.{config_view}
use Rattle.lilo_conf.specs.declared.config.Config as declared
use Rattle.mbr_table.specs.declared.device.Device.{Device}
use Rattle.minix_names.specs.Component.{HasNoZero}
use Rattle.mbr_table.specs.View.{device_view}
use Rattle.minix_layout.specs.declared.superblock.Super.{Super}
use Rattle.minix_choice.specs.declared.write_fault.WriteFault.{WriteFault}
use Rattle.minix_zones.specs.View.{span_view}
use Rattle.minix_zones.specs.Volume.{volume_view, past_of, SameVolume}
use Rattle.minix_zones.specs.declared.volume.Volume.{Volume}
use Rattle.minix_zones.proofs.SameLemmas.{told_forth}
use Rattle.sector_address.specs.Machine.{machine_of}
use Rattle.install_apart.proofs.NoZeroLemmas.{no-zero}
use Rattle.install_laws.specs.InstallVerdict.{Begun}
use Rattle.install_settle.specs.Found.{AreNamesNow, MaySettle}
use Rattle.install_settle.specs.Settles.{Settles}
use Rattle.install_settle.proofs.RenameLemmas.{leaves-untold}
use Rattle.install_order.specs.Answers.{IsKnown, Leaves}
use Rattle.install_order.specs.Begins.{FitsVolume, IsBegun, IsSurveyed, AnswersClear}
use Rattle.install_order.specs.Checks.{IsExamined}
use Rattle.install_order.specs.View.{begun_of}
use Rattle.install_order.specs.declared.surveyed.Surveyed.{Surveyed}
use Rattle.install_order.specs.declared.examination.Examined.{Examined}
use Rattle.install_order.proofs.BeginLemmas.{apart-copy, outside, begins-left, begins-done, answers-clear}

module _ {D : Type 0} {disks : Ghosts D} (s : Surveyed D disks) (off : s.settled ≡ false) (known : IsKnown s) where
  abbrev pub begun_here : Begun
  begun_here = begun_of s.volume s.config s.device s.boot

  abbrev Now : Image
  Now = now (past_of s.volume)

  abbrev Here : Machine
  Here = machine_of disks s.volume.disks.now

  pub examined : IsTold (past_of s.volume) → IsExamined Now Here (volume_view s.volume) (config_view s.config) (device_view s.device) (span_view s.boot) s.found
  examined told =
      let k = known.known told in
      subst (λ (image : Image). IsExamined image Here (volume_view s.volume) (config_view s.config) (device_view s.device) (span_view s.boot) s.found) (sym (k.is_looked_at off)) k.examined

  pub names_now : IsTold (past_of s.volume) → AreNamesNow s.volume s.found.own
  names_now told =
      let is = examined told in
      record { sound = is.sound; names = is.names; found = is.there; apart = apart-copy Now Here begun_here s.found is }

  may : (told : IsTold (past_of s.volume)) → MaySettle s.volume (examined told).names (is_some s.config.force_backup) s.found.own s.found.settling
  may told =
      let is = examined told in
      record { sound = is.sound; found = is.there; apart = apart-copy Now Here begun_here s.found is; copy = known.fits.copies }

  module _ (new : Volume D disks) (result : Result (Unit {0}) WriteFault)
      (settles : (names : model.OwnNames) (forced : Bool) → (IsTold (past_of s.volume) → MaySettle s.volume names forced s.found.own s.found.settling) → Settles s.volume new names forced s.found.settling result) where
    pub settles_told : (told : IsTold (past_of s.volume)) → Settles s.volume new (examined told).names (is_some s.config.force_backup) s.found.settling result
    settles_told told = settles (examined told).names (is_some s.config.force_backup) (λ t. may told)

    pub leaves_of : Leaves s.volume new begun_here
    leaves_of = by (told_or_not (past_of s.volume))
      where
        by : IsTold (past_of s.volume) ⊎ (IsTold (past_of s.volume) → ⊥) → Leaves s.volume new begun_here
        by (inl told) = record {
          any_moment = begins-left s.volume new Here begun_here s.found refl (examined told) told result (settles_told told);
          outside = λ t. outside s.volume new Here begun_here s.found refl (examined told) told result (settles_told told);
          goes_on = (settles_told told).goes_on;
          kept = (settles_told told).kept;
        }
        by (inr none) =
            let st = settles (record { map = []; backup = None }) false (λ t. absurd (none t)) in
            record {
              any_moment = λ quiet. leaves-untold (past_of s.volume) (past_of new) _ none (λ t. none (st.goes_on.told_before t));
              outside = λ t. absurd (none t);
              goes_on = st.goes_on;
              kept = st.kept;
            }

    pub settled_of : result ≡ Ok tt → IsTold (past_of s.volume) → IsBegun Now Here begun_here s.found (now (past_of new))
    settled_of ok told = begins-done s.volume new Here begun_here s.found refl (examined told) told result (settles_told told) ok

    -- what is known of the value that is answered
    view-same : volume_view new ≡ volume_view s.volume
    view-same = rw (leaves_of.kept.same_span, leaves_of.kept.same_layout) refl

    machine-same : machine_of disks new.disks.now ≡ Here
    machine-same = rw (leaves_of.goes_on.size, leaves_of.goes_on.geometry) refl

    begun-same : begun_of new s.config s.device s.boot ≡ begun_here
    begun-same = ap (λ (v : volumes.Volume). record { volume = v; config = config_view s.config; boot = device_view s.device; span = span_view s.boot }) view-same

    pub fits_of : FitsVolume new.layout (is_some s.config.force_backup) s.found
    fits_of = subst (λ (l : Super). FitsVolume l (is_some s.config.force_backup) s.found) (sym leaves_of.kept.same_layout) known.fits

    surveyed-here : (ok : result ≡ Ok tt) → IsTold (past_of s.volume) → IsSurveyed (now (past_of new)) Here begun_here s.found true
    surveyed-here ok told = record {
      entry = Now;
      examined = examined told;
      is_settled = λ on. settled_of ok told;
      is_looked_at = λ off. absurd (clash off);
    }
      where
        clash : true ≡ false → ⊥
        clash off = cc

    pub surveyed_of : result ≡ Ok tt → IsTold (past_of new) → IsSurveyed (now (past_of new)) (machine_of disks new.disks.now) (begun_of new s.config s.device s.boot) s.found true
    surveyed_of ok told =
        subst (λ (m : Machine). IsSurveyed (now (past_of new)) m (begun_of new s.config s.device s.boot) s.found true) (sym machine-same)
        (subst (λ (b : Begun). IsSurveyed (now (past_of new)) Here b s.found true) (sym begun-same) (surveyed-here ok (leaves_of.goes_on.told_before told)))

-- ---- a value that is looked at

-- a path has no zero byte
path-called : (text : List ℕ) → IsPath text → HasNoZero text
unfolding is_path
path-called text is =
    no-zero text (and_parts (starts_with nat_eq text (codes "/")) (list_all (λ byte. not (byte == 0)) text) is.path).1

pub map_called : (config : Config) → IsLawful config → HasNoZero config.map
map_called config lawful = path-called config.map lawful.map

some-called : (path : Option (List ℕ)) → IfSome path IsPath → IfSome path HasNoZero
some-called None is = tt
some-called (Some path) is = path-called path is

pub backup_path_called : (config : Config) → IsLawful config → IfSome config.backup HasNoZero
backup_path_called config lawful = some-called config.backup lawful.backup

pub forced_path_called : (config : Config) → IsLawful config → IfSome config.force_backup HasNoZero
forced_path_called config lawful = some-called config.force_backup lawful.force_backup

module _ {D : Type 0} {disks : Ghosts D} (old new : Volume D disks) (same : SameVolume old new) where
  pub on_disks_forth : (P : volumes.Volume → Machine → Image → Type 0)
      → Told (past_of old) (P (volume_view old) (machine_of disks old.disks.now)) → Told (past_of new) (P (volume_view new) (machine_of disks new.disks.now))
  on_disks_forth P told =
      let machine : machine_of disks new.disks.now ≡ machine_of disks old.disks.now = rw (same.same_disks.same_size, same.same_disks.same_geometry) refl in
      subst (λ (m : Machine). Told (past_of new) (P (volume_view new) m)) (sym machine)
      (told_forth old new (λ volume image. P volume (machine_of disks old.disks.now) image) same told)

  pub fits_forth : (forced : Bool) (found : Examined) → FitsVolume old.layout forced found → FitsVolume new.layout forced found
  fits_forth forced found fits = subst (λ (l : Super). FitsVolume l forced found) (sym same.same_layout) fits

  pub looked_at : (config : declared.Config) (device : Device) (boot : Span) (found : Examined)
      → Told (past_of old) (λ image. IsExamined image (machine_of disks old.disks.now) (volume_view old) (config_view config) (device_view device) (span_view boot) found)
      → IsTold (past_of new) → IsSurveyed (now (past_of new)) (machine_of disks new.disks.now) (begun_of new config device boot) found false
  looked_at config device boot found examined told = record {
    entry = now (past_of new);
    examined = told_now (past_of new) _
        (on_disks_forth (λ volume machine image. IsExamined image machine volume (config_view config) (device_view device) (span_view boot) found) examined) told;
    is_settled = λ on. absurd (clash on);
    is_looked_at = λ off. refl;
  }
    where
      clash : false ≡ true → ⊥
      clash on = cc

-- what holds of the device that there is
pub some_by : (o : Option Device) (device : Device) → o ≡ Some device → (P : Device → Type 0) → P device → IfSome o P
some_by o device is P p = subst (λ (o : Option Device). IfSome o P) (sym is) p

-- whether the map is Clear, of what was found
pub says_clear : {D : Type 0} {disks : Ghosts D} (old : Volume D disks) (config : declared.Config) (device : Device) (boot : Span) (found : Examined)
    → Told (past_of old) (λ image. IsExamined image (machine_of disks old.disks.now) (volume_view old) (config_view config) (device_view device) (span_view boot) found)
    → IsTold (past_of old) → AnswersClear (now (past_of old)) (machine_of disks old.disks.now) (begun_of old config device boot) found.clear
says_clear {D} {disks} old config device boot found examined told =
    answers-clear (now (past_of old)) (machine_of disks old.disks.now) (begun_of old config device boot) found (told_now (past_of old) _ examined told)
