-- What is answered of a beginning, from what was looked at and what settling answered.
use Rattle.std.proofs.Common.{◌≡◌, ◌≢◌, ◌≤◌, ℕ, Option, None, Some, Result, Ok, Err, IfOk, IfErr, refl, sym, ◌∙◌, ap, subst, inl, arith}
use Rattle.std.specs.Prelude.{IfSome}
use Rattle.disk_trait.specs.declared.disks.Disks.{Ghosts}
use Rattle.disk_trait.specs.declared.disks.Span.{Span}
use Rattle.disk_trait.specs.Moments.{IsTold, now, IsQuiet, LeavesOnly}
use Rattle.disk_trait.specs.NotWritten.{NotWritten}
use Rattle.disk_trait.specs.Past.{Image, Past, Told}
use Rattle.disk_trait.proofs.CallLemmas.{goes_on_join}
use Rattle.disk_trait.proofs.MomentLemmas.{leaves_none, leaves_weaker}
use Rattle.disk_trait.proofs.NotWrittenLemmas.{not_written_none}
use Rattle.lilo_model.specs.Disks.{Machine}
use Rattle.lilo_model.specs.MinixParts as volumes
use Rattle.lilo_conf.specs.View.{config_view}
use Rattle.lilo_conf.specs.declared.config.Config.{Config}
use Rattle.mbr_table.specs.View.{device_view}
use Rattle.mbr_table.specs.declared.device.Device.{Device}
use Rattle.minix_zones.specs.View.{span_view}
use Rattle.minix_zones.specs.Volume.{volume_view, past_of, faults_of, SameVolume}
use Rattle.minix_zones.specs.declared.volume.Volume.{Volume}
use Rattle.minix_zones.proofs.SameLemmas.{same_view}
use Rattle.minix_zones.proofs.WriteLemmas.{keeps_same, keeps_join, goes_on_unchanged}
use Rattle.sector_address.specs.Machine.{machine_of}
use Rattle.install_laws.specs.InstallVerdict.{Begun}
use Rattle.install_laws.specs.Writes.{IsApartSector}
use Rattle.install_order.specs.Answers.{volume_in, found_in, IsFor, IsLookedAt, Leaves, Promises, SaysClear, Settled}
use Rattle.install_order.specs.Begins.{IsBeginning, IsBegun, AnswersClear}
use Rattle.install_order.specs.Checks.{GivesExamined, begin_checks}
use Rattle.install_order.specs.Faults.{HasInstallCause}
use Rattle.install_order.specs.View.{begun_of}
use Rattle.install_order.specs.declared.examination.Examined.{Examined}
use Rattle.install_order.specs.declared.fault.InstallFault.{InstallFault}
use Rattle.install_order.specs.declared.fault.InstallFault.TheVariants as faults
use Rattle.install_order.specs.declared.halt.Halt.{Halt}
use Rattle.install_order.specs.declared.surveyed.Surveyed.{Surveyed}
use Rattle.install_order.proofs.RefuseLemmas.{stopped}

-- ---- nothing was done

nothing-left : (image : Image) (machine : Machine) (begun : Begun) → IsBeginning image machine begun image
nothing-left image machine begun = record {
  sound = λ sound. sound;
  names = inl (λ path. refl);
  boot = λ there. refl;
  held = λ there names are held. held;
  spared = λ there clear index place below. refl;
}

module _ {D : Type 0} {disks : Ghosts D} (old new : Volume D disks) (same : SameVolume old new) (later : faults_of old ≤ faults_of new) where
  pub leaves_nothing : (begun : Begun) → Leaves old new begun
  leaves_nothing begun = record {
    any_moment = λ quiet. subst (λ (p : Option Past). LeavesOnly (past_of old) p (IsBeginning (now (past_of old)) (machine_of disks old.disks.now) begun)) (sym same.same_disks.same_past)
        (leaves_none (past_of old) _ (λ c left. subst (IsBeginning (now (past_of old)) (machine_of disks old.disks.now) begun) (sym (quiet c left))
        (nothing-left (now (past_of old)) (machine_of disks old.disks.now) begun)));
    outside = λ told d s apart. subst (λ (p : Option Past). NotWritten (past_of old) p d s) (sym same.same_disks.same_past) (not_written_none (past_of old) d s);
    goes_on = goes_on_unchanged old new same later;
    kept = keeps_same old new same;
  }

-- ---- after a call that left the disks alone

module _ {D : Type 0} {disks : Ghosts D} (old mid : Volume D disks) (same : SameVolume old mid) (later : faults_of old ≤ faults_of mid) where
  machine-same : machine_of disks mid.disks.now ≡ machine_of disks old.disks.now
  machine-same = rw (same.same_disks.same_size, same.same_disks.same_geometry) refl

  told-mid : IsTold (past_of old) → IsTold (past_of mid)
  told-mid told = subst IsTold (sym same.same_disks.same_past) told

  -- what is said of what the disks held is said of what they held before it
  pub back : (P : volumes.Volume → Machine → Option Past → Type 0)
      → P (volume_view mid) (machine_of disks mid.disks.now) (past_of mid) → P (volume_view old) (machine_of disks old.disks.now) (past_of old)
  back P p =
      subst (P (volume_view old) (machine_of disks old.disks.now)) same.same_disks.same_past
      (subst (λ (m : Machine). P (volume_view old) m (past_of mid)) machine-same
      (subst (λ (v : volumes.Volume). P v (machine_of disks mid.disks.now) (past_of mid)) (same_view old mid same) p))

pub quiet_forth : {D : Type 0} {disks : Ghosts D} (old mid : Volume D disks) → SameVolume old mid → IsQuiet (past_of old) → IsQuiet (past_of mid)
quiet_forth old mid same quiet = subst IsQuiet (sym same.same_disks.same_past) quiet

-- two pasts of which neither is told
pasts : (one other : Option Past) → (IsTold one → IsTold other) → (IsTold other → ⊥) → one ≡ other
unfolding IsTold
pasts None None before none = refl
pasts (Some past) None before none = absurd (before tt)
pasts one (Some past) before none = absurd (none tt)

-- ---- what settling answered

pub cause-by : (before mid after : ℕ) (fault : InstallFault) → before ≤ mid → HasInstallCause mid after fault → HasInstallCause before after fault
cause-by before mid after (faults.Survey fault) later cause = tt
cause-by before mid after (faults.NotApart opt) later cause = tt
cause-by before mid after (faults.Path text fault) later cause = cause
cause-by before mid after (faults.Plan fault) later cause = cause
cause-by before mid after (faults.Write fault) later cause = cause
cause-by before mid after faults.Device later cause = λ below. let rose = cause below in omega (arith, later, rose)
cause-by before mid after faults.Memory later cause = tt

module _ {D : Type 0} {disks : Ghosts D} (old : Volume D disks) (config : Config) (boot : Span) (time : ℕ) (looked : Surveyed D disks) (same : SameVolume old looked.volume) (later : faults_of old ≤ faults_of looked.volume)
    (settled : Rattle.std.specs.Prelude.Bool) (is_for : IsFor config boot time settled looked) where
  abbrev Here : Begun
  Here = begun_of looked.volume looked.config looked.device looked.boot

  -- what is said for the device that is looked for
  for-device : (P : Device → Type 0) → P looked.device → IfSome config.boot P
  for-device P p = subst (λ (o : Option Device). IfSome o P) (sym is_for.device_is) p

  begun-same : Here ≡ begun_of old config looked.device boot
  begun-same =
      ap (λ (v : volumes.Volume). record { volume = v; config = config_view looked.config; boot = device_view looked.device; span = span_view looked.boot }) (same_view old looked.volume same)
      ∙ (ap (λ (c : Config). begun_of old c looked.device looked.boot) is_for.config_is ∙ ap (begun_of old config looked.device) is_for.boot_is)

  leaves-old : (new : Volume D disks) (begun : Begun) → Leaves looked.volume new begun → Leaves old new begun
  leaves-old new begun leaves = record {
    any_moment = back old looked.volume same later (λ v m p. IsQuiet p → LeavesOnly p (past_of new) (IsBeginning (now p) m begun)) leaves.any_moment;
    outside = back old looked.volume same later (λ v m p. IsTold p → (d s : ℕ) → IsApartSector v d s → NotWritten p (past_of new) d s) leaves.outside;
    goes_on = goes_on_join disks old.disks.now looked.volume.disks.now new.disks.now (goes_on_unchanged old looked.volume same later) leaves.goes_on;
    kept = keeps_join old looked.volume new (keeps_same old looked.volume same) leaves.kept;
  }

  pub leaves_back : (new : Volume D disks) → Leaves looked.volume new Here → IfSome config.boot (λ device. Leaves old new (begun_of old config device boot))
  leaves_back new leaves = for-device (λ device. Leaves old new (begun_of old config device boot)) (subst (Leaves old new) begun-same (leaves-old new Here leaves))

  module _ (result : Result (Surveyed D disks) (Halt D disks)) (held : IfOk result (IsLookedAt looked)) where
    pub settled_back : IfOk result (Settled looked.volume Here) → IfSome config.boot (λ device. IfOk result (Settled old (begun_of old config device boot)))
    settled_back all = for-device (λ device. IfOk result (Settled old (begun_of old config device boot))) (by result all)
      where
        by : (r : Result (Surveyed D disks) (Halt D disks)) → IfOk r (Settled looked.volume Here) → IfOk r (Settled old (begun_of old config looked.device boot))
        by (Ok surveyed) done =
            subst (λ (b : Begun). Settled old b surveyed) begun-same
            (back old looked.volume same later (λ v m p. IsTold p → IsBegun (now p) m Here surveyed.found (now (past_of surveyed.volume))) done)
        by (Err halt) done = tt

    pub clear_back : (Rattle.std.specs.Prelude.IfSome config.boot (λ device. SaysClear old (begun_of old config device boot) looked)) → IfSome config.boot (λ device. IfOk result (SaysClear old (begun_of old config device boot)))
    clear_back says = by config.boot says
      where
        one : (device : Device) → SaysClear old (begun_of old config device boot) looked → (r : Result (Surveyed D disks) (Halt D disks)) → IfOk r (IsLookedAt looked) → IfOk r (SaysClear old (begun_of old config device boot))
        one device clear (Ok surveyed) is = λ told.
            subst (λ (f : Examined). AnswersClear (now (past_of old)) (machine_of disks old.disks.now) (begun_of old config device boot) f.clear) (sym is.found_is) (clear told)
        one device clear (Err halt) is = tt

        by : (o : Option Device) → IfSome o (λ device. SaysClear old (begun_of old config device boot) looked) → IfSome o (λ device. IfOk result (SaysClear old (begun_of old config device boot)))
        by None says = tt
        by (Some device) says = one device says result held

    module _ (device : IsTold (past_of looked.volume) → IfErr result (λ halt. halt.fault ≡ faults.Device)) where
      abbrev Gives : Device → Result Examined InstallFault → Image → Type 0
      Gives d r image = GivesExamined image (machine_of disks old.disks.now) (volume_view old) (config_view config) (device_view d) (span_view boot) r

      gives-by : (d : Device) (past : Option Past) → past_of looked.volume ≡ past → (r : Result (Surveyed D disks) (Halt D disks)) → IfOk r (IsLookedAt looked)
          → (IsTold past → IfErr r (λ halt. halt.fault ≡ faults.Device)) → Told past (Gives d (Ok looked.found)) → Told past (Gives d (found_in r))
      unfolding IsTold
      gives-by d None at r is stop examined = tt
      gives-by d (Some past) at (Ok surveyed) is stop examined = subst (λ (f : Examined). Gives d (Ok f) (Rattle.disk_trait.specs.Past.now_of past)) (sym is.found_is) examined
      gives-by d (Some past) at (Err halt) is stop examined =
          subst (λ (f : InstallFault). Gives d (Err f) (Rattle.disk_trait.specs.Past.now_of past)) (sym (stop tt)) (stopped faults.Device (begin_checks (Rattle.disk_trait.specs.Past.now_of past) (machine_of disks old.disks.now) (volume_view old) (config_view config) (device_view d) (span_view boot)) tt)

      pub found_back : IfSome config.boot (λ device. Told (past_of old) (Gives device (Ok looked.found))) → IfSome config.boot (λ device. Told (past_of old) (Gives device (found_in result)))
      found_back found = by config.boot found
        where
          by : (o : Option Device) → IfSome o (λ device. Told (past_of old) (Gives device (Ok looked.found))) → IfSome o (λ device. Told (past_of old) (Gives device (found_in result)))
          by None found = tt
          by (Some d) found = gives-by d (past_of old) same.same_disks.same_past result held (λ told. device (told-mid old looked.volume same later told)) found

      -- a refusal but a failed disk comes before anything is written
      pub refused_back : Leaves looked.volume (volume_in result) Here → IfErr result (λ halt. halt.fault ≢ faults.Device → past_of halt.volume ≡ past_of old)
      refused_back leaves = by result device leaves
        where
          by : (r : Result (Surveyed D disks) (Halt D disks)) → (IsTold (past_of looked.volume) → IfErr r (λ halt. halt.fault ≡ faults.Device)) → Leaves looked.volume (volume_in r) Here
              → IfErr r (λ halt. halt.fault ≢ faults.Device → past_of halt.volume ≡ past_of old)
          by (Ok surveyed) stop leaves = tt
          by (Err halt) stop leaves = λ other.
              pasts (past_of halt.volume) (past_of looked.volume) leaves.goes_on.told_before (λ told. other (stop told)) ∙ same.same_disks.same_past

    pub cause_back : IfErr result (λ halt. HasInstallCause (faults_of looked.volume) (faults_of halt.volume) halt.fault) → IfErr result (λ halt. HasInstallCause (faults_of old) (faults_of halt.volume) halt.fault)
    cause_back = by result
      where
        by : (r : Result (Surveyed D disks) (Halt D disks)) → IfErr r (λ halt. HasInstallCause (faults_of looked.volume) (faults_of halt.volume) halt.fault)
            → IfErr r (λ halt. HasInstallCause (faults_of old) (faults_of halt.volume) halt.fault)
        by (Ok surveyed) cause = tt
        by (Err halt) cause = cause-by (faults_of old) (faults_of looked.volume) (faults_of halt.volume) halt.fault later cause

-- ---- what the headline asks

promises-one : {D : Type 0} {disks : Ghosts D} (old : Volume D disks) (begun : Begun) (surveyed : Surveyed D disks) → IsQuiet (past_of old) → Leaves old surveyed.volume begun → Settled old begun surveyed → Promises old begun surveyed
promises-one old begun surveyed quiet leaves settled = λ told there. record {
  begin = λ clear. leaves_weaker (past_of old) (past_of surveyed.volume) _ _ (leaves.any_moment quiet) (λ c left. left.spared there clear);
  begin_clear = (settled told).clear there;
  begin_boot = leaves_weaker (past_of old) (past_of surveyed.volume) _ _ (leaves.any_moment quiet) (λ c left. left.boot there);
}

pub promises_of : {D : Type 0} {disks : Ghosts D} (old : Volume D disks) (begun : Device → Begun) (device : Option Device) (result : Result (Surveyed D disks) (Halt D disks)) → IsQuiet (past_of old)
    → IfSome device (λ device. Leaves old (volume_in result) (begun device)) → IfSome device (λ device. IfOk result (Settled old (begun device)))
    → IfSome device (λ device. IfOk result (Promises old (begun device)))
promises_of old begun None result quiet leaves settled = tt
promises_of old begun (Some device) (Ok surveyed) quiet leaves settled = promises-one old (begun device) surveyed quiet leaves settled
promises_of old begun (Some device) (Err halt) quiet leaves settled = tt
