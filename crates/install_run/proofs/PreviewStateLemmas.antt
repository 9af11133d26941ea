-- What is looked at and planned, as values.
use Rattle.std.proofs.Common.{◌≡◌, ◌≤◌, ℕ, Bool, true, false, not, List, Option, Some, None, Result, Ok, refl, sym, ◌∙◌, ap, subst}
use Rattle.std.specs.Prelude.{IfSome}
use Rattle.disk_trait.specs.declared.disks.Disks.{Ghosts}
use Rattle.disk_trait.specs.declared.disks.Span.{Span}
use Rattle.disk_trait.specs.Moments.{IsTold, now}
use Rattle.disk_trait.specs.Past.{Past, Told}
use Rattle.lilo_model.specs.Disks.{Image, Machine, DiskSector}
use Rattle.lilo_model.specs.Mapped.{mapped_sectors}
use Rattle.lilo_model.specs.MinixParts as volumes
use Rattle.lilo_model.specs.MinixParts.{parts_of}
use Rattle.lilo_model.specs.Plan.{Plan}
use Rattle.lilo_conf.specs.View.{config_view}
use Rattle.lilo_conf.specs.declared.config.Config as confs
use Rattle.map_sectors.specs.Map.{plan_view}
use Rattle.mbr_table.specs.View.{device_view}
use Rattle.mbr_table.specs.declared.device.Device.{Device}
use Rattle.minix_zones.specs.View.{span_view}
use Rattle.minix_zones.specs.Volume.{volume_view, past_of, faults_of, SameVolume}
use Rattle.minix_zones.specs.declared.volume.Volume.{Volume}
use Rattle.sector_address.specs.Machine.{machine_of, OnDisks}
use Rattle.install_laws.specs.InstallVerdict.{Answer, Begun, InstallRefusal}
use Rattle.install_order.specs.Answers.{IsFor, IsKnown, begun_in}
use Rattle.install_order.specs.Begins.{AreOwn}
use Rattle.install_order.specs.Checks.{IsExamined}
use Rattle.install_order.specs.Faults.{Refuses}
use Rattle.install_order.specs.Plans.{AreSurveyed, IsPlanOf, IsPlanned, IsPlannedFor, checks_of, plan_checks, wish_of}
use Rattle.install_order.specs.View.{begun_of}
use Rattle.install_order.specs.declared.fault.InstallFault.{InstallFault}
use Rattle.install_order.specs.declared.halt.Halt.{Halt}
use Rattle.install_order.specs.declared.planned.Planned.{Planned}
use Rattle.install_order.specs.declared.surveyed.Surveyed.{Surveyed}
use Rattle.install_order.proofs.AnswerLemmas.{back}
use Rattle.install_order.proofs.SurveyedLemmas.{examined}
use Rattle.install_room.specs.Room.{room_for}
use Rattle.write_model.specs.Wish as rooms
use Rattle.install_run.specs.Previews.{answer_to, preview_answer, GivesPreview}
use Rattle.install_run.proofs.PreviewLemmas.{plan_refused, plan_passes, answer_is}

module _ {D : Type 0} {disks : Ghosts D} (s : Surveyed D disks) (off : s.settled ≡ false) (known : IsKnown s) (told : IsTold (past_of s.volume)) where
  abbrev Now : Image
  Now = now (past_of s.volume)

  abbrev Here : Machine
  Here = machine_of disks s.volume.disks.now

  pub ex : IsExamined Now Here (volume_view s.volume) (config_view s.config) (device_view s.device) (span_view s.boot) s.found
  ex = examined s off known told

  abbrev Places : List DiskSector
  Places = mapped_sectors Now Here (span_view s.boot)

  pub are_surveyed : AreSurveyed Now Here s ex.names Places
  are_surveyed = record {
    survey = known.known told;
    own = subst (λ (entry : Image). AreOwn entry (begun_in s) ex.names) ((known.known told).is_looked_at off) ex.are;
    keeps = ex.old.zones;
  }

  checks-on : (settled : Bool) → settled ≡ false → plan_checks Now Here (volume_view s.volume) (config_view s.config) (device_view s.device) (span_view s.boot) Places ex.names (not settled) s.time
      ≡ plan_checks Now Here (volume_view s.volume) (config_view s.config) (device_view s.device) (span_view s.boot) Places ex.names true s.time
  checks-on settled is = rw is refl

  room-on : (settled : Bool) → settled ≡ false → (plan : Plan) (given : Result (List DiskSector) rooms.Refusal)
      → room_for (volume_view s.volume) (parts_of (volume_view s.volume) Now) Places ex.names (wish_of Here (config_view s.config) (not settled) s.time plan) ≡ given
      → room_for (volume_view s.volume) (parts_of (volume_view s.volume) Now) Places ex.names (wish_of Here (config_view s.config) true s.time plan) ≡ given
  room-on settled off plan given is = subst (λ (b : Bool). room_for (volume_view s.volume) (parts_of (volume_view s.volume) Now) Places ex.names (wish_of Here (config_view s.config) (not b) s.time plan) ≡ given) off is

  pub refused_here : (fault : InstallFault) → Refuses fault (checks_of Now Here s ex.names Places) → Refuses fault (preview_answer Now Here (begun_in s) s.time)
  refused_here fault is = plan_refused Now Here (begun_in s) s.time s.found ex fault (subst (Refuses fault) (checks-on s.settled off) is)

  pub passes_here : (planned : Planned D disks) (clear : Option Bool) → IsPlanOf Now Here s ex.names Places planned → IsPlanned Now Here s planned → IsPlannedFor s planned → clear ≡ s.found.clear
      → preview_answer Now Here (begun_in s) s.time ≡ Ok (answer_to planned clear)
  passes_here planned clear of is held same =
      plan_passes Now Here (begun_in s) s.time s.found ex (plan_view planned.plan) _ of.map
      (room-on s.settled off (plan_view planned.plan) _ of.room) (sym (checks-on s.settled off) ∙ of.passes)
      ∙ ap Ok (answer_is Now Here (begun_in s) s.time s.found ex (plan_view planned.plan) planned.plan.files.skipped clear (ap config_view held.config_is) is.chosen.map.skipped same)

-- a fact of what disks hold now, where they report it
pub told_from : (past : Option Past) (P : Image → Type 0) → (IsTold past → P (now past)) → Told past P
unfolding IsTold now
told_from None P f = tt
told_from (Some past) P f = f tt

-- what is answered of what was looked at is answered of what was there before
module _ {D : Type 0} {disks : Ghosts D} (old : Volume D disks) (config : confs.Config) (boot : Span) (time : ℕ) (s : Surveyed D disks) (same : SameVolume old s.volume) (later : faults_of old ≤ faults_of s.volume)
    (is_for : IsFor config boot time false s) (result : Result (Planned D disks × Option Bool) (Halt D disks)) where
  abbrev Begins : volumes.Volume → Begun
  Begins view = record { volume = view; config = config_view s.config; boot = device_view s.device; span = span_view s.boot }

  same-answer : (image : Image) (machine : Machine) → preview_answer image machine (begun_of old s.config s.device s.boot) s.time ≡ preview_answer image machine (begun_of old config s.device boot) time
  same-answer image machine =
      ap (λ (c : confs.Config). preview_answer image machine (begun_of old c s.device s.boot) s.time) is_for.config_is
      ∙ (ap (λ (b : Span). preview_answer image machine (begun_of old config s.device b) s.time) is_for.boot_is
      ∙ ap (λ (t : ℕ). preview_answer image machine (begun_of old config s.device boot) t) is_for.time_is)

  pub gives_back : (IsTold (past_of s.volume) → GivesPreview (preview_answer (now (past_of s.volume)) (machine_of disks s.volume.disks.now) (begun_in s) s.time) result)
      → IfSome config.boot (λ device. OnDisks disks old.disks.now (λ image machine. GivesPreview (preview_answer image machine (begun_of old config device boot) time) result))
  gives_back gives =
      subst (λ (o : Option Device). IfSome o (λ device. OnDisks disks old.disks.now (λ image machine. GivesPreview (preview_answer image machine (begun_of old config device boot) time) result))) (sym is_for.device_is)
      (told_from (past_of old) _ (λ told.
      subst (λ (answer : Result Answer InstallRefusal). GivesPreview answer result) (same-answer (now (past_of old)) (machine_of disks old.disks.now))
      (back old s.volume same later (λ v m p. IsTold p → GivesPreview (preview_answer (now p) m (Begins v) s.time) result) gives told)))
