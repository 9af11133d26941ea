-- What is answered of an installation that isn't done (this project's own).
use Rattle.std.specs.Prelude.{◌≡◌, ◌⊎◌, ◌==◌, ℕ, Bool, [], ◌∷◌, codes, Option, Result, Ok, Err}
use Rattle.std.specs.List.{list_any}
use Rattle.disk_trait.specs.declared.disks.Disks.{Ghosts}
use Rattle.lilo_model.specs.Disks.{Image, Machine}
use Rattle.lilo_model.specs.Meant.{default_place}
use Rattle.lilo_model.specs.MinixParts.{parts_of}
use Rattle.lilo_model.specs.MinixWalk.{visits}
use Rattle.lilo_model.specs.Plan.{plan_names}
use Rattle.lilo_model.specs.Refusal as refusals
use Rattle.lilo_model.specs.Verdict.{Verdict, verdict_of}
use Rattle.map_sectors.specs.Map.{plan_view}
use Rattle.minix_zones.specs.declared.volume.Volume.{Volume}
use Rattle.minix_zones.specs.declared.zone_fault.ZoneFault.{ZoneFault}
use Rattle.minix_zones.specs.declared.zone_fault.ZoneFault.TheVariants as zones
use Rattle.stream_trait.specs.Shows.{SinkState, Shows}
use Rattle.install_laws.specs.InstallVerdict.{Answer, Begun, InstallRefusal, install_checks, test_room, test_text, verdict_by}
use Rattle.install_order.specs.Faults.{Refuses}
use Rattle.install_order.specs.declared.fault.InstallFault.{InstallFault}
use Rattle.install_order.specs.declared.halt.Halt.{Halt}
use Rattle.install_order.specs.declared.planned.Planned.{Planned}

-- what the model answers, by the room on the volume as it is
abbrev pub preview_answer : Image → Machine → Begun → ℕ → Result Answer InstallRefusal
preview_answer image machine begun time =
    install_checks image machine (visits begun.volume.layout (parts_of begun.volume image)) (test_room image machine time begun) time begun

-- what is printed of a plan, and whether the present map is Clear
abbrev pub answer_to : {D : Type 0} {disks : Ghosts D} → Planned D disks → Option Bool → Answer
answer_to planned clear = record {
  skipped = planned.plan.files.skipped;
  clear = clear;
  names = plan_names (plan_view planned.plan);
  default = default_place (plan_view planned.plan).config.default_name (plan_names (plan_view planned.plan));
}

-- it is planned as the model answers, or refused for what the model is refused, unless a disk failed or memory ended
abbrev pub GivesPreview : {D : Type 0} {disks : Ghosts D} → Result Answer InstallRefusal → Result (Planned D disks × Option Bool) (Halt D disks) → Type 0
GivesPreview given (Ok (planned, clear)) = given ≡ Ok (answer_to planned clear)
GivesPreview given (Err halt) = Refuses halt.fault given

-- the volume in either
abbrev pub volume_left : {D : Type 0} {disks : Ghosts D} → Result (Planned D disks × Option Bool) (Halt D disks) → Volume D disks
volume_left (Ok (planned, clear)) = planned.volume
volume_left (Err halt) = halt.volume

-- a verdict is answered and shown
pub record AnswersVerdict (verdict : Verdict) (status : ℕ) (old new : SinkState) : Type 0 where
  pub status_is : status ≡ verdict.status
  pub shown : Shows old verdict.text new

-- the model's verdict is, or a disk failed, or memory ended
abbrev pub AnswersPreview : Result Answer InstallRefusal → ℕ → SinkState → SinkState → Type 0
AnswersPreview given status old new =
    AnswersVerdict (verdict_by test_text given) status old new
    ⊎ (((status ≡ 8) × Shows old (codes "lilo: device\n") new) ⊎ ((status ≡ 13) × Shows old (codes "lilo: memory\n") new))

-- so it is of each answer that a refusal refuses
abbrev pub AnswersRefusal : InstallFault → ℕ → SinkState → SinkState → Type 0
AnswersRefusal fault status old new = (given : Result Answer InstallRefusal) → Refuses fault given → AnswersPreview given status old new

-- whether a preview may end with this status
abbrev pub is_preview_status : ℕ → Bool
is_preview_status status = list_any (λ known. known == status) (0 ∷ 3 ∷ 4 ∷ 5 ∷ 8 ∷ 13 ∷ [])

-- what is answered and printed where there is no volume
abbrev pub zone_verdict : ZoneFault → Verdict
zone_verdict zones.Device = record { status = 8; text = codes "lilo: device\n" }
zone_verdict (zones.Layout fault) = verdict_of (Err refusals.Layout)
zone_verdict (zones.ZoneOutside zone) = verdict_of (Err refusals.Layout)
