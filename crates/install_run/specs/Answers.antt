-- What an installation answers and prints (this project's own).
use Rattle.std.specs.Prelude.{◌≡◌, ◌⊎◌, ◌==◌, ◌++◌, ℕ, Bool, [], ◌∷◌, List, codes, flat_map, if◌then◌else◌, Option, None, Some, Result, Ok, Err}
use Rattle.std.specs.List.{list_any}
use Rattle.disk_trait.specs.declared.disks.Disks.{Ghosts}
use Rattle.disk_trait.specs.declared.disks.Phase.{Phase}
use Rattle.disk_trait.specs.declared.disks.Phase.TheVariants.{Before}
use Rattle.disk_trait.specs.Moments.{now}
use Rattle.lilo_model.specs.Apart.{apart_checks}
use Rattle.lilo_model.specs.Checks.{◌>>=◌, require, with_fault}
use Rattle.lilo_model.specs.Disks.{Image, Machine}
use Rattle.lilo_model.specs.Meant.{default_place}
use Rattle.lilo_model.specs.MinixNames.{names_in}
use Rattle.lilo_model.specs.MinixParts.{parts_of, volume_at}
use Rattle.lilo_model.specs.MinixSurvey.{Met, survey}
use Rattle.lilo_model.specs.MinixWalk.{visits}
use Rattle.lilo_model.specs.Plan.{Plan, plan_names}
use Rattle.lilo_model.specs.Planned.{mapped_section}
use Rattle.lilo_model.specs.PlanRefusal.{plan_at, own_places_check}
use Rattle.lilo_model.specs.Refusal as refusals
use Rattle.lilo_model.specs.Settled as model
use Rattle.lilo_model.specs.Settled.{is_foreign, own_names}
use Rattle.stream_trait.specs.Shows.{SinkState, Shows}
use Rattle.minix_zones.specs.Volume.{past_of}
use Rattle.install_run.specs.Texts.{device_line, device_status}
use Rattle.install_apart.specs.Apart.{device_checks}
use Rattle.install_begin.specs.Begin as begins
use Rattle.install_begin.specs.Begin.{begun_with}
use Rattle.install_laws.specs.InstallVerdict.{Answer, Begun, InstallRefusal, Reading, NotSound, NotApart, BadName, NoLink, NoPlan, NoRoom, answer_text}
use Rattle.install_laws.specs.InstallVerdict.{install_room, is_clear, may_settle, skipped_path, verdict_by}
use Rattle.install_order.specs.Begins.{IsBegun}
use Rattle.install_order.specs.Checks.{begin_checks}
use Rattle.install_order.specs.Faults.{Refuses, IsStopped}
use Rattle.install_order.specs.declared.examination.Examined.{Examined}
use Rattle.install_order.specs.declared.halt.Halt.{Halt}
use Rattle.install_order.specs.declared.planned.Planned.{Planned}
use Rattle.install_run.specs.Previews.{AnswersVerdict, answer_to}

-- ---- what the model answers

-- what is printed of a plan on a settled image, by what was met before
abbrev pub settled_report : Image → Machine → Image → Begun → List Met → Plan → Answer
settled_report image machine settled begun met plan = record {
  skipped = flat_map (λ section. skipped_path section (mapped_section settled machine begun.volume section)) begun.config.sections;
  clear =
      if is_foreign (image begun.span.disk begun.span.start)
      then None
      else Some (is_clear begun.volume image met machine begun.span);
  names = plan_names plan;
  default = default_place begun.config.default_name (plan_names plan);
}

-- The checks of an installation, in order: those up to settling of what there was, and those after it of the image that it leaves, by
-- which the devices must be apart still.
unfoldable pub settled_answer : Image → Machine → Image → Begun → ℕ → Result Answer InstallRefusal
settled_answer image machine settled begun time = do
  met ← with_fault NotSound (survey begun.volume.layout (parts_of begun.volume image))
  a ← with_fault NotApart (apart_checks image machine begun.volume begun.config begun.boot)
  names ← with_fault BadName (own_names (names_in begun.volume image) begun.config begun.boot (is_foreign (image begun.span.disk begun.span.start)))
  b ← require (may_settle image machine begun.volume (visits begun.volume.layout (parts_of begun.volume image)) begun.span names.map) NoLink
  c ← with_fault NotApart (device_checks settled machine begun.volume begun.config begun.boot)
  plan ← with_fault NoPlan (plan_at settled machine begun.volume begun.span begun.config time)
  places ← with_fault NoRoom (install_room image machine settled time begun names plan)
  d ← with_fault NoPlan (own_places_check begun.config machine places)
  Ok (settled_report image machine settled begun met plan)

-- the same by what was read, once the volume's superblock is
unfoldable pub install_on : Image → Machine → Image → ℕ → begins.Begun → Result Answer InstallRefusal
install_on image machine settled time begun = do
  volume ← with_fault (λ fault. Reading refusals.Layout) (volume_at image begun.volume)
  settled_answer image machine settled (begun_with begun volume) time

-- ---- settling

-- where the checks up to settling pass, an image is what settling leaves
abbrev pub IsSettledFrom : Image → Machine → Begun → Image → Type 0
IsSettledFrom image machine begun settled =
    (names : model.OwnNames) → begin_checks image machine begun.volume begun.config begun.boot begun.span ≡ Ok names
    → (found : Examined) × IsBegun image machine begun found settled

-- ---- what is planned

-- It is planned as the model answers, or refused for what the model is refused, on the image that settling left, unless a disk failed
-- or memory ended.
abbrev pub GivesInstall : {D : Type 0} {disks : Ghosts D} → Image → Machine → Begun → ℕ → Result (Planned D disks × Option Bool) (Halt D disks) → Type 0
GivesInstall image machine begun time (Ok (planned, clear)) =
    IsSettledFrom image machine begun (now (past_of planned.volume))
    × (settled_answer image machine (now (past_of planned.volume)) begun time ≡ Ok (answer_to planned clear))
GivesInstall image machine begun time (Err halt) =
    IsStopped halt.fault
    ⊎ (IsSettledFrom image machine begun (now (past_of halt.volume))
    × Refuses halt.fault (settled_answer image machine (now (past_of halt.volume)) begun time))

-- ---- what is answered

-- the lines of a disk that failed in a phase, and of memory that ended
abbrev pub lost_line : Phase → List ℕ
lost_line phase = codes "lilo: " ++ device_line phase

abbrev pub starved_line : List ℕ
starved_line = codes "lilo: memory\n"

-- a disk failed in a phase of an installation that was planned and reported
pub record IsLostIn (given : Result Answer InstallRefusal) (status : ℕ) (old new : SinkState) : Type 0 where
  pub answer : Answer
  pub is : given ≡ Ok answer
  pub phase : Phase
  pub status_is : status ≡ device_status phase
  pub shown : Shows old (answer_text answer ++ lost_line phase) new

-- The model's verdict is answered, by the image that settling left; or a disk failed or memory ended before that; or a disk failed once
-- it was reported.
pub data AnswersInstall (image : Image) (machine : Machine) (settled : Image) (begun : Begun) (time status : ℕ) (old new : SinkState) : Type 0 where
  Answered : IsSettledFrom image machine begun settled → AnswersVerdict
      (verdict_by answer_text (settled_answer image machine settled begun time)) status old new
      → AnswersInstall image machine settled begun time status old new
  LostEarly : status ≡ 8 → Shows old (lost_line Before) new → AnswersInstall image machine settled begun time status old new
  Starved : status ≡ 13 → Shows old starved_line new → AnswersInstall image machine settled begun time status old new
  LostLater : IsSettledFrom image machine begun settled → IsLostIn (settled_answer image machine settled begun time) status old new
      → AnswersInstall image machine settled begun time status old new

-- a disk failed, by the status
abbrev pub IsDiskFault : ℕ → Type 0
IsDiskFault status = (status ≡ 8) ⊎ ((status ≡ 9) ⊎ (status ≡ 10))

-- whether an installation may end with this status
abbrev pub is_install_status : ℕ → Bool
is_install_status status = list_any (λ known. known == status) (0 ∷ 3 ∷ 4 ∷ 5 ∷ 8 ∷ 9 ∷ 10 ∷ 13 ∷ [])
