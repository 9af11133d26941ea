-- Refusals of the calls below, as those of an installation's checks.
use Rattle.std.proofs.Common.{◌≡◌, ℕ, Bool, true, false, List, Option, None, Some, Result, Ok, Err, refl, ap}
use Rattle.std.specs.Prelude.{IsSome}
use Rattle.lilo_model.specs.Checks.{◌>>=◌, require, with_fault}
use Rattle.lilo_model.specs.ConfOptions as model
use Rattle.lilo_model.specs.MinixSurvey as surveys
use Rattle.lilo_model.specs.PlanRefusal as plans
use Rattle.lilo_model.specs.Settled.{PathRefusal}
use Rattle.map_plan.specs.View as plan_views
use Rattle.map_plan.specs.declared.fault.PlanFault.{PlanFault}
use Rattle.map_plan.specs.declared.fault.PlanFault.TheVariants as plan_faults
use Rattle.minix_survey.specs.View as survey_views
use Rattle.minix_survey.specs.declared.survey_fault.SurveyFault.{SurveyFault}
use Rattle.minix_survey.specs.declared.survey_fault.SurveyFault.TheVariants as survey_faults
use Rattle.minix_tree.specs.declared.tree_fault.TreeFault.TheVariants as trees
use Rattle.minix_choice.specs.View as write_views
use Rattle.minix_choice.specs.declared.write_fault.WriteFault.{WriteFault}
use Rattle.minix_choice.specs.declared.write_fault.WriteFault.TheVariants as writes
use Rattle.minix_zones.specs.declared.zone_fault.ZoneFault.TheVariants as zones
use Rattle.install_apart.specs.Apart as apart
use Rattle.install_apart.specs.Faults.{RefusesNames}
use Rattle.install_apart.specs.declared.fault.ApartFault.{ApartFault}
use Rattle.install_apart.specs.declared.fault.ApartFault.TheVariants as aparts
use Rattle.install_apart.specs.declared.fault.NameFault.{NameFault}
use Rattle.install_apart.specs.declared.fault.NameFault.TheVariants as names
use Rattle.install_laws.specs.InstallVerdict.{InstallRefusal, NotSound, NotApart, BadName, NoPlan, NoLink, NoRoom}
use Rattle.write_model.specs.Wish as rooms
use Rattle.install_settle.specs.Found.{RefusesLinks}
use Rattle.install_settle.specs.declared.settling.SettleFault.{SettleFault}
use Rattle.install_settle.specs.declared.settling.SettleFault.TheVariants as settles
use Rattle.present_map.specs.declared.old_map.OldMapFault.{OldMapFault}
use Rattle.present_map.specs.declared.old_map.OldMapFault.TheVariants as olds
use Rattle.install_order.specs.Faults.{Refuses, IsStopped, survey_refusal, apart_refusal, name_refusal, settle_refusal, old_refusal, plan_refusal, write_refusal}
use Rattle.install_order.specs.declared.fault.InstallFault.{InstallFault}
use Rattle.install_order.specs.declared.fault.InstallFault.TheVariants as faults

-- a call that was stopped refuses whatever is asked
pub stopped : {B : Type 0} (fault : InstallFault) (given : Result B InstallRefusal) → IsStopped fault → Refuses fault given
stopped fault (Ok value) is = is
stopped (faults.Survey fault) (Err refusal) is = absurd is
stopped (faults.NotApart opt) (Err refusal) is = absurd is
stopped (faults.Path text fault) (Err refusal) is = absurd is
stopped (faults.Plan fault) (Err refusal) is = absurd is
stopped (faults.Write fault) (Err refusal) is = absurd is
stopped faults.Device (Err refusal) is = tt
stopped faults.Memory (Err refusal) is = tt

-- the first of two checks refuses both
pub refuses-then : {A B : Type 0} (fault : InstallFault) (given : Result A InstallRefusal) (more : A → Result B InstallRefusal) → Refuses fault given → Refuses fault (given >>= more)
refuses-then fault (Ok value) more is = stopped fault (more value) is
refuses-then fault (Err refusal) more is = is

-- ---- a survey

-- a refusal, by the type of what is refused
abbrev refusal-of : (A : Type 0) {F : Type 0} → F → Result A F
refusal-of A fault = Err fault

same-err : {A B F : Type 0} (why other : F) → refusal-of A why ≡ refusal-of A other → refusal-of B why ≡ refusal-of B other
same-err why other is = let same : why ≡ other = cc in ap Err same

no-ok : {A F : Type 0} (value : A) (fault : F) → Ok value ≡ Err fault → ⊥
no-ok value fault is = cc

pub survey-refuses : (fault : SurveyFault) (given : Result (List surveys.Met) surveys.SurveyFault) → survey_views.Refuses fault given → Refuses (survey_refusal fault) (with_fault NotSound given)
survey-refuses survey_faults.Memory given is = stopped faults.Memory (with_fault NotSound given) tt
survey-refuses (survey_faults.Tree (trees.Zone zones.Device)) given is = stopped faults.Device (with_fault NotSound given) tt
survey-refuses (survey_faults.Crossed zone inode other) (Ok met) is = absurd (no-ok met _ is)
survey-refuses (survey_faults.Crossed zone inode other) (Err why) is = same-err why _ is
survey-refuses (survey_faults.Unmarked zone) (Ok met) is = absurd (no-ok met _ is)
survey-refuses (survey_faults.Unmarked zone) (Err why) is = same-err why _ is
survey-refuses (survey_faults.UnmarkedInode inode) (Ok met) is = absurd (no-ok met _ is)
survey-refuses (survey_faults.UnmarkedInode inode) (Err why) is = same-err why _ is
survey-refuses (survey_faults.BadLink directory place) (Ok met) is = absurd (no-ok met _ is)
survey-refuses (survey_faults.BadLink directory place) (Err why) is = same-err why _ is
survey-refuses (survey_faults.FewLinks inode) (Ok met) is = absurd (no-ok met _ is)
survey-refuses (survey_faults.FewLinks inode) (Err why) is = same-err why _ is
survey-refuses survey_faults.TooDeep (Ok met) is = absurd (no-ok met _ is)
survey-refuses survey_faults.TooDeep (Err why) is = same-err why _ is
survey-refuses (survey_faults.Tree (trees.NotFound position)) given is = absurd is
survey-refuses (survey_faults.Tree (trees.NotDirectory position)) (Ok met) is = absurd (no-ok met _ is.1)
survey-refuses (survey_faults.Tree (trees.NotDirectory position)) (Err why) is = (is.0, same-err why _ is.1)
survey-refuses (survey_faults.Tree trees.NotFile) given is = absurd is
survey-refuses (survey_faults.Tree trees.TooManyLinks) given is = absurd is
survey-refuses (survey_faults.Tree (trees.BadEntry directory)) given is = absurd is
survey-refuses (survey_faults.Tree trees.PathTooLong) given is = absurd is
survey-refuses (survey_faults.Tree (trees.Zone (zones.Layout fault))) (Ok met) is = absurd (no-ok met _ is)
survey-refuses (survey_faults.Tree (trees.Zone (zones.Layout fault))) (Err why) is = same-err why _ is
survey-refuses (survey_faults.Tree (trees.Zone (zones.ZoneOutside zone))) (Ok met) is = absurd (no-ok met _ is)
survey-refuses (survey_faults.Tree (trees.Zone (zones.ZoneOutside zone))) (Err why) is = same-err why _ is
survey-refuses (survey_faults.Tree trees.Memory) given is = absurd is

-- ---- the others

pub apart-refuses : (fault : ApartFault) (given : Result (Unit {0}) model.Opt) → apart.GivesApart (Err fault) given → Refuses (apart_refusal fault) (with_fault NotApart given)
apart-refuses (aparts.NotApart opt) (Ok done) is = absurd (no-ok done _ is)
apart-refuses (aparts.NotApart opt) (Err which) is = by which _ is
  where
    by : (one two : model.Opt) → refusal-of (Unit {0}) one ≡ refusal-of (Unit {0}) two → one ≡ two
    by one two same = cc
apart-refuses aparts.Device given is = stopped faults.Device (with_fault NotApart given) tt
apart-refuses aparts.Memory given is = stopped faults.Memory (with_fault NotApart given) tt

pub name-refuses : {B : Type 0} (fault : NameFault) (given : Result B PathRefusal) → RefusesNames fault given → Refuses (name_refusal fault) (with_fault BadName given)
name-refuses (names.Path text fault) (Ok value) is = absurd is
name-refuses (names.Path text fault) (Err refusal) is = is
name-refuses names.Device given is = stopped faults.Device (with_fault BadName given) tt
name-refuses names.Memory given is = stopped faults.Memory (with_fault BadName given) tt

pub settle-refuses : (fault : SettleFault) (may : Bool) → RefusesLinks (Err fault) may → Refuses (settle_refusal fault) (require may NoLink)
settle-refuses settles.Links false is = refl
settle-refuses settles.Links true is = cc
settle-refuses settles.Device may is = stopped faults.Device (require may NoLink) tt

pub old-stopped : (fault : OldMapFault) → IsStopped (old_refusal fault)
old-stopped olds.Device = tt
old-stopped olds.Memory = tt

-- ---- those of a plan and of the room for it

plan-as : {B : Type 0} (fault : PlanFault) (given : Result B plans.PlanFault) (refusal : Option plans.PlanFault) → plan_views.plan_refusal fault ≡ refusal → IsSome refusal
    → plan_views.IsRefusal refusal given → Refuses (faults.Plan fault) (with_fault NoPlan given)
plan-as fault given None is some refused = let lost : false ≡ true = some in absurd cc
plan-as fault given (Some why) is some refused = rw refused is

plan-by : {B : Type 0} (fault : PlanFault) (given : Result B plans.PlanFault) → IsSome (plan_views.plan_refusal fault) → plan_views.Refuses fault given → Refuses (faults.Plan fault) (with_fault NoPlan given)
plan-by fault given some refused = plan-as fault given (plan_views.plan_refusal fault) refl some refused

pub plan-refuses : {B : Type 0} (fault : PlanFault) (given : Result B plans.PlanFault) (before now : ℕ) → plan_views.HasPlanCause before now fault → plan_views.Refuses fault given
    → Refuses (plan_refusal fault) (with_fault NoPlan given)
plan-refuses plan_faults.Device given before now cause is = stopped faults.Device (with_fault NoPlan given) tt
plan-refuses plan_faults.Memory given before now cause is = stopped faults.Memory (with_fault NoPlan given) tt
plan-refuses (plan_faults.Missing text) given before now cause is = plan-by (plan_faults.Missing text) given cause is
plan-refuses plan_faults.NoImagesLeft given before now cause is = plan-by plan_faults.NoImagesLeft given cause is
plan-refuses (plan_faults.Header path fault) given before now cause is = plan-by (plan_faults.Header path fault) given cause is
plan-refuses (plan_faults.Address option fault) given before now cause is = plan-by (plan_faults.Address option fault) given cause is
plan-refuses (plan_faults.TooManySlots option slots) given before now cause is = plan-by (plan_faults.TooManySlots option slots) given cause is
plan-refuses (plan_faults.GeometryDiffers option have) given before now cause is = plan-by (plan_faults.GeometryDiffers option have) given cause is
plan-refuses (plan_faults.OtherIsBoot path) given before now cause is = plan-by (plan_faults.OtherIsBoot path) given cause is
plan-refuses (plan_faults.NoSignature path) given before now cause is = plan-by (plan_faults.NoSignature path) given cause is
plan-refuses (plan_faults.MessageTooLong size) given before now cause is = plan-by (plan_faults.MessageTooLong size) given cause is
plan-refuses (plan_faults.Table fault) given before now cause is = plan-by (plan_faults.Table fault) given cause is
plan-refuses (plan_faults.Tree path fault) given before now cause is = plan-by (plan_faults.Tree path fault) given cause is

room-by : {B : Type 0} (fault : WriteFault) (given : Result B rooms.Refusal) → (why : rooms.Refusal) → given ≡ Err why → write_views.Refuses {B = ℕ} fault (Err why) → Refuses (faults.Write fault) (with_fault NoRoom given)
room-by fault given why is refused = rw is refused

pub room-refuses : {B : Type 0} (fault : WriteFault) (given : Result B rooms.Refusal) → write_views.Refuses fault given → Refuses (write_refusal fault) (with_fault NoRoom given)
room-refuses writes.Device given is = stopped faults.Device (with_fault NoRoom given) tt
room-refuses writes.Memory given is = stopped faults.Memory (with_fault NoRoom given) tt
room-refuses writes.Links given is = absurd is
room-refuses (writes.NoSpace need short) given is = room-by (writes.NoSpace need short) given _ is refl
room-refuses writes.NoInode given is = room-by writes.NoInode given _ is refl
room-refuses writes.NameTooLong given is = room-by writes.NameTooLong given _ is refl
room-refuses writes.Exists given is = room-by writes.Exists given _ is refl
room-refuses (writes.Tree (trees.NotFound position)) given is = absurd is
room-refuses (writes.Tree (trees.NotDirectory position)) given is = absurd is
room-refuses (writes.Tree trees.NotFile) given is = absurd is
room-refuses (writes.Tree trees.TooManyLinks) given is = absurd is
room-refuses (writes.Tree (trees.BadEntry directory)) given is = absurd is
room-refuses (writes.Tree trees.PathTooLong) given is = absurd is
room-refuses (writes.Tree (trees.Zone (zones.Layout fault))) given is = room-by (writes.Tree (trees.Zone (zones.Layout fault))) given _ is refl
room-refuses (writes.Tree (trees.Zone (zones.ZoneOutside zone))) given is = room-by (writes.Tree (trees.Zone (zones.ZoneOutside zone))) given _ is refl
room-refuses (writes.Tree (trees.Zone zones.Device)) given is = absurd is
room-refuses (writes.Tree trees.Memory) given is = absurd is
