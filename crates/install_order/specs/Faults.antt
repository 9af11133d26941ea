-- Refusals of an installation, and their causes (this project's own).
use Rattle.std.specs.Prelude.{◌≡◌, ℕ, List, Some, IsSome, Result, Ok, Err}
use Rattle.lilo_model.specs.Faults.{Rose}
use Rattle.conf_settings.specs.View.{opt_view}
use Rattle.minix_survey.specs.View as survey_views
use Rattle.minix_survey.specs.declared.survey_fault.SurveyFault.{SurveyFault}
use Rattle.minix_survey.specs.declared.survey_fault.SurveyFault.TheVariants as survey_faults
use Rattle.map_plan.specs.View as plans
use Rattle.map_plan.specs.declared.fault.PlanFault.{PlanFault}
use Rattle.map_plan.specs.declared.fault.PlanFault.TheVariants as plan_faults
use Rattle.minix_tree.specs.View as trees
use Rattle.minix_tree.specs.declared.tree_fault.TreeFault.{TreeFault}
use Rattle.minix_tree.specs.declared.tree_fault.TreeFault.TheVariants as tree_faults
use Rattle.minix_choice.specs.View as write_views
use Rattle.minix_choice.specs.declared.write_fault.WriteFault.{WriteFault}
use Rattle.minix_choice.specs.declared.write_fault.WriteFault.TheVariants as writes
use Rattle.minix_zones.specs.declared.zone_fault.ZoneFault.TheVariants as zones
use Rattle.install_apart.specs.Faults.{IsOfPath}
use Rattle.install_apart.specs.declared.fault.ApartFault.{ApartFault}
use Rattle.install_apart.specs.declared.fault.ApartFault.TheVariants as aparts
use Rattle.install_apart.specs.declared.fault.NameFault.{NameFault}
use Rattle.install_apart.specs.declared.fault.NameFault.TheVariants as names
use Rattle.install_laws.specs.InstallVerdict.{InstallRefusal, NotSound, NotApart, BadName, NoPlan, NoLink, NoRoom}
use Rattle.install_settle.specs.declared.settling.SettleFault.{SettleFault}
use Rattle.install_settle.specs.declared.settling.SettleFault.TheVariants as settles
use Rattle.present_map.specs.declared.old_map.OldMapFault.{OldMapFault}
use Rattle.present_map.specs.declared.old_map.OldMapFault.TheVariants as olds
use Rattle.install_order.specs.declared.fault.InstallFault.{InstallFault}
use Rattle.install_order.specs.declared.fault.InstallFault.TheVariants as faults

-- ---- those of the calls below

abbrev pub tree_survey : TreeFault → InstallFault
tree_survey (tree_faults.Zone zones.Device) = faults.Device
tree_survey other = faults.Survey (survey_faults.Tree other)

abbrev pub survey_refusal : SurveyFault → InstallFault
survey_refusal (survey_faults.Tree fault) = tree_survey fault
survey_refusal survey_faults.Memory = faults.Memory
survey_refusal other = faults.Survey other

abbrev pub apart_refusal : ApartFault → InstallFault
apart_refusal (aparts.NotApart opt) = faults.NotApart opt
apart_refusal aparts.Device = faults.Device
apart_refusal aparts.Memory = faults.Memory

abbrev pub name_refusal : NameFault → InstallFault
name_refusal (names.Path path fault) = faults.Path path fault
name_refusal names.Device = faults.Device
name_refusal names.Memory = faults.Memory

abbrev pub settle_refusal : SettleFault → InstallFault
settle_refusal settles.Links = faults.Write writes.Links
settle_refusal settles.Device = faults.Device

abbrev pub old_refusal : OldMapFault → InstallFault
old_refusal olds.Device = faults.Device
old_refusal olds.Memory = faults.Memory

abbrev pub write_refusal : WriteFault → InstallFault
write_refusal writes.Device = faults.Device
write_refusal writes.Memory = faults.Memory
write_refusal other = faults.Write other

abbrev pub plan_refusal : PlanFault → InstallFault
plan_refusal plan_faults.Device = faults.Device
plan_refusal plan_faults.Memory = faults.Memory
plan_refusal other = faults.Plan other

-- ---- when they come

-- a survey's refusal is the model's
abbrev pub RefusesSurvey : SurveyFault → InstallRefusal → Type 0
RefusesSurvey fault (NotSound why) = survey_views.Refuses {B = ℕ} fault (Err why)
RefusesSurvey fault other = ⊥

abbrev pub RefusesApart : Rattle.conf_settings.specs.declared.option.Opt.Opt → InstallRefusal → Type 0
RefusesApart opt (NotApart which) = which ≡ opt_view opt
RefusesApart opt rest = ⊥

abbrev pub RefusesPath : List ℕ → TreeFault → InstallRefusal → Type 0
RefusesPath text fault (BadName refusal) = (refusal.path ≡ text) × trees.Refuses {B = ℕ} fault (Err refusal.fault)
RefusesPath text fault other = ⊥

-- links are lacking for settling alone, all else for the room
abbrev pub RefusesWrite : WriteFault → InstallRefusal → Type 0
RefusesWrite fault NoLink = fault ≡ writes.Links
RefusesWrite fault (NoRoom why) = write_views.Refuses {B = ℕ} fault (Err why)
RefusesWrite fault other = ⊥

abbrev pub RefusesPlan : PlanFault → InstallRefusal → Type 0
RefusesPlan fault (NoPlan why) = plans.plan_refusal fault ≡ Some why
RefusesPlan fault other = ⊥

-- it is refused for what the first of some checks is refused, unless a disk failed or memory ended
abbrev pub RefusesFor : InstallFault → InstallRefusal → Type 0
RefusesFor (faults.Survey fault) refusal = RefusesSurvey fault refusal
RefusesFor (faults.NotApart opt) refusal = RefusesApart opt refusal
RefusesFor (faults.Path text fault) refusal = RefusesPath text fault refusal
RefusesFor (faults.Plan fault) refusal = RefusesPlan fault refusal
RefusesFor (faults.Write fault) refusal = RefusesWrite fault refusal
RefusesFor faults.Device refusal = Unit {0}
RefusesFor faults.Memory refusal = Unit {0}

-- a disk failed, or memory ended
abbrev pub IsStopped : InstallFault → Type 0
IsStopped (faults.Survey fault) = ⊥
IsStopped (faults.NotApart opt) = ⊥
IsStopped (faults.Path text fault) = ⊥
IsStopped (faults.Plan fault) = ⊥
IsStopped (faults.Write fault) = ⊥
IsStopped faults.Device = Unit {0}
IsStopped faults.Memory = Unit {0}

abbrev pub Refuses : {B : Type 0} → InstallFault → Result B InstallRefusal → Type 0
Refuses fault (Ok value) = IsStopped fault
Refuses fault (Err refusal) = RefusesFor fault refusal

-- it is of a file that can't be made or renamed, and neither a disk failed nor memory ended
abbrev pub IsOfFile : WriteFault → Type 0
IsOfFile (writes.NoSpace need found) = Unit {0}
IsOfFile writes.NoInode = Unit {0}
IsOfFile writes.NameTooLong = Unit {0}
IsOfFile writes.Exists = Unit {0}
IsOfFile writes.Links = Unit {0}
IsOfFile (writes.Tree fault) = Unit {0}
IsOfFile writes.Device = ⊥
IsOfFile writes.Memory = ⊥

-- the cause: where a disk failed, the count of faults rose, and no path, plan or file is refused for that
abbrev pub HasInstallCause : ℕ → ℕ → InstallFault → Type 0
HasInstallCause before now (faults.Survey fault) = Unit {0}
HasInstallCause before now (faults.NotApart opt) = Unit {0}
HasInstallCause before now (faults.Path text fault) = IsOfPath fault
HasInstallCause before now (faults.Plan fault) = IsSome (plans.plan_refusal fault)
HasInstallCause before now (faults.Write fault) = IsOfFile fault
HasInstallCause before now faults.Device = Rose before now
HasInstallCause before now faults.Memory = Unit {0}
