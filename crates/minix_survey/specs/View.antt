-- Which plain value of the model each value of this crate stands for, and when an answer is the model's.
use Rattle.std.specs.Prelude.{◌≡◌, ℕ, Result, Ok, Err}
use Rattle.lilo_model.specs.Faults.{Rose}
use Rattle.lilo_model.specs.MinixFind as finds
use Rattle.lilo_model.specs.MinixParts as parts
use Rattle.lilo_model.specs.MinixSurvey as model
use Rattle.minix_layout.specs.View.{layout_fault_view}
use Rattle.minix_zones.specs.declared.zone_fault.ZoneFault.{ZoneFault}
use Rattle.minix_zones.specs.declared.zone_fault.ZoneFault.TheVariants as zones
use Rattle.minix_tree.specs.declared.tree_fault.TreeFault.{TreeFault}
use Rattle.minix_tree.specs.declared.tree_fault.TreeFault.TheVariants as trees
use Rattle.minix_survey.specs.declared.spot.Spot.{Spot}
use Rattle.minix_survey.specs.declared.survey_fault.SurveyFault.{SurveyFault}
use Rattle.minix_survey.specs.declared.survey_fault.SurveyFault.TheVariants as faults

-- an inode that is come to
abbrev pub spot_view : Spot → model.Spot
spot_view spot = record { inode = spot.inode; above = spot.above; level = spot.level }

-- a zone or an inode was refused as the model refuses it, or the disk failed
abbrev pub RefusesZone : {B : Type 0} → ZoneFault → Result B model.SurveyFault → Type 0
RefusesZone (zones.Layout fault) found = found ≡ Err (model.Tree (finds.Zone (parts.Layout (layout_fault_view fault))))
RefusesZone (zones.ZoneOutside zone) found = found ≡ Err (model.Tree (finds.Zone (parts.ZoneOutside zone)))
RefusesZone zones.Device found = Unit {0}

-- the root is no directory, or a zone was refused so
abbrev pub RefusesTree : {B : Type 0} → TreeFault → Result B model.SurveyFault → Type 0
RefusesTree (trees.NotFound position) found = ⊥
RefusesTree (trees.NotDirectory position) found = (position ≡ 0) × (found ≡ Err (model.Tree (finds.NotDirectory 0)))
RefusesTree trees.NotFile found = ⊥
RefusesTree trees.TooManyLinks found = ⊥
RefusesTree (trees.BadEntry directory) found = ⊥
RefusesTree trees.PathTooLong found = ⊥
RefusesTree (trees.Zone fault) found = RefusesZone fault found
RefusesTree trees.Memory found = ⊥

-- a survey was refused as the model refuses, or the disk failed, or there was no memory
abbrev pub Refuses : {B : Type 0} → SurveyFault → Result B model.SurveyFault → Type 0
Refuses (faults.Crossed zone inode other) found = found ≡ Err (model.Crossed zone inode other)
Refuses (faults.Unmarked zone) found = found ≡ Err (model.Unmarked zone)
Refuses (faults.UnmarkedInode inode) found = found ≡ Err (model.UnmarkedInode inode)
Refuses (faults.BadLink directory place) found = found ≡ Err (model.BadLink directory place)
Refuses (faults.FewLinks inode) found = found ≡ Err (model.FewLinks inode)
Refuses faults.TooDeep found = found ≡ Err model.TooDeep
Refuses (faults.Tree fault) found = RefusesTree fault found
Refuses faults.Memory found = Unit {0}

-- The cause of a refusal by a zone or an inode: where the disk failed, the count of faults rose.
abbrev pub HasTreeCause : ℕ → ℕ → TreeFault → Type 0
HasTreeCause before now (trees.NotFound position) = Unit {0}
HasTreeCause before now (trees.NotDirectory position) = Unit {0}
HasTreeCause before now trees.NotFile = Unit {0}
HasTreeCause before now trees.TooManyLinks = Unit {0}
HasTreeCause before now (trees.BadEntry directory) = Unit {0}
HasTreeCause before now trees.PathTooLong = Unit {0}
HasTreeCause before now (trees.Zone (zones.Layout fault)) = Unit {0}
HasTreeCause before now (trees.Zone (zones.ZoneOutside zone)) = Unit {0}
HasTreeCause before now (trees.Zone zones.Device) = Rose before now
HasTreeCause before now trees.Memory = ⊥

-- The same of a survey.
abbrev pub HasSurveyCause : ℕ → ℕ → SurveyFault → Type 0
HasSurveyCause before now (faults.Crossed zone inode other) = Unit {0}
HasSurveyCause before now (faults.Unmarked zone) = Unit {0}
HasSurveyCause before now (faults.UnmarkedInode inode) = Unit {0}
HasSurveyCause before now (faults.BadLink directory place) = Unit {0}
HasSurveyCause before now (faults.FewLinks inode) = Unit {0}
HasSurveyCause before now faults.TooDeep = Unit {0}
HasSurveyCause before now (faults.Tree fault) = HasTreeCause before now fault
HasSurveyCause before now faults.Memory = Unit {0}
