-- How what was done compares with what the definitions give.
use Rattle.std.specs.Prelude.{◌≡◌, ◌≢◌, ℕ, Bool, true, false, List, IsErr, Option, Some, None, Result, Ok, Err}
use Rattle.disk_trait.specs.Moments.{now}
use Rattle.disk_trait.specs.Past.{Past, Told}
use Rattle.lilo_model.specs.Disks.{Image, Span}
use Rattle.lilo_model.specs.Faults.{Rose}
use Rattle.lilo_model.specs.MinixNames.{names_in, IsSound}
use Rattle.lilo_model.specs.MinixParts.{Volume, parts_of}
use Rattle.lilo_model.specs.MinixSurvey.{survey}
use Rattle.lilo_model.specs.NamePlaces.{name_path}
use Rattle.minix_layout.specs.View.{inode_view}
use Rattle.minix_names.specs.Places.{IsPlace}
use Rattle.minix_names.specs.declared.place.NamePlace.{NamePlace}
use Rattle.minix_remove_laws.specs.Held.{is_removable}
use Rattle.minix_tree.specs.declared.stat.Stat.{Stat}
use Rattle.minix_tree.specs.declared.tree_fault.TreeFault.{TreeFault}
use Rattle.minix_tree.specs.declared.tree_fault.TreeFault.TheVariants as trees
use Rattle.minix_survey.specs.declared.findings.Findings.{Findings}
use Rattle.minix_survey.specs.declared.survey_fault.SurveyFault.{SurveyFault}
use Rattle.minix_survey.specs.declared.survey_fault.SurveyFault.TheVariants as surveys
use Rattle.minix_choice.specs.declared.write_fault.WriteFault.{WriteFault}
use Rattle.minix_choice.specs.declared.write_fault.WriteFault.TheVariants as writes
use Rattle.minix_zones.specs.declared.zone_fault.ZoneFault.{ZoneFault}
use Rattle.minix_zones.specs.declared.zone_fault.ZoneFault.TheVariants as zones
use Rattle.ldisk_model.specs.FileVerdict.{FileRefusal, checked_status, sound_check, volume_check, gone_check, is_removable_thing}
use Rattle.ldisk_files.specs.declared.fault.FileFault.{FileFault}
use Rattle.ldisk_files.specs.declared.fault.FileFault.TheVariants.{Refused, BadLength, NoSpace, Device, Memory}

-- the exit status that reports a fault
abbrev pub fault_status : FileFault → ℕ
fault_status Refused = 3
fault_status BadLength = 4
fault_status NoSpace = 5
fault_status Device = 8
fault_status Memory = 13

-- What was answered is what was checked, unless the disk failed or memory ended.
abbrev pub Answers : {A B : Type 0} → Result A FileRefusal → Result B FileFault → Type 0
Answers check (Ok done) = checked_status check ≡ 0
Answers check (Err Refused) = checked_status check ≡ 3
Answers check (Err BadLength) = checked_status check ≡ 4
Answers check (Err NoSpace) = checked_status check ≡ 5
Answers check (Err Device) = Unit {0}
Answers check (Err Memory) = Unit {0}

-- where the disk failed, the count of faults rose
abbrev pub HasFileCause : ℕ → ℕ → FileFault → Type 0
HasFileCause before now Device = Rose before now
HasFileCause before now fault = Unit {0}

-- the fault is no failure of the disk
abbrev pub is_refusal : FileFault → Bool
is_refusal Device = false
is_refusal fault = true

-- ---- before anything is written

-- where a check of a volume refuses there was no event, whatever is answered
abbrev pub IsUnwritten : {A : Type 0} → Option Past → Option Past → Volume → (Volume → Image → Result A FileRefusal) → Type 0
IsUnwritten old new volume check = Told old (λ now. checked_status (sound_check check volume now) ≢ 0 → new ≡ old)

-- the same of the volume in a span
abbrev pub IsUnwrittenAt : {A : Type 0} → Option Past → Option Past → Span → (Volume → Image → Result A FileRefusal) → Type 0
IsUnwrittenAt old new span check = Told old (λ now. checked_status (volume_check check now span) ≢ 0 → new ≡ old)

-- ---- faults of the calls below

abbrev pub zone_fault : ZoneFault → FileFault
zone_fault zones.Device = Device
zone_fault fault = Refused

abbrev pub tree_fault : TreeFault → FileFault
tree_fault (trees.Zone fault) = zone_fault fault
tree_fault trees.Memory = Memory
tree_fault fault = Refused

abbrev pub survey_fault : SurveyFault → FileFault
survey_fault surveys.Memory = Memory
survey_fault (surveys.Tree fault) = tree_fault fault
survey_fault fault = Refused

-- a survey's answer without what it found
abbrev pub survey_answer : Result Findings SurveyFault → Result (Unit {0}) FileFault
survey_answer (Ok found) = Ok tt
survey_answer (Err fault) = Err (survey_fault fault)

abbrev pub write_fault : WriteFault → FileFault
write_fault (writes.NoSpace need found) = NoSpace
write_fault writes.NoInode = NoSpace
write_fault writes.NameTooLong = NoSpace
write_fault writes.Exists = Refused
write_fault writes.Links = Refused
write_fault (writes.Tree fault) = Refused
write_fault writes.Device = Device
write_fault writes.Memory = Memory

-- a reader refuses, unless the disk failed or memory ended
abbrev pub Refuses : {A F : Type 0} → FileFault → Result A F → Type 0
Refuses Refused check = IsErr check
Refuses BadLength check = ⊥
Refuses NoSpace check = ⊥
Refuses Device check = Unit {0}
Refuses Memory check = Unit {0}

-- ---- on the way there

-- a survey refused nothing, and so the volume is sound
pub record IsSurveyed (volume : Volume) (image : Image) : Type 0 where
  pub passes : IsErr (survey volume.layout (parts_of volume image)) → ⊥
  pub sound : IsSound volume image

-- it was surveyed, or is refused
abbrev pub GivesSurveyed : Volume → Image → Result (Unit {0}) FileFault → Type 0
GivesSurveyed volume image (Ok done) = IsSurveyed volume image
GivesSurveyed volume image (Err fault) = Refuses fault (survey volume.layout (parts_of volume image))

-- the path of a name that may go: it ends with a name in a directory, where there is a regular file or a symbolic link
pub record IsRemovable (volume : Volume) (image : Image) (path : List (List ℕ)) (directory : ℕ) (name : List ℕ) : Type 0 where
  pub sound : IsSound volume image
  pub ends : IsPlace volume.layout (parts_of volume image) path directory name
  pub kind : is_removable_thing (names_in volume image path) ≡ true

-- some path is one
pub record IsSomeRemovable (volume : Volume) (image : Image) (directory : ℕ) (name : List ℕ) : Type 0 where
  pub path : List (List ℕ)
  pub is : IsRemovable volume image path directory name

-- whether what was found is a regular file or a symbolic link
abbrev pub is_found_removable : Option Stat → Bool
is_found_removable (Some stat) = is_removable (inode_view stat.node)
is_found_removable None = false

-- a text leads to such a name
pub record GivesRemovable (volume : Volume) (image : Image) (text : List ℕ) (place : NamePlace) : Type 0 where
  pub path : List (List ℕ)
  pub is : name_path (names_in volume image) text ≡ Ok path
  pub removable : IsRemovable volume image path place.directory.inode place.name.now

abbrev pub GivesName : Volume → Image → List ℕ → Result NamePlace FileFault → Type 0
GivesName volume image text (Ok place) = GivesRemovable volume image text place
GivesName volume image text (Err fault) = Answers {B = NamePlace} (gone_check text volume image) (Err fault)

-- what is removed was found, and no check refuses it, or one does
abbrev pub GivesChecked : Volume → Image → List ℕ → Result NamePlace FileFault → Type 0
GivesChecked volume image text (Ok place) = GivesRemovable volume image text place × (checked_status (sound_check (gone_check text) volume image) ≡ 0)
GivesChecked volume image text (Err fault) = Answers {B = NamePlace} (sound_check (gone_check text) volume image) (Err fault)
