-- A step of a survey: what is met next, and what was answered.
use Rattle.std.specs.Prelude.{◌≡◌, ◌≤◌, ◌<◌, ℕ, zero, suc, ◌+◌, ◌-◌, true, List, [], ◌∷◌, Option, None, Some, Result, Ok, Err, IfErr}
use Rattle.lilo_model.specs.Faults.{Rose}
use Rattle.disk_trait.specs.Past.{Image, Told}
use Rattle.disk_trait.specs.declared.disks.Disks.{Ghosts}
use Rattle.lilo_model.specs.MinixFind.{TreeFault as TreeRefusal}
use Rattle.lilo_model.specs.MinixLayout.{Super, is_size, reach}
use Rattle.lilo_model.specs.MinixParts.{Parts, ZoneFault as ZoneRefusal, parts_of, is_directory, zone_at, block_at}
use Rattle.lilo_model.specs.MinixEntries.{Entry, entry_with}
use Rattle.lilo_model.specs.MinixNames.{entry}
use Rattle.lilo_model.specs.MinixWalk.{Visit}
use Rattle.lilo_model.specs.MinixSurvey as model
use Rattle.lilo_model.specs.MinixSurvey.{Surveyable, Met, surveyable, judged, survey, survey_walk, zones_of, with_zones, with_all, with_entry, with_directory}
use Rattle.minix_layout.specs.View.{kind_view, super_view, inode_view}
use Rattle.minix_layout.specs.declared.inode.Inode.{Inode}
use Rattle.minix_zones.specs.declared.zone_fault.ZoneFault.TheVariants as zones
use Rattle.minix_tree.specs.declared.entry.DirEntry.{DirEntry}
use Rattle.minix_tree.specs.declared.tree_fault.TreeFault.TheVariants as trees
use Rattle.minix_tree.specs.View as reads
use Rattle.minix_zones.specs.declared.visit.Visit as walked
use Rattle.minix_zones.specs.declared.volume.Volume.{Volume}
use Rattle.minix_zones.specs.View as zone_reads
use Rattle.minix_zones.specs.Walk as walks
use Rattle.minix_zones.specs.Volume.{volume_view, past_of, faults_of, SameVolume}
use Rattle.minix_survey.specs.declared.findings.Findings.{Findings}
use Rattle.minix_survey.specs.declared.spot.Spot.{Spot}
use Rattle.minix_survey.specs.declared.survey_fault.SurveyFault.{SurveyFault}
use Rattle.minix_survey.specs.declared.survey_fault.SurveyFault.TheVariants as faults
use Rattle.minix_survey.specs.declared.tables.Tables.{Tables}
use Rattle.minix_survey.specs.Tables.{Tells}
use Rattle.minix_survey.specs.Findings.{AreFindings}
use Rattle.minix_survey.specs.View.{spot_view, Refuses, HasSurveyCause}

-- a volume as a survey sees it, by what disks hold
abbrev pub seen_in : {D : Type 0} {disks : Ghosts D} → Volume D disks → Image → Surveyable
seen_in volume now = surveyable (super_view volume.layout) (parts_of (volume_view volume) now)

-- what is said of a volume, by what the disks hold now
abbrev pub OfVolume : {D : Type 0} {disks : Ghosts D} → Volume D disks → (Super → Parts → Type 0) → Type 0
OfVolume volume Is = Told (past_of volume) (λ now. Is (super_view volume.layout) (parts_of (volume_view volume) now))

-- An answer is the judgment of what was met: after Ok all of it is good, and the tables have it.
abbrev pub Answers : Result (Unit {0}) SurveyFault → Tables → Surveyable → List Met → Type 0
Answers (Ok done) tables volume met = (judged volume met ≡ Ok tt) × Tells tables met
Answers (Err fault) tables volume met = Refuses fault (judged volume met)

-- Where the tables had what was met so far, and that was good, the answer is the judgment of what a step makes of it.
abbrev pub Meets : Result (Unit {0}) SurveyFault → Tables → Tables → (List Met → List Met) → Surveyable → Type 0
Meets result before after step volume =
    (met : List Met) → Tells before met → judged volume met ≡ Ok tt → Answers result after volume (step met)

-- what a step of a survey does
pub record Steps {D : Type 0} {disks : Ghosts D} (old new : Volume D disks) (before after : Tables) (result : Result (Unit {0}) SurveyFault)
    (step : Surveyable → List Met → List Met) : Type 0 where
  pub meets : Told (past_of old) (λ now. Meets result before after (step (seen_in old now)) (seen_in old now))
  pub cause : IfErr result (HasSurveyCause (faults_of old) (faults_of new))
  pub later : faults_of old ≤ faults_of new
  pub same : SameVolume old new

-- ---- what is known of an inode

-- an inode with a number is what it is on the disks
abbrev pub IsNodeAt : {D : Type 0} {disks : Ghosts D} → Volume D disks → ℕ → Inode → Type 0
IsNodeAt volume inode node = Told (past_of volume) (λ now. inode_view node ≡ (parts_of (volume_view volume) now).node inode)

-- what is known of an inode that is come to, by what it is on the disks
pub record IsNodeOf {D : Type 0} {disks : Ghosts D} (volume : Volume D disks) (spot : Spot) (node : Inode) : Type 0 where
  pub some : 1 ≤ spot.inode
  pub there : spot.inode ≤ volume.layout.inodes
  pub sized : is_size (kind_view volume.layout.kind) node.size ≡ true
  pub is : IsNodeAt volume spot.inode node
  pub root : spot.inode ≡ 1 → is_directory (inode_view node) ≡ true

-- all from an inode on
abbrev pub all_from : Spot → Surveyable → List Met → List Met
all_from spot volume met = with_all volume (65 - spot.level) (spot_view spot) met

-- an inode that is reached
abbrev pub inode_from : Spot → Surveyable → List Met → List Met
inode_from spot volume met = model.Reaches (spot_view spot) ∷ met

-- the zones of an inode
abbrev pub zones_from : ℕ → Surveyable → List Met → List Met
zones_from inode volume met = with_zones inode (zones_of volume inode) met

-- one of them
abbrev pub zone_from : ℕ → walked.Visit → Surveyable → List Met → List Met
zone_from inode visit volume met = model.Refers inode (Ok (walks.visit_view visit)) ∷ met

-- what a survey answers is what the model finds
abbrev pub Finds : Result Findings SurveyFault → Super → Parts → Type 0
Finds (Ok found) super parts = (survey super parts ≡ Ok (survey_walk (surveyable super parts))) × AreFindings found (survey_walk (surveyable super parts))
Finds (Err fault) super parts = Refuses fault (survey super parts)

-- the disk failed
abbrev pub IsFailed : ℕ → ℕ → SurveyFault → Type 0
IsFailed before now fault = (fault ≡ faults.Tree (trees.Zone zones.Device)) × Rose before now

-- an inode is refused as the model refuses it, or the disk failed
abbrev pub IsReadRefusal : {B : Type 0} → SurveyFault → Result B TreeRefusal → Type 0
IsReadRefusal (faults.Tree fault) read = reads.Refuses fault read
IsReadRefusal other read = ⊥

-- ---- steps with entries

-- a step that reads no disk
pub record StepsAlone (before after : Tables) (result : Result (Unit {0}) SurveyFault) (step : List Met → List Met) : Type 0 where
  pub meets : (volume : Surveyable) → Meets result before after step volume
  pub cause : (earlier later : ℕ) → IfErr result (HasSurveyCause earlier later)

-- an answer without its value
abbrev pub done : {A : Type 0} → Result A SurveyFault → Result (Unit {0}) SurveyFault
done (Ok value) = Ok tt
done (Err fault) = Err fault

-- an entry, wherever it is in its block
abbrev pub entry_seen : DirEntry → Entry
entry_seen entry = entry_with entry.inode entry.name.now

-- an entry by itself
abbrev pub entry_alone : Spot → ℕ → DirEntry → List Met → List Met
entry_alone spot place entry met = model.Stands (spot_view spot) place (entry_seen entry) ∷ met

-- the end of a directory
abbrev pub end_alone : Spot → ℕ → List Met → List Met
end_alone spot places met = model.Ends (spot_view spot) places ∷ met

-- so many entries of a directory from a place on
abbrev pub more_entries : (model.Spot → List Met → List Met) → model.Spot → (ℕ → Entry) → ℕ → ℕ → List Met → List Met
more_entries visit directory at start zero met = met
more_entries visit directory at start (suc count) met =
    with_entry visit directory (start + count) (at (start + count)) (more_entries visit directory at start count met)

-- an entry of a directory, and what is below it
abbrev pub entry_from : Spot → ℕ → Entry → Surveyable → List Met → List Met
entry_from spot place what volume met = with_entry (with_all volume (64 - spot.level)) (spot_view spot) place what met

-- so many entries of a directory
abbrev pub entries_from : Spot → ℕ → ℕ → Surveyable → List Met → List Met
entries_from spot start count volume met =
    more_entries (with_all volume (64 - spot.level)) (spot_view spot) (entry volume.super volume.parts spot.inode) start count met

-- all entries of a directory, and its end
abbrev pub directory_from : Spot → Surveyable → List Met → List Met
directory_from spot volume met = with_directory (with_all volume (64 - spot.level)) volume (spot_view spot) true met

-- the bytes of a block, or its refusal
abbrev pub block_seen : {D : Type 0} {disks : Ghosts D} → Volume D disks → Image → Inode → ℕ → Result (List ℕ) ZoneRefusal
block_seen volume now node index = block_at (super_view volume.layout) (parts_of (volume_view volume) now) (inode_view node) index

-- no block of an inode is refused
abbrev pub AreGiven : Surveyable → ℕ → Type 0
AreGiven volume inode =
    (index : ℕ) → index < reach volume.super.kind → (zone : ℕ) × (zone_at volume.super volume.parts (volume.parts.node inode) index ≡ Ok zone)

-- ---- what readers refuse

-- a block is refused as the model refuses it, or the disk failed
abbrev pub IsBlockRefusal : {B : Type 0} → SurveyFault → Result B ZoneRefusal → Type 0
IsBlockRefusal (faults.Tree (trees.Zone fault)) read = zone_reads.Refuses fault read
IsBlockRefusal other read = ⊥

-- a zone of a walk is refused as the model refuses it, or the disk failed
abbrev pub IsWalkRefusal : SurveyFault → List (Result Visit ZoneRefusal) → Type 0
IsWalkRefusal (faults.Tree (trees.Zone fault)) rest = walks.Refused fault rest
IsWalkRefusal other rest = ⊥

-- what was answered is the first of what a walk had left to meet, and the others are left
abbrev pub WalksOn : Result (Option walked.Visit) SurveyFault → List (Result Visit ZoneRefusal) → List (Result Visit ZoneRefusal) → Type 0
WalksOn (Ok None) before after = before ≡ []
WalksOn (Ok (Some visit)) before after = before ≡ (Ok (walks.visit_view visit) ∷ after)
WalksOn (Err fault) before after = IsWalkRefusal fault before
