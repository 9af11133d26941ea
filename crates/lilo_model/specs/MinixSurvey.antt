-- What a survey of a Minix volume meets, and the first thing that is wrong with it (the directories, zones and bitmap
-- bits: Minix file system; the order, the refusals and what counts as wrong are this project's own). A survey goes over
-- all names from the root on, depth first, entries in order. What is met is a list, the newest first, and each thing in
-- it is judged by what was met before.
use Rattle.std.specs.Prelude.{ℕ, zero, suc, ◌==◌, nat_le, nat_lt, Bool, true, false, not, ◌&&◌, ◌||◌, if◌then◌else◌, List, [], ◌∷◌, length, filter, bytes_eq}
use Rattle.std.specs.Prelude.{Option, None, Some, Result, Ok, Err}
use Rattle.std.specs.List.{list_any}
use Rattle.std.specs.Option.{option_or}
use Rattle.lilo_model.specs.Checks.{◌>>=◌, require}
use Rattle.lilo_model.specs.MinixLayout.{Super, Inode, BadSize, FileSize, is_size}
use Rattle.lilo_model.specs.MinixParts.{Parts, ZoneFault, Layout, is_directory, has_zones}
use Rattle.lilo_model.specs.MinixEntries.{Entry, places, here_name, above_name, is_dots}
use Rattle.lilo_model.specs.MinixFind.{TreeFault, NotDirectory, Zone}
use Rattle.lilo_model.specs.MinixWalk.{Visit, visits}
use Rattle.lilo_model.specs.MinixNames.{entry, depth_limit}

-- ---- refusals

-- why a volume isn't sound
pub data SurveyFault : Type 0 where
  -- a zone is referred to twice, first by `inode`
  Crossed : (zone inode other : ℕ) → SurveyFault
  -- a zone that is referred to isn't marked
  Unmarked : (zone : ℕ) → SurveyFault
  -- an inode that is named isn't marked
  UnmarkedInode : (inode : ℕ) → SurveyFault
  -- an entry is wrong; `place` is the number of places where `.` or `..` is missing
  BadLink : (directory place : ℕ) → SurveyFault
  -- an inode has more names than links
  FewLinks : (inode : ℕ) → SurveyFault
  -- a directory is nested below too many others
  TooDeep : SurveyFault
  -- the root is no directory; a zone's number or an inode's size is refused
  Tree : TreeFault → SurveyFault

-- ---- what is met

-- an inode that is come to: the directory by whose entry, the root by its own, and how many entries from the root
pub record Spot : Type 0 where
  pub inode : ℕ
  pub above : ℕ
  pub level : ℕ

pub data Met : Type 0 where
  -- an inode, the first time
  Reaches : Spot → Met
  -- a zone of an inode, or the refusal of its number
  Refers : (inode : ℕ) (found : Result Visit ZoneFault) → Met
  -- an entry that isn't free
  Stands : (directory : Spot) (place : ℕ) (what : Entry) → Met
  -- the end of a directory with so many places
  Ends : (directory : Spot) (places : ℕ) → Met

-- the volume that is surveyed: its superblock and its parts, and what a walk over an inode's zones meets
pub record Surveyable : Type 0 where
  pub super : Super
  pub parts : Parts
  pub walk : Inode → List (Result Visit ZoneFault)

-- a volume by its superblock and its parts
abbrev pub surveyable : Super → Parts → Surveyable
surveyable super parts = record { super = super; parts = parts; walk = visits super parts }

abbrev pub is_reached : ℕ → Met → Bool
is_reached inode (Reaches spot) = spot.inode == inode
is_reached inode (Refers other found) = false
is_reached inode (Stands directory place what) = false
is_reached inode (Ends directory places) = false

-- an inode was reached before
unfoldable pub was_reached : List Met → ℕ → Bool
was_reached before inode = list_any (is_reached inode) before

-- ---- the walk: each definition gives the list with what comes next

abbrev pub with_zones : ℕ → List (Result Visit ZoneFault) → List Met → List Met
with_zones inode [] met = met
with_zones inode (found ∷ others) met = with_zones inode others (Refers inode found ∷ met)

-- what a walk over an inode's zones meets: a device has none
abbrev pub zones_of : Surveyable → ℕ → List (Result Visit ZoneFault)
zones_of volume inode = if has_zones (volume.parts.node inode) then volume.walk (volume.parts.node inode) else []

-- an inode, and its zones
unfoldable pub with_inode : Surveyable → Spot → List Met → List Met
with_inode volume spot met = with_zones spot.inode (zones_of volume spot.inode) (Reaches spot ∷ met)

-- the inode that an entry of a directory leads to
abbrev pub spot_below : Spot → ℕ → Spot
spot_below directory inode = record { inode = inode; above = directory.inode; level = suc directory.level }

-- an entry, where it isn't free, and then what is below it, where it is the first that leads there
abbrev pub entry_then : (Spot → List Met → List Met) → Spot → ℕ → Entry → (free known : Bool) → List Met → List Met
entry_then visit directory place what true known met = met
entry_then visit directory place what false true met = Stands directory place what ∷ met
entry_then visit directory place what false false met =
    visit (spot_below directory what.inode) (Stands directory place what ∷ met)

-- an entry leads to nothing new: it is `.` or `..`, or its inode was reached
abbrev pub is_known : Entry → List Met → Bool
is_known what met = is_dots what.name || was_reached met what.inode

abbrev pub with_entry : (Spot → List Met → List Met) → Spot → ℕ → Entry → List Met → List Met
with_entry visit directory place what met =
    entry_then visit directory place what (what.inode == 0) (is_known what met) met

-- the entries at the places below a number
abbrev pub with_entries : (Spot → List Met → List Met) → Spot → (ℕ → Entry) → ℕ → List Met → List Met
with_entries visit directory at zero met = met
with_entries visit directory at (suc place) met =
    with_entry visit directory place (at place) (with_entries visit directory at place met)

-- whether an inode has entries that are looked at: it is a directory of a size that is read
abbrev pub has_entries : Surveyable → ℕ → Bool
has_entries volume inode =
    is_directory (volume.parts.node inode) && is_size volume.super.kind (volume.parts.node inode).size

-- the number of a directory's places
abbrev pub places_of : Surveyable → ℕ → ℕ
places_of volume inode = places volume.super.kind (volume.parts.node inode).size

-- the entries of a directory, and its end
abbrev pub with_directory : (Spot → List Met → List Met) → Surveyable → Spot → Bool → List Met → List Met
with_directory visit volume spot false met = met
with_directory visit volume spot true met =
    Ends spot (places_of volume spot.inode)
    ∷ with_entries visit spot (entry volume.super volume.parts spot.inode) (places_of volume spot.inode) met

-- all from an inode on, so many directories deep
abbrev pub with_all : Surveyable → ℕ → Spot → List Met → List Met
with_all volume zero spot met = with_inode volume spot met
with_all volume (suc left) spot met =
    with_directory (with_all volume left) volume spot (has_entries volume spot.inode) (with_inode volume spot met)

-- the root, which is above itself
abbrev pub root_spot : Spot
root_spot = record { inode = 1; above = 1; level = 0 }

-- all that is met from the root on
unfoldable pub survey_walk : Surveyable → List Met
survey_walk volume = with_all volume (suc depth_limit) root_spot []

-- ---- the judgment, by what was met before

abbrev pub refers_to : ℕ → Met → Option ℕ
refers_to zone (Refers inode (Ok visit)) = if visit.zone == zone then Some inode else None
refers_to zone (Refers inode (Err fault)) = None
refers_to zone (Reaches spot) = None
refers_to zone (Stands directory place what) = None
refers_to zone (Ends directory places) = None

-- the inode that refers to a zone, of several the first
unfoldable pub owner : List Met → ℕ → Option ℕ
owner [] zone = None
owner (met ∷ before) zone = option_or (owner before zone) (refers_to zone met)

abbrev pub names_it : ℕ → Met → Bool
names_it inode (Stands directory place what) = (what.inode == inode) && not (is_dots what.name)
names_it inode (Reaches spot) = false
names_it inode (Refers other found) = false
names_it inode (Ends directory places) = false

-- how many names an inode has so far
unfoldable pub names_of : List Met → ℕ → ℕ
names_of met inode = length (filter (names_it inode) met)

abbrev pub has_that_name : ℕ → List ℕ → Met → Bool
has_that_name inode name (Stands directory place what) = (directory.inode == inode) && bytes_eq what.name name
has_that_name inode name (Reaches spot) = false
has_that_name inode name (Refers other found) = false
has_that_name inode name (Ends directory places) = false

-- a name is in a directory so far
unfoldable pub has_name : List Met → ℕ → List ℕ → Bool
has_name met directory name = list_any (has_that_name directory name) met

-- an inode that is reached: it is marked, the root is a directory, and none is nested too deep
abbrev pub spot_check : Surveyable → Spot → Result (Unit {0}) SurveyFault
spot_check volume spot = do
  a ← require (volume.parts.has_inode spot.inode) (UnmarkedInode spot.inode)
  b ← require (not (spot.inode == 1) || is_size volume.super.kind (volume.parts.node 1).size) (Tree (Zone (Layout (BadSize FileSize))))
  c ← require (not (spot.inode == 1) || is_directory (volume.parts.node 1)) (Tree (NotDirectory 0))
  require (not (is_directory (volume.parts.node spot.inode)) || nat_le spot.level depth_limit) TooDeep

abbrev pub crossed : ℕ → ℕ → Option ℕ → Result (Unit {0}) SurveyFault
crossed zone inode None = Ok tt
crossed zone inode (Some other) = Err (Crossed zone other inode)

-- a zone: its number may be followed, it is marked, and nothing else refers to it
abbrev pub zone_check : Surveyable → List Met → ℕ → Result Visit ZoneFault → Result (Unit {0}) SurveyFault
zone_check volume before inode (Err fault) = Err (Tree (Zone fault))
zone_check volume before inode (Ok visit) = do
  a ← require (volume.parts.has_zone visit.zone) (Unmarked visit.zone)
  crossed visit.zone inode (owner before visit.zone)

-- the inode that `.` or `..` names
abbrev pub right_inode : Spot → List ℕ → ℕ
right_inode directory name = if bytes_eq here_name name then directory.inode else directory.above

-- `.` or `..`: it is right, and appears once
abbrev pub dots_check : List Met → Spot → ℕ → Entry → Result (Unit {0}) SurveyFault
dots_check before directory place what =
    require
    ((what.inode == right_inode directory what.name) && not (has_name before directory.inode what.name))
    (BadLink directory.inode place)

-- another entry: its inode is there, of some mode, not the root and no directory that has a name; its name is new
-- here; and the inode has a link for it
abbrev pub name_check : Surveyable → List Met → Spot → ℕ → Entry → Result (Unit {0}) SurveyFault
name_check volume before directory place what = do
  a ← require (nat_le what.inode volume.super.inodes) (BadLink directory.inode place)
  b ← require (is_size volume.super.kind (volume.parts.node what.inode).size) (Tree (Zone (Layout (BadSize FileSize))))
  c ← require (not ((volume.parts.node what.inode).mode == 0) && not (what.inode == 1)) (BadLink directory.inode place)
  d ← require (not (is_directory (volume.parts.node what.inode) && was_reached before what.inode)) (BadLink directory.inode place)
  e ← require (not (has_name before directory.inode what.name)) (BadLink directory.inode place)
  require (nat_lt (names_of before what.inode) (volume.parts.node what.inode).links) (FewLinks what.inode)

abbrev pub entry_check : Surveyable → List Met → Spot → ℕ → Entry → (dots : Bool) → Result (Unit {0}) SurveyFault
entry_check volume before directory place what true = dots_check before directory place what
entry_check volume before directory place what false = name_check volume before directory place what

-- the end of a directory: `.` and `..` are in it
abbrev pub end_check : List Met → Spot → ℕ → Result (Unit {0}) SurveyFault
end_check before directory places =
    require
    (has_name before directory.inode here_name && has_name before directory.inode above_name)
    (BadLink directory.inode places)

unfoldable pub judge : Surveyable → List Met → Met → Result (Unit {0}) SurveyFault
judge volume before (Reaches spot) = spot_check volume spot
judge volume before (Refers inode found) = zone_check volume before inode found
judge volume before (Stands directory place what) = entry_check volume before directory place what (is_dots what.name)
judge volume before (Ends directory places) = end_check before directory places

-- the first refusal, or none
unfoldable pub judged : Surveyable → List Met → Result (Unit {0}) SurveyFault
judged volume [] = Ok tt
judged volume (met ∷ before) = judged volume before >>= λ a. judge volume before met

-- ---- the answer

-- what a survey of a volume finds: all that is met, or the first refusal
unfoldable pub survey_of : Surveyable → Result (List Met) SurveyFault
survey_of volume = judged volume (survey_walk volume) >>= λ a. Ok (survey_walk volume)

-- Survey
unfoldable pub survey : Super → Parts → Result (List Met) SurveyFault
survey super parts = survey_of (surveyable super parts)

abbrev pub is_indirect_at : ℕ → Met → Bool
is_indirect_at zone (Refers inode (Ok visit)) = (visit.zone == zone) && visit.indirect
is_indirect_at zone (Refers inode (Err fault)) = false
is_indirect_at zone (Reaches spot) = false
is_indirect_at zone (Stands directory place what) = false
is_indirect_at zone (Ends directory places) = false

-- whether a zone is one of numbers of zones
unfoldable pub is_indirect : List Met → ℕ → Bool
is_indirect met zone = list_any (is_indirect_at zone) met
