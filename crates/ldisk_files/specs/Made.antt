-- What is checked and chosen for something new (a rule of this project's own). A path is a list of components, the last
-- one first.
use Rattle.std.specs.Prelude.{◌≡◌, ◌≤◌, ◌<◌, ◌-◌, ◌/◌, ◌⊎◌, ℕ, Bool, true, nat_le, List, [], ◌∷◌, ◌++◌, length, replicate, slice_index, None, Result, Ok, Err}
use Rattle.disk_trait.specs.declared.disks.Disks.{Ghosts}
use Rattle.disk_trait.specs.declared.disks.Span.{Span}
use Rattle.disk_trait.specs.Moments.{now}
use Rattle.lilo_model.specs.Checks.{with_fault}
use Rattle.lilo_model.specs.Disks.{Image}
use Rattle.lilo_model.specs.MinixEntries.{entries_per_block}
use Rattle.lilo_model.specs.MinixLayout.{Kind}
use Rattle.lilo_model.specs.MinixNames.{reached, names_in, IsSound}
use Rattle.lilo_model.specs.MinixParts as model
use Rattle.lilo_model.specs.MinixParts.{parts_of, blocks_for}
use Rattle.lilo_model.specs.NamePlaces.{name_path, plain_path}
use Rattle.ldisk_model.specs.FileVerdict as makings
use Rattle.ldisk_model.specs.FileVerdict.{NewDirectory, NewLink, NewFile, NoSpace, new_check, making_check, checked_status, size_made, nothing_taken}
use Rattle.ldisk_model.specs.FileVerdict.{thing_made, is_zero_block, stored_block}
use Rattle.minix_choice_laws.specs.Choice.{file_of}
use Rattle.minix_choice_laws.specs.Sources.{Source, zone_from}
use Rattle.minix_create.specs.Chosen.{Suits, HasDots, IsFreeNow, MayLinkNow, MayNest, MayBeMade, block_of, thing_with}
use Rattle.minix_create.specs.declared.chosen.Chosen.{Chosen}
use Rattle.minix_grow.specs.Way.{depth_of, number_above}
use Rattle.minix_layout.specs.View.{kind_view}
use Rattle.minix_layout.specs.declared.superblock.Super as layouts
use Rattle.minix_names.specs.Places.{LeadsToDirectory, IsPlace}
use Rattle.minix_names.specs.declared.place.NamePlace.{NamePlace}
use Rattle.minix_choice.specs.declared.wish.Wish.{Wish}
use Rattle.minix_zones.specs.Volume.{volume_view, past_of}
use Rattle.minix_zones.specs.declared.volume.Volume.{Volume}
use Rattle.write_model.specs.Choice.{Choice, choose_blocks}
use Rattle.write_model.specs.FileZones.{data_blocks}
use Rattle.ldisk_files.specs.Answer.{Answers}
use Rattle.ldisk_files.specs.declared.fault.FileFault.{FileFault}
use Rattle.ldisk_files.specs.declared.fault.FileFault.TheVariants as faults
use Rattle.ldisk_files.specs.declared.making.Making.{Making}
use Rattle.ldisk_files.specs.declared.making.Making.TheVariants.{Directory, Link}
use Rattle.ldisk_files.specs.declared.room.Ready.{Ready}

-- ---- what is made

abbrev pub making_view : Making → makings.Making
making_view Directory = NewDirectory
making_view (Link target) = NewLink target.now

-- the mode of its inode: 040755, 0120777 or 0100644 in octal digits
abbrev pub mode_made : makings.Making → ℕ
mode_made NewDirectory = 16877
mode_made (NewLink target) = 41471
mode_made (NewFile bytes) = 33188

-- it takes one block, where the bytes aren't those of a file
abbrev pub IsShort : makings.Making → Type 0
IsShort NewDirectory = Unit {0}
IsShort (NewLink target) = (1 ≤ length target) × (length target ≤ 1023)
IsShort (NewFile bytes) = Unit {0}

-- the block of a link: its target, and zeros after it
abbrev pub IsTargetBlock : List ℕ → List ℕ → Type 0
IsTargetBlock target bytes = bytes ≡ target ++ replicate (1024 - length target) 0

-- the first block, by its inode and the one of its directory
abbrev pub IsFirstBlock : Kind → makings.Making → ℕ → ℕ → List ℕ → Type 0
IsFirstBlock kind NewDirectory number directory bytes = HasDots kind bytes number directory
IsFirstBlock kind (NewLink target) number directory bytes = IsTargetBlock target bytes
IsFirstBlock kind (NewFile stored) number directory bytes = Unit {0}

-- ---- its place

-- a text's path ends with a name in a directory, at which nothing is
pub record IsNewAt (volume : model.Volume) (image : Image) (text : List ℕ) (place : NamePlace) : Type 0 where
  pub path : List (List ℕ)
  pub is : name_path (names_in volume image) text ≡ Ok path
  pub ends : IsPlace volume.layout (parts_of volume image) path place.directory.inode place.name.now
  pub free : reached volume.layout (parts_of volume image) (plain_path path) ≡ None

-- so it is, or a check refuses
abbrev pub GivesNew : model.Volume → Image → List ℕ → Result NamePlace FileFault → Type 0
GivesNew volume image text (Ok place) = IsNewAt volume image text place
GivesNew volume image text (Err fault) = Answers {B = NamePlace} (new_check text volume image) (Err fault)

-- a path leads to the directory of a name, at which nothing is
pub record IsNewPlace (volume : model.Volume) (image : Image) (outer : List (List ℕ)) (place : NamePlace) : Type 0 where
  pub there : LeadsToDirectory volume.layout (parts_of volume image) outer place.directory.inode
  pub free : reached volume.layout (parts_of volume image) (plain_path (place.name.now ∷ outer)) ≡ None

-- whether a directory that a path leads to is nested below so many others at most, unless the disk failed
abbrev pub GivesShallow : model.Volume → Image → List (List ℕ) → ℕ → ℕ → Result Bool FileFault → Type 0
GivesShallow volume image path directory most (Ok shallow) =
    LeadsToDirectory volume.layout (parts_of volume image) path directory → shallow ≡ nat_le (length path) most
GivesShallow volume image path directory most (Err fault) =
    LeadsToDirectory volume.layout (parts_of volume image) path directory → fault ≡ faults.Device

-- what is made may have a name in a directory that a path leads to, or a check refuses
abbrev pub GivesLength : model.Volume → Image → List (List ℕ) → ℕ → List ℕ → makings.Making → Result ℕ FileFault → Type 0
GivesLength volume image outer directory name making result =
    LeadsToDirectory volume.layout (parts_of volume image) outer directory → Answers (making_check making (name ∷ outer)) result

-- ---- what is chosen

-- it is what is chosen for a wish, or the refusal
abbrev pub GivesChoice : model.Volume → Image → Wish → Result Chosen FileFault → Type 0
GivesChoice volume image wish (Ok chosen) =
    choose_blocks volume.layout (parts_of volume image) nothing_taken wish.directory wish.name.now (data_blocks wish.length wish.holes.now) ≡ Ok chosen.choice
GivesChoice volume image wish (Err fault) =
    Answers {B = Chosen}
    (with_fault NoSpace (choose_blocks volume.layout (parts_of volume image) nothing_taken wish.directory wish.name.now
    (data_blocks wish.length wish.holes.now))) (Err fault)

-- it is wished for something new by a name
pub record IsWishFor (kind : Kind) (place : NamePlace) (making : makings.Making) (wish : Wish) : Type 0 where
  pub mode : wish.mode ≡ mode_made making
  pub long : wish.length ≡ (size_made kind making).bytes
  pub holes : wish.holes.now ≡ []
  pub directory : wish.directory ≡ place.directory.inode
  pub name : wish.name.now ≡ place.name.now
  pub short : IsShort making

-- it may be made by the name in a directory that a path leads to, whatever room there is
abbrev pub Fits : makings.Making → List (List ℕ) → NamePlace → Type 0
Fits making outer place = checked_status (making_check making (place.name.now ∷ outer)) ≡ 0

-- it suits a volume, and takes one block at most
pub record IsReady (layout : layouts.Super) (span : Span) (ready : Ready) : Type 0 where
  pub suits : Suits layout span ready.chosen
  pub one : length ready.chosen.choice.blocks ≤ 1

-- a volume is sound now
abbrev pub IsSoundNow : {D : Type 0} {disks : Ghosts D} → Volume D disks → Type 0
IsSoundNow volume = IsSound (volume_view volume) (now (past_of volume))

-- each block of a file that is 1024 zero bytes is a hole of what was chosen
abbrev pub KeepsHoles : makings.Making → Chosen → Type 0
KeepsHoles NewDirectory chosen = Unit {0}
KeepsHoles (NewLink target) chosen = Unit {0}
KeepsHoles (NewFile bytes) chosen =
    (index : ℕ) → index < blocks_for (length bytes) → is_zero_block (stored_block bytes index) ≡ true
    → (index < length chosen.choice.blocks) × (slice_index chosen.choice.blocks index ≡ 0)

-- each zone that was chosen is that of a block or an indirect zone, or one by which the directory grows
abbrev pub GivesEach : Choice → Type 0
GivesEach choice =
    (i : ℕ) → i < length choice.zones
    → ((source : Source) × (zone_from (file_of choice) source ≡ slice_index choice.zones i))
    ⊎ ((level : ℕ) × (level < length choice.growth) × (slice_index choice.growth level ≡ slice_index choice.zones i))

-- each zone by which the directory grows is missing on the way to the place of the name
abbrev pub LacksGrowth : model.Volume → Image → Chosen → Type 0
LacksGrowth volume image chosen =
    (level : ℕ) → level < length chosen.choice.growth
    → (level ≤ depth_of volume.layout.kind (chosen.choice.place / entries_per_block volume.layout.kind))
    × (number_above volume.layout (parts_of volume image) chosen.directory (chosen.choice.place / entries_per_block volume.layout.kind) level ≡ 0)

-- on a volume it may be made now of these blocks, in the directory that a path leads to
pub record MayMake {D : Type 0} {disks : Ghosts D} (volume : Volume D disks) (outer : List (List ℕ)) (making : makings.Making) (chosen : Chosen)
    (blocks : List (List ℕ)) : Type 0 where
  pub free : IsFreeNow volume chosen
  pub links : MayLinkNow volume outer chosen
  pub nests : MayNest outer chosen
  pub mode : chosen.mode ≡ mode_made making
  pub made : MayBeMade (kind_view volume.layout.kind) chosen (block_of blocks)
  pub is : thing_with chosen (block_of blocks) ≡ thing_made making
  pub holes : KeepsHoles making chosen
  pub each : GivesEach chosen.choice
  pub lacks : LacksGrowth (volume_view volume) (now (past_of volume)) chosen

-- something may be made somewhere
pub record MayMakeSome {D : Type 0} {disks : Ghosts D} (volume : Volume D disks) (chosen : Chosen) (blocks : List (List ℕ)) : Type 0 where
  pub outer : List (List ℕ)
  pub making : makings.Making
  pub may : MayMake volume outer making chosen blocks

-- so it is by its name, where nothing is there
pub record MayMakeNamed {D : Type 0} {disks : Ghosts D} (volume : Volume D disks) (outer : List (List ℕ)) (name : List ℕ) (making : makings.Making)
    (chosen : Chosen) (blocks : List (List ℕ)) : Type 0 where
  pub named : chosen.name ≡ name
  pub may : MayMake volume outer making chosen blocks

-- so it is at the path of a text
pub record MayMakeAt {D : Type 0} {disks : Ghosts D} (volume : Volume D disks) (text : List ℕ) (making : makings.Making) (chosen : Chosen)
    (blocks : List (List ℕ)) : Type 0 where
  pub outer : List (List ℕ)
  pub is : name_path (names_in (volume_view volume) (now (past_of volume))) text ≡ Ok (chosen.name ∷ outer)
  pub may : MayMake volume outer making chosen blocks
