-- Where the body and the line of an image come from, and what it boots: it is of the beginning, of the last acknowledged
-- command that makes one, or of a command stopped since.
use Rattle.std.specs.Prelude.{◌≡◌, ◌≢◌, ◌⊎◌, ◌++◌, ℕ, Bool, true, false, List, [], ◌∷◌, Some}
use Rattle.std.specs.List.{AllByRecursion}
use Rattle.lilo_model.specs.Boot.{whole_boot, foreign_boot}
use Rattle.lilo_model.specs.Conf.{Config}
use Rattle.lilo_model.specs.DefaultLine.{DefaultLine}
use Rattle.lilo_model.specs.Devices.{Device}
use Rattle.lilo_model.specs.Disks.{Image, DiskSector, bytes_at}
use Rattle.lilo_model.specs.LineShots.{shot_line}
use Rattle.lilo_model.specs.Meant.{meant}
use Rattle.lilo_model.specs.MinixNames.{names_in}
use Rattle.lilo_model.specs.Planned.{devices_in, first_sector}
use Rattle.lilo_model.specs.Prompt.{Key}
use Rattle.lilo_model.specs.Restored.{restored_sector}
use Rattle.lilo_model.specs.Settled.{is_foreign}
use Rattle.session_model.specs.Keeps.{IsLineApart}
use Rattle.session_model.specs.Session.{Turn, IsReached}
use Rattle.session_model.specs.Site.{Site, IsApart, boot_place}
use Rattle.session_model.specs.State.{body_in, line_in}
use Rattle.session_model.specs.Step.{Command, Install, Boot, SetLine, Restore, Look, Change, Done, Undone, extent_of, IsCommitted, IsInstalled}
use Rattle.session_model.specs.Step.{IsRestored, HasLine}

-- ---- commands that make a body or a line

abbrev pub sets_body : Command → Bool
sets_body (Install config device) = true
sets_body (Restore device) = true
sets_body (Boot keys memory) = false
sets_body (SetLine text) = false
sets_body Look = false
sets_body (Change change) = false

abbrev pub sets_line : Command → Bool
sets_line (Install config device) = true
sets_line (Restore device) = true
sets_line (Boot keys memory) = true
sets_line (SetLine text) = true
sets_line Look = false
sets_line (Change change) = false

-- a turn doesn't make one for certain: its command doesn't, or wasn't acknowledged
abbrev pub IsUncertain : (Command → Bool) → Turn → Type 0
IsUncertain sets turn = (sets turn.command ≡ false) ⊎ (extent_of turn.command turn.answer ≢ Done)

-- what a command makes of the body
abbrev pub MakesBody : Site → Command → Image → Image → Type 0
MakesBody site (Install config device) old new = IsInstalled site config device old new
MakesBody site (Restore device) old new = IsRestored site device old new
MakesBody site (Boot keys memory) old new = ⊥
MakesBody site (SetLine text) old new = ⊥
MakesBody site Look old new = ⊥
MakesBody site (Change change) old new = ⊥

-- and of the line
abbrev pub MakesLine : Site → Command → Image → Image → Type 0
MakesLine site (Install config device) old new = IsInstalled site config device old new
MakesLine site (Restore device) old new = IsRestored site device old new
MakesLine site (Boot keys memory) old new = HasLine site (whole_boot old site.machine site.boot keys memory).line old new
MakesLine site (SetLine text) old new = HasLine site (Some (shot_line text)) old new
MakesLine site Look old new = ⊥
MakesLine site (Change change) old new = ⊥

-- the newest turn of some wasn't refused, and left an image with what its command makes of the one on which it began
pub record IsMade (site : Site) (Makes : Command → Image → Image → Type 0) (first : Image) (turns : List Turn) (made : Image) : Type 0 where
  pub turn : Turn
  pub before : List Turn
  pub old : Image
  pub are : turns ≡ turn ∷ before
  pub reached : IsReached site first before old
  pub makes : Makes turn.command old made
  pub may : extent_of turn.command turn.answer ≢ Undone

-- the view of the last image is the first one's, or that of an image which a turn made; and no later turn makes one for certain
pub record Comes {A : Type 0} (site : Site) (sets : Command → Bool) (Makes : Command → Image → Image → Type 0) (view : Image → A) (first : Image)
    (turns : List Turn) (last : Image) : Type 0 where
  pub later : List Turn
  pub earlier : List Turn
  pub split : turns ≡ later ++ earlier
  pub made : Image
  pub is : view last ≡ view made
  pub none : AllByRecursion (IsUncertain sets) later
  pub by : ((earlier ≡ []) × (made ≡ first)) ⊎ IsMade site Makes first earlier made

abbrev pub BodyLaw : Type 0
BodyLaw =
    (site : Site) (first : Image) (turns : List Turn) (last : Image) → IsReached site first turns last
    → Comes site sets_body (MakesBody site) (body_in site) first turns last

abbrev pub LineLaw : Type 0
LineLaw =
    (site : Site) (first : Image) (turns : List Turn) (last : Image) → IsReached site first turns last
    → Comes site sets_line (MakesLine site) (line_in site) first turns last

-- ---- what boots

-- The body is the first image's, and no command was acknowledged that makes one. Where the line's sector is apart in the
-- first image, each image with its body and the line that is there now boots the same.
pub record IsOfFirst (site : Site) (first : Image) (turns : List Turn) (last : Image) : Type 0 where
  pub body : body_in site last ≡ body_in site first
  pub none : AllByRecursion (IsUncertain sets_body) turns
  pub boots : IsLineApart site first → (c : Image) → body_in site c ≡ body_in site first → line_in site c ≡ line_in site last
      → (keys : List Key) (memory : ℕ)
      → whole_boot last site.machine site.boot keys memory ≡ whole_boot c site.machine site.boot keys memory

-- It is of an installation, the last acknowledged or one stopped since: what boots is as its configuration means, by the
-- line that is there.
pub record IsOfInstallation (site : Site) (first : Image) (turns : List Turn) (last : Image) : Type 0 where
  pub turn : Turn
  pub config : Config
  pub device : Device
  pub installs : turn.command ≡ Install config device
  pub later : List Turn
  pub before : List Turn
  pub split : turns ≡ later ++ (turn ∷ before)
  pub old : Image
  pub made : Image
  pub reached : IsReached site first before old
  pub committed : IsCommitted site config device old made
  pub may : extent_of turn.command turn.answer ≢ Undone
  pub none : AllByRecursion (IsUncertain sets_body) later
  pub body : body_in site last ≡ body_in site made
  pub line : DefaultLine
  pub has : line_in site last ≡ Some line
  pub boots : (keys : List Key) (memory : ℕ) → whole_boot last site.machine site.boot keys memory
      ≡ meant config (names_in site.volume committed.settled) (devices_in committed.settled site.machine) line keys memory

-- it is of a restored boot sector, and that is handed over
pub record IsOfRestored (site : Site) (first : Image) (turns : List Turn) (last : Image) : Type 0 where
  pub turn : Turn
  pub device : Device
  pub restores : turn.command ≡ Restore device
  pub later : List Turn
  pub before : List Turn
  pub split : turns ≡ later ++ (turn ∷ before)
  pub old : Image
  pub made : Image
  pub reached : IsReached site first before old
  pub restored : IsRestored site device old made
  pub may : extent_of turn.command turn.answer ≢ Undone
  pub none : AllByRecursion (IsUncertain sets_body) later
  pub body : body_in site last ≡ body_in site made
  pub boots : (keys : List Key) (memory : ℕ) → whole_boot last site.machine site.boot keys memory
      ≡ foreign_boot (restored_sector restored.backup (bytes_at old (boot_place site))) keys

abbrev pub BootsLaw : Type 0
BootsLaw =
    (site : Site) (first : Image) (turns : List Turn) (last : Image) → IsReached site first turns last
    → IsOfFirst site first turns last ⊎ (IsOfInstallation site first turns last ⊎ IsOfRestored site first turns last)

-- a body that is one sector of another system boots that sector
abbrev pub ForeignBootsLaw : Type 0
ForeignBootsLaw =
    (site : Site) (last : Image) (bytes : List ℕ)
    → body_in site last ≡ record { place = boot_place site; bytes = bytes } ∷ [] → is_foreign bytes ≡ true
    → (keys : List Key) (memory : ℕ) → whole_boot last site.machine site.boot keys memory ≡ foreign_boot bytes keys

-- a device that is found outside the volume has, once names are settled, the first sector that it had at the entry
abbrev pub DevicesAtEntryLaw : Type 0
DevicesAtEntryLaw =
    (site : Site) (config : Config) (device : Device) (old made : Image) (committed : IsCommitted site config device old made) (other : Device)
    → ((c : Image) → ((d s : ℕ) → IsApart site d s → c d s ≡ old d s) → first_sector c site.machine other ≡ first_sector old site.machine other)
    → ((place : DiskSector) → first_sector old site.machine other ≡ Some place → IsApart site place.disk place.sector)
    → devices_in committed.settled site.machine other ≡ devices_in old site.machine other
