-- An installation by itself: what it answers, and what a stop at any moment leaves of it.
use Rattle.std.specs.Prelude.{◌≡◌, ℕ, ◌==◌, true, if◌then◌else◌, List, [], ◌∷◌, Option, Ok, IsErr}
use Rattle.disk_trait.specs.Past.{Past}
use Rattle.disk_trait.specs.Moments.{IsQuiet}
use Rattle.disk_trait.specs.declared.disks.Disks as disks
use Rattle.lilo_model.specs.ConfVerdict.{conf_path}
use Rattle.lilo_model.specs.Devices.{Device}
use Rattle.lilo_model.specs.Disks.{Image, Machine}
use Rattle.lilo_model.specs.MinixParts.{Volume, volume_at}
use Rattle.lilo_model.specs.Prompt.{Key}
use Rattle.lilo_model.specs.Words.{Part, Install, run_at}
use Rattle.sector_address.specs.Machine.{OnDisks}
use Rattle.stream_trait.specs.declared.sink.Sink.{Ghosts}
use Rattle.stream_trait.specs.declared.source.Source as sources
use Rattle.install_begin.specs.Begin as begins
use Rattle.install_begin.specs.Begin.{begun_at, begun_with}
use Rattle.install_laws.specs.InstallVerdict.{Begun, install_verdict}
use Rattle.install_run.specs.Headline.{HeadlineBy}
use Rattle.install_run.specs.Installs.{Leaves, StaysRefused, StaysUnsettled}
use Rattle.install_run.specs.Keeps.{IsSteady, WritesInside}
use Rattle.lilo_run.specs.Run.{Tells, scene_of}
use Rattle.lilo_run.specs.Verdict.{Left, leaving, install_effect}

-- the arguments are one part, which installs, with this device named for the volume and this path of the configuration
abbrev pub IsInstallRun : List (List ℕ) → Option Device → List ℕ → Type 0
IsInstallRun words root path =
    (part : Part) × (run_at words ≡ Ok (part ∷ [])) × (part.command ≡ Install) × (part.root ≡ root) × (conf_path part.config ≡ path)

-- where a volume and a configuration are read, nothing that is read then rests on what settling changes, which leaves this image
abbrev pub ReadsSteady : Image → Image → Machine → Option Device → List ℕ → Type 0
ReadsSteady image settled machine root path =
    (read : begins.Begun) → begun_at image machine root path ≡ Ok read → (volume : Volume) → volume_at image read.volume ≡ Ok volume
    → IsSteady image settled machine (begun_with read volume)

-- then what is answered is the model's verdict, by the image at the entry: of what settling leaves it takes the room alone
abbrev pub IsModelled : Image → Machine → Option Device → List ℕ → ℕ → Left → Type 0
IsModelled image machine root path time found =
    found.answered ≡ true → ReadsSteady image found.settled machine root path
    → (install_effect image machine root path time found).verdict ≡ install_verdict image machine root path found.settled time

-- the status, the text, the keys left and what the disks hold go with what is found out, by which the verdict is the model's
abbrev pub TellsInstall : {D I O : Type 0} → disks.Ghosts D → sources.Ghosts I → Ghosts O → Image → Machine → Option Device → List ℕ → ℕ
    → List Key → List Key → ℕ → D × I × List ℕ × O → D × I × List ℕ × O → Type 0
TellsInstall g i o now machine root path time keys left status old new =
    (found : Left) × (IsModelled now machine root path time found
    × Tells g (leaving keys (install_effect now machine root path time found)) status left (scene_of i o old) (scene_of i o new))

-- the status of what was done: 12 comes where it is 0 and the text wasn't shown
abbrev pub done_status : ℕ → ℕ
done_status status = if status == 12 then 0 else status

-- The headline, from a quiet moment, where a volume and a configuration are read.
abbrev pub HoldsHeadline : Image → Machine → Option Device → List ℕ → Option Past → Option Past → ℕ → Type 0
HoldsHeadline image machine root path entry ended status =
    (read : begins.Begun) → begun_at image machine root path ≡ Ok read → (volume : Volume) → volume_at image read.volume ≡ Ok volume
    → IsQuiet entry → HeadlineBy machine (begun_with read volume) entry ended status

-- There is an image by which a stop at any moment leaves what the status says: where the commit began, the image that settling left,
-- which is that of the entry where nothing is left to settle.
pub record LeavesBy (machine : Machine) (begun : Begun) (time : ℕ) (entry ended : Option Past) (status : ℕ) : Type 0 where
  pub settled : Image
  pub leaves : Leaves machine begun settled time entry ended status
  pub unsettled : StaysUnsettled machine begun time settled entry ended status

-- so it is from a quiet moment, where a volume and a configuration are read
abbrev pub InstallLeaves : Image → Machine → Option Device → List ℕ → ℕ → Option Past → Option Past → ℕ → Type 0
InstallLeaves image machine root path time entry ended status =
    (read : begins.Begun) → begun_at image machine root path ≡ Ok read → (volume : Volume) → volume_at image read.volume ≡ Ok volume
    → IsQuiet entry → LeavesBy machine (begun_with read volume) time entry ended status

abbrev pub InstallHolds : Image → Machine → Option Device → List ℕ → ℕ → Option Past → Option Past → ℕ → Type 0
InstallHolds image machine root path time entry ended status = InstallLeaves image machine root path time entry ended (done_status status)

-- What is left alone, whatever is answered and from any moment on: all, where a check before the first write refuses; and what lies outside
-- of the volume, but for the boot device's first sector.
pub record StaysBy (image : Image) (machine : Machine) (begun : Begun) (entry ended : Option Past) (status : ℕ) : Type 0 where
  pub refused : StaysRefused image machine begun entry ended
  pub outside : WritesInside begun.volume begun.span entry ended status

pub record InstallStays (image : Image) (machine : Machine) (root : Option Device) (path : List ℕ) (entry ended : Option Past) (status : ℕ) : Type 0 where
  pub unread : IsErr (begun_at image machine root path) → ended ≡ entry
  pub no_volume : (read : begins.Begun) → begun_at image machine root path ≡ Ok read → IsErr (volume_at image read.volume) → ended ≡ entry
  pub read : (read : begins.Begun) → begun_at image machine root path ≡ Ok read → (volume : Volume) → volume_at image read.volume ≡ Ok volume
      → StaysBy image machine (begun_with read volume) entry ended status

-- the same of a part that installs, on disks that report what they hold
pub record InstallDoes (image : Image) (machine : Machine) (root : Option Device) (path : List ℕ) (time : ℕ) (entry ended : Option Past)
    (status : ℕ) : Type 0 where
  pub leaves : InstallLeaves image machine root path time entry ended status
  pub stays : InstallStays image machine root path entry ended status

abbrev pub PartLeaves : {D : Type 0} → disks.Ghosts D → ℕ → Part → ℕ → D → D → Type 0
PartLeaves g time part status old new =
    part.command ≡ Install → OnDisks g old (λ image machine.
    InstallDoes image machine part.root (conf_path part.config) time (g.past old) (g.past new) status)
