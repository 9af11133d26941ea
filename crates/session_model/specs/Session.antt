-- Session: a list of commands, each finished or stopped, the next beginning on any image that was left (this project's
-- own).
use Rattle.std.specs.Prelude.{◌≡◌, ◌≢◌, ℕ, List, [], ◌∷◌, Ok}
use Rattle.lilo_model.specs.Disks.{Image}
use Rattle.lilo_model.specs.MinixNames.{names_in}
use Rattle.lilo_model.specs.NamePlaces.{name_path, with_tilde}
use Rattle.session_model.specs.Keeps.{Keeps, IsHeld}
use Rattle.session_model.specs.Site.{Site}
use Rattle.session_model.specs.Step.{Command, Install, Boot, SetLine, Restore, Look, Change, Answer, Step}

-- a command, and how it was answered
pub record Turn : Type 0 where
  pub command : Command
  pub answer : Answer

-- ---- Held

-- A file command names neither the map nor the map with `~`, and the text leads to the map's name still. It is asked only
-- where the text leads to a name.
pub record SparesMap (site : Site) (text changed : List ℕ) (old new : Image) (map : List (List ℕ)) : Type 0 where
  pub not_map : name_path (names_in site.volume old) changed ≢ Ok map
  pub not_tilde : name_path (names_in site.volume old) changed ≢ Ok (with_tilde map)
  pub leads : name_path (names_in site.volume new) text ≡ Ok map

-- a command leaves the map at the name to which a text leads: an installation has this text as its `map=`
abbrev pub LeavesMap : Site → List ℕ → Command → Image → Image → Type 0
LeavesMap site text (Install config device) old new = config.map ≡ text
LeavesMap site text (Boot keys memory) old new = Unit {0}
LeavesMap site text (SetLine line) old new = Unit {0}
LeavesMap site text (Restore device) old new = Unit {0}
LeavesMap site text Look old new = Unit {0}
LeavesMap site text (Change change) old new =
    (map : List (List ℕ)) → name_path (names_in site.volume old) text ≡ Ok map → SparesMap site text change.path old new map

-- ---- what a command leaves

-- An image is left by a command that began on another one: it keeps what that one kept, is what the command makes of it,
-- and is Held where that one was and the command leaves the map at its name. A session asks this of each call.
pub record IsLeft (site : Site) (turn : Turn) (old new : Image) : Type 0 where
  pub keeps : Keeps site old → Keeps site new
  pub step : Keeps site old → Step site turn.command turn.answer old new
  pub held : Keeps site old → (text : List ℕ) → LeavesMap site text turn.command old new → IsHeld site text old → IsHeld site text new

-- ---- sessions

-- from one image on a list of turns, the newest first, leaves another
pub data IsSession (site : Site) (first : Image) : List Turn → Image → Type 0 where
  Begun : IsSession site first [] first
  Then : (turns : List Turn) (old : Image) (turn : Turn) (new : Image) → IsSession site first turns old → IsLeft site turn old new
      → IsSession site first (turn ∷ turns) new

-- each of its commands leaves the map at its name
abbrev pub AllLeaveMap : {site : Site} {first : Image} {turns : List Turn} {last : Image} → List ℕ → IsSession site first turns last → Type 0
AllLeaveMap text Begun = Unit {0}
AllLeaveMap {site} text (Then turns old turn new session left) = AllLeaveMap text session × LeavesMap site text turn.command old new

-- the same of states alone: each image's state is what Step makes of the one before
pub data IsReached (site : Site) (first : Image) : List Turn → Image → Type 0 where
  AtFirst : IsReached site first [] first
  ByStep : (turns : List Turn) (old : Image) (turn : Turn) (new : Image) → IsReached site first turns old
      → Step site turn.command turn.answer old new → IsReached site first (turn ∷ turns) new
