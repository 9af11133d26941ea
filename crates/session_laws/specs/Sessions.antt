-- What follows for every list of commands and stops, by induction on the list.
use Rattle.std.specs.Prelude.{◌++◌, ℕ, List, ◌∷◌, Option}
use Rattle.disk_trait.specs.Past.{Past}
use Rattle.disk_trait.specs.Moments.{now, MayLeave, LeavesOnly}
use Rattle.lilo_model.specs.Disks.{Image}
use Rattle.session_model.specs.Keeps.{Keeps, IsHeld}
use Rattle.session_model.specs.Site.{Site}
use Rattle.session_model.specs.Step.{Command, Stopped, Answered}
use Rattle.session_model.specs.Session.{Turn, IsLeft, IsSession, AllLeaveMap, IsReached}

-- an image keeps what a session keeps, and its state is reached by Step
pub record Reaches (site : Site) (first : Image) (turns : List Turn) (last : Image) : Type 0 where
  pub keeps : Keeps site last
  pub reached : IsReached site first turns last

-- so it is of each image of a session whose first one keeps it
abbrev pub SessionLaw : Type 0
SessionLaw =
    (site : Site) (first : Image) (turns : List Turn) (last : Image) → Keeps site first → IsSession site first turns last
    → Reaches site first turns last

-- and each is Held where the first one is and each command leaves the map at its name
abbrev pub HeldLaw : Type 0
HeldLaw =
    (site : Site) (text : List ℕ) (first : Image) (turns : List Turn) (last : Image) (session : IsSession site first turns last)
    → Keeps site first → AllLeaveMap text session → IsHeld site text first → IsHeld site text last

-- sessions in a row are one
abbrev pub JoinedLaw : Type 0
JoinedLaw =
    (site : Site) (first : Image) (turns : List Turn) (middle : Image) (later : List Turn) (last : Image)
    → IsSession site first turns middle → IsSession site middle later last → IsSession site first (later ++ turns) last

-- ---- a call

-- what a call of a command leaves, from the image at its entry on: at any moment of it as one that was stopped, and from
-- its exit on as one that was answered so
pub record LeavesTurn (site : Site) (command : Command) (status : ℕ) (old new : Option Past) : Type 0 where
  pub any_moment : LeavesOnly old new (IsLeft site (record { command = command; answer = Stopped }) (now old))
  pub after : (c : Image) → MayLeave new c → IsLeft site (record { command = command; answer = Answered status }) (now old) c

-- a session that such a call goes on
pub record GoesOnBy (site : Site) (command : Command) (status : ℕ) (first : Image) (turns : List Turn) (old new : Option Past) : Type 0 where
  pub any_moment : LeavesOnly old new (IsSession site first (record { command = command; answer = Stopped } ∷ turns))
  pub after : (c : Image) → MayLeave new c → IsSession site first (record { command = command; answer = Answered status } ∷ turns) c

abbrev pub TurnLaw : Type 0
TurnLaw =
    (site : Site) (command : Command) (status : ℕ) (first : Image) (turns : List Turn) (old new : Option Past)
    → IsSession site first turns (now old) → LeavesTurn site command status old new
    → GoesOnBy site command status first turns old new
