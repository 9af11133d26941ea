-- The laws over lists of commands, by induction on the list.
use Rattle.std.proofs.Common.{ℕ, List, ◌++◌}
use Rattle.disk_trait.specs.Moments.{now}
use Rattle.disk_trait.proofs.MomentLemmas.{leaves_weaker}
use Rattle.lilo_model.specs.Disks.{Image}
use Rattle.session_model.specs.Keeps.{Keeps, IsHeld}
use Rattle.session_model.specs.Site.{Site}
use Rattle.session_model.specs.Step.{Stopped, Answered}
use Rattle.session_model.specs.Session.{Turn, IsLeft, IsSession, Begun, Then, AllLeaveMap, AtFirst, ByStep}
use Rattle.session_laws.specs.Sessions.{Reaches, SessionLaw, HeldLaw, JoinedLaw, TurnLaw}

-- ---- the law

reaches : (site : Site) (first : Image) → Keeps site first → (turns : List Turn) (last : Image) → IsSession site first turns last → Reaches site first turns last
reaches site first keeps _ _ Begun = record { keeps = keeps; reached = AtFirst }
reaches site first keeps _ _ (Then turns old turn new session left) =
    let before = reaches site first keeps turns old session in
    record { keeps = left.keeps before.keeps; reached = ByStep turns old turn new before.reached (left.step before.keeps) }

pub session_law : SessionLaw
session_law site first turns last keeps session = reaches site first keeps turns last session

held : (site : Site) (text : List ℕ) (first : Image) → Keeps site first → IsHeld site text first → (turns : List Turn) (last : Image) (session : IsSession site first turns last)
    → AllLeaveMap text session → IsHeld site text last
held site text first keeps is _ _ Begun all = is
held site text first keeps is _ _ (Then turns old turn new session left) all =
    left.held (reaches site first keeps turns old session).keeps text all.1 (held site text first keeps is turns old session all.0)

pub held_law : HeldLaw
held_law site text first turns last session keeps all is = held site text first keeps is turns last session all

joined : (site : Site) (first : Image) (turns : List Turn) (middle : Image) → IsSession site first turns middle → (later : List Turn) (last : Image) → IsSession site middle later last
    → IsSession site first (later ++ turns) last
joined site first turns middle session _ _ Begun = session
joined site first turns middle session _ _ (Then later old turn new next left) =
    Then (later ++ turns) old turn new (joined site first turns middle session later old next) left

pub joined_law : JoinedLaw
joined_law site first turns middle later last session next = joined site first turns middle session later last next

-- ---- a call

pub turn_law : TurnLaw
turn_law site command status first turns old new session leaves = record {
  any_moment = leaves_weaker old new (IsLeft site (record { command = command; answer = Stopped }) (now old)) _ leaves.any_moment
      (λ c left. Then turns (now old) (record { command = command; answer = Stopped }) c session left);
  after = λ c may. Then turns (now old) (record { command = command; answer = Answered status }) c session (leaves.after c may);
}
