-- What a walk over an inode's zones has left to meet, and how its answers relate to that.
use Rattle.std.specs.Prelude.{◌≡◌, ◌≤◌, ℕ, ◌+◌, ◌-◌, ◌*◌, nat_lt, if◌then◌else◌, List, [], ◌∷◌, ◌++◌, Option, None, Some, Result, Ok, Err}
use Rattle.lilo_model.specs.MinixLayout.{Super, numbers_in_zone}
use Rattle.lilo_model.specs.MinixParts as model
use Rattle.lilo_model.specs.MinixWalk as walks
use Rattle.minix_layout.specs.View.{inode_view}
use Rattle.minix_zones.specs.declared.visit.Visit.{Visit}
use Rattle.minix_zones.specs.declared.walk.Walk.{Walk}
use Rattle.minix_zones.specs.declared.zone_fault.ZoneFault.{ZoneFault}
use Rattle.minix_zones.specs.declared.zone_fault.ZoneFault.TheVariants as faults

-- a zone that was met
abbrev pub visit_view : Visit → walks.Visit
visit_view visit = record { zone = visit.zone; index = visit.index; indirect = visit.indirect }

-- the stops that are left from a level of a block on, up to the block `end`
unfoldable pub stops_left : ℕ → ℕ → ℕ → ℕ → List walks.Stop
stops_left per index level end =
    if nat_lt index end
    then walks.stops_at per index level ++ walks.stops_from per (index + 1) (end - (index + 1))
    else []

-- what is left to meet
unfoldable pub rest_of : Super → model.Parts → Walk → List (Result walks.Visit model.ZoneFault)
rest_of super parts walk =
    walks.met_at
    (walks.stop_number super parts (inode_view walk.inode))
    (stops_left (numbers_in_zone super.kind) walk.index walk.level walk.end)

-- the number at the stop that a walk has come to
abbrev pub number_of : Super → model.Parts → Walk → Result ℕ model.ZoneFault
number_of super parts walk =
    walks.stop_number super parts (inode_view walk.inode) (record { index = walk.index; level = walk.level })

-- a walk over the same inode that has come to a level of a block
pub record HasCome (old new : Walk) (index level : ℕ) : Type 0 where
  pub same_inode : new.inode ≡ old.inode
  pub same_end : new.end ≡ old.end
  pub at_index : new.index ≡ index
  pub at_level : new.level ≡ level

-- it has come to its end
abbrev pub IsEnded : Walk → Type 0
IsEnded walk = walk.end ≤ walk.index

-- at most how many stops are left
abbrev pub turns_left : Walk → ℕ
turns_left walk = 4 * (walk.end - walk.index) + walk.level

-- a refusal is the first that is met, and nothing is left, or the disk failed
abbrev pub Refused : ZoneFault → List (Result walks.Visit model.ZoneFault) → Type 0
Refused (faults.Layout fault) rest = ⊥
Refused (faults.ZoneOutside zone) rest = rest ≡ (Err (model.ZoneOutside zone) ∷ [])
Refused faults.Device rest = Unit {0}

-- what was answered is the first of what was left to meet, and the others are left
abbrev pub Meets : Result (Option Visit) ZoneFault → List (Result walks.Visit model.ZoneFault) → List (Result walks.Visit model.ZoneFault) → Type 0
Meets (Ok None) before after = before ≡ []
Meets (Ok (Some visit)) before after = before ≡ (Ok (visit_view visit) ∷ after)
Meets (Err fault) before after = Refused fault before

-- a turn answered the first of what was left to meet, or passed a stop where nothing is met
abbrev pub Turns : Result (Option Visit) ZoneFault → List (Result walks.Visit model.ZoneFault) → List (Result walks.Visit model.ZoneFault) → Type 0
Turns (Ok None) before after = before ≡ after
Turns (Ok (Some visit)) before after = before ≡ (Ok (visit_view visit) ∷ after)
Turns (Err fault) before after = Refused fault before

-- stops were passed where nothing is met, or the first of what was left to meet is the refusal
abbrev pub Passes : Result (Unit {0}) ZoneFault → List (Result walks.Visit model.ZoneFault) → List (Result walks.Visit model.ZoneFault) → Type 0
Passes (Ok done) before after = before ≡ after
Passes (Err fault) before after = Refused fault before
