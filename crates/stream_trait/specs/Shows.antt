-- What a sink has taken of the texts that were shown: all of them in order until it failed, and nothing after that.
use Rattle.std.specs.Prelude.{◌≡◌, ◌≤◌, ◌⊎◌, ℕ, ◌==◌, ◌&&◌, if◌then◌else◌, Bool, true, false, List, [], ◌∷◌, Option}
use Rattle.lilo_model.specs.Faults.{Rose}
use Rattle.stream_trait.specs.Sink.{Takes, TakesFront}
use Rattle.stream_trait.specs.declared.sink.Sink.{Ghosts}
use Rattle.stream_trait.specs.declared.shown.Shown.{Shown}

-- a sink after which texts are shown: what it has taken, where it reports that, how often it failed, and whether it
-- refused a text that was to be shown
pub record SinkState : Type 0 where
  pub taken : Option (List ℕ)
  pub faults : ℕ
  pub failed : Bool

-- a text was shown
pub record Shows (old : SinkState) (text : List ℕ) (new : SinkState) : Type 0 where
  pub later : old.faults ≤ new.faults
  -- once it failed nothing more is put
  pub stays_failed : old.failed ≡ true → new.failed ≡ true
  pub stays_taken : old.failed ≡ true → new.taken ≡ old.taken
  pub stays_counted : old.failed ≡ true → new.faults ≡ old.faults
  -- until it fails it takes all, and counts no fault
  pub whole : new.failed ≡ false → Takes old.taken text new.taken
  pub uncounted : new.failed ≡ false → new.faults ≡ old.faults
  -- where it fails its count of faults rises, and it has taken a prefix
  pub rose : old.failed ≡ false → new.failed ≡ true → Rose old.faults new.faults
  pub front : old.failed ≡ false → new.failed ≡ true → TakesFront old.taken text new.taken

-- Where a sink has refused a text since, its failures rose; and they never fall.
pub record HasFailed (old new : SinkState) : Type 0 where
  pub later : old.faults ≤ new.faults
  pub failed : new.failed ≡ true → (old.failed ≡ true) ⊎ Rose old.faults new.faults

-- one of these texts was shown
abbrev pub ShowsOne : SinkState → List (List ℕ) → SinkState → Type 0
ShowsOne old [] new = ⊥
ShowsOne old (text ∷ texts) new = Shows old text new ⊎ ShowsOne old texts new

-- such a state, by what is known of the sink
abbrev pub state_of : Option (List ℕ) → ℕ → Bool → SinkState
state_of taken faults failed = record { taken = taken; faults = faults; failed = failed }

-- the sink after which texts are shown
abbrev pub sink_of : {O : Type 0} → Ghosts O → Shown O → SinkState
sink_of g shown = record { taken = g.taken shown.out.now; faults = g.faults shown.out.now; failed = shown.failed }

-- ---- the whole of what a sink took

-- a sink took a text whole, or its faults rose and it took a prefix
abbrev pub Prints : Option (List ℕ) → List ℕ → Option (List ℕ) → ℕ → ℕ → Type 0
Prints old text new before now = Takes old text new ⊎ (Rose before now × TakesFront old text new)

-- one of these texts
abbrev pub PrintsOne : Option (List ℕ) → List (List ℕ) → Option (List ℕ) → ℕ → ℕ → Type 0
PrintsOne old [] new before now = ⊥
PrintsOne old (text ∷ texts) new before now = Prints old text new before now ⊎ PrintsOne old texts new before now

-- the exit status of a program, where its sink may have failed
abbrev pub answer_of : ℕ → Bool → ℕ
answer_of status failed = if (status == 0) && failed then 12 else status
