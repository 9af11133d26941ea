-- Text that is put in large pieces: what was shown already, and what is held for a later piece.
use Rattle.std.specs.Prelude.{◌≡◌, ℕ, List, ◌++◌}
use Rattle.stream_trait.specs.Shows as shown
use Rattle.stream_trait.specs.Shows.{SinkState, Shows}
use Rattle.stream_trait.specs.declared.sink.Sink.{Ghosts}
use Rattle.ldisk_run.specs.declared.pieces.Pieces.{Pieces}

-- the sink, and the text that is held
pub record Held : Type 0 where
  pub sink : SinkState
  pub text : List ℕ

-- the sink that text goes to
abbrev pub sink_of : {O : Type 0} → Ghosts O → Pieces O → SinkState
sink_of sink pieces = shown.sink_of sink pieces.out

-- the sink, and the text that is held for it
abbrev pub held_by : {O : Type 0} → Ghosts O → Pieces O → Held
held_by sink pieces = record { sink = sink_of sink pieces; text = pieces.held.items }

-- A text was added: of what was held and this text, a prefix was shown, and the rest is held.
abbrev pub Adds : Held → List ℕ → Held → Type 0
Adds old text new = (shown : List ℕ) × Shows old.sink shown new.sink × (old.text ++ text ≡ shown ++ new.text)

-- a prefix of a text was added
abbrev pub AddsFront : Held → List ℕ → Held → Type 0
AddsFront old text new = (front rest : List ℕ) × (text ≡ front ++ rest) × Adds old front new
