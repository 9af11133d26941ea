-- What asking at a prompt comes to, with the message's bytes at their place (this project's own).
use Rattle.std.specs.Prelude.{◌≡◌, ℕ, List, [], ◌∷◌, ◌++◌, Option, None, Some, Result, Ok, Err}
use Rattle.lilo_model.specs.Prompt.{Key, ListedEntry}
use Rattle.lilo_model.specs.Reason.{Reason}
use Rattle.prompt_core.specs.Steps.{Chosen, Said}
use Rattle.prompt_core.specs.Run.{Mark, Shown, Opened, Run, said_marks}
use Rattle.section_loader.specs.declared.reason.Halt.{Halt}
use Rattle.section_loader.specs.declared.reason.Halt.TheVariants.{Device, Refused}
use Rattle.section_loader.specs.Reading.{FileRest}
use Rattle.section_loader.specs.View.{reason_view}
use Rattle.stream_trait.specs.Shows.{SinkState, Shows}

-- what was chosen, if anything, or why the message was refused; all that was shown, and the keys that were not taken
pub record Tale : Type 0 where
  pub end : Result (Option Chosen) Reason
  pub shown : List ℕ
  pub left : List Key

-- a tale with a text before it
abbrev pub tale_behind : List ℕ → Tale → Tale
tale_behind text tale = record { end = tale.end; shown = text ++ tale.shown; left = tale.left }

-- a tale that ends where the message is refused
abbrev pub stopped_tale : List ℕ → Reason → List Key → Tale
stopped_tale text why left = record { end = Err why; shown = text; left = left }

-- a tale with the message before it, which may be refused, while these keys are not taken
abbrev pub message_tale : List ℕ → Option Reason → List Key → Tale → Tale
message_tale bytes None left tale = tale_behind bytes tale
message_tale bytes (Some why) left tale = stopped_tale bytes why left

-- a tale with all before it that marks show, and the message at its place
abbrev pub marks_tale : FileRest → List Mark → Tale → Tale
marks_tale message [] tale = tale
marks_tale message (Shown byte ∷ marks) tale = tale_behind (byte ∷ []) (marks_tale message marks tale)
marks_tale message (Opened left ∷ marks) tale = message_tale message.bytes message.stop left (marks_tale message marks tale)

-- the tale of keys that a prompt is given, one by one
abbrev pub tale_of : FileRest → Run → Tale
tale_of message run = marks_tale message run.shown (record { end = Ok run.picked; shown = []; left = run.left })

-- ---- what was shown of an answer

-- this text was shown, and it is what the answer shows before what comes of it
pub record SaysAll (message : FileRest) (entries : List ListedEntry) (said : Said) (old new : SinkState) : Type 0 where
  pub text : List ℕ
  pub shows : Shows old text new
  pub says : (left : List Key) (tale : Tale) → marks_tale message (said_marks entries left said) tale ≡ tale_behind text tale

-- this text was shown, and after it the message is refused
pub record SaysUpTo (why : Reason) (message : FileRest) (entries : List ListedEntry) (said : Said) (old new : SinkState) : Type 0 where
  pub text : List ℕ
  pub shows : Shows old text new
  pub says : (left : List Key) (tale : Tale) → marks_tale message (said_marks entries left said) tale ≡ stopped_tale text why left

-- this text was shown, and it is a prefix of what the answer shows
pub record SaysPrefix (message : FileRest) (entries : List ListedEntry) (said : Said) (old new : SinkState) : Type 0 where
  pub text : List ℕ
  pub shows : Shows old text new
  pub says : (left : List Key) (tale : Tale) → (rest : List ℕ) × ((marks_tale message (said_marks entries left said) tale).shown ≡ text ++ rest)

abbrev pub Says : Result (Unit {0}) Halt → FileRest → List ListedEntry → Said → SinkState → SinkState → Type 0
Says (Ok done) message entries said old new = SaysAll message entries said old new
Says (Err Device) message entries said old new = SaysPrefix message entries said old new
Says (Err (Refused reason)) message entries said old new = SaysUpTo (reason_view reason) message entries said old new
