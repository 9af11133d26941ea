-- Asking comes to the choice by cutting.
use Rattle.std.proofs.Common.{◌≡◌, ◌∙◌, refl, sym, ap, ℕ, List, [], ◌∷◌, ◌++◌, append-nil, Option, None, Some, option_map, Ok}
use Rattle.lilo_model.specs.Choice.{choice, opening, opening_behind}
use Rattle.lilo_model.specs.DefaultLine.{DefaultLine}
use Rattle.lilo_model.specs.Prompt.{ListedEntry, Decision, Opening}
use Rattle.lilo_model.specs.Reason.{Reason}
use Rattle.prompt_core.specs.Decided.{plain_setup, marks_text, marks_opening, decided}
use Rattle.prompt_core.specs.Run.{Mark, Shown, Opened, Run, run_of}
use Rattle.prompt_core.proofs.DecidedLemmas.{choice_law, opening_law}
use Rattle.section_loader.specs.Reading.{FileRest}
use Rattle.prompt_loop.specs.Laws.{DecidesAs, ComesTo, AskLaw}
use Rattle.prompt_loop.specs.Tale.{Tale, tale_behind, stopped_tale, marks_tale, tale_of}
use Rattle.prompt_loop.proofs.TaleLemmas.{behind_behind}

-- all is shown where the message is good
good_marks :
    (message : FileRest) (marks : List Mark) (tale : Tale) → message.stop ≡ None
    → marks_tale message marks tale ≡ tale_behind (marks_text message.bytes marks) tale
good_marks message [] tale good = refl
good_marks message (Shown byte ∷ marks) tale good =
    ap (λ t. tale_behind (byte ∷ []) t) (good_marks message marks tale good)
good_marks message (Opened left ∷ marks) tale good =
    rw good
    (ap (λ t. tale_behind message.bytes t) (good_marks message marks tale good)
    ∙ behind_behind message.bytes (marks_text message.bytes marks) tale)

-- or up to where the prompt opens
abbrev StopsAt : FileRest → Reason → List Mark → Tale → Option Opening → Type 0
StopsAt message why marks tale None = marks_tale message marks tale ≡ tale_behind (marks_text message.bytes marks) tale
StopsAt message why marks tale (Some opens) = marks_tale message marks tale ≡ stopped_tale (opens.before ++ message.bytes) why opens.left

byte_stops :
    (message : FileRest) (why : Reason) (byte : ℕ) (marks : List Mark) (tale : Tale) (opens : Option Opening)
    → StopsAt message why marks tale opens
    → StopsAt message why (Shown byte ∷ marks) tale (option_map (opening_behind (byte ∷ [])) opens)
byte_stops message why byte marks tale None rest = ap (λ t. tale_behind (byte ∷ []) t) rest
byte_stops message why byte marks tale (Some opens) rest = ap (λ t. tale_behind (byte ∷ []) t) rest

stops_at :
    (message : FileRest) (why : Reason) (marks : List Mark) (tale : Tale) → message.stop ≡ Some why
    → StopsAt message why marks tale (marks_opening marks)
stops_at message why [] tale bad = refl
stops_at message why (Shown byte ∷ marks) tale bad =
    byte_stops message why byte marks tale (marks_opening marks) (stops_at message why marks tale bad)
stops_at message why (Opened left ∷ marks) tale bad = rw bad refl

-- ---- the law

-- a tale that is whole
whole_tale :
    (message : FileRest) (run : Run) → tale_of message run ≡ tale_behind (marks_text message.bytes run.shown) (record { end = Ok run.picked; shown = []; left = run.left })
    → tale_of message run ≡ record { end = Ok run.picked; shown = marks_text message.bytes run.shown; left = run.left }
whole_tale message run same =
    same ∙ ap (λ text. record { end = Ok run.picked; shown = text; left = run.left }) (append-nil (marks_text message.bytes run.shown))

decides :
    (entries : List ListedEntry) (line : DefaultLine) (message : FileRest) (run : Run) (tale : Tale) (decision : Decision)
    → decided entries line message.bytes run ≡ decision
    → tale ≡ record { end = Ok run.picked; shown = marks_text message.bytes run.shown; left = run.left }
    → DecidesAs entries line tale decision
decides entries line message run tale decision law same =
    rw same (record { chosen = run.picked; end = refl; decided = sym law })

comes_to :
    (entries : List ListedEntry) (line : DefaultLine) (message : FileRest) (run : Run) (decision : Decision)
    → decided entries line message.bytes run ≡ decision
    → (stop : Option Reason) → message.stop ≡ stop → (opens : Option Opening) → marks_opening run.shown ≡ opens
    → ComesTo entries line message stop opens (tale_of message run) decision
comes_to entries line message run decision law None is opens found =
    decides entries line message run (tale_of message run) decision law
    (whole_tale message run (good_marks message run.shown _ is))
comes_to entries line message run decision law (Some why) is None found =
    decides entries line message run (tale_of message run) decision law
    (whole_tale message run (rw found at (stops_at message why run.shown (record { end = Ok run.picked; shown = []; left = run.left }) is)))
comes_to entries line message run decision law (Some why) is (Some opens) found =
    rw found at (stops_at message why run.shown (record { end = Ok run.picked; shown = []; left = run.left }) is)

pub ask_law : AskLaw
ask_law settings entries line message keys =
    comes_to entries line message (run_of (plain_setup settings entries line) keys) (choice settings entries line (Some message.bytes) keys)
    (choice_law settings entries line (Some message.bytes) keys)
    message.stop refl (opening settings entries line keys) (opening_law settings entries line keys)
