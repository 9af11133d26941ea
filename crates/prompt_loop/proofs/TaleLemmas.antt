-- Tales after what was shown.
use Rattle.std.proofs.Common.{◌≡◌, ◌∙◌, refl, sym, ap, ℕ, Bool, true, false, List, [], ◌∷◌, ◌++◌, append_assoc, append-nil, Option, None, Some, Err}
use Rattle.lilo_model.specs.Prompt.{Key, ListedEntry}
use Rattle.lilo_model.specs.Reason.{Reason}
use Rattle.prompt_core.specs.Steps.{Said}
use Rattle.prompt_core.specs.Run.{Mark, Shown, Opened, text_marks, Run, run_behind, said_marks, listed, opened_at, parts_marks}
use Rattle.section_loader.specs.declared.reason.Halt.{Halt}
use Rattle.section_loader.specs.declared.reason.Halt.TheVariants.{Device, Refused}
use Rattle.section_loader.specs.Reading.{FileRest}
use Rattle.section_loader.specs.View.{reason_view}
use Rattle.stream_trait.specs.Shows.{SinkState, Shows}
use Rattle.stream_trait.proofs.ShowsLemmas.{shows_join}
use Rattle.prompt_loop.specs.Message.{opening_rest, ShowsPrefix, ShowsFile}
use Rattle.prompt_loop.specs.Tale.{Tale, tale_behind, stopped_tale, message_tale, marks_tale, tale_of, SaysAll, SaysUpTo, SaysPrefix, Says}

pub marks_both :
    (message : FileRest) (one other : List Mark) (tale : Tale)
    → marks_tale message (one ++ other) tale ≡ marks_tale message one (marks_tale message other tale)
marks_both message [] other tale = refl
marks_both message (Shown byte ∷ one) other tale = ap (λ t. tale_behind (byte ∷ []) t) (marks_both message one other tale)
marks_both message (Opened left ∷ one) other tale =
    ap (λ t. message_tale message.bytes message.stop left t) (marks_both message one other tale)

pub text_tale : (message : FileRest) (text : List ℕ) (tale : Tale) → marks_tale message (text_marks text) tale ≡ tale_behind text tale
text_tale message [] tale = refl
text_tale message (byte ∷ text) tale = ap (λ t. tale_behind (byte ∷ []) t) (text_tale message text tale)

pub behind_behind : (one other : List ℕ) (tale : Tale) → tale_behind one (tale_behind other tale) ≡ tale_behind (one ++ other) tale
behind_behind one other tale =
    ap (λ text. record { end = tale.end; shown = text; left = tale.left }) (sym (append_assoc one other tale.shown))

-- what is reported of a run with more before it
pub run_tale :
    (message : FileRest) (marks : List Mark) (run : Run)
    → tale_of message (run_behind marks run) ≡ marks_tale message marks (tale_of message run)
run_tale message marks run = marks_both message marks run.shown _

opening_tale :
    (message : FileRest) (opened : Bool) (left : List Key) (tale : Tale)
    → marks_tale message (opened_at opened left) tale
    ≡ message_tale (opening_rest opened message).bytes (opening_rest opened message).stop left tale
opening_tale message true left tale = refl
opening_tale message false left tale = refl

-- what three texts show, with the message and the names between them
parts_tale :
    (message : FileRest) (entries : List ListedEntry) (left : List Key) (said : Said) (before middle rest : List ℕ) (tale : Tale)
    → marks_tale message (parts_marks entries left said before middle rest) tale
    ≡ tale_behind before
    (message_tale (opening_rest said.opened message).bytes (opening_rest said.opened message).stop left
    (tale_behind (middle ++ (listed entries said.answer ++ rest)) tale))
parts_tale message entries left said before middle rest tale =
    let all : List ℕ = middle ++ (listed entries said.answer ++ rest) in
    marks_both message (text_marks before) (opened_at said.opened left ++ text_marks all) tale
    ∙ text_tale message before (marks_tale message (opened_at said.opened left ++ text_marks all) tale)
    ∙ ap (λ t. tale_behind before t)
    (marks_both message (opened_at said.opened left) (text_marks all) tale
    ∙ opening_tale message said.opened left (marks_tale message (text_marks all) tale)
    ∙ ap (λ t. message_tale (opening_rest said.opened message).bytes (opening_rest said.opened message).stop left t) (text_tale message all tale))

-- the parts of an answer are those of its text
abbrev pub AreParts : List ListedEntry → Said → List ℕ → List ℕ → List ℕ → Type 0
AreParts entries said before middle rest =
    (entries' : List ListedEntry) (left : List Key) → said_marks entries' left said ≡ parts_marks entries' left said before middle rest

said_tale :
    (message : FileRest) (entries : List ListedEntry) (said : Said) (before middle rest : List ℕ) → AreParts entries said before middle rest
    → (left : List Key) (tale : Tale) → marks_tale message (said_marks entries left said) tale
    ≡ tale_behind before
    (message_tale (opening_rest said.opened message).bytes (opening_rest said.opened message).stop left
    (tale_behind (middle ++ (listed entries said.answer ++ rest)) tale))
said_tale message entries said before middle rest parts left tale =
    ap (λ marks. marks_tale message marks tale) (parts entries left) ∙ parts_tale message entries left said before middle rest tale

whole_tale :
    (before bytes all : List ℕ) (stop : Option Reason) (left : List Key) (tale : Tale) → stop ≡ None
    → tale_behind before (message_tale bytes stop left (tale_behind all tale)) ≡ tale_behind (before ++ (bytes ++ all)) tale
whole_tale before bytes all stop left tale good =
    rw good (ap (λ t. tale_behind before t) (behind_behind bytes all tale) ∙ behind_behind before (bytes ++ all) tale)

-- an answer was shown whole
pub says_whole :
    (message : FileRest) (entries : List ListedEntry) (said : Said) (before middle rest : List ℕ) (a b c d e f : SinkState)
    → AreParts entries said before middle rest → Shows a before b
    → (opening_rest said.opened message).stop ≡ None → Shows b (opening_rest said.opened message).bytes c
    → Shows c middle d → Shows d (listed entries said.answer) e → Shows e rest f
    → SaysAll message entries said a f
says_whole message entries said before middle rest a b c d e f parts first good second third fourth fifth =
    let bytes : List ℕ = (opening_rest said.opened message).bytes in
    let names : List ℕ = listed entries said.answer in
    let end = shows_join c d f middle (names ++ rest) third (shows_join d e f names rest fourth fifth) in
    record {
      text = before ++ (bytes ++ (middle ++ (names ++ rest)));
      shows = shows_join a b f before (bytes ++ (middle ++ (names ++ rest))) first (shows_join b c f bytes (middle ++ (names ++ rest)) second end);
      says = λ left tale.
          said_tale message entries said before middle rest parts left tale
          ∙ whole_tale before bytes (middle ++ (names ++ rest)) (opening_rest said.opened message).stop left tale good;
    }

stop_tale :
    (before bytes : List ℕ) (stop : Option Reason) (why : Reason) (left : List Key) (tale : Tale) → stop ≡ Some why
    → tale_behind before (message_tale bytes stop left tale) ≡ stopped_tale (before ++ bytes) why left
stop_tale before bytes stop why left tale is = rw is refl

-- or up to where the message is refused
pub says_stopped :
    (message : FileRest) (entries : List ListedEntry) (said : Said) (before middle rest : List ℕ) (why : Reason) (a b c : SinkState)
    → AreParts entries said before middle rest → Shows a before b
    → (opening_rest said.opened message).stop ≡ Some why → Shows b (opening_rest said.opened message).bytes c
    → SaysUpTo why message entries said a c
says_stopped message entries said before middle rest why a b c parts first stops second =
    let bytes : List ℕ = (opening_rest said.opened message).bytes in
    record {
      text = before ++ bytes;
      shows = shows_join a b c before bytes first second;
      says = λ left tale.
          said_tale message entries said before middle rest parts left tale
          ∙ stop_tale before bytes (opening_rest said.opened message).stop why left (tale_behind (middle ++ (listed entries said.answer ++ rest)) tale) stops;
    }

-- a message is shown from its first byte on
message_shown :
    (bytes : List ℕ) (stop : Option Reason) (left : List Key) (tale : Tale)
    → (more : List ℕ) × ((message_tale bytes stop left tale).shown ≡ bytes ++ more)
message_shown bytes None left tale = (tale.shown, refl)
message_shown bytes (Some why) left tale = ([], sym (append-nil bytes))

prefix_shown :
    (message : FileRest) (entries : List ListedEntry) (said : Said) (before middle rest prefix others : List ℕ)
    → AreParts entries said before middle rest → (opening_rest said.opened message).bytes ≡ prefix ++ others
    → (left : List Key) (tale : Tale)
    → (more : List ℕ) × ((marks_tale message (said_marks entries left said) tale).shown ≡ (before ++ prefix) ++ more)
prefix_shown message entries said before middle rest prefix others parts joined left tale =
    let file = opening_rest said.opened message in
    let (more, is) = message_shown file.bytes file.stop left (tale_behind (middle ++ (listed entries said.answer ++ rest)) tale) in (
      others ++ more,
      ap (λ t. t.shown) (said_tale message entries said before middle rest parts left tale)
          ∙ ap (λ t. before ++ t) (is ∙ ap (λ t. t ++ more) joined ∙ append_assoc prefix others more)
          ∙ sym (append_assoc before prefix (others ++ more)),
    )

-- or up to where a disk failed
pub says_prefix :
    (message : FileRest) (entries : List ListedEntry) (said : Said) (before middle rest : List ℕ) (a b c : SinkState)
    → AreParts entries said before middle rest → Shows a before b
    → ShowsPrefix b (opening_rest said.opened message).bytes c
    → SaysPrefix message entries said a c
says_prefix message entries said before middle rest a b c parts first second = record {
  text = before ++ second.prefix;
  shows = shows_join a b c before second.prefix first second.shown;
  says = λ left tale. prefix_shown message entries said before middle rest second.prefix second.rest parts second.joined left tale;
}

-- where the message wasn't shown whole
pub says_halted :
    (message : FileRest) (entries : List ListedEntry) (said : Said) (before middle rest : List ℕ) (halt : Halt) (a b c : SinkState)
    → AreParts entries said before middle rest → Shows a before b
    → ShowsFile (Err halt) (opening_rest said.opened message) b c
    → Says (Err halt) message entries said a c
says_halted message entries said before middle rest Device a b c parts first shown =
    says_prefix message entries said before middle rest a b c parts first shown
says_halted message entries said before middle rest (Refused reason) a b c parts first (stops, shown) =
    says_stopped message entries said before middle rest (reason_view reason) a b c parts first stops shown
