-- What asking comes to, in terms of the choice by cutting.
use Rattle.std.specs.Prelude.{◌≡◌, List, ◌++◌, Option, None, Some, Ok}
use Rattle.std.specs.Option.{option_map}
use Rattle.lilo_model.specs.Choice.{choice, opening}
use Rattle.lilo_model.specs.DefaultLine.{DefaultLine}
use Rattle.lilo_model.specs.Prompt.{Key, Settings, ListedEntry, Decision, Opening}
use Rattle.lilo_model.specs.Reason.{Reason}
use Rattle.prompt_core.specs.Decided.{plain_setup, picked_by, line_behind}
use Rattle.prompt_core.specs.Run.{run_of}
use Rattle.prompt_core.specs.Steps.{Chosen}
use Rattle.section_loader.specs.Reading.{FileRest}
use Rattle.prompt_loop.specs.Tale.{Tale, stopped_tale, tale_of}

-- a tale comes to a decision: the same choice, text and keys left, and the default line after it
pub record DecidesAs (entries : List ListedEntry) (line : DefaultLine) (tale : Tale) (decision : Decision) : Type 0 where
  pub chosen : Option Chosen
  pub end : tale.end ≡ Ok chosen
  pub decided :
      decision
      ≡ record {
        picked = option_map picked_by chosen;
        shown = tale.shown;
        line = line_behind entries line chosen;
        left = tale.left;
      }

-- a tale comes to the decision, unless the message is refused where the prompt opens
abbrev pub ComesTo : List ListedEntry → DefaultLine → FileRest → Option Reason → Option Opening → Tale → Decision → Type 0
ComesTo entries line message None opens tale decision = DecidesAs entries line tale decision
ComesTo entries line message (Some why) None tale decision = DecidesAs entries line tale decision
ComesTo entries line message (Some why) (Some opens) tale decision =
    tale ≡ stopped_tale (opens.before ++ message.bytes) why opens.left

-- For any keys, asking comes to the choice by cutting, with the message's bytes at their place; where the message is
-- refused, it ends where the choice opens.
abbrev pub AskLaw : Type 0
AskLaw =
    (settings : Settings) (entries : List ListedEntry) (line : DefaultLine) (message : FileRest) (keys : List Key)
    → ComesTo entries line message message.stop (opening settings entries line keys)
    (tale_of message (run_of (plain_setup settings entries line) keys))
    (choice settings entries line (Some message.bytes) keys)
