-- The message that a boot shows (this project's own).
use Rattle.std.specs.Prelude.{◌≡◌, ℕ, Bool, true, false, List, [], ◌++◌, Option, None, Some, Result, Ok, Err}
use Rattle.lilo_model.specs.Disks.{Image, Machine}
use Rattle.lilo_model.specs.Section.{file_content}
use Rattle.sector_address.specs.View.{slot_view}
use Rattle.section_loader.specs.declared.reason.Halt.{Halt}
use Rattle.section_loader.specs.declared.reason.Halt.TheVariants.{Device, Refused}
use Rattle.section_loader.specs.Reading.{FileRest, content_rest}
use Rattle.section_loader.specs.View.{reason_view}
use Rattle.stream_trait.specs.Shows.{SinkState, Shows}
use Rattle.prompt_loop.specs.declared.message.Message.{Message}

-- what is read of a message
abbrev pub file_of : Image → Machine → Message → FileRest
file_of image machine message =
    content_rest (file_content image machine (slot_view message.first) message.length message.chain)

-- a file of no bytes
abbrev pub no_rest : FileRest
no_rest = record { bytes = []; stop = None }

-- what is read of the message, where there is one
abbrev pub message_rest : Image → Machine → Option Message → FileRest
message_rest image machine None = no_rest
message_rest image machine (Some message) = file_of image machine message

-- the message where the prompt opens, and else nothing
abbrev pub opening_rest : Bool → FileRest → FileRest
opening_rest true message = message
opening_rest false message = no_rest

-- a prefix of a text was shown
pub record ShowsPrefix (old : SinkState) (text : List ℕ) (new : SinkState) : Type 0 where
  pub prefix : List ℕ
  pub rest : List ℕ
  pub joined : text ≡ prefix ++ rest
  pub shown : Shows old prefix new

-- a file's bytes were shown, up to where it is refused; where a disk failed a prefix of them was
abbrev pub ShowsFile : Result (Unit {0}) Halt → FileRest → SinkState → SinkState → Type 0
ShowsFile (Ok done) file old new = (file.stop ≡ None) × Shows old file.bytes new
ShowsFile (Err Device) file old new = ShowsPrefix old file.bytes new
ShowsFile (Err (Refused reason)) file old new = (file.stop ≡ Some (reason_view reason)) × Shows old file.bytes new
