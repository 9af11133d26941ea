-- What keys come to at a prompt that is asked over a BIOS.
use Rattle.std.specs.Prelude.{◌≡◌, ◌≤◌, List, [], Result, Ok, Err}
use Rattle.lilo_model.specs.Faults.{Rose}
use Rattle.lilo_model.specs.Prompt.{Key, AreLastKeys}
use Rattle.disk_trait.specs.declared.disks.Disks as disks
use Rattle.bios_model.specs.declared.bios.Bios.{Bios}
use Rattle.bios_model.specs.Keys.{MayLeave}
use Rattle.bios_model.specs.Reads.{OnlyReads}
use Rattle.prompt_core.specs.Steps.{State}
use Rattle.prompt_core.specs.Run.{chosen_in}
use Rattle.section_loader.specs.declared.reason.Halt.TheVariants.{Device, Refused}
use Rattle.section_loader.specs.View.{reason_view}
use Rattle.stream_trait.specs.Shows.{SinkState, Shows, HasFailed, sink_of}
use Rattle.stream_trait.specs.declared.shown.Shown.{Shown}
use Rattle.stream_trait.specs.declared.sink.Sink as sinks
use Rattle.stream_trait.specs.declared.source.Source as sources
use Rattle.prompt_loop.specs.declared.asking.Stop.{Stop}
use Rattle.prompt_loop.specs.declared.asking.Stop.TheVariants.{Keys, Halt}
use Rattle.prompt_loop.specs.Message.{ShowsPrefix}
use Rattle.prompt_loop.specs.Tale.{Tale}

-- Asking came to a tale, and left the prompt in a state and these keys: all was shown, up to where the message is
-- refused. Where a source or a disk failed, a prefix of the tale's text was shown, and no key was taken that the tale doesn't take.
abbrev pub Comes : Result (Unit {0}) Stop → Tale → State → List Key → SinkState → SinkState → Type 0
Comes (Ok done) tale state left old new = (tale.end ≡ Ok (chosen_in state)) × (tale.left ≡ left) × Shows old tale.shown new
Comes (Err Keys) tale state left old new = AreLastKeys left tale.left × ShowsPrefix old tale.shown new
Comes (Err (Halt Device)) tale state left old new = AreLastKeys left tale.left × ShowsPrefix old tale.shown new
Comes (Err (Halt (Refused reason))) tale state left old new = (tale.end ≡ Err (reason_view reason)) × (tale.left ≡ left) × Shows old tale.shown new

-- the same of what is heard where no key is left
abbrev pub ComesInSilence : Result (Unit {0}) Stop → Tale → State → SinkState → SinkState → Type 0
ComesInSilence result tale state old new = Comes result tale state [] old new

-- The same of a source before and after it: whichever keys it leaves, what it left before came to their tale. Where it
-- reports its keys, these are all that it had, and what it has.
abbrev pub ComesBy : {I : Type 0} → sources.Ghosts I → Result (Unit {0}) Stop → (List Key → Tale) → State → I × I → SinkState → SinkState → Type 0
ComesBy i result tale state keys old new =
    (left : List Key) → MayLeave i keys.1 left
    → (all : List Key) × MayLeave i keys.0 all × Comes result (tale all) state left old new

-- a disk failed
abbrev pub IsDiskStop : Result (Unit {0}) Stop → Type 0
IsDiskStop result = result ≡ Err (Halt Device)

-- the source of keys failed
abbrev pub IsKeysStop : Result (Unit {0}) Stop → Type 0
IsKeysStop result = result ≡ Err Keys

-- A call only read disks, took keys and showed texts; where a disk was lost or no key was heard, that is counted.
pub record Asks {D I O : Type 0} (g : disks.Ghosts D) (i : sources.Ghosts I) (o : sinks.Ghosts O) (old new : Bios D I × Shown O)
    (Lost Unheard : Type 0) : Type 0 where
  pub reads : OnlyReads g old.0.disks.now new.0.disks.now Lost
  pub later : i.faults old.0.keys.now ≤ i.faults new.0.keys.now
  pub keys : Unheard → Rose (i.faults old.0.keys.now) (i.faults new.0.keys.now)
  pub sink : HasFailed (sink_of o old.1) (sink_of o new.1)
  pub same_disks_reference : new.0.disks.ghost_name ≡ old.0.disks.ghost_name
  pub same_keys_reference : new.0.keys.ghost_name ≡ old.0.keys.ghost_name
  pub same_reference : new.1.out.ghost_name ≡ old.1.out.ghost_name
