-- Texts that are shown piece by piece.
use Rattle.std.proofs.Common.{◌≡◌, ◌∙◌, refl, sym, ap, ℕ, zero, suc, List, [], ◌∷◌, ◌++◌, take, drop, append_assoc, append-nil, None, Some, Ok, Err}
use Rattle.lilo_model.specs.Choice.{listing, newline}
use Rattle.prompt_core.specs.declared.entry.Choice.{Choice}
use Rattle.prompt_core.specs.View.{entries_view}
use Rattle.section_loader.specs.declared.reason.Halt.{Halt}
use Rattle.section_loader.specs.declared.reason.Halt.TheVariants.{Device, Refused}
use Rattle.section_loader.specs.Reading.{FileRest, rest_behind}
use Rattle.section_loader.specs.File.{Yields}
use Rattle.section_loader.specs.View.{reason_view}
use Rattle.stream_trait.specs.Shows.{SinkState, Shows}
use Rattle.stream_trait.proofs.ShowsLemmas.{shows_nothing, shows_join, shows_same}
use Rattle.prompt_loop.specs.Message.{ShowsFile}

-- ---- a file

-- what was read of a file was shown
pub record IsShown (old new : FileRest) (a b : SinkState) : Type 0 where
  pub bytes : List ℕ
  pub read : old ≡ rest_behind bytes new
  pub shows : Shows a bytes b

pub shown_none : (rest : FileRest) (a : SinkState) → IsShown rest rest a a
shown_none rest a = record { bytes = []; read = refl; shows = shows_nothing a }

-- one piece more
pub shown_more :
    (old rest new : FileRest) (bytes : List ℕ) (a b c : SinkState) → IsShown old rest a b → rest ≡ rest_behind bytes new → Shows b bytes c
    → IsShown old new a c
shown_more old rest new bytes a b c far read shown = record {
  bytes = far.bytes ++ bytes;
  read =
      far.read ∙ ap (λ r. rest_behind far.bytes r) read
      ∙ ap (λ all. record { bytes = all; stop = new.stop }) (sym (append_assoc far.bytes bytes new.bytes));
  shows = shows_join a b c far.bytes bytes far.shows shown;
}

-- all was shown
pub shown_whole :
    (old rest new : FileRest) (bytes : List ℕ) (a b : SinkState) → IsShown old rest a b → rest ≡ rest_behind bytes new → bytes ≡ []
    → new ≡ record { bytes = []; stop = None } → ShowsFile (Ok tt) old a b
shown_whole old rest new bytes a b far read none end =
    let left : rest ≡ record { bytes = []; stop = None } = read ∙ ap (λ front. rest_behind front new) none ∙ end in
    let all : old ≡ record { bytes = far.bytes ++ []; stop = None } = far.read ∙ ap (λ r. rest_behind far.bytes r) left in
    (ap (λ r. r.stop) all, shows_same a b far.bytes old.bytes (sym (ap (λ r. r.bytes) all ∙ append-nil far.bytes)) far.shows)

-- or up to where it ends
pub shown_halted :
    (old rest new : FileRest) (sector : List ℕ) (halt : Halt) (a b : SinkState) → IsShown old rest a b → Yields (Err halt) rest sector new
    → ShowsFile (Err halt) old a b
shown_halted old rest new sector Device a b far yields =
    record { prefix = far.bytes; rest = rest.bytes; joined = ap (λ r. r.bytes) far.read; shown = far.shows }
shown_halted old rest new sector (Refused reason) a b far yields =
    let all : old ≡ record { bytes = far.bytes ++ []; stop = Some (reason_view reason) } = far.read ∙ ap (λ r. rest_behind far.bytes r) yields in
    (ap (λ r. r.stop) all, shows_same a b far.bytes old.bytes (sym (ap (λ r. r.bytes) all ∙ append-nil far.bytes)) far.shows)

-- ---- names

-- the names so far, with one more
pub listing_next :
    (choices : List Choice) (place : ℕ) (choice : Choice) (rest : List Choice) → drop place choices ≡ choice ∷ rest
    → listing (entries_view (take (suc place) choices)) ≡ listing (entries_view (take place choices)) ++ (choice.name.items ++ newline)
listing_next [] zero choice rest is = cc
listing_next [] (suc place) choice rest is = cc
listing_next (first ∷ choices) zero choice rest is =
    let same : first ≡ choice = cc in rw same (append-nil (choice.name.items ++ newline))
listing_next (first ∷ choices) (suc place) choice rest is =
    ap (λ others. (first.name.items ++ newline) ++ others) (listing_next choices place choice rest is)
    ∙ sym (append_assoc (first.name.items ++ newline) (listing (entries_view (take place choices))) (choice.name.items ++ newline))
