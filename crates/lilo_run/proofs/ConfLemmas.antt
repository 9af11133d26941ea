-- A configuration that can be used, or can't.
use Rattle.std.proofs.Common.{◌≡◌, ◌≤◌, ◌||◌, ℕ, Bool, true, false, inl, inr, List, ◌∷◌, Option, None, Some, Result, Ok, Err, refl, subst, arith, ◌++◌}
use Rattle.std.specs.Prelude.{codes, is_none, option_map, IfSome}
use Rattle.lilo_model.specs.ConfRefusal.{ConfRefusal, ConfReason, config_line}
use Rattle.lilo_model.specs.ConfVerdict.{conf_device, conf_query_verdict, conf_names_text, place_at}
use Rattle.lilo_model.specs.Devices.{Device}
use Rattle.lilo_model.specs.Disks.{Image, Machine}
use Rattle.lilo_model.specs.Place.{Memory}
use Rattle.lilo_model.specs.Refusal as refusals
use Rattle.lilo_model.specs.Refusal.{Refusal, refusal_line}
use Rattle.lilo_model.specs.Verdict.{Verdict, verdict_of, query_verdict}
use Rattle.lilo_model.specs.Words as words
use Rattle.lilo_model.specs.Words.{Part}
use Rattle.stream_trait.specs.Shows.{SinkState, Shows}
use Rattle.conf_file.specs.declared.file_fault.FileFault.TheVariants as files
use Rattle.conf_settings.specs.View.{fault_view, reason_view, opt_view}
use Rattle.conf_settings.specs.declared.reason.ConfFault.{ConfFault}
use Rattle.mbr_table.specs.declared.table_fault.TableFault.{TableFault}
use Rattle.mbr_table.specs.declared.table_fault.TableFault.TheVariants as tables
use Rattle.install_begin.specs.View.{RefusesText}
use Rattle.lilo_run.specs.Refusal.{table_verdict, text_verdict, conf_verdict, halt_verdict, ConfRefuses, HasConfCause}
use Rattle.disk_trait.specs.declared.disks.Disks.{Ghosts}
use Rattle.bios_model.specs.Reads.{OnlyReads}
use Rattle.lilo_model.specs.Faults.{Rose}
use Rattle.lilo_run.specs.Run.{State, Does, CarriesKeys, IsPlaceHalt}
use Rattle.lilo_run.proofs.RunLemmas.{carries_kept}
use Rattle.lilo_model.specs.Prompt.{Key}
use Rattle.prompt_loop.proofs.LastLemmas.{all_last}
use Rattle.lilo_run.specs.Verdict.{Left, query_command, command_effect, test_effect, conf_effect, conf_query_effect, query_effect, reads_conf, has_conf}
use Rattle.lilo_run.specs.declared.conf.ConfHalt.{ConfHalt}
use Rattle.lilo_run.specs.declared.conf.ConfHalt.TheVariants.{File, Text}
use Rattle.lilo_run.specs.declared.refusal.Halt.{Halt}

-- ---- refusals

-- a refusal of the model's
refused_by :
    {A : Type 0} → (f : Result A Refusal → Verdict) → ((refusal : Refusal) → f (Err refusal) ≡ verdict_of (Err refusal))
    → (refusal : Refusal) (given : Result A Refusal) (status : ℕ) (memory : Memory) (old new : SinkState)
    → given ≡ Err refusal → status ≡ (verdict_of (Err refusal)).status → 1 ≤ status
    → Shows old (verdict_of (Err refusal)).text new → Does (conf_effect (f given)) status memory memory old new
refused_by f same refusal given status memory old new is answer some shown =
    rw (is, same refusal) (inl (record { answer = answer; shown = shown; placed = λ zero. absurd (omega (arith, zero, some)) }))

-- a device that isn't found
table_refused :
    {A : Type 0} → (f : Result A Refusal → Verdict) → ((refusal : Refusal) → f (Err refusal) ≡ verdict_of (Err refusal))
    → (path : List ℕ) (fault : TableFault) (given : Result A Refusal) (status : ℕ) (memory : Memory) (old new : SinkState)
    → ConfRefuses path (File (files.Place fault)) given → status ≡ (table_verdict fault).status → 1 ≤ status
    → Shows old (table_verdict fault).text new → Does (conf_effect (f given)) status memory memory old new
table_refused f same path tables.Device given status memory old new refuses answer some shown =
    inr (inl (record { answer = answer; shown = inl shown }))
table_refused f same path (tables.NoSignature sector) given status memory old new refuses answer some shown =
    refused_by f same _ given status memory old new refuses answer some shown
table_refused f same path (tables.OutsideDisk number) given status memory old new refuses answer some shown =
    refused_by f same _ given status memory old new refuses answer some shown
table_refused f same path (tables.LoopedChain sector) given status memory old new refuses answer some shown =
    refused_by f same _ given status memory old new refuses answer some shown
table_refused f same path tables.TooMany given status memory old new refuses answer some shown =
    refused_by f same _ given status memory old new refuses answer some shown
table_refused f same path tables.UnknownDevice given status memory old new refuses answer some shown =
    refused_by f same _ given status memory old new refuses answer some shown
table_refused f same path (tables.NoPartition number) given status memory old new refuses answer some shown =
    refused_by f same _ given status memory old new refuses answer some shown
table_refused f same path (tables.NoDisk disk) given status memory old new refuses answer some shown =
    refused_by f same _ given status memory old new refuses answer some shown

-- a text that is refused
text_refused :
    {A : Type 0} → (f : Result A Refusal → Verdict) → ((refusal : Refusal) → f (Err refusal) ≡ verdict_of (Err refusal))
    → (view : Option ConfRefusal) (given : Result A Refusal) (status : ℕ) (memory : Memory) (old new : SinkState)
    → RefusesText view given → status ≡ (text_verdict view).status → 1 ≤ status
    → Shows old (text_verdict view).text new → Does (conf_effect (f given)) status memory memory old new
text_refused f same None given status memory old new refuses answer some shown =
    inr (inr (record { answer = answer; shown = inl shown }))
text_refused f same (Some refusal) given status memory old new refuses answer some shown =
    refused_by f same _ given status memory old new refuses answer some shown

-- a configuration that can't be used, and what is said of it
pub conf_refused :
    {A : Type 0} → (f : Result A Refusal → Verdict) → ((refusal : Refusal) → f (Err refusal) ≡ verdict_of (Err refusal))
    → (path : List ℕ) (halt : ConfHalt) (given : Result A Refusal) (status : ℕ) (memory : Memory) (old new : SinkState)
    → ConfRefuses path halt given → status ≡ (conf_verdict path halt).status → 1 ≤ status
    → Shows old (conf_verdict path halt).text new → Does (conf_effect (f given)) status memory memory old new
conf_refused f same path (File files.NoVolume) given status memory old new refuses answer some shown =
    refused_by f same _ given status memory old new refuses answer some shown
conf_refused f same path (File (files.Place fault)) given status memory old new refuses answer some shown =
    table_refused f same path fault given status memory old new refuses answer some shown
conf_refused f same path (File files.Device) given status memory old new refuses answer some shown =
    inr (inl (record { answer = answer; shown = inl shown }))
conf_refused f same path (File files.Layout) given status memory old new refuses answer some shown =
    refused_by f same _ given status memory old new refuses answer some shown
conf_refused f same path (File files.Missing) given status memory old new refuses answer some shown =
    refused_by f same _ given status memory old new refuses answer some shown
conf_refused f same path (File files.BadPath) given status memory old new refuses answer some shown =
    refused_by f same _ given status memory old new refuses answer some shown
conf_refused f same path (File files.Memory) given status memory old new refuses answer some shown =
    inr (inr (record { answer = answer; shown = inl shown }))
conf_refused f same path (Text fault) given status memory old new refuses answer some shown =
    text_refused f same (fault_view fault) given status memory old new refuses answer some shown

-- where 8 is answered of a configuration, the count of faults rose
module _ (path : List ℕ) (status before now : ℕ) (eight : status ≡ 8) where
  text_lost : (refusal : Option ConfRefusal) → status ≡ (text_verdict refusal).status → Rose before now
  text_lost None answer = absurd (omega (arith, answer, eight))
  text_lost (Some refusal) answer = absurd (omega (arith, answer, eight))

  table_lost : (fault : TableFault) → HasConfCause before now (File (files.Place fault)) → status ≡ (table_verdict fault).status → Rose before now
  table_lost tables.Device cause answer = cause
  table_lost fault cause answer = absurd (omega (arith, answer, eight))

  pub conf_lost : (halt : ConfHalt) → HasConfCause before now halt → status ≡ (conf_verdict path halt).status → Rose before now
  conf_lost (File files.Device) cause answer = cause
  conf_lost (File (files.Place fault)) cause answer = table_lost fault cause answer
  conf_lost (File fault) cause answer = absurd (omega (arith, answer, eight))
  conf_lost (Text fault) cause answer = text_lost (fault_view fault) answer

-- a device that isn't found is reported as a halt is
pub table_told : (fault : TableFault) (halt : Halt) → IsPlaceHalt fault halt → halt_verdict halt ≡ table_verdict fault
table_told tables.Device halt is = rw is refl
table_told (tables.NoSignature sector) halt is = rw is refl
table_told (tables.OutsideDisk number) halt is = rw is refl
table_told (tables.LoopedChain sector) halt is = rw is refl
table_told tables.TooMany halt is = rw is refl
table_told tables.UnknownDevice halt is = rw is refl
table_told (tables.NoPartition number) halt is = rw is refl
table_told (tables.NoDisk disk) halt is = rw is refl

no_refusal : (fault : ConfFault) → fault_view fault ≡ None → is_none (reason_view fault.reason) ≡ false → ⊥
no_refusal fault none some = by (reason_view fault.reason) none some
  where
    by :
        (reason : Option ConfReason) → option_map {U = ConfRefusal} (λ reason. record { reason = reason; option = opt_view fault.option; line = fault.line }) reason ≡ None
        → is_none reason ≡ false → ⊥
    by None none some = absurd cc
    by (Some reason) none some = absurd cc

-- a text's refusal is shown by its line
pub text_shown :
    (fault : ConfFault) (line : List ℕ) (old new : SinkState)
    → is_none (reason_view fault.reason) ≡ false
    → IfSome (fault_view fault) (λ refusal. line ≡ config_line refusal)
    → Shows old (codes "lilo: config: " ++ line ++ codes "\n") new
    → Shows old (text_verdict (fault_view fault)).text new
unfolding refusal_line
text_shown fault line old new some is shown = by (fault_view fault) refl
  where
    by : (view : Option ConfRefusal) → fault_view fault ≡ view → Shows old (text_verdict view).text new
    by None none = absurd (no_refusal fault none some)
    by (Some refusal) found = shown_by refusal (subst (λ view. IfSome view (λ refusal. line ≡ config_line refusal)) found is)
      where
        shown_by : (refusal : ConfRefusal) → line ≡ config_line refusal → Shows old (refusal_line (refusals.Config refusal)) new
        shown_by refusal same = subst (λ line. Shows old (codes "lilo: config: " ++ line ++ codes "\n") new) same shown

-- ---- what is listed

-- the names of the device that a configuration boots
pub conf_listed :
    (now : Image) (machine : Machine) (root : Option Device) (path : List ℕ) (device : Device) (status : ℕ) (memory : Memory)
    (old new : SinkState)
    → conf_device now machine root path ≡ Ok device
    → Does (query_effect now machine (place_at now machine device)) status memory memory old new
    → Does (conf_query_effect now machine root path) status memory memory old new
unfolding query_effect query_verdict conf_query_effect conf_query_verdict conf_names_text
conf_listed now machine root path device status memory old new is (inl done) =
    rw is (inl (record { answer = done.answer; shown = done.shown; placed = done.placed }))
conf_listed now machine root path device status memory old new is (inr (inl failed)) =
    inr (inl (record { answer = failed.answer; shown = failed.shown }))
conf_listed now machine root path device status memory old new is (inr (inr failed)) = absurd failed.shown

-- what an installation would do
module _ {D : Type 0} (g : Ghosts D) (now : Image) (machine : Machine) (size time : ℕ) (root : Option Device) (path : List ℕ) (status : ℕ) (left : Left) (keys : List Key) (old new : State D) (reads : OnlyReads g old.disks new.disks (status ≡ 8)) where
  pub tests :
      Does (test_effect now machine time root path) status old.memory new.memory old.sink new.sink
      → CarriesKeys g (command_effect now machine size time root path words.Test left keys) status keys old new
  unfolding command_effect
  tests does = record { does = carries_kept g (test_effect now machine time root path) status keys old new reads does; keys = all_last keys }

  -- `-q`
  pub queries :
      (device : Option Device) → Does (query_command now machine root path device) status old.memory new.memory old.sink new.sink
      → CarriesKeys g (command_effect now machine size time root path (words.Query device) left keys) status keys old new
  unfolding command_effect
  queries device does = record { does = carries_kept g (query_command now machine root path device) status keys old new reads does; keys = all_last keys }

-- ---- parts that read one

some_by : (first rest : Bool) → first ≡ true → (first || rest) ≡ true
some_by true rest is = refl
some_by false rest is = absurd cc

rest_by : (first rest : Bool) → rest ≡ true → (first || rest) ≡ true
rest_by true rest is = refl
rest_by false rest is = is

-- parts that read no configuration but where others do
abbrev pub AreRead : List Part → List Part → Type 0
AreRead all rest = has_conf rest ≡ true → has_conf all ≡ true

pub read_first :
    (all rest behind : List Part) (part : Part) → AreRead all rest → rest ≡ part ∷ behind → reads_conf part.command ≡ true
    → has_conf all ≡ true
unfolding has_conf
read_first all rest behind part are is reads = are (rw is (some_by (reads_conf part.command) (has_conf behind) reads))

pub read_more :
    (all rest behind : List Part) (part : Part) → AreRead all rest → rest ≡ part ∷ behind → AreRead all behind
unfolding has_conf
read_more all rest behind part are is reads = are (rw is (rest_by (reads_conf part.command) (has_conf behind) reads))
