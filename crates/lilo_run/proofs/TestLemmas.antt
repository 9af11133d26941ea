-- What `-t` does is the model's verdict of a test, by what it began with.
use Rattle.std.proofs.Common.{◌≡◌, ◌≤◌, ℕ, inl, inr, List, Option, None, Some, Result, Ok, Err, refl, sym, subst}
use Rattle.std.specs.Prelude.{IsTrue}
use Rattle.lilo_model.specs.Checks.{◌>>=◌, with_fault}
use Rattle.lilo_model.specs.ConfRefusal.{ConfRefusal}
use Rattle.lilo_model.specs.Devices.{Device}
use Rattle.lilo_model.specs.Disks.{Image, Machine}
use Rattle.lilo_model.specs.Faults.{Rose}
use Rattle.lilo_model.specs.Place.{Memory}
use Rattle.lilo_model.specs.Refusal.{Refusal}
use Rattle.lilo_model.specs.Verdict.{verdict_of}
use Rattle.conf_file.specs.declared.file_fault.FileFault.TheVariants as files
use Rattle.conf_settings.specs.View.{fault_view}
use Rattle.install_laws.specs.InstallVerdict.{Answer, InstallRefusal, Reading, install_line, test_text, verdict_by}
use Rattle.install_run.specs.Previews.{AnswersPreview}
use Rattle.install_begin.specs.Begin.{Begun, begun_at, test_on}
use Rattle.install_begin.specs.View.{Refuses, HasBeginCause}
use Rattle.install_begin.specs.declared.fault.BeginFault.{BeginFault}
use Rattle.install_begin.specs.declared.fault.BeginFault.TheVariants as begins
use Rattle.install_begin.proofs.BeginLemmas.{test_law}
use Rattle.mbr_table.specs.declared.table_fault.TableFault.{TableFault}
use Rattle.mbr_table.specs.declared.table_fault.TableFault.TheVariants as tables
use Rattle.stream_trait.specs.Shows.{SinkState, Shows}
use Rattle.lilo_run.specs.Refusal.{conf_verdict, table_verdict, text_verdict, ConfRefuses, HasConfCause, IsBeginHalt}
use Rattle.lilo_run.specs.Run.{Does, is_install_status, is_test_status}
use Rattle.lilo_run.specs.Verdict.{conf_effect, test_effect}
use Rattle.lilo_run.specs.declared.conf.ConfHalt.{ConfHalt}
use Rattle.lilo_run.specs.declared.conf.ConfHalt.TheVariants.{File, Text}
use Rattle.lilo_run.proofs.ConfLemmas.{conf_refused, conf_lost}

-- a refusal of what is read is answered as the model answers it
reading_refused : (refusal : Refusal) → verdict_by test_text (Err (Reading refusal)) ≡ verdict_of (Err refusal)
unfolding install_line
reading_refused refusal = refl

-- a preview's answer
tested : (given : Result Answer InstallRefusal) (status : ℕ) (memory : Memory) (old new : SinkState) → AnswersPreview given status old new
    → Does (conf_effect (verdict_by test_text given)) status memory memory old new
tested given status memory old new (inl verdict) = inl (record { answer = verdict.status_is; shown = verdict.shown; placed = λ zero. refl })
tested given status memory old new (inr (inl failed)) = inr (inl (record { answer = failed.0; shown = inl failed.1 }))
tested given status memory old new (inr (inr starved)) = inr (inr (record { answer = starved.0; shown = inl starved.1 }))

pub begin_refuses : {A : Type 0} → (path : List ℕ) (fault : BeginFault) (halt : ConfHalt) (given : Result A Refusal) → IsBeginHalt fault halt → Refuses path fault given
    → ConfRefuses path halt given
begin_refuses path (begins.File fault) halt given is refuses = rw is refuses
begin_refuses path (begins.Text fault) halt given is refuses = rw is refuses

pub begin_cause : (before now : ℕ) (fault : BeginFault) (halt : ConfHalt) → IsBeginHalt fault halt → HasBeginCause before now fault → HasConfCause before now halt
begin_cause before now (begins.File fault) halt is cause = rw is cause
begin_cause before now (begins.Text fault) halt is cause = rw is tt

-- where 8 is answered, the count of faults rose
pub begin_lost : (path : List ℕ) (status before now : ℕ) (fault : BeginFault) (halt : ConfHalt) → status ≡ 8 → IsBeginHalt fault halt → HasBeginCause before now fault
    → status ≡ (conf_verdict path halt).status → Rose before now
begin_lost path status before now fault halt eight is cause answer = conf_lost path status before now eight halt (begin_cause before now fault halt is cause) answer

module _ (image : Image) (machine : Machine) (time : ℕ) (root : Option Device) (path : List ℕ) (status : ℕ) (memory : Memory) (old new : SinkState) where
  -- what it began with was read
  pub test_done : (begun : Begun) → begun_at image machine root path ≡ Ok begun → AnswersPreview (test_on image machine time begun) status old new
      → Does (test_effect image machine time root path) status memory memory old new
  unfolding test_effect
  test_done begun is answers = rw (test_law image machine root path time, is) (tested (test_on image machine time begun) status memory old new answers)

  -- or it wasn't
  pub test_refused : (fault : BeginFault) (halt : ConfHalt) → Refuses path fault (begun_at image machine root path) → IsBeginHalt fault halt
      → status ≡ (conf_verdict path halt).status → 1 ≤ status → Shows old (conf_verdict path halt).text new
      → Does (test_effect image machine time root path) status memory memory old new
  unfolding test_effect
  test_refused fault halt refuses is answer some shown =
      rw (test_law image machine root path time)
      (conf_refused (λ given. verdict_by test_text (with_fault Reading given >>= test_on image machine time)) reading_refused path halt
      (begun_at image machine root path) status memory old new (begin_refuses path fault halt (begun_at image machine root path) is refuses) answer some shown)

-- the status of a refusal is one of these
module _ (P : ℕ → Type 0) (two : P 2) (three : P 3) (eight : P 8) (thirteen : P 13) (path : List ℕ) (status : ℕ) where
  table_known : (fault : TableFault) → status ≡ (table_verdict fault).status → P status
  table_known tables.Device is = subst P (sym is) eight
  table_known (tables.NoSignature sector) is = subst P (sym is) three
  table_known (tables.OutsideDisk number) is = subst P (sym is) three
  table_known (tables.LoopedChain sector) is = subst P (sym is) three
  table_known tables.TooMany is = subst P (sym is) three
  table_known tables.UnknownDevice is = subst P (sym is) three
  table_known (tables.NoPartition number) is = subst P (sym is) three
  table_known (tables.NoDisk disk) is = subst P (sym is) three

  text_known : (view : Option ConfRefusal) → status ≡ (text_verdict view).status → P status
  text_known None is = subst P (sym is) thirteen
  text_known (Some refusal) is = subst P (sym is) two

  pub conf_known : (halt : ConfHalt) → status ≡ (conf_verdict path halt).status → P status
  conf_known (File files.NoVolume) is = subst P (sym is) three
  conf_known (File (files.Place fault)) is = table_known fault is
  conf_known (File files.Device) is = subst P (sym is) eight
  conf_known (File files.Layout) is = subst P (sym is) three
  conf_known (File files.Missing) is = subst P (sym is) three
  conf_known (File files.BadPath) is = subst P (sym is) three
  conf_known (File files.Memory) is = subst P (sym is) thirteen
  conf_known (Text fault) is = text_known (fault_view fault) is

-- so it is of `-t`
pub refusal_known : (path : List ℕ) (halt : ConfHalt) (status : ℕ) → status ≡ (conf_verdict path halt).status → IsTrue (is_test_status status)
refusal_known path halt status is = conf_known (λ n. IsTrue (is_test_status n)) refl refl refl refl path status halt is

-- and of an installation
pub install_refusal_known : (path : List ℕ) (halt : ConfHalt) (status : ℕ) → status ≡ (conf_verdict path halt).status → IsTrue (is_install_status status)
install_refusal_known path halt status is = conf_known (λ n. IsTrue (is_install_status n)) refl refl refl refl path status halt is
