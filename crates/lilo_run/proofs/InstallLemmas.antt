-- What an installation does, by what it began with.
use Rattle.std.proofs.Common.{◌≡◌, ◌≢◌, ◌⊎◌, ⊎_elim, ◌∙◌, ◌++◌, ℕ, inl, inr, Bool, true, false, List, [], ◌∷◌, Option, None, Some, Result, Ok, Err, refl, sym, ap, subst, arith}
use Rattle.std.specs.Prelude.{if◌then◌else◌, IfSome, IsErr}
use Rattle.std.proofs.lemmas.Bool.{false≢true}
use Rattle.boot_laws.proofs.Checks.{bind-same, told-given}
use Rattle.disk_trait.specs.Past.{Past}
use Rattle.disk_trait.specs.Moments.{now, IsQuiet}
use Rattle.disk_trait.specs.Calls.{GoesOn}
use Rattle.disk_trait.specs.declared.disks.Disks.{Ghosts}
use Rattle.disk_trait.specs.declared.disks.Phase.{Phase}
use Rattle.disk_trait.specs.declared.disks.Phase.TheVariants.{Before, Commit, After}
use Rattle.disk_trait.specs.NotWritten.{NotWritten}
use Rattle.disk_trait.proofs.MomentLemmas.{leaves_none, leaves_weaker}
use Rattle.disk_trait.proofs.NotWrittenLemmas.{not_written_none}
use Rattle.lilo_model.specs.Checks.{◌>>=◌, with_fault}
use Rattle.lilo_model.specs.ConfRefusal.{ConfRefusal}
use Rattle.lilo_model.specs.ConfVerdict.{place_at, volume_refusal}
use Rattle.lilo_model.specs.Devices.{Device}
use Rattle.lilo_model.specs.Disks.{Image, Machine, Span, DiskSector}
use Rattle.lilo_model.specs.Faults.{Rose}
use Rattle.lilo_model.specs.Mapped.{mapped_sectors}
use Rattle.lilo_model.specs.MinixNames.{names_in}
use Rattle.lilo_model.specs.MinixParts.{Volume, ZoneFault, volume_at}
use Rattle.lilo_model.specs.Partitions.{TableFault, device_fault, span_of}
use Rattle.lilo_model.specs.Place.{Memory}
use Rattle.lilo_model.specs.Plan.{Plan}
use Rattle.lilo_model.specs.Prompt.{Key}
use Rattle.lilo_model.specs.Refusal as refusals
use Rattle.lilo_model.specs.Refusal.{Refusal}
use Rattle.lilo_model.specs.Settled.{OwnNames}
use Rattle.lilo_model.specs.Verdict.{Verdict, verdict_of}
use Rattle.lilo_model.specs.VolumeSearch.{Located, VolumeFault, volume_place}
use Rattle.write_model.specs.Wish as rooms
use Rattle.stream_trait.specs.Shows.{SinkState, Shows}
use Rattle.conf_file.specs.declared.file_fault.FileFault.TheVariants as files
use Rattle.conf_settings.specs.View.{fault_view}
use Rattle.mbr_table.specs.declared.table_fault.TableFault as declared
use Rattle.mbr_table.specs.declared.table_fault.TableFault.TheVariants as tables
use Rattle.install_settle.proofs.GainLemmas.{gains_none}
use Rattle.install_stage_laws.specs.BeginLaws.{GainsNothing}
use Rattle.install_run.specs.Texts.{device_status}
use Rattle.install_begin.specs.Begin as begins
use Rattle.install_begin.specs.Begin.{answer_on, begun_at, begun_on, begun_with, named_conf, placed_by}
use Rattle.install_begin.specs.View.{RefusesText}
use Rattle.install_begin.proofs.BeginLemmas.{answer_law}
use Rattle.boot_laws.specs.SameOn.{SameOn}
use Rattle.install_laws.specs.Boots.{BootsAs, HasBootOf, SparesMapped}
use Rattle.install_laws.specs.InstallVerdict as installs
use Rattle.install_laws.specs.InstallVerdict.{Answer, InstallRefusal, Reading, answer_text, install_line, install_room, install_verdict, verdict_by}
use Rattle.install_laws.specs.Stopped.{StaysAsBefore}
use Rattle.install_run.specs.Previews.{AnswersVerdict}
use Rattle.install_run.specs.Answers as outcomes
use Rattle.install_run.specs.Answers.{AnswersInstall, IsDiskFault, IsSettledFrom, install_on, lost_line, settled_answer}
use Rattle.install_run.specs.Keeps.{KeepsMost, WritesInside}
use Rattle.install_run.specs.Phases.{FailsBy}
use Rattle.install_run.specs.Staged.{IsStagedFrom, IsStagedOn, SparesClear}
use Rattle.install_run.proofs.EntryLemmas.{entry_answer_law}
use Rattle.install_run.proofs.InstalledLemmas.{not_refused}
use Rattle.install_run.proofs.PhaseLemmas.{fails_still, fails_weaker}
use Rattle.install_run.specs.Installs.{Installs, InstallsBegun, OnVolume, NoVolume, VolumeLost}
use Rattle.lilo_run.specs.Install.{ReadsSteady, IsInstallRun, IsModelled}
use Rattle.lilo_run.specs.Refusal.{ConfRefuses, conf_verdict, device_failed, no_memory, table_verdict, text_verdict}
use Rattle.lilo_run.specs.Run.{State, Scene, Carries, CarriedOut, LostBefore, LostAtCommit, LostAfter, Starved, IsLeftBy, EndsAs, Tells, TellsVerdict, TellsLost, TellsLostAtCommit, TellsLostAfter, TellsUnheard, TellsStarved, TellsCut, TellsRun}
use Rattle.lilo_run.specs.Verdict.{Effect, Installation, Left, command_effect, effects_of, failed_behind, first_left, install_effect, installed_answer, installing, leaving}
use Rattle.lilo_run.specs.declared.conf.ConfHalt.{ConfHalt}
use Rattle.lilo_run.specs.declared.conf.ConfHalt.TheVariants.{File, Text}
use Rattle.lilo_run.proofs.TellLemmas.{told_alone}

-- ---- where the boot device lies

pub ok_same : {A F : Type 0} (r : Result A F) (a b : A) → r ≡ Ok a → r ≡ Ok b → a ≡ b
ok_same r a b first second = cc

ok_or_err : {A F : Type 0} (r : Result A F) (a : A) (fault : F) → r ≡ Ok a → r ≡ Err fault → ⊥
ok_or_err r a fault first second = cc

abbrev as_read : Span → begins.Named → Span → begins.Begun
as_read volume named span = record { volume = volume; named = named; span = span }

placed_there :
    (image : Image) (machine : Machine) (volume : Span) (named : begins.Named) (read : begins.Begun) → placed_by image machine volume named ≡ Ok read
    → span_of image machine read.named.boot ≡ Ok read.span
unfolding place_at
placed_there image machine volume named read is = by (span_of image machine named.boot) refl is
  where
    by :
        (found : Result Span TableFault) → span_of image machine named.boot ≡ found
        → (with_fault refusals.Device (with_fault device_fault found) >>= λ span. Ok (record { volume = volume; named = named; span = span })) ≡ Ok read
        → span_of image machine read.named.boot ≡ Ok read.span
    by (Ok span) there is =
        let same : as_read volume named span ≡ read = ok_same {F = Refusal} (Ok (as_read volume named span)) (as_read volume named span) read refl is in
        subst (λ (r : begins.Begun). span_of image machine r.named.boot ≡ Ok r.span) same there
    by (Err fault) there is = absurd cc

on_there :
    (image : Image) (machine : Machine) (root : Option Device) (path : List ℕ) (place : Located) (read : begins.Begun) → begun_on image machine root path place ≡ Ok read
    → span_of image machine read.named.boot ≡ Ok read.span
unfolding begun_on
on_there image machine root path place read is = by (named_conf image machine root path) is
  where
    by : (named : Result begins.Named Refusal) → (named >>= placed_by image machine place.span) ≡ Ok read → span_of image machine read.named.boot ≡ Ok read.span
    by (Ok named) is = placed_there image machine place.span named read is
    by (Err refusal) is = absurd cc

-- it lies where it was found
pub begun_there :
    (image : Image) (machine : Machine) (root : Option Device) (path : List ℕ) (read : begins.Begun) → begun_at image machine root path ≡ Ok read
    → span_of image machine read.named.boot ≡ Ok read.span
unfolding begun_at
begun_there image machine root path read is = by (volume_place image machine root) is
  where
    by :
        (place : Result Located VolumeFault) → (with_fault volume_refusal place >>= begun_on image machine root path) ≡ Ok read
        → span_of image machine read.named.boot ≡ Ok read.span
    by (Ok place) is = on_there image machine root path place read is
    by (Err fault) is = absurd cc

-- ---- the answer

-- what is printed of a refusal of what is read first
reading_verdict : (refusal : Refusal) → verdict_by answer_text (Err (Reading refusal)) ≡ verdict_of (Err refusal)
unfolding install_line
reading_verdict refusal = refl

module _ (image : Image) (machine : Machine) (root : Option Device) (path : List ℕ) (time : ℕ) (left : Left) where
  -- what is known at the entry, with what is found out
  abbrev pub installation : Installation
  installation = record { image = image; machine = machine; root = root; path = path; time = time; left = left }

  -- it is installed as this answers
  pub effect_by :
      (given : Result Answer InstallRefusal) → installed_answer image machine root path time left ≡ given
      → install_effect image machine root path time left ≡ installing (verdict_by answer_text given) installation
  unfolding install_effect
  effect_by given is = ap (λ answer. installing (verdict_by answer_text answer) installation) is

  answer_read :
      (read : begins.Begun) → begun_at image machine root path ≡ Ok read
      → installed_answer image machine root path time left ≡ install_on image machine left.settled time read
  answer_read read is = ap (λ given. with_fault Reading given >>= install_on image machine left.settled time) is

  answer_off :
      (refusal : Refusal) → begun_at image machine root path ≡ Err refusal
      → installed_answer image machine root path time left ≡ Err (Reading refusal)
  answer_off refusal is = ap (λ given. with_fault Reading given >>= install_on image machine left.settled time) is

  by_volume :
      (read : begins.Begun) (found : Result Volume ZoneFault) → volume_at image read.volume ≡ found
      → install_on image machine left.settled time read
      ≡ (with_fault (λ fault. Reading refusals.Layout) found >>= λ volume. settled_answer image machine left.settled (begun_with read volume) time)
  unfolding install_on
  by_volume read found is =
      ap (λ given. with_fault (λ fault. Reading refusals.Layout) given >>= λ volume. settled_answer image machine left.settled (begun_with read volume) time) is

  -- so it is on a volume
  pub effect_on :
      (read : begins.Begun) (volume : Volume) → begun_at image machine root path ≡ Ok read → volume_at image read.volume ≡ Ok volume
      → install_effect image machine root path time left
      ≡ installing (verdict_by answer_text (settled_answer image machine left.settled (begun_with read volume) time)) installation
  effect_on read volume is there = effect_by _ (answer_read read is ∙ by_volume read (Ok volume) there)

  -- where there is none
  pub effect_without :
      (read : begins.Begun) (fault : ZoneFault) → begun_at image machine root path ≡ Ok read → volume_at image read.volume ≡ Err fault
      → install_effect image machine root path time left ≡ installing (verdict_of (Err refusals.Layout)) installation
  effect_without read fault is there =
      effect_by _ (answer_read read is ∙ by_volume read (Err fault) there)
      ∙ ap (λ verdict. installing verdict installation) (reading_verdict refusals.Layout)

  -- and where what it begins with is refused
  pub effect_refused :
      (refusal : Refusal) → begun_at image machine root path ≡ Err refusal
      → install_effect image machine root path time left ≡ installing (verdict_of (Err refusal)) installation
  effect_refused refusal is =
      effect_by _ (answer_off refusal is) ∙ ap (λ verdict. installing verdict installation) (reading_verdict refusal)

-- ---- how it ends

module _ {D : Type 0} (g : Ghosts D) (found : Installation) (own : ℕ) (keys : List Key) (old new : State D) (kept : new.memory ≡ old.memory) where
  -- it is answered
  pub verdict_carried :
      (verdict : Verdict) → AnswersVerdict verdict own old.sink new.sink → EndsAs g found own old.disks new.disks
      → Carries g (leaving keys (installing verdict found)) own keys old new
  verdict_carried verdict answers ends = CarriedOut (record { answer = answers.status_is; shown = answers.shown; placed = λ zero. kept }) refl ends

  -- a disk failed before that
  pub lost_carried :
      (verdict : Verdict) → found.left.answered ≡ false → own ≡ 8 → Shows old.sink device_failed.text new.sink
      → EndsAs g found own old.disks new.disks → Rose (g.faults old.disks) (g.faults new.disks)
      → Carries g (leaving keys (installing verdict found)) own keys old new
  lost_carried verdict none is shown ends rose =
      let told = subst (λ answered. Shows old.sink (failed_behind device_failed (if answered then verdict.text else [])) new.sink) (sym none) shown in
      LostBefore (record { answer = is; shown = inl told }) (subst (λ n. EndsAs g found n old.disks new.disks) is ends, rose)

  -- memory ended before that
  pub starved_carried :
      (verdict : Verdict) → own ≡ 13 → Shows old.sink no_memory.text new.sink → EndsAs g found own old.disks new.disks
      → Carries g (leaving keys (installing verdict found)) own keys old new
  starved_carried verdict is shown ends = Starved (record { answer = is; shown = inl shown }) (subst (λ n. EndsAs g found n old.disks new.disks) is ends)

  -- a disk failed after that
  pub phase_carried :
      (answer : Answer) (phase : Phase) → found.left.answered ≡ true → own ≡ device_status phase → Shows old.sink (answer_text answer ++ lost_line phase) new.sink
      → EndsAs g found own old.disks new.disks → Rose (g.faults old.disks) (g.faults new.disks)
      → Carries g (leaving keys (installing (verdict_by answer_text (Ok answer)) found)) own keys old new
  phase_carried answer Before so is shown ends rose =
      let told = subst (λ answered. Shows old.sink (failed_behind device_failed (if answered then answer_text answer else [])) new.sink) (sym so) shown in
      LostBefore (record { answer = is; shown = inl told }) (subst (λ n. EndsAs g found n old.disks new.disks) is ends, rose)
  phase_carried answer Commit so is shown ends rose =
      LostAtCommit (record { answer = is; shown = inl shown }) (subst (λ n. EndsAs g found n old.disks new.disks) is ends, rose)
  phase_carried answer After so is shown ends rose =
      LostAfter (record { answer = is; shown = inl shown }) (subst (λ n. EndsAs g found n old.disks new.disks) is ends, rose)

-- ---- what is left

module _ {D : Type 0} (g : Ghosts D) (old new : D) where
  stays_same :
      (machine : Machine) (volume : Volume) (span : Span) → g.past new ≡ g.past old → IsQuiet (g.past old)
      → StaysAsBefore machine volume span (g.past old) (g.past new)
  stays_same machine volume span same quiet =
      let stays : StaysAsBefore machine volume span (g.past old) (g.past old) =
      record {
        boots = λ clear. leaves_none (g.past old) _ (λ c left. subst (BootsAs machine span (now (g.past old))) (sym (quiet c left)) (λ keys memory. refl));
        boot = leaves_none (g.past old) _ (λ c left. subst (HasBootOf span (now (g.past old))) (sym (quiet c left)) refl);
      } in
      subst (λ (p : Option Past). StaysAsBefore machine volume span (g.past old) p) (sym same) stays

  -- and keeps all names
  keeps_same :
      (machine : Machine) (begun : installs.Begun) (names : OwnNames) → g.past new ≡ g.past old → IsQuiet (g.past old)
      → KeepsMost machine begun names (g.past old) (g.past new)
  keeps_same machine begun names same_past quiet =
      let keeps : KeepsMost machine begun names (g.past old) (g.past old) =
      leaves_none (g.past old) _
      (λ c left. rw (quiet c left) (record {
        sound = λ sound. sound;
        others = λ name beside. refl;
        own = λ name. inl refl;
        backup = same names.backup;
        held = λ held. held;
      })) in
      subst (λ (p : Option Past). KeepsMost machine begun names (g.past old) p) (sym same_past) keeps
    where
      same : (backup : Option (List (List ℕ)))
          → IfSome backup (λ path. names_in begun.volume (now (g.past old)) path ≡ names_in begun.volume (now (g.past old)) path)
      same None = tt
      same (Some path) = refl

  -- and the sectors of a Clear map
  spares_same : (machine : Machine) (begun : installs.Begun) → g.past new ≡ g.past old → IsQuiet (g.past old) → SparesClear machine begun (g.past old) (g.past new)
  spares_same machine begun same quiet clear =
      subst (λ (p : Option Past). SparesMapped machine begun.span (g.past old) p) (sym same)
      (leaves_none (g.past old) _
      (λ c left. subst (SameOn (mapped_sectors (now (g.past old)) machine begun.span) (now (g.past old))) (sym (quiet c left)) (λ k d below. refl)))

  -- and writes nothing outside of the volume
  inside_same : (volume : Volume) (span : Span) (own : ℕ) → g.past new ≡ g.past old → WritesInside volume span (g.past old) (g.past new) own
  inside_same volume span own same =
      let none : (d s : ℕ) → NotWritten (g.past old) (g.past new) d s =
      λ d s. subst (λ (p : Option Past). NotWritten (g.past old) p d s) (sym same) (not_written_none (g.past old) d s) in
      record { before = λ is d s apart. none d s; others = λ d s apart other. none d s }

  -- a disk failed, or memory ended, before anything was done
  pub record IsEarly (found : Installation) (own : ℕ) : Type 0 where
    pub status : (own ≡ 8) ⊎ (own ≡ 13)
    pub rose : own ≡ 8 → Rose (g.faults old) (g.faults new)
    pub unanswered : found.left.answered ≡ false
    pub settled : found.left.settled ≡ now (g.past old)

  none-13 : (phase : Phase) → 13 ≡ device_status phase → ⊥
  none-13 Before is = omega (arith, is)
  none-13 Commit is = omega (arith, is)
  none-13 After is = omega (arith, is)

  not_done : (own : ℕ) → (own ≡ 8) ⊎ (own ≡ 13) → (own ≡ 0) ⊎ (own ≡ 10) → ⊥
  not_done own (inl early) (inl is) = omega (arith, early, is)
  not_done own (inl early) (inr is) = omega (arith, early, is)
  not_done own (inr early) (inl is) = omega (arith, early, is)
  not_done own (inr early) (inr is) = omega (arith, early, is)

  not_nine : (own : ℕ) → (own ≡ 8) ⊎ (own ≡ 13) → own ≡ 9 → ⊥
  not_nine own (inl early) is = omega (arith, early, is)
  not_nine own (inr early) is = omega (arith, early, is)

  left_early : (found : Installation) (begun : installs.Begun) (own : ℕ) → IsEarly found own → g.past new ≡ g.past old → IsLeftBy g found begun own old new
  left_early found begun own is-early same = record {
    settled = λ so. absurd (false≢true (sym is-early.unanswered ∙ so));
    leaves =
        λ quiet. record {
          keeps = λ names are. record {
            places = [];
            before = λ is. inl (keeps_same found.machine begun names same quiet);
            unstaged = λ is other. keeps_same found.machine begun names same quiet;
            map = λ is. leaves_weaker (g.past old) (g.past new) _ _ (keeps_same found.machine begun names same quiet) (λ c kept. kept.own names.map);
            later = λ is. absurd (⊎_elim (not_nine own early) (not_done own early) is);
            backup = λ is. absurd (not_done own early is);
            installed = λ zero. absurd (not_done own early (inl zero));
          };
          settles = λ is. absurd (⊎_elim (not_nine own early) (not_done own early) is);
          passes = λ is. absurd (⊎_elim (not_nine own early) (not_done own early) is);
          before = λ is. stays_same found.machine begun.volume begun.span same quiet;
          at_commit = λ nine. absurd (not_nine own early nine);
          spares = λ is. spares_same found.machine begun same quiet;
          in_commit = λ nine. absurd (not_nine own early nine);
          committed = λ is. absurd (not_done own early is);
          done = λ is. absurd (not_done own early is);
          lays = λ is. absurd (not_done own early is);
          quiet = λ zero. absurd (not_done own early (inl zero));
          gains = λ other.
              subst (λ (image : Image). GainsNothing begun.volume (now (g.past old)) image) (sym is-early.settled) (gains_none begun.volume (now (g.past old)));
          holds = λ is other. record { now_is = ap now same ∙ sym is-early.settled; quiet = subst (λ (p : Option Past). IsQuiet p) (sym same) quiet };
          stages = λ is. inl (λ names own. keeps_same found.machine begun names same quiet);
        };
    refused = λ refuses. same;
    unsettled =
        λ none. record {
          same = is-early.settled;
          refused = λ is other. same;
          unplanned = λ refuses. same;
        };
    outside = inside_same begun.volume begun.span own same;
    phase = λ quiet. by early quiet;
  }
    where
      early : (own ≡ 8) ⊎ (own ≡ 13)
      early = is-early.status

      by : (own ≡ 8) ⊎ (own ≡ 13) → IsQuiet (g.past old) → FailsBy g own (IsStagedFrom found.machine begun (g.past old)) begun.span old new
      by (inl eight) quiet =
          subst (λ (n : ℕ). FailsBy g n (IsStagedFrom found.machine begun (g.past old)) begun.span old new) (sym eight)
          (fails_still g (IsStagedFrom found.machine begun (g.past old)) begun.span old new same quiet (is-early.rose eight))
      by (inr thirteen) quiet = λ phase is. absurd (none-13 phase (sym thirteen ∙ is))

  -- an installation that did nothing
  pub ends_still :
      (found : Installation) (own : ℕ) → g.past new ≡ g.past old → GoesOn g old new → now (g.past new) ≡ found.left.ended
      → ((read : begins.Begun) → begun_at found.image found.machine found.root found.path ≡ Ok read
      → (volume : Volume) → volume_at found.image read.volume ≡ Ok volume → IsEarly found own)
      → (own ≢ 8 → own ≢ 13 → found.left.answered ≡ true) → EndsAs g found own old new
  ends_still found own same goes_on ended early answered = record {
    begun = λ read is volume there. left_early found (begun_with read volume) own (early read is volume there) same;
    unread = λ refused. same;
    no_volume = λ read is refused. same;
    answered = answered;
    ended = ended;
    goes_on = goes_on;
  }

  -- one on a volume
  pub ends_on :
      (found : Installation) (own : ℕ) (read : begins.Begun) (volume : Volume) → begun_at found.image found.machine found.root found.path ≡ Ok read
      → volume_at found.image read.volume ≡ Ok volume → IsLeftBy g found (begun_with read volume) own old new
      → (own ≢ 8 → own ≢ 13 → found.left.answered ≡ true) → now (g.past new) ≡ found.left.ended → GoesOn g old new
      → EndsAs g found own old new
  ends_on found own read volume is there left answered ended goes_on = record {
    begun =
        λ read' is' volume' there'.
        let same : read ≡ read' = ok_same _ read read' is is' in
        let there_too = subst (λ (r : begins.Begun). volume_at found.image r.volume ≡ Ok volume) same there in
        let same_volume : volume ≡ volume' = ok_same _ volume volume' there_too there' in
        subst (λ (v : Volume). IsLeftBy g found (begun_with read' v) own old new) same_volume
        (subst (λ (r : begins.Begun). IsLeftBy g found (begun_with r volume) own old new) same left);
    unread = λ refused. absurd (not_refused _ read is refused);
    no_volume =
        λ read' is' refused.
        let same : read' ≡ read = ok_same _ read' read is' is in
        absurd (not_refused _ volume there (subst (λ (r : begins.Begun). IsErr (volume_at found.image r.volume)) same refused));
    answered = answered;
    ended = ended;
    goes_on = goes_on;
  }

-- ---- the whole

module _ {D : Type 0} (g : Ghosts D) (machine : Machine) (root : Option Device) (path : List ℕ) (time own : ℕ) (memory : Memory) (old new : D) (sink sink' : SinkState) (goes_on : GoesOn g old new) where
  abbrev pub at_entry : ℕ → State D
  at_entry key_faults = record { disks = old; memory = memory; sink = sink; key_faults = key_faults }

  abbrev pub at_end : ℕ → State D
  at_end key_faults = record { disks = new; memory = memory; sink = sink'; key_faults = key_faults }

  -- what is found out, with whether that is what it is answered by
  abbrev pub finds : Image → Bool → Left
  finds settled answered = record { settled = settled; answered = answered; ended = now (g.past new) }

  abbrev pub installing_by : Left → Installation
  installing_by left = installation (now (g.past old)) machine root path time left

  abbrev pub CarriesAll : Effect → Type 0
  CarriesAll effect = (keys : List Key) (key_faults : ℕ) → Carries g (leaving keys effect) own keys (at_entry key_faults) (at_end key_faults)

  abbrev pub FindsOut : Type 0
  FindsOut = (found : Left) × CarriesAll (install_effect (now (g.past old)) machine root path time found)

  found_by :
      (left : Left) (effect : Effect) → install_effect (now (g.past old)) machine root path time left ≡ effect → CarriesAll effect → FindsOut
  found_by left effect same carries = (left, subst (λ (e : Effect). CarriesAll e) (sym same) carries)

  abbrev pub given_by : Image → begins.Begun → Volume → Result Answer InstallRefusal
  given_by settled read volume = settled_answer (now (g.past old)) machine settled (begun_with read volume) time

  -- it began on a volume
  on_volume :
      (read : begins.Begun) (volume : Volume) → begun_at (now (g.past old)) machine root path ≡ Ok read → volume_at (now (g.past old)) read.volume ≡ Ok volume
      → (IsDiskFault own → Rose (g.faults old) (g.faults new)) → (IsQuiet (g.past old) → FailsBy g own (IsStagedOn (now (g.past old)) machine read (g.past old)) read.span old new)
      → Installs (now (g.past old)) machine (begun_with read volume) time (g.past old) (g.past new) own sink sink' → FindsOut
  on_volume read volume is there cause fails done = by done.answers
    where
      lies : span_of (now (g.past old)) machine read.named.boot ≡ Ok read.span
      lies = begun_there (now (g.past old)) machine root path read is

      phases : IsQuiet (g.past old) → FailsBy g own (IsStagedFrom machine (begun_with read volume) (g.past old)) read.span old new
      phases quiet =
          fails_weaker g own (IsStagedOn (now (g.past old)) machine read (g.past old)) (IsStagedFrom machine (begun_with read volume) (g.past old)) read.span old new
          (λ past bytes staged. staged volume there) (fails quiet)

      ends :
          (answered : Bool) → (answered ≡ true → IsSettledFrom (now (g.past old)) machine (begun_with read volume) done.settled)
          → (own ≢ 8 → own ≢ 13 → answered ≡ true) → EndsAs g (installing_by (finds done.settled answered)) own old new
      ends answered settled owed =
          ends_on g old new (installing_by (finds done.settled answered)) own read volume is there
          (record { settled = settled; leaves = λ quiet. done.leaves quiet lies; refused = done.refused; unsettled = done.unsettled; outside = done.outside; phase = phases }) owed refl goes_on

      effect_is :
          (answered : Bool) → install_effect (now (g.past old)) machine root path time (finds done.settled answered)
          ≡ installing (verdict_by answer_text (given_by done.settled read volume)) (installing_by (finds done.settled answered))
      effect_is answered = effect_on (now (g.past old)) machine root path time (finds done.settled answered) read volume is there

      failed_in : (phase : Phase) → own ≡ device_status phase → IsDiskFault own
      failed_in Before status = inl status
      failed_in Commit status = inr (inl status)
      failed_in After status = inr (inr status)

      by : AnswersInstall (now (g.past old)) machine done.settled (begun_with read volume) time own sink sink' → FindsOut
      by (outcomes.Answered settled answered) =
          found_by (finds done.settled true) _ (effect_is true)
          (λ keys key_faults. verdict_carried g (installing_by (finds done.settled true)) own keys (at_entry key_faults) (at_end key_faults) refl
          (verdict_by answer_text (given_by done.settled read volume)) answered (ends true (λ so. settled) (λ not_8 not_13. refl)))
      by (outcomes.LostEarly eight shown) =
          found_by (finds done.settled false) _ (effect_is false)
          (λ keys key_faults. lost_carried g (installing_by (finds done.settled false)) own keys (at_entry key_faults) (at_end key_faults) refl
          (verdict_by answer_text (given_by done.settled read volume)) refl eight shown (ends false (λ so. absurd (false≢true so)) (λ not_8 not_13. absurd (not_8 eight))) (cause (inl eight)))
      by (outcomes.Starved thirteen shown) =
          found_by (finds done.settled false) _ (effect_is false)
          (λ keys key_faults. starved_carried g (installing_by (finds done.settled false)) own keys (at_entry key_faults) (at_end key_faults) refl
          (verdict_by answer_text (given_by done.settled read volume)) thirteen shown (ends false (λ so. absurd (false≢true so)) (λ not_8 not_13. absurd (not_13 thirteen))))
      by (outcomes.LostLater settled lost) =
          found_by (finds done.settled true) _
          (effect_is true ∙ ap (λ answer. installing (verdict_by answer_text answer) (installing_by (finds done.settled true))) lost.is)
          (λ keys key_faults. phase_carried g (installing_by (finds done.settled true)) own keys (at_entry key_faults) (at_end key_faults) refl
          lost.answer lost.phase refl lost.status_is lost.shown (ends true (λ so. settled) (λ not_8 not_13. refl)) (cause (failed_in lost.phase lost.status_is)))

  -- it began
  pub begun_found :
      (read : begins.Begun) → begun_at (now (g.past old)) machine root path ≡ Ok read → (IsDiskFault own → Rose (g.faults old) (g.faults new))
      → (IsQuiet (g.past old) → FailsBy g own (IsStagedOn (now (g.past old)) machine read (g.past old)) read.span old new)
      → InstallsBegun (now (g.past old)) machine time read (g.past old) (g.past new) own sink sink' → FindsOut
  unfolding install_effect
  begun_found read is cause fails (OnVolume volume there done) = on_volume read volume is there cause fails done
  begun_found read is cause fails (NoVolume fault there answers same) =
      let left = finds (now (g.past old)) true in
      found_by left _ (effect_without (now (g.past old)) machine root path time left read fault is there)
      (λ keys key_faults. verdict_carried g (installing_by left) own keys (at_entry key_faults) (at_end key_faults) refl
      (verdict_of (Err refusals.Layout)) answers
      (ends_still g old new (installing_by left) own same goes_on refl
      (λ read' is' volume there'. absurd (no_volume read' is' volume there')) (λ not_8 not_13. refl)))
    where
      no_volume :
          (read' : begins.Begun) → begun_at (now (g.past old)) machine root path ≡ Ok read' → (volume : Volume) → volume_at (now (g.past old)) read'.volume ≡ Ok volume → ⊥
      no_volume read' is' volume there' =
          let same : read' ≡ read = ok_same _ read' read is' is in
          let there_too = subst (λ (r : begins.Begun). volume_at (now (g.past old)) r.volume ≡ Ok volume) same there' in
          ok_or_err _ volume fault there_too there
  begun_found read is cause fails (VolumeLost eight shown same) =
      let left = finds (now (g.past old)) false in (
        left,
        λ keys key_faults. lost_carried g (installing_by left) own keys (at_entry key_faults) (at_end key_faults) refl
            _ refl eight shown
            (ends_still g old new (installing_by left) own same goes_on refl
            (λ read' is' volume there'. record { status = inl eight; rose = λ is. cause (inl is); unanswered = refl; settled = refl })
            (λ not_8 not_13. absurd (not_8 eight))) (cause (inl eight)),
      )

  -- ---- it didn't begin

  -- what is answered and printed of what it begins with
  abbrev IsRefusedWith : Refusal → Type 0
  IsRefusedWith refusal =
      (begun_at (now (g.past old)) machine root path ≡ Err refusal)
      × (own ≡ (verdict_of (Err refusal)).status) × Shows sink (verdict_of (Err refusal)).text sink'

  abbrev IsRefusedSo : Type 0
  IsRefusedSo =
      ((refusal : Refusal) × IsRefusedWith refusal)
      ⊎ (((own ≡ 8) × Shows sink device_failed.text sink') ⊎ ((own ≡ 13) × Shows sink no_memory.text sink'))

  table_so :
      (fault : declared.TableFault) → ConfRefuses path (File (files.Place fault)) (begun_at (now (g.past old)) machine root path)
      → own ≡ (table_verdict fault).status → Shows sink (table_verdict fault).text sink' → IsRefusedSo
  table_so tables.Device refuses answer shown = inr (inl (answer, shown))
  table_so (tables.NoSignature sector) refuses answer shown = inl (_, (refuses, answer, shown))
  table_so (tables.OutsideDisk number) refuses answer shown = inl (_, (refuses, answer, shown))
  table_so (tables.LoopedChain sector) refuses answer shown = inl (_, (refuses, answer, shown))
  table_so tables.TooMany refuses answer shown = inl (_, (refuses, answer, shown))
  table_so tables.UnknownDevice refuses answer shown = inl (_, (refuses, answer, shown))
  table_so (tables.NoPartition number) refuses answer shown = inl (_, (refuses, answer, shown))
  table_so (tables.NoDisk disk) refuses answer shown = inl (_, (refuses, answer, shown))

  text_so :
      (view : Option ConfRefusal) → RefusesText view (begun_at (now (g.past old)) machine root path)
      → own ≡ (text_verdict view).status → Shows sink (text_verdict view).text sink' → IsRefusedSo
  text_so None refuses answer shown = inr (inr (answer, shown))
  text_so (Some refusal) refuses answer shown = inl (_, (refuses, answer, shown))

  refused_so :
      (halt : ConfHalt) → ConfRefuses path halt (begun_at (now (g.past old)) machine root path)
      → own ≡ (conf_verdict path halt).status → Shows sink (conf_verdict path halt).text sink' → IsRefusedSo
  refused_so (File files.NoVolume) refuses answer shown = inl (_, (refuses, answer, shown))
  refused_so (File (files.Place fault)) refuses answer shown = table_so fault refuses answer shown
  refused_so (File files.Device) refuses answer shown = inr (inl (answer, shown))
  refused_so (File files.Layout) refuses answer shown = inl (_, (refuses, answer, shown))
  refused_so (File files.Missing) refuses answer shown = inl (_, (refuses, answer, shown))
  refused_so (File files.BadPath) refuses answer shown = inl (_, (refuses, answer, shown))
  refused_so (File files.Memory) refuses answer shown = inr (inr (answer, shown))
  refused_so (Text fault) refuses answer shown = text_so (fault_view fault) refuses answer shown

  found_so : g.past new ≡ g.past old → (own ≡ 8 → Rose (g.faults old) (g.faults new)) → IsRefusedSo → FindsOut
  unfolding install_effect
  found_so same cause (inl (refusal, (is, answer, shown))) =
      let left = finds (now (g.past old)) true in
      found_by left _ (effect_refused (now (g.past old)) machine root path time left refusal is)
      (λ keys key_faults. verdict_carried g (installing_by left) own keys (at_entry key_faults) (at_end key_faults) refl
      (verdict_of (Err refusal)) (record { status_is = answer; shown = shown })
      (ends_still g old new (installing_by left) own same goes_on refl
      (λ read is' volume there. absurd (ok_or_err _ read refusal is' is)) (λ not_8 not_13. refl)))
  found_so same cause (inr (inl (eight, shown))) =
      let left = finds (now (g.past old)) false in (
        left,
        λ keys key_faults. lost_carried g (installing_by left) own keys (at_entry key_faults) (at_end key_faults) refl
            _ refl eight shown
            (ends_still g old new (installing_by left) own same goes_on refl
            (λ read is volume there. record { status = inl eight; rose = cause; unanswered = refl; settled = refl })
            (λ not_8 not_13. absurd (not_8 eight))) (cause eight),
      )
  found_so same cause (inr (inr (thirteen, shown))) =
      let left = finds (now (g.past old)) false in (
        left,
        λ keys key_faults. starved_carried g (installing_by left) own keys (at_entry key_faults) (at_end key_faults) refl
            _ thirteen shown
            (ends_still g old new (installing_by left) own same goes_on refl
            (λ read is volume there. record { status = inr thirteen; rose = cause; unanswered = refl; settled = refl })
            (λ not_8 not_13. absurd (not_13 thirteen))),
      )

  pub refused_found :
      (halt : ConfHalt) → ConfRefuses path halt (begun_at (now (g.past old)) machine root path)
      → own ≡ (conf_verdict path halt).status → Shows sink (conf_verdict path halt).text sink'
      → g.past new ≡ g.past old → (own ≡ 8 → Rose (g.faults old) (g.faults new)) → FindsOut
  refused_found halt refuses answer shown same cause = found_so same cause (refused_so halt refuses answer shown)

-- ---- by itself

-- an installation by itself is one part
install_alone :
    (now : Image) (machine : Machine) (size time : ℕ) (words : List (List ℕ)) (lefts : List Left) (keys : List Key) (root : Option Device) (path : List ℕ)
    → IsInstallRun words root path
    → effects_of now machine size time words lefts keys ≡ leaving keys (install_effect now machine root path time (first_left now lefts)) ∷ []
unfolding effects_of command_effect
install_alone now machine size time words lefts keys root path (part, is, command, rooted, called) = rw (is, command, rooted, called) refl

-- ---- by the image at the entry

module _ {D : Type 0} (g : Ghosts D) (image : Image) (machine : Machine) (root : Option Device) (path : List ℕ) (time : ℕ) (found : Left) where
  abbrev Room : installs.Begun → OwnNames → Plan → Result (List DiskSector) rooms.Refusal
  Room = install_room image machine found.settled time

  module _ (own : ℕ) (old new : D) (ends : EndsAs g (installation image machine root path time found) own old new) (so : found.answered ≡ true)
      (steady : ReadsSteady image found.settled machine root path) where
    on_read : (read : begins.Begun) → begun_at image machine root path ≡ Ok read
        → install_on image machine found.settled time read ≡ answer_on Room image machine time read
    unfolding install_on
    on_read read is =
        bind-same (with_fault (λ fault. Reading refusals.Layout) (volume_at image read.volume)) _ _ (λ volume there.
        let lies = told-given (λ fault. Reading refusals.Layout) _ volume there in
        entry_answer_law image machine found.settled (begun_with read volume) time ((ends.begun read is volume lies).settled so) (steady read is volume lies))

    by_entry : installed_answer image machine root path time found ≡ (with_fault Reading (begun_at image machine root path) >>= answer_on Room image machine time)
    by_entry =
        bind-same (with_fault Reading (begun_at image machine root path)) (answer_on Room image machine time) (install_on image machine found.settled time)
        (λ read is. on_read read (told-given Reading _ read is))

    modelled : (install_effect image machine root path time found).verdict ≡ install_verdict image machine root path found.settled time
    unfolding install_effect install_verdict
    modelled = ap (verdict_by answer_text) (by_entry ∙ sym (answer_law image machine root path Room time))

  pub tells_modelled :
      (keys : List Key) (status : ℕ) (left : List Key) (old new : Scene D) → Tells g (leaving keys (install_effect image machine root path time found)) status left old new
      → IsModelled image machine root path time found
  unfolding install_effect
  tells_modelled keys status left old new (TellsVerdict is kept printed ends) = modelled status old.disks new.disks ends
  tells_modelled keys status left old new (TellsLost is printed (ends, rose)) = modelled 8 old.disks new.disks ends
  tells_modelled keys status left old new (TellsLostAtCommit is printed (ends, rose)) = modelled 9 old.disks new.disks ends
  tells_modelled keys status left old new (TellsLostAfter is printed (ends, rose)) = modelled 10 old.disks new.disks ends
  tells_modelled keys status left old new (TellsUnheard is printed rose same) = absurd printed
  tells_modelled keys status left old new (TellsStarved is printed ends) = modelled 13 old.disks new.disks ends
  tells_modelled keys status left old new (TellsCut is zero kept rose front ends) = modelled 0 old.disks new.disks ends

-- ---- what the run of one part leaves

pub install_tells :
    {D : Type 0} → (g : Ghosts D) (now : Image) (machine : Machine) (size time : ℕ) (words : List (List ℕ)) (root : Option Device) (path : List ℕ) (lefts : List Left)
    (keys left : List Key) (status : ℕ) (old new : Scene D)
    → IsInstallRun words root path → TellsRun g (effects_of now machine size time words lefts keys) status keys left old new
    → (found : Left) × (IsModelled now machine root path time found × Tells g (leaving keys (install_effect now machine root path time found)) status left old new)
install_tells g now machine size time words root path lefts keys left status old new run told =
    let alone =
    told_alone g (leaving keys (install_effect now machine root path time (first_left now lefts))) status keys left old new
    (subst (λ parts. TellsRun g parts status keys left old new) (install_alone now machine size time words lefts keys root path run) told) in
    (first_left now lefts, (tells_modelled g now machine root path time (first_left now lefts) keys status left old new alone, alone))
