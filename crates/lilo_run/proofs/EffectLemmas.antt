-- How a boot ends.
use Rattle.std.proofs.Common.{◌≡◌, ◌≤◌, ◌∙◌, ℕ, inl, inr, Bool, List, [], ◌∷◌, ◌++◌, map, Option, None, Some, Result, Ok, Err, refl, sym, subst, arith}
use Rattle.lilo_model.specs.Boot as boots
use Rattle.lilo_model.specs.Disks.{Image, Machine, Span}
use Rattle.lilo_model.specs.Place.{Memory, Written, with_bytes, memory_after}
use Rattle.lilo_model.specs.Refusal.{DeviceFault}
use Rattle.lilo_model.specs.Verdict.{start_check, told_regions}
use Rattle.bios_model.specs.Memory.{memory_of}
use Rattle.setup_header.specs.declared.layout.Layout.{Layout}
use Rattle.setup_header.specs.declared.layout.Region.{Region}
use Rattle.setup_header.specs.View.{layout_view}
use Rattle.loader_core.specs.Kernel.{regions_in}
use Rattle.stream_trait.specs.Shows.{SinkState, Shows, ShowsOne}
use Rattle.loader_core.specs.Start.{OnKeys, Went, result_of}
use Rattle.stream_trait.specs.declared.source.Source as sources
use Rattle.prompt_loop.specs.declared.asking.Stop.TheVariants as stops
use Rattle.section_loader.specs.declared.reason.Halt.TheVariants as ends
use Rattle.lilo_model.specs.Prompt.{Key, AreLastKeys}
use Rattle.loader_core.specs.Report.{Report, boot_report}
use Rattle.lilo_model.specs.Faults.{Rose}
use Rattle.loader_core.specs.Leaves.{HasPut, CameTo}
use Rattle.loader_core.proofs.BootLemmas.{keys_map, boot_last}
use Rattle.prompt_loop.proofs.LastLemmas.{all_last}
use Rattle.disk_trait.specs.declared.disks.Disks.{Ghosts}
use Rattle.disk_trait.specs.declared.disks.Phase.{Phase}
use Rattle.disk_trait.specs.declared.disks.Phase.TheVariants.{Before, Commit, After}
use Rattle.disk_trait.specs.Calls.{SameOf}
use Rattle.section_loader.specs.View.{reason_view}
use Rattle.section_loader.specs.declared.reason.Reason.{Reason}
use Rattle.loader_core.specs.declared.outcome.Outcome.TheVariants as outcomes
use Rattle.stream_trait.proofs.ShowsLemmas.{shows_join}
use Rattle.memory_dump.specs.Dump as dumps
use Rattle.lilo_run.specs.Refusal.{device_failed, failed_at_commit, failed_after_commit, phase_verdict, keys_failed, halt_verdict, reason_verdict}
use Rattle.lilo_run.specs.Run.{State, IsDone, Carries, CarriesKeys, CarriedOut, LostBefore, LostAtCommit, LostAfter, Unheard, HaltsAt}
use Rattle.lilo_run.specs.Verdict.{report_effect, boot_effect, regions_text}
use Rattle.lilo_run.proofs.RunLemmas.{carries_after}
use Rattle.lilo_run.specs.declared.refusal.Halt.{Halt}
use Rattle.lilo_run.specs.declared.refusal.Halt.TheVariants.{Device, NoPlace, NotOurs, Boot}

-- ---- texts

-- one of some texts, and then another
pub shows_one_then :
    (a b c : SinkState) (texts : List (List ℕ)) (other : List ℕ) → ShowsOne a texts b → Shows b other c
    → ShowsOne a (map (λ text. text ++ other) texts) c
shows_one_then a b c [] other first second = first
shows_one_then a b c (text ∷ texts) other (inl shown) second = inl (shows_join a b c text other shown second)
shows_one_then a b c (text ∷ texts) other (inr shown) second = inr (shows_one_then a b c texts other shown second)

-- ---- memory

pub memory_after-append :
    (memory : Memory) (one other : List Written)
    → memory_after memory (one ++ other) ≡ memory_after (memory_after memory one) other
memory_after-append memory [] other = refl
memory_after-append memory (first ∷ one) other = memory_after-append (with_bytes memory first) one other

-- ---- a boot

regions_same_by :
    (ram : List ℕ) (real protected line : Region) (initrd : Option Region)
    → regions_in ram (layout_view (record { real = real; protected = protected; initrd = initrd; line = line }))
    ≡ dumps.regions_of (record { real = real; protected = protected; initrd = initrd; line = line }) ram
unfolding regions_in
regions_same_by ram real protected line None = refl
regions_same_by ram real protected line (Some initrd) = refl

-- the regions that are reported are those that the loader speaks of
pub regions_same : (ram : List ℕ) (layout : Layout) → regions_in ram (layout_view layout) ≡ dumps.regions_of layout ram
regions_same ram layout = regions_same_by ram layout.real layout.protected layout.line layout.initrd

-- something was started, and is told of
module _ {D : Type 0} (g : Ghosts D) (dump : Bool) (report : Report) (left : List Key) (old new : State D) (mid : SinkState) where
  boot_done :
      (outcome : boots.Outcome) (written regions : List Written)
      → report.result ≡ Ok (record { outcome = outcome; written = written }) → start_check outcome ≡ Ok tt
      → new.memory ≡ memory_after old.memory written → report.left ≡ left
      → told_regions outcome written ≡ regions → Shows old.sink report.shown mid → Shows mid (regions_text dump regions) new.sink
      → HasPut g old.disks new.disks report.write → Carries g (report_effect dump report) 0 left old new
  unfolding report_effect
  boot_done outcome written regions is started placed kept held shown told put =
      let done : IsDone (report_effect dump report) 0 old.memory new.memory old.sink new.sink =
      rw (is, started, held)
      (record {
        answer = refl;
        shown = shows_join old.sink mid new.sink report.shown (regions_text dump regions) shown told;
        placed = λ done. placed;
      }) in
      CarriedOut done kept put

  carried : {status : ℕ} → Carries g (report_effect dump report) status left old new → AreLastKeys left report.left
      → CarriesKeys g (report_effect dump report) status left old new
  unfolding report_effect
  carried does last = record { does = does; keys = last }

  all_left : report.left ≡ left → AreLastKeys left report.left
  all_left is = subst (λ keys. AreLastKeys left keys) (sym is) (all_last left)

  pub boot_loaded :
      (layout : Layout) (ram : List ℕ) → new.memory ≡ memory_of ram
      → Went (result_of (outcomes.Loaded layout)) report old.memory ram left old.sink mid
      → Shows mid (regions_text dump (dumps.regions_of layout ram)) new.sink → HasPut g old.disks new.disks report.write
      → CarriesKeys g (report_effect dump report) 0 left old new
  boot_loaded layout ram is went told put =
      let reports = went.1 in
      carried
      (boot_done (boots.Loaded (layout_view layout)) reports.starts.written (dumps.regions_of layout ram)
      reports.starts.is refl (is ∙ reports.starts.placed) went.0 (reports.starts.held ∙ regions_same ram layout) reports.shows told put)
      (all_left went.0)

  pub boot_handed :
      (ram : List ℕ) → new.memory ≡ memory_of ram
      → Went (result_of outcomes.Handed) report old.memory ram left old.sink mid
      → Shows mid (regions_text dump (dumps.boot_sector_in ram ∷ [])) new.sink → HasPut g old.disks new.disks report.write
      → CarriesKeys g (report_effect dump report) 0 left old new
  boot_handed ram is went told put =
      let reports = went.1 in
      carried
      (boot_done boots.Handed reports.starts.written (dumps.boot_sector_in ram ∷ [])
      reports.starts.is refl (is ∙ reports.starts.placed) went.0 reports.starts.held reports.shows told put)
      (all_left went.0)

  -- nothing was started
  pub boot_refused :
      (reason : Reason) (status : ℕ) (ram : List ℕ)
      → Went (result_of (outcomes.Refused reason)) report old.memory ram left old.sink mid
      → status ≡ (halt_verdict (Boot reason)).status → 1 ≤ status → Shows mid (halt_verdict (Boot reason)).text new.sink
      → HasPut g old.disks new.disks report.write → CarriesKeys g (report_effect dump report) status left old new
  unfolding report_effect
  boot_refused reason status ram went answer some told put =
      let starts = went.1.starts in
      let done : IsDone (report_effect dump report) status old.memory new.memory old.sink new.sink =
      rw starts
      (record {
        answer = answer;
        shown = shows_join old.sink mid new.sink report.shown (reason_verdict (reason_view reason)).text went.1.shows told;
        placed = λ zero. absurd (omega (arith, zero, some));
      }) in
      carried (CarriedOut done went.0 put) (all_left went.0)

  -- a disk failed
  pub boot_failed :
      (phase : Phase) (status : ℕ) (ram : List ℕ)
      → Went (Err (stops.Halt ends.Device)) report old.memory ram left old.sink mid → status ≡ (phase_verdict phase).status
      → Shows mid (phase_verdict phase).text new.sink → CameTo g old.disks new.disks report.write phase
      → CarriesKeys g (report_effect dump report) status left old new
  unfolding report_effect
  boot_failed Before status ram went answer told came =
      carried (LostBefore (record { answer = answer; shown = shows_one_then old.sink mid new.sink report.device device_failed.text went.1.shows told }) came) went.0
  boot_failed Commit status ram went answer told came =
      carried (LostAtCommit (record { answer = answer; shown = shows_one_then old.sink mid new.sink report.device failed_at_commit.text went.1.shows told }) came) went.0
  boot_failed After status ram went answer told came =
      carried (LostAfter (record { answer = answer; shown = shows_one_then old.sink mid new.sink report.device failed_after_commit.text went.1.shows told }) came) went.0

  -- the source of keys failed
  pub boot_unheard :
      (status : ℕ) (ram : List ℕ)
      → Went (result_of outcomes.Keys) report old.memory ram left old.sink mid → status ≡ 11 → Shows mid keys_failed.text new.sink
      → Rose old.key_faults new.key_faults → SameOf g old.disks new.disks → CarriesKeys g (report_effect dump report) status left old new
  unfolding report_effect
  boot_unheard status ram went answer told rose same =
      carried (Unheard (record { answer = answer; shown = shows_one_then old.sink mid new.sink report.unheard keys_failed.text went.1 told }) rose same) went.0

-- a device was found, and booted
pub place_booted :
    {D I : Type 0} → (g : Ghosts D) (i : sources.Ghosts I) (now : Image) (machine : Machine) (size : ℕ) (dump : Bool) (place : Result Span DeviceFault) (span : Span)
    (status : ℕ) (keys : I × I) (first : D) (old new : State D)
    → place ≡ Ok span → SameOf g first old.disks → g.faults first ≤ g.faults old.disks
    → OnKeys i keys (λ all left. CarriesKeys g (report_effect dump (boot_report now machine span size all)) status left old new)
    → OnKeys i keys (λ all left. CarriesKeys g (boot_effect now machine size dump place all) status left (record { disks = first; memory = old.memory; sink = old.sink; key_faults = old.key_faults }) new)
unfolding boot_effect
place_booted g i now machine size dump place span status keys first old new is same later goes =
    keys_map i keys _ _
    (λ all left carries.
    rw is
    (record {
      does = carries_after g (report_effect dump (boot_report now machine span size all)) status left first old new same later carries.does;
      keys = carries.keys;
    })) goes

-- no device was found
module _ {D : Type 0} (g : Ghosts D) (now : Image) (machine : Machine) (size : ℕ) (dump : Bool) (keys : List Key) (status : ℕ) (old new : State D) (same : SameOf g old.disks new.disks) (kept : new.memory ≡ old.memory) where
  lost_finding :
      (span : Span) → Rose (g.faults old.disks) (g.faults new.disks) → status ≡ 8 → Shows old.sink device_failed.text new.sink
      → Carries g (report_effect dump (boot_report now machine span size keys)) status keys old new
  unfolding report_effect boot_report
  lost_finding span rose answer told = LostBefore (record { answer = answer; shown = inl told }) (record { same = same; rose = rose })

  pub place_failed :
      (place : Result Span DeviceFault) (halt : Halt) → HaltsAt halt place → (halt ≡ Device → Rose (g.faults old.disks) (g.faults new.disks))
      → status ≡ (halt_verdict halt).status → 1 ≤ status → Shows old.sink (halt_verdict halt).text new.sink
      → CarriesKeys g (boot_effect now machine size dump place keys) status keys old new
  unfolding boot_effect report_effect
  place_failed (Ok span) Device halts failed answer some told = record {
    does = lost_finding span (failed refl) answer told;
    keys = boot_last now machine span size keys;
  }
  place_failed (Err fault) Device halts failed answer some told = record {
    does = LostBefore (record { answer = answer; shown = inl told }) (record { same = same; rose = failed refl });
    keys = all_last keys;
  }
  place_failed place (NoPlace fault) halts failed answer some told =
      rw halts
      (record {
        does = CarriedOut (record { answer = answer; shown = told; placed = λ zero. absurd (omega (arith, zero, some)) }) refl same;
        keys = all_last keys;
      })
  place_failed place NotOurs halts failed answer some told = absurd halts
  place_failed place (Boot reason) halts failed answer some told = absurd halts
