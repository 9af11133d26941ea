-- The loop over the parts of a run.
use Rattle.std.proofs.Common.{◌≡◌, ◌≤◌, ◌<◌, ◌≢◌, ◌∙◌, ◌==◌, ◌⊎◌, ◌+◌, ◌-◌, ℕ, inl, inr, Bool, true, false, cond, ◌||◌, List, [], ◌∷◌, ◌++◌, Option, None, Some, Err, codes, IfSome, IsTrue, refl, sym, ap, subst, arith}
use Rattle.std.proofs.lemmas.Bool.{eqb-true, false≢true}
use Rattle.disk_trait.specs.Past.{Image, Past}
use Rattle.disk_trait.specs.Moments.{IsTold, now}
use Rattle.disk_trait.specs.Calls.{SameOf}
use Rattle.disk_trait.specs.declared.disks.Phase.TheVariants.{Before, Commit, After}
use Rattle.disk_trait.proofs.MomentLemmas.{told_now}
use Rattle.section_loader.specs.declared.reason.Halt.TheVariants as ends
use Rattle.section_loader.specs.declared.reason.Reason.TheVariants as reasons
use Rattle.prompt_loop.specs.declared.asking.Stop.TheVariants as stops
use Rattle.disk_trait.specs.declared.disks.Disks.{Ghosts}
use Rattle.sector_address.specs.Machine.{OnDisks, machine_of}
use Rattle.lilo_model.specs.Disks.{Machine}
use Rattle.lilo_model.specs.Place.{Memory}
use Rattle.lilo_model.specs.Prompt.{Key}
use Rattle.prompt_loop.proofs.LastLemmas.{all_last}
use Rattle.lilo_model.specs.Words as words
use Rattle.lilo_model.specs.Words.{Command, Part, run_at, usage_text, wrong_word}
use Rattle.stream_trait.specs.Shows.{SinkState, Shows, answer_of}
use Rattle.stream_trait.specs.declared.source.Source as sources
use Rattle.stream_trait.proofs.ShowsLemmas.{zero_before}
use Rattle.loader_core.specs.Start.{OnKeys}
use Rattle.loader_core.specs.Report.{LineWrite, image_with}
use Rattle.bios_model.specs.Reads.{OnlyReads}
use Rattle.bios_model.proofs.WriteLemmas.{goes_on_read}
use Rattle.loader_core.specs.Leaves.{HasPut}
use Rattle.lilo_model.proofs.RoseLemmas.{rose_after}
use Rattle.loader_core.proofs.LeavesLemmas.{same_self, same_join, leaves_after, goes_on_after}
use Rattle.disk_trait.specs.Moments.{IsQuiet}
use Rattle.disk_trait.specs.declared.disks.Phase.{Phase}
use Rattle.install_begin.specs.Begin.{begun_with}
use Rattle.install_laws.specs.InstallVerdict as verdicts
use Rattle.install_run.specs.Installs.{Leaves, StaysUnsettled}
use Rattle.install_run.specs.Keeps.{WritesInside}
use Rattle.install_run.specs.Phases.{FailsBy}
use Rattle.install_run.specs.Staged.{IsStagedFrom}
use Rattle.install_run.proofs.PhaseLemmas.{fails_since}
use Rattle.lilo_run.specs.Run.{State, IsDone, Does, Carries, CarriesKeys, CarriedOut, LostBefore, LostAtCommit, LostAfter, Starved, Unheard, EndsAt, IsPassed, IsOver, Runs, IsLost, IsWriteLost, is_plain_status, is_conf_status, is_install_status, is_test_status, is_part_status}
use Rattle.lilo_run.specs.Run.{IsLeftBy, EndsAs, MakesBy, Makes, ComesBy, StarvesBy}
use Rattle.lilo_run.specs.Verdict.{Effect, Installation, Left, keeping, early_status, early_parts, parts_effects, effects_of, image_by, image_after, is_boot, has_boot, is_write, has_write, works_on, has_work_on}

-- how many turns are left at most
abbrev pub turns_left : Option ℕ → ℕ → ℕ
turns_left None len = 0
turns_left (Some from) len = len + 1 - from

-- the next part begins within the arguments
pub place_within :
    (next : Option ℕ) (from len : ℕ) → IfSome next (λ place. (from < place) × (place ≤ len)) → IfSome next (λ place. place ≤ len)
place_within None from len within = tt
place_within (Some place) from len within = within.1

-- ---- parts in order

module _ {D : Type 0} (g : Ghosts D) where
  -- a part that ended with 0 was done
  pub done_with_zero :
      (effect : Effect) (own : ℕ) (left : List Key) (old new : State D) → Carries g effect own left old new → own ≡ 0
      → IsDone effect 0 old.memory new.memory old.sink new.sink × (effect.left ≡ left) × Makes g effect 0 old.disks new.disks
  done_with_zero effect own left old new (CarriedOut done is put) zero =
      (record { answer = sym zero ∙ done.answer; shown = done.shown; placed = λ none. done.placed zero }, is, subst (λ n. Makes g effect n old.disks new.disks) zero put)
  done_with_zero effect own left old new (LostBefore failed same) zero = absurd (let eight = failed.answer in omega (arith, zero, eight))
  done_with_zero effect own left old new (LostAtCommit failed came) zero = absurd (let nine = failed.answer in omega (arith, zero, nine))
  done_with_zero effect own left old new (LostAfter failed came) zero = absurd (let ten = failed.answer in omega (arith, zero, ten))
  done_with_zero effect own left old new (Starved failed same) zero = absurd (let thirteen = failed.answer in omega (arith, zero, thirteen))
  done_with_zero effect own left old new (Unheard failed rose same) zero = absurd (let eleven = failed.answer in omega (arith, zero, eleven))

  -- a command that takes no key and writes nothing
  pub carries_kept :
      (effect : Effect) (status : ℕ) (keys : List Key) (old new : State D) → OnlyReads g old.disks new.disks (status ≡ 8)
      → Does effect status old.memory new.memory old.sink new.sink → Carries g (keeping keys effect) status keys old new
  carries_kept effect status keys old new reads (inl done) = CarriedOut (record { answer = done.answer; shown = done.shown; placed = done.placed }) refl reads.same
  carries_kept effect status keys old new reads (inr (inl failed)) = LostBefore failed (record { same = reads.same; rose = reads.failed failed.answer })
  carries_kept effect status keys old new reads (inr (inr failed)) = Starved failed reads.same

  -- an installation that began as disks were read
  module _ (first old new : D) (same : SameOf g first old) (later : g.faults first ≤ g.faults old) where
    left_after : (found : Installation) (begun : verdicts.Begun) (own : ℕ) → IsLeftBy g found begun own old new → IsLeftBy g found begun own first new
    left_after found begun own left = record {
      settled = left.settled;
      leaves =
          λ quiet. subst (λ (p : Option Past). Leaves found.machine begun found.left.settled found.time p (g.past new) own) same.same_past
          (left.leaves (subst (λ (p : Option Past). IsQuiet p) (sym same.same_past) quiet));
      refused = λ refuses. left.refused refuses ∙ same.same_past;
      unsettled = subst (λ (p : Option Past). StaysUnsettled found.machine begun found.time found.left.settled p (g.past new) own) same.same_past left.unsettled;
      outside = subst (λ (p : Option Past). WritesInside begun.volume begun.span p (g.past new) own) same.same_past left.outside;
      phase =
          λ quiet. subst (λ (p : Option Past). FailsBy g own (IsStagedFrom found.machine begun p) begun.span first new) same.same_past
          (fails_since g own (IsStagedFrom found.machine begun (g.past old)) begun.span first old new same.same_past (goes_on_read g first old same later)
          (left.phase (subst (λ (p : Option Past). IsQuiet p) (sym same.same_past) quiet)));
    }

    pub ends_after : (found : Installation) (own : ℕ) → EndsAs g found own old new → EndsAs g found own first new
    ends_after found own done = record {
      begun = λ read is volume there. left_after found (begun_with read volume) own (done.begun read is volume there);
      unread = λ refused. done.unread refused ∙ same.same_past;
      no_volume = λ read is refused. done.no_volume read is refused ∙ same.same_past;
      answered = done.answered;
      ended = done.ended;
      goes_on = goes_on_after g first old new same later done.goes_on;
    }

    makes_after :
        (installs : Option Installation) (write : Option LineWrite) (own : ℕ) → MakesBy g installs write own old new → MakesBy g installs write own first new
    makes_after None write own put = leaves_after g first old new same later write (Err (stops.Halt (ends.Refused reasons.Idle))) Before put
    makes_after (Some found) write own done = ends_after found own done

    comes_after :
        (installs : Option Installation) (write : Option LineWrite) (phase : Phase) → ComesBy g installs write phase old new → ComesBy g installs write phase first new
    comes_after None write phase came = leaves_after g first old new same later write (Err (stops.Halt ends.Device)) phase came
    comes_after (Some found) write phase (done, rose) = (ends_after found _ done, rose_after _ _ _ later rose)

    starves_after : (installs : Option Installation) → StarvesBy g installs old new → StarvesBy g installs first new
    starves_after None kept = same_join g first old new same kept
    starves_after (Some found) done = ends_after found 13 done

  -- one that began as disks were read
  pub carries_after :
      (effect : Effect) (status : ℕ) (left : List Key) (first : D) (old new : State D) → SameOf g first old.disks → g.faults first ≤ g.faults old.disks
      → Carries g effect status left old new → Carries g effect status left (record { disks = first; memory = old.memory; sink = old.sink; key_faults = old.key_faults }) new
  carries_after effect status left first old new same later (CarriedOut done is put) =
      CarriedOut done is (makes_after first old.disks new.disks same later effect.installs effect.write status put)
  carries_after effect status left first old new same later (LostBefore failed came) =
      LostBefore failed (comes_after first old.disks new.disks same later effect.installs effect.write Before came)
  carries_after effect status left first old new same later (LostAtCommit failed came) =
      LostAtCommit failed (comes_after first old.disks new.disks same later effect.installs effect.write Commit came)
  carries_after effect status left first old new same later (LostAfter failed came) =
      LostAfter failed (comes_after first old.disks new.disks same later effect.installs effect.write After came)
  carries_after effect status left first old new same later (Starved failed kept) =
      Starved failed (starves_after first old.disks new.disks same later effect.installs kept)
  carries_after effect status left first old new same later (Unheard failed rose kept) = Unheard failed rose (same_join g first old.disks new.disks same kept)

  -- ---- what disks hold

  -- what disks hold once a default line was written
  pub put_now :
      (old new : D) (write : Option LineWrite) → HasPut g old new write → IsTold (g.past old)
      → now (g.past new) ≡ image_with (now (g.past old)) write
  put_now old new None put told = ap now put.same_past
  put_now old new (Some write) put told = put.writes.written told

  -- and once a part was done
  pub makes_now :
      (old new : D) (effect : Effect) → Makes g effect 0 old new → IsTold (g.past old)
      → now (g.past new) ≡ image_after effect (now (g.past old))
  makes_now old new effect makes told = by effect.installs makes
    where
      by :
          (installs : Option Installation) → MakesBy g installs effect.write 0 old new
          → now (g.past new) ≡ image_by installs effect.write (now (g.past old))
      by None put = put_now old new effect.write put told
      by (Some found) done = done.ended

  -- a fact of what disks hold, in the words of what they held before
  pub told_here :
      (old mid : D) → g.size_of mid ≡ g.size_of old → g.geometry_of mid ≡ g.geometry_of old
      → (P : Image → Machine → Type 0) → OnDisks g mid P → IsTold (g.past mid) → P (now (g.past mid)) (machine_of g old)
  told_here old mid size geometry P told is = rw (size, geometry) at (told_now (g.past mid) (λ image. P image (machine_of g mid)) told is)

-- a part that answers 0 was shown
shown_by : (failed : Bool) (own : ℕ) → own ≡ 0 → answer_of own failed ≡ 0 → failed ≡ false
shown_by false own none zero = refl
shown_by true own none zero = absurd (let twelve : answer_of own true ≡ 12 = rw none refl in omega (arith, zero, twelve))

not_12 : (own : ℕ) → IsTrue (is_part_status own) → own ≢ 12
not_12 own known is = false≢true (rw is at known)

module _ {D I : Type 0} (g : Ghosts D) (i : sources.Ghosts I) (effect : Image → Part → Left → List Key → Effect) where
  -- what parts do over what disks hold
  abbrev pub effects_at : D → List Part → List Left → List Key → List Effect
  effects_at disks parts lefts keys = parts_effects effect (now (g.past disks)) parts lefts keys

  -- what parts did, by what they found out
  abbrev pub RunsParts : D → List Part → ℕ → List Key → List Key → State D → State D → Type 0
  RunsParts disks parts status keys left old new = (lefts : List Left) × Runs g (effects_at disks parts lefts keys) status keys left old new

  -- what the rest of the parts does is what is left of all of them, by keys
  abbrev pub ContinuesWith : List Part → List Part → List Key → List Key → State D → State D → Type 0
  ContinuesWith all rest keys keys' start here =
      (status : ℕ) (there : State D) (left : List Key) (lefts : List Left) → Runs g (effects_at here.disks rest lefts keys') status keys' left here there
      → RunsParts start.disks all status keys left start there

  -- whichever keys are left for the rest
  abbrev pub Continues : List Part → List Part → I → I → State D → State D → Type 0
  Continues all rest k0 k1 start here = OnKeys i (k0, k1) (λ keys keys'. ContinuesWith all rest keys keys' start here)

  -- a part was done, by what it found out
  abbrev pub CarriesOne : D → Part → ℕ → I → I → State D → State D → Type 0
  CarriesOne disks part own k1 k2 here there =
      OnKeys i (k1, k2) (λ keys left. (found : Left) × CarriesKeys g (effect (now (g.past disks)) part found keys) own left here there)

  pub continues_more :
      (all rest behind : List Part) (part : Part) (own : ℕ) (k0 k1 k2 : I) (start here there : State D)
      → Continues all rest k0 k1 start here → rest ≡ part ∷ behind
      → CarriesOne here.disks part own k1 k2 here there
      → IsTold (g.past here.disks) → answer_of own there.sink.failed ≡ 0 → Continues all behind k0 k2 start there
  continues_more all rest behind part own k0 k1 k2 start here there goes is does told zero = λ keys2 may.
      let none = zero_before own there.sink.failed zero in
      let (keys1, may1, one) = does keys2 may in
      let (found, carries) = one in
      let (keys0, may0, later) = goes keys1 may1 in
      let first = effect (now (g.past here.disks)) part found keys1 in
      let (done, kept, put) = done_with_zero g first own keys2 here there carries.does none in
      let passed : IsPassed g first here there = record { done = done; wrote = put; whole = shown_by there.sink.failed own none zero } in (
        keys0,
        may0,
        λ status last left lefts runs.
            let there_runs = subst (λ image. Runs g (parts_effects effect image behind lefts keys2) status keys2 left there last) (makes_now g here.disks there.disks first put told) runs in
            let next = subst (λ keys. Runs g (parts_effects effect (image_after first (now (g.past here.disks))) behind lefts keys) status keys left there last) (sym kept) there_runs in
            later status last left (found ∷ lefts) (rw is (inr (there, passed, next))),
      )

  pub continues_end :
      (all rest : List Part) (k0 k1 : I) (start here : State D) → Continues all rest k0 k1 start here → rest ≡ []
      → OnKeys i (k0, k1) (λ keys left. RunsParts start.disks all 0 keys left start here)
  continues_end all rest k0 k1 start here goes is = λ keys1 may.
      let (keys0, may0, later) = goes keys1 may in
      let over : IsOver 0 keys1 keys1 here here = record { zero = refl; memory = refl; kept = refl; sink = refl; disks = refl } in
      (keys0, may0, later 0 here keys1 [] (rw is over))

  pub continues_start : (all : List Part) (k : I) (start : State D) → Continues all all k k start start
  continues_start all k start = λ keys may. (keys, may, λ status there left lefts runs. (lefts, runs))

  pub continues_last :
      (all rest behind : List Part) (part : Part) (own status : ℕ) (k0 k1 k2 : I) (start here there : State D)
      → Continues all rest k0 k1 start here → rest ≡ part ∷ behind
      → CarriesOne here.disks part own k1 k2 here there
      → IsTrue (is_part_status own) → status ≡ answer_of own there.sink.failed → status ≢ 0
      → ((found : Left) (keys : List Key) → (effect (now (g.past here.disks)) part found keys).boots ≡ false → there.memory ≡ here.memory)
      → OnKeys i (k0, k2) (λ keys left. RunsParts start.disks all status keys left start there)
  continues_last all rest behind part own status k0 k1 k2 start here there goes is does known answer some quiet = λ keys2 may.
      let (keys1, may1, one) = does keys2 may in
      let (found, carries) = one in
      let (keys0, may0, later) = goes keys1 may1 in
      let ends : EndsAt g (effect (now (g.past here.disks)) part found keys1) status keys2 here there =
      record {
        own = own;
        does = carries.does;
        keys = carries.keys;
        answer = answer;
        some = some;
        own_not_12 = not_12 own known;
        quiet = quiet found keys1;
      } in
      (keys0, may0, later status there keys2 (found ∷ []) (rw is (inl ends)))

-- a status that the sink doesn't change
pub own_status : (own known : ℕ) (failed : Bool) → answer_of own failed ≡ known → known ≢ 12 → own ≡ known
own_status own known failed is other = by (own == 0) failed refl is
  where
    by : (first failed : Bool) → own == 0 ≡ first → answer_of own failed ≡ known → own ≡ known
    by true true zero is = absurd (other (let twelve : answer_of own true ≡ 12 = rw zero refl in sym is ∙ twelve))
    by true false zero is = let plain : answer_of own false ≡ own = rw zero refl in sym plain ∙ is
    by false failed zero is = let plain : answer_of own failed ≡ own = rw zero refl in sym plain ∙ is

-- nor does it that of a disk that failed
pub own_write_lost : (own status : ℕ) (failed : Bool) → status ≡ answer_of own failed → IsWriteLost status → IsWriteLost own
own_write_lost own status failed answer (inl is) = inl (own_status own 9 failed (sym answer ∙ is) (λ same. omega (arith, same)))
own_write_lost own status failed answer (inr is) = inr (own_status own 10 failed (sym answer ∙ is) (λ same. omega (arith, same)))

pub own_lost : (own status : ℕ) (failed : Bool) → status ≡ answer_of own failed → IsLost status → IsLost own
own_lost own status failed answer (inl is) = inl (own_status own 8 failed (sym answer ∙ is) (λ same. omega (arith, same)))
own_lost own status failed answer (inr lost) = inr (own_write_lost own status failed answer lost)

-- where such a part ended as a disk failed, it did before it wrote
module _ (status : ℕ) (lost : IsLost status) where
  pub plain_lost : IsTrue (is_plain_status status) → status ≡ 8
  plain_lost known = by lost
    where
      by : IsLost status → status ≡ 8
      by (inl eight) = eight
      by (inr (inl nine)) = absurd (false≢true (rw nine at known))
      by (inr (inr ten)) = absurd (false≢true (rw ten at known))

  pub conf_part_lost : IsTrue (is_conf_status status) → status ≡ 8
  conf_part_lost known = by lost
    where
      by : IsLost status → status ≡ 8
      by (inl eight) = eight
      by (inr (inl nine)) = absurd (false≢true (rw nine at known))
      by (inr (inr ten)) = absurd (false≢true (rw ten at known))

  pub test_lost : IsTrue (is_test_status status) → status ≡ 8
  test_lost known = by lost
    where
      by : IsLost status → status ≡ 8
      by (inl eight) = eight
      by (inr (inl nine)) = absurd (false≢true (rw nine at known))
      by (inr (inr ten)) = absurd (false≢true (rw ten at known))

-- nor does such a part end as the source of keys failed
pub plain_heard : (status : ℕ) → IsTrue (is_plain_status status) → status ≡ 11 → ⊥
plain_heard status known is = false≢true (rw is at known)

pub conf_part_heard : (status : ℕ) → IsTrue (is_conf_status status) → status ≡ 11 → ⊥
conf_part_heard status known is = false≢true (rw is at known)

pub install_heard : (status : ℕ) → IsTrue (is_install_status status) → status ≡ 11 → ⊥
install_heard status known is = false≢true (rw is at known)

pub test_heard : (status : ℕ) → IsTrue (is_test_status status) → status ≡ 11 → ⊥
test_heard status known is = false≢true (rw is at known)

-- ---- what is known whatever disks hold

zero_at :
    (none : Bool) → IfSome {T = ℕ} (cond none (Some 3) None) (λ status. 0 ≡ status)
    → ◌≡◌ {A = Option ℕ} (cond none (Some 3) None) None
zero_at true is = absurd (omega (arith, is))
zero_at false is = refl

zero_status : (size_of : ℕ → ℕ) (command : Command) → IfSome (early_status size_of command) (λ status. 0 ≡ status) → early_status size_of command ≡ None
unfolding early_status
zero_status size_of words.Install is = refl
zero_status size_of words.Test is = refl
zero_status size_of (words.Query None) is = refl
zero_status size_of (words.Query (Some device)) is = zero_at (size_of device.disk == 0) is
zero_status size_of (words.SetLine line) is = refl
zero_status size_of (words.Restore device) is = zero_at (size_of device.disk == 0) is
zero_status size_of (words.Boot device dump) is = zero_at (size_of device.disk == 0) is

-- the loop is at the first part, or nothing is known of it but what it does
abbrev pub Begun : (ℕ → ℕ) → List Part → Option ℕ → Type 0
Begun size_of all next = (next ≡ Some 0) ⊎ (early_parts size_of all ≡ None)

pub begun_more :
    (size_of : ℕ → ℕ) (all behind : List Part) (part : Part) (from own : ℕ) (failed : Bool) (next : Option ℕ)
    → Begun size_of all (Some from) → (from ≡ 0 → all ≡ part ∷ behind)
    → IfSome (early_status size_of part.command) (λ known. own ≡ known) → answer_of own failed ≡ 0 → Begun size_of all next
unfolding early_parts
begun_more size_of all behind part from own failed next (inl first) is early answer =
    let zero : from ≡ 0 = cc in
    let none = zero_before own failed answer in
    let known = subst (λ answered. IfSome (early_status size_of part.command) (λ known. answered ≡ known)) none early in
    inr (rw (is zero) (zero_status size_of part.command known))
begun_more size_of all behind part from own failed next (inr later) is early answer = inr later

early_answered_by :
    (first failed : Bool) (size_of : ℕ → ℕ) (command : Command) (own : ℕ) → own == 0 ≡ first
    → IfSome (early_status size_of command) (λ known. own ≡ known)
    → IfSome (early_status size_of command) (λ known. answer_of own failed ≡ known)
early_answered_by true failed size_of command own is known =
    let zero = eqb-true own 0 is in
    let none = zero_status size_of command (subst (λ answer. IfSome (early_status size_of command) (λ known. answer ≡ known)) zero known) in
    rw none tt
early_answered_by false failed size_of command own is known = let plain : answer_of own failed ≡ own = rw is refl in rw plain known

pub begun_last :
    (size_of : ℕ → ℕ) (all behind : List Part) (part : Part) (from own : ℕ) (failed : Bool)
    → Begun size_of all (Some from) → (from ≡ 0 → all ≡ part ∷ behind)
    → IfSome (early_status size_of part.command) (λ known. own ≡ known)
    → IfSome (early_parts size_of all) (λ known. answer_of own failed ≡ known)
unfolding early_parts
begun_last size_of all behind part from own failed (inl first) is early =
    let zero : from ≡ 0 = cc in rw (is zero) (early_answered_by (own == 0) failed size_of part.command own refl early)
begun_last size_of all behind part from own failed (inr later) is early = rw later tt

-- ---- memory and disks

-- without a boot the memory and the keys stay, and no part is left that boots
abbrev pub Stays : {I : Type 0} → List Part → List Part → I × List ℕ → I × List ℕ → Type 0
Stays all rest (k0, old) (k1, new) = has_boot all ≡ false → ((new ≡ old) × (k1 ≡ k0)) × (has_boot rest ≡ false)

-- without a part that may write the disks stay, and no such part is left
abbrev pub StaysUnwritten : {D : Type 0} → Ghosts D → List Part → List Part → D → D → Type 0
StaysUnwritten g all rest d0 d1 = has_write all ≡ false → SameOf g d0 d1 × (has_write rest ≡ false)

-- parts of which none works on after its write but where others do
abbrev pub AreLong : List Part → List Part → Type 0
AreLong all rest = has_work_on rest ≡ true → has_work_on all ≡ true

-- parts of which none may write but where others may
abbrev pub AreWrites : List Part → List Part → Type 0
AreWrites all rest = has_write rest ≡ true → has_write all ≡ true

some_by : (first rest : Bool) → first ≡ true → (first || rest) ≡ true
some_by true rest is = refl
some_by false rest is = absurd cc

some_later : (first rest : Bool) → rest ≡ true → (first || rest) ≡ true
some_later true rest is = refl
some_later false rest is = is

pub long_first : (all rest behind : List Part) (part : Part) → AreLong all rest → rest ≡ part ∷ behind → works_on part.command ≡ true → has_work_on all ≡ true
unfolding has_work_on
long_first all rest behind part are is long = are (rw is (some_by (works_on part.command) (has_work_on behind) long))

pub long_more : (all rest behind : List Part) (part : Part) → AreLong all rest → rest ≡ part ∷ behind → AreLong all behind
unfolding has_work_on
long_more all rest behind part are is long = are (rw is (some_later (works_on part.command) (has_work_on behind) long))

pub write_first : (all rest behind : List Part) (part : Part) → AreWrites all rest → rest ≡ part ∷ behind → is_write part.command ≡ true → has_write all ≡ true
unfolding has_write
write_first all rest behind part are is writes = are (rw is (some_by (is_write part.command) (has_write behind) writes))

pub write_more : (all rest behind : List Part) (part : Part) → AreWrites all rest → rest ≡ part ∷ behind → AreWrites all behind
unfolding has_write
write_more all rest behind part are is writes = are (rw is (some_later (is_write part.command) (has_write behind) writes))

none_by : (first rest : Bool) → (first || rest) ≡ false → (first ≡ false) × (rest ≡ false)
none_by true rest is = absurd cc
none_by false rest is = (refl, is)

pub no_boot_first : (part : Part) (parts : List Part) → has_boot (part ∷ parts) ≡ false → (is_boot part.command ≡ false) × (has_boot parts ≡ false)
unfolding has_boot
no_boot_first part parts is = none_by (is_boot part.command) (has_boot parts) is

no_write_first : (part : Part) (parts : List Part) → has_write (part ∷ parts) ≡ false → (is_write part.command ≡ false) × (has_write parts ≡ false)
unfolding has_write
no_write_first part parts is = none_by (is_write part.command) (has_write parts) is

pub stays_more :
    {I : Type 0} → (all rest behind : List Part) (part : Part) (k0 k1 k2 : I) (old mid new : List ℕ)
    → Stays all rest (k0, old) (k1, mid) → rest ≡ part ∷ behind → (is_boot part.command ≡ false → new ≡ mid) → (is_boot part.command ≡ false → k2 ≡ k1)
    → Stays all behind (k0, old) (k2, new)
stays_more all rest behind part k0 k1 k2 old mid new stays is quiet kept none =
    let before = stays none in
    let first = no_boot_first part behind (subst (λ parts. has_boot parts ≡ false) is before.1) in
    ((quiet first.0 ∙ before.0.0, kept first.0 ∙ before.0.1), first.1)

pub unwritten_more :
    {D : Type 0} → (g : Ghosts D) (all rest behind : List Part) (part : Part) (d0 d1 d2 : D)
    → StaysUnwritten g all rest d0 d1 → rest ≡ part ∷ behind → (is_write part.command ≡ false → SameOf g d1 d2) → StaysUnwritten g all behind d0 d2
unwritten_more g all rest behind part d0 d1 d2 stays is same none =
    let before = stays none in
    let first = no_write_first part behind (subst (λ parts. has_write parts ≡ false) is before.1) in
    (same_join g d0 d1 d2 before.0 (same first.0), first.1)

-- ---- arguments that are no run

pub usage_is :
    (words : List (List ℕ)) (wrong : Option ℕ) → run_at words ≡ Err wrong
    → usage_text words ≡ codes "lilo: usage: " ++ wrong_word words wrong ++ codes "\n"
unfolding usage_text
usage_is words wrong is = rw is refl

pub usage_runs :
    {D : Type 0} (g : Ghosts D) (image : Image) (machine : Machine) (size time : ℕ) (words : List (List ℕ)) (lefts : List Left) (keys : List Key) (wrong : Option ℕ) (disks : D) (memory : Memory)
    (key_faults : ℕ) (old new : SinkState)
    → run_at words ≡ Err wrong → Shows old (usage_text words) new
    → Runs g (effects_of image machine size time words lefts keys) 1 keys keys (record { disks = disks; memory = memory; sink = old; key_faults = key_faults }) (record { disks = disks; memory = memory; sink = new; key_faults = key_faults })
unfolding effects_of
usage_runs g image machine size time words lefts keys wrong disks memory key_faults old new is shown =
    rw is (inl (record {
      own = 1;
      does = CarriedOut (record { answer = refl; shown = shown; placed = λ zero. absurd (omega (arith, zero)) }) refl (same_self g disks);
      keys = all_last keys;
      answer = refl;
      some = λ zero. omega (arith, zero);
      own_not_12 = λ twelve. omega (arith, twelve);
      quiet = λ none. refl;
    }))
