-- What a run reported, by what was done.
use Rattle.std.proofs.Common.{◌≡◌, ◌≢◌, ◌∙◌, ◌==◌, ℕ, inl, inr, Bool, true, false, List, [], ◌∷◌, Option, None, Some, refl, sym, ap, subst, append-nil}
use Rattle.std.proofs.lemmas.Bool.{eqb-true, ne_eqb}
use Rattle.lilo_model.specs.Place.{memory_after}
use Rattle.lilo_model.specs.Prompt.{Key}
use Rattle.stream_trait.specs.Sink.{Takes}
use Rattle.disk_trait.specs.declared.disks.Disks.{Ghosts}
use Rattle.stream_trait.specs.Shows.{answer_of, PrintsOne, ShowsOne}
use Rattle.stream_trait.proofs.ShowsLemmas.{prints_of, prints_one_of}
use Rattle.stream_trait.proofs.SinkLemmas.{Takes-trans}
use Rattle.lilo_run.specs.Run.{State, Scene, IsDone, Carries, CarriedOut, LostBefore, LostAtCommit, LostAfter, Starved, Unheard, EndsAt, Runs, Answers, Makes, Tells, TellsVerdict, TellsLost, TellsLostAtCommit, TellsLostAfter, TellsUnheard, TellsStarved, TellsCut, TellsPassed, TellsRun}
use Rattle.lilo_run.specs.Verdict.{Effect, run_verdict, run_left, run_written}
use Rattle.lilo_run.proofs.EffectLemmas.{memory_after-append}
use Rattle.lilo_run.proofs.RunLemmas.{done_with_zero}

-- what holds of four values holds of others that are the same
pub held_of_four :
    {J K A : Type 0} (P : J → K → A → A → Type 0) (first : J) (key : K) (one other : A) {first' : J} {key' : K} {one' other' : A} → P first key one other
    → first ≡ first' → key ≡ key' → one ≡ one' → other ≡ other' → P first' key' one' other'
held_of_four {J} {K} {A} P first key one other {first'} {key'} {one'} {other'} held firsts keys ones others =
    subst (P first' key' one') others (subst (λ x. P first' key' x other) ones (subst (λ k. P first' k one other) keys (subst (λ d. P d key one other) firsts held)))

takes_nothing : (taken : Option (List ℕ)) → Takes taken [] taken
takes_nothing None = refl
takes_nothing (Some bytes) = ap (λ l. Some l) (sym (append-nil bytes))

-- ---- the part at which a run ended

-- a moment as it is seen
abbrev pub seen : {D : Type 0} → State D → Scene D
seen state = record {
  disks = state.disks;
  memory = state.memory;
  taken = state.sink.taken;
  faults = state.sink.faults;
  key_faults = state.key_faults;
}

module _ {D : Type 0} (g : Ghosts D) where
  -- it was done, and its text is the verdict's, or with 12 a prefix of it
  cut_tells :
      (part : Effect) (status own : ℕ) (left : List Key) (old new : State D)
      → IsDone part own old.memory new.memory old.sink new.sink → part.left ≡ left → Makes g part own old.disks new.disks
      → status ≡ answer_of own new.sink.failed → status ≢ 0 → old.sink.failed ≡ false
      → (first failed : Bool) → own == 0 ≡ first → new.sink.failed ≡ failed → Tells g part status left (seen old) (seen new)
  cut_tells part status own left old new done is_left put answer some fine true true zero failed =
      let none = eqb-true own 0 zero in
      let twelve : status ≡ 12 = answer ∙ rw (none, failed) refl in
      TellsCut twelve (sym done.answer ∙ none) is_left (done.shown.rose fine failed) (done.shown.front fine failed)
      (subst (λ n. Makes g part n old.disks new.disks) none put)
  cut_tells part status own left old new done is_left put answer some fine true false zero shown =
      absurd (some (answer ∙ let none = eqb-true own 0 zero in rw (none, shown) refl))
  cut_tells part status own left old new done is_left put answer some fine false failed other is =
      let plain : answer_of own new.sink.failed ≡ own = rw other refl in
      TellsVerdict (answer ∙ plain ∙ done.answer) is_left
      (prints_of old.sink new.sink part.verdict.text done.shown fine)
      (subst (λ n. Makes g part n old.disks new.disks) (sym (answer ∙ plain)) put)

  end_tells :
      (part : Effect) (status : ℕ) (left : List Key) (old new : State D) → EndsAt g part status left old new
      → old.sink.failed ≡ false → Tells g part status left (seen old) (seen new)
  end_tells part status left old new ends fine = by ends.does
    where
      one : (texts : List (List ℕ)) → ShowsOne old.sink texts new.sink → PrintsOne old.sink.taken texts new.sink.taken old.sink.faults new.sink.faults
      one texts shown = prints_one_of old.sink new.sink texts shown fine

      own_is : (code : ℕ) → ends.own ≡ code → code == 0 ≡ false → status ≡ code
      own_is code is other = let same : answer_of ends.own new.sink.failed ≡ code = rw (is, other) refl in ends.answer ∙ same

      by : Carries g part ends.own left old new → Tells g part status left (seen old) (seen new)
      by (CarriedOut done is put) = cut_tells part status ends.own left old new done is put ends.answer ends.some fine (ends.own == 0) new.sink.failed refl refl
      by (LostBefore failed came) = TellsLost (own_is 8 failed.answer refl) (one part.failures failed.shown) came
      by (LostAtCommit failed came) = TellsLostAtCommit (own_is 9 failed.answer refl) (one part.at_commit failed.shown) came
      by (LostAfter failed came) = TellsLostAfter (own_is 10 failed.answer refl) (one part.after_commit failed.shown) came
      by (Starved failed same) = TellsStarved (own_is 13 failed.answer refl) (one part.starved failed.shown) same
      by (Unheard failed rose same) = TellsUnheard (own_is 11 failed.answer refl) (one part.unheard failed.shown) rose same

  -- with 12 memory has what it puts there
  end_placed :
      (part : Effect) (status : ℕ) (left : List Key) (old new : State D) → EndsAt g part status left old new → status ≡ 12
      → new.memory ≡ memory_after old.memory part.written
  end_placed part status left old new ends twelve = by (ends.own == 0) refl
    where
      by : (first : Bool) → ends.own == 0 ≡ first → new.memory ≡ memory_after old.memory part.written
      by true zero = (done_with_zero g part ends.own left old new ends.does (eqb-true ends.own 0 zero)).0.placed refl
      by false other =
          let plain : answer_of ends.own new.sink.failed ≡ ends.own = rw other refl in
          absurd (ends.own_not_12 (sym plain ∙ sym ends.answer ∙ twelve))

  -- ---- what a run told

  pub runs_tell :
      (parts : List Effect) (status : ℕ) (keys left : List Key) (old new : State D) → old.sink.failed ≡ false
      → Runs g parts status keys left old new → TellsRun g parts status keys left (seen old) (seen new)
  runs_tell [] status keys left old new fine over =
      record { zero = over.zero; memory = over.memory; kept = over.kept; taken = ap (λ state. state.taken) over.sink; disks = over.disks }
  runs_tell (part ∷ parts) status keys left old new fine (inl ends) =
      inl (record {
        some = ends.some;
        tells = end_tells part status left old new ends fine;
        keys = ends.keys;
        placed = end_placed part status left old new ends;
        quiet = ends.quiet;
      })
  runs_tell (part ∷ parts) status keys left old new fine (inr (mid, passed, runs)) =
      let told = runs_tell parts status part.left left mid new passed.whole runs in
      let first : TellsPassed g part (seen old) (seen mid) =
      record {
        zero = sym passed.done.answer;
        wrote = passed.wrote;
        placed = passed.done.placed refl;
        taken = passed.done.shown.whole passed.whole;
        later = passed.done.shown.later;
      } in
      inr (seen mid, first, told)

  pub told_answers :
      (parts : List Effect) (status : ℕ) (keys left : List Key) (old new : Scene D) → TellsRun g parts status keys left old new → Answers parts status
  told_answers [] status keys left old new none = inl none.zero
  told_answers (part ∷ parts) status keys left old new (inl ends) = by ends.tells
    where
      by : Tells g part status left old new → Answers (part ∷ parts) status
      by (TellsVerdict is kept printed put) =
          let other = ne_eqb part.verdict.status 0 (λ zero. ends.some (is ∙ zero)) in inl (rw other is)
      by (TellsLost is printed came) = inr (inl (inl is))
      by (TellsLostAtCommit is printed came) = inr (inl (inr (inl is)))
      by (TellsLostAfter is printed came) = inr (inl (inr (inr is)))
      by (TellsUnheard is printed rose same) = inr (inr (inl is))
      by (TellsStarved is printed same) = inr (inr (inr (inl is)))
      by (TellsCut is zero kept rose front put) = inr (inr (inr (inr (is, zero))))
  told_answers (part ∷ parts) status keys left old new (inr (mid, passed, told)) = by (told_answers parts status part.left left mid new told)
    where
      by : Answers parts status → Answers (part ∷ parts) status
      by (inl is) = inl (let zero = passed.zero in rw zero is)
      by (inr (inl is)) = inr (inl is)
      by (inr (inr (inl is))) = inr (inr (inl is))
      by (inr (inr (inr (inl is)))) = inr (inr (inr (inl is)))
      by (inr (inr (inr (inr (is, begun))))) = inr (inr (inr (inr (is, passed.zero))))

  pub told_whole :
      (parts : List Effect) (status : ℕ) (keys left : List Key) (old new : Scene D) → TellsRun g parts status keys left old new → status ≡ 0
      → Takes old.taken (run_verdict parts).text new.taken
  told_whole [] status keys left old new none done = let is = none.taken in rw is (takes_nothing old.taken)
  told_whole (part ∷ parts) status keys left old new (inl ends) done = absurd (ends.some done)
  told_whole (part ∷ parts) status keys left old new (inr (mid, passed, told)) done =
      let rest = told_whole parts status part.left left mid new told done in
      let zero = passed.zero in
      rw zero (Takes-trans old.taken mid.taken new.taken part.verdict.text (run_verdict parts).text passed.taken rest)

  pub told_placed :
      (parts : List Effect) (status : ℕ) (keys left : List Key) (old new : Scene D) → TellsRun g parts status keys left old new → status ≡ 0
      → new.memory ≡ memory_after old.memory (run_written parts)
  told_placed [] status keys left old new none done = none.memory
  told_placed (part ∷ parts) status keys left old new (inl ends) done = absurd (ends.some done)
  told_placed (part ∷ parts) status keys left old new (inr (mid, passed, told)) done =
      told_placed parts status part.left left mid new told done
      ∙ ap (λ memory. memory_after memory (run_written parts)) passed.placed
      ∙ sym (memory_after-append old.memory part.written (run_written parts))

  pub told_left :
      (parts : List Effect) (status : ℕ) (keys left : List Key) (old new : Scene D) → TellsRun g parts status keys left old new → status ≡ 0
      → run_left keys parts ≡ left
  told_left [] status keys left old new none done = none.kept
  told_left (part ∷ parts) status keys left old new (inl ends) done = absurd (ends.some done)
  told_left (part ∷ parts) status keys left old new (inr (mid, passed, told)) done = told_left parts status part.left left mid new told done

  -- ---- one part

  -- one part is a run by itself
  pub told_alone :
      (part : Effect) (status : ℕ) (keys left : List Key) (old new : Scene D) → TellsRun g (part ∷ []) status keys left old new
      → Tells g part status left old new
  told_alone part status keys left old new (inl ends) = ends.tells
  told_alone part status keys left old new (inr (mid, passed, none)) =
      TellsVerdict (none.zero ∙ sym passed.zero) none.kept (inl (none.taken ∙ passed.taken))
      (subst (λ n. Makes g part n old.disks new.disks) (sym none.zero)
      (subst (λ disks. Makes g part 0 old.disks disks) (sym none.disks) passed.wrote))
