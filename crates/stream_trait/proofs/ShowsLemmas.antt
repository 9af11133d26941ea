-- Texts that are shown one after another.
use Rattle.std.proofs.Common.{◌≡◌, ◌≤◌, ◌==◌, ◌⊎◌, ◌∙◌, Bool, ℕ, inl, inr, true, false, List, [], ◌∷◌, ◌++◌, map, Option, None, Some, refl, sym, ap, subst, arith, append-nil}
use Rattle.std.proofs.lemmas.Bool.{cases_Bool, both_ways, eqb-true}
use Rattle.lilo_model.proofs.RoseLemmas.{rose_after, rose_still}
use Rattle.lilo_model.specs.Faults.{Rose}
use Rattle.stream_trait.specs.Sink.{Takes, TakesFront}
use Rattle.stream_trait.proofs.SinkLemmas.{Takes-trans, TakesFront-before, TakesFront-after}
use Rattle.stream_trait.specs.Shows.{SinkState, Shows, ShowsOne, HasFailed, Prints, PrintsOne, answer_of}

-- no text is shown by nothing at all
takes_nothing : (taken : Option (List ℕ)) → Takes taken [] taken
takes_nothing None = refl
takes_nothing (Some bytes) = ap (λ l. Some l) (sym (append-nil bytes))

pub shows_nothing : (a : SinkState) → Shows a [] a
shows_nothing a = record {
  later = omega arith;
  stays_failed = λ failed. failed;
  stays_taken = λ failed. refl;
  stays_counted = λ failed. refl;
  whole = λ fine. takes_nothing a.taken;
  uncounted = λ fine. refl;
  rose = λ fine failed. absurd (both_ways a.failed fine failed);
  front = λ fine failed. absurd (both_ways a.failed fine failed);
}

-- after a text that was shown, a sink that didn't fail hadn't failed before it either
fine_before : (a b : SinkState) (text : List ℕ) → Shows a text b → b.failed ≡ false → a.failed ≡ false
fine_before a b text shown fine =
    elim (cases_Bool a.failed) [
      | inl failed ↦ absurd (both_ways b.failed fine (shown.stays_failed failed))
      | inr before ↦ before
    ]

whole_of_both :
    (a b c : SinkState) (one other : List ℕ) → Shows a one b → Shows b other c → c.failed ≡ false
    → Takes a.taken (one ++ other) c.taken
whole_of_both a b c one other first second fine =
    Takes-trans a.taken b.taken c.taken one other (first.whole (fine_before b c other second fine)) (second.whole fine)

rose_of_both :
    (a b c : SinkState) (one other : List ℕ) → Shows a one b → Shows b other c → a.failed ≡ false → c.failed ≡ true
    → Rose a.faults c.faults
rose_of_both a b c one other first second fine failed =
    elim (cases_Bool b.failed) [
      | inl early ↦ λ below. let rose = first.rose fine early in let later = second.later in omega (arith, rose, later)
      | inr late ↦ λ below. let rose = second.rose late failed in let later = first.later in omega (arith, rose, later)
    ]

front_of_both :
    (a b c : SinkState) (one other : List ℕ) → Shows a one b → Shows b other c → a.failed ≡ false → c.failed ≡ true
    → TakesFront a.taken (one ++ other) c.taken
front_of_both a b c one other first second fine failed =
    elim (cases_Bool b.failed) [
      | inl early ↦ subst (λ taken. TakesFront a.taken (one ++ other) taken) (sym (second.stays_taken early))
          (TakesFront-before a.taken b.taken one other (first.front fine early))
      | inr late ↦ TakesFront-after a.taken b.taken c.taken one other (first.whole late) (second.front late failed)
    ]

-- a text, and then another
pub shows_join :
    (a b c : SinkState) (one other : List ℕ) → Shows a one b → Shows b other c → Shows a (one ++ other) c
shows_join a b c one other first second = record {
  later = let early = first.later in let late = second.later in omega (arith, early, late);
  stays_failed = λ failed. second.stays_failed (first.stays_failed failed);
  stays_taken = λ failed. let early = first.stays_taken failed in let late = second.stays_taken (first.stays_failed failed) in cc;
  stays_counted = λ failed. second.stays_counted (first.stays_failed failed) ∙ first.stays_counted failed;
  whole = whole_of_both a b c one other first second;
  uncounted = λ fine. second.uncounted fine ∙ first.uncounted (fine_before b c other second fine);
  rose = rose_of_both a b c one other first second;
  front = front_of_both a b c one other first second;
}

-- a text, and then one of some others
pub shows_one_join :
    (a b c : SinkState) (one : List ℕ) (texts : List (List ℕ))
    → Shows a one b → ShowsOne b texts c → ShowsOne a (map (λ text. one ++ text) texts) c
shows_one_join a b c one [] first second = second
shows_one_join a b c one (text ∷ texts) first (inl shown) = inl (shows_join a b c one text first shown)
shows_one_join a b c one (text ∷ texts) first (inr shown) = inr (shows_one_join a b c one texts first shown)

-- the same text, in another form
pub shows_same : (a b : SinkState) (one other : List ℕ) → one ≡ other → Shows a one b → Shows a other b
shows_same a b one other same shown = subst (λ text. Shows a text b) same shown

-- ---- failures

failed_by : (a b c : SinkState) → HasFailed a b → b.faults ≤ c.faults → b.failed ≡ true → (a.failed ≡ true) ⊎ Rose a.faults c.faults
failed_by a b c first later failed =
    elim (first.failed failed) [
      | inl old ↦ inl old
      | inr rose ↦ inr (rose_still a.faults b.faults c.faults rose later)
    ]

pub has_failed_twice : (a b c : SinkState) → HasFailed a b → HasFailed b c → HasFailed a c
has_failed_twice a b c first second = record {
  later = let one = first.later in let other = second.later in omega (arith, one, other);
  failed = λ failed. elim (second.failed failed) [
    | inl before ↦ failed_by a b c first second.later before
    | inr rose ↦ inr (rose_after a.faults b.faults c.faults first.later rose)
  ];
}

-- ---- the whole

prints_by :
    (failed : Bool) (old new : SinkState) (text : List ℕ) → new.failed ≡ failed → Shows old text new → old.failed ≡ false
    → Prints old.taken text new.taken old.faults new.faults
prints_by true old new text is shown fine = inr (shown.rose fine is, shown.front fine is)
prints_by false old new text is shown fine = inl (shown.whole is)

pub prints_of :
    (old new : SinkState) (text : List ℕ) → Shows old text new → old.failed ≡ false
    → Prints old.taken text new.taken old.faults new.faults
prints_of old new text shown fine = prints_by new.failed old new text refl shown fine

pub prints_one_of :
    (old new : SinkState) (texts : List (List ℕ)) → ShowsOne old texts new → old.failed ≡ false
    → PrintsOne old.taken texts new.taken old.faults new.faults
prints_one_of old new [] shown fine = shown
prints_one_of old new (text ∷ texts) (inl shown) fine = inl (prints_of old new text shown fine)
prints_one_of old new (text ∷ texts) (inr shown) fine = inr (prints_one_of old new texts shown fine)

-- a status, where the sink may have failed
pub answered :
    (first failed : Bool) (status given : ℕ) → status == 0 ≡ first → status ≡ given
    → (answer_of status failed ≡ given) ⊎ ((answer_of status failed ≡ 12) × (given ≡ 0))
answered true true status given zero is = let none = eqb-true status 0 zero in rw zero (inr (refl, sym is ∙ none))
answered true false status given zero is = rw zero (inl is)
answered false failed status given zero is = rw zero (inl is)

zero_before_by : (first failed : Bool) (status : ℕ) → status == 0 ≡ first → answer_of status failed ≡ 0 → status ≡ 0
zero_before_by true failed status is answer = eqb-true status 0 is
zero_before_by false failed status is answer = let plain : answer_of status failed ≡ status = rw is refl in sym plain ∙ answer

pub zero_before : (status : ℕ) (failed : Bool) → answer_of status failed ≡ 0 → status ≡ 0
zero_before status failed answer = zero_before_by (status == 0) failed status refl answer
