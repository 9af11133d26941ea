-- Sectors that a run doesn't write.
use Rattle.std.proofs.Common.{◌≡◌, inl, inr, ⊎_elim, ℕ, false, List, [], ◌∷◌, ◌++◌, All, Option, None, Some, refl, sym, ◌∙◌, ap, subst, arith, append_assoc}
use Rattle.std.proofs.lemmas.Bool.{cases_Bool}
use Rattle.std.proofs.lemmas.List.{append_cancel_right}
use Rattle.std.proofs.lemmas.List.Elements.{All-append, All-cons, All-head, All-nil, All-tail}
use Rattle.disk_trait.specs.declared.event.Event.{Event}
use Rattle.disk_trait.specs.declared.event.Event.TheVariants.{Write, Flush}
use Rattle.disk_trait.specs.Past.{Image, Past, appended}
use Rattle.disk_trait.specs.Moments.{now, MayLeave, LeftOrWritten}
use Rattle.disk_trait.specs.Range.{IsOutside}
use Rattle.disk_trait.specs.NotWritten.{IsOther, IsElsewhere, continued, NotWritten, WritesNoOther, Untouched}
use Rattle.disk_trait.specs.Laws.{NotWrittenLaw, NotWrittenByOneLaw, IsWithin, NotWrittenByRangeLaw, NotWrittenJoinsLaw, NotWrittenStaysLaw}
use Rattle.disk_trait.proofs.MomentLemmas.{here, here_true, with_other, leaves_write, leaves_flush, leaves_same, leaves_weaker, leaves_join, MayAppend}
use Rattle.disk_trait.proofs.LawLemmas.{end_of_run_law}

-- no event
pub not_written_none : (past : Option Past) (d s : ℕ) → NotWritten past past d s
unfolding NotWritten
not_written_none None d s = tt
not_written_none (Some past) d s = ([], refl, All-nil (IsElsewhere d s))

-- one event
not_written_by : (event : Event) (past : Option Past) (d s : ℕ) → IsElsewhere d s event → NotWritten past (appended event past) d s
unfolding NotWritten
not_written_by event None d s other = tt
not_written_by event (Some past) d s other = (event ∷ [], refl, All-cons (IsElsewhere d s) event [] other (All-nil (IsElsewhere d s)))

pub not_written_write : (past : Option Past) (disk sector : ℕ) (bytes : List ℕ) (d s : ℕ) → IsOther disk sector d s → NotWritten past (appended (Write disk sector bytes) past) d s
not_written_write past disk sector bytes = not_written_by (Write disk sector bytes) past

pub not_written_flush : (past : Option Past) (d s : ℕ) → NotWritten past (appended Flush past) d s
not_written_flush past d s = not_written_by Flush past d s tt

-- a write or a flush that was made or not
pub not_written_made : (old new : Option Past) (disk sector : ℕ) (bytes : List ℕ) → MayAppend (Write disk sector bytes) old new → WritesNoOther disk sector old new
not_written_made old new disk sector bytes made d s other = ⊎_elim
    (λ is. subst (λ (p : Option Past). NotWritten old p d s) (sym is) (not_written_write old disk sector bytes d s other))
    (λ is. subst (λ (p : Option Past). NotWritten old p d s) (sym is) (not_written_none old d s))
    made

pub not_written_flushed : (old new : Option Past) → MayAppend Flush old new → (d s : ℕ) → NotWritten old new d s
not_written_flushed old new made d s = ⊎_elim
    (λ is. subst (λ (p : Option Past). NotWritten old p d s) (sym is) (not_written_flush old d s))
    (λ is. subst (λ (p : Option Past). NotWritten old p d s) (sym is) (not_written_none old d s))
    made

-- two runs in a row
continued_twice : (past : Past) (newer next : List Event) → continued next (continued newer past) ≡ continued (next ++ newer) past
continued_twice past newer next = ap (λ (events : List Event). record past { events = events }) (sym (append_assoc next newer past.events))

pub not_written_join : NotWrittenJoinsLaw
unfolding NotWritten
not_written_join None None None d s first next = tt
not_written_join None None (Some new) d s first next = absurd next
not_written_join None (Some mid) new d s first next = absurd first
not_written_join (Some old) None new d s first next = absurd first
not_written_join (Some old) (Some mid) None d s first next = absurd next
not_written_join (Some old) (Some mid) (Some new) d s first next = (
  next.0 ++ first.0,
  next.1 ∙ ap (continued next.0) first.1 ∙ continued_twice old first.0 next.0,
  All-append (IsElsewhere d s) next.0 first.0 next.2 first.2,
)

-- NotWritten in other words
pub not_written_law : NotWrittenLaw
unfolding NotWritten
not_written_law past newer d s = (
  (λ run. subst (All (IsElsewhere d s)) (sym (append_cancel_right newer run.0 past.events (ap (λ (p : Past). p.events) run.1))) run.2),
  (λ all. (newer, refl, all)),
)

pub not_written_by_one_law : NotWrittenByOneLaw
not_written_by_one_law past disk sector bytes d s = (not_written_write past disk sector bytes d s, not_written_flush past d s, not_written_none past d s)

-- neighbouring sectors
within_is_elsewhere : (disk start count d s : ℕ) (event : Event) → IsWithin disk start count event → IsOutside disk start count d s → IsElsewhere d s event
within_is_elsewhere disk start count d s (Write at sector bytes) within (inl other) = inl (λ same. other (same ∙ within.0))
within_is_elsewhere disk start count d s (Write at sector bytes) within (inr (inl before)) = inr (λ same. absurd (omega (arith, before, within.1, same)))
within_is_elsewhere disk start count d s (Write at sector bytes) within (inr (inr after)) = inr (λ same. absurd (omega (arith, after, within.2, same)))
within_is_elsewhere disk start count d s Flush within out = tt

pub not_written_by_range_law : NotWrittenByRangeLaw
not_written_by_range_law past newer disk start count d s within out =
    (not_written_law past newer d s).1 (λ k event inside. within_is_elsewhere disk start count d s _ (within k event inside) out)

-- what stays

other_here : (disk sector d s : ℕ) → IsOther disk sector d s → here disk sector d s ≡ false
other_here disk sector d s other = ⊎_elim
    (λ is. let both = here_true disk sector d s is in absurd (⊎_elim (λ apart. apart (sym both.0)) (λ apart. apart (sym both.1)) other))
    (λ is. is)
    (cases_Bool (here disk sector d s))

untouched_write : (past : Option Past) (disk sector : ℕ) (bytes : List ℕ) (d s : ℕ) → IsOther disk sector d s → Untouched past (appended (Write disk sector bytes) past) d s
untouched_write past disk sector bytes d s other = record {
  stays = λ held was. leaves_weaker past (appended (Write disk sector bytes) past) (LeftOrWritten past disk sector bytes) (λ c. c d s ≡ held)
      (leaves_write past disk sector bytes)
      (λ c left. ⊎_elim
      (λ same. ap (λ (image : Image). image d s) same ∙ was left.0 left.1)
      (λ written. ap (λ (image : Image). image d s) written ∙ with_other left.0 disk sector bytes d s (other_here disk sector d s other) ∙ was left.0 left.1)
      left.2);
}

untouched_flush : (past : Option Past) (d s : ℕ) → Untouched past (appended Flush past) d s
untouched_flush past d s = record { stays = λ held was. leaves_weaker past (appended Flush past) (MayLeave past) (λ c. c d s ≡ held) (leaves_flush past) was }

pub untouched_join : (old mid new : Option Past) (d s : ℕ) → Untouched old mid d s → Untouched mid new d s → Untouched old new d s
untouched_join old mid new d s first next = record {
  stays = λ held was. leaves_join old mid new (λ c. c d s ≡ held) (first.stays held was)
      (next.stays held (end_of_run_law (λ c. c d s ≡ held) old mid (first.stays held was)));
}

untouched_none : (past : Option Past) (d s : ℕ) → Untouched past past d s
untouched_none past d s = record { stays = λ held was. leaves_weaker past past (MayLeave past) (λ c. c d s ≡ held) (leaves_same past) was }

-- events that don't write the sector
untouched_by : (past : Past) (newer : List Event) (d s : ℕ) → All (IsElsewhere d s) newer → Untouched (Some past) (Some (continued newer past)) d s
untouched_by past [] d s all = untouched_none (Some past) d s
untouched_by past (Write disk sector bytes ∷ newer) d s all = untouched_join (Some past) (Some (continued newer past)) (Some (continued (Write disk sector bytes ∷ newer) past)) d s
    (untouched_by past newer d s (All-tail (IsElsewhere d s) (Write disk sector bytes) newer all))
    (untouched_write (Some (continued newer past)) disk sector bytes d s (All-head (IsElsewhere d s) (Write disk sector bytes) newer all))
untouched_by past (Flush ∷ newer) d s all = untouched_join (Some past) (Some (continued newer past)) (Some (continued (Flush ∷ newer) past)) d s
    (untouched_by past newer d s (All-tail (IsElsewhere d s) Flush newer all))
    (untouched_flush (Some (continued newer past)) d s)

now_by : (past : Past) (newer : List Event) (d s : ℕ) → All (IsElsewhere d s) newer → now (Some (continued newer past)) d s ≡ now (Some past) d s
unfolding now
now_by past [] d s all = refl
now_by past (Write disk sector bytes ∷ newer) d s all =
    with_other (now (Some (continued newer past))) disk sector bytes d s (other_here disk sector d s (All-head (IsElsewhere d s) (Write disk sector bytes) newer all))
    ∙ now_by past newer d s (All-tail (IsElsewhere d s) (Write disk sector bytes) newer all)
now_by past (Flush ∷ newer) d s all = now_by past newer d s (All-tail (IsElsewhere d s) Flush newer all)

pub not_written_stays : NotWrittenStaysLaw
unfolding NotWritten
not_written_stays None None d s run = (refl, untouched_none None d s)
not_written_stays None (Some new) d s run = absurd run
not_written_stays (Some old) None d s run = absurd run
not_written_stays (Some old) (Some new) d s run = subst
    (λ (past : Past). (now (Some past) d s ≡ now (Some old) d s) × Untouched (Some old) (Some past) d s)
    (sym run.1)
    (now_by old run.0 d s run.2, untouched_by old run.0 d s run.2)
