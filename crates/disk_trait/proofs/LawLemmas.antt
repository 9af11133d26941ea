-- The laws of moments.
use Rattle.std.proofs.Common.{◌≡◌, inl, inr, ⊎_elim, ℕ, zero, suc, ◌+◌, ◌-◌, ◌<◌, ◌≤◌, List, [], ◌∷◌, ◌++◌, length, take, drop, slice_get, All, Option, None, Some, refl, sym, ◌∙◌, ap, subst, arith, length-append, length-take-le, take-append-drop}
use Rattle.std.proofs.Math.Seq.{drop-append-add}
use Rattle.std.proofs.lemmas.Bool.{cases_lt}
use Rattle.std.proofs.lemmas.List.{drop-append-le}
use Rattle.disk_trait.specs.declared.event.Event.{Event}
use Rattle.disk_trait.specs.declared.event.Event.TheVariants.{Write, Flush}
use Rattle.disk_trait.specs.Past.{Image, Past, now_after, IsQuietAfter, MayHold, first_events}
use Rattle.disk_trait.specs.MemDisks.{WritesWholeSector}
use Rattle.disk_trait.specs.Moments.{IsTold, now, begun_after, begun, moment, MayLeave, LeftSince, IsQuiet, IsWholeImage}
use Rattle.disk_trait.specs.Laws.{HeldOrWritten, MayHoldLaw, LastMomentLaw, NowAndBegunLaw, QuietLaw, begun_anew, JoiningLaw, LeavesOnlyLaw, RunsJoinLaw, WeakerLaw, EndOfRunLaw, WholeLaw, UntoldLaw}
use Rattle.disk_trait.proofs.MomentLemmas.{may_hold_now, whole_with, at_now, first_all, left_now, leaves_join, leaves_weaker}

-- all that a stop may leave after some events
abbrev LeavesAfter : Image → List Event → Image → Type 0
LeavesAfter start events c = (d s : ℕ) → MayHold start events d s (c d s)

-- what was held at the last flush

may_hold_begun : (start : Image) (events : List Event) (d s : ℕ) → MayHold start events d s (begun_after start events d s)
may_hold_begun start [] d s = refl
may_hold_begun start (Write disk sector bytes ∷ older) d s = inr (may_hold_begun start older d s)
may_hold_begun start (Flush ∷ older) d s = refl

pub begun_left : (past : Option Past) → IsTold past → MayLeave past (begun past)
unfolding IsTold MayLeave begun
begun_left None told = absurd told
begun_left (Some past) told = may_hold_begun past.start past.events

pub quiet_begun : (past : Option Past) → IsTold past → IsQuiet past → begun past ≡ now past
quiet_begun past told quiet = quiet (begun past) (begun_left past told)

pub now_and_begun_law : NowAndBegunLaw
now_and_begun_law past told = (at_now past told, begun_left past told)

-- what a sector may hold, in other words

-- an event at its place among the newer ones, one event later
newer_by_one : (event : Event) (older : List Event) (at : ℕ) → ((event ≡ Flush) → ⊥) → ((i : ℕ) → i < at → slice_get older i ≡ Some Flush → ⊥) → (i : ℕ) → i < suc at → slice_get (event ∷ older) i ≡ Some Flush → ⊥
newer_by_one event older at other none zero lt is = let flush : event ≡ Flush = cc in other flush
newer_by_one event older at other none (suc i) lt is = none i (omega arith) is

is_no_flush : (d s : ℕ) (bytes : List ℕ) → Write d s bytes ≡ Flush → ⊥
is_no_flush d s bytes is = cc

held_or_written : (start : Image) (events : List Event) (d s : ℕ) (bytes : List ℕ) → MayHold start events d s bytes → HeldOrWritten start events d s bytes
held_or_written start [] d s bytes holds = inl holds
held_or_written start (Write disk sector new ∷ older) d s bytes (inl same) =
    let here : slice_get (Write disk sector new ∷ older) 0 ≡ Some (Write d s bytes) = ap₃ same.0 same.1 same.2 in inr (0, here, λ i lt is. omega arith)
  where
    ap₃ : disk ≡ d → sector ≡ s → bytes ≡ new → Some (Write disk sector new) ≡ Some (Write d s bytes)
    ap₃ at_disk at_sector held = cc
held_or_written start (Write disk sector new ∷ older) d s bytes (inr holds) = ⊎_elim
    (λ held. inl held)
    (λ written. inr (suc written.0, written.1, newer_by_one (Write disk sector new) older written.0 (is_no_flush disk sector new) written.2))
    (held_or_written start older d s bytes holds)
held_or_written start (Flush ∷ older) d s bytes holds = inl holds

may_hold_written : (start : Image) (events : List Event) (d s : ℕ) (bytes : List ℕ) (at : ℕ) → slice_get events at ≡ Some (Write d s bytes) → ((i : ℕ) → i < at → slice_get events i ≡ Some Flush → ⊥) → MayHold start events d s bytes
may_hold_written start [] d s bytes at is none = let no : None ≡ Some (Write d s bytes) = is in cc
may_hold_written start (Write disk sector new ∷ older) d s bytes zero is none = inl (same_disk is, same_sector is, same_bytes is)
  where
    same_disk : Some (Write disk sector new) ≡ Some (Write d s bytes) → disk ≡ d
    same_disk is = cc

    same_sector : Some (Write disk sector new) ≡ Some (Write d s bytes) → sector ≡ s
    same_sector is = cc

    same_bytes : Some (Write disk sector new) ≡ Some (Write d s bytes) → bytes ≡ new
    same_bytes is = cc
may_hold_written start (Write disk sector new ∷ older) d s bytes (suc at) is none = inr (may_hold_written start older d s bytes at is (λ i lt. none (suc i) (omega arith)))
may_hold_written start (Flush ∷ older) d s bytes zero is none = absurd (is_no_flush d s bytes (flush is))
  where
    flush : Some Flush ≡ Some (Write d s bytes) → Write d s bytes ≡ Flush
    flush is = cc
may_hold_written start (Flush ∷ older) d s bytes (suc at) is none = absurd (none 0 (omega arith) refl)

pub may_hold_law : MayHoldLaw
may_hold_law start events d s bytes = (
  held_or_written start events d s bytes,
  (λ held. ⊎_elim
      (λ same. subst (MayHold start events d s) (sym same) (may_hold_begun start events d s))
      (λ written. may_hold_written start events d s bytes written.0 written.1 written.2)
      held),
)

-- the last moment

pub last_moment_law : LastMomentLaw
unfolding MayLeave LeftSince moment
last_moment_law past c =
    let all : first_events (length past.events) past.events ≡ past.events = first_all (length past.events) past.events (omega arith) in
    let from = λ (left : LeavesAfter past.start past.events c). subst (λ (events : List Event). LeavesAfter past.start events c) (sym all) left in
    ((from, (λ left. subst (λ (events : List Event). LeavesAfter past.start events c) all left)), (left_now (Some past) c, (λ left. (length past.events, omega arith, omega arith, from left))))

since_now : (past : Option Past) (c : Image) → MayLeave past c → LeftSince past (moment past) c
unfolding MayLeave LeftSince moment
since_now None c left = left
since_now (Some past) c left = ((last_moment_law past c).1).1 left

-- a stop since a moment is one since any earlier one
since_earlier : (past : Option Past) (t u : ℕ) (c : Image) → t ≤ u → LeftSince past u c → LeftSince past t c
unfolding LeftSince
since_earlier None t u c le left = left
since_earlier (Some past) t u c le left = (left.0, omega arith, left.2, left.3)

-- quiet pasts

quiet_holds : (start : Image) (events : List Event) (d s : ℕ) (bytes : List ℕ) → IsQuietAfter events → MayHold start events d s bytes → bytes ≡ now_after start events d s
quiet_holds start [] d s bytes quiet holds = holds
quiet_holds start (Write disk sector new ∷ older) d s bytes quiet holds = absurd quiet
quiet_holds start (Flush ∷ older) d s bytes quiet holds = holds

pub quiet_law : QuietLaw
unfolding MayLeave now
quiet_law past quiet c left = λ i d s. quiet_holds past.start past.events d s (c d s) quiet (left d s) i

-- joining

now_after-append : (start : Image) (newer older : List Event) → now_after start (newer ++ older) ≡ now_after (now_after start older) newer
now_after-append start [] older = refl
now_after-append start (Write disk sector bytes ∷ newer) older = ap (λ (image : Image). now_after image (Write disk sector bytes ∷ [])) (now_after-append start newer older)
now_after-append start (Flush ∷ newer) older = now_after-append start newer older

module _ (start : Image) (older : List Event) (quiet : IsQuietAfter older) (d s : ℕ) (bytes : List ℕ) where
  joined : (newer : List Event) → MayHold start (newer ++ older) d s bytes → MayHold (now_after start older) newer d s bytes
  joined [] holds = quiet_holds start older d s bytes quiet holds
  joined (Write disk sector new ∷ newer) holds = ⊎_elim (λ same. inl same) (λ holds. inr (joined newer holds)) holds
  joined (Flush ∷ newer) holds = holds ∙ ap (λ (image : Image). image d s) (now_after-append start newer older)

  parted : (newer : List Event) → MayHold (now_after start older) newer d s bytes → MayHold start (newer ++ older) d s bytes
  parted [] holds = subst (MayHold start older d s) (sym holds) (may_hold_now start older d s)
  parted (Write disk sector new ∷ newer) holds = ⊎_elim (λ same. inl same) (λ holds. inr (parted newer holds)) holds
  parted (Flush ∷ newer) holds = holds ∙ sym (ap (λ (image : Image). image d s) (now_after-append start newer older))

-- the first k events are those of the first n that come after, and the first n
first_parts : (events : List Event) (n k : ℕ) → n ≤ k → first_events k events ≡ first_events (k - n) (take (length events - n) events) ++ first_events n events
first_parts events n k le =
    let whole : take (length events - n) events ++ drop (length events - n) events ≡ events = take-append-drop (length events - n) events in
    let long : length (take (length events - n) events) ≡ length events - n = length-take-le (length events - n) events (omega arith) in
    let same : length (take (length events - n) events) - (k - n) ≡ length events - k = omega (arith, long) in
    ap (λ (l : List Event). drop (length events - k) l) (sym whole)
    ∙ drop-append-le (length events - k) (take (length events - n) events) (drop (length events - n) events) (omega (arith, long))
    ∙ ap (λ (m : ℕ). drop m (take (length events - n) events) ++ drop (length events - n) events) (sym same)

pub joining_law : JoiningLaw
joining_law past n k c quiet le = (
  (λ left d s. joined past.start (first_events n past.events) quiet d s (c d s) (first_events (k - n) (begun_anew n past).events)
      (subst (λ (events : List Event). MayHold past.start events d s (c d s)) (first_parts past.events n k le) (left d s))),
  (λ left d s. subst (λ (events : List Event). MayHold past.start events d s (c d s)) (sym (first_parts past.events n k le))
      (parted past.start (first_events n past.events) quiet d s (c d s) (first_events (k - n) (begun_anew n past).events) (left d s))),
)

-- runs

first_of_continued : (newer events : List Event) (k : ℕ) → k ≤ length events → first_events k (newer ++ events) ≡ first_events k events
first_of_continued newer events k le =
    let long : length (newer ++ events) ≡ length newer + length events = length-append newer events in
    let same : length (newer ++ events) - k ≡ length newer + (length events - k) = omega (arith, long) in
    ap (λ (m : ℕ). drop m (newer ++ events)) same ∙ drop-append-add newer events (length events - k)

module _ (P : Image → Type 0) where
  pub leaves_only_law : LeavesOnlyLaw P
  unfolding LeftSince moment
  leaves_only_law past newer = (
    (λ run k c from to left. run.each c (k, from, to, left)),
    (λ all. record {
      later = omega (arith, length-append newer past.events);
      each = λ c left. all left.0 c left.1 left.2 left.3;
      before = λ t c le left. ⊎_elim
          (λ old. inl (left.0, left.1, omega arith, subst (λ (events : List Event). LeavesAfter past.start events c) (first_of_continued newer past.events left.0 (omega arith)) left.3))
          (λ new. inr (all left.0 c new left.2 left.3))
          (cases_lt left.0 (length past.events));
    }),
  )

  pub runs_join_law : RunsJoinLaw P
  runs_join_law old mid new = leaves_join old mid new P

  pub end_of_run_law : EndOfRunLaw P
  end_of_run_law old new run c left = run.each c (since_earlier new (moment old) (moment new) c run.later (since_now new c left))

pub weaker_law : (P Q : Image → Type 0) → WeakerLaw P Q
weaker_law P Q so old new run = leaves_weaker old new P Q run so

-- sectors of 512 bytes

older_write : (event : Event) (older : List Event) → All WritesWholeSector (event ∷ older) → All WritesWholeSector older
older_write event older writes k other lt = writes (suc k) other (omega arith)

newest_write : (event : Event) (older : List Event) → All WritesWholeSector (event ∷ older) → WritesWholeSector event
newest_write event older writes = writes 0 event (omega arith)

now_whole : (size_of : ℕ → ℕ) (start : Image) (events : List Event) → IsWholeImage size_of start → All WritesWholeSector events → IsWholeImage size_of (now_after start events)
now_whole size_of start [] whole writes = whole
now_whole size_of start (Write disk sector bytes ∷ older) whole writes = whole_with size_of (now_after start older) disk sector bytes (newest_write (Write disk sector bytes) older writes) (now_whole size_of start older whole (older_write (Write disk sector bytes) older writes))
now_whole size_of start (Flush ∷ older) whole writes = now_whole size_of start older whole (older_write Flush older writes)

held_whole : (size_of : ℕ → ℕ) (start : Image) (events : List Event) → IsWholeImage size_of start → All WritesWholeSector events → (d s : ℕ) → s < size_of d → (bytes : List ℕ) → MayHold start events d s bytes → length bytes ≡ 512
held_whole size_of start [] whole writes d s inside bytes held = ap length held ∙ whole d s inside
held_whole size_of start (Write disk sector new ∷ older) whole writes d s inside bytes held = ⊎_elim
    (λ same. ap length same.2 ∙ newest_write (Write disk sector new) older writes)
    (λ before. held_whole size_of start older whole (older_write (Write disk sector new) older writes) d s inside bytes before)
    held
held_whole size_of start (Flush ∷ older) whole writes d s inside bytes held = ap length held ∙ now_whole size_of start older whole (older_write Flush older writes) d s inside

pub whole_law : WholeLaw
unfolding MayLeave
whole_law past size_of whole writes c left d s inside = held_whole size_of past.start past.events whole writes d s inside (c d s) (left d s)

pub untold_law : UntoldLaw
unfolding MayLeave
untold_law size_of c left = absurd left
