-- What one event changes in terms of moments, and how runs go on.
use Rattle.std.proofs.Common.{◌≡◌, ◌⊎◌, inl, inr, ⊎_elim, ℕ, suc, ◌-◌, ◌≤◌, ◌==◌, ◌&&◌, Bool, true, false, List, [], ◌∷◌, length, drop, Option, None, Some, OnOk, OnErr, Result, Ok, Err, refl, sym, ◌∙◌, ap, ap₂, subst, subst₂, arith}
use Rattle.std.proofs.lemmas.Bool.{cases_Bool, cases_lt, cond_both}
use Rattle.std.proofs.lemmas.Bool.Decides.{nat_tests}
use Rattle.disk_trait.specs.declared.event.Event.{Event}
use Rattle.disk_trait.specs.declared.event.Event.TheVariants.{Write, Flush}
use Rattle.disk_trait.specs.Past.{Image, Past, with_sector, now_after, MayHold, first_events, Told, appended}
use Rattle.disk_trait.specs.Moments.{IsTold, now, begun, moment, MayLeave, LeftSince, IsQuiet, LeftOrWritten, MayWrite, LeavesOnly, IsWholeImage, IsWhole, StaysWhole}

-- the test of with_sector
abbrev pub here : ℕ → ℕ → ℕ → ℕ → Bool
here disk sector d s = disk == d && sector == s

pub here_true : (disk sector d s : ℕ) → here disk sector d s ≡ true → (disk ≡ d) × (sector ≡ s)
here_true disk sector d s is = (grind (arith, nat_tests), grind (arith, nat_tests))

pub here_is : (disk sector d s : ℕ) → disk ≡ d → sector ≡ s → here disk sector d s ≡ true
here_is disk sector d s same_disk same_sector = grind (arith, nat_tests)

-- the sector that was written
pub with_same : (image : Image) (disk sector : ℕ) (bytes : List ℕ) (d s : ℕ) → here disk sector d s ≡ true → with_sector image disk sector bytes d s ≡ bytes
with_same image disk sector bytes d s is = rw is

-- any other sector
pub with_other : (image : Image) (disk sector : ℕ) (bytes : List ℕ) (d s : ℕ) → here disk sector d s ≡ false → with_sector image disk sector bytes d s ≡ image d s
with_other image disk sector bytes d s is = rw is

-- Now is one of the images that a stop may leave
pub may_hold_now : (start : Image) (events : List Event) (d s : ℕ) → MayHold start events d s (now_after start events d s)
may_hold_now start [] d s = refl
may_hold_now start (Write disk sector bytes ∷ older) d s = ⊎_elim
    (λ is. inl ((here_true disk sector d s is).0, (here_true disk sector d s is).1, with_same (now_after start older) disk sector bytes d s is))
    (λ is. inr (subst (MayHold start older d s) (sym (with_other (now_after start older) disk sector bytes d s is)) (may_hold_now start older d s)))
    (cases_Bool (here disk sector d s))
may_hold_now start (Flush ∷ older) d s = refl

pub at_now : (past : Option Past) → IsTold past → MayLeave past (now past)
unfolding IsTold MayLeave now
at_now None told = absurd told
at_now (Some past) told = may_hold_now past.start past.events

-- an event keeps it known

pub told_appended : (event : Event) (past : Option Past) → IsTold past → IsTold (appended event past)
unfolding IsTold
told_appended event None told = told
told_appended event (Some past) told = told

-- a write

pub now_write : (past : Option Past) (disk sector : ℕ) (bytes : List ℕ) → IsTold past → now (appended (Write disk sector bytes) past) ≡ with_sector (now past) disk sector bytes
unfolding IsTold now
now_write None disk sector bytes told = absurd told
now_write (Some past) disk sector bytes told = refl

pub begun_write : (past : Option Past) (disk sector : ℕ) (bytes : List ℕ) → begun (appended (Write disk sector bytes) past) ≡ begun past
unfolding begun
begun_write None disk sector bytes = refl
begun_write (Some past) disk sector bytes = refl

-- What a write may leave: the image before, or that with the sector written.
module _ (start : Image) (older : List Event) (disk sector : ℕ) (bytes : List ℕ) where
  pub other_holds : (d s : ℕ) (held : List ℕ) → here disk sector d s ≡ false → MayHold start (Write disk sector bytes ∷ older) d s held → MayHold start older d s held
  other_holds d s held other (inl same) = absurd (both_ways (here_is disk sector d s same.0 same.1))
    where
      both_ways : here disk sector d s ≡ true → ⊥
      both_ways is = let no : true ≡ false = sym is ∙ other in cc
  other_holds d s held other (inr holds) = holds

  -- the image before the write, where the sector holds the written bytes
  unwritten : Image → Image
  unwritten c = with_sector c disk sector (now_after start older disk sector)

  unwritten_left : (c : Image) → ((d s : ℕ) → MayHold start (Write disk sector bytes ∷ older) d s (c d s)) → (d s : ℕ) → MayHold start older d s (unwritten c d s)
  unfolding unwritten
  unwritten_left c left d s = ⊎_elim
      (λ is. let same = here_true disk sector d s is in
      subst (MayHold start older d s) (sym (with_same c disk sector (now_after start older disk sector) d s is ∙ ap₂ (now_after start older) same.0 same.1)) (may_hold_now start older d s))
      (λ is. subst (MayHold start older d s) (sym (with_other c disk sector (now_after start older disk sector) d s is)) (other_holds d s (c d s) is (left d s)))
      (cases_Bool (here disk sector d s))

  written_again : (c : Image) → c disk sector ≡ bytes → c ≡ with_sector (unwritten c) disk sector bytes
  unfolding unwritten
  written_again c is = λ i d s. same d s i
    where
      same : (d s : ℕ) → c d s ≡ with_sector (with_sector c disk sector (now_after start older disk sector)) disk sector bytes d s
      same d s = ⊎_elim
          (λ it_is. let place = here_true disk sector d s it_is in
          ap₂ c (sym place.0) (sym place.1) ∙ is ∙ sym (with_same (with_sector c disk sector (now_after start older disk sector)) disk sector bytes d s it_is))
          (λ other. sym (with_other (with_sector c disk sector (now_after start older disk sector)) disk sector bytes d s other ∙ with_other c disk sector (now_after start older disk sector) d s other))
          (cases_Bool (here disk sector d s))

  not_written : (c : Image) → ((d s : ℕ) → MayHold start (Write disk sector bytes ∷ older) d s (c d s)) → MayHold start older disk sector (c disk sector) → (d s : ℕ) → MayHold start older d s (c d s)
  not_written c left holds d s = ⊎_elim
      (λ is. let same = here_true disk sector d s is in subst₂ (λ (x y : ℕ). MayHold start older x y (c x y)) same.0 same.1 holds)
      (λ is. other_holds d s (c d s) is (left d s))
      (cases_Bool (here disk sector d s))

  left_or_written : (c : Image) → ((d s : ℕ) → MayHold start (Write disk sector bytes ∷ older) d s (c d s))
      → ((disk ≡ disk) × (sector ≡ sector) × (c disk sector ≡ bytes)) ⊎ MayHold start older disk sector (c disk sector)
      → (b : Image) × ((d s : ℕ) → MayHold start older d s (b d s)) × ((c ≡ b) ⊎ (c ≡ with_sector b disk sector bytes))
  left_or_written c left (inl new) = (unwritten c, unwritten_left c left, inr (written_again c new.2))
  left_or_written c left (inr holds) = (c, not_written c left holds, inl refl)

pub left_write : (past : Option Past) (disk sector : ℕ) (bytes : List ℕ) → MayWrite disk sector bytes past (appended (Write disk sector bytes) past)
unfolding MayLeave
left_write None disk sector bytes c left = absurd left
left_write (Some past) disk sector bytes c left = left_or_written past.start past.events disk sector bytes c left (left disk sector)

-- a flush

pub now_flush : (past : Option Past) → now (appended Flush past) ≡ now past
unfolding now
now_flush None = refl
now_flush (Some past) = refl

pub begun_flush : (past : Option Past) → begun (appended Flush past) ≡ now past
unfolding now begun
begun_flush None = refl
begun_flush (Some past) = refl

pub quiet_flush : (past : Option Past) → IsQuiet (appended Flush past)
unfolding now MayLeave
quiet_flush None c left = absurd left
quiet_flush (Some past) c left = λ i d s. left d s i

pub left_flush : (past : Option Past) (c : Image) → MayLeave (appended Flush past) c → MayLeave past c
unfolding MayLeave
left_flush None c left = left
left_flush (Some past) c left = λ d s. subst (MayHold past.start past.events d s) (sym (left d s)) (may_hold_now past.start past.events d s)

-- how runs go on

pub first_all : (k : ℕ) (events : List Event) → length events ≤ k → first_events k events ≡ events
first_all k events le = let none : length events - k ≡ 0 = omega arith in ap (λ (n : ℕ). drop n events) none

first_older : (k : ℕ) (event : Event) (events : List Event) → k ≤ length events → first_events k (event ∷ events) ≡ first_events k events
first_older k event events le = let one : length (event ∷ events) - k ≡ suc (length events - k) = omega arith in ap (λ (n : ℕ). drop n (event ∷ events)) one

-- a stop since this moment is a stop at it
pub left_now : (past : Option Past) (c : Image) → LeftSince past (moment past) c → MayLeave past c
unfolding LeftSince moment MayLeave
left_now None c left = left
left_now (Some past) c left = subst (λ (events : List Event). (d s : ℕ) → MayHold past.start events d s (c d s)) (first_all left.0 past.events left.1) left.3

-- a stop since t, one event later
left_later : (event : Event) (past : Option Past) (t : ℕ) (c : Image) → LeftSince (appended event past) t c → LeftSince past t c ⊎ MayLeave (appended event past) c
unfolding LeftSince MayLeave
left_later event None t c left = inl left
left_later event (Some past) t c left = ⊎_elim
    (λ lt. inl (left.0, left.1, omega arith, subst (λ (events : List Event). (d s : ℕ) → MayHold past.start events d s (c d s)) (first_older left.0 event past.events (omega arith)) left.3))
    (λ le. inr (subst (λ (events : List Event). (d s : ℕ) → MayHold past.start events d s (c d s)) (first_all left.0 (event ∷ past.events) (omega arith)) left.3))
    (cases_lt left.0 (length (event ∷ past.events)))

later : (event : Event) (past : Option Past) → moment past ≤ moment (appended event past)
unfolding moment
later event None = omega arith
later event (Some past) = omega arith

-- for a function that returns before its first call, or begins with a loop
pub ruleset at_entry = (at_now, left_now)

-- where an image is left, the past is known
pub left_told : (past : Option Past) (c : Image) → MayLeave past c → IsTold past
unfolding MayLeave IsTold
left_told None c left = left
left_told (Some past) c left = tt

pub told_or_not : (past : Option Past) → IsTold past ⊎ (IsTold past → ⊥)
unfolding IsTold
told_or_not None = inr (λ told. told)
told_or_not (Some past) = inl tt

-- pasts that aren't known hold the same
pub untold_same : (old new : Option Past) → (IsTold old → ⊥) → (IsTold new → ⊥) → now new ≡ now old
unfolding IsTold
untold_same None None old new = refl
untold_same None (Some past) old new = absurd (new tt)
untold_same (Some past) next old new = absurd (old tt)

-- before the first event
pub leaves_none : (past : Option Past) (P : Image → Type 0) → ((c : Image) → MayLeave past c → P c) → LeavesOnly past past P
leaves_none past P so = record { later = omega arith; each = λ c left. so c (left_now past c left); before = λ t c le left. inl left }

pub leaves_same : (past : Option Past) → LeavesOnly past past (MayLeave past)
leaves_same past = leaves_none past (MayLeave past) (λ c left. left)

-- one event
leaves_event : (event : Event) (past : Option Past) (P : Image → Type 0) → ((c : Image) → MayLeave past c → P c) → ((c : Image) → MayLeave (appended event past) c → P c) → LeavesOnly past (appended event past) P
leaves_event event past P first next = record {
  later = later event past;
  each = λ c left. ⊎_elim (λ old. first c (left_now past c old)) (next c) (left_later event past (moment past) c left);
  before = λ t c le left. ⊎_elim (λ old. inl old) (λ new. inr (next c new)) (left_later event past t c left);
}

pub leaves_write : (past : Option Past) (disk sector : ℕ) (bytes : List ℕ) → LeavesOnly past (appended (Write disk sector bytes) past) (LeftOrWritten past disk sector bytes)
leaves_write past disk sector bytes = leaves_event (Write disk sector bytes) past (LeftOrWritten past disk sector bytes) (λ c left. (c, left, inl refl)) (left_write past disk sector bytes)

pub leaves_flush : (past : Option Past) → LeavesOnly past (appended Flush past) (MayLeave past)
leaves_flush past = leaves_event Flush past (MayLeave past) (λ c left. left) (left_flush past)

pub leaves_weaker : (old new : Option Past) (P Q : Image → Type 0) → LeavesOnly old new P → ((c : Image) → P c → Q c) → LeavesOnly old new Q
leaves_weaker old new P Q run weaker = record {
  later = run.later;
  each = λ c left. weaker c (run.each c left);
  before = λ t c le left. ⊎_elim (λ before. inl before) (λ since. inr (weaker c since)) (run.before t c le left);
}

pub leaves_join : (old mid new : Option Past) (P : Image → Type 0) → LeavesOnly old mid P → LeavesOnly mid new P → LeavesOnly old new P
leaves_join old mid new P first next = record {
  later = omega (arith, first.later, next.later);
  each = λ c left. ⊎_elim (first.each c) (λ since. since) (next.before (moment old) c first.later left);
  before = λ t c le left. ⊎_elim (first.before t c le) (λ since. inr since) (next.before t c (omega (arith, le, first.later)) left);
}

-- sectors of 512 bytes

pub whole_with : (size_of : ℕ → ℕ) (image : Image) (disk sector : ℕ) (bytes : List ℕ) → length bytes ≡ 512 → IsWholeImage size_of image → IsWholeImage size_of (with_sector image disk sector bytes)
whole_with size_of image disk sector bytes long whole d s inside = cond_both (here disk sector d s) bytes (image d s) (λ (held : List ℕ). length held ≡ 512) (λ is. long) (λ is. whole d s inside)

pub whole_same : (size_of : ℕ → ℕ) (old new : Option Past) → ((c : Image) → MayLeave new c → MayLeave old c) → LeavesOnly old new (MayLeave old) → IsWhole size_of old → StaysWhole size_of old new
whole_same size_of old new left run whole = record {
  after = λ c may. whole c (left c may);
  any_moment = leaves_weaker old new (MayLeave old) (IsWholeImage size_of) run whole;
}

whole_written : (size_of : ℕ → ℕ) (old : Option Past) (disk sector : ℕ) (bytes : List ℕ) → length bytes ≡ 512 → IsWhole size_of old → (c : Image) → LeftOrWritten old disk sector bytes c → IsWholeImage size_of c
whole_written size_of old disk sector bytes long whole c from = ⊎_elim
    (λ as_before. subst (IsWholeImage size_of) (sym as_before) (whole from.0 from.1))
    (λ with. subst (IsWholeImage size_of) (sym with) (whole_with size_of from.0 disk sector bytes long (whole from.0 from.1)))
    from.2

pub whole_write : (size_of : ℕ → ℕ) (old new : Option Past) (disk sector : ℕ) (bytes : List ℕ) → MayWrite disk sector bytes old new → LeavesOnly old new (LeftOrWritten old disk sector bytes) → length bytes ≡ 512 → IsWhole size_of old → StaysWhole size_of old new
whole_write size_of old new disk sector bytes write run long whole = record {
  after = λ c left. whole_written size_of old disk sector bytes long whole c (write c left);
  any_moment = leaves_weaker old new (LeftOrWritten old disk sector bytes) (IsWholeImage size_of) run (whole_written size_of old disk sector bytes long whole);
}

-- what a call's answer says

pub on_ok : {T E : Type 0} (r : Result T E) (P Q : Type 0) → OnOk r P → (P → Q) → OnOk r Q
on_ok (Ok x) P Q holds so = so holds
on_ok (Err e) P Q holds so = holds

pub told_now : (past : Option Past) (P : Image → Type 0) → Told past P → IsTold past → P (now past)
unfolding IsTold now
told_now None P holds told = absurd told
told_now (Some past) P holds told = holds

pub ok_or_err : {T E : Type 0} (r : Result T E) (P Q : Type 0) → OnOk r P → OnErr r Q → P ⊎ Q
ok_or_err (Ok x) P Q ok err = inl ok
ok_or_err (Err e) P Q ok err = inr err

-- an event was appended, or nothing happened
abbrev pub MayAppend : Event → Option Past → Option Past → Type 0
MayAppend event old new = (new ≡ appended event old) ⊎ (new ≡ old)

-- what holds after an event and with none holds after a call that made it or not
by_cases : (event : Event) (old new : Option Past) (P : Option Past → Type 0) → MayAppend event old new → P (appended event old) → P old → P new
by_cases event old new P made after none = ⊎_elim (λ is. subst P (sym is) after) (λ is. subst P (sym is) none) made

pub told_event : (event : Event) (old new : Option Past) → MayAppend event old new → IsTold old → IsTold new
told_event event old new made told = by_cases event old new IsTold made (told_appended event old told) told

told_as_before : (event : Event) (past : Option Past) → IsTold (appended event past) → IsTold past
unfolding IsTold
told_as_before event None told = told
told_as_before event (Some past) told = told

pub told_before_event : (event : Event) (old new : Option Past) → MayAppend event old new → IsTold new → IsTold old
told_before_event event old new made = by_cases event old new (λ (p : Option Past). IsTold p → IsTold old) made (told_as_before event old) (λ told. told)

now_appended : (past : Option Past) (disk sector : ℕ) (bytes : List ℕ) → (now (appended (Write disk sector bytes) past) ≡ with_sector (now past) disk sector bytes) ⊎ (now (appended (Write disk sector bytes) past) ≡ now past)
unfolding now
now_appended None disk sector bytes = inr refl
now_appended (Some past) disk sector bytes = inl refl

-- a write that was made or not
module _ (old new : Option Past) (disk sector : ℕ) (bytes : List ℕ) (made : MayAppend (Write disk sector bytes) old new) where
  pub now_made : (now new ≡ with_sector (now old) disk sector bytes) ⊎ (now new ≡ now old)
  now_made = by_cases (Write disk sector bytes) old new (λ (p : Option Past). (now p ≡ with_sector (now old) disk sector bytes) ⊎ (now p ≡ now old)) made (now_appended old disk sector bytes) (inr refl)

  pub begun_made : begun new ≡ begun old
  begun_made = by_cases (Write disk sector bytes) old new (λ (p : Option Past). begun p ≡ begun old) made (begun_write old disk sector bytes) refl

  pub left_made : MayWrite disk sector bytes old new
  left_made = by_cases (Write disk sector bytes) old new (MayWrite disk sector bytes old) made (left_write old disk sector bytes) (λ c left. (c, left, inl refl))

  pub leaves_made : LeavesOnly old new (LeftOrWritten old disk sector bytes)
  leaves_made = by_cases (Write disk sector bytes) old new (λ (p : Option Past). LeavesOnly old p (LeftOrWritten old disk sector bytes)) made
      (leaves_write old disk sector bytes)
      (leaves_weaker old old (MayLeave old) (LeftOrWritten old disk sector bytes) (leaves_same old) (λ c left. (c, left, inl refl)))

-- a flush that was made or not
module _ (old new : Option Past) (made : MayAppend Flush old new) where
  pub now_flushed : now new ≡ now old
  now_flushed = by_cases Flush old new (λ (p : Option Past). now p ≡ now old) made (now_flush old) refl

  pub left_flushed : (c : Image) → MayLeave new c → MayLeave old c
  left_flushed = by_cases Flush old new (λ (p : Option Past). (c : Image) → MayLeave p c → MayLeave old c) made (left_flush old) (λ c left. left)

  pub leaves_flushed : LeavesOnly old new (MayLeave old)
  leaves_flushed = by_cases Flush old new (λ (p : Option Past). LeavesOnly old p (MayLeave old)) made (leaves_flush old) (leaves_same old)
