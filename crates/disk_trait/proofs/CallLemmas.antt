-- What calls leave of disks, and calls in a row.
use Rattle.std.proofs.Common.{◌≡◌, ◌⊎◌, inl, inr, ⊎_elim, ℕ, ◌+◌, ◌<◌, ◌≤◌, List, [], length, Option, Result, Ok, Err, OnOk, OnErr, slice_index_or, refl, sym, ◌∙◌, ap, subst, arith}
use Rattle.disk_trait.specs.declared.event.Event.{Event}
use Rattle.disk_trait.specs.declared.event.Event.TheVariants.{Write, Flush}
use Rattle.disk_trait.specs.declared.disks.Disks.{Ghosts}
use Rattle.disk_trait.specs.Past.{Image, Past, with_sector, appended}
use Rattle.disk_trait.specs.Moments.{IsTold, now, begun, MayLeave, IsQuiet, LeftOrWritten, MayWrite, LeavesOnly, IsWholeImage, IsWhole, StaysWhole}
use Rattle.disk_trait.specs.NotWritten.{WritesNoOther}
use Rattle.disk_trait.specs.Range.{IsWritten, IsPartWritten, LeftOrPartWritten}
use Rattle.disk_trait.specs.Calls.{GoesOn, Reads, Writes, WritesRange, Flushes, EndsWithFlush}
use Rattle.disk_trait.proofs.MomentLemmas.{at_now, left_told, told_or_not, untold_same, leaves_weaker, leaves_join, MayAppend, now_write, now_made, left_made, leaves_made, now_flushed, left_flushed, leaves_flushed, quiet_flush, begun_flush, told_event, told_before_event, whole_same, whole_write, on_ok, ok_or_err}
use Rattle.disk_trait.proofs.RangeLemmas.{part_same, part_more, outside_is_other}
use Rattle.disk_trait.proofs.NotWrittenLemmas.{not_written_made, not_written_flushed, not_written_join}

on_err : {E : Type 0} (result : Result (Unit {0}) E) (P Q : Type 0) → OnErr result P → (P → Q) → OnErr result Q
on_err (Ok x) P Q holds so = tt
on_err (Err e) P Q holds so = so holds

-- what holds anyway holds where a call was answered so
pub on_ok_held : {E : Type 0} (result : Result (Unit {0}) E) (P : Type 0) → P → OnOk result P
on_ok_held (Ok x) P holds = holds
on_ok_held (Err e) P holds = tt

module _ {D : Type 0} (disks : Ghosts D) where
  -- What never changes, and the count of faults, after a call.
  pub record Stays (old new : D) : Type 0 where
    pub later : disks.faults old ≤ disks.faults new
    pub size : disks.size_of new ≡ disks.size_of old
    pub count : disks.count_of new ≡ disks.count_of old
    pub geometry : disks.geometry_of new ≡ disks.geometry_of old

  -- a call that made one event or none
  goes_on_by : (event : Event) (old new : D) → MayAppend event (disks.past old) (disks.past new)
      → (IsWhole (disks.size_of old) (disks.past old) → StaysWhole (disks.size_of old) (disks.past old) (disks.past new))
      → Stays old new → GoesOn disks old new
  goes_on_by event old new made whole stays = record {
    told = told_event event (disks.past old) (disks.past new) made;
    told_before = told_before_event event (disks.past old) (disks.past new) made;
    at_now = at_now (disks.past new);
    whole = whole;
    later = stays.later;
    size = stays.size;
    count = stays.count;
    geometry = stays.geometry;
  }

  pub goes_on_same : (old new : D) → disks.past new ≡ disks.past old → Stays old new → GoesOn disks old new
  goes_on_same old new same stays = goes_on_by Flush old new (inr same)
      (whole_same (disks.size_of old) (disks.past old) (disks.past new) (left_flushed (disks.past old) (disks.past new) (inr same)) (leaves_flushed (disks.past old) (disks.past new) (inr same)))
      stays

  pub goes_on_join : (old mid new : D) → GoesOn disks old mid → GoesOn disks mid new → GoesOn disks old new
  goes_on_join old mid new first next = record {
    told = λ it_is. next.told (first.told it_is);
    told_before = λ it_is. first.told_before (next.told_before it_is);
    at_now = next.at_now;
    whole = λ it_is. let before = first.whole it_is in let after = and_then before.after in record {
      after = after.after;
      any_moment = leaves_join (disks.past old) (disks.past mid) (disks.past new) (IsWholeImage (disks.size_of old)) before.any_moment after.any_moment;
    };
    later = omega (arith, first.later, next.later);
    size = next.size ∙ first.size;
    count = next.count ∙ first.count;
    geometry = next.geometry ∙ first.geometry;
  }
    where
      and_then : IsWhole (disks.size_of old) (disks.past mid) → StaysWhole (disks.size_of old) (disks.past mid) (disks.past new)
      and_then = subst (λ (size_of : ℕ → ℕ). IsWhole size_of (disks.past mid) → StaysWhole size_of (disks.past mid) (disks.past new)) first.size next.whole

  pub reads_same : (old new : D) → disks.past new ≡ disks.past old → Stays old new → Reads disks old new
  reads_same old new same stays = record {
    past = same;
    any_moment = leaves_flushed (disks.past old) (disks.past new) (inr same);
    untouched = not_written_flushed (disks.past old) (disks.past new) (inr same);
    goes_on = goes_on_same old new same stays;
  }

  module _ {E : Type 0} where
    pub writes_made : (old new : D) (disk sector : ℕ) (bytes : List ℕ) (result : Result (Unit {0}) E) → length bytes ≡ 512
        → MayAppend (Write disk sector bytes) (disks.past old) (disks.past new)
        → OnOk result (disks.past new ≡ appended (Write disk sector bytes) (disks.past old))
        → Stays old new → Writes disks old new disk sector bytes result
    writes_made old new disk sector bytes result long made ok stays = record {
      written = λ told. on_ok result _ _ ok (λ is. ap now is ∙ now_write (disks.past old) disk sector bytes told);
      made = now_made _ _ _ _ _ made;
      left = left_made _ _ _ _ _ made;
      any_moment = leaves_made _ _ _ _ _ made;
      others = not_written_made _ _ _ _ _ made;
      goes_on = goes_on_by (Write disk sector bytes) old new made
          (whole_write (disks.size_of old) (disks.past old) (disks.past new) disk sector bytes (left_made _ _ _ _ _ made) (leaves_made _ _ _ _ _ made) long)
          stays;
    }

    pub flushes_made : (old new : D) (result : Result (Unit {0}) E)
        → OnOk result (disks.past new ≡ appended Flush (disks.past old)) → OnErr result (disks.past new ≡ disks.past old)
        → Stays old new → Flushes disks old new result
    flushes_made old new result ok err stays = record {
      failed = err;
      same_now = now_flushed _ _ made;
      durable = on_ok result _ _ ok (λ is. ap begun is ∙ begun_flush (disks.past old));
      quiet = on_ok result _ _ ok (λ is. subst IsQuiet (sym is) (quiet_flush (disks.past old)));
      left = left_flushed _ _ made;
      any_moment = leaves_flushed _ _ made;
      untouched = not_written_flushed _ _ made;
      goes_on = goes_on_by Flush old new made (whole_same _ _ _ (left_flushed _ _ made) (leaves_flushed _ _ made)) stays;
    }
      where
        made : MayAppend Flush (disks.past old) (disks.past new)
        made = ok_or_err result _ _ ok err

    -- nothing was written, as where a call before was refused
    pub writes_none : (old new : D) (disk sector : ℕ) (bytes : List ℕ) (error : E) → disks.past new ≡ disks.past old → Stays old new → Writes disks old new disk sector bytes (Err error)
    writes_none old new disk sector bytes error same stays = record {
      written = λ told. tt;
      made = inr (ap now same);
      left = λ c left. as_before c (left_flushed (disks.past old) (disks.past new) (inr same) c left);
      any_moment = leaves_weaker (disks.past old) (disks.past new) (MayLeave (disks.past old)) (LeftOrWritten (disks.past old) disk sector bytes)
          (leaves_flushed (disks.past old) (disks.past new) (inr same)) as_before;
      others = λ d s other. not_written_flushed (disks.past old) (disks.past new) (inr same) d s;
      goes_on = goes_on_same old new same stays;
    }
      where
        as_before : (c : Image) → MayLeave (disks.past old) c → LeftOrWritten (disks.past old) disk sector bytes c
        as_before c left = (c, left, inl refl)

    -- a write after a call that only read
    pub writes_after : (old mid new : D) (disk sector : ℕ) (bytes : List ℕ) (result : Result (Unit {0}) E)
        → disks.past mid ≡ disks.past old → GoesOn disks old mid → Writes disks mid new disk sector bytes result → Writes disks old new disk sector bytes result
    writes_after old mid new disk sector bytes result same first next = record {
      written = subst (λ (p : Option Past). IsTold p → OnOk result (now (disks.past new) ≡ with_sector (now p) disk sector bytes)) same next.written;
      made = subst (λ (p : Option Past). (now (disks.past new) ≡ with_sector (now p) disk sector bytes) ⊎ (now (disks.past new) ≡ now p)) same next.made;
      left = subst (λ (p : Option Past). MayWrite disk sector bytes p (disks.past new)) same next.left;
      any_moment = subst (λ (p : Option Past). LeavesOnly p (disks.past new) (LeftOrWritten p disk sector bytes)) same next.any_moment;
      others = subst (λ (p : Option Past). WritesNoOther disk sector p (disks.past new)) same next.others;
      goes_on = goes_on_join old mid new first next.goes_on;
    }

    -- a write of bytes that are others where the past is known
    module _ (old new : D) (disk sector : ℕ) (from bytes : List ℕ) (result : Result (Unit {0}) E) (is : IsTold (disks.past old) → from ≡ bytes)
        (writes : Writes disks old new disk sector from result) where
      as_bytes : (c : Image) → LeftOrWritten (disks.past old) disk sector from c → LeftOrWritten (disks.past old) disk sector bytes c
      as_bytes c left = (left.0, left.1, subst (λ (b : List ℕ). (c ≡ left.0) ⊎ (c ≡ with_sector left.0 disk sector b)) (is (left_told (disks.past old) left.0 left.1)) left.2)

      -- a past that isn't known holds nothing, and stays so
      untold_now : (IsTold (disks.past old) → ⊥) → now (disks.past new) ≡ now (disks.past old)
      untold_now not = untold_same (disks.past old) (disks.past new) not (λ told. not (writes.goes_on.told_before told))

      pub writes_as : Writes disks old new disk sector bytes result
      writes_as = record {
        written = λ told. on_ok result _ _ (writes.written told) (λ at. subst (λ (b : List ℕ). now (disks.past new) ≡ with_sector (now (disks.past old)) disk sector b) (is told) at);
        made = ⊎_elim
            (λ told. subst (λ (b : List ℕ). (now (disks.past new) ≡ with_sector (now (disks.past old)) disk sector b) ⊎ (now (disks.past new) ≡ now (disks.past old))) (is told) writes.made)
            (λ not. inr (untold_now not))
            (told_or_not (disks.past old));
        left = λ c left. as_bytes c (writes.left c left);
        any_moment = leaves_weaker (disks.past old) (disks.past new) (LeftOrWritten (disks.past old) disk sector from) (LeftOrWritten (disks.past old) disk sector bytes) writes.any_moment as_bytes;
        others = writes.others;
        goes_on = writes.goes_on;
      }

    -- a written sector, and then a flush that was made or failed
    pub writes_flushed : (old mid new : D) (disk sector : ℕ) (bytes : List ℕ) (result : Result (Unit {0}) E)
        → Writes {E = E} disks old mid disk sector bytes (Ok tt) → Flushes disks mid new result → Writes disks old new disk sector bytes result
    writes_flushed old mid new disk sector bytes result first next = record {
      written = λ told. on_ok_held result _ (next.same_now ∙ first.written told);
      made = ⊎_elim (λ is. inl (next.same_now ∙ is)) (λ is. inr (next.same_now ∙ is)) first.made;
      left = λ c left. first.left c (next.left c left);
      any_moment = leaves_join (disks.past old) (disks.past mid) (disks.past new) (LeftOrWritten (disks.past old) disk sector bytes) first.any_moment
          (leaves_weaker (disks.past mid) (disks.past new) (MayLeave (disks.past mid)) (LeftOrWritten (disks.past old) disk sector bytes) next.any_moment first.left);
      others = λ d s other. not_written_join (disks.past old) (disks.past mid) (disks.past new) d s (first.others d s other) (next.untouched d s);
      goes_on = goes_on_join old mid new first.goes_on next.goes_on;
    }

    -- no sector of a range was written, as where the first one isn't there
    pub range_none : (old new : D) (disk start : ℕ) (sectors : List (List ℕ)) (error : E) → disks.past new ≡ disks.past old → Stays old new → WritesRange disks old new disk start sectors (Err error)
    range_none old new disk start sectors error same stays = record {
      written = λ told. tt;
      made = subst (λ (p : Option Past). IsPartWritten disk start sectors (now (disks.past old)) (now p)) (sym same) (part_same disk start sectors (now (disks.past old)));
      left = λ c left. as_before c (left_flushed (disks.past old) (disks.past new) (inr same) c left);
      any_moment = leaves_weaker (disks.past old) (disks.past new) (MayLeave (disks.past old)) (LeftOrPartWritten (disks.past old) disk start sectors)
          (leaves_flushed (disks.past old) (disks.past new) (inr same)) as_before;
      others = λ d s out. not_written_flushed (disks.past old) (disks.past new) (inr same) d s;
      goes_on = goes_on_same old new same stays;
    }
      where
        as_before : (c : Image) → MayLeave (disks.past old) c → LeftOrPartWritten (disks.past old) disk start sectors c
        as_before c left = (c, left, part_same disk start sectors c)

    -- the i-th sector of a range is written, or was to be
    pub range_more : (old mid new : D) (disk start : ℕ) (sectors : List (List ℕ)) (i : ℕ) (bytes : List ℕ) (so_far one more : Result (Unit {0}) E) → i < length sectors → bytes ≡ slice_index_or sectors i []
        → WritesRange disks old mid disk start sectors so_far → Writes disks mid new disk (start + i) bytes one
        → (IsTold (disks.past old) → OnOk more (IsWritten disk start sectors (length sectors) (now (disks.past old)) (now (disks.past new))))
        → WritesRange disks old new disk start sectors more
    range_more old mid new disk start sectors i bytes so_far one more lt is first next written = record {
      written = written;
      made = part_more disk start sectors i lt bytes is (now (disks.past old)) (now (disks.past mid)) (now (disks.past new)) first.made (⊎_elim (λ with. inr with) (λ as_before. inl as_before) next.made);
      left = λ c left. joined c (next.left c left);
      any_moment = leaves_join (disks.past old) (disks.past mid) (disks.past new) (LeftOrPartWritten (disks.past old) disk start sectors) first.any_moment
          (leaves_weaker (disks.past mid) (disks.past new) (LeftOrWritten (disks.past mid) disk (start + i) bytes) (LeftOrPartWritten (disks.past old) disk start sectors) next.any_moment joined);
      others = λ d s out. not_written_join (disks.past old) (disks.past mid) (disks.past new) d s (first.others d s out) (next.others d s (outside_is_other disk start (length sectors) i d s lt out));
      goes_on = goes_on_join old mid new first.goes_on next.goes_on;
    }
      where
        joined : (c : Image) → LeftOrWritten (disks.past mid) disk (start + i) bytes c → LeftOrPartWritten (disks.past old) disk start sectors c
        joined c from = let before = first.left from.0 from.1 in (before.0, before.1, part_more disk start sectors i lt bytes is before.0 from.0 c before.2 from.2)

    -- a written range, and then a flush that was made or failed
    pub range_flushed : (old mid new : D) (disk start : ℕ) (sectors : List (List ℕ)) (result : Result (Unit {0}) E)
        → WritesRange {E = E} disks old mid disk start sectors (Ok tt) → Flushes disks mid new result → WritesRange disks old new disk start sectors result
    range_flushed old mid new disk start sectors result first next = record {
      written = λ told. on_ok_held result _ (subst (IsWritten disk start sectors (length sectors) (now (disks.past old))) (sym next.same_now) (first.written told));
      made = subst (IsPartWritten disk start sectors (now (disks.past old))) (sym next.same_now) first.made;
      left = λ c left. first.left c (next.left c left);
      any_moment = leaves_join (disks.past old) (disks.past mid) (disks.past new) (LeftOrPartWritten (disks.past old) disk start sectors) first.any_moment
          (leaves_weaker (disks.past mid) (disks.past new) (MayLeave (disks.past mid)) (LeftOrPartWritten (disks.past old) disk start sectors) next.any_moment first.left);
      others = λ d s out. not_written_join (disks.past old) (disks.past mid) (disks.past new) d s (first.others d s out) (next.untouched d s);
      goes_on = goes_on_join old mid new first.goes_on next.goes_on;
    }

    -- the call before a flush failed
    pub no_flush : (old new : D) (error : E) → begun (disks.past new) ≡ begun (disks.past old) → EndsWithFlush disks old new (Err error)
    no_flush old new error same = record { quiet = tt; durable = tt; failed = same }

    -- the call before a flush was made, and the flush was made or failed
    pub ends_with_flush : (old mid new : D) (result : Result (Unit {0}) E) → begun (disks.past mid) ≡ begun (disks.past old) → Flushes disks mid new result → EndsWithFlush disks old new result
    ends_with_flush old mid new result same next = record {
      quiet = next.quiet;
      durable = on_ok result _ _ next.durable (λ is. is ∙ sym next.same_now);
      failed = on_err result _ _ next.failed (λ is. ap begun is ∙ same);
    }
