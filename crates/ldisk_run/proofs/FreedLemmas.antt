-- `reclaim`: its status and text, and what it leaves.
use Rattle.std.proofs.Common.{◌≡◌, ◌≢◌, ◌≤◌, ◌∙◌, inl, inr, ℕ, true, false, List, [], Option, Result, Ok, Err, IsErr, refl, sym, ap, subst, arith}
use Rattle.disk_trait.specs.declared.disks.Disks.{Ghosts}
use Rattle.disk_trait.specs.declared.disks.Span as declared
use Rattle.disk_trait.specs.Calls.{SameOf, GoesOn}
use Rattle.disk_trait.specs.Past.{Past, Image, Told}
use Rattle.disk_trait.specs.Moments.{IsTold, now, IsQuiet, LeavesOnly}
use Rattle.disk_trait.specs.NotWritten.{NotWritten}
use Rattle.disk_trait.proofs.CallLemmas.{goes_on_same, goes_on_join}
use Rattle.disk_trait.proofs.MomentLemmas.{leaves_none, leaves_weaker, told_now}
use Rattle.disk_trait.proofs.NotWrittenLemmas.{not_written_flushed}
use Rattle.disk_trait.proofs.ToldLemmas.{told_all, told_both}
use Rattle.lilo_model.specs.Checks.{◌>>=◌, with_fault}
use Rattle.lilo_model.specs.Devices as devices
use Rattle.lilo_model.specs.Disks.{Machine, Span}
use Rattle.lilo_model.specs.Faults.{Rose}
use Rattle.lilo_model.specs.LdiskVerdict.{Refusal, NoVolume, room_of, silent, volume_on}
use Rattle.lilo_model.specs.MinixNames.{IsSound}
use Rattle.lilo_model.specs.MinixParts.{Volume, ZoneFault, volume_at}
use Rattle.lilo_model.specs.Verdict.{Verdict}
use Rattle.mbr_table.specs.View.{span_view}
use Rattle.mbr_table.proofs.ToldLemmas.{told_before}
use Rattle.sector_address.specs.Machine.{OnDisks, machine_of}
use Rattle.ldisk_model.specs.Arguments.{Reclaim}
use Rattle.ldisk_model.specs.FileVerdict.{FileRefusal, NoRoom, checked_status, file_status, freed_at, reclaim_check}
use Rattle.ldisk_model.specs.Verdict.{command_verdict, freed_verdict, is_in_bitmaps, may_write, only_reads}
use Rattle.ldisk_model.specs.Waste as waste
use Rattle.ldisk_model.specs.Waste.{IsReclaiming}
use Rattle.minix_reclaim.specs.declared.waste.Freed.{Freed}
use Rattle.ldisk_files.specs.Freed.{GivesFreed, IsFreeing, IsFreed, FreesWaste}
use Rattle.ldisk_files.specs.Left.{HasSoundVolume}
use Rattle.ldisk_files.specs.declared.fault.FileFault.{FileFault}
use Rattle.ldisk_files.specs.declared.fault.FileFault.TheVariants as faults
use Rattle.ldisk_files.proofs.FreedLemmas.{held-freeing}
use Rattle.ldisk_run.specs.Left.{HasSoundOn, IsFreedOn, IsFreeingOn, LeavesBy}
use Rattle.ldisk_run.specs.Made as made
use Rattle.ldisk_run.specs.Made.{freed_line}
use Rattle.ldisk_run.specs.Pieces.{Held, Adds}
use Rattle.ldisk_run.specs.Run.{Halts, HasCause, DoesAs, status_of}
use Rattle.ldisk_run.specs.declared.halt.Halt.{Halt}
use Rattle.ldisk_run.specs.declared.halt.Halt.TheVariants.{Device, Refused}
use Rattle.ldisk_run.proofs.AddsLemmas.{adds_nothing, front_nothing}
use Rattle.ldisk_run.proofs.FileLemmas.{zero-of, refused-of, rose-of}
use Rattle.ldisk_run.proofs.MadeLemmas.{told_from}

-- ---- status and text

refused-room : (room : Result Span Refusal) (next : Span → Result waste.Freed FileRefusal) → IsErr room → freed_verdict (with_fault NoRoom room >>= next) ≡ silent 3
refused-room (Ok span) next refused = absurd cc
refused-room (Err refusal) next refused = refl

-- what was answered and printed goes with what was checked
freed-as : (check : Result waste.Freed FileRefusal) (result : Result Freed FileFault) (a b : Held) → GivesFreed check result → Adds a (freed_line result) b
    → DoesAs (freed_verdict check) (made.file_status result) a b
freed-as check (Ok freed) a b is added = rw is (inl (refl, added))
freed-as (Ok freed) (Err faults.Refused) a b is added = absurd cc
freed-as (Ok freed) (Err faults.BadLength) a b is added = absurd cc
freed-as (Ok freed) (Err faults.NoSpace) a b is added = absurd cc
freed-as (Err why) (Err faults.Refused) a b is added = inl (sym is, added)
freed-as (Err why) (Err faults.BadLength) a b is added = inl (sym is, added)
freed-as (Err why) (Err faults.NoSpace) a b is added = inl (sym is, added)
freed-as check (Err faults.Device) a b is added = inr (inl refl, ([], (freed_verdict check).text, refl, added))
freed-as check (Err faults.Memory) a b is added = inr (inr (inl refl), ([], (freed_verdict check).text, refl, added))

module _ (given : List ℕ) (sectors : ℕ) (image : Image) (machine : Machine) (device : devices.Device) where
  pub halted-freed : (halt : Halt) (a : Held) → Halts halt (room_of image machine device)
      → DoesAs (command_verdict image machine given sectors (Reclaim device)) (status_of (Err halt)) a a
  unfolding command_verdict reclaim_check
  halted-freed Refused a halts =
      let is = refused-room (room_of image machine device) (λ span. freed_at image span) halts in
      subst (λ (v : Verdict). DoesAs v 3 a a) (sym is) (inl (refl, adds_nothing a))
  halted-freed Device a halts = inr (inl refl, front_nothing a (freed_verdict (reclaim_check image machine device)).text)

  module _ (span : Span) (room : room_of image machine device ≡ Ok span) where
    by-room : command_verdict image machine given sectors (Reclaim device) ≡ freed_verdict (freed_at image span)
    unfolding command_verdict reclaim_check
    by-room = rw room refl

    pub done-freed : (result : Result Freed FileFault) (a b : Held) → GivesFreed (freed_at image span) result → Adds a (freed_line result) b
        → DoesAs (command_verdict image machine given sectors (Reclaim device)) (made.file_status result) a b
    done-freed result a b is added = subst (λ (v : Verdict). DoesAs v (made.file_status result) a b) (sym by-room) (freed-as (freed_at image span) result a b is added)

    -- where the verdict refuses, the count is refused
    refused-freed : (command_verdict image machine given sectors (Reclaim device)).status ≢ 0 → checked_status (freed_at image span) ≢ 0
    refused-freed some zero = some (ap (λ (v : Verdict). v.status) by-room ∙ by (freed_at image span) zero)
      where
        by : (check : Result waste.Freed FileRefusal) → checked_status check ≡ 0 → (freed_verdict check).status ≡ 0
        by (Ok freed) zero = refl
        by (Err why) zero = zero

    -- the bitmaps of the device are those of the volume there
    bitmaps-at : (d s : ℕ) → may_write image machine (Reclaim device) d s ≡ is_in_bitmaps (volume_at image span) d s
    unfolding may_write volume_on
    bitmaps-at d s = rw room (by (volume_at image span))
      where
        by : (found : Result Volume ZoneFault) → is_in_bitmaps (with_fault NoVolume found) d s ≡ is_in_bitmaps found d s
        by (Ok volume) = refl
        by (Err fault) = refl

-- ---- what is left

module _ (given : List ℕ) (time sectors : ℕ) (device : devices.Device) {D : Type 0} (disks : Ghosts D) where
  -- nothing was done
  module _ (old new : D) (same : SameOf disks old new) (later : disks.faults old ≤ disks.faults new) where
    unchanged : GoesOn disks old new
    unchanged = goes_on_same disks old new same.same_past record { later = later; size = same.same_size; count = same.same_count; geometry = same.same_geometry }

    module _ (status : ℕ) (some : status ≢ 0) (rose : status ≡ 8 → Rose (disks.faults old) (disks.faults new)) where
      nothing-freed : LeavesBy disks old new time given sectors (Reclaim device) status
      unfolding only_reads
      nothing-freed = record {
        done = told_all (disks.past old) _ (λ image is. absurd (some is));
        empty = told_all (disks.past old) _ (λ image is whole. tt);
        any_moment = λ quiet. told_all (disks.past old) _ (λ image. tt);
        freeing = λ quiet. told_from (disks.past old) _ (λ told sound.
            let I = now (disks.past old) in
            let M = machine_of disks old in
            subst (λ (past : Option Past). LeavesOnly (disks.past old) past (IsFreeingOn I M device)) (sym same.same_past)
            (leaves_none (disks.past old) (IsFreeingOn I M device) (λ c left.
            record { span = sound.span; room = sound.room; has = held-freeing sound.span I c sound.volume (quiet c left) })));
        partly = λ makes. absurd cc;
        quiet = λ is writes. absurd (some is);
        refused = λ is. same.same_past;
        unwritten = told_all (disks.past old) _ (λ image some. same.same_past);
        outside = told_all (disks.past old) _ (λ image d s out. not_written_flushed (disks.past old) (disks.past new) (inr same.same_past) d s);
        same = λ reads. absurd cc;
        goes_on = unchanged;
        device = rose;
      }

    pub halted-left : (halt : Halt) → HasCause (disks.faults old) (disks.faults new) halt → LeavesBy disks old new time given sectors (Reclaim device) (status_of (Err halt))
    halted-left Refused cause = nothing-freed 3 (omega arith) (λ is. absurd cc)
    halted-left Device cause = nothing-freed 8 (omega arith) (λ is. cause)

  -- what was done with the volume
  module _ (old mid new : D) (same : SameOf disks old mid) (later : disks.faults old ≤ disks.faults mid) (span : declared.Span) (result : Result Freed FileFault)
      (room : Told (disks.past old) (λ now. room_of now (machine_of disks old) device ≡ Ok (span_view span)))
      (frees : FreesWaste disks mid new (span_view span) result) where
    abbrev I : Image
    I = now (disks.past old)

    abbrev M : Machine
    M = machine_of disks old

    room-now : IsTold (disks.past old) → room_of I M device ≡ Ok (span_view span)
    room-now told = told_now (disks.past old) (λ now. room_of now M device ≡ Ok (span_view span)) room told

    told-mid : IsTold (disks.past old) → IsTold (disks.past mid)
    told-mid told = subst IsTold (sym same.same_past) told

    now-mid : now (disks.past mid) ≡ I
    now-mid = ap now same.same_past

    all-freed : IsTold (disks.past old) → made.file_status result ≡ 0 → IsFreedOn I M device (now (disks.past new))
    all-freed told is = record {
      span = span_view span;
      room = room-now told;
      has = subst (λ (i : Image). IsFreed (span_view span) i (now (disks.past new))) now-mid (zero-of result (frees.done (told-mid told)) is);
    }

    moment : IsTold (disks.past old) → IsQuiet (disks.past old) → HasSoundOn I M device → LeavesOnly (disks.past old) (disks.past new) (IsFreeingOn I M device)
    moment told quiet sound =
        let span-same : sound.span ≡ span_view span = let e = sym sound.room ∙ room-now told in cc in
        let volume : HasSoundVolume (span_view span) (now (disks.past mid)) =
        subst (λ (i : Image). HasSoundVolume (span_view span) i) (sym now-mid) (subst (λ (s : Span). HasSoundVolume s I) span-same sound.volume) in
        let run = frees.any_moment (subst IsQuiet (sym same.same_past) quiet) volume in
        leaves_weaker (disks.past old) (disks.past new) (IsFreeing (span_view span) (now (disks.past mid))) (IsFreeingOn I M device)
        (subst (λ (past : Option Past). LeavesOnly past (disks.past new) (IsFreeing (span_view span) (now (disks.past mid)))) same.same_past run)
        (λ c has. record { span = span_view span; room = room-now told; has = subst (λ (i : Image). IsFreeing (span_view span) i c) now-mid has })

    -- where the room is known
    unwritten-by : OnDisks disks old (λ image machine. (command_verdict image machine given sectors (Reclaim device)).status ≢ 0 → disks.past new ≡ disks.past old)
    unwritten-by = told_both (disks.past old) (λ now. room_of now M device ≡ Ok (span_view span))
        (λ now. checked_status (freed_at now (span_view span)) ≢ 0 → disks.past new ≡ disks.past mid) _
        (λ now is stay some. stay (refused-freed given sectors now M device (span_view span) is some) ∙ same.same_past)
        room
        (told_before (disks.past old) (disks.past mid) (λ now. checked_status (freed_at now (span_view span)) ≢ 0 → disks.past new ≡ disks.past mid) same.same_past frees.unwritten)

    outside-by : OnDisks disks old (λ image machine. (d s : ℕ) → may_write image machine (Reclaim device) d s ≡ false → NotWritten (disks.past old) (disks.past new) d s)
    outside-by = told_both (disks.past old) (λ now. room_of now M device ≡ Ok (span_view span))
        (λ now. (d s : ℕ) → is_in_bitmaps (volume_at now (span_view span)) d s ≡ false → NotWritten (disks.past mid) (disks.past new) d s) _
        (λ now is apart d s out.
        subst (λ (past : Option Past). NotWritten past (disks.past new) d s) same.same_past
        (apart d s (sym (bitmaps-at given sectors now M device (span_view span) is d s) ∙ out)))
        room
        (told_before (disks.past old) (disks.past mid)
        (λ now. (d s : ℕ) → is_in_bitmaps (volume_at now (span_view span)) d s ≡ false → NotWritten (disks.past mid) (disks.past new) d s) same.same_past frees.outside)

    pub freed-left : LeavesBy disks old new time given sectors (Reclaim device) (made.file_status result)
    unfolding only_reads
    freed-left = record {
      done = told_from (disks.past old) _ (λ told is. all-freed told is);
      empty = told_all (disks.past old) _ (λ image is whole. tt);
      any_moment = λ quiet. told_all (disks.past old) _ (λ image. tt);
      freeing = λ quiet. told_from (disks.past old) _ (λ told. moment told quiet);
      partly = λ makes. absurd cc;
      quiet = λ is writes. zero-of result frees.quiet is;
      refused = λ is. refused-of result frees.refused is ∙ same.same_past;
      unwritten = unwritten-by;
      outside = outside-by;
      same = λ reads. absurd cc;
      goes_on = goes_on_join disks old mid new (unchanged old mid same later) frees.goes_on;
      device = rose-of result (disks.faults old) (disks.faults mid) (disks.faults new) later frees.cause;
    }
