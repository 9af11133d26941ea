-- The commands that change a name: their statuses, and what they leave.
use Rattle.std.proofs.Common.{◌≡◌, ◌≢◌, ◌≤◌, ◌∙◌, ◌==◌, nat_le, inl, inr, ℕ, Bool, true, false, List, Option, Some, None, Result, Ok, Err, IsErr, refl, sym, ap, subst, arith}
use Rattle.std.specs.Prelude.{IsTrue, OnOk, IfErr}
use Rattle.disk_trait.specs.declared.disks.Disks.{Ghosts}
use Rattle.disk_trait.specs.declared.disks.Span as declared
use Rattle.disk_trait.specs.Calls.{SameOf, GoesOn}
use Rattle.disk_trait.specs.Past.{Past, Image, Told}
use Rattle.disk_trait.specs.Moments.{IsTold, now, IsQuiet, LeavesOnly}
use Rattle.disk_trait.specs.NotWritten.{NotWritten}
use Rattle.disk_trait.specs.Range.{IsOutside}
use Rattle.disk_trait.proofs.CallLemmas.{goes_on_same, goes_on_join}
use Rattle.disk_trait.proofs.MomentLemmas.{leaves_none, leaves_weaker, told_now}
use Rattle.disk_trait.proofs.NotWrittenLemmas.{not_written_flushed}
use Rattle.disk_trait.proofs.ToldLemmas.{told_all, told_both}
use Rattle.lilo_model.specs.Checks.{◌>>=◌, with_fault}
use Rattle.lilo_model.specs.Devices as devices
use Rattle.lilo_model.specs.Disks.{Machine, Span}
use Rattle.lilo_model.specs.Faults.{Rose}
use Rattle.lilo_model.specs.LdiskVerdict.{Refusal, room_of, silent}
use Rattle.lilo_model.specs.Partitions.{TableFault, span_of}
use Rattle.mbr_table.specs.View.{span_view}
use Rattle.mbr_table.proofs.ToldLemmas.{told_before}
use Rattle.sector_address.specs.Machine.{OnDisks, machine_of}
use Rattle.ldisk_model.specs.Arguments.{Command, Put, Rm, Mkdir, Ln}
use Rattle.ldisk_model.specs.FileVerdict.{FileRefusal, NoRoom, NameChange, NewDirectory, NewLink, NewFile, volume_check, device_check, gone_check, made_check, removal, addition, checked_status}
use Rattle.ldisk_model.specs.Verdict.{command_verdict, is_in_found, may_write, name_change, only_reads}
use Rattle.lilo_model.specs.MinixParts.{Volume}
use Rattle.lilo_model.specs.Verdict.{Verdict}
use Rattle.ldisk_files.specs.Answer.{Answers, HasFileCause, IsUnwrittenAt, is_refusal as is_file_refusal}
use Rattle.ldisk_files.specs.Left.{HasSoundVolume, IsNamed, IsEither, LeavesNames}
use Rattle.ldisk_files.specs.declared.fault.FileFault.{FileFault}
use Rattle.ldisk_files.specs.declared.fault.FileFault.TheVariants as faults
use Rattle.ldisk_files.proofs.FreedLemmas.{is-outside}
use Rattle.ldisk_run.specs.Left.{AnswersAs, HasSoundOn, HasInodeOf, HasVolumeOf, IsAfter, IsChanged, IsChanging, LeavesBy, LeavesChanging, LeavesFreeing, freed_device, is_refusal, makes_image}
use Rattle.ldisk_run.specs.Made.{file_status}
use Rattle.ldisk_run.specs.Run.{Halts, HasCause, is_command_status, status_of}
use Rattle.ldisk_run.specs.declared.halt.Halt.{Halt}
use Rattle.ldisk_run.specs.declared.halt.Halt.TheVariants.{Device, Refused}
use Rattle.ldisk_run.proofs.MadeLemmas.{told_from}

-- ---- statuses

pub file_known : {T : Type 0} (result : Result T FileFault) → IsTrue (is_command_status (file_status result))
file_known (Ok done) = refl
file_known (Err faults.Refused) = refl
file_known (Err faults.BadLength) = refl
file_known (Err faults.NoSpace) = refl
file_known (Err faults.Device) = refl
file_known (Err faults.Memory) = refl

pub file_usage : {T : Type 0} (result : Result T FileFault) → file_status result ≢ 1
file_usage (Ok done) is = cc
file_usage (Err faults.Refused) is = cc
file_usage (Err faults.BadLength) is = cc
file_usage (Err faults.NoSpace) is = cc
file_usage (Err faults.Device) is = cc
file_usage (Err faults.Memory) is = cc

no-room : {A : Type 0} (room : Result Span Refusal) (next : Span → Result A _) → IsErr room → checked_status (with_fault NoRoom room >>= next) ≡ 3
no-room (Ok span) next refused = absurd cc
no-room (Err refusal) next refused = refl

-- ---- commands

-- a command changes one name, once a check of the volume passed, where a source gives these bytes
pub record IsFileCommand (given : List ℕ) (command : Command) (change : NameChange) (check : Volume → Image → Result (List (List ℕ)) FileRefusal) : Type 0 where
  pub verdict : (image : Image) (machine : Machine) (sectors : ℕ) → command_verdict image machine given sectors command ≡ silent (checked_status (device_check check image machine change.device))
  pub names : name_change given command ≡ Some change
  pub writes : only_reads command ≡ false
  pub no_image : makes_image command ≡ false
  pub may : (image : Image) (machine : Machine) (d s : ℕ) → may_write image machine command d s ≡ is_in_found (span_of image machine change.device) d s
  pub no_volume : (old image : Image) (machine : Machine) → HasVolumeOf old machine command image
  pub after : (old image : Image) (machine : Machine) (time : ℕ) → IsChanged old machine time change image → IsAfter old machine time given command image
  pub no_waste : freed_device command ≡ None

pub removes : (given : List ℕ) (device : devices.Device) (path : List ℕ) → IsFileCommand given (Rm device path) (removal device path) (gone_check path)
unfolding command_verdict only_reads may_write
removes given device path = record {
  verdict = λ image machine sectors. refl;
  names = refl;
  writes = refl;
  no_image = refl;
  may = λ image machine d s. refl;
  no_volume = λ old image machine. tt;
  after = λ old image machine time changed. changed;
  no_waste = refl;
}

pub makes_directory : (given : List ℕ) (device : devices.Device) (path : List ℕ) → IsFileCommand given (Mkdir device path) (addition device path NewDirectory) (made_check NewDirectory path)
unfolding command_verdict only_reads may_write
makes_directory given device path = record {
  verdict = λ image machine sectors. refl;
  names = refl;
  writes = refl;
  no_image = refl;
  may = λ image machine d s. refl;
  no_volume = λ old image machine. tt;
  after = λ old image machine time changed. changed;
  no_waste = refl;
}

pub makes_link : (given : List ℕ) (device : devices.Device) (path target : List ℕ) → IsFileCommand given (Ln device path target) (addition device path (NewLink target)) (made_check (NewLink target) path)
unfolding command_verdict only_reads may_write
makes_link given device path target = record {
  verdict = λ image machine sectors. refl;
  names = refl;
  writes = refl;
  no_image = refl;
  may = λ image machine d s. refl;
  no_volume = λ old image machine. tt;
  after = λ old image machine time changed. changed;
  no_waste = refl;
}

pub makes_file : (given : List ℕ) (device : devices.Device) (path : List ℕ) → IsFileCommand given (Put device path) (addition device path (NewFile given)) (made_check (NewFile given) path)
unfolding command_verdict only_reads may_write
makes_file given device path = record {
  verdict = λ image machine sectors. refl;
  names = refl;
  writes = refl;
  no_image = refl;
  may = λ image machine d s. refl;
  no_volume = λ old image machine. tt;
  after = λ old image machine time changed. changed;
  no_waste = refl;
}

module _ (image : Image) (machine : Machine) (device : devices.Device) where
  module _ (check : Volume → Image → Result (List (List ℕ)) FileRefusal) where
    halted-check : (halt : Halt) → Halts halt (room_of image machine device) → AnswersAs (silent (checked_status (device_check check image machine device))) (status_of (Err halt))
    unfolding device_check
    halted-check Refused halts = inl (sym (no-room (room_of image machine device) (λ span. volume_check check image span) halts))
    halted-check Device halts = inr (inl refl)

  module _ (span : Span) (room : room_of image machine device ≡ Ok span) where
    pub by-room : (check : Volume → Image → Result (List (List ℕ)) FileRefusal) → device_check check image machine device ≡ volume_check check image span
    unfolding device_check
    by-room check = rw room refl

    checked-answer : (check : Volume → Image → Result (List (List ℕ)) FileRefusal) (result : Result (Unit {0}) FileFault) → Answers (volume_check check image span) result
        → AnswersAs (silent (checked_status (device_check check image machine device))) (file_status result)
    checked-answer check (Ok done) is = inl (sym (ap checked_status (by-room check) ∙ is))
    checked-answer check (Err faults.Refused) is = inl (sym (ap checked_status (by-room check) ∙ is))
    checked-answer check (Err faults.BadLength) is = inl (sym (ap checked_status (by-room check) ∙ is))
    checked-answer check (Err faults.NoSpace) is = inl (sym (ap checked_status (by-room check) ∙ is))
    checked-answer check (Err faults.Device) is = inr (inl refl)
    checked-answer check (Err faults.Memory) is = inr (inr (inl refl))

    -- the room is the device's sectors
    pub span-is : span_of image machine device ≡ Ok span
    unfolding room_of
    span-is = by (machine.size_of 0 == 0) (span_of image machine device) refl refl room
      where
        by : (none : Bool) (found : Result Span TableFault) → (machine.size_of 0 == 0) ≡ none → span_of image machine device ≡ found
            → room_of image machine device ≡ Ok span → span_of image machine device ≡ Ok span
        by true found size says is = absurd (let no = rw size at is in cc)
        by false (Err fault) size says is = absurd (let no = rw (size, says) at is in cc)
        by false (Ok other) size says is = last (nat_le 4 other.count) refl
          where
            last : (wide : Bool) → nat_le 4 other.count ≡ wide → span_of image machine device ≡ Ok span
            last true wide = let e = rw (size, says, wide) at is in let same : other ≡ span = cc in says ∙ ap Ok same
            last false wide = absurd (let no = rw (size, says, wide) at is in cc)

module _ (given : List ℕ) (command : Command) (change : NameChange) (check : Volume → Image → Result (List (List ℕ)) FileRefusal) (is : IsFileCommand given command change check)
    (image : Image) (machine : Machine) (sectors : ℕ) where
  pub halted_answer : (halt : Halt) → Halts halt (room_of image machine change.device) → AnswersAs (command_verdict image machine given sectors command) (status_of (Err halt))
  halted_answer halt halts = subst (λ (v : Verdict). AnswersAs v (status_of (Err halt))) (sym (is.verdict image machine sectors)) (halted-check image machine change.device check halt halts)

  pub file_answer : (span : Span) → room_of image machine change.device ≡ Ok span → (result : Result (Unit {0}) FileFault) → Answers (volume_check check image span) result
      → AnswersAs (command_verdict image machine given sectors command) (file_status result)
  file_answer span room result answers = subst (λ (v : Verdict). AnswersAs v (file_status result)) (sym (is.verdict image machine sectors))
      (checked-answer image machine change.device span room check result answers)

-- ---- nothing was done

module _ (given : List ℕ) (command : Command) (change : NameChange) (check : Volume → Image → Result (List (List ℕ)) FileRefusal) (is-one : IsFileCommand given command change check) where
  module _ {D : Type 0} (disks : Ghosts D) (old new : D) where
    -- what is said of its change is said of the command
    changes-as : (image : Image) (machine : Machine) → (HasSoundOn image machine change.device → LeavesOnly (disks.past old) (disks.past new) (IsChanging image machine change))
        → LeavesChanging disks old new image machine (name_change given command)
    changes-as image machine leaves = subst (λ (c : Option NameChange). LeavesChanging disks old new image machine c) (sym is-one.names) leaves

    frees-none : (image : Image) (machine : Machine) → LeavesFreeing disks old new image machine (freed_device command)
    frees-none image machine = subst (λ (d : Option devices.Device). LeavesFreeing disks old new image machine d) (sym is-one.no_waste) tt

  module _ {D : Type 0} (disks : Ghosts D) (old new : D) (same : SameOf disks old new) (later : disks.faults old ≤ disks.faults new) (status : ℕ) (some : status ≢ 0) where
    nothing_done : (time sectors : ℕ) → (status ≡ 8 → Rose (disks.faults old) (disks.faults new)) → LeavesBy disks old new time given sectors command status
    nothing_done time sectors rose = record {
      done = told_all (disks.past old) _ (λ image is. absurd (some is));
      empty = told_all (disks.past old) _ (λ image is whole. absurd (some is));
      any_moment = λ quiet. told_from (disks.past old) _ (λ told. changes-as disks old new (now (disks.past old)) (machine_of disks old) (λ sound.
          subst (λ (past : Option Past). LeavesOnly (disks.past old) past (IsChanging (now (disks.past old)) (machine_of disks old) change)) (sym same.same_past)
          (leaves_none (disks.past old) (IsChanging (now (disks.past old)) (machine_of disks old) change) (λ c left.
          let is : c ≡ now (disks.past old) = quiet c left in
          subst (λ (i : Image). IsChanging (now (disks.past old)) (machine_of disks old) change i) (sym is) (record {
            span = sound.span;
            room = sound.room;
            either = record { volume = sound.volume.volume; is = sound.volume.is; has = inl record { sound = sound.volume.sound; same = λ p. refl } };
          })))));
      freeing = λ quiet. told_all (disks.past old) _ (λ image. frees-none disks old new image (machine_of disks old));
      partly = λ makes. absurd (let no : true ≡ false = sym makes ∙ is-one.no_image in cc);
      quiet = λ is writes. absurd (some is);
      refused = λ is. same.same_past;
      unwritten = told_all (disks.past old) _ (λ image some. same.same_past);
      outside = told_all (disks.past old) _ (λ image d s out. not_written_flushed (disks.past old) (disks.past new) (inr same.same_past) d s);
      same = λ reads. absurd (let no : true ≡ false = sym reads ∙ is-one.writes in cc);
      goes_on = goes_on_same disks old new same.same_past record { later = later; size = same.same_size; count = same.same_count; geometry = same.same_geometry };
      device = rose;
    }

  pub halted_leaves : {D : Type 0} (disks : Ghosts D) (old new : D) → SameOf disks old new → disks.faults old ≤ disks.faults new
      → (halt : Halt) → HasCause (disks.faults old) (disks.faults new) halt → (time sectors : ℕ) → LeavesBy disks old new time given sectors command (status_of (Err halt))
  halted_leaves disks old new same later Refused cause time sectors = nothing_done disks old new same later 3 (omega arith) time sectors (λ is. absurd cc)
  halted_leaves disks old new same later Device cause time sectors = nothing_done disks old new same later 8 (omega arith) time sectors (λ is. cause)

-- ---- a name was changed

module _ {T : Type 0} (result : Result T FileFault) where
  pub zero-of : {P : Type 0} → OnOk result P → file_status result ≡ 0 → P
  zero-of {P} ok is = by result ok is
    where
      by : (r : Result T FileFault) → OnOk r P → file_status r ≡ 0 → P
      by (Ok done) ok is = ok
      by (Err faults.Refused) ok is = absurd cc
      by (Err faults.BadLength) ok is = absurd cc
      by (Err faults.NoSpace) ok is = absurd cc
      by (Err faults.Device) ok is = absurd cc
      by (Err faults.Memory) ok is = absurd cc

  pub refused-of : {P : Type 0} → IfErr result (λ fault. is_file_refusal fault ≡ true → P) → is_refusal (file_status result) ≡ true → P
  refused-of {P} refused is = by result refused is
    where
      by : (r : Result T FileFault) → IfErr r (λ fault. is_file_refusal fault ≡ true → P) → is_refusal (file_status r) ≡ true → P
      by (Ok done) refused is = absurd cc
      by (Err faults.Refused) refused is = refused refl
      by (Err faults.BadLength) refused is = refused refl
      by (Err faults.NoSpace) refused is = refused refl
      by (Err faults.Device) refused is = absurd cc
      by (Err faults.Memory) refused is = refused refl

  pub rose-of : (before mid after : ℕ) → before ≤ mid → IfErr result (HasFileCause mid after) → file_status result ≡ 8 → Rose before after
  rose-of before mid after later cause is = by result cause is
    where
      by : (r : Result T FileFault) → IfErr r (HasFileCause mid after) → file_status r ≡ 8 → Rose before after
      by (Ok done) cause is = absurd cc
      by (Err faults.Refused) cause is = absurd cc
      by (Err faults.BadLength) cause is = absurd cc
      by (Err faults.NoSpace) cause is = absurd cc
      by (Err faults.Device) cause is = λ below. let rose = cause below in omega (arith, later, rose)
      by (Err faults.Memory) cause is = absurd cc

module _ (given : List ℕ) (command : Command) (change : NameChange) (check : Volume → Image → Result (List (List ℕ)) FileRefusal) (is-one : IsFileCommand given command change check)
    {D : Type 0} (disks : Ghosts D) (old mid new : D) (same : SameOf disks old mid) (later : disks.faults old ≤ disks.faults mid)
    (span : declared.Span) (result : Result (Unit {0}) FileFault)
    (room : Told (disks.past old) (λ now. room_of now (machine_of disks old) change.device ≡ Ok (span_view span)))
    (leaves : LeavesNames disks mid new (span_view span) change.path change.what result)
    (stays : IsUnwrittenAt (disks.past mid) (disks.past new) (span_view span) check)
    (time : ℕ) (makes : IsTold (disks.past mid) → OnOk result (HasInodeOf (span_view span) (now (disks.past mid)) change.path change.what time (now (disks.past new)))) where
  abbrev I : Image
  I = now (disks.past old)

  abbrev M : Machine
  M = machine_of disks old

  room-now : IsTold (disks.past old) → room_of I M change.device ≡ Ok (span_view span)
  room-now told = told_now (disks.past old) (λ now. room_of now M change.device ≡ Ok (span_view span)) room told

  told-mid : IsTold (disks.past old) → IsTold (disks.past mid)
  told-mid told = subst IsTold (sym same.same_past) told

  now-mid : now (disks.past mid) ≡ I
  now-mid = ap now same.same_past

  named : IsTold (disks.past old) → file_status result ≡ 0 → IsChanged I M time change (now (disks.past new))
  named told is = record {
    span = span_view span;
    room = room-now told;
    named = subst (λ (i : Image). IsNamed (span_view span) i change.path change.what (now (disks.past new))) now-mid (zero-of result (leaves.done (told-mid told)) is);
    inode = subst (λ (i : Image). HasInodeOf (span_view span) i change.path change.what time (now (disks.past new))) now-mid (zero-of result (makes (told-mid told)) is);
  }

  moment : IsTold (disks.past old) → IsQuiet (disks.past old) → HasSoundOn I M change.device → LeavesOnly (disks.past old) (disks.past new) (IsChanging I M change)
  moment told quiet sound =
      let span-same : sound.span ≡ span_view span = let e = sym sound.room ∙ room-now told in cc in
      let volume : HasSoundVolume (span_view span) (now (disks.past mid)) =
      subst (λ (i : Image). HasSoundVolume (span_view span) i) (sym now-mid) (subst (λ (s : Span). HasSoundVolume s I) span-same sound.volume) in
      let run = leaves.any_moment (subst IsQuiet (sym same.same_past) quiet) volume in
      leaves_weaker (disks.past old) (disks.past new) (IsEither (span_view span) (now (disks.past mid)) change.path change.what) (IsChanging I M change)
      (subst (λ (past : Option Past). LeavesOnly past (disks.past new) (IsEither (span_view span) (now (disks.past mid)) change.path change.what)) same.same_past run)
      (λ c either. record {
        span = span_view span;
        room = room-now told;
        either = subst (λ (i : Image). IsEither (span_view span) i change.path change.what c) now-mid either;
      })

  apart : (d s : ℕ) → IsOutside span.disk span.start span.count d s → NotWritten (disks.past old) (disks.past new) d s
  apart d s outside = subst (λ (past : Option Past). NotWritten past (disks.past new) d s) same.same_past (leaves.outside d s outside)

  goes-on-mid : GoesOn disks old mid
  goes-on-mid = goes_on_same disks old mid same.same_past record { later = later; size = same.same_size; count = same.same_count; geometry = same.same_geometry }

  unwritten : (sectors : ℕ) → OnDisks disks old (λ image machine. (command_verdict image machine given sectors command).status ≢ 0 → disks.past new ≡ disks.past old)
  unwritten sectors = told_both (disks.past old) (λ now. room_of now M change.device ≡ Ok (span_view span))
      (λ now. checked_status (volume_check check now (span_view span)) ≢ 0 → disks.past new ≡ disks.past mid) _
      (λ now is stay some.
      stay (λ none. some (ap (λ (v : Verdict). v.status) (is-one.verdict now M sectors) ∙ (ap checked_status (by-room now M change.device (span_view span) is check) ∙ none)))
      ∙ same.same_past)
      room
      (told_before (disks.past old) (disks.past mid) (λ now. checked_status (volume_check check now (span_view span)) ≢ 0 → disks.past new ≡ disks.past mid) same.same_past stays)

  pub file_leaves : (sectors : ℕ) → LeavesBy disks old new time given sectors command (file_status result)
  file_leaves sectors = record {
    done = told_from (disks.past old) _ (λ told is. is-one.after I (now (disks.past new)) M time (named told is));
    empty = told_all (disks.past old) _ (λ image is whole. is-one.no_volume image (now (disks.past new)) M);
    any_moment = λ quiet. told_from (disks.past old) _ (λ told. changes-as given command change check is-one disks old new I M (moment told quiet));
    freeing = λ quiet. told_all (disks.past old) _ (λ image. frees-none given command change check is-one disks old new image M);
    partly = λ makes. absurd (let no : true ≡ false = sym makes ∙ is-one.no_image in cc);
    quiet = λ is writes. zero-of result leaves.quiet is;
    refused = λ is. refused-of result leaves.refused is ∙ same.same_past;
    unwritten = unwritten sectors;
    outside = told_from (disks.past old) _ (λ told d s out. apart d s (outside-span I M d s (span-is I M change.device (span_view span) (room-now told)) (sym (is-one.may I M d s) ∙ out)));
    same = λ reads. absurd (let no : true ≡ false = sym reads ∙ is-one.writes in cc);
    goes_on = goes_on_join disks old mid new goes-on-mid leaves.goes_on;
    device = rose-of result (disks.faults old) (disks.faults mid) (disks.faults new) later leaves.cause;
  }
    where
      outside-span : (image : Image) (machine : Machine) (d s : ℕ) → span_of image machine change.device ≡ Ok (span_view span) → is_in_found (span_of image machine change.device) d s ≡ false
          → IsOutside span.disk span.start span.count d s
      outside-span image machine d s is out = is-outside (span_view span) d s (rw is at out)
