-- `make` and `mkfs`: their statuses, and what they leave.
use Rattle.std.proofs.Common.{◌≡◌, ◌≢◌, ◌||◌, ◌⊎◌, ◌↔◌, ◌==◌, ◌∙◌, inl, inr, ℕ, Bool, true, false, List, [], Option, None, Some, Result, Ok, Err, refl, sym, ap, subst, arith}
use Rattle.std.specs.Prelude.{◌&&◌, ◌≤◌, IsTrue, OnOk, IfErr}
use Rattle.std.proofs.lemmas.Bool.{eqb-true}
use Rattle.disk_trait.specs.declared.disks.Disks.{Ghosts}
use Rattle.disk_trait.specs.Calls.{SameOf, GoesOn}
use Rattle.disk_trait.specs.Past.{Past, Image, Told, now_of}
use Rattle.disk_trait.specs.Past as past
use Rattle.disk_trait.specs.Moments.{IsTold, now, IsQuiet, IsWholeImage, LeftOrWritten, LeavesOnly}
use Rattle.disk_trait.specs.NotWritten.{NotWritten, WritesNoOther}
use Rattle.disk_trait.specs.NotWritten as written
use Rattle.disk_trait.proofs.CallLemmas.{goes_on_same}
use Rattle.disk_trait.proofs.MomentLemmas.{leaves_weaker, told_now}
use Rattle.disk_trait.proofs.NotWrittenLemmas.{not_written_flushed}
use Rattle.disk_trait.proofs.ToldLemmas.{told_all, told_map}
use Rattle.lilo_model.specs.Devices as devices
use Rattle.lilo_model.specs.Disks.{Machine}
use Rattle.lilo_model.specs.MinixLayout.{Kind}
use Rattle.lilo_model.specs.Partitions.{span_of}
use Rattle.lilo_model.specs.Faults.{Rose}
use Rattle.sector_address.specs.Machine.{OnDisks, machine_of}
use Rattle.ldisk_model.specs.Arguments.{PartWish, Command, Make, Mkfs, Put, Get, Ls, Rm, Mkdir, Ln, Reclaim, Asked}
use Rattle.ldisk_model.specs.DiskTable.{table_sector, are_placed}
use Rattle.ldisk_model.specs.Verdict.{Refusal, make_check, mkfs_check, command_verdict, asked_verdict, name_change, asked_change, status_of, formatted_on, is_in_found, image_after, asked_after, may_write, asked_may_write, only_reads, asked_only_read}
use Rattle.lilo_model.specs.LdiskVerdict.{silent}
use Rattle.ldisk_make.specs.Answer.{Answers, HasEmptyVolume, HasMakeCause, is_refusal as is_make_refusal}
use Rattle.ldisk_make.specs.declared.fault.MakeFault.{MakeFault}
use Rattle.ldisk_make.specs.declared.fault.MakeFault.TheVariants as faults
use Rattle.lilo_model.specs.Verdict.{Verdict}
use Rattle.minix_format.specs.Left.{IsPartlyMade, LeftOrPartlyMade}
use Rattle.stream_trait.specs.Shows.{answer_of}
use Rattle.stream_trait.proofs.ShowsLemmas.{answered as answered_sink}
use Rattle.ldisk_run.specs.Left.{IsAfter, LeavesChanging, LeavesFreeing, freed_device, asked_freed_device, IsDone, is_refusal, AnswersAs, HasVolumeOf, LeavesBy, LeavesAsked, IsAskedDone, HasAskedVolume, makes_image, asked_makes_image, held_now}
use Rattle.ldisk_run.specs.Pieces.{Held}
use Rattle.ldisk_run.specs.Run.{DoesAs, is_command_status, is_any_status, is_status}
use Rattle.ldisk_run.proofs.AddsLemmas.{adds_nothing, adds_same}
use Rattle.ldisk_run.specs.Made.{made_status}

-- ---- statuses

pub answered : {A : Type 0} (check : Result A Refusal) (result : Result (Unit {0}) MakeFault) → Answers check result
    → AnswersAs (silent (status_of check)) (made_status result)
answered check (Ok done) is = inl (sym is)
answered check (Err faults.Misplaced) is = inl (sym is)
answered check (Err faults.NoPlace) is = inl (sym is)
answered check (Err faults.NoSpace) is = inl (sym is)
answered check (Err faults.Device) is = inr (inl refl)

pub is_known : (result : Result (Unit {0}) MakeFault) → IsTrue (is_command_status (made_status result))
is_known (Ok done) = refl
is_known (Err faults.Misplaced) = refl
is_known (Err faults.NoPlace) = refl
is_known (Err faults.NoSpace) = refl
is_known (Err faults.Device) = refl

pub is_misplaced : (result : Result (Unit {0}) MakeFault) → made_status result ≡ 1 → result ≡ Err faults.Misplaced
is_misplaced (Ok done) is = absurd cc
is_misplaced (Err faults.Misplaced) is = refl
is_misplaced (Err faults.NoPlace) is = absurd cc
is_misplaced (Err faults.NoSpace) is = absurd cc
is_misplaced (Err faults.Device) is = absurd cc

pub misplaced_as : (result : Result (Unit {0}) MakeFault) (placed : Bool) → (result ≡ Err faults.Misplaced) ↔ (placed ≡ false)
    → (made_status result ≡ 1) ↔ (placed ≡ false)
misplaced_as result placed is = (λ one. is.0 (is_misplaced result one), λ none. ap made_status (is.1 none))

-- ---- what is left

-- a fact of what disks hold now, where they report it
pub told_from : (past : Option Past) (P : Image → Type 0) → (IsTold past → P (now past)) → Told past P
unfolding IsTold now
told_from None P f = tt
told_from (Some past) P f = f tt

done_by : {P : Type 0} (result : Result (Unit {0}) MakeFault) → OnOk result P → made_status result ≡ 0 → P
done_by (Ok done) held is = held
done_by (Err faults.Misplaced) held is = absurd cc
done_by (Err faults.NoPlace) held is = absurd cc
done_by (Err faults.NoSpace) held is = absurd cc
done_by (Err faults.Device) held is = absurd cc

refused_by : {P : Type 0} (result : Result (Unit {0}) MakeFault) → IfErr result (λ fault. is_make_refusal fault ≡ true → P)
    → is_refusal (made_status result) ≡ true → P
refused_by (Ok done) refused is = absurd cc
refused_by (Err faults.Misplaced) refused is = refused refl
refused_by (Err faults.NoPlace) refused is = refused refl
refused_by (Err faults.NoSpace) refused is = refused refl
refused_by (Err faults.Device) refused is = absurd cc

device_by : (before after : ℕ) (result : Result (Unit {0}) MakeFault) → IfErr result (HasMakeCause before after)
    → made_status result ≡ 8 → Rose before after
device_by before after (Ok done) cause is = absurd cc
device_by before after (Err faults.Misplaced) cause is = absurd cc
device_by before after (Err faults.NoPlace) cause is = absurd cc
device_by before after (Err faults.NoSpace) cause is = absurd cc
device_by before after (Err faults.Device) cause is = cause

-- a fact that is told where a status is another's
by_status : {S : Type 0} (past : Option Past) (P : Image → Type 0) → (S → Told past P) → Told past (λ image. S → P image)
by_status None P f = tt
by_status (Some past) P f = f

-- partitions that may not lie so, or no disk: a refusal
pub make_unwritten : {P : Type 0} (machine : Machine) (sectors : ℕ) (parts : List PartWish) (result : Result (Unit {0}) MakeFault)
    → (result ≡ Err faults.Misplaced) ↔ (are_placed sectors parts ≡ false) → (machine.size_of 0 ≡ 0 → are_placed sectors parts ≡ true → result ≡ Err faults.NoPlace)
    → IfErr result (λ fault. is_make_refusal fault ≡ true → P) → status_of (make_check machine sectors parts) ≢ 0 → P
unfolding make_check
make_unwritten {P} machine sectors parts result misplaced no_disk refused some = by (are_placed sectors parts) (machine.size_of 0 == 0) refl refl
  where
    by : (placed none : Bool) → are_placed sectors parts ≡ placed → (machine.size_of 0 == 0) ≡ none → P
    by false none p n = subst (λ (r : Result (Unit {0}) MakeFault). IfErr r (λ fault. is_make_refusal fault ≡ true → P)) (misplaced.1 p) refused refl
    by true true p n = subst (λ (r : Result (Unit {0}) MakeFault). IfErr r (λ fault. is_make_refusal fault ≡ true → P)) (no_disk (eqb-true (machine.size_of 0) 0 n) p) refused refl
    by true false p n = absurd (some (rw (p, n) refl))

elsewhere_by : (d s : ℕ) (one other : Bool) → (d == 0) ≡ one → (s == 0) ≡ other → (one && other) ≡ false → written.IsOther 0 0 d s
elsewhere_by d s false other is zs out = inl (λ same. let e = rw same at is in cc)
elsewhere_by d s true false is zs out = inr (λ same. let e = rw same at zs in cc)
elsewhere_by d s true true is zs out = absurd cc

-- one sector holds what it held, or its new bytes
written_partly : (old b c : Image) (d s : ℕ) (bytes : List ℕ) → b ≡ old → (c ≡ b) ⊎ (c ≡ past.with_sector b d s bytes)
    → IsPartlyMade (Some (past.with_sector old d s bytes)) old c
written_partly old b c d s bytes is (inl same) = λ e t. inl (ap (λ (i : Image). i e t) (same ∙ is))
written_partly old b c d s bytes is (inr with) = λ e t. inr (ap (λ (i : Image). i e t) (with ∙ ap (λ (i : Image). past.with_sector i d s bytes) is))

module _ {D : Type 0} (disks : Ghosts D) (old new : D) (result : Result (Unit {0}) MakeFault)
    (refused : IfErr result (λ fault. is_make_refusal fault ≡ true → disks.past new ≡ disks.past old))
    (quiet : OnOk result (IsQuiet (disks.past new)))
    (cause : IfErr result (HasMakeCause (disks.faults old) (disks.faults new)))
    (goes_on : GoesOn disks old new) where
  pub make_leaves : (time : ℕ) (given : List ℕ) (sectors : ℕ) (parts : List PartWish)
      → (IsTold (disks.past old) → OnOk result (now (disks.past new) ≡ past.with_sector (now (disks.past old)) 0 0 (table_sector parts)))
      → LeavesOnly (disks.past old) (disks.past new) (LeftOrWritten (disks.past old) 0 0 (table_sector parts))
      → WritesNoOther 0 0 (disks.past old) (disks.past new)
      → (status_of (make_check (machine_of disks old) sectors parts) ≢ 0 → disks.past new ≡ disks.past old)
      → LeavesBy disks old new time given sectors (Make parts) (made_status result)
  unfolding command_verdict image_after may_write only_reads
  make_leaves time given sectors parts made moment others stays = record {
    done = told_from (disks.past old) _ (λ told is. ap Some (sym (done_by result (made told) is)));
    empty = told_all (disks.past old) _ (λ image is whole. tt);
    any_moment = λ quiet. told_all (disks.past old) _ (λ image. tt);
    freeing = λ quiet. told_all (disks.past old) _ (λ image. tt);
    partly = λ makes quiet. told_from (disks.past old) _ (λ told.
        leaves_weaker (disks.past old) (disks.past new) (LeftOrWritten (disks.past old) 0 0 (table_sector parts))
        (IsPartlyMade (Some (past.with_sector (now (disks.past old)) 0 0 (table_sector parts))) (now (disks.past old))) moment
        (λ c from. written_partly (now (disks.past old)) from.0 c 0 0 (table_sector parts) (quiet from.0 from.1) from.2));
    quiet = λ is writes. done_by result quiet is;
    refused = refused_by result refused;
    unwritten = told_all (disks.past old) _ (λ image some. stays some);
    outside = told_all (disks.past old) _ (λ image d s out. others d s (elsewhere_by d s (d == 0) (s == 0) refl refl out));
    same = λ is. absurd cc;
    goes_on = goes_on;
    device = device_by (disks.faults old) (disks.faults new) result cause;
  }

  pub mkfs_leaves : (time : ℕ) (given : List ℕ) (sectors : ℕ) (device : devices.Device) (kind : Kind) (inodes : ℕ)
      → OnOk result (OnDisks disks old (λ image machine. formatted_on (span_of image machine device) kind inodes time image ≡ Some (now (disks.past new))))
      → OnOk result (OnDisks disks old (λ image machine. IsWholeImage (disks.size_of old) image
      → HasEmptyVolume (span_of image machine device) kind inodes (now (disks.past new))))
      → OnDisks disks old (λ image machine. LeavesOnly (disks.past old) (disks.past new)
      (LeftOrPartlyMade (disks.past old) (formatted_on (span_of image machine device) kind inodes time)))
      → OnDisks disks old (λ image machine. status_of (mkfs_check image machine device kind inodes) ≢ 0 → disks.past new ≡ disks.past old)
      → OnDisks disks old (λ image machine. (d s : ℕ) → is_in_found (span_of image machine device) d s ≡ false → NotWritten (disks.past old) (disks.past new) d s)
      → LeavesBy disks old new time given sectors (Mkfs device kind inodes) (made_status result)
  unfolding command_verdict image_after may_write only_reads
  mkfs_leaves time given sectors device kind inodes made empty moment stays outside = record {
    done = by_status (disks.past old) _ (λ is. done_by result made is);
    empty = by_status (disks.past old) _ (λ is. done_by result empty is);
    any_moment = λ quiet. told_all (disks.past old) _ (λ image. tt);
    freeing = λ quiet. told_all (disks.past old) _ (λ image. tt);
    partly = λ makes quiet. told_from (disks.past old) _ (λ told.
        let I = now (disks.past old) in
        let place = span_of I (machine_of disks old) device in
        leaves_weaker (disks.past old) (disks.past new) (LeftOrPartlyMade (disks.past old) (formatted_on place kind inodes time))
        (IsPartlyMade (formatted_on place kind inodes time I) I)
        (told_now (disks.past old) (λ image. LeavesOnly (disks.past old) (disks.past new)
        (LeftOrPartlyMade (disks.past old) (formatted_on (span_of image (machine_of disks old) device) kind inodes time))) moment told)
        (λ c from. subst (λ (b : Image). IsPartlyMade (formatted_on place kind inodes time b) b c) (quiet from.0 from.1) from.2));
    quiet = λ is writes. done_by result quiet is;
    refused = refused_by result refused;
    unwritten = stays;
    outside = outside;
    same = λ is. absurd cc;
    goes_on = goes_on;
    device = device_by (disks.faults old) (disks.faults new) result cause;
  }

-- ---- commands that only read

module _ {D : Type 0} (disks : Ghosts D) (old new : D) (same : SameOf disks old new) (later : disks.faults old ≤ disks.faults new) where
  now_same : now (disks.past old) ≡ now (disks.past new)
  now_same = ap now (sym same.same_past)

  goes_on : GoesOn disks old new
  goes_on = goes_on_same disks old new same.same_past
      record { later = later; size = same.same_size; count = same.same_count; geometry = same.same_geometry }

  kept : (image left : Image) (machine : Machine) (time : ℕ) (given : List ℕ) (command : Command) → only_reads command ≡ true → image ≡ left
      → IsAfter image machine time given command left
  unfolding image_after only_reads
  kept image left machine time given (Make parts) is same = absurd cc
  kept image left machine time given (Mkfs device kind inodes) is same = absurd cc
  kept image left machine time given (Put device path) is same = absurd cc
  kept image left machine time given (Get device path) is same = ap Some same
  kept image left machine time given (Ls device path) is same = ap Some same
  kept image left machine time given (Rm device path) is same = absurd cc
  kept image left machine time given (Mkdir device path) is same = absurd cc
  kept image left machine time given (Ln device path target) is same = absurd cc
  kept image left machine time given (Reclaim device) is same = absurd cc

  no_volume : (image left : Image) (machine : Machine) (command : Command) → only_reads command ≡ true → HasVolumeOf image machine command left
  unfolding only_reads
  no_volume image left machine (Make parts) is = absurd cc
  no_volume image left machine (Mkfs device kind inodes) is = absurd cc
  no_volume image left machine (Put device path) is = absurd cc
  no_volume image left machine (Get device path) is = tt
  no_volume image left machine (Ls device path) is = tt
  no_volume image left machine (Rm device path) is = absurd cc
  no_volume image left machine (Mkdir device path) is = absurd cc
  no_volume image left machine (Ln device path target) is = absurd cc
  no_volume image left machine (Reclaim device) is = absurd cc

  no_change : (image : Image) (machine : Machine) (given : List ℕ) (command : Command) → only_reads command ≡ true → LeavesChanging disks old new image machine (name_change given command)
  unfolding only_reads
  no_change image machine given (Make parts) is = absurd cc
  no_change image machine given (Mkfs device kind inodes) is = absurd cc
  no_change image machine given (Put device path) is = absurd cc
  no_change image machine given (Get device path) is = tt
  no_change image machine given (Ls device path) is = tt
  no_change image machine given (Rm device path) is = absurd cc
  no_change image machine given (Mkdir device path) is = absurd cc
  no_change image machine given (Ln device path target) is = absurd cc
  no_change image machine given (Reclaim device) is = absurd cc

  frees_nothing : (image : Image) (machine : Machine) (command : Command) → only_reads command ≡ true → LeavesFreeing disks old new image machine (freed_device command)
  unfolding only_reads
  frees_nothing image machine (Make parts) is = absurd cc
  frees_nothing image machine (Mkfs device kind inodes) is = absurd cc
  frees_nothing image machine (Put device path) is = absurd cc
  frees_nothing image machine (Get device path) is = tt
  frees_nothing image machine (Ls device path) is = tt
  frees_nothing image machine (Rm device path) is = absurd cc
  frees_nothing image machine (Mkdir device path) is = absurd cc
  frees_nothing image machine (Ln device path target) is = absurd cc
  frees_nothing image machine (Reclaim device) is = absurd cc

  not_made : (command : Command) → only_reads command ≡ true → makes_image command ≡ true → ⊥
  unfolding only_reads
  not_made (Make parts) is makes = cc
  not_made (Mkfs device kind inodes) is makes = cc
  not_made (Put device path) is makes = cc
  not_made (Get device path) is makes = cc
  not_made (Ls device path) is makes = cc
  not_made (Rm device path) is makes = cc
  not_made (Mkdir device path) is makes = cc
  not_made (Ln device path target) is makes = cc
  not_made (Reclaim device) is makes = cc

  pub reading_leaves : (time : ℕ) (given : List ℕ) (sectors : ℕ) (command : Command) (status : ℕ) → only_reads command ≡ true
      → (status ≡ 8 → Rose (disks.faults old) (disks.faults new)) → LeavesBy disks old new time given sectors command status
  reading_leaves time given sectors command status reads rose = record {
    done = told_from (disks.past old) _ (λ told is. kept (now (disks.past old)) (now (disks.past new)) (machine_of disks old) time given command reads now_same);
    any_moment = λ quiet. told_all (disks.past old) _ (λ image. no_change image (machine_of disks old) given command reads);
    freeing = λ quiet. told_all (disks.past old) _ (λ image. frees_nothing image (machine_of disks old) command reads);
    partly = λ makes. absurd (not_made command reads makes);
    empty = told_all (disks.past old) _ (λ image is whole. no_volume image (now (disks.past new)) (machine_of disks old) command reads);
    quiet = λ is writes. absurd (let no = rw reads at writes in cc);
    refused = λ is. same.same_past;
    unwritten = told_all (disks.past old) _ (λ image some. same.same_past);
    outside = told_all (disks.past old) _ (λ image d s out. not_written_flushed (disks.past old) (disks.past new) (inr same.same_past) d s);
    same = λ is. same;
    goes_on = goes_on;
    device = rose;
  }

-- ---- a command without a text

-- its status alone is that of its verdict
pub silent_does : (verdict : Verdict) (status : ℕ) (a : Held) → verdict.text ≡ [] → AnswersAs verdict status → DoesAs verdict status a a
silent_does verdict status a none (inl is) = inl (is, adds_same a a [] verdict.text (sym none) (adds_nothing a))
silent_does verdict status a none (inr eight) = inr (eight, ([], verdict.text, refl, adds_nothing a))

pub told_silent :
    (past : Option Past) (verdict : Image → Verdict) (status : ℕ) (a : Held) → ((now : Image) → (verdict now).text ≡ [])
    → Told past (λ now. AnswersAs (verdict now) status) → Told past (λ now. DoesAs (verdict now) status a a)
told_silent past verdict status a none answers =
    told_map past (λ now. AnswersAs (verdict now) status) (λ now. DoesAs (verdict now) status a a)
    (λ now is. silent_does (verdict now) status a (none now) is) answers

-- ---- the whole call

module _ (status : ℕ) (failed : Bool) where
  -- the status of a command is kept, or it is 12 in the place of 0
  cases : (answer_of status failed ≡ status) ⊎ ((answer_of status failed ≡ 12) × (status ≡ 0))
  cases = answered_sink (status == 0) failed status status refl refl

  pub done_status : IsTrue (is_any_status status) → IsDone (answer_of status failed) → status ≡ 0
  done_status known done = by cases done
    where
      by : (answer_of status failed ≡ status) ⊎ ((answer_of status failed ≡ 12) × (status ≡ 0)) → IsDone (answer_of status failed) → status ≡ 0
      by (inr (twelve, none)) done = none
      by (inl same) (inl none) = sym same ∙ none
      by (inl same) (inr twelve) =
          let unknown : IsTrue (is_any_status 12) = subst (λ s. IsTrue (is_any_status s)) (sym same ∙ twelve) known in absurd cc

  pub refusal_status : is_refusal (answer_of status failed) ≡ true → is_refusal status ≡ true
  refusal_status refused = by cases
    where
      by : (answer_of status failed ≡ status) ⊎ ((answer_of status failed ≡ 12) × (status ≡ 0)) → is_refusal status ≡ true
      by (inl same) = subst (λ s. is_refusal s ≡ true) same refused
      by (inr (twelve, none)) = absurd (let no : is_refusal 12 ≡ true = subst (λ s. is_refusal s ≡ true) twelve refused in cc)

  pub device_status : answer_of status failed ≡ 8 → status ≡ 8
  device_status eight = by cases
    where
      by : (answer_of status failed ≡ status) ⊎ ((answer_of status failed ≡ 12) × (status ≡ 0)) → status ≡ 8
      by (inl same) = sym same ∙ eight
      by (inr (twelve, none)) = absurd (let no : 12 ≡ 8 = sym twelve ∙ eight in cc)

  pub source_status : answer_of status failed ≡ 11 → status ≡ 11
  source_status eleven = by cases
    where
      by : (answer_of status failed ≡ status) ⊎ ((answer_of status failed ≡ 12) × (status ≡ 0)) → status ≡ 11
      by (inl same) = sym same ∙ eleven
      by (inr (twelve, none)) = absurd (let no : 12 ≡ 11 = sym twelve ∙ eleven in cc)

module _ {D : Type 0} (disks : Ghosts D) (old new : D) (time : ℕ) (given : List ℕ) (status : ℕ) (failed : Bool) (known : IsTrue (is_any_status status)) where
  zero_of : IsDone (answer_of status failed) → status ≡ 0
  zero_of = done_status status failed known

  pub asked_done : (asked : Option Asked) → LeavesAsked disks old new time given asked status
      → OnDisks disks old (λ image machine. IsDone (answer_of status failed) → IsAskedDone image machine time given asked (held_now disks new))
  asked_done None left = told_from (disks.past old) _ (λ told done. absurd (let none = zero_of done in let no : 1 ≡ 0 = sym left.1.1 ∙ none in cc))
  asked_done (Some asked) left = told_map (disks.past old) _ _ (λ image is done. is (zero_of done)) left.done

  pub asked_volume : (asked : Option Asked) → LeavesAsked disks old new time given asked status
      → OnDisks disks old (λ image machine. IsDone (answer_of status failed) → IsWholeImage (disks.size_of old) image
      → HasAskedVolume image machine asked (held_now disks new))
  asked_volume None left = told_all (disks.past old) _ (λ image done whole. tt)
  asked_volume (Some asked) left = told_map (disks.past old) _ _ (λ image is done. is (zero_of done)) left.empty

  pub asked_moment : (asked : Option Asked) → LeavesAsked disks old new time given asked status → IsQuiet (disks.past old)
      → OnDisks disks old (λ image machine. LeavesChanging disks old new image machine (asked_change given asked))
  asked_moment None left quiet = told_all (disks.past old) _ (λ image. tt)
  asked_moment (Some asked) left quiet = left.any_moment quiet

  pub asked_freeing : (asked : Option Asked) → LeavesAsked disks old new time given asked status → IsQuiet (disks.past old)
      → OnDisks disks old (λ image machine. LeavesFreeing disks old new image machine (asked_freed_device asked))
  asked_freeing None left quiet = told_all (disks.past old) _ (λ image. tt)
  asked_freeing (Some asked) left quiet = left.freeing quiet

  pub asked_partly : (asked : Option Asked) → LeavesAsked disks old new time given asked status
      → asked_makes_image asked ≡ true → IsQuiet (disks.past old)
      → OnDisks disks old (λ image machine. LeavesOnly (disks.past old) (disks.past new) (IsPartlyMade (asked_after image machine time asked) image))
  asked_partly None left makes quiet = absurd cc
  asked_partly (Some asked) left makes quiet = left.partly makes quiet

  pub asked_quiet : (asked : Option Asked) → LeavesAsked disks old new time given asked status
      → IsDone (answer_of status failed) → asked_only_read asked ≡ false → IsQuiet (disks.past new)
  asked_quiet None left done writes = absurd cc
  asked_quiet (Some asked) left done writes = left.quiet (zero_of done) writes

  pub asked_refused : (asked : Option Asked) → LeavesAsked disks old new time given asked status
      → is_refusal (answer_of status failed) ≡ true → disks.past new ≡ disks.past old
  asked_refused None left refused = left.0.same_past
  asked_refused (Some asked) left refused = left.refused (refusal_status status failed refused)

  pub asked_unwritten : (asked : Option Asked) → LeavesAsked disks old new time given asked status
      → OnDisks disks old (λ image machine. (asked_verdict image machine given asked).status ≢ 0 → disks.past new ≡ disks.past old)
  asked_unwritten None left = told_all (disks.past old) _ (λ image some. left.0.same_past)
  asked_unwritten (Some asked) left = left.unwritten

  pub asked_outside : (asked : Option Asked) → LeavesAsked disks old new time given asked status
      → OnDisks disks old (λ image machine. (d s : ℕ) → asked_may_write image machine asked d s ≡ false → NotWritten (disks.past old) (disks.past new) d s)
  asked_outside None left =
      told_all (disks.past old) _ (λ image d s out. not_written_flushed (disks.past old) (disks.past new) (inr left.0.same_past) d s)
  asked_outside (Some asked) left = left.outside

  pub asked_same : (asked : Option Asked) → LeavesAsked disks old new time given asked status → asked_only_read asked ≡ true → SameOf disks old new
  asked_same None left reads = left.0
  asked_same (Some asked) left reads = left.same reads

  pub asked_goes_on : (asked : Option Asked) → LeavesAsked disks old new time given asked status → GoesOn disks old new
  asked_goes_on None left = left.1.0
  asked_goes_on (Some asked) left = left.goes_on

  pub asked_device : (asked : Option Asked) → LeavesAsked disks old new time given asked status → answer_of status failed ≡ 8
      → Rose (disks.faults old) (disks.faults new)
  asked_device None left eight = absurd (let is = device_status status failed eight in let no : 1 ≡ 8 = sym left.1.1 ∙ is in cc)
  asked_device (Some asked) left eight = left.device (device_status status failed eight)

-- arguments that ask for nothing
pub nothing_left : {D : Type 0} (disks : Ghosts D) (old : D) (time : ℕ) (given : List ℕ) (asked : Option Asked) → asked ≡ None → LeavesAsked disks old old time given asked 1
nothing_left disks old time given asked is =
    rw is (
      record { same_past = refl; same_size = refl; same_count = refl; same_geometry = refl },
      (goes_on_same disks old old refl record { later = omega arith; size = refl; count = refl; geometry = refl }, refl),
    )

-- a command that stores nothing ends with one of the statuses, which isn't that of a source
pub known_any : (status : ℕ) → IsTrue (is_command_status status) → IsTrue (is_any_status status)
known_any status known = by (0 == status) (1 == status) (3 == status) (4 == status) (5 == status) (8 == status) (11 == status) (13 == status) known
  where
    by : (a b c d e f g h : Bool) → IsTrue (a || (b || (c || (d || (e || (f || (h || false))))))) → IsTrue (a || (b || (c || (d || (e || (f || (g || (h || false))))))))
    by true b c d e f g h is = refl
    by false true c d e f g h is = refl
    by false false true d e f g h is = refl
    by false false false true e f g h is = refl
    by false false false false true f g h is = refl
    by false false false false false true g h is = refl
    by false false false false false false true h is = refl
    by false false false false false false false true is = refl
    by false false false false false false false false is = absurd cc

pub not_source : (status : ℕ) → IsTrue (is_command_status status) → status ≢ 11
not_source status known is = let no : IsTrue (is_command_status 11) = subst (λ s. IsTrue (is_command_status s)) is known in cc

-- with 12 in the place of 0 it is one of a call
any_status : (status : ℕ) → IsTrue (is_any_status status) → IsTrue (is_status status)
any_status status known = by (0 == status) (1 == status) (3 == status) (4 == status) (5 == status) (8 == status) (11 == status) (12 == status) (13 == status) known
  where
    by : (a b c d e f g h i : Bool) → IsTrue (a || (b || (c || (d || (e || (f || (g || (i || false)))))))) → IsTrue (a || (b || (c || (d || (e || (f || (g || (h || (i || false)))))))))
    by true b c d e f g h i is = refl
    by false true c d e f g h i is = refl
    by false false true d e f g h i is = refl
    by false false false true e f g h i is = refl
    by false false false false true f g h i is = refl
    by false false false false false true g h i is = refl
    by false false false false false false true h i is = refl
    by false false false false false false false true i is = refl
    by false false false false false false false false true is = refl
    by false false false false false false false false false is = absurd cc

pub known_status : (status : ℕ) (failed : Bool) → IsTrue (is_any_status status) → IsTrue (is_status (answer_of status failed))
known_status status failed known = by (cases status failed)
  where
    by : (answer_of status failed ≡ status) ⊎ ((answer_of status failed ≡ 12) × (status ≡ 0)) → IsTrue (is_status (answer_of status failed))
    by (inl same) = subst (λ s. IsTrue (is_status s)) (sym same) (any_status status known)
    by (inr (twelve, none)) = subst (λ s. IsTrue (is_status s)) (sym twelve) refl
