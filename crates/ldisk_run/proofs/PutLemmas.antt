-- `put`: its status, what it leaves, and when the source is asked.
use Rattle.std.proofs.Common.{◌≡◌, ◌≢◌, ◌≤◌, ◌∙◌, inr, ℕ, true, false, List, [], Option, Some, None, Result, Ok, Err, refl, sym, ap}
use Rattle.std.specs.Prelude.{IsTrue, IfErr}
use Rattle.std.proofs.lemmas.Bool.{eq-eqb}
use Rattle.disk_trait.specs.declared.disks.Disks.{Ghosts}
use Rattle.disk_trait.specs.declared.disks.Span as declared
use Rattle.disk_trait.specs.Calls.{SameOf}
use Rattle.disk_trait.specs.Past.{Past, Image, Told}
use Rattle.disk_trait.proofs.ToldLemmas.{told_all, told_map, told_both}
use Rattle.lilo_model.specs.Devices.{Device}
use Rattle.lilo_model.specs.Faults.{Rose}
use Rattle.lilo_model.specs.LdiskVerdict.{room_of}
use Rattle.lilo_model.specs.Verdict.{Verdict}
use Rattle.mbr_table.specs.View.{span_view}
use Rattle.mbr_table.proofs.ToldLemmas.{told_before}
use Rattle.sector_address.specs.Machine.{OnDisks, machine_of}
use Rattle.ldisk_model.specs.Arguments.{Command, Put}
use Rattle.ldisk_model.specs.FileVerdict.{NewFile, volume_check, device_check, new_check, made_check, addition, checked_status}
use Rattle.ldisk_model.specs.Verdict.{command_verdict, asks_source}
use Rattle.ldisk_files.specs.Answer.{Answers}
use Rattle.ldisk_files.specs.Stored.{OnGiven, HasSourceCause, IsUnreadAt, Stores, file_answer}
use Rattle.ldisk_files.specs.declared.fault.FileFault.TheVariants as faults
use Rattle.ldisk_files.specs.declared.put_fault.PutFault.{PutFault}
use Rattle.ldisk_files.specs.declared.put_fault.PutFault.TheVariants.{Source, File as OfFile}
use Rattle.ldisk_files.proofs.StoredLemmas.{given-all, given-map}
use Rattle.ldisk_run.specs.Left.{AnswersAs, LeavesBy}
use Rattle.ldisk_run.specs.Made.{file_status, put_status}
use Rattle.ldisk_run.specs.Run.{Halts, HasCause, is_any_status, status_of}
use Rattle.ldisk_run.specs.declared.halt.Halt.{Halt}
use Rattle.ldisk_run.specs.declared.halt.Halt.TheVariants as halts
use Rattle.ldisk_run.proofs.FileLemmas.{makes_file, by-room, halted_answer, halted_leaves, file_answer as answer_of_file, file_leaves}

-- ---- what a source gives

module _ (past : Option Past) (left : Option (List ℕ)) (P : Image → List ℕ → Type 0) where
  -- a fact of all bytes is one of those that are given
  pub told_every : ((given : List ℕ) → Told past (λ now. P now given)) → Told past (λ now. OnGiven left (P now))
  told_every held = by past left held
    where
      by : (p : Option Past) (l : Option (List ℕ)) → ((given : List ℕ) → Told p (λ now. P now given)) → Told p (λ now. OnGiven l (P now))
      by None l held = tt
      by (Some p) (Some l) held = held l
      by (Some p) None held = ([], held [])

  pub told_given : OnGiven left (λ given. Told past (λ now. P now given)) → Told past (λ now. OnGiven left (P now))
  told_given held = by left held
    where
      by : (l : Option (List ℕ)) → OnGiven l (λ given. Told past (λ now. P now given)) → Told past (λ now. OnGiven l (P now))
      by (Some l) held = held
      by None held = told_map past (λ now. P now held.0) _ (λ now is. (held.0, is)) held.1

-- what doesn't speak of the bytes holds without them
pub given_out : {P : Type 0} (left : Option (List ℕ)) → OnGiven left (λ given. P) → P
given_out (Some left) held = held
given_out None held = held.1

-- ---- statuses

pub put_known : (result : Result (Unit {0}) PutFault) → IsTrue (is_any_status (put_status result))
put_known (Ok done) = refl
put_known (Err Source) = refl
put_known (Err (OfFile faults.Refused)) = refl
put_known (Err (OfFile faults.BadLength)) = refl
put_known (Err (OfFile faults.NoSpace)) = refl
put_known (Err (OfFile faults.Device)) = refl
put_known (Err (OfFile faults.Memory)) = refl

pub put_usage : (result : Result (Unit {0}) PutFault) → put_status result ≢ 1
put_usage (Ok done) is = cc
put_usage (Err Source) is = cc
put_usage (Err (OfFile faults.Refused)) is = cc
put_usage (Err (OfFile faults.BadLength)) is = cc
put_usage (Err (OfFile faults.NoSpace)) is = cc
put_usage (Err (OfFile faults.Device)) is = cc
put_usage (Err (OfFile faults.Memory)) is = cc

pub put_source : (before now : ℕ) (result : Result (Unit {0}) PutFault) → IfErr result (HasSourceCause before now) → put_status result ≡ 11 → Rose before now
put_source before now (Ok done) cause is = absurd cc
put_source before now (Err Source) cause is = cause
put_source before now (Err (OfFile faults.Refused)) cause is = absurd cc
put_source before now (Err (OfFile faults.BadLength)) cause is = absurd cc
put_source before now (Err (OfFile faults.NoSpace)) cause is = absurd cc
put_source before now (Err (OfFile faults.Device)) cause is = absurd cc
put_source before now (Err (OfFile faults.Memory)) cause is = absurd cc

-- a source that fails is no check's refusal
put_as : (verdict : Verdict) (result : Result (Unit {0}) PutFault) → AnswersAs verdict (file_status (file_answer result)) → AnswersAs verdict (put_status result)
put_as verdict (Ok done) is = is
put_as verdict (Err Source) is = inr (inr (inr refl))
put_as verdict (Err (OfFile fault)) is = is

pub halt_known : (halt : Halt) → IsTrue (is_any_status (status_of (Err halt)))
halt_known halts.Device = refl
halt_known halts.Refused = refl

pub halt_source : {P : Type 0} (halt : Halt) → status_of (Err halt) ≡ 11 → P
halt_source halts.Device is = absurd cc
halt_source halts.Refused is = absurd cc

-- ---- what is left

module _ {D : Type 0} (disks : Ghosts D) (old new : D) (time : ℕ) (given : List ℕ) (sectors : ℕ) (command : Command) where
  left_as : (result : Result (Unit {0}) PutFault) → LeavesBy disks old new time given sectors command (file_status (file_answer result)) → LeavesBy disks old new time given sectors command (put_status result)
  left_as (Ok done) is = is
  left_as (Err Source) is = record {
    done = told_all (disks.past old) _ (λ image none. absurd cc);
    empty = told_all (disks.past old) _ (λ image none whole. absurd cc);
    any_moment = is.any_moment;
    freeing = is.freeing;
    partly = is.partly;
    quiet = λ none writes. absurd cc;
    refused = λ why. is.refused refl;
    unwritten = is.unwritten;
    outside = is.outside;
    same = is.same;
    goes_on = is.goes_on;
    device = λ eight. absurd cc;
  }
  left_as (Err (OfFile fault)) is = is

module _ {D : Type 0} (disks : Ghosts D) (old : D) (device : Device) (path : List ℕ) (left : Option (List ℕ)) where
  -- no room was found
  module _ (halt : Halt) (new : D) where
    pub put_halted : (sectors : ℕ) → OnDisks disks old (λ now machine. Halts halt (room_of now machine device))
        → OnDisks disks old (λ now machine. OnGiven left (λ given. AnswersAs (command_verdict now machine given sectors (Put device path)) (status_of (Err halt))))
    put_halted sectors told = told_map (disks.past old) _ _
        (λ now halts. given-all (λ given. AnswersAs (command_verdict now (machine_of disks old) given sectors (Put device path)) (status_of (Err halt))) left
        (λ given. halted_answer given (Put device path) (addition device path (NewFile given)) (made_check (NewFile given) path) (makes_file given device path) now (machine_of disks old) sectors halt halts)) told

    pub put_halted_leaves : SameOf disks old new → disks.faults old ≤ disks.faults new → HasCause (disks.faults old) (disks.faults new) halt → (time sectors : ℕ)
        → OnGiven left (λ given. LeavesBy disks old new time given sectors (Put device path) (status_of (Err halt)))
    put_halted_leaves same later cause time sectors = given-all (λ given. LeavesBy disks old new time given sectors (Put device path) (status_of (Err halt))) left
        (λ given. halted_leaves given (Put device path) (addition device path (NewFile given)) (made_check (NewFile given) path) (makes_file given device path) disks old new same later halt cause time sectors)

  pub put_unasked : {I : Type 0} (source : I) → OnDisks disks old (λ now machine. asks_source now machine (Put device path) ≡ false → source ≡ source)
  put_unasked source = told_all (disks.past old) _ (λ now none. refl)

  module _ (mid new : D) (same : SameOf disks old mid) (later : disks.faults old ≤ disks.faults mid) (span : declared.Span)
      (room : Told (disks.past old) (λ now. room_of now (machine_of disks old) device ≡ Ok (span_view span))) where
    pub put_unread : {I : Type 0} (before after : I) → IsUnreadAt (disks.past mid) (span_view span) path before after
        → OnDisks disks old (λ now machine. asks_source now machine (Put device path) ≡ false → after ≡ before)
    put_unread before after unread = told_both (disks.past old) (λ now. room_of now (machine_of disks old) device ≡ Ok (span_view span))
        (λ now. checked_status (volume_check (new_check path) now (span_view span)) ≢ 0 → after ≡ before) _
        (λ now is alone none.
        alone (λ zero. let t = eq-eqb (checked_status (device_check (new_check path) now (machine_of disks old) device)) 0 (ap checked_status (by-room now (machine_of disks old) device (span_view span) is (new_check path)) ∙ zero) in
        let no : false ≡ true = sym none ∙ t in cc))
        room
        (told_before (disks.past old) (disks.past mid) (λ now. checked_status (volume_check (new_check path) now (span_view span)) ≢ 0 → after ≡ before) same.same_past unread)

    module _ (time : ℕ) (result : Result (Unit {0}) PutFault) (stores : OnGiven left (λ given. Stores disks mid new (span_view span) path given time (file_answer result))) where
      pub put_answers : (sectors : ℕ) → OnDisks disks old (λ now machine. OnGiven left (λ given. AnswersAs (command_verdict now machine given sectors (Put device path)) (put_status result)))
      put_answers sectors = told_given (disks.past old) left (λ now given. AnswersAs (command_verdict now (machine_of disks old) given sectors (Put device path)) (put_status result))
          (given-map (λ given. Stores disks mid new (span_view span) path given time (file_answer result))
          (λ given. Told (disks.past old) (λ now. AnswersAs (command_verdict now (machine_of disks old) given sectors (Put device path)) (put_status result))) left
          (λ given it.
          told_both (disks.past old) (λ now. room_of now (machine_of disks old) device ≡ Ok (span_view span)) (λ now. Answers (volume_check (made_check (NewFile given) path) now (span_view span)) (file_answer result)) _
          (λ now is answers.
          put_as (command_verdict now (machine_of disks old) given sectors (Put device path)) result
          (answer_of_file given (Put device path) (addition device path (NewFile given)) (made_check (NewFile given) path) (makes_file given device path) now (machine_of disks old) sectors (span_view span) is (file_answer result) answers))
          room
          (told_before (disks.past old) (disks.past mid) (λ now. Answers (volume_check (made_check (NewFile given) path) now (span_view span)) (file_answer result)) same.same_past it.answers))
          stores)

      pub put_leaves : (sectors : ℕ) → OnGiven left (λ given. LeavesBy disks old new time given sectors (Put device path) (put_status result))
      put_leaves sectors = given-map (λ given. Stores disks mid new (span_view span) path given time (file_answer result)) (λ given. LeavesBy disks old new time given sectors (Put device path) (put_status result)) left
          (λ given it.
          left_as disks old new time given sectors (Put device path) result
          (file_leaves given (Put device path) (addition device path (NewFile given)) (made_check (NewFile given) path) (makes_file given device path) disks old mid new same later span (file_answer result) room it.leaves it.unwritten time
          it.inode sectors))
          stores
