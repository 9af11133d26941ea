-- What is left of the disks by reads, the write of the default line, and reads.
use Rattle.std.proofs.Common.{◌≡◌, ◌≤◌, ◌⊎◌, refl, sym, ◌∙◌, subst, ℕ, List, Option, None, Some, Result, Ok, Err, arith}
use Rattle.std.specs.Prelude.{IsErr, IsErrOf, true, false}
use Rattle.std.specs.Option.{option_map}
use Rattle.std.specs.Result.{result_ok}
use Rattle.lilo_model.proofs.RoseLemmas.{rose_after}
use Rattle.lilo_model.specs.DefaultLine.{DefaultLine}
use Rattle.lilo_model.specs.Disks.{Machine, DiskSector}
use Rattle.lilo_model.specs.Faults.{Rose}
use Rattle.lilo_model.specs.LineSector.{line_bytes, is_same_line}
use Rattle.lilo_model.specs.Slots.{AddressFault, Slot, place_at}
use Rattle.bios_model.specs.declared.bios.BiosFault.{BiosFault}
use Rattle.bios_model.specs.declared.bios.BiosFault.TheVariants as bios
use Rattle.bios_model.specs.Writes.{WritesFound}
use Rattle.disk_trait.specs.declared.disks.Disks.{Ghosts}
use Rattle.disk_trait.specs.declared.disks.Phase.{Phase}
use Rattle.disk_trait.specs.declared.disks.Phase.TheVariants.{Before, Commit, After}
use Rattle.disk_trait.specs.Past.{Image, Past, Told, with_sector, now_of}
use Rattle.disk_trait.specs.Moments.{IsTold, now, begun, IsQuiet, MayWrite, LeftOrWritten, LeavesOnly}
use Rattle.disk_trait.specs.NotWritten.{WritesNoOther}
use Rattle.disk_trait.specs.Calls.{SameOf, GoesOn, Writes, EndsWithFlush}
use Rattle.disk_trait.proofs.CallLemmas.{goes_on_join}
use Rattle.disk_trait.proofs.ToldLemmas.{told_map}
use Rattle.bios_model.proofs.WriteLemmas.{writes_place, made_as, refused_as, goes_on_read, found_after}
use Rattle.section_loader.specs.declared.reason.Halt.{Halt}
use Rattle.section_loader.specs.declared.reason.Halt.TheVariants.{Device, Refused}
use Rattle.section_loader.specs.declared.reason.Reason.{Reason}
use Rattle.prompt_loop.specs.declared.asking.Stop.{Stop}
use Rattle.prompt_loop.specs.declared.asking.Stop.TheVariants as stops
use Rattle.loader_core.specs.declared.outcome.Outcome.{Outcome}
use Rattle.loader_core.specs.declared.outcome.Outcome.TheVariants as outcomes
use Rattle.loader_core.specs.declared.outcome.Started.{Started}
use Rattle.loader_core.specs.Report.{LineWrite, line_write, image_with}
use Rattle.loader_core.specs.Leaves.{Puts, HasPut, LostIn, LostAfter, CameTo, Leaves, IsPast, LineWritten, WritesLine}
use Rattle.loader_core.specs.Start.{unasked, result_of, phase_of, IsLost}

module _ {D : Type 0} (g : Ghosts D) where
  pub same_self : (disks : D) → SameOf g disks disks
  same_self disks = record { same_past = refl; same_size = refl; same_count = refl; same_geometry = refl }

  pub same_join : (old mid new : D) → SameOf g old mid → SameOf g mid new → SameOf g old new
  same_join old mid new first next = record {
    same_past = next.same_past ∙ first.same_past;
    same_size = next.same_size ∙ first.same_size;
    same_count = next.same_count ∙ first.same_count;
    same_geometry = next.same_geometry ∙ first.same_geometry;
  }

  pub goes_on_self : (disks : D) → GoesOn g disks disks
  goes_on_self disks = goes_on_read g disks disks (same_self disks) (omega arith)

  -- what goes on after reads
  pub goes_on_after : (old mid new : D) → SameOf g old mid → g.faults old ≤ g.faults mid → GoesOn g mid new → GoesOn g old new
  goes_on_after old mid new same later next = goes_on_join g old mid new (goes_on_read g old mid same later) next

  -- ---- a write, and reads

  module _ (old mid new : D) (same : SameOf g mid new) (later : g.faults mid ≤ g.faults new) where
    writes_before :
        (disk sector : ℕ) (bytes : List ℕ) → Writes {E = Unit {0}} g old mid disk sector bytes (Ok tt)
        → Writes {E = Unit {0}} g old new disk sector bytes (Ok tt)
    writes_before disk sector bytes call = record {
      written = subst (λ (p : Option Past). IsTold (g.past old) → now p ≡ with_sector (now (g.past old)) disk sector bytes) (sym same.same_past) call.written;
      made = subst (λ (p : Option Past). (now p ≡ with_sector (now (g.past old)) disk sector bytes) ⊎ (now p ≡ now (g.past old))) (sym same.same_past) call.made;
      left = subst (λ (p : Option Past). MayWrite disk sector bytes (g.past old) p) (sym same.same_past) call.left;
      any_moment = subst (λ (p : Option Past). LeavesOnly (g.past old) p (LeftOrWritten (g.past old) disk sector bytes)) (sym same.same_past) call.any_moment;
      others = subst (λ (p : Option Past). WritesNoOther disk sector (g.past old) p) (sym same.same_past) call.others;
      goes_on = goes_on_join g old mid new call.goes_on (goes_on_read g mid new same later);
    }

    flushed_before : EndsWithFlush {E = Unit {0}} g old mid (Ok tt) → EndsWithFlush {E = Unit {0}} g old new (Ok tt)
    flushed_before call = record {
      quiet = subst (λ (p : Option Past). IsQuiet p) (sym same.same_past) call.quiet;
      durable = subst (λ (p : Option Past). begun p ≡ now p) (sym same.same_past) call.durable;
      failed = tt;
    }

    pub put_before : (write : Option LineWrite) → HasPut g old mid write → HasPut g old new write
    put_before None put = same_join old mid new put same
    put_before (Some write) put =
        writes_place g old new write.place write.bytes (Ok tt)
        (writes_before write.place.disk write.place.sector write.bytes put.writes)
        (flushed_before put.flushed)

    -- what is left once the write was made and a part that only reads ended so
    pub put_leaves :
        (write : Option LineWrite) (result : Result Started Halt) (phase : Phase) → HasPut g old mid write × IsPast write phase → g.faults old ≤ g.faults mid
        → (IsErrOf result Device → Rose (g.faults mid) (g.faults new)) → Leaves g old new write (unasked result) phase
    put_leaves write (Ok started) phase (put, past) early failed = put_before write put
    put_leaves None (Err Device) phase (put, past) early failed =
        subst (λ p. CameTo g old new None p) (sym past)
        (record { same = same_join old mid new put same; rose = rose_after (g.faults old) (g.faults mid) (g.faults new) early (failed refl) })
    put_leaves (Some write) (Err Device) phase (put, past) early failed =
        subst (λ p. CameTo g old new (Some write) p) (sym past)
        (record { some = refl; written = mid; put = put; same = same; later = later; rose = failed refl })
    put_leaves write (Err (Refused reason)) phase (put, past) early failed = put_before write put

  -- what is left where the write failed
  pub lost_leaves :
      (old new : D) (write : Option LineWrite) (phase : Phase) → LineWritten g old new write (Err Device) phase
      → Leaves g old new write (Err (stops.Halt Device)) phase
  lost_leaves old new write phase written = subst (λ p. CameTo g old new write p) (sym written.0) written.1

  -- ---- reads, and what comes after them

  puts_after :
      {E : Type 0} → (old mid new : D) → SameOf g old mid → g.faults old ≤ g.faults mid → (write : Option LineWrite) (result : Result (Unit {0}) E)
      → Puts g mid new write result → Puts g old new write result
  puts_after old mid new same later None result next = same_join old mid new same next
  puts_after old mid new same later (Some write) result call = found_after g old mid new write.bytes same later {F = Unit {0}} (Ok write.place) result call

  -- what was written where a device failed in the write, and after it
  pub lost_puts : (old new : D) (write : Option LineWrite) → LostIn g old new write → Puts {E = Unit {0}} g old new write (Err tt)
  lost_puts old new write lost = puts_after old lost.before new lost.same lost.later write (Err tt) lost.puts

  pub lost_put : (old new : D) (write : Option LineWrite) → LostAfter g old new write → HasPut g old new write
  lost_put old new write lost = put_before old lost.written new lost.same lost.later write lost.put

  module _ (old mid new : D) (same : SameOf g old mid) (later : g.faults old ≤ g.faults mid) where
    came_after : (write : Option LineWrite) (phase : Phase) → CameTo g mid new write phase → CameTo g old new write phase
    came_after write Before lost = record {
      same = same_join old mid new same lost.same;
      rose = rose_after (g.faults old) (g.faults mid) (g.faults new) later lost.rose;
    }
    came_after write Commit lost = record {
      some = lost.some;
      before = lost.before;
      same = same_join old mid lost.before same lost.same;
      later = let next = lost.later in omega (arith, later, next);
      puts = lost.puts;
      rose = lost.rose;
    }
    came_after write After lost = record {
      some = lost.some;
      written = lost.written;
      put = puts_after old mid lost.written same later write (Ok tt) lost.put;
      same = lost.same;
      later = lost.later;
      rose = lost.rose;
    }

    pub leaves_after :
        (write : Option LineWrite) (result : Result Started Stop) (phase : Phase) → Leaves g mid new write result phase
        → Leaves g old new write result phase
    leaves_after write (Ok started) phase next = puts_after old mid new same later write (Ok tt) next
    leaves_after write (Err stops.Keys) phase next = same_join old mid new same next
    leaves_after write (Err (stops.Halt Device)) phase next = came_after write phase next
    leaves_after write (Err (stops.Halt (Refused reason))) phase next = puts_after old mid new same later write (Ok tt) next

  -- what is left where only reads were made, and nothing was to be written
  pub read_leaves :
      (old new : D) (write : Option LineWrite) (halt : Halt) (phase : Phase) → SameOf g old new → (halt ≡ Device → Rose (g.faults old) (g.faults new))
      → phase ≡ Before → ((reason : Reason) → halt ≡ Refused reason → write ≡ None)
      → Leaves g old new write (Err (stops.Halt halt)) phase
  read_leaves old new write Device phase same failed begins none =
      subst (λ p. CameTo g old new write p) (sym begins) (record { same = same; rose = failed refl })
  read_leaves old new write (Refused reason) phase same failed begins none = subst (λ w. HasPut g old new w) (sym (none reason refl)) same

  -- ---- what the disks hold then

  told_by :
      (old mid : Option Past) (write : LineWrite) (P Q : Image → Type 0) → (IsTold old → IsTold mid)
      → (IsTold old → now mid ≡ with_sector (now old) write.place.disk write.place.sector write.bytes)
      → ((image : Image) → P (image_with image (Some write)) → Q image) → Told mid P → Told old Q
  unfolding IsTold now
  told_by None mid write P Q told is f have = tt
  told_by (Some old) None write P Q told is f have = absurd (told tt)
  told_by (Some old) (Some mid) write P Q told is f have =
      let same : now_of mid ≡ image_with (now_of old) (Some write) = is tt in
      f (now_of old) (subst P same have)

  -- a fact of what they hold once the line is written is one of what they held before, with the line written
  pub put_told :
      (old mid : D) (write : Option LineWrite) (P Q : Image → Type 0) → HasPut g old mid write
      → ((image : Image) → P (image_with image write) → Q image) → Told (g.past mid) P → Told (g.past old) Q
  put_told old mid None P Q put f have =
      told_map (g.past old) P Q f (subst (λ (p : Option Past). Told p P) put.same_past have)
  put_told old mid (Some write) P Q put f have =
      told_by (g.past old) (g.past mid) write P Q put.writes.goes_on.told put.writes.written f have

-- ---- the write of the default line

-- what is to be written in place of a line that differs
abbrev pub place_write : DefaultLine → Result DiskSector AddressFault → Option LineWrite
place_write new found = option_map (λ place. record { place = place; bytes = line_bytes new }) (result_ok found)

pub no_fault_is : (result : Result (Unit {0}) BiosFault) → result ≡ Ok tt → result ≡ Err bios.NotFound → ⊥
no_fault_is result fine lost = let h : ⊥ = cc in absurd h

module _ {D : Type 0} (g : Ghosts D) where
  pub line_kept :
      (disks : D) (machine : Machine) (slot : Slot) (line new : DefaultLine) (phase : Phase) → is_same_line line new ≡ true → phase ≡ Before
      → WritesLine g disks disks (line_write machine slot line new) (Ok tt) phase
  line_kept disks machine slot line new phase same begins =
      rw same (record { line = (same_self g disks, begins); goes_on = goes_on_read g disks disks (same_self g disks) (omega arith) })

  module _ (old new : D) (machine : Machine) (slot : Slot) (line to : DefaultLine) (differs : is_same_line line to ≡ false) (later : g.faults old ≤ g.faults new) where
    line_by :
        (result : Result (Unit {0}) Halt) (phase : Phase) → WritesLine g old new (place_write to (place_at machine slot 0)) result phase
        → WritesLine g old new (line_write machine slot line to) result phase
    line_by result phase written = rw differs written

    made_by :
        (found : Result DiskSector AddressFault) → WritesFound {E = BiosFault} g old new found (line_bytes to) (Ok tt) → (IsErr found → ⊥)
        → WritesLine g old new (place_write to found) (Ok tt) After
    made_by (Ok place) call there = record { line = (made_as g old new place (line_bytes to) call, refl); goes_on = call.writes.goes_on }
    made_by (Err fault) call there = absurd (there refl)

    missing_by :
        (found : Result DiskSector AddressFault) (error : BiosFault) (phase : Phase) → WritesFound g old new found (line_bytes to) (Err error) → IsErr found → phase ≡ Before
        → WritesLine g old new (place_write to found) (Ok tt) phase
    missing_by (Ok place) error phase call lost begins = let h : ⊥ = cc in absurd h
    missing_by (Err fault) error phase same lost begins = record { line = (same, begins); goes_on = goes_on_read g old new same later }

    failed_by :
        (found : Result DiskSector AddressFault) (error : BiosFault) → WritesFound g old new found (line_bytes to) (Err error) → (IsErr found → ⊥)
        → Rose (g.faults old) (g.faults new) → WritesLine g old new (place_write to found) (Err Device) Commit
    failed_by (Ok place) error call there rose = record {
      line = (
        refl,
        record { some = refl; before = old; same = same_self g old; later = omega arith; puts = refused_as g old new place (line_bytes to) error tt call; rose = rose },
        rose,
      );
      goes_on = call.writes.goes_on;
    }
    failed_by (Err fault) error call there rose = absurd (there refl)

    pub line_made :
        WritesFound {E = BiosFault} g old new (place_at machine slot 0) (line_bytes to) (Ok tt) → (IsErr (place_at machine slot 0) → ⊥)
        → WritesLine g old new (line_write machine slot line to) (Ok tt) After
    line_made call there = line_by (Ok tt) After (made_by (place_at machine slot 0) call there)

    pub line_missing :
        (error : BiosFault) (phase : Phase) → WritesFound g old new (place_at machine slot 0) (line_bytes to) (Err error) → IsErr (place_at machine slot 0) → phase ≡ Before
        → WritesLine g old new (line_write machine slot line to) (Ok tt) phase
    line_missing error phase call lost begins = line_by (Ok tt) phase (missing_by (place_at machine slot 0) error phase call lost begins)

    pub line_failed :
        (error : BiosFault) → WritesFound g old new (place_at machine slot 0) (line_bytes to) (Err error) → (IsErr (place_at machine slot 0) → ⊥)
        → Rose (g.faults old) (g.faults new) → WritesLine g old new (line_write machine slot line to) (Err Device) Commit
    line_failed error call there rose = line_by (Err Device) Commit (failed_by (place_at machine slot 0) error call there rose)

-- what is left, by what is written as another report has it
pub leaves_as :
    {D : Type 0} (g : Ghosts D) (old new : D) (result : Result Started Stop) (phase : Phase) (write same : Option LineWrite) → write ≡ same
    → Leaves g old new same result phase → Leaves g old new write result phase
leaves_as g old new result phase write same is left = subst (λ w. Leaves g old new w result phase) (sym is) left

-- what is left by a part that reads no disk
pub other_leaves :
    {D : Type 0} (g : Ghosts D) (old new : D) (write : Option LineWrite) (result : Result Started Halt) (phase : Phase) → write ≡ None → SameOf g old new
    → (IsErrOf result Device → ⊥) → Leaves g old new write (unasked result) phase
other_leaves g old new write (Ok started) phase none same fine = subst (λ w. HasPut g old new w) (sym none) same
other_leaves g old new write (Err Device) phase none same fine = absurd (fine refl)
other_leaves g old new write (Err (Refused reason)) phase none same fine = subst (λ w. HasPut g old new w) (sym none) same

-- where a part that takes no key ended as a device failed
pub lost_unasked : (end : Result Started Halt) (result : Result Started Stop) → result ≡ unasked end → IsErrOf result (stops.Halt Device) → IsErrOf end Device
lost_unasked (Ok started) result is lost = let h : ⊥ = cc in absurd h
lost_unasked (Err Device) result is lost = refl
lost_unasked (Err (Refused reason)) result is lost = let h : ⊥ = cc in absurd h

pub heard_unasked : (end : Result Started Halt) (result : Result Started Stop) → result ≡ unasked end → IsErrOf result stops.Keys → ⊥
heard_unasked (Ok started) result is lost = cc
heard_unasked (Err halt) result is lost = cc

-- ---- the outcome

-- what is left, by the outcome
pub leaves_so :
    {D : Type 0} (g : Ghosts D) (old new : D) (write : Option LineWrite) (outcome : Outcome) (end : Result Started Stop) (phase : Phase)
    → result_of outcome ≡ end → (IsLost end → phase_of outcome ≡ phase) → Leaves g old new write end phase
    → Leaves g old new write (result_of outcome) (phase_of outcome)
leaves_so g old new write (outcomes.Loaded layout) end phase is at left = subst (λ r. Leaves g old new write r phase) (sym is) left
leaves_so g old new write outcomes.Handed end phase is at left = subst (λ r. Leaves g old new write r phase) (sym is) left
leaves_so g old new write (outcomes.Refused reason) end phase is at left = subst (λ r. Leaves g old new write r phase) (sym is) left
leaves_so g old new write outcomes.Keys end phase is at left = subst (λ r. Leaves g old new write r phase) (sym is) left
leaves_so g old new write (outcomes.Device failed) end phase is at left =
    let same : failed ≡ phase = at (subst (λ r. IsLost r) is refl) in
    subst (λ p. Leaves g old new write (Err (stops.Halt Device)) p) (sym same) (subst (λ r. Leaves g old new write r phase) (sym is) left)
