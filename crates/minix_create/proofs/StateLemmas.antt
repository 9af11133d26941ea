-- What each call of a creation answers.
use Rattle.std.proofs.Common.{◌≡◌, ◌≤◌, ◌<◌, ◌+◌, ◌*◌, ℕ, Bool, true, false, nat_lt, List, length, Option, Some, None, Result, Ok, Err, refl, sym, ◌∙◌, subst, arith}
use Rattle.std.specs.Prelude.{if◌then◌else◌, IfOk, IfErr}
use Rattle.std.proofs.Math.Path.{subst₂}
use Rattle.std.specs.Prelude.{slice_index}
use Rattle.lilo_model.proofs.RoseLemmas.{rose_after}
use Rattle.disk_trait.specs.declared.disks.Disks.{Ghosts}
use Rattle.disk_trait.specs.declared.disks.Span.{Span}
use Rattle.disk_trait.specs.Moments.{IsTold, IsQuiet}
use Rattle.disk_trait.specs.NotWritten.{NotWritten, IsOther}
use Rattle.disk_trait.specs.Range.{IsOutside}
use Rattle.disk_trait.proofs.NotWrittenLemmas.{not_written_join}
use Rattle.lilo_model.specs.MinixLayout.{inode_place, zone_sector}
use Rattle.minix_steps.specs.Numbers.{has_number}
use Rattle.minix_choice_laws.specs.Choice.{file_of}
use Rattle.minix_fill.specs.Fill.{FillsFile, MayGetName, IsFitThen}
use Rattle.minix_choice_laws.specs.Sources.{Block}
use Rattle.minix_layout.specs.View.{kind_view, super_view}
use Rattle.minix_layout.specs.declared.superblock.Super.{Super}
use Rattle.minix_steps.specs.StepLaws.{OneZone}
use Rattle.minix_steps.specs.Steps.{Steps}
use Rattle.minix_steps.specs.Written.{parts_now}
use Rattle.minix_steps.proofs.ReadyLemmas.{quiet_ready}
use Rattle.minix_steps.proofs.StepLemmas.{steps_join}
use Rattle.minix_turns.proofs.JoinedLemmas.{steps_unseen}
use Rattle.minix_choice.specs.View.{HasWriteCause}
use Rattle.minix_choice.specs.declared.write_fault.WriteFault.{WriteFault}
use Rattle.minix_choice.specs.declared.write_fault.WriteFault.TheVariants as faults
use Rattle.minix_choice.specs.declared.write_fault.WriteFault.TheVariants.{Device}
use Rattle.minix_zones.specs.Volume.{volume_view, past_of, faults_of, KeepsVolume, HasDeviceCause}
use Rattle.minix_zones.specs.declared.volume.Volume.{Volume}
use Rattle.minix_zones.specs.declared.zone_fault.ZoneFault.{ZoneFault}
use Rattle.minix_zones.specs.declared.zone_fault.ZoneFault.TheVariants as zones
use Rattle.minix_create.specs.Chosen.{Suits, IsFreeNow, IsNextBlock, MayBeMade, new_inode}
use Rattle.minix_create.specs.Created.{IsFilled, IsOffFile, MarksChosen}
use Rattle.minix_create.specs.Linked.{LinksFilled}
use Rattle.minix_create.specs.States.{IsInHand, IsReservedSince, Reserves, WritesBlock, Fills, GoesWrong, Links, LinkHalts, CreatesOn, CreatesFile, CreationHalts}
use Rattle.minix_create.specs.declared.chosen.Chosen.{Chosen}
use Rattle.minix_create.specs.declared.filled.Filled.{Filled}
use Rattle.minix_create.specs.declared.linked.Linked.{Linked}
use Rattle.minix_choice.specs.declared.halt.WriteHalt.{WriteHalt}
use Rattle.minix_create.specs.declared.reserved.Reserved.{Reserved}
use Rattle.minix_create.proofs.ChosenLemmas.{few_blocks}
use Rattle.minix_create.proofs.FillLemmas.{filled_with, fill_done, off_indirect_of}
use Rattle.minix_create.proofs.FromLemmas.{file_zone, has_one}
use Rattle.minix_create.proofs.GrownLemmas.{may_grow_steps, may_grow_begun}
use Rattle.minix_create.proofs.EnterLemmas.{unseen_refused, unseen_before}
use Rattle.minix_create.proofs.OpenLemmas.{suits_kept, suits_was, marked_open, marked_reserved, block_open, block_reserved}

-- a sector that isn't of the file isn't either on the volume as it is kept
pub off_kept : {D : Type 0} {disks : Ghosts D} (old new : Volume D disks) (chosen : Chosen) → KeepsVolume old new → (d s : ℕ) → IsOffFile old chosen d s → IsOffFile new chosen d s
off_kept old new chosen kept d s off =
    let B : Span → Super → Type 0 = λ span layout. IsOutside span.disk (span.start + 4) (2 * (layout.imap + layout.zmap)) d s in
    let Z : Span → Super → Type 0 = λ span layout. (zone : ℕ) → has_number chosen.choice.zones zone ≡ true → IsOutside span.disk (span.start + zone_sector zone) 2 d s in
    let I : Span → Super → Type 0 = λ span layout. IsOther span.disk (span.start + (inode_place (super_view layout) chosen.choice.inode).sector) d s in
    record {
      bitmaps = subst₂ B (sym kept.same_span) (sym kept.same_layout) off.bitmaps;
      zones = subst₂ Z (sym kept.same_span) (sym kept.same_layout) off.zones;
      inode = subst₂ I (sym kept.same_span) (sym kept.same_layout) off.inode;
    }

-- ---- the bits

module _ {D : Type 0} {disks : Ghosts D} (start new : Volume D disks) (chosen : Chosen) where
  pub reserves_ok : Suits start.layout start.span chosen → IsQuiet (past_of start) → (IsTold (past_of start) → IsFreeNow start chosen) → MarksChosen start new chosen (Ok tt)
      → (next : ℕ) → IsNextBlock chosen.choice.blocks 0 next → Reserves start chosen (record { volume = new; chosen = chosen; next = next })
  reserves_ok suits quiet free marks next is = record {
    same = refl;
    hand = record { may = marked_open start chosen suits quiet free new marks; some = is.some; there = is.there };
    since = λ given. marked_reserved start chosen suits quiet free new marks given next (λ index low. is.holes index (omega arith) low);
  }

  pub marks_wrong : (fault : ZoneFault) → MarksChosen start new chosen (Err fault) → GoesWrong start new chosen Device
  marks_wrong fault marks = record { steps = marks.steps; others = λ d s off. marks.others d s off.bitmaps; device = refl; rose = marks.device.1 }

-- ---- a block

module _ {D : Type 0} {disks : Ghosts D} (old new : Volume D disks) (chosen : Chosen) (index : ℕ) (hand : IsInHand (record { volume = old; chosen = chosen; next = index })) (left : index < length chosen.choice.blocks)
    (steps : Steps old new)
    (others : (d s : ℕ) → IsOutside old.span.disk (old.span.start + zone_sector (slice_index chosen.choice.blocks index)) 2 d s → NotWritten (past_of old) (past_of new) d s) where
  pub writes_ok : (bytes : List ℕ) → (IsTold (past_of old) → OneZone (volume_view old) (parts_now old) (parts_now new) (slice_index chosen.choice.blocks index) bytes)
      → (next : ℕ) → IsNextBlock chosen.choice.blocks (index + 1) next
      → WritesBlock (record { volume = old; chosen = chosen; next = index }) (record { volume = new; chosen = chosen; next = next }) bytes
  writes_ok bytes one next is = record {
    same = refl;
    further = let from = is.from_on in omega (arith, from);
    hand = record { may = block_open old chosen hand.may index (hand.some left) new bytes steps one; some = is.some; there = is.there };
    since = λ start given same reserved.
        block_reserved old chosen hand.may index (hand.some left) new bytes steps one start given (suits_was start old chosen reserved.steps.kept hand.may.suits) same reserved others
        next (λ at past low. is.holes at (omega (arith, past)) low);
  }

  pub block_wrong : (fault : ZoneFault) → HasDeviceCause {T = Unit {0}} old new zones.Device (Err fault) → GoesWrong old new chosen Device
  block_wrong fault device = record {
    steps = steps;
    others = λ d s off. others d s
        (off.zones (slice_index chosen.choice.blocks index)
        (has_one chosen.choice.zones _ (file_zone (kind_view old.layout.kind) hand.may.suits.made chosen.choice hand.may.suits.file (Block index) (hand.some left))));
    device = refl;
    rose = device.1;
  }

-- ---- the whole file

module _ {D : Type 0} {disks : Ghosts D} (old new : Volume D disks) (chosen : Chosen) (next : ℕ) (hand : IsInHand (record { volume = old; chosen = chosen; next = next })) (all : length chosen.choice.blocks ≤ next) where
  pub fills_ok : FillsFile old new chosen.choice.inode (new_inode chosen) (file_of chosen.choice) (Ok tt) → IsFitThen old new chosen.choice.inode (new_inode chosen) (file_of chosen.choice) (Ok tt)
      → MayGetName old new chosen.choice.inode (new_inode chosen) (file_of chosen.choice) (Ok tt)
      → Fills (record { volume = old; chosen = chosen; next = next }) (record { volume = new; chosen = chosen })
  fills_ok fills fit stands = record {
    same = refl;
    place = record {
      suits = suits_kept old new chosen fills.steps.kept hand.may.suits;
      quiet = fills.quiet;
      grows = λ told. may_grow_begun new chosen fills.durable (may_grow_steps old new chosen.directory chosen.choice.place chosen.choice.growth fills.steps hand.may.grows told);
    };
    since = λ start given made reserved.
        let suits = suits_was start old chosen reserved.steps.kept hand.may.suits in
        let M : Super → Type 0 = λ layout. MayBeMade (kind_view layout.kind) chosen given in
        fill_done start old new chosen given next hand.may reserved suits all fills
        (λ told.
        filled_with start old new chosen given next hand.may reserved suits all fills told (few_blocks old.layout old.span chosen hand.may.suits)
        (subst M (sym reserved.steps.kept.same_layout) (made told)) fit stands);
  }

  pub fill_wrong : (fault : ZoneFault) → FillsFile old new chosen.choice.inode (new_inode chosen) (file_of chosen.choice) (Err fault) → GoesWrong old new chosen Device
  fill_wrong fault fills = record {
    steps = fills.steps;
    others = λ d s off. fills.others d s (off_indirect_of old chosen hand.may.suits d s off) off.inode;
    device = refl;
    rose = fills.device.1;
  }

-- ---- a refusal after a file was reserved

module _ {D : Type 0} {disks : Ghosts D} (start : Volume D disks) (chosen : Chosen) (given : ℕ → List ℕ) (quiet : IsQuiet (past_of start)) (free : IsTold (past_of start) → IsFreeNow start chosen) where
  pub wrong_creates : (new : Volume D disks) (fault : WriteFault) → GoesWrong start new chosen fault → CreatesOn start new chosen given (Err fault)
  wrong_creates new fault wrong outer nests may = record {
    leads = unseen_refused start new _ _ _ fault (steps_unseen start new quiet (λ told. (free told).sound) wrong.steps);
    before = unseen_before start new outer chosen (steps_unseen start new quiet (λ told. (free told).sound) wrong.steps) may;
    above = λ told. tt;
    marks = λ told. tt;
    made = λ told. tt;
    nodes = λ told. tt;
    node = λ told. tt;
    lies = λ told. tt;
    holds = λ told. tt;
    others = λ told d s off. wrong.others d s off.file;
    device = λ told. (wrong.device, wrong.rose);
  }

  pub later_wrong : (old new : Volume D disks) (fault : WriteFault) → Steps start old → ((d s : ℕ) → IsOffFile start chosen d s → NotWritten (past_of start) (past_of old) d s) → GoesWrong old new chosen fault
      → GoesWrong start new chosen fault
  later_wrong old new fault steps others wrong = record {
    steps = steps_join start old new (quiet_ready start quiet (λ told. (free told).sound)) steps wrong.steps;
    others = λ d s off. not_written_join (past_of start) (past_of old) (past_of new) d s (others d s off) (wrong.others d s (off_kept start old chosen steps.kept d s off));
    device = wrong.device;
    rose = rose_after (faults_of start) (faults_of old) (faults_of new) steps.goes_on.later wrong.rose;
  }

-- ---- all of it

-- a cause since a later moment is one since an earlier
cause_since : (before mid after : ℕ) → before ≤ mid → (fault : WriteFault) → HasWriteCause mid after fault → HasWriteCause before after fault
cause_since before mid after later (faults.NoSpace need found) cause = tt
cause_since before mid after later faults.NoInode cause = tt
cause_since before mid after later faults.NameTooLong cause = tt
cause_since before mid after later faults.Exists cause = tt
cause_since before mid after later faults.Links cause = tt
cause_since before mid after later (faults.Tree fault) cause = tt
cause_since before mid after later faults.Device cause = rose_after before mid after later cause
cause_since before mid after later faults.Memory cause = tt

-- the next block, by what was answered
pub next_is : (next len index : ℕ) (answer : Option ℕ) → answer ≡ (if nat_lt next len then Some next else None) → answer ≡ Some index → index ≡ next
next_is next len index answer is some = by (nat_lt next len) refl
  where
    by : (test : Bool) → nat_lt next len ≡ test → index ≡ next
    by true e = let t = rw e at is in cc
    by false e = let t = rw e at is in cc

module _ {D : Type 0} {disks : Ghosts D} (start : Volume D disks) (given : ℕ → List ℕ) (chosen : Chosen) (reserved : Reserved D disks) (same : reserved.chosen ≡ chosen) (since : IsReservedSince start given reserved) where
  pub since_halts : (new : Volume D disks) (fault : WriteFault) → GoesWrong reserved.volume new reserved.chosen fault → CreatesOn start new chosen given (Err fault)
  since_halts new fault wrong =
      let P : Chosen → Type 0 = λ it. CreatesOn start new it given (Err fault) in
      subst P same
      (wrong_creates start reserved.chosen given since.quiet since.free new fault
      (later_wrong start reserved.chosen given since.quiet since.free reserved.volume new fault since.steps since.others wrong))

  module _ (made : IsTold (past_of start) → MayBeMade (kind_view start.layout.kind) chosen given) (filled : Filled D disks) (fills : Fills reserved filled) where
    filled_since : IsFilled start filled.volume filled.chosen given
    filled_since =
        let M : Chosen → Type 0 = λ it. IsTold (past_of start) → MayBeMade (kind_view start.layout.kind) it given in
        fills.since start given (subst M (sym same) made) since

    creates : (new : Volume D disks) (result : Result (Unit {0}) WriteFault) → LinksFilled filled.volume new filled.chosen result → CreatesOn start new chosen given result
    creates new result links =
        let P : Chosen → Type 0 = λ it. CreatesOn start new it given result in
        subst P (fills.same ∙ same) (λ outer nests may. links start outer given filled_since nests may)

    pub created_cause : (result : Result (Volume D disks × Linked) (WriteHalt D disks)) → IfErr result (λ halt. HasWriteCause (faults_of filled.volume) (faults_of halt.volume) halt.fault)
        → IfErr result (λ halt. HasWriteCause (faults_of start) (faults_of halt.volume) halt.fault)
    created_cause (Ok linked) cause = tt
    created_cause (Err halt) cause = cause_since (faults_of start) (faults_of filled.volume) (faults_of halt.volume) filled_since.steps.goes_on.later halt.fault cause

    pub created_ok : (result : Result (Volume D disks × Linked) (WriteHalt D disks)) → IfOk result (Links filled) → IfOk result (CreatesFile start chosen given)
    created_ok (Ok linked) links = record {
      inode = let N : Chosen → Type 0 = λ it. linked.1.inode ≡ it.choice.inode in subst N (fills.same ∙ same) links.inode;
      quiet = links.quiet;
      creates = creates linked.0 (Ok tt) links.creates;
    }
    created_ok (Err halt) links = tt

    pub created_err : (result : Result (Volume D disks × Linked) (WriteHalt D disks)) → IfErr result (LinkHalts filled) → IfErr result (CreationHalts start chosen given)
    created_err (Ok linked) halts = tt
    created_err (Err halt) halts = creates halt.volume (Err halt.fault) halts.creates
