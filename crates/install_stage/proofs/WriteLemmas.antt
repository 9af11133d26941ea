-- A block of a map's file that was written is the one that is given, where disks report their past; else none is known. What
-- caused a refusal.
use Rattle.std.proofs.Common.{◌≡◌, ◌<◌, ◌==◌, ℕ, true, false, if◌then◌else◌, List, refl, sym, ◌∙◌, subst, ⊎_elim, arith}
use Rattle.std.proofs.lemmas.Bool.{eq-eqb, ne_eqb}
use Rattle.disk_trait.specs.declared.disks.Disks.{Ghosts}
use Rattle.disk_trait.specs.Moments.{IsTold}
use Rattle.disk_trait.proofs.MomentLemmas.{told_or_not}
use Rattle.minix_create.specs.States.{IsReservedSince, WritesBlock, GoesWrong}
use Rattle.minix_create.specs.declared.chosen.Chosen.{Chosen}
use Rattle.minix_create.specs.declared.reserved.Reserved.{Reserved}
use Rattle.minix_create.proofs.StateLemmas.{later_wrong}
use Rattle.minix_choice.specs.View.{HasWriteCause}
use Rattle.minix_choice.specs.declared.write_fault.WriteFault.{WriteFault}
use Rattle.minix_zones.specs.Volume.{past_of, faults_of}
use Rattle.minix_zones.specs.declared.volume.Volume.{Volume}

module _ {D : Type 0} {disks : Ghosts D} (start : Volume D disks) where
  -- without a past any blocks are as good
  since-any : (reserved : Reserved D disks) (one other : ℕ → List ℕ) → (IsTold (past_of start) → ⊥) → IsReservedSince start one reserved → IsReservedSince start other reserved
  since-any reserved one other not since = record {
    quiet = since.quiet;
    free = since.free;
    steps = since.steps;
    marks = since.marks;
    blocks = λ told. absurd (not told);
    others = since.others;
  }

  pub since_written : (old new : Reserved D disks) (bytes : List ℕ) (given : ℕ → List ℕ) → WritesBlock old new bytes → (IsTold (past_of start) → bytes ≡ given old.next)
      → IsReservedSince start given old → IsReservedSince start given new
  since_written old new bytes given wrote is since = ⊎_elim
      (λ told. wrote.since start given (is told) since)
      (λ not. since-any new (λ index. bytes) given not (wrote.since start (λ index. bytes) refl (since-any old given (λ index. bytes) not since)))
      (told_or_not (past_of start))

  -- ---- whichever blocks they are

  -- some, but for one
  abbrev with-one : (ℕ → List ℕ) → ℕ → List ℕ → ℕ → List ℕ
  with-one given at bytes index = if index == at then bytes else given index

  with-here : (given : ℕ → List ℕ) (at : ℕ) (bytes : List ℕ) → with-one given at bytes at ≡ bytes
  with-here given at bytes = let same : (at == at) ≡ true = eq-eqb at at refl in rw same refl

  since-one : (old : Reserved D disks) (bytes : List ℕ) (given : ℕ → List ℕ) → IsReservedSince start given old → IsReservedSince start (with-one given old.next bytes) old
  since-one old bytes given since = record {
    quiet = since.quiet;
    free = since.free;
    steps = since.steps;
    marks = since.marks;
    blocks = λ told index low some. since.blocks told index low some ∙ sym (before index low);
    others = since.others;
  }
    where
      before : (index : ℕ) → index < old.next → with-one given old.next bytes index ≡ given index
      before index low = let apart : (index == old.next) ≡ false = ne_eqb index old.next (λ same. omega (arith, same, low)) in rw apart refl

  pub some_written : (old new : Reserved D disks) (bytes : List ℕ) → WritesBlock old new bytes
      → (given : ℕ → List ℕ) × IsReservedSince start given old → (given : ℕ → List ℕ) × IsReservedSince start given new
  some_written old new bytes wrote some =
      (with-one some.0 old.next bytes, wrote.since start (with-one some.0 old.next bytes) (sym (with-here some.0 old.next bytes)) (since-one old bytes some.0 some.1))

  -- ---- the cause of a refusal

  pub wrong_cause : (new : Volume D disks) (chosen : Chosen) (fault : WriteFault) → GoesWrong start new chosen fault → HasWriteCause (faults_of start) (faults_of new) fault
  wrong_cause new chosen fault wrong = subst (HasWriteCause (faults_of start) (faults_of new)) (sym wrong.device) wrong.rose

  pub later_cause : (reserved : Reserved D disks) → (given : ℕ → List ℕ) × IsReservedSince start given reserved → (new : Volume D disks) (fault : WriteFault)
      → GoesWrong reserved.volume new reserved.chosen fault → HasWriteCause (faults_of start) (faults_of new) fault
  later_cause reserved some new fault wrong =
      let since = some.1 in
      wrong_cause new reserved.chosen fault (later_wrong start reserved.chosen some.0 since.quiet since.free reserved.volume new fault since.steps since.others wrong)
