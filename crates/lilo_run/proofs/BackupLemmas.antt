-- `-u`: how its write ends.
use Rattle.std.proofs.Common.{◌≡◌, ◌≤◌, ℕ, inl, List, [], Option, Result, Ok, Err, refl, arith}
use Rattle.lilo_model.specs.Devices.{Device}
use Rattle.lilo_model.specs.Disks.{Image, Machine, Span, DiskSector}
use Rattle.lilo_model.specs.Faults.{Rose}
use Rattle.lilo_model.specs.Prompt.{Key}
use Rattle.lilo_model.specs.Refusal as refusals
use Rattle.lilo_model.specs.Refusal.{DeviceFault, Refusal}
use Rattle.lilo_model.specs.Verdict.{verdict_of}
use Rattle.stream_trait.specs.Shows.{Shows}
use Rattle.disk_trait.specs.declared.disks.Disks.{Ghosts}
use Rattle.disk_trait.specs.declared.disks.Phase.{Phase}
use Rattle.disk_trait.specs.declared.disks.Phase.TheVariants.{Before, Commit, After}
use Rattle.disk_trait.specs.Calls.{SameOf}
use Rattle.bios_model.proofs.WriteLemmas.{made_as}
use Rattle.mbr_table.specs.declared.table_fault.TableFault.TheVariants as tables
use Rattle.boot_backup.specs.View.{Restores}
use Rattle.boot_backup.specs.declared.restore_fault.RestoreFault.{RestoreFault}
use Rattle.boot_backup.specs.declared.restore_fault.RestoreFault.TheVariants as restores
use Rattle.lilo_run.specs.Refusal.{restore_verdict, halt_verdict}
use Rattle.lilo_run.specs.Run.{State, Carries, CarriedOut, LostBefore, LostAtCommit, HaltsAt}
use Rattle.lilo_run.specs.Verdict.{leaving, written_at, restored_at, restored_effect, restore_effect}
use Rattle.lilo_run.specs.declared.refusal.Halt.{Halt}
use Rattle.lilo_run.specs.declared.refusal.Halt.TheVariants.{Device as DeviceHalt, NoPlace, NotOurs, Boot}
use Rattle.lilo_run.proofs.RunLemmas.{carries_after}

module _ {D : Type 0} (g : Ghosts D) (status : ℕ) (keys : List Key) (old new : State D) where
  -- ---- the write

  -- the boot sector was written
  pub back_done :
      (place : DiskSector) (found : Result (List ℕ) Refusal) → Restores g old.disks new.disks place found (Ok tt)
      → status ≡ 0 → new.memory ≡ old.memory → Shows old.sink [] new.sink
      → Carries g (leaving keys (restored_effect (written_at place found))) status keys old new
  back_done place (Ok bytes) puts zero kept shown =
      CarriedOut (record { answer = zero; shown = shown; placed = λ is. kept }) refl (made_as g old.disks new.disks place bytes puts.writes)
  back_done place (Err refusal) puts zero kept shown = let is = puts.answer in absurd cc

  -- it was refused
  back_refused :
      (refusal : Refusal) (fault : RestoreFault) (place : DiskSector) (found : Result (List ℕ) Refusal) → found ≡ Err refusal
      → Restores g old.disks new.disks place found (Err fault)
      → status ≡ (verdict_of (Err refusal)).status → 1 ≤ status → Shows old.sink (verdict_of (Err refusal)).text new.sink
      → Carries g (leaving keys (restored_effect (written_at place found))) status keys old new
  back_refused refusal fault place (Ok bytes) is puts answer some told = absurd cc
  back_refused refusal fault place (Err given) is puts answer some told =
      let same : given ≡ refusal = cc in
      rw same (CarriedOut (record { answer = answer; shown = told; placed = λ zero. absurd (omega (arith, zero, some)) }) refl puts.writes)

  -- it wasn't written
  pub back_failed :
      (fault : RestoreFault) (place : DiskSector) (found : Result (List ℕ) Refusal) → Restores g old.disks new.disks place found (Err fault)
      → (let result : Result (Unit {0}) RestoreFault = Err fault in result ≡ Err (restores.Device Before) → SameOf g old.disks new.disks)
      → ((phase : Phase) → (let result : Result (Unit {0}) RestoreFault = Err fault in result ≡ Err (restores.Device phase)) → Rose (g.faults old.disks) (g.faults new.disks))
      → status ≡ (restore_verdict fault).status → 1 ≤ status → Shows old.sink (restore_verdict fault).text new.sink
      → Carries g (leaving keys (restored_effect (written_at place found))) status keys old new
  back_failed restores.NotOurs place found puts same failed answer some told = back_refused refusals.NotOurs restores.NotOurs place found puts.answer puts answer some told
  back_failed restores.NoVolume place found puts same failed answer some told = back_refused refusals.NoVolume restores.NoVolume place found puts.answer puts answer some told
  back_failed restores.Layout place found puts same failed answer some told = back_refused refusals.Layout restores.Layout place found puts.answer puts answer some told
  back_failed (restores.Place tables.Device) place found puts same failed answer some told = absurd puts.answer
  back_failed (restores.Place (tables.NoSignature sector)) place found puts same failed answer some told =
      back_refused _ (restores.Place (tables.NoSignature sector)) place found puts.answer puts answer some told
  back_failed (restores.Place (tables.OutsideDisk number)) place found puts same failed answer some told =
      back_refused _ (restores.Place (tables.OutsideDisk number)) place found puts.answer puts answer some told
  back_failed (restores.Place (tables.LoopedChain sector)) place found puts same failed answer some told =
      back_refused _ (restores.Place (tables.LoopedChain sector)) place found puts.answer puts answer some told
  back_failed (restores.Place tables.TooMany) place found puts same failed answer some told =
      back_refused _ (restores.Place tables.TooMany) place found puts.answer puts answer some told
  back_failed (restores.Place tables.UnknownDevice) place found puts same failed answer some told =
      back_refused _ (restores.Place tables.UnknownDevice) place found puts.answer puts answer some told
  back_failed (restores.Place (tables.NoPartition number)) place found puts same failed answer some told =
      back_refused _ (restores.Place (tables.NoPartition number)) place found puts.answer puts answer some told
  back_failed (restores.Place (tables.NoDisk disk)) place found puts same failed answer some told =
      back_refused _ (restores.Place (tables.NoDisk disk)) place found puts.answer puts answer some told
  back_failed (restores.Device Before) place found puts same failed answer some told =
      LostBefore (record { answer = answer; shown = inl told }) (record { same = same refl; rose = failed Before refl })
  back_failed (restores.Device Commit) place (Ok bytes) puts same failed answer some told =
      let lost = puts.lost refl in
      LostAtCommit (record { answer = answer; shown = inl told })
      (record { some = refl; before = lost.before; same = lost.same; later = lost.later; puts = lost.writes; rose = lost.rose })
  back_failed (restores.Device Commit) place (Err refusal) puts same failed answer some told = let is = puts.answer in absurd cc
  back_failed (restores.Device After) place found puts same failed answer some told = absurd puts.answer

  -- ---- the device

  -- it wasn't found
  pub back_unplaced :
      (now : Image) (machine : Machine) (root : Option Device) (device : Device) (place : Result Span DeviceFault) (halt : Halt) → HaltsAt halt place → SameOf g old.disks new.disks
      → (halt ≡ DeviceHalt → Rose (g.faults old.disks) (g.faults new.disks)) → status ≡ (halt_verdict halt).status → 1 ≤ status → Shows old.sink (halt_verdict halt).text new.sink
      → Carries g (leaving keys (restore_effect now machine root device place)) status keys old new
  unfolding restore_effect
  back_unplaced now machine root device place DeviceHalt halts same failed answer some told =
      LostBefore (record { answer = answer; shown = inl told }) (record { same = same; rose = failed refl })
  back_unplaced now machine root device place (NoPlace fault) halts same failed answer some told =
      rw halts (CarriedOut (record { answer = answer; shown = told; placed = λ zero. absurd (omega (arith, zero, some)) }) refl same)
  back_unplaced now machine root device place NotOurs halts same failed answer some told = absurd halts
  back_unplaced now machine root device place (Boot reason) halts same failed answer some told = absurd halts

  -- it lies here
  pub back_placed :
      (now : Image) (machine : Machine) (root : Option Device) (device : Device) (place : Result Span DeviceFault) (span : Span) (first : D)
      → place ≡ Ok span → SameOf g first old.disks → g.faults first ≤ g.faults old.disks
      → Carries g (leaving keys (restored_effect (restored_at now machine root device span))) status keys old new
      → Carries g (leaving keys (restore_effect now machine root device place)) status keys (record { disks = first; memory = old.memory; sink = old.sink; key_faults = old.key_faults }) new
  unfolding restore_effect
  back_placed now machine root device place span first is same later carries =
      rw is (carries_after g (leaving keys (restored_effect (restored_at now machine root device span))) status keys first old new same later carries)
