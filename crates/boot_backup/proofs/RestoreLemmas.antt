-- A backup's only block, and what is left of a boot sector's write after reads.
use Rattle.std.proofs.Common.{◌≡◌, ◌≤◌, ◌∙◌, ℕ, true, List, Result, Ok, Err, refl, sym, ap, subst, arith}
use Rattle.std.specs.Prelude.{IfErr, get_or}
use Rattle.lilo_model.specs.Disks.{DiskSector}
use Rattle.lilo_model.specs.Faults.{Rose}
use Rattle.lilo_model.specs.MinixLayout.{Inode}
use Rattle.lilo_model.specs.MinixFind.{bytes_in_block}
use Rattle.lilo_model.specs.Refusal.{Refusal}
use Rattle.disk_trait.specs.declared.disks.Disks.{Ghosts}
use Rattle.disk_trait.specs.declared.disks.Phase.{Phase}
use Rattle.disk_trait.specs.declared.disks.Phase.TheVariants.{Before, Commit, After}
use Rattle.disk_trait.specs.Calls.{SameOf, GoesOn, Writes, EndsWithFlush}
use Rattle.disk_trait.proofs.CallLemmas.{goes_on_join}
use Rattle.mbr_table.specs.declared.table_fault.TableFault.{TableFault}
use Rattle.bios_model.specs.Writes.{WritesPlace}
use Rattle.bios_model.proofs.WriteLemmas.{found_unwritten, found_after, refused_as, goes_on_read}
use Rattle.boot_backup.specs.declared.restore_fault.RestoreFault.{RestoreFault}
use Rattle.boot_backup.specs.declared.restore_fault.RestoreFault.TheVariants.{NotOurs, NoVolume, Place, Layout, Device}
use Rattle.boot_backup.specs.Restore.{is_backup}
use Rattle.boot_backup.specs.View.{IsFault, HasCause, WritesBytes, LostIn, Restores}

-- the bytes of a backup in its first block are 512
pub sector_in_block : (inode : Inode) (count : ℕ) → count ≡ bytes_in_block inode.size 0 → is_backup inode ≡ true → count ≡ 512
sector_in_block inode count counts is = grind (arith, is, counts)

-- ---- the write

-- its fault is the disk's, and the count rose
pub rose_failed :
    (a b c : ℕ) (phase : Phase) (result : Result (Unit {0}) RestoreFault) → a ≤ b → result ≡ Err (Device phase)
    → IfErr result (λ fault. (fault ≡ Device Commit) × Rose b c) → Rose a c
rose_failed a b c phase (Ok done) le is failed = let h : ⊥ = cc in absurd h
rose_failed a b c phase (Err fault) le is failed = λ below. let less = failed.1 below in omega (arith, le, less)

pub not_before :
    (b c : ℕ) (result : Result (Unit {0}) RestoreFault) → result ≡ Err (Device Before)
    → IfErr result (λ fault. (fault ≡ Device Commit) × Rose b c) → ⊥
not_before b c (Ok done) is failed = cc
not_before b c (Err fault) is failed = let same = failed.0 in cc

pub not_placed :
    (b c : ℕ) (fault : TableFault) (result : Result (Unit {0}) RestoreFault) → result ≡ Err (Place fault)
    → IfErr result (λ fault. (fault ≡ Device Commit) × Rose b c) → ⊥
not_placed b c fault (Ok done) is failed = cc
not_placed b c fault (Err other) is failed = let same = failed.0 in cc

module _ {D : Type 0} (disks : Ghosts D) (old mid : D) (place : DiskSector) (same : SameOf disks old mid) (later : disks.faults old ≤ disks.faults mid) where
  unwritten : (found : Result (List ℕ) Refusal) (fault : RestoreFault) → WritesBytes disks old mid place found (Err fault)
  unwritten (Ok bytes) fault = found_unwritten disks old mid bytes {F = Refusal} (Ok place) fault same later
  unwritten (Err refusal) fault = same

  -- nothing was written
  pub restores_none :
      (found : Result (List ℕ) Refusal) (fault : RestoreFault) → IsFault fault found → HasCause (disks.faults old) (disks.faults mid) fault
      → Restores disks old mid place found (Err fault)
  restores_none found NotOurs is cause = record { answer = is; writes = unwritten found NotOurs; lost = λ lost. let h : ⊥ = cc in absurd h }
  restores_none found NoVolume is cause = record { answer = is; writes = unwritten found NoVolume; lost = λ lost. let h : ⊥ = cc in absurd h }
  restores_none found (Place fault) is cause = record { answer = is; writes = unwritten found (Place fault); lost = λ lost. let h : ⊥ = cc in absurd h }
  restores_none found Layout is cause = record { answer = is; writes = unwritten found Layout; lost = λ lost. let h : ⊥ = cc in absurd h }
  restores_none found (Device Before) is cause = record { answer = is; writes = unwritten found (Device Before); lost = λ lost. let h : ⊥ = cc in absurd h }
  restores_none found (Device Commit) is cause = absurd cause
  restores_none found (Device After) is cause = absurd cause

  -- a sector was written, or the disk failed in that
  pub restores_after :
      (new : D) (found : Result (List ℕ) Refusal) (bytes : List ℕ) (result : Result (Unit {0}) RestoreFault) → found ≡ Ok bytes
      → WritesPlace disks mid new place bytes result
      → IfErr result (λ fault. (fault ≡ Device Commit) × Rose (disks.faults mid) (disks.faults new))
      → Restores disks old new place found result
  restores_after new (Err refusal) bytes result is writes failed = absurd (let h : ⊥ = cc in h)
  restores_after new (Ok given) bytes (Ok done) is writes failed =
      let told : given ≡ bytes = cc in
      rw told (record {
        answer = refl;
        writes = found_after disks old mid new bytes same later {F = Refusal} (Ok place) (Ok done) writes;
        lost = λ lost. let h : ⊥ = cc in absurd h;
      })
  restores_after new (Ok given) bytes (Err fault) is writes failed =
      let told : given ≡ bytes = cc in
      rw (told, failed.0) (record {
        answer = refl;
        writes = found_after disks old mid new bytes same later {F = Refusal} (Ok place) (Err (Device Commit)) (rw failed.0 at writes);
        lost = λ lost. record { before = mid; same = same; later = later; writes = refused_as disks mid new place bytes fault tt writes; rose = failed.1 };
      })
