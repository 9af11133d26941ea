-- What a boot, `-R` and `-u` write, by their definitions.
use Rattle.std.proofs.Common.{◌≡◌, ◌⊎◌, ◌≤◌, ◌==◌, ◌&&◌, ℕ, Bool, true, false, not, nat_le, List, length, Option, None, Some, Result, Ok, Err, refl, sym, ap, subst, ◌∙◌, inl, inr, eqb-true}
use Rattle.std.proofs.lemmas.Bool.{and_parts, leb-true}
use Rattle.std.specs.Option.{option_and_then}
use Rattle.std.specs.Result.{result_ok}
use Rattle.boot_laws.proofs.Checks.{bind-given, told-given}
use Rattle.boot_backup.specs.Restore as restores
use Rattle.boot_backup.specs.Restore.{backup_refusal, is_backup, backup_at, backup_on, backup_of, restored_in}
use Rattle.lilo_model.specs.Boot.{present_line, slot_bytes_at, whole_boot}
use Rattle.lilo_model.specs.BootSector as maps
use Rattle.lilo_model.specs.BootSector.{BootSector, MapFault, boot_at}
use Rattle.lilo_model.specs.Checks.{◌>>=◌, require, with_fault}
use Rattle.lilo_model.specs.ConfVerdict.{volume_refusal}
use Rattle.lilo_model.specs.DefaultLine.{DefaultLine}
use Rattle.lilo_model.specs.Devices.{Device}
use Rattle.lilo_model.specs.Disks.{Image, Machine, Span, DiskSector}
use Rattle.lilo_model.specs.LineSector.{line_bytes, line_capacity, is_same_line}
use Rattle.lilo_model.specs.LineShots.{ShotFault, NotFound, judged_boot, length_check, shot_place}
use Rattle.lilo_model.specs.MinixFind.{find, file_block}
use Rattle.lilo_model.specs.MinixParts.{Volume, parts_of, volume_at, is_file}
use Rattle.lilo_model.specs.NamePlaces.{default_backup}
use Rattle.lilo_model.specs.Prompt.{Key}
use Rattle.lilo_model.specs.Refusal as refusals
use Rattle.lilo_model.specs.Refusal.{Refusal}
use Rattle.lilo_model.specs.Restored.{restored_sector}
use Rattle.lilo_model.specs.Settled.{is_foreign}
use Rattle.lilo_model.specs.Slots.{AddressFault, place_at}
use Rattle.lilo_model.specs.VolumeSearch.{Located, volume_place}
use Rattle.loader_core.specs.Report.{LineWrite, write_by, boot_write}
use Rattle.session_model.specs.Site.{Site}
use Rattle.session_model.specs.State.{line_by, line_in, line_place, place_by}
use Rattle.session_laws.specs.Given.{IsOther}
use Rattle.session_laws.specs.Turns.{ReadsSector}
use Rattle.session_laws.proofs.BootLines.{boot_line_law}

-- ---- a boot

-- it writes the line that it gives, in the line's sector, or nothing where that is the present one
pub data BootWrites (site : Site) (image : Image) (line : Option DefaultLine) (write : Option LineWrite) : Type 0 where
  KeepsLine : write ≡ None → line ≡ line_in site image → BootWrites site image line write
  PutsLine : (place : DiskSector) (new : DefaultLine) → write ≡ Some (record { place = place; bytes = line_bytes new }) → line_place site image ≡ Some place → line ≡ Some new
      → BootWrites site image line write

module _ (site : Site) (image : Image) (line : Option DefaultLine) where
  abbrev read : Result BootSector MapFault
  read = boot_at (image site.boot.disk site.boot.start)

  line-is : line_in site image ≡ line_by image site.machine read
  unfolding line_in
  line-is = refl

  place-is : line_place site image ≡ place_by site.machine read
  unfolding line_place
  place-is = refl

  write-is : boot_write image site.machine site.boot line ≡ write_by image site.machine read line
  unfolding boot_write
  write-is = refl

  abbrev Goes : Type 0
  Goes = BootWrites site image line (boot_write image site.machine site.boot line)

  -- where a line is read, its sector is there
  there : (boot : BootSector) (said : DefaultLine) → present_line image site.machine boot ≡ Some said → (place : DiskSector) × (place_at site.machine boot.line 0 ≡ Ok place)
  unfolding present_line slot_bytes_at
  there boot said is = by (place_at site.machine boot.line 0) refl
    where
      by : (found : Result DiskSector AddressFault) → place_at site.machine boot.line 0 ≡ found → (place : DiskSector) × (place_at site.machine boot.line 0 ≡ Ok place)
      by (Ok place) at = (place, at)
      by (Err fault) at = let none : ◌≡◌ {A = Option DefaultLine} None (Some said) = rw at at is in absurd cc

  puts-at : (boot : BootSector) → read ≡ Ok boot → (said new : DefaultLine) → present_line image site.machine boot ≡ Some said → line ≡ Some new → is_same_line said new ≡ false
      → (place : DiskSector) → place_at site.machine boot.line 0 ≡ Ok place → Goes
  puts-at boot is said new was gives differs place at =
      let write : write_by image site.machine (Ok boot) line ≡ Some (record { place = place; bytes = line_bytes new }) = rw (was, gives, differs, at) refl in
      PutsLine place new (write-is ∙ ap (λ (found : Result BootSector MapFault). write_by image site.machine found line) is ∙ write)
      (place-is ∙ ap (place_by site.machine) is ∙ ap result_ok at) gives

  puts : (boot : BootSector) → read ≡ Ok boot → (said new : DefaultLine) → present_line image site.machine boot ≡ Some said → line ≡ Some new → is_same_line said new ≡ false → Goes
  puts boot is said new was gives differs = let at = there boot said was in puts-at boot is said new was gives differs at.0 at.1

  keeps : (boot : BootSector) → read ≡ Ok boot → line ≡ line_in site image → (present : Option DefaultLine) → present_line image site.machine boot ≡ present → Goes
  keeps boot is same None was =
      let write : write_by image site.machine (Ok boot) line ≡ None = rw was refl in
      KeepsLine (write-is ∙ ap (λ (found : Result BootSector MapFault). write_by image site.machine found line) is ∙ write) same
  keeps boot is same (Some said) was = by (is_same_line said said) refl
    where
      gives : line ≡ Some said
      gives = same ∙ line-is ∙ ap (line_by image site.machine) is ∙ was

      by : (test : Bool) → is_same_line said said ≡ test → Goes
      by false differs = puts boot is said said was gives differs
      by true alike =
          let write : write_by image site.machine (Ok boot) line ≡ None = rw (was, gives, alike) refl in
          KeepsLine (write-is ∙ ap (λ (found : Result BootSector MapFault). write_by image site.machine found line) is ∙ write) same

  goes : (line ≡ line_in site image) ⊎ IsOther (line_in site image) line → (found : Result BootSector MapFault) → read ≡ found → Goes
  goes (inl same) (Err fault) is = KeepsLine (write-is ∙ ap (λ (found : Result BootSector MapFault). write_by image site.machine found line) is) same
  goes (inl same) (Ok boot) is = keeps boot is same (present_line image site.machine boot) refl
  goes (inr other) (Err fault) is =
      let none : ◌≡◌ {A = Option DefaultLine} None (Some other.one) = sym (line-is ∙ ap (line_by image site.machine) is) ∙ other.was in absurd cc
  goes (inr other) (Ok boot) is = puts boot is other.one other.other (sym (line-is ∙ ap (line_by image site.machine) is) ∙ other.was) other.is other.differs

pub boot_writes :
    (site : Site) (image : Image) (keys : List Key) (memory : ℕ)
    → BootWrites site image (whole_boot image site.machine site.boot keys memory).line (boot_write image site.machine site.boot (whole_boot image site.machine site.boot keys memory).line)
boot_writes site image keys memory =
    goes site image (whole_boot image site.machine site.boot keys memory).line (boot_line_law site image keys memory) (boot_at (image site.boot.disk site.boot.start)) refl

-- ---- -R

short : (text : List ℕ) → length_check text ≡ Ok tt → length text ≤ line_capacity
short text is = by (nat_le (length text) line_capacity) refl is
  where
    by : (test : Bool) → nat_le (length text) line_capacity ≡ test → length_check text ≡ Ok tt → length text ≤ line_capacity
    by true few is = leb-true (length text) line_capacity few
    by false many is = let never = rw many at is in absurd cc

judged : (text : List ℕ) (read : Result BootSector MapFault) (boot : BootSector) → judged_boot text read ≡ Ok boot → (read ≡ Ok boot) × (length text ≤ line_capacity)
judged text (Ok found) boot is =
    let given = bind-given (length_check text) (λ a. Ok found) boot is in
    let same : found ≡ boot = let last = given.2 in cc in
    (subst (λ (b : BootSector). ◌≡◌ {A = Result BootSector MapFault} (Ok found) (Ok b)) same refl, short text given.1)
judged text (Err (maps.BadTable entry)) boot is =
    let given = bind-given (length_check text) (λ a. Err (Rattle.lilo_model.specs.LineShots.BadTable entry)) boot is in
    let never = given.2 in absurd cc
judged text (Err maps.NotOurs) boot is = absurd cc
judged text (Err (maps.BadVersion version)) boot is = absurd cc
judged text (Err maps.BadLine) boot is = absurd cc

-- a line that has a place goes into the line's sector, and isn't too long
pub shot_there :
    (site : Site) (image : Image) (text : List ℕ) (place : DiskSector) → shot_place image site.machine site.boot text ≡ Ok place
    → (line_place site image ≡ Some place) × (length text ≤ line_capacity)
unfolding shot_place line_place
shot_there site image text place is =
    let given = bind-given (judged_boot text (boot_at (image site.boot.disk site.boot.start))) (λ boot. with_fault (λ fault. NotFound) (place_at site.machine boot.line 0)) place is in
    let both = judged text (boot_at (image site.boot.disk site.boot.start)) given.0 given.1 in
    let at = told-given (λ fault. NotFound) (place_at site.machine given.0.line 0) place given.2 in
    (ap (place_by site.machine) both.0 ∙ ap result_ok at, both.1)

-- ---- -u

-- what is restored is a backup's
pub restored_there :
    (image : Image) (machine : Machine) (root : Option Device) (device : Device) (span : Span) (bytes : List ℕ) → restored_in image machine root device span ≡ Ok bytes
    → (backup : List ℕ) × (backup_of image machine root (default_backup device) ≡ Ok backup) × (bytes ≡ restored_sector backup (image span.disk span.start))
unfolding restored_in
restored_there image machine root device span bytes is =
    let first = bind-given (require (not (is_foreign (image span.disk span.start))) refusals.NotOurs)
    (λ a. backup_of image machine root (default_backup device) >>= λ backup. Ok (restored_sector backup (image span.disk span.start))) bytes is in
    let second = bind-given (backup_of image machine root (default_backup device)) (λ backup. Ok (restored_sector backup (image span.disk span.start))) bytes first.2 in
    let same : restored_sector second.0 (image span.disk span.start) ≡ bytes = let last = second.2 in cc in
    (second.0, second.1, sym same)

-- which is a regular file of one sector on the volume that is found
pub record BackupRead (image : Image) (machine : Machine) (root : Option Device) (path backup : List ℕ) : Type 0 where
  pub place : Located
  pub searched : volume_place image machine root ≡ Ok place
  pub volume : Volume
  pub there : volume_at image place.span ≡ Ok volume
  pub reads : ReadsSector volume image path backup

checked : {F : Type 0} (test : Bool) (fault : F) → require test fault ≡ Ok tt → test ≡ true
checked true fault is = refl
checked false fault is = absurd cc

pub backup_read :
    (image : Image) (machine : Machine) (root : Option Device) (path backup : List ℕ) → backup_of image machine root path ≡ Ok backup → BackupRead image machine root path backup
unfolding backup_of backup_on backup_at
backup_read image machine root path backup is =
    let first = bind-given (with_fault volume_refusal (volume_place image machine root)) (λ place. backup_on image place.span path) backup is in
    let second = bind-given (with_fault (λ fault. refusals.Layout) (volume_at image first.0.span)) (λ volume. backup_at volume.layout (parts_of volume image) path) backup first.2 in
    let volume = second.0 in
    let parts = parts_of volume image in
    let third = bind-given (with_fault backup_refusal (find volume.layout parts path))
    (λ inode. require (is_backup (parts.node inode)) refusals.NotOurs >>= λ a. with_fault backup_refusal (file_block volume.layout parts (parts.node inode) 0)) backup second.2 in
    let fourth = bind-given (require (is_backup (parts.node third.0)) refusals.NotOurs) (λ a. with_fault backup_refusal (file_block volume.layout parts (parts.node third.0) 0)) backup third.2 in
    let both = and_parts (is_file (parts.node third.0)) ((parts.node third.0).size == 512) (checked (is_backup (parts.node third.0)) refusals.NotOurs fourth.1) in
    record {
      place = first.0;
      searched = told-given volume_refusal (volume_place image machine root) first.0 first.1;
      volume = volume;
      there = told-given (λ fault. refusals.Layout) (volume_at image first.0.span) volume second.1;
      reads = record {
        number = third.0;
        found = told-given backup_refusal (find volume.layout parts path) third.0 third.1;
        regular = both.0;
        size = eqb-true (parts.node third.0).size 512 both.1;
        read = told-given backup_refusal (file_block volume.layout parts (parts.node third.0) 0) backup fourth.2;
      };
    }
