-- What a session's images keep.
use Rattle.std.proofs.Common.{◌≡◌, ◌≢◌, ◌⊎◌, ◌<◌, ◌≤◌, ℕ, ◌+◌, ◌==◌, Bool, true, false, not, ◌&&◌, ◌||◌, if◌then◌else◌, List, [], ◌∷◌, map, filter, length, drop, Option, None, Some, Result, Ok, Err, refl, sym, ap, subst, ◌∙◌, arith, inl, inr, get_or, length-take}
use Rattle.std.specs.List.{All}
use Rattle.std.proofs.lemmas.List.Elements.{All-from_recursion}
use Rattle.lilo_model.specs.Bytes.{part_of, with_part, number16}
use Rattle.lilo_model.specs.BootSector.{BootSector, MapFault, NotOurs, BadVersion, BadTable, boot_at, has_signature, is_bootable, is_whole}
use Rattle.lilo_model.specs.Clear.{Clear, IsClearPlace, IsPlain, IsOfZone}
use Rattle.lilo_model.specs.Disks.{Image, DiskSector, with_sector}
use Rattle.lilo_model.specs.Mapped.{behind_sector, mapped_sectors}
use Rattle.lilo_model.specs.MinixNames.{Refers, IsSound}
use Rattle.lilo_model.specs.MinixParts.{Pointer, parts_of}
use Rattle.lilo_model.specs.Restored.{restored_sector}
use Rattle.lilo_model.specs.Settled.{says_foreign, is_foreign}
use Rattle.boot_laws.specs.SameOn.{SameOn}
use Rattle.boot_laws.proofs.Mapped.{same_mapped_law}
use Rattle.minix_change_laws.proofs.Replaced.{part-other}
use Rattle.minix_change_laws.specs.Beside.{SoundAsIn}
use Rattle.session_model.specs.Keeps.{IsWhole, Keeps, IsOffLinks}
use Rattle.session_model.specs.Site.{Site, IsApart, IsBootApart, boot_place}
use Rattle.session_model.specs.State.{sector_in, is_beside, place_by, line_place, line_by, line_in, body_in, KeepsBoot}
use Rattle.session_laws.specs.Kept.{IsUnmapped, WasThere, GainsUnmapped, WriterLaw, HasForeign, ForeignLaw, RestoredLaw}
use Rattle.session_laws.proofs.Bodies.{spared_law, place-same, line-mapped, with-self}

-- ---- a writer of files

module _ (site : Site) (old new : Image) (keeps : Keeps site old) (same : SameOn (mapped_sectors old site.machine site.boot) old new)
    (whole : IsWhole site new) (sound : IsSound site.volume new) (gains : GainsUnmapped site old new) where
  abbrev at_sector : ℕ → DiskSector
  at_sector sector = record { disk = site.volume.span.disk; sector = site.volume.span.start + sector }

  -- a zone of a reference that isn't unmapped was referred to before
  was : (number : ℕ) (at : Pointer) (zone sector index : ℕ) (default : DiskSector) → index < length (mapped_sectors old site.machine site.boot)
      → get_or (mapped_sectors old site.machine site.boot) index default ≡ at_sector sector → IsOfZone zone sector
      → Refers site.volume.layout (parts_of site.volume new) number at zone → WasThere site old new number at zone
  was number at zone sector index default below is of refers = by (gains number at zone refers)
    where
      by : WasThere site old new number at zone ⊎ IsUnmapped site old zone → WasThere site old new number at zone
      by (inl there) = there
      by (inr none) = absurd (none sector of index default below is)

  clear-new : Clear site.volume new site.machine site.boot
  clear-new =
      subst (λ (places : List DiskSector). All (IsClearPlace site.volume new) places) (sym (same_mapped_law old new site.machine site.boot same))
      (λ index default below sector is inside.
      let plain : IsPlain site.volume old sector = keeps.clear index default below sector is inside in
      record {
        tables = plain.tables;
        zones = λ number at zone refers of.
            let there = was number at zone sector index default below is of refers in
            let before = plain.zones number at zone there.refers of in
            (there.directory ∙ before.0, before.1);
      })

  links-new : (place : DiskSector) → line_place site new ≡ Some place → IsOffLinks site new place
  links-new place named number at zone sector refers of is =
      let was-named : line_place site old ≡ Some place = sym (place-same site old new same) ∙ named in
      let listed = line-mapped site old place was-named in
      let there = was number at zone sector listed.0 place listed.1 (listed.2 ∙ is) of refers in
      there.link ∙ keeps.off_links place was-named number at zone sector there.refers of is

  pub kept-new : Keeps site new × KeepsBoot site old new
  kept-new = (
    record {
      whole = whole;
      sound = sound;
      clear = clear-new;
      line_apart = (spared_law site old new same).1 keeps.line_apart;
      off_links = links-new;
    },
    (spared_law site old new same).0,
  )

pub writer_law : WriterLaw
writer_law site old new keeps same whole sound gains = kept-new site old new keeps same whole sound gains

-- ---- another system's boot sector

err-of : (read : Result BootSector MapFault) → says_foreign read ≡ true → (fault : MapFault) × (read ≡ Err fault)
err-of (Ok boot) is = cc
err-of (Err fault) is = (fault, refl)

module _ (site : Site) (old : Image) (bytes : List ℕ) (apart : IsBootApart site) (keeps : Keeps site old) (long : length bytes ≡ 512) (foreign : is_foreign bytes ≡ true)
    (sound : SoundAsIn site.volume old (with_sector old (boot_place site) bytes)) where
  abbrev changed : Image
  changed = with_sector old (boot_place site) bytes

  boot-is : changed site.boot.disk site.boot.start ≡ bytes
  boot-is = with-self old (boot_place site) bytes

  says : (fault : MapFault) × (boot_at bytes ≡ Err fault)
  unfolding is_foreign
  says = err-of (boot_at bytes) foreign

  says-changed : boot_at (changed site.boot.disk site.boot.start) ≡ Err says.0
  says-changed = ap boot_at boot-is ∙ says.1

  mapped-changed : mapped_sectors changed site.machine site.boot ≡ boot_place site ∷ []
  unfolding mapped_sectors
  mapped-changed = ap (λ read. boot_place site ∷ behind_sector changed site.machine read) says-changed

  place-changed : line_place site changed ≡ None
  unfolding line_place
  place-changed = ap (place_by site.machine) says-changed

  line-changed : line_in site changed ≡ None
  unfolding line_in
  line-changed = ap (line_by changed site.machine) says-changed

  body-changed : body_in site changed ≡ record { place = boot_place site; bytes = bytes } ∷ []
  unfolding body_in
  body-changed =
      ap (λ line. map (sector_in changed) (filter (is_beside line) (mapped_sectors changed site.machine site.boot))) place-changed
      ∙ ap (λ places. map (sector_in changed) (filter (is_beside None) places)) mapped-changed
      ∙ ap (λ bytes. record { place = boot_place site; bytes = bytes } ∷ []) boot-is

  whole-by : (d s : ℕ) (test : Bool) → length (old d s) ≡ 512 → length (if test then bytes else old d s) ≡ 512
  whole-by d s true before = long
  whole-by d s false before = before

  -- a sector of the volume's block 0 is plain, whatever there is
  block0-plain : (sector : ℕ) → sector < 2 → IsPlain site.volume changed sector
  block0-plain sector low = record {
    tables = inl low;
    zones = λ number at zone refers of. absurd (none zone refers.to.some of);
  }
    where
      none : (zone : ℕ) → zone ≢ 0 → IsOfZone zone sector → ⊥
      none zone some (inl is) = some (omega (arith, is, low))
      none zone some (inr is) = some (omega (arith, is, low))

  boot-clear : IsClearPlace site.volume changed (boot_place site)
  boot-clear sector is inside = by apart
    where
      at-disk : site.boot.disk ≡ site.volume.span.disk
      at-disk = ap (λ (place : DiskSector). place.disk) is

      at-start : site.boot.start ≡ site.volume.span.start + sector
      at-start = ap (λ (place : DiskSector). place.sector) is

      by : IsApart site site.boot.disk site.boot.start → IsPlain site.volume changed sector
      by (inl other) = absurd (other at-disk)
      by (inr (inl before)) = block0-plain sector (omega (arith, before, at-start))
      by (inr (inr behind)) = absurd (omega (arith, behind, at-start, inside))

  pub has-foreign : HasForeign site changed bytes
  has-foreign = record {
    keeps = record {
      whole = λ d s there. whole-by d s ((site.boot.disk == d) && (site.boot.start == s)) (keeps.whole d s there);
      sound = sound.sound;
      clear = subst (λ (places : List DiskSector). All (IsClearPlace site.volume changed) places) (sym mapped-changed)
          (All-from_recursion (IsClearPlace site.volume changed) (boot_place site ∷ []) (boot-clear, tt));
      line_apart = λ boot place ours named. absurd (clash boot (sym says-changed ∙ ours));
      off_links = λ place named. absurd (none place (sym place-changed ∙ named));
    };
    body = body-changed;
    line = line-changed;
  }
    where
      clash : (boot : BootSector) → ◌≡◌ {A = Result BootSector MapFault} (Err says.0) (Ok boot) → ⊥
      clash boot is = absurd cc

      none : (place : DiskSector) → ◌≡◌ {A = Option DiskSector} None (Some place) → ⊥
      none place is = absurd cc

pub foreign_law : ForeignLaw
foreign_law site old bytes apart keeps long foreign sound = has-foreign site old bytes apart keeps long foreign sound

-- ---- a backup

-- what makes a boot sector another system's
foreign-is : (bytes : List ℕ) → is_foreign bytes ≡ (not (has_signature bytes) || not (number16 bytes 6 == 1))
unfolding is_foreign boot_at
foreign-is bytes = by (has_signature bytes) (number16 bytes 6 == 1) (is_whole bytes) (number16 bytes 6) _
  where
    by : (ours known whole : Bool) (version : ℕ) (boot : BootSector)
        → says_foreign (if not ours then Err NotOurs else if not known then Err (BadVersion version) else if not whole then Err (BadTable 255) else Ok boot)
        ≡ (not ours || not known)
    by false known whole version boot = refl
    by true false whole version boot = refl
    by true true false version boot = refl
    by true true true version boot = refl

module _ (backup present : List ℕ) (long : length backup ≡ 512) where
  abbrev table : List ℕ
  table = part_of present 440 70

  table-long : length table ≤ 70
  table-long = omega (arith, length-take 70 (drop 440 present))

  part-kept : (at size : ℕ) → at + size ≤ 512 → (at + size ≤ 440) ⊎ (510 ≤ at) → part_of (with_part backup 440 table) at size ≡ part_of backup at size
  part-kept at size fits apart = part-other backup 440 table (omega (arith, long, table-long)) at size (omega (arith, long, fits)) (by apart)
    where
      by : (at + size ≤ 440) ⊎ (510 ≤ at) → (at + size ≤ 440) ⊎ (440 + length table ≤ at)
      by (inl before) = inl before
      by (inr behind) = inr (omega (arith, behind, table-long))

  signature-kept : has_signature (with_part backup 440 table) ≡ has_signature backup
  unfolding has_signature is_bootable
  signature-kept = rw (part-kept 0 6 (omega arith) (inl (omega arith)), part-kept 510 2 (omega arith) (inr (omega arith))) refl

  version-kept : number16 (with_part backup 440 table) 6 ≡ number16 backup 6
  unfolding number16
  version-kept = rw (part-kept 6 2 (omega arith) (inl (omega arith))) refl

  foreign-kept : is_foreign (with_part backup 440 table) ≡ is_foreign backup
  foreign-kept = foreign-is (with_part backup 440 table) ∙ rw (signature-kept, version-kept) (sym (foreign-is backup))

pub restored_law : RestoredLaw
unfolding restored_sector
restored_law backup present long = foreign-kept backup present long
