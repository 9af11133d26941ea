-- Of a boot sector that is written: its code, and what stays of the sector that was there.
use Rattle.std.proofs.Common.{◌≡◌, ℕ, List, [], ◌++◌, length, replicate, ap, ◌∙◌, arith, append_assoc, length-append}
use Rattle.lilo_model.specs.Bytes.{part_of, bytes16}
use Rattle.lilo_model.specs.Slots.{slot_bytes, optional_bytes}
use Rattle.lilo_model.specs.BootSector.{BootSector, last_bytes, field_bytes, merged_sector}
use Rattle.map_again_laws.specs.Fits.{FitsBoot}
use Rattle.map_again_laws.proofs.Parts.{part-between}
use Rattle.map_again_laws.proofs.SlotAgain.{length-slot, length-optional}

-- the slots among the fields, and what comes after them
length-slots : (line zeros message one two three : List ℕ) (default : ℕ) → length line ≡ 8 → length zeros ≡ 8 → length message ≡ 8 → length one ≡ 8 → length two ≡ 8 → length three ≡ 8
    → length (line ++ zeros ++ message ++ (one ++ (two ++ (three ++ []))) ++ replicate 24 0 ++ bytes16 default ++ replicate 30 0) ≡ 104
length-slots line zeros message one two three default e1 e2 e3 e4 e5 e6 = simp (length-append) (omega (arith, e1, e2, e3, e4, e5, e6))

-- the fields of a boot sector take 128 bytes
length-boot : (boot : BootSector) → FitsBoot boot → length (field_bytes boot) ≡ 128
unfolding field_bytes
length-boot boot fits =
    let slots =
    length-slots (slot_bytes boot.line) (slot_bytes boot.zero_sector) (optional_bytes boot.message) (slot_bytes fits.one) (slot_bytes fits.two) (slot_bytes fits.three) boot.default_entry
    (length-slot boot.line) (length-slot boot.zero_sector) (length-optional boot.message) (length-slot fits.one) (length-slot fits.two) (length-slot fits.three) in
    rw (fits.table) (omega (arith, slots))

-- the code after them, and what stays of the sector that was there
module _ (boot : BootSector) (code present : List ℕ) (fits : FitsBoot boot) (full : length (part_of code 128 312) ≡ 312) (whole : length (part_of present 440 70) ≡ 70) where
  pub code-again : part_of (merged_sector boot code present) 128 312 ≡ part_of code 128 312
  unfolding merged_sector
  code-again =
      ap (λ bytes. part_of bytes 128 312) (append_assoc (field_bytes boot ++ part_of code 128 312) (part_of present 440 70) last_bytes ∙ append_assoc (field_bytes boot) (part_of code 128 312) (part_of present 440 70 ++ last_bytes))
      ∙ part-between (field_bytes boot) (part_of code 128 312) (part_of present 440 70 ++ last_bytes) 128 312 (length-boot boot fits) full

  pub kept-again : part_of (merged_sector boot code present) 440 70 ≡ part_of present 440 70
  unfolding merged_sector
  kept-again =
      let long = length-append (field_bytes boot) (part_of code 128 312) in
      let fields = length-boot boot fits in
      ap (λ bytes. part_of bytes 440 70) (append_assoc (field_bytes boot ++ part_of code 128 312) (part_of present 440 70) last_bytes)
      ∙ part-between (field_bytes boot ++ part_of code 128 312) (part_of present 440 70) last_bytes 440 70 (omega (arith, long, fields, full)) whole
