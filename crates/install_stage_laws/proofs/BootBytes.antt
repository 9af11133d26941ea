-- The bytes of the boot sector that is planned: there are 512, and the table among them is that of the sector that was there.
use Rattle.std.proofs.Common.{◌≡◌, ◌≤◌, ℕ, ◌+◌, List, [], ◌∷◌, ◌++◌, length, take, drop, replicate, refl, sym, ap, subst, ◌∙◌, arith, append_assoc, length-append, length-drop}
use Rattle.std.proofs.lemmas.List.{length-take, length-take-le, take-append-le, drop-append-le, drop-drop, take-append-drop}
use Rattle.lilo_model.specs.BootSector.{BootSector, last_bytes, field_bytes, merged_sector}
use Rattle.lilo_model.specs.Bytes.{part_of, bytes16, filled_bytes}
use Rattle.lilo_model.specs.Conf.{Config}
use Rattle.lilo_model.specs.Disks.{Image, Machine, DiskSector}
use Rattle.lilo_model.specs.MinixParts.{Volume}
use Rattle.lilo_model.specs.Plan.{Plan, slot_to, place_of_sector, plan_boot, plan_boot_sector}
use Rattle.lilo_model.specs.Planned.{code_in, planned}
use Rattle.lilo_model.specs.Slots.{Slot, slot_bytes, optional_bytes}
use Rattle.map_again_laws.proofs.Parts.{length-filled, part-after}
use Rattle.map_again_laws.proofs.SlotAgain.{length-slot, length-optional}

-- the slots among the fields, and what comes after them
length-slots : (line zeros message one two three : List ℕ) (default : ℕ) → length line ≡ 8 → length zeros ≡ 8 → length message ≡ 8 → length one ≡ 8 → length two ≡ 8 → length three ≡ 8
    → length (line ++ zeros ++ message ++ (one ++ (two ++ (three ++ []))) ++ replicate 24 0 ++ bytes16 default ++ replicate 30 0) ≡ 104
length-slots line zeros message one two three default e1 e2 e3 e4 e5 e6 = simp (length-append) (omega (arith, e1, e2, e3, e4, e5, e6))

-- the fields of a boot sector whose table has three slots
length-fields : (boot : BootSector) (one two three : Slot) → boot.table ≡ one ∷ (two ∷ (three ∷ [])) → length (field_bytes boot) ≡ 128
unfolding field_bytes
length-fields boot one two three table =
    let slots =
    length-slots (slot_bytes boot.line) (slot_bytes boot.zero_sector) (optional_bytes boot.message) (slot_bytes one) (slot_bytes two) (slot_bytes three) boot.default_entry
    (length-slot boot.line) (length-slot boot.zero_sector) (length-optional boot.message) (length-slot one) (length-slot two) (length-slot three) in
    rw (table) (omega (arith, slots))

length-part : (bytes : List ℕ) (at len : ℕ) → at + len ≤ length bytes → length (part_of bytes at len) ≡ len
length-part bytes at len fits = length-take-le len (drop at bytes) (rw (length-drop at bytes) (omega (arith, fits)))

-- the table among 70 bytes, whatever comes after them
inner : (kept tail : List ℕ) → length kept ≡ 70 → part_of (kept ++ tail) 6 64 ≡ part_of kept 6 64
inner kept tail long =
    let rest : 64 ≤ length (drop 6 kept) = rw (length-drop 6 kept) (omega (arith, long)) in
    ap (take 64) (drop-append-le 6 kept tail (omega (arith, long))) ∙ take-append-le 64 (drop 6 kept) tail rest

table-inside : (present : List ℕ) → length (part_of present 440 70) ≡ 70 → part_of (part_of present 440 70) 6 64 ≡ part_of present 446 64
table-inside present long =
    sym (inner (part_of present 440 70) (drop 70 (drop 440 present)) long)
    ∙ ap (λ bytes. part_of bytes 6 64) (take-append-drop 70 (drop 440 present)) ∙ ap (take 64) (drop-drop 6 440 present)

module _ (boot : BootSector) (code present : List ℕ) (fields : length (field_bytes boot) ≡ 128) (full : length (part_of code 128 312) ≡ 312) (whole : length (part_of present 440 70) ≡ 70) where
  length-merged : length (merged_sector boot code present) ≡ 512
  unfolding merged_sector
  length-merged =
      let first = length-append (field_bytes boot) (part_of code 128 312) in
      let second = length-append (field_bytes boot ++ part_of code 128 312) (part_of present 440 70) in
      let last = length-append (field_bytes boot ++ part_of code 128 312 ++ part_of present 440 70) last_bytes in
      omega (arith, first, second, last, fields, full, whole)

  table-merged : part_of (merged_sector boot code present) 446 64 ≡ part_of present 446 64
  unfolding merged_sector
  table-merged =
      let front = length-append (field_bytes boot) (part_of code 128 312) in
      ap (λ bytes. part_of bytes 446 64) (append_assoc (field_bytes boot ++ part_of code 128 312) (part_of present 440 70) last_bytes)
      ∙ part-after (field_bytes boot ++ part_of code 128 312) (part_of present 440 70 ++ last_bytes) 446 6 64 (omega (arith, front, fields, full))
      ∙ inner (part_of present 440 70) last_bytes whole ∙ table-inside present whole

-- ---- what is planned

fields-planned : (plan : Plan) (machine : Machine) (places : List DiskSector) → length (field_bytes (plan_boot plan machine places)) ≡ 128
unfolding plan_boot
fields-planned plan machine places =
    let to : DiskSector → Slot = slot_to plan.config.mode machine in
    length-fields (plan_boot plan machine places) (to (place_of_sector places 1)) (to (place_of_sector places 2)) (to (place_of_sector places 3)) refl

take-most : (n : ℕ) (bytes : List ℕ) → length (take n bytes) ≤ n
take-most n bytes = subst (λ long. long ≤ n) (sym (length-take n bytes)) (grind arith)

code-long : (before : Image) (machine : Machine) (volume : Volume) (config : Config) (time : ℕ) → length (planned before machine volume config time).code ≤ 512
unfolding planned code_in
code-long before machine volume config time = take-most 512 _

module _ (before : Image) (machine : Machine) (volume : Volume) (config : Config) (time : ℕ) (places : List DiskSector) (present : List ℕ) (long : length present ≡ 512) where
  abbrev plan : Plan
  plan = planned before machine volume config time

  full : length (part_of (filled_bytes 512 plan.code) 128 312) ≡ 312
  full = let filled = length-filled 512 plan.code (code-long before machine volume config time) in length-part (filled_bytes 512 plan.code) 128 312 (omega (arith, filled))

  pub boot-long : length (plan_boot_sector plan machine places present) ≡ 512
  unfolding plan_boot_sector
  boot-long = length-merged (plan_boot plan machine places) (filled_bytes 512 plan.code) present (fields-planned plan machine places) full (length-part present 440 70 (omega (arith, long)))

  pub table-kept : part_of (plan_boot_sector plan machine places present) 446 64 ≡ part_of present 446 64
  unfolding plan_boot_sector
  table-kept = table-merged (plan_boot plan machine places) (filled_bytes 512 plan.code) present (fields-planned plan machine places) full (length-part present 440 70 (omega (arith, long)))
