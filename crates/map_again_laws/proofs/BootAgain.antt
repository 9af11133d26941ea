-- A boot sector that is written is read again.
use Rattle.std.proofs.Common.{◌≡◌, ◌<◌, ℕ, ◌^◌, ◌==◌, Bool, true, false, ◌&&◌, not, if◌then◌else◌, List, [], ◌∷◌, ◌++◌, length, replicate, Option, None, Some, Result, Ok, refl, sym, ap, ◌∙◌, arith, append_assoc}
use Rattle.std.specs.Prelude.{nat_le, nat_lt, IfSome}
use Rattle.std.proofs.lemmas.Nat.{from_le_bytes-to_le_bytes_2, from_le_bytes-to_le_bytes_4}
use Rattle.std.proofs.lemmas.Bool.Decides.{nat_tests}
use Rattle.lilo_model.specs.Bytes.{is_zero, is_between, part_of, number16, number32, bytes16, bytes32}
use Rattle.lilo_model.specs.Slots.{Slot, is_one_slot, some_slot, slot_bytes, optional_bytes}
use Rattle.lilo_model.specs.BootSector.{BootSector, MapFault, first_bytes, last_bytes, is_bootable, has_signature, has_options, has_names, has_slots, has_no_message, has_whole_message, has_message, has_zeros, is_whole, timeout_of, table_slots, boot_of, boot_at, flag_number, timeout_number, field_bytes, merged_sector}
use Rattle.map_again_laws.proofs.Parts.{part-after}
use Rattle.map_again_laws.specs.Fits.{FitsMessage, FitsBoot}
use Rattle.map_again_laws.proofs.SlotAgain.{length-slot, length-optional, read-as, one-slot, some-slot}

-- the 128 bytes, with six parts of eight bytes among them
abbrev fields_with : (time flag delay timeout names size chain default : ℕ) (line zeros message one two three : List ℕ) → List ℕ
fields_with time flag delay timeout names size chain default line zeros message one two three =
    first_bytes ++ bytes16 1 ++ bytes32 time ++ bytes16 flag ++ bytes16 delay ++ bytes16 timeout ++ bytes16 names ++ bytes16 size ++ bytes16 chain
    ++ line ++ zeros ++ message ++ (one ++ (two ++ (three ++ []))) ++ replicate 24 0 ++ bytes16 default ++ replicate 30 0

-- what is read in bytes
record Reads (bytes : List ℕ) (time flag delay timeout names size chain default : ℕ) (line zeros message one two three : List ℕ) : Type 0 where
  signature_is : part_of bytes 0 6 ≡ first_bytes
  version_is : number16 bytes 6 ≡ 1
  time_is : number32 bytes 8 ≡ time
  flag_is : number16 bytes 0x0C ≡ flag
  delay_is : number16 bytes 0x0E ≡ delay
  timeout_is : number16 bytes 0x10 ≡ timeout
  names_is : number16 bytes 0x12 ≡ names
  size_is : number16 bytes 0x14 ≡ size
  chain_is : number16 bytes 0x16 ≡ chain
  line_is : part_of bytes 0x18 8 ≡ line
  zero_is : part_of bytes 0x20 8 ≡ zeros
  message_is : part_of bytes 0x28 8 ≡ message
  one_is : part_of bytes 0x30 8 ≡ one
  two_is : part_of bytes 0x38 8 ≡ two
  three_is : part_of bytes 0x40 8 ≡ three
  unused_is : part_of bytes 0x48 24 ≡ replicate 24 0
  default_is : number16 bytes 0x60 ≡ default
  rest_is : part_of bytes 0x62 30 ≡ replicate 30 0

reads-fields :
    (time flag delay timeout names size chain default : ℕ) (line zeros message one two three tail : List ℕ)
    → time < 2 ^ 32 → flag < 2 ^ 16 → delay < 2 ^ 16 → timeout < 2 ^ 16 → names < 2 ^ 16 → size < 2 ^ 16 → chain < 2 ^ 16 → default < 2 ^ 16
    → length line ≡ 8 → length zeros ≡ 8 → length message ≡ 8 → length one ≡ 8 → length two ≡ 8 → length three ≡ 8
    → Reads (fields_with time flag delay timeout names size chain default line zeros message one two three ++ tail) time flag delay timeout names size chain default line zeros message one two three
unfolding number16 number32
reads-fields time flag delay timeout names size chain default
    (l0 ∷ (l1 ∷ (l2 ∷ (l3 ∷ (l4 ∷ (l5 ∷ (l6 ∷ (l7 ∷ [])))))))) (z0 ∷ (z1 ∷ (z2 ∷ (z3 ∷ (z4 ∷ (z5 ∷ (z6 ∷ (z7 ∷ []))))))))
    (m0 ∷ (m1 ∷ (m2 ∷ (m3 ∷ (m4 ∷ (m5 ∷ (m6 ∷ (m7 ∷ [])))))))) (a0 ∷ (a1 ∷ (a2 ∷ (a3 ∷ (a4 ∷ (a5 ∷ (a6 ∷ (a7 ∷ []))))))))
    (b0 ∷ (b1 ∷ (b2 ∷ (b3 ∷ (b4 ∷ (b5 ∷ (b6 ∷ (b7 ∷ [])))))))) (c0 ∷ (c1 ∷ (c2 ∷ (c3 ∷ (c4 ∷ (c5 ∷ (c6 ∷ (c7 ∷ []))))))))
    tail tf ff df of nf sf cf ef e1 e2 e3 e4 e5 e6 = record {
      signature_is = refl;
      version_is = refl;
      time_is = from_le_bytes-to_le_bytes_4 time tf;
      flag_is = from_le_bytes-to_le_bytes_2 flag ff;
      delay_is = from_le_bytes-to_le_bytes_2 delay df;
      timeout_is = from_le_bytes-to_le_bytes_2 timeout of;
      names_is = from_le_bytes-to_le_bytes_2 names nf;
      size_is = from_le_bytes-to_le_bytes_2 size sf;
      chain_is = from_le_bytes-to_le_bytes_2 chain cf;
      line_is = refl;
      zero_is = refl;
      message_is = refl;
      one_is = refl;
      two_is = refl;
      three_is = refl;
      unused_is = refl;
      default_is = from_le_bytes-to_le_bytes_2 default ef;
      rest_is = refl;
    }
reads-fields time flag delay timeout names size chain default _ _ _ _ _ _ tail tf ff df of nf sf cf ef e1 e2 e3 e4 e5 e6 = absurd (omega (arith, e1, e2, e3, e4, e5, e6))

-- the fields of a boot sector, where its table has three slots
fields-are : (boot : BootSector) (one two three : Slot) → boot.version ≡ 1 → boot.table ≡ one ∷ (two ∷ (three ∷ []))
    → field_bytes boot ≡ fields_with boot.time (flag_number boot.prompt) boot.delay (timeout_number boot.timeout) boot.names boot.message_length boot.message_chain boot.default_entry (slot_bytes boot.line) (slot_bytes boot.zero_sector) (optional_bytes boot.message) (slot_bytes one) (slot_bytes two) (slot_bytes three)
unfolding field_bytes
fields-are boot one two three version table = rw (version, table) refl

length-fields : (time flag delay timeout names size chain default : ℕ) (line zeros message one two three : List ℕ)
    → length line ≡ 8 → length zeros ≡ 8 → length message ≡ 8 → length one ≡ 8 → length two ≡ 8 → length three ≡ 8
    → length (fields_with time flag delay timeout names size chain default line zeros message one two three) ≡ 128
length-fields time flag delay timeout names size chain default
    (l0 ∷ (l1 ∷ (l2 ∷ (l3 ∷ (l4 ∷ (l5 ∷ (l6 ∷ (l7 ∷ [])))))))) (z0 ∷ (z1 ∷ (z2 ∷ (z3 ∷ (z4 ∷ (z5 ∷ (z6 ∷ (z7 ∷ []))))))))
    (m0 ∷ (m1 ∷ (m2 ∷ (m3 ∷ (m4 ∷ (m5 ∷ (m6 ∷ (m7 ∷ [])))))))) (a0 ∷ (a1 ∷ (a2 ∷ (a3 ∷ (a4 ∷ (a5 ∷ (a6 ∷ (a7 ∷ []))))))))
    (b0 ∷ (b1 ∷ (b2 ∷ (b3 ∷ (b4 ∷ (b5 ∷ (b6 ∷ (b7 ∷ [])))))))) (c0 ∷ (c1 ∷ (c2 ∷ (c3 ∷ (c4 ∷ (c5 ∷ (c6 ∷ (c7 ∷ [])))))))) e1 e2 e3 e4 e5 e6 = refl
length-fields time flag delay timeout names size chain default _ _ _ _ _ _ e1 e2 e3 e4 e5 e6 = absurd (omega (arith, e1, e2, e3, e4, e5, e6))

-- the end of a sector of which three parts lie before it
end-of : (fields code kept : List ℕ) → length fields ≡ 128 → length code ≡ 312 → length kept ≡ 70 → part_of (fields ++ (code ++ (kept ++ last_bytes))) 0x1FE 2 ≡ last_bytes
end-of fields code kept e1 e2 e3 =
    part-after fields (code ++ (kept ++ last_bytes)) 0x1FE 382 2 (omega (arith, e1))
    ∙ part-after code (kept ++ last_bytes) 382 70 2 (omega (arith, e2))
    ∙ part-after kept last_bytes 70 0 2 (omega (arith, e3))

flag-small : (prompt : Bool) → nat_le (flag_number prompt) 1 ≡ true
flag-small true = refl
flag-small false = refl

flag-again : (prompt : Bool) → (flag_number prompt == 1) ≡ prompt
flag-again true = refl
flag-again false = refl

timeout-again : (timeout : Option ℕ) → IfSome timeout (λ tenths. tenths < 0xFFFF) → (if timeout_number timeout == 0xFFFF then None else Some (timeout_number timeout)) ≡ timeout
timeout-again None fits = refl
timeout-again (Some tenths) fits = let other : (tenths == 0xFFFF) ≡ false = grind (arith, nat_tests) in rw other refl

zeros-24 : is_zero (replicate 24 0) ≡ true
unfolding is_zero
zeros-24 = refl

zeros-30 : is_zero (replicate 30 0) ≡ true
unfolding is_zero
zeros-30 = refl

message-again : (message : Option Slot) (size chain : ℕ) → FitsMessage message size chain → some_slot (optional_bytes message) ≡ message
unfolding some_slot is_zero
message-again None size chain fits = refl
message-again (Some slot) size chain fits = some-slot slot fits.0.whole

message-whole : (message : Option Slot) (size chain : ℕ) → FitsMessage message size chain
    → (if (size == 0) && (chain == 0) && is_zero (optional_bytes message) then true else (not (size == 0) && is_between 1 3 chain && is_one_slot (optional_bytes message))) ≡ true
unfolding is_zero
message-whole None size chain fits = rw (fits.0, fits.1) refl
message-whole (Some slot) size chain fits =
    let some : (size == 0) ≡ false = grind (arith, nat_tests) in
    let low : nat_le 1 chain ≡ true = grind (arith, nat_tests) in
    let high : nat_le chain 3 ≡ true = grind (arith, nat_tests) in
    rw (some, low, high, one-slot slot fits.0) refl

abbrev said : BootSector → Result BootSector MapFault
said boot = Ok boot

boot-is : (boot : BootSector) (fits : FitsBoot boot)
    → said (record { version = 1; time = boot.time; prompt = boot.prompt; delay = boot.delay; timeout = boot.timeout; names = boot.names; default_entry = boot.default_entry; message_length = boot.message_length; message_chain = boot.message_chain; line = boot.line; zero_sector = boot.zero_sector; message = boot.message; table = fits.one ∷ (fits.two ∷ (fits.three ∷ [])) }) ≡ said boot
boot-is boot fits = ap (λ version. said (record boot { version = version; table = fits.one ∷ (fits.two ∷ (fits.three ∷ [])) })) (sym fits.version) ∙ ap (λ table. said (record boot { table = table })) (sym fits.table)

-- what is read of a sector with the fields of a boot sector says that it is whole, and gives it
read-boot : (bytes : List ℕ) (boot : BootSector) (fits : FitsBoot boot)
    → Reads bytes boot.time (flag_number boot.prompt) boot.delay (timeout_number boot.timeout) boot.names boot.message_length boot.message_chain boot.default_entry (slot_bytes boot.line) (slot_bytes boot.zero_sector) (optional_bytes boot.message) (slot_bytes fits.one) (slot_bytes fits.two) (slot_bytes fits.three)
    → is_bootable bytes ≡ true → boot_at bytes ≡ Ok boot
unfolding boot_at has_signature is_whole has_options has_names has_slots has_zeros has_message has_no_message has_whole_message boot_of timeout_of table_slots
read-boot bytes boot fits r end =
    let d1 : nat_lt boot.delay 0xFFFF ≡ true = grind (arith, nat_tests) in
    let n1 : nat_le 1 boot.names ≡ true = grind (arith, nat_tests) in
    let n2 : nat_le boot.names 19 ≡ true = grind (arith, nat_tests) in
    let n3 : nat_lt boot.default_entry boot.names ≡ true = grind (arith, nat_tests) in
    rw (r.signature_is, r.version_is, r.time_is, r.flag_is, r.delay_is, r.timeout_is, r.names_is, r.size_is, r.chain_is, r.line_is, r.zero_is, r.message_is, r.one_is, r.two_is, r.three_is, r.unused_is, r.default_is, r.rest_is, end, d1, n1, n2, n3, one-slot boot.line fits.line, one-slot boot.zero_sector fits.zero_one, one-slot fits.one fits.first, one-slot fits.two fits.second, one-slot fits.three fits.third, flag-small boot.prompt)
    (rw (zeros-24, zeros-30, message-whole boot.message boot.message_length boot.message_chain fits.message, message-again boot.message boot.message_length boot.message_chain fits.message, timeout-again boot.timeout fits.timeout, flag-again boot.prompt, (read-as boot.line fits.line.whole).is, (read-as boot.zero_sector fits.zero_one.whole).is, (read-as fits.one fits.first.whole).is, (read-as fits.two fits.second.whole).is, (read-as fits.three fits.third.whole).is)
    (boot-is boot fits))

-- a boot sector, whatever else the sector has
pub boot_again : (boot : BootSector) (code present : List ℕ) → FitsBoot boot → length (part_of code 128 312) ≡ 312 → length (part_of present 440 70) ≡ 70
    → boot_at (merged_sector boot code present) ≡ Ok boot
unfolding merged_sector is_bootable
boot_again boot code present fits full whole =
    let fields = fields_with boot.time (flag_number boot.prompt) boot.delay (timeout_number boot.timeout) boot.names boot.message_length boot.message_chain boot.default_entry (slot_bytes boot.line) (slot_bytes boot.zero_sector) (optional_bytes boot.message) (slot_bytes fits.one) (slot_bytes fits.two) (slot_bytes fits.three) in
    let tail = part_of code 128 312 ++ (part_of present 440 70 ++ last_bytes) in
    let is = fields-are boot fits.one fits.two fits.three fits.version fits.table in
    ap boot_at (append_assoc (field_bytes boot ++ part_of code 128 312) (part_of present 440 70) last_bytes ∙ append_assoc (field_bytes boot) (part_of code 128 312) (part_of present 440 70 ++ last_bytes))
    ∙ ap (λ all. boot_at (all ++ tail)) is
    ∙ read-boot (fields ++ tail) boot fits
    (reads-fields boot.time (flag_number boot.prompt) boot.delay (timeout_number boot.timeout) boot.names boot.message_length boot.message_chain boot.default_entry (slot_bytes boot.line) (slot_bytes boot.zero_sector) (optional_bytes boot.message) (slot_bytes fits.one) (slot_bytes fits.two) (slot_bytes fits.three) tail
    (omega (arith, fits.time)) (flag-fits boot.prompt) (omega (arith, fits.delay)) (timeout-fits boot.timeout fits.timeout) (omega (arith, fits.few_names)) (message-fits boot.message boot.message_length boot.message_chain fits.message).0 (message-fits boot.message boot.message_length boot.message_chain fits.message).1 (omega (arith, fits.default, fits.few_names))
    (length-slot boot.line) (length-slot boot.zero_sector) (length-optional boot.message) (length-slot fits.one) (length-slot fits.two) (length-slot fits.three))
    (ends (fields ++ tail) (end-of fields (part_of code 128 312) (part_of present 440 70) (length-fields boot.time (flag_number boot.prompt) boot.delay (timeout_number boot.timeout) boot.names boot.message_length boot.message_chain boot.default_entry (slot_bytes boot.line) (slot_bytes boot.zero_sector) (optional_bytes boot.message) (slot_bytes fits.one) (slot_bytes fits.two) (slot_bytes fits.three) (length-slot boot.line) (length-slot boot.zero_sector) (length-optional boot.message) (length-slot fits.one) (length-slot fits.two) (length-slot fits.three)) full whole))
  where
    flag-fits : (prompt : Bool) → flag_number prompt < 2 ^ 16
    flag-fits true = omega arith
    flag-fits false = omega arith

    timeout-fits : (timeout : Option ℕ) → IfSome timeout (λ tenths. tenths < 0xFFFF) → timeout_number timeout < 2 ^ 16
    timeout-fits None fits = omega arith
    timeout-fits (Some tenths) fits = omega (arith, fits)

    message-fits : (message : Option Slot) (size chain : ℕ) → FitsMessage message size chain → (size < 2 ^ 16) × (chain < 2 ^ 16)
    message-fits None size chain fits = (omega (arith, fits.0), omega (arith, fits.1))
    message-fits (Some slot) size chain fits = (omega (arith, fits.2), omega (arith, fits.4))

    ends : (bytes : List ℕ) → part_of bytes 0x1FE 2 ≡ last_bytes → is_bootable bytes ≡ true
    ends bytes is = rw is refl
