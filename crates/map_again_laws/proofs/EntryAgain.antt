-- An entry of the table that is written is read again.
use Rattle.std.proofs.Common.{◌≡◌, ◌≤◌, ◌<◌, ℕ, zero, suc, ◌+◌, ◌-◌, ◌^◌, ◌==◌, Bool, true, false, ◌&&◌, not, if◌then◌else◌, List, [], ◌∷◌, ◌++◌, length, take, replicate, Option, None, Some, refl, sym, ap, subst, ◌∙◌, arith, append_assoc, length-append}
use Rattle.std.specs.Prelude.{nat_lt, is_some}
use Rattle.std.specs.Int.{w16, w32, from_le_bytes}
use Rattle.std.specs.List.{before_first, prefix_len, list_all}
use Rattle.std.proofs.Math.Seq.{take-append_seam}
use Rattle.std.proofs.lemmas.Nat.{from_le_bytes-to_le_bytes_2, from_le_bytes-to_le_bytes_4}
use Rattle.std.proofs.lemmas.Bool.Decides.{nat_tests}
use Rattle.std.proofs.lemmas.List.{length-replicate}
use Rattle.lilo_model.specs.Bytes.{is_zero, is_between, part_of, filled_bytes, number16, number32, bytes16, bytes32}
use Rattle.lilo_model.specs.Slots.{Slot, is_one_slot, some_slot, slot_bytes, optional_bytes}
use Rattle.lilo_model.specs.Table.{Descriptor, is_set, entry_name, is_printable, is_name, has_flags, has_video, has_length, has_main, has_initrd, has_extra, is_entry, descriptor_of, descriptor_bytes}
use Rattle.map_again_laws.proofs.Parts.{part-after, part-prefix, part-between, length-filled}
use Rattle.map_again_laws.specs.Fits.{IsName, FitsOptional, FitsEntry}
use Rattle.map_again_laws.proofs.SlotAgain.{length-slot, length-optional, read-as, one-slot, some-slot}

-- the 48 bytes after the name
abbrev pub fields_after : (flags vga main initrd chain chain' : ℕ) (options first ramdisk extra : List ℕ) → List ℕ
fields_after flags vga main initrd chain chain' options first ramdisk extra =
    bytes16 flags ++ bytes16 vga ++ bytes32 main ++ bytes32 initrd ++ options ++ first ++ ramdisk ++ bytes16 chain ++ bytes16 chain' ++ extra

record ReadsBehind (bytes : List ℕ) (flags vga main initrd chain chain' : ℕ) (options first ramdisk extra : List ℕ) : Type 0 where
  flags_is : number16 bytes 0 ≡ flags
  vga_is : number16 bytes 2 ≡ vga
  main_is : number32 bytes 4 ≡ main
  initrd_is : number32 bytes 8 ≡ initrd
  options_is : part_of bytes 12 8 ≡ options
  first_is : part_of bytes 20 8 ≡ first
  ramdisk_is : part_of bytes 28 8 ≡ ramdisk
  chain_is : number16 bytes 36 ≡ chain
  chain'_is : number16 bytes 38 ≡ chain'
  extra_is : part_of bytes 40 8 ≡ extra

reads-after : (flags vga main initrd chain chain' : ℕ) (options first ramdisk extra : List ℕ)
    → flags < 2 ^ 16 → vga < 2 ^ 16 → main < 2 ^ 32 → initrd < 2 ^ 32 → chain < 2 ^ 16 → chain' < 2 ^ 16
    → length options ≡ 8 → length first ≡ 8 → length ramdisk ≡ 8 → length extra ≡ 8
    → ReadsBehind (fields_after flags vga main initrd chain chain' options first ramdisk extra) flags vga main initrd chain chain' options first ramdisk extra
unfolding number16 number32
reads-after flags vga main initrd chain chain'
    (l0 ∷ (l1 ∷ (l2 ∷ (l3 ∷ (l4 ∷ (l5 ∷ (l6 ∷ (l7 ∷ [])))))))) (z0 ∷ (z1 ∷ (z2 ∷ (z3 ∷ (z4 ∷ (z5 ∷ (z6 ∷ (z7 ∷ []))))))))
    (m0 ∷ (m1 ∷ (m2 ∷ (m3 ∷ (m4 ∷ (m5 ∷ (m6 ∷ (m7 ∷ [])))))))) (a0 ∷ (a1 ∷ (a2 ∷ (a3 ∷ (a4 ∷ (a5 ∷ (a6 ∷ (a7 ∷ [])))))))) ff vf mf jf cf df e1 e2 e3 e4 = record {
      flags_is = from_le_bytes-to_le_bytes_2 flags ff;
      vga_is = from_le_bytes-to_le_bytes_2 vga vf;
      main_is = from_le_bytes-to_le_bytes_4 main mf;
      initrd_is = from_le_bytes-to_le_bytes_4 initrd jf;
      options_is = refl;
      first_is = refl;
      ramdisk_is = refl;
      chain_is = from_le_bytes-to_le_bytes_2 chain cf;
      chain'_is = from_le_bytes-to_le_bytes_2 chain' df;
      extra_is = refl;
    }
reads-after flags vga main initrd chain chain' _ _ _ _ ff vf mf jf cf df e1 e2 e3 e4 = absurd (omega (arith, e1, e2, e3, e4))

-- ---- the name

zero-printable : (byte : ℕ) → is_between 0x21 0x7E byte ≡ true → (byte == 0) ≡ true → ⊥
zero-printable byte e1 e2 =
    let zero_is : byte ≡ 0 = grind (arith, nat_tests) in
    let h : is_between 0x21 0x7E 0 ≡ true = subst (λ byte. is_between 0x21 0x7E byte ≡ true) zero_is e1 in
    cc

-- a printable name ends at the first zero
prefix-zeros : (name : List ℕ) (count : ℕ) → is_printable name ≡ true → prefix_len (λ byte. not (byte == 0)) (name ++ replicate count 0) ≡ length name
unfolding is_printable
prefix-zeros [] zero printable = refl
prefix-zeros [] (suc count) printable = refl
prefix-zeros (byte ∷ name) count printable = by-byte (is_between 0x21 0x7E byte) (byte == 0) refl refl printable (prefix-zeros name count)
  where
    by-byte : (good none : Bool) → is_between 0x21 0x7E byte ≡ good → (byte == 0) ≡ none → (good && list_all (λ byte. is_between 0x21 0x7E byte) name) ≡ true
        → (list_all (λ byte. is_between 0x21 0x7E byte) name ≡ true → prefix_len (λ byte. not (byte == 0)) (name ++ replicate count 0) ≡ length name)
        → prefix_len (λ byte. not (byte == 0)) (byte ∷ (name ++ replicate count 0)) ≡ suc (length name)
    by-byte true true e1 e2 h more = absurd (zero-printable byte e1 e2)
    by-byte false none e1 e2 h more = cc
    by-byte true false e1 e2 h more = rw (e2, more h) (omega arith)

before-zeros : (name : List ℕ) (count : ℕ) → is_printable name ≡ true → before_first (λ byte. byte == 0) (name ++ replicate count 0) ≡ name
before-zeros name count printable = ap (λ n. take n (name ++ replicate count 0)) (prefix-zeros name count printable) ∙ take-append_seam name (replicate count 0)

-- the name in 16 bytes of it and zeros
name-16 : (name rest : List ℕ) → IsName name → part_of (filled_bytes 16 name ++ rest) 0 15 ≡ name ++ replicate (15 - length name) 0
name-16 name rest is =
    let size : 16 - length name ≡ (15 - length name) + 1 = omega (arith, is) in
    ap (λ n. part_of (name ++ replicate {A = ℕ} n 0 ++ rest) 0 15) size
    ∙ ap (λ zeros. part_of (name ++ zeros ++ rest) 0 15) (replicate-last (15 - length name))
    ∙ ap (λ bytes. part_of (bytes ++ rest) 0 15) (sym (append_assoc name (replicate (15 - length name) 0) (0 ∷ [])))
    ∙ ap (λ bytes. part_of bytes 0 15) (append_assoc (name ++ replicate (15 - length name) 0) (0 ∷ []) rest)
    ∙ part-prefix (name ++ replicate (15 - length name) 0) ((0 ∷ []) ++ rest) 15 (length-filled 15 name (omega (arith, is)))
  where
    replicate-last : (count : ℕ) → replicate {A = ℕ} (count + 1) 0 ≡ replicate count 0 ++ (0 ∷ [])
    replicate-last zero = refl
    replicate-last (suc count) = let next : suc count + 1 ≡ suc (count + 1) = omega arith in ap (λ n. replicate {A = ℕ} n 0) next ∙ ap (λ zeros. 0 ∷ zeros) (replicate-last count)

name-again : (name rest : List ℕ) → IsName name → entry_name (filled_bytes 16 name ++ rest) ≡ name
unfolding entry_name
name-again name rest is = ap (before_first (λ byte. byte == 0)) (name-16 name rest is) ∙ before-zeros name (15 - length name) is.2

zeros-zero : (count : ℕ) → is_zero (replicate count 0) ≡ true
unfolding is_zero
zeros-zero zero = refl
zeros-zero (suc count) = zeros-zero count

name-whole : (name rest : List ℕ) → IsName name → is_name (filled_bytes 16 name ++ rest) ≡ true
unfolding is_name
name-whole name rest is =
    let some : (length name == 0) ≡ false = grind (arith, nat_tests) in
    let zeros : part_of (filled_bytes 16 name ++ rest) (length name) (16 - length name) ≡ replicate (16 - length name) 0 = ap (λ bytes. part_of bytes (length name) (16 - length name)) (append_assoc name (replicate (16 - length name) 0) rest) ∙ part-between name (replicate (16 - length name) 0) rest (length name) (16 - length name) refl (length-replicate (16 - length name) 0) in
    rw (name-again name rest is, some, is.2, zeros, zeros-zero (16 - length name)) refl

-- ---- the entry

optional-again : (slot : Option Slot) → FitsOptional slot → some_slot (optional_bytes slot) ≡ slot
unfolding some_slot is_zero
optional-again None fits = refl
optional-again (Some slot) fits = some-slot slot fits.whole

-- where a slot is there it is one, and else there are zeros
optional-test : (slot : Option Slot) → FitsOptional slot → (if is_some slot then is_one_slot (optional_bytes slot) else is_zero (optional_bytes slot)) ≡ true
unfolding is_zero
optional-test None fits = refl
optional-test (Some slot) fits = one-slot slot fits

-- ---- both

-- numbers and slots after the name
number16-after : (name rest : List ℕ) (at n : ℕ) → length name ≡ 16 → at ≡ 16 + n → number16 (name ++ rest) at ≡ number16 rest n
unfolding number16
number16-after name rest at n long is = ap (from_le_bytes w16) (part-after name rest at n 2 (omega (arith, long, is)))

number32-after : (name rest : List ℕ) (at n : ℕ) → length name ≡ 16 → at ≡ 16 + n → number32 (name ++ rest) at ≡ number32 rest n
unfolding number32
number32-after name rest at n long is = ap (from_le_bytes w32) (part-after name rest at n 4 (omega (arith, long, is)))

slot-after : (name rest : List ℕ) (at n : ℕ) → length name ≡ 16 → at ≡ 16 + n → part_of (name ++ rest) at 8 ≡ part_of rest n 8
slot-after name rest at n long is = part-after name rest at n 8 (omega (arith, long, is))

append-ten : (a b c d e f g h i j k : List ℕ) → a ++ b ++ c ++ d ++ e ++ f ++ g ++ h ++ i ++ j ++ k ≡ a ++ (b ++ c ++ d ++ e ++ f ++ g ++ h ++ i ++ j ++ k)
append-ten a b c d e f g h i j k = simp append_assoc

record ReadsEntry (bytes : List ℕ) (entry : Descriptor) : Type 0 where
  name_is : entry_name bytes ≡ entry.name
  name_good : is_name bytes ≡ true
  flags_is : number16 bytes 16 ≡ entry.flags
  vga_is : number16 bytes 18 ≡ entry.vga
  main_is : number32 bytes 20 ≡ entry.main_length
  initrd_is : number32 bytes 24 ≡ entry.initrd_length
  options_is : part_of bytes 28 8 ≡ slot_bytes entry.options
  first_is : part_of bytes 36 8 ≡ slot_bytes entry.first
  ramdisk_is : part_of bytes 44 8 ≡ optional_bytes entry.initrd
  chain_is : number16 bytes 52 ≡ entry.chain
  chain'_is : number16 bytes 54 ≡ entry.initrd_chain
  extra_is : part_of bytes 56 8 ≡ optional_bytes entry.extra

reads-entry : (entry : Descriptor) → FitsEntry entry → ReadsEntry (descriptor_bytes entry) entry
unfolding descriptor_bytes
reads-entry entry fits = subst (λ bytes. ReadsEntry bytes entry) (sym joined) (record {
  name_is = name-again entry.name after fits.name;
  name_good = name-whole entry.name after fits.name;
  flags_is = number16-after name after 16 0 long refl ∙ r.flags_is;
  vga_is = number16-after name after 18 2 long refl ∙ r.vga_is;
  main_is = number32-after name after 20 4 long refl ∙ r.main_is;
  initrd_is = number32-after name after 24 8 long refl ∙ r.initrd_is;
  options_is = slot-after name after 28 12 long refl ∙ r.options_is;
  first_is = slot-after name after 36 20 long refl ∙ r.first_is;
  ramdisk_is = slot-after name after 44 28 long refl ∙ r.ramdisk_is;
  chain_is = number16-after name after 52 36 long refl ∙ r.chain_is;
  chain'_is = number16-after name after 54 38 long refl ∙ r.chain'_is;
  extra_is = slot-after name after 56 40 long refl ∙ r.extra_is;
})
  where
    name : List ℕ
    name = filled_bytes 16 entry.name

    after : List ℕ
    after = fields_after entry.flags entry.vga entry.main_length entry.initrd_length entry.chain entry.initrd_chain (slot_bytes entry.options) (slot_bytes entry.first) (optional_bytes entry.initrd) (optional_bytes entry.extra)

    long : length name ≡ 16
    long = length-filled 16 entry.name (omega (arith, fits.name))

    r : ReadsBehind after entry.flags entry.vga entry.main_length entry.initrd_length entry.chain entry.initrd_chain (slot_bytes entry.options) (slot_bytes entry.first) (optional_bytes entry.initrd) (optional_bytes entry.extra)
    r = reads-after entry.flags entry.vga entry.main_length entry.initrd_length entry.chain entry.initrd_chain (slot_bytes entry.options) (slot_bytes entry.first) (optional_bytes entry.initrd) (optional_bytes entry.extra) (omega (arith, fits.flags.known)) fits.vga fits.main fits.initrd_size fits.chain fits.initrd_chain (length-slot entry.options) (length-slot entry.first) (length-optional entry.initrd) (length-optional entry.extra)

    joined : descriptor_bytes entry ≡ name ++ after
    joined = append-ten name (bytes16 entry.flags) (bytes16 entry.vga) (bytes32 entry.main_length) (bytes32 entry.initrd_length) (slot_bytes entry.options) (slot_bytes entry.first) (optional_bytes entry.initrd) (bytes16 entry.chain) (bytes16 entry.initrd_chain) (optional_bytes entry.extra)

-- An entry's bytes are an entry, and that one.
pub record EntryAgain (entry : Descriptor) : Type 0 where
  pub good : is_entry (descriptor_bytes entry) ≡ true
  pub is : descriptor_of (descriptor_bytes entry) ≡ entry

slots-good : (initrd extra : Option Slot) (chain size : Bool) → FitsOptional initrd → FitsOptional extra
    → (if is_some initrd then not chain else (chain && size)) ≡ true
    → ((if is_some initrd then (is_one_slot (optional_bytes initrd) && not chain) else (is_zero (optional_bytes initrd) && chain && size))
    && (if is_some extra then is_one_slot (optional_bytes extra) else is_zero (optional_bytes extra))) ≡ true
slots-good None extra true true fits fits' is = rw (optional-test None tt, optional-test extra fits') refl
slots-good None extra true false fits fits' is = cc
slots-good None extra false size fits fits' is = cc
slots-good (Some slot) extra true size fits fits' is = cc
slots-good (Some slot) extra false size fits fits' is = rw (one-slot slot fits, optional-test extra fits') refl

entry-by : (bytes : List ℕ) (entry : Descriptor) → FitsEntry entry → ReadsEntry bytes entry → (is_entry bytes ≡ true) × (descriptor_of bytes ≡ entry)
unfolding is_entry has_flags has_video has_length has_main has_initrd has_extra is_set descriptor_of
entry-by bytes entry fits r = (
  rw (r.name_good, r.flags_is, r.vga_is, r.main_is, r.initrd_is, r.options_is, r.first_is, r.ramdisk_is, r.chain_is, r.chain'_is, r.extra_is, known, fits.flags.lock, fits.flags.restricted, fits.flags.table, fits.flags.system, fits.flags.video, fits.flags.size, some, one-slot entry.options fits.options, one-slot entry.first fits.first)
      (rw (fits.flags.initrd, fits.flags.extra) (slots-good entry.initrd entry.extra (entry.initrd_chain == 0) (entry.initrd_length == 0) fits.initrd fits.extra fits.flags.initrd_chain)),
  rw (r.name_is, r.flags_is, r.vga_is, r.main_is, r.initrd_is, r.options_is, r.first_is, r.ramdisk_is, r.chain_is, r.chain'_is, r.extra_is, (read-as entry.options fits.options.whole).is, (read-as entry.first fits.first.whole).is, optional-again entry.initrd fits.initrd, optional-again entry.extra fits.extra) refl,
)
  where
    known : nat_lt entry.flags 0x100 ≡ true
    known = grind (arith, nat_tests)

    some : (entry.chain == 0) ≡ false
    some = grind (arith, nat_tests)

pub entry_again : (entry : Descriptor) → FitsEntry entry → EntryAgain entry
entry_again entry fits = let h = entry-by (descriptor_bytes entry) entry fits (reads-entry entry fits) in record { good = h.0; is = h.1 }

pub length-entry : (entry : Descriptor) → length entry.name ≤ 16 → length (descriptor_bytes entry) ≡ 64
unfolding descriptor_bytes
length-entry entry short =
    ap length (append-ten (filled_bytes 16 entry.name) (bytes16 entry.flags) (bytes16 entry.vga) (bytes32 entry.main_length) (bytes32 entry.initrd_length) (slot_bytes entry.options) (slot_bytes entry.first) (optional_bytes entry.initrd) (bytes16 entry.chain) (bytes16 entry.initrd_chain) (optional_bytes entry.extra))
    ∙ length-append (filled_bytes 16 entry.name) (fields_after entry.flags entry.vga entry.main_length entry.initrd_length entry.chain entry.initrd_chain (slot_bytes entry.options) (slot_bytes entry.first) (optional_bytes entry.initrd) (optional_bytes entry.extra))
    ∙ ap (λ n. n + length (fields_after entry.flags entry.vga entry.main_length entry.initrd_length entry.chain entry.initrd_chain (slot_bytes entry.options) (slot_bytes entry.first) (optional_bytes entry.initrd) (optional_bytes entry.extra))) (length-filled 16 entry.name short)
    ∙ ap (λ n. 16 + n) (length-after entry.flags entry.vga entry.main_length entry.initrd_length entry.chain entry.initrd_chain (slot_bytes entry.options) (slot_bytes entry.first) (optional_bytes entry.initrd) (optional_bytes entry.extra) (length-slot entry.options) (length-slot entry.first) (length-optional entry.initrd) (length-optional entry.extra))
  where
    length-after : (flags vga main initrd chain chain' : ℕ) (options first ramdisk extra : List ℕ) → length options ≡ 8 → length first ≡ 8 → length ramdisk ≡ 8 → length extra ≡ 8
        → length (fields_after flags vga main initrd chain chain' options first ramdisk extra) ≡ 48
    length-after flags vga main initrd chain chain'
        (l0 ∷ (l1 ∷ (l2 ∷ (l3 ∷ (l4 ∷ (l5 ∷ (l6 ∷ (l7 ∷ [])))))))) (z0 ∷ (z1 ∷ (z2 ∷ (z3 ∷ (z4 ∷ (z5 ∷ (z6 ∷ (z7 ∷ []))))))))
        (m0 ∷ (m1 ∷ (m2 ∷ (m3 ∷ (m4 ∷ (m5 ∷ (m6 ∷ (m7 ∷ [])))))))) (a0 ∷ (a1 ∷ (a2 ∷ (a3 ∷ (a4 ∷ (a5 ∷ (a6 ∷ (a7 ∷ [])))))))) e1 e2 e3 e4 = refl
    length-after flags vga main initrd chain chain' _ _ _ _ e1 e2 e3 e4 = absurd (omega (arith, e1, e2, e3, e4))
