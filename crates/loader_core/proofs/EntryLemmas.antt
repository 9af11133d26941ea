-- What another system's entry comes to.
use Rattle.std.proofs.Common.{◌≡◌, ◌≤◌, ◌+◌, ◌-◌, ◌∙◌, ℕ, Bool, true, false, refl, sym, ap, List, [], ◌∷◌, ◌++◌, take, drop, length, Option, None, Some, Result, Ok, Err, arith}
use Rattle.std.specs.Prelude.{min, if◌then◌else◌}
use Rattle.std.proofs.lemmas.List.{append-nil}
use Rattle.std.proofs.Math.Seq.{take-append_seam, drop-append-add}
use Rattle.lilo_model.specs.Bytes.{part_of, filled_bytes}
use Rattle.lilo_model.specs.Table.{Descriptor, has_flag, table_flag, other_flag}
use Rattle.lilo_model.specs.Place.{Memory, Written, with_bytes, memory_after}
use Rattle.lilo_model.specs.Boot.{Ending, Handed, boot_address}
use Rattle.lilo_model.specs.Verdict.{told_regions}
use Rattle.bios_model.specs.Memory.{memory_of}
use Rattle.section_loader.specs.declared.reason.Halt.{Halt}
use Rattle.section_loader.specs.declared.reason.Halt.TheVariants.{Device, Refused}
use Rattle.loader_core.specs.declared.outcome.Started.TheVariants as starts
use Rattle.lilo_model.specs.Reason.{Reason}
use Rattle.section_loader.specs.Reading.{FileRest}
use Rattle.section_loader.specs.Load.{IsCutSector, ReadsCut}
use Rattle.loader_core.specs.Kernel.{LoadsKernel}
use Rattle.std.specs.Prelude.{bit_and, ◌==◌}
use Rattle.lilo_model.specs.Disks.{Image, Machine}
use Rattle.loader_core.specs.Report.{handed_by, loaded_by, entry_by, main_rest, initrd_rest}
use Rattle.loader_core.specs.Start.{table_written, IsStarted, Starts}
use Rattle.section_loader.specs.View.{reason_view}
use Rattle.setup_header.specs.declared.layout.Layout.{Layout}
use Rattle.loader_core.proofs.MemoryLemmas.{held}

handed_stop :
    (entry : Descriptor) (main : FileRest) (why : Reason) → main.stop ≡ Some why → handed_by entry main ≡ Err why
unfolding handed_by
handed_stop entry main why stops = rw stops refl

-- its first sector is refused
pub ends_first :
    (entry : Descriptor) (main rest : FileRest) (size : ℕ) (sector : List ℕ) (m : Memory) (ram : List ℕ) (halt : Halt)
    → ReadsCut (Err halt) size main sector rest → Starts (Err halt) (handed_by entry main) m ram
ends_first entry main rest size sector m ram Device read = tt
ends_first entry main rest size sector m ram (Refused reason) read = handed_stop entry main (reason_view reason) read.stops

-- its second one is
pub ends_second :
    (entry : Descriptor) (main mid rest : FileRest) (size size' : ℕ) (first sector : List ℕ) (m : Memory) (ram : List ℕ) (halt : Halt)
    → IsCutSector size main first mid → ReadsCut (Err halt) size' mid sector rest → Starts (Err halt) (handed_by entry main) m ram
ends_second entry main mid rest size size' first sector m ram Device one read = tt
ends_second entry main mid rest size size' first sector m ram (Refused reason) one read =
    handed_stop entry main (reason_view reason) (ap (λ r. r.stop) one.read ∙ read.stops)

-- ---- both are there

filled-full : (bytes : List ℕ) → length bytes ≡ 512 → filled_bytes 512 bytes ≡ bytes
filled-full bytes long = let none : 512 - length bytes ≡ 0 = omega arith in rw none (append-nil bytes)

-- the boot sector of a file
boot_part : (first rest : List ℕ) → length first ≡ 512 → part_of (first ++ rest) 0 512 ≡ first
boot_part first rest long = ap (λ n. take n (first ++ rest)) (sym long) ∙ take-append_seam first rest

-- the entries in its second sector
table_part : (first second : List ℕ) → length first ≡ 512 → part_of (first ++ second) (512 + 446) 64 ≡ part_of second 446 64
table_part first second long =
    ap (λ n. take 64 (drop (n + 446) (first ++ second))) (sym long) ∙ ap (λ b. take 64 b) (drop-append-add first second 446)

-- what is handed over, where all of the file is there
is_handed :
    (entry : Descriptor) (main : FileRest) (boot table : List ℕ) (flag : Bool) → main.stop ≡ None
    → has_flag entry.flags table_flag ≡ flag → part_of main.bytes 0 512 ≡ boot
    → (flag ≡ true → part_of main.bytes (512 + 446) 64 ≡ part_of table 446 64)
    → handed_by entry main
    ≡ Ok (record { outcome = Handed; written = table_written flag table ++ (record { address = boot_address; bytes = boot } ∷ []) })
unfolding handed_by
is_handed entry main boot table true whole is first second = rw (whole, is, first, second refl) refl
is_handed entry main boot table false whole is first second = rw (whole, is, first) refl

told_boot :
    (flag : Bool) (table boot : List ℕ)
    → told_regions Handed (table_written flag table ++ (record { address = boot_address; bytes = boot } ∷ []))
    ≡ record { address = boot_address; bytes = boot } ∷ []
told_boot true table boot = refl
told_boot false table boot = refl

placed_after :
    (flag : Bool) (table boot : List ℕ) (m : Memory)
    → with_bytes (memory_after m (table_written flag table)) (record { address = boot_address; bytes = boot })
    ≡ memory_after m (table_written flag table ++ (record { address = boot_address; bytes = boot } ∷ []))
placed_after true table boot m = refl
placed_after false table boot m = refl

-- another system's boot sector was handed over
pub handed_whole :
    (entry : Descriptor) (main : FileRest) (boot table : List ℕ) (flag : Bool) (m0 m1 : Memory) (ram : List ℕ) → main.stop ≡ None
    → has_flag entry.flags table_flag ≡ flag → part_of main.bytes 0 512 ≡ boot → length boot ≡ 512
    → (flag ≡ true → part_of main.bytes (512 + 446) 64 ≡ part_of table 446 64)
    → m1 ≡ memory_after m0 (table_written flag table)
    → memory_of ram ≡ with_bytes m1 (record { address = boot_address; bytes = boot }) → boot_address + 512 ≤ length ram
    → IsStarted starts.Handed (handed_by entry main) m0 ram
handed_whole entry main boot table flag m0 m1 ram whole is first long second at_table at_boot inside =
    let w : Written = record { address = boot_address; bytes = boot } in
    let here = held ram m1 w [] at_boot tt (omega arith) in
    let there : boot ≡ part_of ram boot_address 512 = sym here ∙ ap (λ n. part_of ram boot_address n) long in
    record {
      written = table_written flag table ++ (w ∷ []);
      is = is_handed entry main boot table flag whole is first second;
      placed = at_boot ∙ ap (λ m. with_bytes m w) at_table ∙ placed_after flag table boot m0;
      held = told_boot flag table boot ∙ ap (λ b. record { address = boot_address; bytes = b } ∷ []) there;
    }

at_least : (flag : Bool) (len : ℕ) → len ≡ (if flag then 1024 else 512) → 512 ≤ len
at_least true len is = omega arith
at_least false len is = omega arith

table_there :
    (flag : Bool) (len left size : ℕ) → flag ≡ true → len ≡ (if flag then 1024 else 512) → left ≡ len - min 512 len → size ≡ min 512 left → size ≡ 512
table_there true len left size with_table is more long = omega arith
table_there false len left size with_table is more long = let h : ⊥ = cc in absurd h

-- after both sectors the file has ended
pub left_none :
    (flag : Bool) (len start mid left : ℕ) → len ≡ (if flag then 1024 else 512) → start ≡ len → mid ≡ start - min 512 start → left ≡ mid - min 512 mid → left ≡ 0
left_none true len start mid left is a b d = omega arith
left_none false len start mid left is a b d = omega arith

-- the sectors of its file, by whether a table goes with it
pub other_sectors :
    (entry : Descriptor) (main mid rest : FileRest) (boot table : List ℕ) (flag : Bool) (m0 m1 : Memory) (ram : List ℕ) (left : ℕ)
    → has_flag entry.flags table_flag ≡ flag → entry.main_length ≡ (if flag then 1024 else 512)
    → left ≡ entry.main_length - min 512 entry.main_length
    → IsCutSector (min 512 entry.main_length) main boot mid → IsCutSector (min 512 left) mid table rest → rest ≡ record { bytes = []; stop = None }
    → m1 ≡ memory_after m0 (table_written flag table)
    → memory_of ram ≡ with_bytes m1 (record { address = boot_address; bytes = boot }) → boot_address + 512 ≤ length ram
    → IsStarted starts.Handed (handed_by entry main) m0 ram
other_sectors entry main mid rest boot table flag m0 m1 ram left is long more one two ended at_table at_boot inside =
    let least : 512 ≤ entry.main_length = at_least flag entry.main_length long in
    let size : length one.bytes ≡ 512 = omega (arith, one.long) in
    let same : boot ≡ one.bytes = one.filled ∙ filled-full one.bytes size in
    let sized : length boot ≡ 512 = ap length same ∙ size in
    let bytes : main.bytes ≡ boot ++ (two.bytes ++ rest.bytes) =
    ap (λ r. r.bytes) one.read ∙ ap (λ r. one.bytes ++ r.bytes) two.read ∙ ap (λ b. b ++ (two.bytes ++ rest.bytes)) (sym same) in
    let whole : main.stop ≡ None = ap (λ r. r.stop) one.read ∙ ap (λ r. r.stop) two.read ∙ ap (λ r. r.stop) ended in
    handed_whole entry main boot table flag m0 m1 ram whole is
    (ap (λ b. part_of b 0 512) bytes ∙ boot_part boot (two.bytes ++ rest.bytes) sized) sized
    (λ with_table.
    let second : length two.bytes ≡ 512 = table_there flag entry.main_length left (length two.bytes) with_table long more two.long in
    let full : table ≡ two.bytes = two.filled ∙ filled-full two.bytes second in
    let none : rest.bytes ≡ [] = ap (λ r. r.bytes) ended in
    let all : two.bytes ++ rest.bytes ≡ table = ap (λ b. two.bytes ++ b) none ∙ append-nil two.bytes ∙ sym full in
    ap (λ b. part_of b (512 + 446) 64) bytes ∙ table_part boot (two.bytes ++ rest.bytes) sized ∙ ap (λ b. part_of b 446 64) all)
    at_table at_boot inside

-- a kernel was loaded
pub kernel_started :
    (layout : Layout) (ending : Result Ending Reason) (m : Memory) (ram : List ℕ) → LoadsKernel (Ok layout) ending m ram
    → Starts (Ok (starts.Loaded layout)) ending m ram
kernel_started layout ending m ram loaded = record {
  written = loaded.written;
  is = loaded.is;
  placed = loaded.placed;
  held = loaded.held;
}

-- or wasn't
pub kernel_refused :
    (ending : Result Ending Reason) (m : Memory) (ram : List ℕ) (halt : Halt) → LoadsKernel (Err halt) ending m ram → Starts (Err halt) ending m ram
kernel_refused ending m ram Device loaded = tt
kernel_refused ending m ram (Refused reason) loaded = loaded

-- ---- which of both

pub flag_clear : (flags : ℕ) → bit_and flags 1 ≡ 0 → has_flag flags other_flag ≡ false
flag_clear flags none = rw none refl

pub flag_set : (flags : ℕ) → (bit_and flags 1 ≡ 0 → ⊥) → has_flag flags other_flag ≡ true
flag_set flags some = let is : (bit_and flags 1 == 0) ≡ false = grind arith in rw is refl

pub table_set : (flags : ℕ) → (bit_and flags 128 ≡ 0 → ⊥) → has_flag flags table_flag ≡ true
table_set flags some = let is : (bit_and flags 128 == 0) ≡ false = grind arith in rw is refl

pub entry_kernel :
    (image : Image) (machine : Machine) (entry : Descriptor) (line : List ℕ) (video : Option ℕ) (memory : ℕ) → has_flag entry.flags other_flag ≡ false
    → entry_by image machine entry line video memory
    ≡ loaded_by entry (main_rest image machine entry) (initrd_rest image machine entry) line video memory
unfolding entry_by
entry_kernel image machine entry line video memory is = rw is refl

pub entry_other :
    (image : Image) (machine : Machine) (entry : Descriptor) (line : List ℕ) (video : Option ℕ) (memory : ℕ) → has_flag entry.flags other_flag ≡ true
    → entry_by image machine entry line video memory ≡ handed_by entry (main_rest image machine entry)
unfolding entry_by
entry_other image machine entry line video memory is = rw is refl
