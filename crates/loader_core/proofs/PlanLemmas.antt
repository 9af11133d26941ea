-- What is known of a header that was read, and of a layout that was planned.
use Rattle.std.proofs.Common.{◌≡◌, ◌≤◌, ◌-◌, ◌∙◌, ◌==◌, ℕ, Bool, true, false, refl, sym, ap, List, Option, None, Some, Result, Ok, Err, arith}
use Rattle.std.specs.Prelude.{min, nat_le, is_some, IfSome, slice_index, if◌then◌else◌}
use Rattle.std.specs.Option.{option_map}
use Rattle.lilo_model.specs.Checks.{◌>>=◌, require}
use Rattle.lilo_model.specs.Header as headers
use Rattle.lilo_model.specs.Bytes.{number16}
use Rattle.lilo_model.specs.Header.{SetupFault, TooShort, NoBootFlag, SetupTooLarge, real_size, setup_of, header_of, header_at, plan_memory, initrd_region, initrd_between}
use Rattle.lilo_model.specs.Table.{has_flag, initrd_flag}
use Rattle.lilo_model.specs.Boot.{initrd_size}
use Rattle.boot_map.specs.declared.descriptor.Descriptor.{Descriptor}
use Rattle.boot_map.specs.View.{descriptor_view}
use Rattle.setup_header.specs.declared.header.Header.{Header}
use Rattle.setup_header.specs.declared.layout.Region.{Region}
use Rattle.setup_header.specs.declared.layout.Layout.{Layout}
use Rattle.setup_header.specs.View.{region_view}
use Rattle.setup_header.specs.Words.{HasLengths, LiesIn}
use Rattle.loader_core.specs.Kernel.{HoldsKernel}

-- ---- the header

passed :
    {A : Type 0} → (a b d e : Bool) (f1 f2 f3 f4 : SetupFault) (value header : A)
    → (require a f1 >>= λ x. (require b f2 >>= λ y. (require d f3 >>= λ z. (require e f4 >>= λ w. Ok value)))) ≡ Ok header
    → value ≡ header
passed true true true true f1 f2 f3 f4 value header is = cc
passed false b d e f1 f2 f3 f4 value header is = let h : ⊥ = cc in absurd h
passed true false d e f1 f2 f3 f4 value header is = let h : ⊥ = cc in absurd h
passed true true false e f1 f2 f3 f4 value header is = let h : ⊥ = cc in absurd h
passed true true true false f1 f2 f3 f4 value header is = let h : ⊥ = cc in absurd h

setup_some : (none : Bool) (setup : ℕ) → (setup == 0) ≡ none → 1 ≤ (if none then 4 else setup)
setup_some true setup is = omega arith
setup_some false setup is = grind arith

-- a header that was read has a setup sector
pub setup_least :
    (bytes : List ℕ) (len : ℕ) (header : headers.Header) → header_at bytes len ≡ Ok header → 1 ≤ header.setup
unfolding header_at header_of setup_of
setup_least bytes len header read =
    let is : header_of bytes ≡ header = passed (nat_le 512 len) (number16 bytes 0x1FE == 0xAA55) (nat_le (setup_of bytes) 64) (nat_le (real_size (setup_of bytes)) len) TooShort NoBootFlag (SetupTooLarge (setup_of bytes)) TooShort (header_of bytes) header read in
    let some = setup_some _ (slice_index bytes 0x1F1) refl in
    let same = ap (λ (h : headers.Header). h.setup) is in
    omega (arith, some, same)

-- ---- the initrd's region

-- a region is there where a size is, and has it
abbrev pub IsOfSize : Option headers.Region → Option ℕ → Type 0
IsOfSize None None = Unit {0}
IsOfSize (Some region) (Some size) = region.size ≡ size
IsOfSize _ _ = ⊥

between_size :
    (fits : Bool) (fault : SetupFault) (address size : ℕ) (region : Option headers.Region)
    → (require fits fault >>= λ a. Ok (Some (record { address = address; size = size }))) ≡ Ok region
    → IsOfSize region (Some size)
between_size true fault address size None is = let h : ⊥ = cc in absurd h
between_size true fault address size (Some region) is =
    let same : ◌≡◌ {A = headers.Region} (record { address = address; size = size }) region = cc in
    ap (λ (r : headers.Region). r.size) (sym same)
between_size false fault address size region is = let h : ⊥ = cc in absurd h

region_size :
    (header : headers.Header) (len memory : ℕ) (size : Option ℕ) (region : Option headers.Region)
    → initrd_region header len memory size ≡ Ok region → IsOfSize region size
region_size header len memory None None is = tt
region_size header len memory None (Some region) is = let h : ⊥ = cc in absurd h
region_size header len memory (Some size) region is = between_size _ _ _ size region is

planned_region :
    (fits : Result (Unit {0}) SetupFault) (room : Bool) (fault : SetupFault) (region : Result (Option headers.Region) SetupFault) (build : Option headers.Region → headers.Layout)
    (layout : headers.Layout) → ((r : Option headers.Region) → (build r).initrd ≡ r)
    → (fits >>= λ a. (require room fault >>= λ b. (region >>= λ r. Ok (build r)))) ≡ Ok layout
    → region ≡ Ok layout.initrd
planned_region (Err e) room fault region build layout keeps is = let h : ⊥ = cc in absurd h
planned_region (Ok a) false fault region build layout keeps is = let h : ⊥ = cc in absurd h
planned_region (Ok a) true fault (Err e) build layout keeps is = let h : ⊥ = cc in absurd h
planned_region (Ok a) true fault (Ok r) build layout keeps is =
    let same : build r ≡ layout = cc in
    ap (λ x. Ok x) (sym (keeps r) ∙ ap (λ (l : headers.Layout). l.initrd) same)

-- a layout has a region for an initrd that there is
pub planned_size :
    (header : headers.Header) (len : ℕ) (initrd : Option ℕ) (line memory : ℕ) (layout : headers.Layout)
    → plan_memory header len initrd line memory ≡ Ok layout → IsOfSize layout.initrd initrd
unfolding plan_memory
planned_size header len initrd line memory layout planned =
    region_size header len memory initrd layout.initrd (planned_region _ _ _ _ _ layout (λ r. refl) planned)

some_size : (region : Option headers.Region) (size : Option ℕ) → IsOfSize region size → is_some region ≡ is_some size
some_size None None is = refl
some_size (Some region) (Some size) is = refl
some_size None (Some size) is = absurd is
some_size (Some region) None is = absurd is

some_view : (region : Option Region) → is_some (option_map region_view region) ≡ is_some region
some_view None = refl
some_view (Some region) = refl

some_flag : (flag : Bool) (size : ℕ) → is_some (if flag then Some size else None) ≡ flag
some_flag true size = refl
some_flag false size = refl

-- it is there exactly where the entry has an initrd
pub region_there :
    (region : Option Region) (entry : Descriptor) → IsOfSize (option_map region_view region) (initrd_size (descriptor_view entry))
    → is_some region ≡ has_flag entry.flags initrd_flag
region_there region entry is =
    sym (some_view region)
    ∙ some_size (option_map region_view region) (initrd_size (descriptor_view entry)) is
    ∙ some_flag (has_flag entry.flags initrd_flag) entry.initrd_length

flag_size : (flag : Bool) (size : ℕ) (region : headers.Region) → IsOfSize (Some region) (if flag then Some size else None) → region.size ≡ size
flag_size true size region is = is
flag_size false size region is = absurd is

-- and it has the initrd's size
pub region_sized :
    (region : Option Region) (entry : Descriptor) → IsOfSize (option_map region_view region) (initrd_size (descriptor_view entry))
    → IfSome region (λ r. r.length ≡ entry.initrd_length)
region_sized None entry is = tt
region_sized (Some region) entry is = flag_size (has_flag entry.flags initrd_flag) entry.initrd_length (region_view region) is

-- ---- room for the kernel

pub holds_kernel :
    (layout : Layout) (header : Header) (len left line memory : ℕ) → 1 ≤ header.setup → HasLengths layout header len line → LiesIn memory layout
    → left ≡ len - min 1024 len → memory ≤ 1073741824 → HoldsKernel layout left memory
holds_kernel layout header len left line memory some lengths inside rest few =
    let least : 1024 ≤ layout.real.length = omega (arith, lengths.real_length) in
    record {
      least = least;
      whole = rw lengths.real_length (grind arith);
      rest = omega (arith, lengths.rest_length, least);
      real_inside = inside.real_inside;
      protected_inside = inside.protected_inside;
      few = omega arith;
    }
