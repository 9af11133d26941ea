-- What an entry loads from whole files is what a kernel, its initrd and its line put into memory.
use Rattle.std.proofs.Common.{◌≡◌, ℕ, Bool, true, false, List, length, Option, None, Some, Result, Ok, Err, refl, option_map, min, nat_lt, if◌then◌else◌}
use Rattle.lilo_model.specs.Checks.{◌>>=◌, with_fault}
use Rattle.lilo_model.specs.Table.{Descriptor}
use Rattle.lilo_model.specs.Section.{Content}
use Rattle.lilo_model.specs.Header.{Header, Layout, SetupFault, header_at, plan_memory}
use Rattle.lilo_model.specs.Place.{Loading, place, first_two, written_by}
use Rattle.lilo_model.specs.Reason as reasons
use Rattle.lilo_model.specs.Reason.{Reason}
use Rattle.lilo_model.specs.Boot.{Ending, Loaded, loaded_ending, first_two_check, initrd_check, whole_check, initrd_size}

-- a file without a refusal
abbrev pub whole_file : List ℕ → Content
whole_file bytes = record { bytes = bytes; refusal = None }

-- how a boot reports a kernel's loading
abbrev pub ending_of : Result Loading SetupFault → Result Ending Reason
ending_of (Ok loading) = Ok (record { outcome = Loaded loading.layout; written = loading.written })
ending_of (Err fault) = Err (reasons.Header fault)

-- no check refuses a whole file
pub first_two_check-whole : (len : ℕ) (bytes : List ℕ) → first_two_check len (whole_file bytes) ≡ Ok tt
first_two_check-whole len bytes = by_test (nat_lt (length bytes) (min len 1024))
  where
    by_test : (test : Bool) → (if test then whole_check (whole_file bytes) else Ok tt) ≡ Ok tt
    by_test true = refl
    by_test false = refl

-- and none refuses a whole initrd, or its absence
pub initrd_check-whole : (initrd : Option (List ℕ)) → initrd_check (option_map whole_file initrd) ≡ Ok initrd
initrd_check-whole None = refl
initrd_check-whole (Some bytes) = refl

-- the layout's refusal or what is written by it, reported by a boot
layout_step : (header : Header) (kernel : List ℕ) (initrd : Option (List ℕ)) (line : List ℕ) (video : Option ℕ) (layout : Result Layout SetupFault) →
    (with_fault reasons.Header layout >>= λ laid. whole_check (whole_file kernel) >>= λ b. initrd_check (option_map whole_file initrd) >>= λ bytes. Ok (record { outcome = Loaded laid; written = written_by header laid kernel bytes line video }))
    ≡ ending_of (layout >>= λ laid. Ok (record { layout = laid; written = written_by header laid kernel initrd line video }))
layout_step header kernel None line video (Ok layout) = refl
layout_step header kernel (Some bytes) line video (Ok layout) = refl
layout_step header kernel initrd line video (Err fault) = refl

-- a boot of whole files is Place
pub loaded_ending-place : (entry : Descriptor) (kernel : List ℕ) (initrd : Option (List ℕ)) (line : List ℕ) (video : Option ℕ) (memory : ℕ) →
    entry.main_length ≡ length kernel → initrd_size entry ≡ option_map length initrd →
    loaded_ending entry (whole_file kernel) (option_map whole_file initrd) line video memory ≡ ending_of (place kernel initrd line video memory)
unfolding loaded_ending place
loaded_ending-place entry kernel initrd line video memory same_length same_size =
    rw (first_two_check-whole, same_length, same_size) (header_step (header_at (first_two kernel) (length kernel)))
  where
    header_step : (header : Result Header SetupFault) →
        (with_fault reasons.Header header >>= λ head. with_fault reasons.Header (plan_memory head (length kernel) (option_map length initrd) (length line) memory) >>= λ laid. whole_check (whole_file kernel) >>= λ b. initrd_check (option_map whole_file initrd) >>= λ bytes. Ok (record { outcome = Loaded laid; written = written_by head laid kernel bytes line video }))
        ≡ ending_of (header >>= λ head. plan_memory head (length kernel) (option_map length initrd) (length line) memory >>= λ laid. Ok (record { layout = laid; written = written_by head laid kernel initrd line video }))
    header_step (Ok header) = layout_step header kernel initrd line video (plan_memory header (length kernel) (option_map length initrd) (length line) memory)
    header_step (Err fault) = refl
