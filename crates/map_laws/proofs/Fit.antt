-- What a kernel's checks without the memory accept is refused for the memory alone.
use Rattle.std.proofs.Common.{◌≡◌, ◌↔◌, ℕ, ◌+◌, ◌-◌, ◌==◌, Bool, true, false, List, length, Option, None, Some, Result, Ok, Err, refl, sym, subst, arith}
use Rattle.std.specs.Prelude.{◌||◌, nat_le, not, is_some, is_none, option_map, IsOk}
use Rattle.lilo_model.specs.Bytes.{number16}
use Rattle.lilo_model.specs.Checks.{◌>>=◌, require}
use Rattle.lilo_model.specs.Header.{Header, Layout, SetupFault, TooShort, NoBootFlag, SetupTooLarge, LowTooLarge, NoInitrd, LineTooLong, NoRoom, setup_of, real_size, header_of, header_at, fit_checks, plan_memory, protected_size, protected_end, initrd_region, initrd_least, initrd_end, page_below}
use Rattle.lilo_model.specs.Place.{Loading, first_two, kernel_fit, place, written_by}
use Rattle.lilo_model.proofs.PlaceLaws.{ending_of, loaded_ending-place}
use Rattle.map_laws.specs.Fit.{IsLoadedOrTooLarge, FitLaw}

never : false ≡ true → ⊥
never is = grind arith

-- a refusal, if there is one, is for the memory; or it never is
abbrev IsRoom : {A : Type 0} → Result A SetupFault → Type 0
IsRoom (Ok value) = Unit {0}
IsRoom (Err (NoRoom need have)) = Unit {0}
IsRoom (Err fault) = ⊥

abbrev IsOther : {A : Type 0} → Result A SetupFault → Type 0
IsOther (Ok value) = Unit {0}
IsOther (Err (NoRoom need have)) = ⊥
IsOther (Err fault) = Unit {0}

-- a check passes exactly where the rest is refused for the memory alone, if it never is itself and the rest always is
then-room : {A B : Type 0} (check : Result A SetupFault) (next : A → Result B SetupFault) → IsOther check → ((value : A) → IsRoom (next value)) → IsOk check ↔ IsRoom (check >>= next)
then-room (Ok value) next other room = (λ a. room value, λ a. refl)
then-room (Err TooShort) next other room = (never, λ a. absurd a)
then-room (Err NoBootFlag) next other room = (never, λ a. absurd a)
then-room (Err (SetupTooLarge setup)) next other room = (never, λ a. absurd a)
then-room (Err (LowTooLarge size)) next other room = (never, λ a. absurd a)
then-room (Err NoInitrd) next other room = (never, λ a. absurd a)
then-room (Err (NoRoom need have)) next other room = absurd other
then-room (Err (LineTooLong size)) next other room = (never, λ a. absurd a)

then-other : {A B : Type 0} (check : Result A SetupFault) (next : A → Result B SetupFault) → IsOther check → ((value : A) → IsOther (next value)) → IsOther (check >>= next)
then-other (Ok value) next other rest = rest value
then-other (Err TooShort) next other rest = tt
then-other (Err NoBootFlag) next other rest = tt
then-other (Err (SetupTooLarge setup)) next other rest = tt
then-other (Err (LowTooLarge size)) next other rest = tt
then-other (Err NoInitrd) next other rest = tt
then-other (Err (NoRoom need have)) next other rest = absurd other
then-other (Err (LineTooLong size)) next other rest = tt

both-room : {A B : Type 0} (check : Result A SetupFault) (next : A → Result B SetupFault) → IsRoom check → ((value : A) → IsRoom (next value)) → IsRoom (check >>= next)
both-room (Ok value) next room rest = rest value
both-room (Err TooShort) next room rest = absurd room
both-room (Err NoBootFlag) next room rest = absurd room
both-room (Err (SetupTooLarge setup)) next room rest = absurd room
both-room (Err (LowTooLarge size)) next room rest = absurd room
both-room (Err NoInitrd) next room rest = absurd room
both-room (Err (NoRoom need have)) next room rest = tt
both-room (Err (LineTooLong size)) next room rest = absurd room

-- a test's refusal is the one that is given
required-other : (test : Bool) (fault : SetupFault) → IsOther {A = Unit {0}} (Err fault) → IsOther (require test fault)
required-other true fault other = tt
required-other false fault other = other

required-room : (test : Bool) (need have : ℕ) → IsRoom (require test (NoRoom need have))
required-room true need have = tt
required-room false need have = tt

header-other : (bytes : List ℕ) (len : ℕ) → IsOther (header_at bytes len)
unfolding header_at
header-other bytes len =
    then-other (require (nat_le 512 len) TooShort) _ (required-other (nat_le 512 len) TooShort tt) (λ a.
    then-other (require (number16 bytes 0x1FE == 0xAA55) NoBootFlag) _ (required-other (number16 bytes 0x1FE == 0xAA55) NoBootFlag tt) (λ b.
    then-other (require (nat_le (setup_of bytes) 64) (SetupTooLarge (setup_of bytes))) _ (required-other (nat_le (setup_of bytes) 64) (SetupTooLarge (setup_of bytes)) tt) (λ c.
    then-other (require (nat_le (real_size (setup_of bytes)) len) TooShort) (λ d. Ok (header_of bytes)) (required-other (nat_le (real_size (setup_of bytes)) len) TooShort tt) (λ d. tt))))

fit-other : (header : Header) (len : ℕ) (initrd : Option ℕ) (line : ℕ) → IsOther (fit_checks header len initrd line)
unfolding fit_checks
fit-other header len initrd line =
    then-other (require (header.high || nat_le (protected_size header len) 524288) (LowTooLarge (protected_size header len))) _ (required-other (header.high || nat_le (protected_size header len) 524288) (LowTooLarge (protected_size header len)) tt) (λ a.
    then-other (require (is_none initrd || is_some header.version) NoInitrd) _ (required-other (is_none initrd || is_some header.version) NoInitrd tt) (λ b.
    required-other (nat_le line header.line_limit) (LineTooLong line) tt))

region-room : (header : Header) (len memory : ℕ) (initrd : Option ℕ) → IsRoom (initrd_region header len memory initrd)
region-room header len memory None = tt
region-room header len memory (Some size) =
    let least = initrd_least header len in
    let end = initrd_end header memory in
    both-room (require (nat_le (least + size) end) (NoRoom (least + size) end)) (λ a. Ok (Some (record { address = page_below (end - size); size = size }))) (required-room (nat_le (least + size) end) (least + size) end) (λ a. tt)

-- the same of what comes after two
then-rooms : {A B C : Type 0} (check : Result A SetupFault) (next : A → Result B SetupFault) (last : B → Result C SetupFault) → IsOther check
    → ((value : A) → IsRoom (next value >>= last)) → IsOk check ↔ IsRoom ((check >>= next) >>= last)
then-rooms (Ok value) next last other room = (λ a. room value, λ a. refl)
then-rooms (Err TooShort) next last other room = (never, λ a. absurd a)
then-rooms (Err NoBootFlag) next last other room = (never, λ a. absurd a)
then-rooms (Err (SetupTooLarge setup)) next last other room = (never, λ a. absurd a)
then-rooms (Err (LowTooLarge size)) next last other room = (never, λ a. absurd a)
then-rooms (Err NoInitrd) next last other room = (never, λ a. absurd a)
then-rooms (Err (NoRoom need have)) next last other room = absurd other
then-rooms (Err (LineTooLong size)) next last other room = (never, λ a. absurd a)

plan-room : (header : Header) (len : ℕ) (initrd : Option ℕ) (line memory : ℕ) {C : Type 0} (last : Layout → C)
    → IsOk (fit_checks header len initrd line) ↔ IsRoom (plan_memory header len initrd line memory >>= λ layout. Ok (last layout))
unfolding plan_memory
plan-room header len initrd line memory last =
    then-rooms (fit_checks header len initrd line) _ (λ layout. Ok (last layout)) (fit-other header len initrd line) (λ a.
    both-room ((require (not header.high || nat_le (protected_end header len) memory) (NoRoom (protected_end header len) memory)) >>= _) (λ layout. Ok (last layout))
    (both-room (require (not header.high || nat_le (protected_end header len) memory) (NoRoom (protected_end header len) memory)) _ (required-room (not header.high || nat_le (protected_end header len) memory) (protected_end header len) memory) (λ b.
    both-room (initrd_region header len memory initrd) _ (region-room header len memory initrd) (λ region. tt)))
    (λ layout. tt))

place-room : (kernel : List ℕ) (initrd : Option (List ℕ)) (line : List ℕ) (video : Option ℕ) (memory : ℕ)
    → IsOk (kernel_fit kernel initrd line) ↔ IsRoom (place kernel initrd line video memory)
unfolding kernel_fit place
place-room kernel initrd line video memory = by (header_at (first_two kernel) (length kernel)) (header-other (first_two kernel) (length kernel))
  where
    by : (found : Result Header SetupFault) → IsOther found
        → IsOk (found >>= λ header. fit_checks header (length kernel) (option_map length initrd) (length line))
        ↔ IsRoom {A = Loading} (found >>= λ header. plan_memory header (length kernel) (option_map length initrd) (length line) memory >>= λ layout. Ok (record { layout = layout; written = written_by header layout kernel initrd line video }))
    by (Ok header) other = plan-room header (length kernel) (option_map length initrd) (length line) memory (λ layout. record { layout = layout; written = written_by header layout kernel initrd line video })
    by (Err TooShort) other = (never, λ a. absurd a)
    by (Err NoBootFlag) other = (never, λ a. absurd a)
    by (Err (SetupTooLarge setup)) other = (never, λ a. absurd a)
    by (Err (LowTooLarge size)) other = (never, λ a. absurd a)
    by (Err NoInitrd) other = (never, λ a. absurd a)
    by (Err (NoRoom need have)) other = absurd other
    by (Err (LineTooLong size)) other = (never, λ a. absurd a)

-- a boot's report of it is of the same kind
told-room : (placed : Result Loading SetupFault) → IsRoom placed ↔ IsLoadedOrTooLarge (ending_of placed)
told-room (Ok loading) = (λ a. a, λ a. a)
told-room (Err TooShort) = (λ a. a, λ a. a)
told-room (Err NoBootFlag) = (λ a. a, λ a. a)
told-room (Err (SetupTooLarge setup)) = (λ a. a, λ a. a)
told-room (Err (LowTooLarge size)) = (λ a. a, λ a. a)
told-room (Err NoInitrd) = (λ a. a, λ a. a)
told-room (Err (NoRoom need have)) = (λ a. a, λ a. a)
told-room (Err (LineTooLong size)) = (λ a. a, λ a. a)

pub fit_law : FitLaw
fit_law entry kernel initrd line video memory same_length same_size =
    let fits = place-room kernel initrd line video memory in
    let told = told-room (place kernel initrd line video memory) in
    subst (λ ending. IsOk (kernel_fit kernel initrd line) ↔ IsLoadedOrTooLarge ending)
    (sym (loaded_ending-place entry kernel initrd line video memory same_length same_size))
    (λ a. told.0 (fits.0 a), λ a. fits.1 (told.1 a))
